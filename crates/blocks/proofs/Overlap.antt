-- The bytes that two blocks share are written: the bytes behind them are right as they were. Assumes nothing.
use mathlib.Core.Path.{◌≡◌, sym, ap, ◌∙◌}
use mathlib.Core.List.{List, ◌++◌}
use mathlib.Core.Logic.{⊎_elim}
use Prim.Native.Nat.{ℕ, ◌+◌, ◌-◌, ◌≤◌, ◌<◌}
use native.Mathlib.Omega.{arith}
use lib.ListN.{length, take, drop, get_or, length-append, length-drop, get_or-append, get_or-eq_default}
use lib.Seq.{length-take-le, get_or-take, get_or-drop, get_or-append_right}
use Rattle.base.specs.Seq.{tabulate}
use Rattle.base.proofs.Cases.{lt-or}
use Rattle.base.specs.Parts.{Filled}
use Rattle.base.proofs.Seq.{eq-tabulate}
use Rattle.field.specs.Field.{add, plus}
use Rattle.field.proofs.Addition.{add-zero-right}
use Rattle.blocks.specs.Bytes.{over}

filled-front : (f : ℕ → ℕ) (t : ℕ) (old new : List ℕ) → ((q : ℕ) → t ≤ q → q < length old → get_or old q 0 ≡ f q) → Filled f t old new
    → new ≡ tabulate (length old) f
filled-front f t old new h s =
    eq-tabulate (length old) f new s.same
    (λ q hq. ⊎_elim (λ (lt : q < t). s.done q lt) (λ (le : t ≤ q). s.rest q le ∙ h q le hq) (lt-or q t))

module _ (xs ys new : List ℕ) (t : ℕ) (ends : t < length xs → length ys ≤ t) where
  past : (q : ℕ) → t ≤ q → q < length xs → length ys ≤ q
  past q le lt = omega (arith, ends (omega arith))

  pub filled-plus : Filled (λ q. add (get_or xs q 0) (get_or ys q 0)) t xs new → new ≡ plus xs ys
  unfolding plus
  filled-plus s =
      filled-front _ t xs new
      (λ q le lt. sym (ap (add (get_or xs q 0)) (get_or-eq_default ys 0 (past q le lt)) ∙ add-zero-right (get_or xs q 0))) s

  pub filled-over : Filled (λ q. get_or ys q (get_or xs q 0)) t xs new → new ≡ over xs ys
  unfolding over
  filled-over s = filled-front _ t xs new (λ q le lt. sym (get_or-eq_default ys (get_or xs q 0) (past q le lt))) s

-- the first n bytes lent and come back as `front`
lent-front : (f : ℕ → ℕ) (n : ℕ) (xs front : List ℕ) → n ≤ length xs → length front ≡ n → ((q : ℕ) → q < n → get_or front q 0 ≡ f q)
    → Filled f n xs (front ++ drop n xs)
lent-front f n xs front fits e done =
    record {
      same = omega (arith, length-append front (drop n xs), length-drop n xs, fits, e);
      done = λ q h. get_or-append front (drop n xs) 0 q (omega (arith, e)) ∙ done q h;
      rest = λ q h.
          get_or-append_right front (drop n xs) q 0 (omega (arith, e)) ∙ get_or-drop n xs (q - length front) 0
          ∙ ap (λ (k : ℕ). get_or xs k 0) (place q h);
    }
  where
    place : (q : ℕ) → n ≤ q → n + (q - length front) ≡ q
    place q h = omega (arith, e)

module _ (xs ys : List ℕ) (n : ℕ) (fits : n ≤ length xs) (t : ℕ) (front : List ℕ) (done : n ≤ t) where
  -- what is written at q may go by the byte that stood there
  by-front : (f : ℕ → ℕ → ℕ) → Filled (λ q. f q (get_or (take n xs) q 0)) t (take n xs) front
      → Filled (λ q. f q (get_or xs q 0)) n xs (front ++ drop n xs)
  by-front f s =
      lent-front _ n xs front fits (s.same ∙ length-take-le n xs fits)
      (λ q h. s.done q (omega arith) ∙ ap (f q) (get_or-take n xs q 0 h))

  pub added-front : Filled (λ q. add (get_or (take n xs) q 0) (get_or ys q 0)) t (take n xs) front
      → Filled (λ q. add (get_or xs q 0) (get_or ys q 0)) n xs (front ++ drop n xs)
  added-front = by-front (λ q x. add x (get_or ys q 0))

  pub copied-front : Filled (λ q. get_or ys q (get_or (take n xs) q 0)) t (take n xs) front
      → Filled (λ q. get_or ys q (get_or xs q 0)) n xs (front ++ drop n xs)
  copied-front = by-front (λ q x. get_or ys q x)
