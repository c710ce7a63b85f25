-- A loop that writes a list's entries one after the other: what the list holds after t of them. Assumes nothing.
use mathlib.Core.Path.{◌≡◌, refl, sym, ap, ◌∙◌}
use mathlib.Core.List.{List}
use mathlib.Core.Logic.{⊎_elim}
use Prim.Native.Nat.{ℕ, ◌+◌, ◌≤◌, ◌<◌}
use native.Mathlib.Omega.{arith}
use lib.ListN.{length, get_or, set, length-set}
use lib.Seq.{get_or-set_same, get_or-set_other}
use Rattle.base.specs.Seq.{tabulate}
use Rattle.base.specs.Parts.{Filled}
use Rattle.base.proofs.Cases.{eq-or}
use Rattle.base.proofs.Seq.{eq-tabulate}

pub filled_none : (f : ℕ → ℕ) (l : List ℕ) → Filled f 0 l l
filled_none f l = record { same = refl; done = λ q h. absurd (omega arith); rest = λ q h. refl }

pub filled_more : (f : ℕ → ℕ) (t : ℕ) (old new : List ℕ) (v : ℕ) → t < length new → v ≡ f t → Filled f t old new
    → Filled f (t + 1) old (set new t v)
filled_more f t old new v h e s =
    record {
      same = simp length-set s.same;
      done = λ q hq.
          ⊎_elim (λ (p : q ≡ t). ap (λ (k : ℕ). get_or (set new t v) k 0) p ∙ get_or-set_same new t v 0 h ∙ e ∙ ap f (sym p))
          (λ n. get_or-set_other new t q v 0 n ∙ s.done q (omega arith)) (eq-or q t);
      rest = λ q hq. get_or-set_other new t q v 0 (λ p. omega arith) ∙ s.rest q (omega arith);
    }

pub filled-all : (f : ℕ → ℕ) (t : ℕ) (old new : List ℕ) → length old ≤ t → Filled f t old new → new ≡ tabulate (length old) f
filled-all f t old new h s = eq-tabulate (length old) f new s.same (λ i hi. s.done i (omega arith))
