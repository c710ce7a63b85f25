-- The share of the leading coefficients as the code adds it, power by power, point by point and row by row. Assumes nothing.
use mathlib.Core.Path.{◌≡◌, refl, sym, ap, ap₂, ◌∙◌}
use mathlib.Core.List.{List}
use Prim.Native.Nat.{ℕ, suc, ◌+◌, ◌<◌}
use native.Mathlib.Numerals.{add-one}
use native.Mathlib.Omega.{arith}
use lib.ListN.{length, get_or}
use Rattle.base.specs.Seq.{tabulate, cell}
use Rattle.base.proofs.Seq.{tabulate-ext, tabulate-get_or, eq-tabulate}
use Rattle.base.specs.Parts.{Blocked, part_of}
use Rattle.base.proofs.Parts.{part_of-at}
use Rattle.field.specs.Field.{add, mul, pow}
use Rattle.field.specs.FiniteSum.{sum}
use Rattle.field.proofs.Addition.{add_assoc, add-zero-right}
use Rattle.field.proofs.Multiplication.{mul_comm, mul_assoc, mul-zero-left}
use Rattle.field.proofs.Exponents.{pow-suc}
use Rattle.field.proofs.FiniteSum.{sum-zero, sum-ext, sum-last}
use Rattle.coefficients.specs.Working.{with_powers, with_share}
use Rattle.coefficients.proofs.Rows.{tabulated}

-- ---- the powers of one point

-- the exponent of g times the next power of x
pub power-on : (g x l n next j : ℕ) → pow 2 l ≡ x → pow 2 n ≡ mul g (pow x j) → pow 2 next ≡ mul (pow 2 n) (pow 2 l) → pow 2 next ≡ mul g (pow x (suc j))
power-on g x l n next j hl h k =
    k ∙ ap₂ mul h hl ∙ mul_assoc g (pow x j) x ∙ ap (mul g) (mul_comm (pow x j) x ∙ sym (pow-suc x j))

-- what is added is zeros
unchanged : (l : List ℕ) (f : ℕ → ℕ) → ((j : ℕ) → f j ≡ 0) → l ≡ tabulate (length l) (λ j. add (get_or l j 0) (f j))
unchanged l f none =
    sym (tabulate-get_or (length l) l refl)
    ∙ tabulate-ext (length l) _ _ (λ j hj. sym (ap (add (get_or l j 0)) (none j) ∙ add-zero-right (get_or l j 0)))

pub no-gain : (g x : ℕ) (l : List ℕ) → g ≡ 0 → l ≡ with_powers g x l
unfolding with_powers
no-gain g x l z = unchanged l _ (λ j. ap (λ (k : ℕ). mul k (pow x (suc j))) z ∙ mul-zero-left (pow x (suc j)))

-- ---- one point after the other

pub share-none : (at gains l : List ℕ) → l ≡ with_share 0 at gains l
unfolding with_share
share-none at gains l = unchanged l _ (λ j. sum-zero _)

pub share-more : (n : ℕ) (at gains old before new : List ℕ) → before ≡ with_share n at gains old → new ≡ with_powers (get_or gains n 0) (get_or at n 0) before
    → new ≡ with_share (n + 1) at gains old
unfolding with_powers with_share
share-more n at gains old before new hb h =
    let b = tabulated (length old) _ before hb in
    let w = tabulated (length before) _ new h in
    eq-tabulate (length old) _ new (w.0 ∙ b.0)
    (λ j hj.
    let f : ℕ → ℕ = λ o. mul (get_or gains o 0) (pow (get_or at o 0) (suc j)) in
    w.1 j (omega (arith, b.0))
    ∙ ap (λ (y : ℕ). add y (f n)) (b.1 j hj)
    ∙ add_assoc (get_or old j 0) (sum n f) (f n)
    ∙ ap (add (get_or old j 0)) (sym (sum-last n f) ∙ ap (λ (k : ℕ). sum k f) (sym (add-one n))))

-- ---- one row after the other

-- entry j of row t
abbrev pub entry : ℕ → List ℕ → List ℕ → List ℕ → ℕ → ℕ → ℕ
entry e at gains old t j =
    add (cell e old t j) (sum (length at) (λ o. mul (cell (length at) gains t o) (pow (get_or at o 0) (suc j))))

-- the row that was lent, its entries still the old ones
pub row-share : (rows e t : ℕ) (at gains old before new : List ℕ) → Blocked e rows (entry e at gains old) t old before → length (part_of e t before) ≡ e
    → new ≡ with_share (length at) at (part_of (length at) t gains) (part_of e t before)
    → (length new ≡ e) × ((j : ℕ) → j < e → get_or new j 0 ≡ entry e at gains old t j)
unfolding with_share
row-share rows e t at gains old before new done room h =
    let w = tabulated (length (part_of e t before)) _ new h in (
      w.0 ∙ room,
      λ j hj.
          w.1 j (omega arith)
          ∙ ap₂ add (part_of-at e t before j hj ∙ done.rest t j (omega arith) hj)
          (sum-ext (length at) _ _ (λ o ho. ap (λ (g : ℕ). mul g (pow (get_or at o 0) (suc j))) (part_of-at (length at) t gains o ho))),
    )
