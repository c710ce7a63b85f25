-- Completion rows: the gains take what the remaining coefficients give at some points to what they give at others, and what the leading ones give
-- there goes the same way and is counted twice, that is not at all. Assumes nothing.
use mathlib.Core.Path.{◌≡◌, sym, ap, ap₂, ◌∙◌}
use mathlib.Core.List.{List, ◌++◌}
use Prim.Native.Nat.{ℕ, suc, ◌*◌, ◌≤◌, ◌<◌}
use native.Mathlib.Nat.{le_refl}
use native.Mathlib.Omega.{arith}
use lib.ListN.{length, get_or, take}
use Rattle.base.specs.Seq.{cell}
use Rattle.base.proofs.Buffers.{buffer-front}
use Rattle.field.specs.Field.{add, mul, pow}
use Rattle.field.specs.FiniteSum.{sum}
use Rattle.field.proofs.Addition.{add_assoc, add-cancel}
use Rattle.field.proofs.Multiplication.{mul_comm, mul-add-left, mul-add-right}
use Rattle.field.proofs.FiniteSum.{sum-ext, sum-add}
use Rattle.interpolation.specs.Polynomial.{evaluate}
use Rattle.interpolation.proofs.Lagrange.{associate}
use Rattle.params.specs.Nodes.{in_order}
use Rattle.products.specs.Blocks.{Fits, Added}
use Rattle.products.proofs.Arriving.{ordered-added}
use Rattle.coefficients.specs.Coefficients.{power_rows, Extends}
use Rattle.coefficients.specs.Working.{remaining, Weighable, Carries, Shared}
use Rattle.coefficients.proofs.Laws.{length-power_rows, power_rows-at, product-fits, first-length, first-at, first-inside, product-first}

-- ---- the share of the leading coefficients

-- by one product; the powers stand at the front of a buffer
pub shared : (rows e : ℕ) (at gains powers rest order columns old new : List ℕ) → Weighable e at → rows ≤ 32 → length gains ≡ rows * length at → length old ≡ rows * e → powers ≡ power_rows e at → order ≡ in_order
    → columns ≡ in_order → Added e (length at) (take (length at * e) (powers ++ rest)) (take rows order) (take (length at) columns) gains old new
    → Shared rows e at gains old new
shared rows e at gains powers rest order columns old new formula few gains_room room told ho hc made =
    record {
      entries = λ t j ht hj.
          ordered-added (take rows order) (λ i hi. first-at order ho rows few i (omega (arith, targets))) e m front (take m columns) gains old new
          (fits (omega arith)) made t j (omega (arith, targets)) hj
          ∙ ap (add (cell e old t j))
          (product-first columns hc m formula.most e m front gains t j
          ∙ sum-ext m _ _
          (λ o ho'.
          ap (mul (cell m gains t o))
          (ap (λ (l : List ℕ). cell e l o j) hp ∙ power_rows-at e at o j ho' hj)));
    }
  where
    m : ℕ
    m = length at

    front : List ℕ
    front = take (m * e) (powers ++ rest)

    hp : front ≡ power_rows e at
    hp = buffer-front (m * e) powers rest (ap length told ∙ length-power_rows e at) ∙ told

    targets : length (take rows order) ≡ rows
    targets = first-length order ho rows few

    fits : 0 < e → Fits e m (take rows order) (take m columns) (length front) (length gains) (length old)
    fits some =
        product-fits e m (length front) (length gains) (length old) (take rows order) (take m columns) some
        (first-inside order ho rows few e rows (length old) (le_refl rows) (omega (arith, room)))
        (omega (arith, first-length columns hc m formula.most)) (omega (arith, gains_room, ap (λ (n : ℕ). n * m) targets))
        (first-inside columns hc m formula.most e m (length front) (le_refl m) (omega (arith, ap length hp ∙ length-power_rows e at)))

-- ---- together

-- what the leading coefficients give at c
abbrev leads : ℕ → (ℕ → ℕ) → ℕ → ℕ
leads e x c = sum e (λ j. mul (x j) (pow c (suc j)))

-- .. is what the row of powers takes them to
leading-row : (e : ℕ) (points : List ℕ) (x : ℕ → ℕ) (t : ℕ) → t < length points
    → sum e (λ j. mul (cell e (power_rows e points) t j) (x j)) ≡ leads e x (get_or points t 0)
leading-row e points x t ht =
    sum-ext e _ _
    (λ j hj.
    ap (λ (q : ℕ). mul q (x j)) (power_rows-at e points t j ht hj) ∙ mul_comm _ (x j))

-- L for what the leading coefficients give at the target, G for what they give at the points and R for the rest: (L + G) + (G + R) = L + R
pub completed : (e : ℕ) (at targets old leading gains : List ℕ) → old ≡ power_rows e targets → Carries e at targets gains
    → Shared (length targets) e at gains old leading → Extends e at targets leading gains
unfolding evaluate
completed e at targets old leading gains hl carry share =
    record {
      takes = λ x v hx hv t ht.
          let m = length at in
          let g : ℕ → ℕ = cell m gains t in
          let L = leads e x (get_or targets t 0) in
          let G = sum m (λ o. mul (g o) (leads e x (get_or at o 0))) in
          let R = remaining e m v (get_or targets t 0) in
          let first : sum e (λ j. mul (cell e leading t j) (x j)) ≡ add L G =
          sum-ext e _ _
          (λ j hj.
          ap (λ (q : ℕ). mul q (x j)) (share.entries t j ht hj ∙ ap (λ (l : List ℕ). add (cell e l t j) (sum m (λ o. mul (g o) (pow (get_or at o 0) (suc j))))) hl)
          ∙ mul-add-left (cell e (power_rows e targets) t j) _ (x j))
          ∙ sum-add e _ _
          ∙ ap₂ add (leading-row e targets x t ht)
          (associate e m g (λ o j. pow (get_or at o 0) (suc j)) x
          ∙ sum-ext m _ _ (λ o ho. ap (mul (g o)) (sum-ext e _ _ (λ j hj. mul_comm _ (x j))))) in
          let second : sum m (λ o. mul (g o) (add (leads e x (get_or at o 0)) (remaining e m v (get_or at o 0)))) ≡ add G R =
          sum-ext m _ _ (λ o ho. mul-add-right (g o) _ _) ∙ sum-add m _ _ ∙ ap (add G) (sym (carry.takes v hv t ht)) in
          sym (ap₂ add first second ∙ sym (add_assoc (add L G) G R) ∙ ap (λ (q : ℕ). add q R) (add-cancel L G));
    }
