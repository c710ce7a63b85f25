-- From the working matrix to the matrix and its inverse: for z = x ++ y the start [m | 1] takes z to zero exactly where m takes x to y, and the end
-- [1 | n] exactly where n takes y to x. A column without a pivot is the sum of those before it, each times what stands above the missing pivot; none of these, which
-- have become the identity's, is such a sum. Assumes nothing.
use mathlib.Core.Path.{◌≡◌, sym, ap, ap₂, ◌∙◌, subst}
use mathlib.Core.Bool.{Bool, cond}
use mathlib.Core.List.{List, ◌++◌}
use mathlib.Core.Logic.{◌↔◌, ⊎_elim}
use Prim.Native.Nat.{ℕ, suc, ◌+◌, ◌*◌, ◌≤◌, ◌<◌}
use native.Mathlib.Nat.{zero-lt-suc}
use native.Mathlib.Omega.{arith}
use lib.Dec.{ltb}
use lib.ListN.{length, get_or, get_or-append}
use lib.Seq.{get_or-append-add}
use borrow.Author.Tests.{lt-ltb, le-ltb}
use Rattle.base.specs.Seq.{tabulate}
use Rattle.base.proofs.Cases.{lt-or}
use Rattle.base.proofs.Seq.{get_d_tabulate, get_or-tabulate-past}
use Rattle.field.specs.Field.{IsByte, Bytes, add, mul}
use Rattle.field.specs.FiniteSum.{sum}
use Rattle.field.proofs.Addition.{add-self, add-zero-left, add-zero-right, add-zero-eq, add-eq-zero}
use Rattle.field.proofs.FiniteSum.{sum-ext, sum-split}
use Rattle.matrix.specs.Matrix.{Vector, entry, apply, column, IsInverse, Dependent, FirstDependent}
use Rattle.matrix.specs.Product.{unit}
use Rattle.matrix.specs.Working.{grid, Loaded, Kills, Units, Reduced, StuckAt}
use Rattle.matrix.proofs.Identity.{unit-other, unit-sum, sum-plus-unit, unit-sum-before}
use Rattle.matrix.proofs.RowOperations.{against}
use Rattle.matrix.proofs.Laws.{Relation, relation, vector-tabulate, length-column, column-at, apply-given, apply-is, apply_at}

loaded-against : (s : ℕ) (m : List ℕ) (w : List (List ℕ)) → Loaded s m w → (z : ℕ → ℕ) (i : ℕ) → i < s → IsByte (z (s + i))
    → against s w i z ≡ add (sum s (λ k. mul (entry s m i k) (z k))) (z (s + i))
loaded-against s m w loaded z i hi byte =
    sum-split s s (λ k. mul (grid w i k) (z k))
    ∙ ap₂ add
    (sum-ext s (λ k. mul (grid w i k) (z k)) (λ k. mul (entry s m i k) (z k)) (λ k hk. ap (λ (x : ℕ). mul x (z k)) (loaded.left i k hi hk)))
    (sum-ext s (λ k. mul (grid w i (s + k)) (z (s + k))) (λ k. mul (unit i k) (z (s + k)))
    (λ k hk. ap (λ (x : ℕ). mul x (z (s + k))) (loaded.right i k hi hk))
    ∙ unit-sum s i (λ k. z (s + k)) hi byte)

units-against : (s : ℕ) (w : List (List ℕ)) → Units s s w → (z : ℕ → ℕ) (i : ℕ) → i < s → IsByte (z i)
    → against s w i z ≡ add (z i) (sum s (λ k. mul (grid w i (s + k)) (z (s + k))))
units-against s w units z i hi byte =
    sum-split s s (λ k. mul (grid w i k) (z k))
    ∙ ap (λ (x : ℕ). add x (sum s (λ k. mul (grid w i (s + k)) (z (s + k)))))
    (sum-ext s (λ k. mul (grid w i k) (z k)) (λ k. mul (unit i k) (z k)) (λ k hk. ap (λ (x : ℕ). mul x (z k)) (units i k hi hk))
    ∙ unit-sum s i z hi byte)

-- ---- the end of a whole elimination

module _ (s : ℕ) (m n : List ℕ) (start end : List (List ℕ)) (loaded : Loaded s m start) (reduced : Reduced s s start end)
    (written : (i k : ℕ) → i < s → k < s → entry s n i k ≡ grid end i (s + k)) where
  module _ (x y : List ℕ) (hx : Vector s x) (hy : Vector s y) where
    left : (k : ℕ) → k < s → get_or (x ++ y) k 0 ≡ get_or x k 0
    left k hk = get_or-append x y 0 k (omega (arith, hx.count))

    right : (k : ℕ) → get_or (x ++ y) (s + k) 0 ≡ get_or y k 0
    right k = ap (λ (n : ℕ). get_or (x ++ y) (n + k) 0) (sym hx.count) ∙ get_or-append-add x y k 0

    at-start : (i : ℕ) → i < s → against s start i (λ k. get_or (x ++ y) k 0) ≡ add (sum s (λ k. mul (entry s m i k) (get_or x k 0))) (get_or y i 0)
    at-start i hi =
        loaded-against s m start loaded (λ k. get_or (x ++ y) k 0) i hi (subst IsByte (sym (right i)) (hy.bytes i))
        ∙ ap₂ add
        (sum-ext s (λ k. mul (entry s m i k) (get_or (x ++ y) k 0)) (λ k. mul (entry s m i k) (get_or x k 0))
        (λ k hk. ap (mul (entry s m i k)) (left k hk)))
        (right i)

    at-end : (i : ℕ) → i < s → against s end i (λ k. get_or (x ++ y) k 0) ≡ add (get_or x i 0) (sum s (λ k. mul (entry s n i k) (get_or y k 0)))
    at-end i hi =
        units-against s end reduced.units (λ k. get_or (x ++ y) k 0) i hi (subst IsByte (sym (left i hi)) (hx.bytes i))
        ∙ ap₂ add (left i hi)
        (sum-ext s (λ k. mul (grid end i (s + k)) (get_or (x ++ y) (s + k) 0)) (λ k. mul (entry s n i k) (get_or y k 0))
        (λ k hk. ap₂ mul (sym (written i k hi hk)) (right k)))

    solved : apply s m x ≡ y ↔ x ≡ apply s n y
    solved = (
      λ e.
          let kills = (reduced.same (λ k. get_or (x ++ y) k 0)).0 (λ i hi. at-start i hi ∙ add-eq-zero _ _ (apply_at s m x y e i hi)) in
          sym (apply-is s n y x hx.count (λ i hi. sym (add-zero-eq _ _ (sym (at-end i hi) ∙ kills i hi)))),
      λ e.
          let kills = (reduced.same (λ k. get_or (x ++ y) k 0)).1 (λ i hi. at-end i hi ∙ add-eq-zero _ _ (sym (apply_at s n y x (sym e) i hi))) in
          apply-is s m x y hy.count (λ i hi. add-zero-eq _ _ (sym (at-start i hi) ∙ kills i hi)),
    )

  pub inverted : length n ≡ s * s → Bytes n → IsInverse s m n
  inverted en hn = record { count = en; bytes = hn; solves = solved }

-- ---- a column without a pivot

module _ (s j : ℕ) (m : List ℕ) (start end : List (List ℕ)) (loaded : Loaded s m start) (stuck : StuckAt s j start end) (hm : Bytes m)
    (bytes : (i k : ℕ) → IsByte (grid end i k)) where
  -- what stands above the missing pivot
  above : ℕ → ℕ
  above k = cond (ltb k j) (grid end k j) 0

  above_low : (k : ℕ) → k < j → above k ≡ grid end k j
  unfolding above
  above_low k h = ap (λ (b : Bool). cond b (grid end k j) 0) (lt-ltb k j h)

  above-high : (k : ℕ) → j ≤ k → above k ≡ 0
  unfolding above
  above-high k h = ap (λ (b : Bool). cond b (grid end k j) 0) (le-ltb k j h)

  above-byte : (k : ℕ) → IsByte (above k)
  above-byte k =
      ⊎_elim (λ h. subst IsByte (sym (above_low k h)) (bytes k j)) (λ h. subst IsByte (sym (above-high k h)) (zero-lt-suc 255)) (lt-or k j)

  above-row : (i : ℕ) → i < s → above i ≡ grid end i j
  above-row i hi = ⊎_elim (above_low i) (λ h. above-high i h ∙ sym (stuck.missing i hi h)) (lt-or i j)

  -- with 1 at the pivot's place, it is taken to zero
  kernel : ℕ → ℕ
  kernel k = add (above k) (unit k j)

  above-against : (i : ℕ) → i < s → against s end i above ≡ grid end i j
  above-against i hi =
      unit-sum-before (s + s) j i (grid end i) above (λ k low. stuck.reduced.units i k hi low) above-high (omega arith) (above-byte i)
      ∙ above-row i hi

  killed : Kills s start kernel
  unfolding kernel
  killed =
      (stuck.reduced.same kernel).1
      (λ i hi.
      sum-plus-unit (s + s) j (grid end i) above (omega (arith, stuck.within)) (bytes i j)
      ∙ ap (λ (x : ℕ). add x (grid end i j)) (above-against i hi)
      ∙ add-self (grid end i j))

  kernel-right : (i : ℕ) → kernel (s + i) ≡ 0
  unfolding kernel
  kernel-right i =
      ap₂ add (above-high (s + i) (omega (arith, stuck.within))) (unit-other (s + i) j (λ e. omega (arith, stuck.within))) ∙ add-zero-left 0

  kernel-row : (i : ℕ) → i < s → sum s (λ k. mul (entry s m i k) (kernel k)) ≡ 0
  kernel-row i hi =
      sym (add-zero-right _) ∙ ap (add (sum s (λ k. mul (entry s m i k) (kernel k)))) (sym (kernel-right i))
      ∙ sym (loaded-against s m start loaded kernel i hi (subst IsByte (sym (kernel-right i)) (zero-lt-suc 255)))
      ∙ killed i hi

  here : Dependent s m j
  unfolding entry kernel
  here =
      record {
        multiples = tabulate s above;
        sized = vector-tabulate s above above-byte;
        before = λ k high. ⊎_elim (λ hk. get_d_tabulate s above k hk ∙ above-high k high) (get_or-tabulate-past s above k) (lt-or k s);
        combined =
            apply-given s m above (column s m j) (length-column s m j)
            (λ i hi.
            add-zero-eq _ _ (sym (sum-plus-unit s j (entry s m i) above stuck.within (hm (i * s + j))) ∙ kernel-row i hi)
            ∙ sym (column-at s m j i hi));
      }

  -- multiples for an earlier column would make a vector that is taken to zero; but row i of the end takes it to its entry i, which is 1
  none_before : (i : ℕ) → i < j → Dependent s m i → ⊥
  none_before i low d =
      let hi : i < s = omega (arith, stuck.within) in
      let r = relation s m i hi d in
      let kept : against s end i r.vector ≡ r.vector i =
      unit-sum-before (s + s) j i (grid end i) r.vector (λ k low. stuck.reduced.units i k hi low) (λ k high. r.after k (omega arith)) (omega arith)
      (r.bytes i) in
      let none : against s end i r.vector ≡ 0 = (stuck.reduced.same r.vector).0 (start-kills r) i hi in
      omega (arith, r.own)
    where
      start-kills : (r : Relation s m i) → Kills s start r.vector
      start-kills r h hh =
          loaded-against s m start loaded r.vector h hh (r.bytes (s + h)) ∙ ap₂ add (r.taken h hh) (r.after (s + h) (omega (arith, stuck.within)))
          ∙ add-self 0

  pub dependent : (c : ℕ) → c ≡ suc j → FirstDependent s m c
  dependent c counted = record { place = j; counted = counted; within = stuck.within; here = here; none_before = none_before }
