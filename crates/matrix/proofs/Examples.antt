-- Both ends exist: the matrix 02 has the inverse 8E, and five have none, each with its first dependent column. Assumes nothing.
use mathlib.Core.Path.{◌≡◌, refl, sym, ap, ◌∙◌}
use mathlib.Core.List.{List, [], ◌∷◌}
use Prim.Native.Nat.{ℕ, zero, suc, ◌≤◌, ◌<◌}
use native.Mathlib.Nat.{not-suc-le-zero}
use native.Mathlib.Omega.{arith}
use lib.ListN.{length, get_or, replicate, length-replicate}
use Rattle.base.specs.Seq.{tabulate, blocks}
use Rattle.base.proofs.Seq.{zeros-at}
use Rattle.field.specs.Field.{IsByte, Bytes, mul}
use Rattle.field.specs.FiniteSum.{sum}
use Rattle.field.proofs.Multiplication.{mul-zero-right}
use Rattle.field.proofs.FiniteSum.{sum_zeros}
use Rattle.matrix.specs.Matrix.{entry, apply, column, IsInverse, Dependent, FirstDependent}
use Rattle.matrix.specs.Invert.{InvertPost}
use Rattle.matrix.specs.Product.{unit, identity, product}
use Rattle.matrix.specs.Inversion.{Inverted, Singular as SingularAt}
use Rattle.matrix.proofs.Laws.{inverse-by-products, apply_at, column-at, zero-dependent}
use Rattle.matrix.proofs.Answers.{answered-inverse, answered-singular}

-- a byte, and 00 behind it
byte-then-zeros : (a n : ℕ) → IsByte a → Bytes (a ∷ replicate n 0)
byte-then-zeros a n h zero = h
byte-then-zeros a n h (suc i) = omega (arith, zeros-at n i)

-- ---- an inverse

two-inverse : IsInverse 1 (2 ∷ []) (0x8e ∷ [])
unfolding product identity blocks tabulate sum entry mul unit
two-inverse = inverse-by-products 1 (2 ∷ []) (0x8e ∷ []) refl (byte-then-zeros 0x8e 0 (omega arith)) refl refl

pub two-answered : (a : ℕ) → InvertPost 1 (2 ∷ []) (a ∷ []) Inverted (0x8e ∷ [])
two-answered a =
    answered-inverse 1 (2 ∷ []) (a ∷ []) (record { low = omega arith; high = omega arith; matrix = refl; buffer = refl }) (0x8e ∷ []) two-inverse

-- ---- no inverse

-- column 1 is 00
first-is-zero : (s : ℕ) (m : List ℕ) → 1 ≤ s → column s m 0 ≡ replicate s 0 → FirstDependent s m 1
first-is-zero s m low e =
    record { place = 0; counted = refl; within = low; here = zero-dependent s m 0 e; none_before = λ j none. absurd (not-suc-le-zero none) }

-- column 1 is not 00 in row i: it is no sum of no columns
first-is-free : (s : ℕ) (m : List ℕ) (i j : ℕ) → i < s → (entry s m i 0 ≡ 0 → ⊥) → j < 1 → Dependent s m j → ⊥
first-is-free s m i j hi some low d =
    let same : j ≡ 0 = omega arith in
    some
    (ap (entry s m i) (sym same) ∙ sym (column-at s m j i hi) ∙ sym (apply_at s m d.multiples (column s m j) d.combined i hi)
    ∙ sum_zeros s _ (λ k hk. ap (mul (entry s m i k)) (d.before k (omega arith)) ∙ mul-zero-right (entry s m i k)))

-- column 2 is a times column 1, which is not 00 in row i
second-is-multiple : (n : ℕ) (m : List ℕ) (a i : ℕ) → 1 ≤ n → IsByte a → apply (suc n) m (a ∷ replicate n 0) ≡ column (suc n) m 1 → i < suc n
    → (entry (suc n) m i 0 ≡ 0 → ⊥) → FirstDependent (suc n) m 2
second-is-multiple n m a i low byte combined hi some =
    record {
      place = 1;
      counted = refl;
      within = omega arith;
      here =
          record {
            multiples = a ∷ replicate n 0;
            sized = record { count = ap suc (length-replicate {A = ℕ} n 0); bytes = byte-then-zeros a n byte };
            before = zeros-behind;
            combined = combined;
          };
      none_before = λ j. first-is-free (suc n) m i j hi some;
    }
  where
    zeros-behind : (k : ℕ) → 1 ≤ k → get_or (a ∷ replicate n 0) k 0 ≡ 0
    zeros-behind zero h = absurd (not-suc-le-zero h)
    zeros-behind (suc k) h = zeros-at n k

-- 00: column 1
pub zero-refused : (old : List ℕ) → length old ≡ 1 → InvertPost 1 (0 ∷ []) old (SingularAt 1) old
unfolding column tabulate entry
zero-refused old e =
    answered-singular _ _ old (record { low = omega arith; high = omega arith; matrix = refl; buffer = e }) _ (first-is-zero _ _ (omega arith) refl)

-- 00 01 / 00 01: column 1, which is 00
pub zero-column-refused : (old : List ℕ) → length old ≡ 4 → InvertPost 2 (0 ∷ 1 ∷ 0 ∷ 1 ∷ []) old (SingularAt 1) old
unfolding column tabulate entry
zero-column-refused old e =
    answered-singular _ _ old (record { low = omega arith; high = omega arith; matrix = refl; buffer = e }) _ (first-is-zero _ _ (omega arith) refl)

-- 01 01 / 01 01: column 2, since column 1 is a multiple of a later one only
pub equal-columns-refused : (old : List ℕ) → length old ≡ 4 → InvertPost 2 (1 ∷ 1 ∷ 1 ∷ 1 ∷ []) old (SingularAt 2) old
unfolding apply column tabulate sum entry mul
equal-columns-refused old e =
    answered-singular _ _ old (record { low = omega arith; high = omega arith; matrix = refl; buffer = e }) _
    (second-is-multiple 1 _ 1 0 (omega arith) (omega arith) refl (omega arith) (λ z. omega (arith, z)))

-- 01 00 00 / 00 00 01 / 00 00 01: column 2, which is 00
pub zero-second-refused : (old : List ℕ) → length old ≡ 9 → InvertPost 3 (1 ∷ 0 ∷ 0 ∷ 0 ∷ 0 ∷ 1 ∷ 0 ∷ 0 ∷ 1 ∷ []) old (SingularAt 2) old
unfolding apply column tabulate sum entry mul
zero-second-refused old e =
    answered-singular _ _ old (record { low = omega arith; high = omega arith; matrix = refl; buffer = e }) _
    (second-is-multiple 2 _ 0 0 (omega arith) (omega arith) refl (omega arith) (λ z. omega (arith, z)))

-- 01 00 01 / 00 00 00 / 00 00 00: column 2, though column 3 is a multiple of column 1 too, and column 1 of a later one
pub two-dependent-refused : (old : List ℕ) → length old ≡ 9 → InvertPost 3 (1 ∷ 0 ∷ 1 ∷ 0 ∷ 0 ∷ 0 ∷ 0 ∷ 0 ∷ 0 ∷ []) old (SingularAt 2) old
unfolding apply column tabulate sum entry mul
two-dependent-refused old e =
    answered-singular _ _ old (record { low = omega arith; high = omega arith; matrix = refl; buffer = e }) _
    (second-is-multiple 2 _ 0 0 (omega arith) (omega arith) refl (omega arith) (λ z. omega (arith, z)))
