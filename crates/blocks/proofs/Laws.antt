-- Entries of sums and of bytes laid over others. Assumes nothing.
use mathlib.Core.Path.{◌≡◌, refl, sym, ◌∙◌}
use mathlib.Core.List.{List, [], ◌∷◌}
use Prim.Native.Nat.{ℕ, zero, suc, ◌≤◌, ◌<◌}
use native.Mathlib.Nat.{not-suc-le-zero, le_of_suc-le-suc}
use native.Mathlib.Omega.{arith}
use lib.ListN.{length, get_or, get_or-eq_default}
use Rattle.base.proofs.Seq.{length-tabulate, get_d_tabulate, eq-tabulate}
use Rattle.field.specs.Field.{add, plus}
use Rattle.blocks.specs.Bytes.{over}

pub plus-length : (xs ys : List ℕ) → length (plus xs ys) ≡ length xs
unfolding plus
plus-length xs ys = length-tabulate (length xs) _

pub plus-at : (xs ys : List ℕ) (p : ℕ) → p < length xs → get_or (plus xs ys) p 0 ≡ add (get_or xs p 0) (get_or ys p 0)
unfolding plus
plus-at xs ys p h = get_d_tabulate (length xs) _ p h

-- ---- ys laid over xs

-- a byte that a list has does not depend on what stands past its end
pub get_d_default : (xs : List ℕ) (p d e : ℕ) → p < length xs → get_or xs p d ≡ get_or xs p e
get_d_default [] p d e h = absurd (not-suc-le-zero h)
get_d_default (x ∷ xs) zero d e h = refl
get_d_default (x ∷ xs) (suc p) d e h = get_d_default xs p d e (le_of_suc-le-suc h)

pub over-length : (xs ys : List ℕ) → length (over xs ys) ≡ length xs
unfolding over
over-length xs ys = length-tabulate (length xs) _

pub over-at : (xs ys : List ℕ) (p : ℕ) → p < length xs → p < length ys → get_or (over xs ys) p 0 ≡ get_or ys p 0
unfolding over
over-at xs ys p h k = get_d_tabulate (length xs) _ p h ∙ get_d_default ys p _ 0 k

-- where ys has no byte, that of xs stays
pub over-past : (xs ys : List ℕ) (p : ℕ) → p < length xs → length ys ≤ p → get_or (over xs ys) p 0 ≡ get_or xs p 0
unfolding over
over-past xs ys p h k = get_d_tabulate (length xs) _ p h ∙ get_or-eq_default ys (get_or xs p 0) k

pub over-same : (xs ys : List ℕ) → length ys ≡ length xs → over xs ys ≡ ys
unfolding over
over-same xs ys e = sym (eq-tabulate (length xs) _ ys e (λ p h. get_d_default ys p 0 _ (omega arith)))
