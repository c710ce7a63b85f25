-- Columns in groups: a sum over all columns is taken group by group. Assumes nothing.
use mathlib.Core.Path.{◌≡◌, sym, ap, ap₂, ◌∙◌, subst⁻¹}
use Prim.Native.Nat.{ℕ, zero, suc, ◌+◌, ◌-◌, ◌*◌, ◌≤◌, ◌<◌, min}
use native.Mathlib.Nat.{suc-mul, mul-le-mul_right}
use native.Mathlib.Omega.{arith}
use lib.Dec.{leb, leb→le}
use Rattle.base.proofs.Test.{below}
use Rattle.field.specs.Field.{add}
use Rattle.field.specs.FiniteSum.{sum}
use Rattle.field.proofs.FiniteSum.{sum-zero, sum-last, sum-split}
use Rattle.tiles.specs.Tiling.{Grouped, groups_of, size_of, columns}

pub columns-size : (size n g : ℕ) → columns size n g ≤ size
unfolding columns
columns-size size n g = omega arith

pub columns-most : {n groups size : ℕ} → Grouped n groups size → (g : ℕ) → columns size n g ≤ 5
unfolding columns
columns-most {n} {groups} {size} r g = omega (arith, r.few)

-- as the code finds how many columns a group has
pub columns-are : (size n g r : ℕ) → r ≡ min size (n - g * size) → r ≡ columns size n g
unfolding columns
columns-are size n g r e = e

-- a group begins where the columns before it end
next-group : (size n g : ℕ) → g * size ≤ n → min n (suc g * size) ≡ g * size + columns size n g
unfolding columns
next-group size n g h = omega (arith, suc-mul g size)

-- the sums of the first m groups together
grouped-first : (size n m : ℕ) (e f : ℕ → ℕ) → ((g : ℕ) → g < m → g * size ≤ n) → ((g : ℕ) → g < m → e g ≡ sum (columns size n g) (λ k. f (g * size + k)))
    → sum m e ≡ sum (min n (m * size)) f
grouped-first size n zero e f b h = sum-zero e ∙ sym (sum-zero f) ∙ ap (λ (k : ℕ). sum k f) (omega arith)
grouped-first size n (suc m) e f b h =
    sum-last m e
    ∙ ap₂ add (grouped-first size n m e f (λ g hg. b g (omega arith)) (λ g hg. h g (omega arith)) ∙ ap (λ (k : ℕ). sum k f) here) (h m (omega arith))
    ∙ sym (sum-split (m * size) (columns size n m) f) ∙ ap (λ (k : ℕ). sum k f) (sym (next-group size n m (b m (omega arith))))
  where
    here : min n (m * size) ≡ m * size
    here = omega (arith, b m (omega arith))

-- and of all
pub grouped : {n groups size : ℕ} → Grouped n groups size → (e f : ℕ → ℕ) → ((g : ℕ) → g < groups → e g ≡ sum (columns size n g) (λ k. f (g * size + k)))
    → sum groups e ≡ sum n f
grouped {n} {groups} {size} r e f h = grouped-first size n groups e f r.begins h ∙ ap (λ (k : ℕ). sum k f) (omega (arith, r.all))

-- at most 32 columns make such groups, at most seven
module _ (n : ℕ) (n32 : n ≤ 32) where
  pub few-groups : groups_of n ≤ 7
  few-groups = omega arith

  pub grouping : Grouped n (groups_of n) (size_of n)
  grouping =
      record {
        few = few;
        begins = λ g hg. omega (arith, mul-le-mul_right (size_of n) (last g hg), leb→le ((groups_of n - 1) * size_of n) n (below 33 (λ n. leb ((groups_of n - 1) * size_of n) n) tt n (omega arith)));
        all = leb→le n (groups_of n * size_of n) (below 33 (λ n. leb n (groups_of n * size_of n)) tt n (omega arith));
      }
    where
      few : size_of n ≤ 5
      few = leb→le (size_of n) 5 (below 33 (λ n. leb (size_of n) 5) tt n (omega arith))

      last : (g : ℕ) → g < groups_of n → g ≤ groups_of n - 1
      last g hg = omega arith

-- or one group, of all
pub one-group : (n : ℕ) → n ≤ 5 → Grouped n 1 n
one-group n h = record { few = h; begins = λ g hg. omega (arith, mul-le-mul_right n (first g hg)); all = omega arith }
  where
    first : (g : ℕ) → g < 1 → g ≤ 0
    first g hg = omega arith

-- at most 32 columns, in groups as the code counts them
pub all-grouped : (n groups size : ℕ) → n ≤ 32 → groups ≡ groups_of n → size ≡ size_of n → Grouped n groups size
all-grouped n groups size le e h = subst⁻¹ (λ (g : ℕ). Grouped n g size) e (subst⁻¹ (Grouped n (groups_of n)) h (grouping n le))

pub seven : (n groups : ℕ) → n ≤ 32 → groups ≡ groups_of n → groups ≤ 7
seven n groups le e = omega (arith, e, few-groups n le)
