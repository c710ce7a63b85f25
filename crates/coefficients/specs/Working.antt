-- What the private functions compute, over lists of points. No exported contract rests on these names. Assumes nothing.
use Rattle.std.specs.Prelude.{◌≡◌, List, ℕ, suc, ◌+◌, ◌*◌, ◌≤◌, ◌<◌, eqb, length, get_or}
use Rattle.std.proofs.Props.{props}
use Rattle.base.specs.Seq.{one, tabulate, cell, blocks}
use Rattle.field.specs.Field.{IsByte, Bytes, add, mul, pow}
use Rattle.field.specs.FiniteSum.{sum}
use Rattle.interpolation.specs.Polynomial.{Points}
use Rattle.interpolation.specs.Lagrange.{coefs, apart, basis_value}

-- c, c^2, .., c^m
unfoldable pub powers_of : ℕ → ℕ → List ℕ
powers_of c m = tabulate m (λ j. pow c (suc j))

-- points have one proof at most that they settle a polynomial
Points-prop : (at : List ℕ) → IsProp (Points at)
Points-prop at x y =
    let bytes_prop : IsProp (Bytes at) = hlevel props in
    let nonzero_prop : IsProp ((i : ℕ) → i < length at → get_or at i 0 ≡ 0 → ⊥) = hlevel props in
    let distinct_prop : IsProp ((i j : ℕ) → i < length at → j < length at → get_or at i 0 ≡ get_or at j 0 → i ≡ j) = hlevel props in
    λ i. record {
      bytes = bytes_prop x.bytes y.bytes i;
      nonzero = nonzero_prop x.nonzero y.nonzero i;
      distinct = distinct_prop x.distinct y.distinct i;
    }

-- ---- from values to coefficients

-- the coefficient at z^j of the product of all z - x, for the first d points x; none of them is 00, so that none is left out
abbrev pub product_at : List ℕ → ℕ → ℕ → ℕ
product_at points d j = get_or (coefs points 0 d) j 0

-- the coefficient at z^(j+1) of the basis polynomial of point i, which is 1 there and 0 at the other points
unfoldable pub basis : List ℕ → ℕ → ℕ → ℕ
basis points i j =
    mul (get_or (coefs points (get_or points i 0) (length points)) j 0) (pow (apart 0 points (get_or points i 0) (get_or points i 0)) 254)

-- new is old times z - x, as far as it goes
pub record Widened (x : ℕ) (old new : List ℕ) : Type 0 where
  pub first : get_or new 0 0 ≡ mul x (get_or old 0 0)
  pub next : (j : ℕ) → suc j < length old → get_or new (suc j) 0 ≡ add (get_or old j 0) (mul x (get_or old (suc j) 0))

-- p is the product of all z - x, for the first d points x, as far as it goes
abbrev pub Lowest : List ℕ → ℕ → List ℕ → Type 0
Lowest points d p = (j : ℕ) → j < length p → get_or p j 0 ≡ product_at points d j

-- p has the product's lowest coefficients for all points, at most 32, different and none of them 00: at least one coefficient, and no more than there are points
pub record Multiplied (points p : List ℕ) : Type 0 where
  pub some : 0 < length p
  pub few : length p ≤ length points
  pub most : length points ≤ 32
  pub tell : Points points
  pub lowest : Lowest points (length points) p

-- it has one proof at most
pub Multiplied-prop : (points p : List ℕ) → IsProp (Multiplied points p)
Multiplied-prop points p x y =
    let some_prop : IsProp (0 < length p) = hlevel props in
    let few_prop : IsProp (length p ≤ length points) = hlevel props in
    let most_prop : IsProp (length points ≤ 32) = hlevel props in
    let lowest_prop : IsProp (Lowest points (length points) p) = hlevel props in
    λ i. record {
      some = some_prop x.some y.some i;
      few = few_prop x.few y.few i;
      most = most_prop x.most y.most i;
      tell = Points-prop points x.tell y.tell i;
      lowest = lowest_prop x.lowest y.lowest i;
    }

-- the columns of rows are the count lowest coefficients of the basis polynomials of the first d points
abbrev pub BasisRows : ℕ → List ℕ → ℕ → List ℕ → Type 0
BasisRows count points d rows = (i j : ℕ) → i < d → j < count → cell (length points) rows j i ≡ basis points i j

-- column i has become the count lowest coefficients of the basis polynomial of point i, and the other columns are as they were
pub record BasisPut (count : ℕ) (points : List ℕ) (i : ℕ) (old new : List ℕ) : Type 0 where
  pub put : (j : ℕ) → j < count → cell (length points) new j i ≡ basis points i j
  pub kept : (j k : ℕ) → k < length points → (k ≡ i → ⊥) → cell (length points) new j k ≡ cell (length points) old j k

-- what this asks: at most 32 points, different and none of them 00, and room for count coefficients of each basis polynomial, at least one and no more than there are
-- points
pub record Columned (count : ℕ) (points rows : List ℕ) : Type 0 where
  pub some : 0 < count
  pub few : count ≤ length points
  pub most : length points ≤ 32
  pub tell : Points points
  pub room : length rows ≡ count * length points

-- ---- Lagrange's formula

-- what the remaining coefficients v of a polynomial, m of them behind e leading ones, give at c
abbrev pub remaining : ℕ → ℕ → (ℕ → ℕ) → ℕ → ℕ
remaining e m v c = sum m (λ j. mul (v j) (pow c (e + suc j)))

-- what it asks: at most 32 points, different and none of them 00, and at most 32 leading coefficients
pub record Weighable (e : ℕ) (at : List ℕ) : Type 0 where
  pub e_most : e ≤ 32
  pub most : length at ≤ 32
  pub tell : Points at

-- it has one proof at most
pub Weighable-prop : (e : ℕ) (at : List ℕ) → IsProp (Weighable e at)
Weighable-prop e at x y =
    let e_prop : IsProp (e ≤ 32) = hlevel props in
    let most_prop : IsProp (length at ≤ 32) = hlevel props in
    λ i. record {
      e_most = e_prop x.e_most y.e_most i;
      most = most_prop x.most y.most i;
      tell = Points-prop at x.tell y.tell i;
    }

-- for each of the first n points of `at` the exponent of the inverse of its barycentric weight
pub record Weighed (e : ℕ) (at : List ℕ) (n : ℕ) (weights : List ℕ) : Type 0 where
  pub room : length at ≤ length weights
  pub small : (o : ℕ) → o < n → get_or weights o 0 < 255
  pub power : (o : ℕ) → o < n → pow 2 (get_or weights o 0) ≡ apart e at (get_or at o 0) (get_or at o 0)

-- it has one proof at most
pub Weighed-prop : (e : ℕ) (at : List ℕ) (n : ℕ) (weights : List ℕ) → IsProp (Weighed e at n weights)
Weighed-prop e at n weights x y =
    let room_prop : IsProp (length at ≤ length weights) = hlevel props in
    let small_prop : IsProp ((o : ℕ) → o < n → get_or weights o 0 < 255) = hlevel props in
    let power_prop : IsProp ((o : ℕ) → o < n → pow 2 (get_or weights o 0) ≡ apart e at (get_or at o 0) (get_or at o 0)) = hlevel props in
    λ i. record {
      room = room_prop x.room y.room i;
      small = small_prop x.small y.small i;
      power = power_prop x.power y.power i;
    }

-- what the value at each point of `at` counts at the target: the Lagrange basis values there
unfoldable pub basis_values : ℕ → List ℕ → ℕ → List ℕ
basis_values e at target = tabulate (length at) (λ o. basis_value e at (get_or at o 0) target)

-- a row for each target
unfoldable pub basis_value_rows : ℕ → List ℕ → List ℕ → List ℕ
basis_value_rows e at targets = blocks (length at) (length targets) (λ t o. basis_value e at (get_or at o 0) (get_or targets t 0))

-- 01 for equal points, 00 for others
unfoldable pub same : ℕ → ℕ → ℕ
same x y = one (eqb x y)

-- the row that counts the value at the target itself, and no other
unfoldable pub unit_row : List ℕ → ℕ → List ℕ
unit_row at target = tabulate (length at) (λ o. same (get_or at o 0) target)

-- the rows take what they give at the points of `at` to what they give at the targets
pub record Carries (e : ℕ) (at targets gains : List ℕ) : Type 0 where
  pub takes : (v : ℕ → ℕ) → ((j : ℕ) → IsByte (v j)) → (t : ℕ) → t < length targets
      → remaining e (length at) v (get_or targets t 0)
      ≡ sum (length at) (λ o. mul (cell (length at) gains t o) (remaining e (length at) v (get_or at o 0)))

-- what such rows ask
pub record Carriable (at targets gains : List ℕ) : Type 0 where
  pub nonzero : (t : ℕ) → t < length targets → get_or targets t 0 ≡ 0 → ⊥
  pub room : length gains ≡ length targets * length at

-- each of the rows of e entries has its gains, times the powers 1, .., e of the points of `at`, added
pub record Shared (rows e : ℕ) (at gains old new : List ℕ) : Type 0 where
  pub entries : (t j : ℕ) → t < rows → j < e
      → cell e new t j ≡ add (cell e old t j) (sum (length at) (λ o. mul (cell (length at) gains t o) (pow (get_or at o 0) (suc j))))

-- old with g times the powers 1, 2, .. of x added
unfoldable pub with_powers : ℕ → ℕ → List ℕ → List ℕ
with_powers g x old = tabulate (length old) (λ j. add (get_or old j 0) (mul g (pow x (suc j))))

-- old with the gains of the first n points of `at`, times the powers 1, 2, .. of these, added
unfoldable pub with_share : ℕ → List ℕ → List ℕ → List ℕ → List ℕ
with_share n at gains old = tabulate (length old) (λ j. add (get_or old j 0) (sum n (λ o. mul (get_or gains o 0) (pow (get_or at o 0) (suc j)))))
