-- Laws of matrices of any side. A column of a matrix is what the matrix takes a column of the identity to; so an inverse, which is defined by
-- what it takes vectors to, is known by its entries. Assumes nothing.
use mathlib.Core.Path.{◌≡◌, refl, sym, ap, ap₂, ◌∙◌, subst}
use mathlib.Core.List.{List}
use mathlib.Core.Logic.{⊎_elim}
use Prim.Native.Nat.{ℕ, zero, suc, ◌+◌, ◌*◌, ◌/◌, ◌%◌, ◌≤◌, ◌<◌}
use native.Mathlib.Nat.{zero-lt-suc}
use native.Mathlib.Omega.{arith}
use lib.ListN.{length, get_or, replicate, length-replicate, get_or-eq_default}
use lib.Seq.{ext_get_or}
use Rattle.base.specs.Seq.{tabulate, cell, blocks}
use Rattle.base.proofs.Cases.{lt-or}
use Rattle.base.proofs.Seq.{length-tabulate, get_d_tabulate, zeros-at, length-blocks, cell-blocks, cells_ext}
use Rattle.field.specs.Field.{IsByte, Bytes, add, mul}
use Rattle.field.specs.FiniteSum.{sum}
use Rattle.field.proofs.Addition.{add-byte, add-eq-zero, add-zero-left}
use Rattle.field.proofs.Multiplication.{mul_assoc, mul-byte, mul-zero-right}
use Rattle.field.proofs.FiniteSum.{sum-byte, sum-ext, sum_zeros, mul-sum, sum-mul, sum-exchange}
use Rattle.matrix.specs.Matrix.{Vector, entry, apply, column, IsInverse, Singular, Dependent}
use Rattle.matrix.specs.Product.{unit, identity, product}
use Rattle.matrix.proofs.Identity.{unit-same, unit-other, unit-byte, unit-sum, sum-unit, sum-plus-unit, unit-sum-before}

-- ---- lists by their entries

-- all bytes, if the first s are
bytes_of : (s : ℕ) (v : List ℕ) → length v ≡ s → ((i : ℕ) → i < s → IsByte (get_or v i 0)) → Bytes v
bytes_of s v e h i =
    ⊎_elim (h i) (λ past. subst IsByte (sym (get_or-eq_default v 0 (subst (λ (n : ℕ). n ≤ i) (sym e) past))) (zero-lt-suc 255)) (lt-or i s)

pub vector-tabulate : (s : ℕ) (f : ℕ → ℕ) → ((i : ℕ) → IsByte (f i)) → Vector s (tabulate s f)
vector-tabulate s f hf =
    record {
      count = length-tabulate s f;
      bytes = bytes_of s (tabulate s f) (length-tabulate s f) (λ i hi. subst IsByte (sym (get_d_tabulate s f i hi)) (hf i));
    }

pub vector-ext : (s : ℕ) (v w : List ℕ) → length v ≡ s → length w ≡ s → ((i : ℕ) → i < s → get_or v i 0 ≡ get_or w i 0) → v ≡ w
vector-ext s v w ev ew h = ext_get_or 0 v w (ev ∙ sym ew) (λ i hi. h i (subst (λ (n : ℕ). i < n) ev hi))

-- matrices with equal entries are equal
pub entries-ext : (s : ℕ) (m n : List ℕ) → length m ≡ s * s → length n ≡ s * s
    → ((i j : ℕ) → i < s → j < s → entry s m i j ≡ entry s n i j) → m ≡ n
unfolding entry cell
entries-ext zero m n em en h = ext_get_or 0 m n (em ∙ sym en) (λ i hi. omega (arith, em))
entries-ext (suc s) m n em en h = cells_ext (suc s) (suc s) m n (zero-lt-suc s) em en h

-- ---- matrix times vector

pub length-apply : (s : ℕ) (m v : List ℕ) → length (apply s m v) ≡ s
unfolding apply
length-apply s m v = length-tabulate s _

pub apply-entry : (s : ℕ) (m v : List ℕ) (i : ℕ) → i < s → get_or (apply s m v) i 0 ≡ sum s (λ j. mul (entry s m i j) (get_or v j 0))
unfolding apply
apply-entry s m v i hi = get_d_tabulate s (λ i. sum s (λ j. mul (entry s m i j) (get_or v j 0))) i hi

pub apply-vector : (s : ℕ) (m v : List ℕ) → Vector s (apply s m v)
unfolding apply
apply-vector s m v = vector-tabulate s _ (λ i. sum-byte s _ (λ j hj. mul-byte (entry s m i j) (get_or v j 0)))

-- what a matrix takes a vector to, by entries
pub apply-is : (s : ℕ) (m v w : List ℕ) → length w ≡ s → ((i : ℕ) → i < s → sum s (λ j. mul (entry s m i j) (get_or v j 0)) ≡ get_or w i 0)
    → apply s m v ≡ w
apply-is s m v w e h = vector-ext s (apply s m v) w (length-apply s m v) e (λ i hi. apply-entry s m v i hi ∙ h i hi)

pub apply_at : (s : ℕ) (m v w : List ℕ) → apply s m v ≡ w → (i : ℕ) → i < s → sum s (λ j. mul (entry s m i j) (get_or v j 0)) ≡ get_or w i 0
apply_at s m v w e i hi = sym (apply-entry s m v i hi) ∙ ap (λ (l : List ℕ). get_or l i 0) e

-- of a vector given by its entries
pub apply-given : (s : ℕ) (m : List ℕ) (f : ℕ → ℕ) (v : List ℕ) → length v ≡ s
    → ((i : ℕ) → i < s → sum s (λ k. mul (entry s m i k) (f k)) ≡ get_or v i 0) → apply s m (tabulate s f) ≡ v
apply-given s m f v e h =
    apply-is s m (tabulate s f) v e
    (λ i hi.
    sum-ext s (λ k. mul (entry s m i k) (get_or (tabulate s f) k 0)) (λ k. mul (entry s m i k) (f k)) (λ k hk. ap (mul (entry s m i k)) (get_d_tabulate s f k hk))
    ∙ h i hi)

pub apply-zeros : (s : ℕ) (m : List ℕ) → apply s m (replicate s 0) ≡ replicate s 0
apply-zeros s m =
    apply-is s m (replicate s 0) (replicate s 0) (length-replicate {A = ℕ} s 0)
    (λ i hi. sum_zeros s _ (λ j hj. ap (mul (entry s m i j)) (zeros-at s j) ∙ mul-zero-right (entry s m i j)) ∙ sym (zeros-at s i))

-- ---- columns

pub length-column : (s : ℕ) (m : List ℕ) (j : ℕ) → length (column s m j) ≡ s
unfolding column
length-column s m j = length-tabulate s _

pub column-at : (s : ℕ) (m : List ℕ) (j i : ℕ) → i < s → get_or (column s m j) i 0 ≡ entry s m i j
unfolding column
column-at s m j i hi = get_d_tabulate s (λ i. entry s m i j) i hi

pub entry-byte : (s : ℕ) (m : List ℕ) (i j : ℕ) → Bytes m → IsByte (entry s m i j)
unfolding entry
entry-byte s m i j hm = hm (i * s + j)

pub column-vector : (s : ℕ) (m : List ℕ) (j : ℕ) → Bytes m → Vector s (column s m j)
unfolding column
column-vector s m j hm = vector-tabulate s _ (λ i. entry-byte s m i j hm)

-- ---- product and identity

pub length-product : (s : ℕ) (m n : List ℕ) → length (product s m n) ≡ s * s
unfolding product
length-product s m n = length-blocks s s _

pub product-entry : (s : ℕ) (m n : List ℕ) (i j : ℕ) → i < s → j < s
    → entry s (product s m n) i j ≡ sum s (λ k. mul (entry s m i k) (entry s n k j))
unfolding product cell entry
product-entry s m n i j hi hj = cell-blocks s s (λ i j. sum s (λ k. mul (entry s m i k) (entry s n k j))) i j hi hj

pub product-bytes : (s : ℕ) (m n : List ℕ) → Bytes (product s m n)
unfolding product blocks
product-bytes s m n = (vector-tabulate (s * s) _ (λ i. sum-byte s _ (λ k hk. mul-byte (entry s m (i / s) k) (entry s n k (i % s))))).bytes

-- the columns of a product are what the first matrix takes the second's to
pub apply-column : (s : ℕ) (m n : List ℕ) (j : ℕ) → j < s → apply s m (column s n j) ≡ column s (product s m n) j
apply-column s m n j hj =
    apply-is s m (column s n j) (column s (product s m n) j) (length-column s (product s m n) j)
    (λ i hi.
    sum-ext s (λ k. mul (entry s m i k) (get_or (column s n j) k 0)) (λ k. mul (entry s m i k) (entry s n k j))
    (λ k hk. ap (mul (entry s m i k)) (column-at s n j k hk))
    ∙ sym (column-at s (product s m n) j i hi ∙ product-entry s m n i j hi hj))

pub length-identity : (s : ℕ) → length (identity s) ≡ s * s
unfolding identity
length-identity s = length-blocks s s unit

pub identity-bytes : (s : ℕ) → Bytes (identity s)
unfolding identity blocks
identity-bytes s = (vector-tabulate (s * s) _ (λ i. unit-byte (i / s) (i % s))).bytes

pub identity-entry : (s i j : ℕ) → i < s → j < s → entry s (identity s) i j ≡ unit i j
unfolding identity cell entry
identity-entry s i j hi hj = cell-blocks s s unit i j hi hj

pub apply-product : (s : ℕ) (m n v : List ℕ) → apply s (product s m n) v ≡ apply s m (apply s n v)
apply-product s m n v =
    apply-is s (product s m n) v (apply s m (apply s n v)) (length-apply s m (apply s n v))
    (λ i hi.
    sum-ext s (λ j. mul (entry s (product s m n) i j) (get_or v j 0)) (λ j. sum s (λ k. mul (entry s m i k) (mul (entry s n k j) (get_or v j 0))))
    (λ j hj.
    ap (λ (x : ℕ). mul x (get_or v j 0)) (product-entry s m n i j hi hj)
    ∙ sum-mul s (get_or v j 0) (λ k. mul (entry s m i k) (entry s n k j))
    ∙ sum-ext s (λ k. mul (mul (entry s m i k) (entry s n k j)) (get_or v j 0)) (λ k. mul (entry s m i k) (mul (entry s n k j) (get_or v j 0)))
    (λ k hk. mul_assoc (entry s m i k) (entry s n k j) (get_or v j 0)))
    ∙ sum-exchange s s (λ j k. mul (entry s m i k) (mul (entry s n k j) (get_or v j 0)))
    ∙ sum-ext s (λ k. sum s (λ j. mul (entry s m i k) (mul (entry s n k j) (get_or v j 0)))) (λ k. mul (entry s m i k) (get_or (apply s n v) k 0))
    (λ k hk.
    sym (mul-sum s (entry s m i k) (λ j. mul (entry s n k j) (get_or v j 0)))
    ∙ ap (mul (entry s m i k)) (sym (apply-entry s n v k hk)))
    ∙ sym (apply-entry s m (apply s n v) i hi))

-- a matrix with the identity's entries takes every vector to itself
pub apply-units : (s : ℕ) (m v : List ℕ) → ((i j : ℕ) → i < s → j < s → entry s m i j ≡ unit i j) → Vector s v → apply s m v ≡ v
apply-units s m v units hv =
    apply-is s m v v hv.count
    (λ i hi.
    sum-ext s (λ j. mul (entry s m i j) (get_or v j 0)) (λ j. mul (unit i j) (get_or v j 0)) (λ j hj. ap (λ (x : ℕ). mul x (get_or v j 0)) (units i j hi hj))
    ∙ unit-sum s i (λ j. get_or v j 0) hi (hv.bytes i))

pub apply-identity : (s : ℕ) (v : List ℕ) → Vector s v → apply s (identity s) v ≡ v
apply-identity s v hv = apply-units s (identity s) v (identity-entry s) hv

-- column j of the identity
basis : ℕ → ℕ → List ℕ
basis s j = tabulate s (λ i. unit i j)

basis-at : (s j i : ℕ) → i < s → get_or (basis s j) i 0 ≡ unit i j
unfolding basis
basis-at s j i hi = get_d_tabulate s (λ i. unit i j) i hi

basis-vector : (s j : ℕ) → Vector s (basis s j)
unfolding basis
basis-vector s j = vector-tabulate s (λ i. unit i j) (λ i. unit-byte i j)

-- the matrix takes it to its own column j
apply-basis : (s : ℕ) (m : List ℕ) (j : ℕ) → j < s → Bytes (column s m j) → apply s m (basis s j) ≡ column s m j
unfolding basis
apply-basis s m j hj bytes =
    apply-given s m (λ i. unit i j) (column s m j) (length-column s m j)
    (λ i hi. sum-unit s j (entry s m i) hj (subst IsByte (column-at s m j i hi) (bytes i)) ∙ sym (column-at s m j i hi))

-- a product that takes each column of the identity to itself is the identity
product-identity : (s : ℕ) (m n : List ℕ) → Bytes n → ((j : ℕ) → j < s → apply s m (apply s n (basis s j)) ≡ basis s j)
    → product s m n ≡ identity s
product-identity s m n hn h =
    entries-ext s (product s m n) (identity s) (length-product s m n) (length-identity s)
    (λ i j hi hj.
    sym (column-at s (product s m n) j i hi)
    ∙ ap (λ (l : List ℕ). get_or l i 0)
    (sym (apply-column s m n j hj) ∙ ap (apply s m) (sym (apply-basis s n j hj (column-vector s n j hn).bytes)) ∙ h j hj)
    ∙ basis-at s j i hi ∙ sym (identity-entry s i j hi hj))

-- ---- the inverse

module _ (s : ℕ) (m n : List ℕ) (inv : IsInverse s m n) where
  -- m takes back what n takes a vector to, and the other way round
  pub takes_back : (y : List ℕ) → Vector s y → apply s m (apply s n y) ≡ y
  takes_back y hy = (inv.solves (apply s n y) y (apply-vector s n y) hy).1 refl

  pub taken_back : (x : List ℕ) → Vector s x → apply s n (apply s m x) ≡ x
  taken_back x hx = sym ((inv.solves x (apply s m x) hx (apply-vector s m x)).0 refl)

  pub product-right : product s m n ≡ identity s
  product-right = product-identity s m n inv.bytes (λ j hj. takes_back (basis s j) (basis-vector s j))

  pub product-left : Bytes m → product s n m ≡ identity s
  product-left hm = product-identity s n m hm (λ j hj. taken_back (basis s j) (basis-vector s j))

  pub not-singular : Singular s m → ⊥
  not-singular g =
      g.nonzero
      ((inv.solves g.vector (replicate s 0) g.sized zeros).0 g.taken ∙ apply-zeros s n)
    where
      zeros : Vector s (replicate s 0)
      zeros = subst (Vector s) (apply-zeros s n) (apply-vector s n (replicate s 0))

pub inverse-unique : (s : ℕ) (m n n' : List ℕ) → IsInverse s m n → IsInverse s m n' → n ≡ n'
inverse-unique s m n n' inv inv' =
    entries-ext s n n' inv.count inv'.count
    (λ i j hi hj.
    sym (column-at s n j i hi)
    ∙ ap (λ (l : List ℕ). get_or l i 0)
    (sym (apply-basis s n j hj (column-vector s n j inv.bytes).bytes)
    ∙ (inv'.solves (apply s n (basis s j)) (basis s j) (apply-vector s n (basis s j)) (basis-vector s j)).0 (takes_back s m n inv (basis s j) (basis-vector s j))
    ∙ apply-basis s n' j hj (column-vector s n' j inv'.bytes).bytes)
    ∙ column-at s n' j i hi)

-- what both products show
pub inverse-by-products : (s : ℕ) (m n : List ℕ) → length n ≡ s * s → Bytes n → product s m n ≡ identity s → product s n m ≡ identity s
    → IsInverse s m n
inverse-by-products s m n en hn right left =
    record {
      count = en;
      bytes = hn;
      solves =
          λ x y hx hy. (
            λ e.
                sym (apply-identity s x hx) ∙ ap (λ (l : List ℕ). apply s l x) (sym left) ∙ apply-product s n m x ∙ ap (apply s n) e,
            λ e.
                ap (apply s m) e ∙ sym (apply-product s m n y) ∙ ap (λ (l : List ℕ). apply s l y) right ∙ apply-identity s y hy,
          );
    }

-- ---- dependent columns

-- "a column of 00 counts", wherever it stands
pub zero-dependent : (s : ℕ) (m : List ℕ) (j : ℕ) → column s m j ≡ replicate s 0 → Dependent s m j
zero-dependent s m j e =
    record {
      multiples = replicate s 0;
      sized = record { count = length-replicate {A = ℕ} s 0; bytes = λ k. omega (arith, zeros-at s k) };
      before = λ k high. zeros-at s k;
      combined = apply-zeros s m ∙ sym e;
    }

-- column j's multiples, with 1 for the column itself: a vector that is taken to zero
pub record Relation (s : ℕ) (m : List ℕ) (j : ℕ) : Type 0 where
  pub vector : ℕ → ℕ
  pub bytes : (k : ℕ) → IsByte (vector k)
  pub own : vector j ≡ 1
  pub after : (k : ℕ) → j < k → vector k ≡ 0
  pub taken : (i : ℕ) → i < s → sum s (λ k. mul (entry s m i k) (vector k)) ≡ 0

pub relation : (s : ℕ) (m : List ℕ) (j : ℕ) → j < s → Dependent s m j → Relation s m j
relation s m j hj d =
    record {
      vector = λ k. add (get_or d.multiples k 0) (unit k j);
      bytes = λ k. add-byte (get_or d.multiples k 0) (unit k j) (d.sized.bytes k) (unit-byte k j);
      own = ap₂ add (d.before j (omega arith)) (unit-same j) ∙ add-zero-left 1;
      after = λ k above. ap₂ add (d.before k (omega arith)) (unit-other k j (λ e. omega arith)) ∙ add-zero-left 0;
      taken =
          λ i hi.
          sum-plus-unit s j (entry s m i) (λ k. get_or d.multiples k 0) hj (subst IsByte (row i hi) (sum-byte s _ (λ k hk. mul-byte _ _)))
          ∙ add-eq-zero _ _ (row i hi);
    }
  where
    row : (i : ℕ) → i < s → sum s (λ k. mul (entry s m i k) (get_or d.multiples k 0)) ≡ entry s m i j
    row i hi = apply_at s m d.multiples (column s m j) d.combined i hi ∙ column-at s m j i hi

pub dependent-singular : (s : ℕ) (m : List ℕ) (j : ℕ) → j < s → Dependent s m j → Singular s m
dependent-singular s m j hj d =
    let r = relation s m j hj d in
    record {
      vector = tabulate s r.vector;
      sized = vector-tabulate s r.vector r.bytes;
      nonzero =
          λ e.
          let none : r.vector j ≡ 0 = sym (get_d_tabulate s r.vector j hj) ∙ ap (λ (l : List ℕ). get_or l j 0) e ∙ zeros-at s j in
          omega (arith, r.own);
      taken = apply-given s m r.vector (replicate s 0) (length-replicate {A = ℕ} s 0) (λ i hi. r.taken i hi ∙ sym (zeros-at s i));
    }

-- a matrix whose first t columns are the identity's has no dependent one among them: row j takes such a vector to its entry j, which is 1
pub units-free : (s t : ℕ) (m : List ℕ) → t ≤ s → ((i k : ℕ) → i < s → k < t → entry s m i k ≡ unit i k)
    → (j : ℕ) → j < t → Dependent s m j → ⊥
units-free s t m ht units j hj d =
    let r = relation s m j (omega arith) d in
    let none : r.vector j ≡ 0 =
    sym (unit-sum-before s t j (entry s m j) r.vector (λ k low. units j k (omega arith) low) (λ k high. r.after k (omega arith)) (omega arith) (r.bytes j))
    ∙ r.taken j (omega arith) in
    omega (arith, r.own)

-- what takes a matrix's columns elsewhere takes their sums along
pub product-dependent : (s : ℕ) (e m : List ℕ) (j : ℕ) → j < s → Dependent s m j → Dependent s (product s e m) j
product-dependent s e m j hj d =
    record {
      multiples = d.multiples;
      sized = d.sized;
      before = d.before;
      combined = apply-product s e m d.multiples ∙ ap (apply s e) d.combined ∙ apply-column s e m j hj;
    }
