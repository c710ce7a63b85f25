-- Lagrange's formula: z^(e+1) times the product of all z - d, for every point d but x, has as many coefficients as there are points and vanishes at all
-- the points but x. So the sum of these, each brought to the polynomial's value at its own point, is the polynomial itself. The
-- product over all points is z - x times that over all but x, coefficient by coefficient. Assumes nothing.
use mathlib.Core.Path.{◌≡◌, refl, sym, ap, ap₂, ◌∙◌}
use mathlib.Core.Bool.{Bool, true, false}
use mathlib.Core.List.{List}
use mathlib.Core.Logic.{⊎_elim}
use Prim.Native.Nat.{ℕ, zero, suc, ◌+◌, ◌≤◌, ◌<◌}
use native.Mathlib.Nat.{not-suc-le-zero}
use native.Mathlib.Omega.{arith}
use borrow.Author.Tests.{eq-eqb, ne_eqb}
use lib.Dec.{eqb}
use lib.ListN.{length, get_or}
use Rattle.base.proofs.Cases.{eq-or}
use Rattle.field.specs.Field.{IsByte, Bytes, add, mul, pow}
use Rattle.field.specs.FiniteSum.{sum}
use Rattle.field.proofs.Addition.{add-byte, add-exchange, add-self, add-zero-left, add-zero-right, add-zero-eq, add-eq-zero}
use Rattle.field.proofs.Multiplication.{mul-byte, mul_comm, mul_assoc, mul-add-left, mul-add-right, mul-zero-left, mul-zero-right, mul-one-right}
use Rattle.field.proofs.Exponents.{pow-byte, pow-nonzero, mul-nonzero, inverse-power}
use Rattle.field.proofs.FiniteSum.{sum-ext, sum-byte, sum_zeros, sum-add, mul-sum, sum-mul, sum-exchange, sum_one}
use Rattle.interpolation.specs.Polynomial.{Points}
use Rattle.interpolation.specs.Lagrange.{value, times, product, unless, factor, widen, coefs, apart, basis_value}
use Rattle.interpolation.proofs.Horner.{value-byte, sum-value, length-times, times-bytes, value-times, times-first, times-next}
use Rattle.interpolation.proofs.Uniqueness.{kernel}

-- ---- finite products

product-byte : (n : ℕ) (f : ℕ → ℕ) → IsByte (product n f)
unfolding product
product-byte zero f = omega arith
product-byte (suc n) f = mul-byte (product n f) (f n)

pub product-ext : (n : ℕ) (f g : ℕ → ℕ) → ((i : ℕ) → i < n → f i ≡ g i) → product n f ≡ product n g
unfolding product
product-ext zero f g h = refl
product-ext (suc n) f g h = ap₂ mul (product-ext n f g (λ i hi. h i (omega arith))) (h n (omega arith))

-- a factor 00
product-zero : (n k : ℕ) (f : ℕ → ℕ) → k < n → f k ≡ 0 → product n f ≡ 0
unfolding product
product-zero zero k f h z = absurd (not-suc-le-zero h)
product-zero (suc n) k f h z =
    ⊎_elim (λ (e : n ≡ k). ap (mul (product n f)) (ap f e ∙ z) ∙ mul-zero-right (product n f))
    (λ ne. ap (λ (a : ℕ). mul a (f n)) (product-zero n k f (omega (arith, ne)) z) ∙ mul-zero-left (f n)) (eq-or n k)

product-nonzero : (n : ℕ) (f : ℕ → ℕ) → ((i : ℕ) → i < n → IsByte (f i)) → ((i : ℕ) → i < n → f i ≡ 0 → ⊥) → product n f ≡ 0 → ⊥
unfolding product
product-nonzero zero f hf n0 e = omega arith
product-nonzero (suc n) f hf n0 e =
    mul-nonzero (product n f) (f n) (product-byte n f) (hf n (omega arith))
    (product-nonzero n f (λ i hi. hf i (omega arith)) (λ i hi. n0 i (omega arith))) (n0 n (omega arith)) e

-- factor k taken out: g has 01 in its place
product-apart : (n k : ℕ) (f g : ℕ → ℕ) → k < n → g k ≡ 1 → ((i : ℕ) → i < n → (i ≡ k → ⊥) → f i ≡ g i)
    → product n f ≡ mul (product n g) (f k)
unfolding product
product-apart zero k f g h one same = absurd (not-suc-le-zero h)
product-apart (suc n) k f g h one same =
    ⊎_elim
    (λ (e : n ≡ k).
    ap₂ mul
    (product-ext n f g (λ i hi. same i (omega arith) (λ q. omega arith)) ∙ sym (mul-one-right _ (product-byte n g))
    ∙ ap (mul (product n g)) (sym (ap g e ∙ one))) (ap f e))
    (λ ne.
    ap₂ mul (product-apart n k f g (omega (arith, ne)) one (λ i hi. same i (omega arith))) (same n (omega arith) ne)
    ∙ mul_assoc (product n g) (f k) (g n) ∙ ap (mul (product n g)) (mul_comm (f k) (g n)) ∙ sym (mul_assoc (product n g) (g n) (f k)))
    (eq-or n k)

-- ---- the product of all z - d, for the points d but one

pub factor-same : (x z d : ℕ) → d ≡ x → factor x z d ≡ 1
unfolding factor unless
factor-same x z d e = ap (λ (b : Bool). unless b (add z d)) (eq-eqb d x e)

pub factor-other : (x z d : ℕ) → (d ≡ x → ⊥) → factor x z d ≡ add z d
unfolding factor unless
factor-other x z d n = ap (λ (b : Bool). unless b (add z d)) (ne_eqb d x n)

pub apart-byte : (e : ℕ) (ps : List ℕ) (x z : ℕ) → IsByte (apart e ps x z)
unfolding apart
apart-byte e ps x z = mul-byte _ _

-- at another point it is 00 ..
pub apart-elsewhere : (e : ℕ) (ps : List ℕ) (x i : ℕ) → i < length ps → (get_or ps i 0 ≡ x → ⊥) → apart e ps x (get_or ps i 0) ≡ 0
unfolding apart
apart-elsewhere e ps x i hi ne =
    ap (mul (pow (get_or ps i 0) (suc e)))
    (product-zero (length ps) i _ hi (factor-other x (get_or ps i 0) (get_or ps i 0) ne ∙ add-self (get_or ps i 0)))
    ∙ mul-zero-right _

-- .. and at x itself it is not
module _ (x d : ℕ) (hx : IsByte x) (hd : IsByte d) where
  factor-byte : IsByte (factor x x d)
  factor-byte =
      ⊎_elim (λ (q : d ≡ x). omega (arith, factor-same x x d q)) (λ n. omega (arith, factor-other x x d n, add-byte x d hx hd)) (eq-or d x)

  factor-nonzero : factor x x d ≡ 0 → ⊥
  factor-nonzero z =
      ⊎_elim (λ (q : d ≡ x). omega (arith, factor-same x x d q)) (λ n. n (sym (add-zero-eq x d (sym (factor-other x x d n) ∙ z)))) (eq-or d x)

pub apart-nonzero : (e : ℕ) (ps : List ℕ) (x : ℕ) → Bytes ps → IsByte x → (x ≡ 0 → ⊥) → apart e ps x x ≡ 0 → ⊥
unfolding apart
apart-nonzero e ps x hp hx n =
    mul-nonzero _ _ (pow-byte x (suc e)) (product-byte (length ps) _) (pow-nonzero x (suc e) hx n)
    (product-nonzero (length ps) _ (λ i hi. factor-byte x (get_or ps i 0) hx (hp i)) (λ i hi. factor-nonzero x (get_or ps i 0) hx (hp i)))

-- at a z that is no point it is the product of all z - d, less its own factor
pub apart-whole : (e : ℕ) (ps : List ℕ) (z k : ℕ) → Points ps → k < length ps → ((i : ℕ) → i < length ps → get_or ps i 0 ≡ z → ⊥)
    → apart e ps z z ≡ mul (apart e ps (get_or ps k 0) z) (add z (get_or ps k 0))
unfolding apart
apart-whole e ps z k h hk out =
    ap (mul (pow z (suc e)))
    (product-apart (length ps) k _ (λ j. factor (get_or ps k 0) z (get_or ps j 0)) hk (factor-same (get_or ps k 0) z (get_or ps k 0) refl)
    (λ i hi ne.
    factor-other z z (get_or ps i 0) (out i hi) ∙ sym (factor-other (get_or ps k 0) z (get_or ps i 0) (λ q. ne (h.distinct i k hi hk q))))
    ∙ ap (mul (product (length ps) (λ j. factor (get_or ps k 0) z (get_or ps j 0)))) (factor-other z z (get_or ps k 0) (out k hk)))
    ∙ sym (mul_assoc _ _ _)

-- ---- its coefficients

widen-bytes : (b : Bool) (d : ℕ) (q : List ℕ) → Bytes q → Bytes (widen b d q)
unfolding widen
widen-bytes true d q h = h
widen-bytes false d q h = times-bytes d 0 q (omega arith) h

coefs-bytes : (ps : List ℕ) (x n : ℕ) → Bytes (coefs ps x n)
unfolding coefs
coefs-bytes ps x zero zero = omega arith
coefs-bytes ps x zero (suc i) = omega arith
coefs-bytes ps x (suc n) i = widen-bytes (eqb (get_or ps n 0) x) (get_or ps n 0) (coefs ps x n) (coefs-bytes ps x n) i

widen-value : (b : Bool) (d : ℕ) (q : List ℕ) (z : ℕ) → Bytes q → value (widen b d q) z ≡ mul (value q z) (unless b (add z d))
unfolding widen unless
widen-value true d q z h = sym (mul-one-right (value q z) (value-byte q z h))
widen-value false d q z h = value-times d 0 q z ∙ add-zero-left _ ∙ mul_comm (add z d) (value q z)

coefs-value : (ps : List ℕ) (x n z : ℕ) → value (coefs ps x n) z ≡ product n (λ j. factor x z (get_or ps j 0))
unfolding coefs product factor value
coefs-value ps x zero z = ap (add 1) (mul-zero-right z) ∙ add-zero-right 1
coefs-value ps x (suc n) z =
    widen-value (eqb (get_or ps n 0) x) (get_or ps n 0) (coefs ps x n) z (coefs-bytes ps x n)
    ∙ ap (λ (a : ℕ). mul a (unless (eqb (get_or ps n 0) x) (add z (get_or ps n 0)))) (coefs-value ps x n z)

module _ (ps : List ℕ) (x : ℕ) where
  one_more : (n : ℕ) → (get_or ps n 0 ≡ x → ⊥) → length (coefs ps x (suc n)) ≡ suc (length (coefs ps x n))
  unfolding coefs widen
  one_more n ne =
      ap (λ (b : Bool). length (widen b (get_or ps n 0) (coefs ps x n))) (ne_eqb (get_or ps n 0) x ne) ∙ length-times (get_or ps n 0) 0 (coefs ps x n)

  left_out : (n : ℕ) → get_or ps n 0 ≡ x → length (coefs ps x (suc n)) ≡ length (coefs ps x n)
  unfolding coefs widen
  left_out n e = ap (λ (b : Bool). length (widen b (get_or ps n 0) (coefs ps x n))) (eq-eqb (get_or ps n 0) x e)

  -- one more than factors, as long as none is left out ..
  coefs-before : (n : ℕ) → ((i : ℕ) → i < n → get_or ps i 0 ≡ x → ⊥) → length (coefs ps x n) ≡ suc n
  unfolding coefs
  coefs-before zero out = refl
  coefs-before (suc n) out = one_more n (out n (omega arith)) ∙ ap suc (coefs-before n (λ i hi. out i (omega arith)))

  -- .. and as many once one is
  coefs-count : (n k : ℕ) → k < n → get_or ps k 0 ≡ x → ((i : ℕ) → i < n → get_or ps i 0 ≡ x → i ≡ k) → length (coefs ps x n) ≡ n
  coefs-count zero k hk e only = absurd (not-suc-le-zero hk)
  coefs-count (suc n) k hk e only =
      ⊎_elim
      (λ (q : n ≡ k).
      left_out n (ap (λ (j : ℕ). get_or ps j 0) q ∙ e) ∙ coefs-before n (λ i hi p. let r : i ≡ k = only i (omega arith) p in omega arith))
      (λ ne.
      one_more n (λ p. ne (only n (omega arith) p)) ∙ ap suc (coefs-count n k (omega (arith, ne)) e (λ i hi. only i (omega arith))))
      (eq-or n k)

-- as a sum over the coefficients, with exponents from e + 1 on
apart-sum : (e : ℕ) (ps : List ℕ) → Points ps → (k z : ℕ) → k < length ps
    → sum (length ps) (λ j. mul (get_or (coefs ps (get_or ps k 0) (length ps)) j 0) (pow z (e + suc j))) ≡ apart e ps (get_or ps k 0) z
unfolding apart
apart-sum e ps h k z hk =
    sum-value e (length ps) _ (coefs ps (get_or ps k 0) (length ps)) z
    (coefs-count ps (get_or ps k 0) (length ps) k hk refl (λ i hi q. h.distinct i k hi hk q)) (λ j hj. refl)
    ∙ ap (mul (pow z (suc e))) (coefs-value ps (get_or ps k 0) (length ps) z)

-- ---- the product over all points, by that over all but one: no point is 00, so that leaving 00 out leaves none out

module _ (ps : List ℕ) (x n : ℕ) (ne : get_or ps n 0 ≡ x → ⊥) where
  factor-in : coefs ps x (suc n) ≡ times (get_or ps n 0) 0 (coefs ps x n)
  unfolding coefs widen
  factor-in = ap (λ (b : Bool). widen b (get_or ps n 0) (coefs ps x n)) (ne_eqb (get_or ps n 0) x ne)

  pub coefs-first : get_or (coefs ps x (suc n)) 0 0 ≡ mul (get_or ps n 0) (get_or (coefs ps x n) 0 0)
  coefs-first = ap (λ (l : List ℕ). get_or l 0 0) factor-in ∙ times-first (get_or ps n 0) 0 (coefs ps x n) ∙ add-zero-left _

  pub coefs-next : (j : ℕ) → get_or (coefs ps x (suc n)) (suc j) 0 ≡ add (get_or (coefs ps x n) j 0) (mul (get_or ps n 0) (get_or (coefs ps x n) (suc j) 0))
  coefs-next j = ap (λ (l : List ℕ). get_or l (suc j) 0) factor-in ∙ times-next (get_or ps n 0) 0 (coefs ps x n) j

-- a point that is not there changes nothing
coefs-absent : (ps : List ℕ) (x y n : ℕ) → ((i : ℕ) → i < n → get_or ps i 0 ≡ x → ⊥) → ((i : ℕ) → i < n → get_or ps i 0 ≡ y → ⊥)
    → coefs ps x n ≡ coefs ps y n
unfolding coefs
coefs-absent ps x y zero hx hy = refl
coefs-absent ps x y (suc n) hx hy =
    factor-in ps x n (hx n (omega arith))
    ∙ ap (times (get_or ps n 0) 0) (coefs-absent ps x y n (λ i hi. hx i (omega arith)) (λ i hi. hy i (omega arith)))
    ∙ sym (factor-in ps y n (hy n (omega arith)))

-- (a + x·b) + c·(b + x·d) does not change where c and x change places
exchange : (a b c d x : ℕ) → add (add a (mul x b)) (mul c (add b (mul x d))) ≡ add (add a (mul c b)) (mul x (add b (mul c d)))
exchange a b c d x =
    ap (add (add a (mul x b))) (mul-add-right c b (mul x d)) ∙ add-exchange a (mul x b) (mul c b) (mul c (mul x d))
    ∙ ap (λ (k : ℕ). add (add a (mul c b)) (add (mul x b) k))
    (sym (mul_assoc c x d) ∙ ap (λ (k : ℕ). mul k d) (mul_comm c x) ∙ mul_assoc x c d)
    ∙ ap (add (add a (mul c b))) (sym (mul-add-right x b (mul c d)))

times-exchange : (c x : ℕ) (q : List ℕ) (j : ℕ) → get_or (times c 0 (times x 0 q)) j 0 ≡ get_or (times x 0 (times c 0 q)) j 0
times-exchange c x q zero = start c x ∙ exchange 0 0 c (get_or q 0 0) x ∙ sym (start x c)
  where
    start : (c x : ℕ) → get_or (times c 0 (times x 0 q)) 0 0 ≡ add (add 0 (mul x 0)) (mul c (add 0 (mul x (get_or q 0 0))))
    start c x =
        times-first c 0 (times x 0 q)
        ∙ ap₂ (λ (r t : ℕ). add r (mul c t)) (sym (ap (add 0) (mul-zero-right x) ∙ add-zero-right 0)) (times-first x 0 q)
times-exchange c x q (suc zero) = start c x ∙ exchange 0 (get_or q 0 0) c (get_or q 1 0) x ∙ sym (start x c)
  where
    start : (c x : ℕ) → get_or (times c 0 (times x 0 q)) 1 0 ≡ add (add 0 (mul x (get_or q 0 0))) (mul c (add (get_or q 0 0) (mul x (get_or q 1 0))))
    start c x = times-next c 0 (times x 0 q) 0 ∙ ap₂ (λ (r t : ℕ). add r (mul c t)) (times-first x 0 q) (times-next x 0 q 0)
times-exchange c x q (suc (suc j)) = start c x ∙ exchange (get_or q j 0) (get_or q (suc j) 0) c (get_or q (suc (suc j)) 0) x ∙ sym (start x c)
  where
    start : (c x : ℕ) → get_or (times c 0 (times x 0 q)) (suc (suc j)) 0
        ≡ add (add (get_or q j 0) (mul x (get_or q (suc j) 0))) (mul c (add (get_or q (suc j) 0) (mul x (get_or q (suc (suc j)) 0))))
    start c x = times-next c 0 (times x 0 q) (suc j) ∙ ap₂ (λ (r t : ℕ). add r (mul c t)) (times-next x 0 q j) (times-next x 0 q (suc j))

times-ext : (c : ℕ) (p q : List ℕ) → ((j : ℕ) → get_or p j 0 ≡ get_or q j 0) → (j : ℕ) → get_or (times c 0 p) j 0 ≡ get_or (times c 0 q) j 0
times-ext c p q h zero = times-first c 0 p ∙ ap (λ (k : ℕ). add 0 (mul c k)) (h 0) ∙ sym (times-first c 0 q)
times-ext c p q h (suc j) = times-next c 0 p j ∙ ap₂ (λ (r t : ℕ). add r (mul c t)) (h j) (h (suc j)) ∙ sym (times-next c 0 q j)

module _ (ps : List ℕ) (h : Points ps) (i : ℕ) where
  abbrev left : ℕ
  left = get_or ps i 0

  divide : (n : ℕ) → i < n → n ≤ length ps → (j : ℕ) → get_or (coefs ps 0 n) j 0 ≡ get_or (times left 0 (coefs ps left n)) j 0
  unfolding coefs widen
  divide zero hi hn j = absurd (not-suc-le-zero hi)
  divide (suc n) hi hn j =
      ap (λ (l : List ℕ). get_or l j 0) (factor-in ps 0 n (h.nonzero n (omega arith)))
      ∙ ⊎_elim
      (λ (q : n ≡ i).
      ap (λ (k : ℕ). get_or (times (get_or ps k 0) 0 (coefs ps 0 n)) j 0) q
      ∙ ap (λ (l : List ℕ). get_or (times left 0 l) j 0)
      (coefs-absent ps 0 left n (λ m hm. h.nonzero m (omega arith))
      (λ m hm e. let r : m ≡ i = h.distinct m i (omega arith) (omega arith) e in omega arith)
      ∙ sym (ap (λ (b : Bool). widen b (get_or ps n 0) (coefs ps left n)) (eq-eqb (get_or ps n 0) left (ap (λ (k : ℕ). get_or ps k 0) q)))))
      (λ ne.
      times-ext (get_or ps n 0) _ _ (divide n (omega (arith, ne)) (omega arith)) j ∙ times-exchange (get_or ps n 0) left (coefs ps left n) j
      ∙ ap (λ (l : List ℕ). get_or (times left 0 l) j 0) (sym (factor-in ps left n (λ e. ne (h.distinct n i (omega arith) (omega arith) e)))))
      (eq-or n i)

  pub whole-first : (n : ℕ) → i < n → n ≤ length ps → get_or (coefs ps 0 n) 0 0 ≡ mul (get_or ps i 0) (get_or (coefs ps (get_or ps i 0) n) 0 0)
  whole-first n hi hn = divide n hi hn 0 ∙ times-first left 0 (coefs ps left n) ∙ add-zero-left _

  pub whole-next : (n : ℕ) → i < n → n ≤ length ps → (j : ℕ)
      → get_or (coefs ps 0 n) (suc j) 0 ≡ add (get_or (coefs ps (get_or ps i 0) n) j 0) (mul (get_or ps i 0) (get_or (coefs ps (get_or ps i 0) n) (suc j) 0))
  whole-next n hi hn j = divide n hi hn (suc j) ∙ times-next left 0 (coefs ps left n) j

-- ---- the formula

-- the product of a row and a matrix, applied, is the row applied to what the matrix gives
pub associate : (k l : ℕ) (a : ℕ → ℕ) (m : ℕ → ℕ → ℕ) (x : ℕ → ℕ)
    → sum k (λ j. mul (sum l (λ t. mul (a t) (m t j))) (x j)) ≡ sum l (λ t. mul (a t) (sum k (λ j. mul (m t j) (x j))))
associate k l a m x =
    sum-ext k _ _ (λ j hj. sum-mul l (x j) (λ t. mul (a t) (m t j)) ∙ sum-ext l _ _ (λ t ht. mul_assoc (a t) (m t j) (x j)))
    ∙ sum-exchange k l (λ j t. mul (a t) (mul (m t j) (x j)))
    ∙ sum-ext l _ _ (λ t ht. sym (mul-sum k (a t) (λ j. mul (m t j) (x j))))

module _ (e : ℕ) (ps : List ℕ) (h : Points ps) (v : ℕ → ℕ) (hv : (j : ℕ) → j < length ps → IsByte (v j)) where
  -- the polynomial
  abbrev whole : ℕ → ℕ
  whole z = sum (length ps) (λ j. mul (v j) (pow z (e + suc j)))

  -- what is at the points, brought to 01
  abbrev scale : ℕ → ℕ
  scale k = mul (whole (get_or ps k 0)) (pow (apart e ps (get_or ps k 0) (get_or ps k 0)) 254)

  abbrev coef : ℕ → ℕ → ℕ
  coef k j = get_or (coefs ps (get_or ps k 0) (length ps)) j 0

  -- the difference of the two sides
  abbrev rest : ℕ → ℕ
  rest j = add (v j) (sum (length ps) (λ k. mul (scale k) (coef k j)))

  rest_sum : (z : ℕ) → sum (length ps) (λ j. mul (rest j) (pow z (e + suc j)))
      ≡ add (whole z) (sum (length ps) (λ k. mul (scale k) (apart e ps (get_or ps k 0) z)))
  rest_sum z =
      sum-ext (length ps) _ _ (λ j hj. mul-add-left (v j) _ (pow z (e + suc j))) ∙ sum-add (length ps) _ _
      ∙ ap (add (whole z))
      (associate (length ps) (length ps) scale coef (λ j. pow z (e + suc j))
      ∙ sum-ext (length ps) _ _ (λ k hk. ap (mul (scale k)) (apart-sum e ps h k z hk)))

  rest-vanishes : (i : ℕ) → i < length ps → sum (length ps) (λ j. mul (rest j) (pow (get_or ps i 0) (e + suc j))) ≡ 0
  rest-vanishes i hi =
      rest_sum (get_or ps i 0)
      ∙ add-eq-zero _ _
      (sym
      (sum_one (length ps) i _ hi
      (λ k hk ne. ap (mul (scale k)) (apart-elsewhere e ps (get_or ps k 0) i hi (λ q. ne (sym (h.distinct i k hi hk q)))) ∙ mul-zero-right (scale k))
      ∙ mul_assoc (whole (get_or ps i 0)) _ _
      ∙ ap (mul (whole (get_or ps i 0)))
      (mul_comm _ _ ∙ inverse-power _ (apart-byte e ps _ _) (apart-nonzero e ps (get_or ps i 0) h.bytes (h.bytes i) (h.nonzero i hi)))
      ∙ mul-one-right _ (sum-byte (length ps) _ (λ j hj. mul-byte (v j) _))))

  rest-zero : (j : ℕ) → j < length ps → rest j ≡ 0
  rest-zero =
      kernel e ps rest h (λ j hj. add-byte _ _ (hv j hj) (sum-byte (length ps) _ (λ k hk. mul-byte (scale k) _))) rest-vanishes

  -- the coefficients, by the values at the points
  pub coefficients : (j : ℕ) → j < length ps
      → v j
      ≡ sum (length ps)
      (λ k.
      mul (mul (sum (length ps) (λ o. mul (v o) (pow (get_or ps k 0) (e + suc o)))) (pow (apart e ps (get_or ps k 0) (get_or ps k 0)) 254))
      (get_or (coefs ps (get_or ps k 0) (length ps)) j 0))
  coefficients j hj = add-zero-eq _ _ (rest-zero j hj)

  pub lagrange : (z : ℕ) → whole z ≡ sum (length ps) (λ k. mul (basis_value e ps (get_or ps k 0) z) (whole (get_or ps k 0)))
  unfolding basis_value
  lagrange z =
      add-zero-eq _ _
      (sym (rest_sum z) ∙ sum_zeros (length ps) _ (λ j hj. ap (λ (a : ℕ). mul a (pow z (e + suc j))) (rest-zero j hj) ∙ mul-zero-left _))
      ∙ sum-ext (length ps) _ _
      (λ k hk. mul_assoc (whole (get_or ps k 0)) _ _ ∙ mul_comm (whole (get_or ps k 0)) _ ∙ ap (λ (a : ℕ). mul a (whole (get_or ps k 0))) (mul_comm _ _))
