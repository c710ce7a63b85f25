-- One byte place: polynomials as lists of coefficients, lowest first. A polynomial less its value at c is z + c times another one, so both
-- existence and uniqueness of the interpolant are one induction over the points. Assumes nothing.
use mathlib.Core.Path.{◌≡◌, refl, sym, ap, ap₂, ◌∙◌}
use mathlib.Core.List.{List, [], ◌∷◌}
use Prim.Native.Nat.{ℕ, zero, suc, ◌+◌, ◌<◌}
use native.Mathlib.Nat.{not-suc-le-zero, le_of_suc-le-suc, zero-lt-suc}
use native.Mathlib.Omega.{arith}
use lib.ListN.{length, get_or}
use Rattle.field.specs.Field.{IsByte, Bytes, add, mul, pow, Inverse}
use Rattle.field.specs.FiniteSum.{sum}
use Rattle.field.proofs.Addition.{add-byte, add_comm, add_assoc, add-self, add-zero-left, add-zero-right, add-zero-eq, add-cancel}
use Rattle.field.proofs.Multiplication.{mul-byte, mul_comm, mul_assoc, mul-add-left, mul-add-right, mul-zero-left, mul-zero-right, mul-one-left}
use Rattle.field.proofs.Exponents.{pow-suc, mul-cancel, inverse-exists}
use Rattle.field.proofs.FiniteSum.{sum-ext}
use Rattle.interpolation.specs.Polynomial.{Points}
use Rattle.interpolation.specs.Lagrange.{value, times}

pub value-byte : (p : List ℕ) (z : ℕ) → Bytes p → IsByte (value p z)
unfolding value
value-byte [] z h = h 0
value-byte (a ∷ p) z h = add-byte a _ (h 0) (mul-byte z (value p z))

-- the value as a sum, with exponents from e + 1 on
value-sum : (e : ℕ) (p : List ℕ) (z : ℕ)
    → sum (length p) (λ j. mul (get_or p j 0) (pow z (e + suc j))) ≡ mul (pow z (suc e)) (value p z)
unfolding value sum
value-sum e [] z = sym (mul-zero-right (pow z (suc e)))
value-sum e (a ∷ p) z =
    ap₂ add (ap (λ (k : ℕ). mul a (pow z k)) first ∙ mul_comm a (pow z (suc e)))
    (sum-ext (length p) _ _ (λ j hj. ap (λ (k : ℕ). mul (get_or p j 0) (pow z k)) (next j)) ∙ value-sum (suc e) p z ∙ shifted)
    ∙ sym (mul-add-right (pow z (suc e)) a (mul z (value p z)))
  where
    first : e + 1 ≡ suc e
    first = omega arith

    next : (j : ℕ) → e + suc (suc j) ≡ suc e + suc j
    next j = omega arith

    shifted : mul (pow z (suc (suc e))) (value p z) ≡ mul (pow z (suc e)) (mul z (value p z))
    shifted =
        ap (λ (k : ℕ). mul k (value p z)) (pow-suc z (suc e) ∙ mul_comm z (pow z (suc e))) ∙ mul_assoc (pow z (suc e)) z (value p z)

-- .. for coefficients that are told by a function
pub sum-value : (e n : ℕ) (v : ℕ → ℕ) (p : List ℕ) (z : ℕ) → length p ≡ n → ((j : ℕ) → j < n → get_or p j 0 ≡ v j)
    → sum n (λ j. mul (v j) (pow z (e + suc j))) ≡ mul (pow z (suc e)) (value p z)
sum-value e n v p z l h =
    sum-ext n _ _ (λ j hj. ap (λ (k : ℕ). mul k (pow z (e + suc j))) (sym (h j hj)))
    ∙ ap (λ (k : ℕ). sum k (λ j. mul (get_or p j 0) (pow z (e + suc j)))) (sym l) ∙ value-sum e p z

-- ---- division by z + c

pub length-times : (c r : ℕ) (q : List ℕ) → length (times c r q) ≡ suc (length q)
unfolding times
length-times c r [] = refl
length-times c r (a ∷ q) = ap suc (length-times c a q)

pub times-bytes : (c r : ℕ) (q : List ℕ) → IsByte r → Bytes q → Bytes (times c r q)
unfolding times
times-bytes c r [] hr hq zero = hr
times-bytes c r [] hr hq (suc i) = hq 0
times-bytes c r (a ∷ q) hr hq zero = add-byte r _ hr (mul-byte c a)
times-bytes c r (a ∷ q) hr hq (suc i) = times-bytes c a q (hq 0) (λ k. hq (suc k)) i

pub value-times : (c r : ℕ) (q : List ℕ) (z : ℕ) → value (times c r q) z ≡ add r (mul (add z c) (value q z))
unfolding value times
value-times c r [] z = ap (add r) (mul-zero-right z ∙ sym (mul-zero-right (add z c)))
value-times c r (a ∷ q) z =
    ap (add (add r (mul c a))) (ap (mul z) (value-times c a q z) ∙ mul-add-right z a _)
    ∙ add_assoc r (mul c a) _
    ∙ ap (add r)
    (sym (add_assoc (mul c a) (mul z a) _)
    ∙ ap₂ add (add_comm (mul c a) (mul z a) ∙ sym (mul-add-left z c a)) inner
    ∙ sym (mul-add-right (add z c) a (mul z (value q z))))
  where
    inner : mul z (mul (add z c) (value q z)) ≡ mul (add z c) (mul z (value q z))
    inner = sym (mul_assoc z (add z c) _) ∙ ap (λ (k : ℕ). mul k (value q z)) (mul_comm z (add z c)) ∙ mul_assoc (add z c) z _

pub times-first : (c r : ℕ) (q : List ℕ) → get_or (times c r q) 0 0 ≡ add r (mul c (get_or q 0 0))
unfolding times
times-first c r [] = sym (ap (add r) (mul-zero-right c) ∙ add-zero-right r)
times-first c r (a ∷ q) = refl

pub times-next : (c r : ℕ) (q : List ℕ) (j : ℕ) → get_or (times c r q) (suc j) 0 ≡ add (get_or q j 0) (mul c (get_or q (suc j) 0))
unfolding times
times-next c r [] j = sym (ap (add 0) (mul-zero-right c) ∙ add-zero-right 0)
times-next c r (a ∷ q) zero = times-first c a q
times-next c r (a ∷ q) (suc j) = times-next c a q j

-- at c itself only r is left
value-times-here : (c r : ℕ) (q : List ℕ) → value (times c r q) c ≡ r
value-times-here c r q =
    value-times c r q c ∙ ap (add r) (ap (λ (k : ℕ). mul k (value q c)) (add-self c) ∙ mul-zero-left (value q c)) ∙ add-zero-right r

times-zeros : (c r : ℕ) (q : List ℕ) → r ≡ 0 → ((j : ℕ) → get_or q j 0 ≡ 0) → (j : ℕ) → get_or (times c r q) j 0 ≡ 0
unfolding times
times-zeros c r [] hr hq zero = hr
times-zeros c r [] hr hq (suc j) = refl
times-zeros c r (a ∷ q) hr hq zero = ap₂ add hr (ap (mul c) (hq 0) ∙ mul-zero-right c) ∙ add-zero-right 0
times-zeros c r (a ∷ q) hr hq (suc j) = times-zeros c a q (hq 0) (λ k. hq (suc k)) j

-- Synthetic division: the quotient's coefficients are the values at c of what stands behind each coefficient.
tails : ℕ → List ℕ → List ℕ
unfolding value
tails c [] = []
tails c (a ∷ p) = value (a ∷ p) c ∷ tails c p

length-tails : (c : ℕ) (p : List ℕ) → length (tails c p) ≡ length p
unfolding tails
length-tails c [] = refl
length-tails c (a ∷ p) = ap suc (length-tails c p)

tails-bytes : (c : ℕ) (p : List ℕ) → Bytes p → Bytes (tails c p)
unfolding tails
tails-bytes c [] h i = h i
tails-bytes c (a ∷ p) h zero = value-byte (a ∷ p) c h
tails-bytes c (a ∷ p) h (suc i) = tails-bytes c p (λ k. h (suc k)) i

-- every polynomial is its value at c, plus z + c times the quotient
divided : (c a : ℕ) (p : List ℕ) → times c (value (a ∷ p) c) (tails c p) ≡ a ∷ p
unfolding times tails
divided c a [] = ap (λ (k : ℕ). k ∷ []) (ap (add a) (mul-zero-right c) ∙ add-zero-right a)
divided c a (b ∷ p) = ap₂ ◌∷◌ (add-cancel a (mul c (value (b ∷ p) c))) (divided c b p)

-- ---- points

points-tail : {c : ℕ} {ps : List ℕ} → Points (c ∷ ps) → Points ps
points-tail h =
    record {
      bytes = λ i. h.bytes (suc i);
      nonzero = λ i hi. h.nonzero (suc i) (omega arith);
      distinct = λ i j hi hj e. let k : suc i ≡ suc j = h.distinct (suc i) (suc j) (omega arith) (omega arith) e in omega arith;
    }

module _ (c : ℕ) (ps : List ℕ) (h : Points (c ∷ ps)) (i : ℕ) where
  gap-byte : IsByte (add (get_or ps i 0) c)
  gap-byte = add-byte _ c (h.bytes (suc i)) (h.bytes 0)

  gap-nonzero : i < length ps → add (get_or ps i 0) c ≡ 0 → ⊥
  gap-nonzero hi e =
      let k : suc i ≡ 0 = h.distinct (suc i) 0 (omega arith) (omega arith) (add-zero-eq (get_or ps i 0) c e) in omega arith

-- ---- uniqueness: only zeros vanish at as many points as there are coefficients

-- a product is 0 and the one factor is not: the other is
pub other-zero : (d a : ℕ) → IsByte d → (d ≡ 0 → ⊥) → IsByte a → mul d a ≡ 0 → a ≡ 0
other-zero d a hd n ha e = mul-cancel d a 0 hd n ha (omega arith) (e ∙ sym (mul-zero-right d))

pub vanishing : (ps : List ℕ) → Points ps → (p : List ℕ) → length p ≡ length ps → Bytes p
    → ((i : ℕ) → i < length ps → value p (get_or ps i 0) ≡ 0) → (j : ℕ) → get_or p j 0 ≡ 0
vanishing [] h [] n hp z j = refl
vanishing [] h (a ∷ p) n hp z j = absurd (omega arith)
vanishing (c ∷ ps) h [] n hp z j = absurd (omega arith)
vanishing (c ∷ ps) h (a ∷ p) n hp z j =
    ap (λ (l : List ℕ). get_or l j 0) (sym (divided c a p))
    ∙ times-zeros c _ (tails c p) here
    (vanishing ps (points-tail h) (tails c p) (omega (arith, length-tails c p)) bytes
    (λ i hi. other-zero _ _ (gap-byte c ps h i) (gap-nonzero c ps h i hi) (value-byte (tails c p) _ bytes) (there i hi))) j
  where
    bytes : Bytes (tails c p)
    bytes = tails-bytes c p (λ k. hp (suc k))

    here : value (a ∷ p) c ≡ 0
    here = z 0 (zero-lt-suc _)

    there : (i : ℕ) → i < length ps → mul (add (get_or ps i 0) c) (value (tails c p) (get_or ps i 0)) ≡ 0
    there i hi =
        sym (add-zero-left _) ∙ ap (λ (k : ℕ). add k (mul (add (get_or ps i 0) c) (value (tails c p) (get_or ps i 0)))) (sym here)
        ∙ sym (value-times c (value (a ∷ p) c) (tails c p) (get_or ps i 0))
        ∙ ap (λ (l : List ℕ). value l (get_or ps i 0)) (divided c a p) ∙ z (suc i) (omega arith)

-- ---- existence

-- what is divided by d comes back
pub undo : (d i a : ℕ) → mul d i ≡ 1 → IsByte a → mul d (mul a i) ≡ a
undo d i a e ha =
    ap (mul d) (mul_comm a i) ∙ sym (mul_assoc d i a) ∙ ap (λ (k : ℕ). mul k a) e ∙ mul-one-left a ha

-- q has as many coefficients as there are points and takes the value w i at point i
pub record Interpolates (ps : List ℕ) (w : ℕ → ℕ) (q : List ℕ) : Type 0 where
  pub count : length q ≡ length ps
  pub bytes : Bytes q
  pub takes : (i : ℕ) → i < length ps → value q (get_or ps i 0) ≡ w i

-- one more point: q takes, at each other point z, the wanted value less that at c, divided by z + c
module _ (c : ℕ) (ps : List ℕ) (h : Points (c ∷ ps)) (w : ℕ → ℕ) where
  gap-inverse : (i : ℕ) → (d : ℕ) × Inverse (add (get_or ps i 0) c) d
  gap-inverse i = inverse-exists (add (get_or ps i 0) c) (gap-byte c ps h i)

  slope : ℕ → ℕ
  slope i = mul (add (w (suc i)) (w 0)) (gap-inverse i).0

  more : ((i : ℕ) → i < length (c ∷ ps) → IsByte (w i)) → (q : List ℕ) → Interpolates ps slope q
      → Interpolates (c ∷ ps) w (times c (w 0) q)
  unfolding slope
  more hw q g =
      record {
        count = length-times c (w 0) q ∙ ap suc g.count;
        bytes = times-bytes c (w 0) q (hw 0 (zero-lt-suc _)) g.bytes;
        takes = go;
      }
    where
      go : (i : ℕ) → i < length (c ∷ ps) → value (times c (w 0) q) (get_or (c ∷ ps) i 0) ≡ w i
      go zero hi = value-times-here c (w 0) q
      go (suc i) hi =
          value-times c (w 0) q (get_or ps i 0)
          ∙ ap (add (w 0))
          (ap (mul (add (get_or ps i 0) c)) (g.takes i (le_of_suc-le-suc hi))
          ∙ undo _ _ _ ((gap-inverse i).1.product (gap-nonzero c ps h i (le_of_suc-le-suc hi)))
          (add-byte _ _ (hw (suc i) hi) (hw 0 (zero-lt-suc _))))
          ∙ add_comm (w 0) (add (w (suc i)) (w 0)) ∙ add-cancel (w (suc i)) (w 0)

pub interpolant : (ps : List ℕ) → Points ps → (w : ℕ → ℕ) → ((i : ℕ) → i < length ps → IsByte (w i))
    → (q : List ℕ) × Interpolates ps w q
unfolding slope
interpolant [] h w hw = ([], record { count = refl; bytes = h.bytes; takes = λ i hi. absurd (not-suc-le-zero hi) })
interpolant (c ∷ ps) h w hw =
    let g = interpolant ps (points-tail h) (slope c ps h w) (λ i hi. mul-byte _ _) in
    (times c (w 0) g.0, more c ps h w hw g.0 g.1)
