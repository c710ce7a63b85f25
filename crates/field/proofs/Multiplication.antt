-- The laws of the product, for all numbers where the definition allows and for all bytes elsewhere. Products respect sums in each factor
-- (polynomial product and remainder do), so every other law is computed at the powers of two and carried to all bytes by `agree`. Assumes nothing.
use mathlib.Core.Path.{◌≡◌, refl, sym, ap, ap₂, ◌∙◌, subst}
use Prim.Native.Nat.{ℕ, zero, suc, ◌+◌, ◌*◌, ◌/◌, ◌%◌, ◌^◌, ◌<◌}
use native.Mathlib.Nat.{mod-lt, mod-eq_of_lt, zero-lt-suc, not-suc-le-zero, le_of_suc-le-suc, add-zero}
use native.Mathlib.Omega.{arith}
use lib.Dec.{T, eqb, ltb, eqb→eq, ltb→lt}
use lib.Bits.{bit_xor, xor_block, xor_shr, xor_mod}
use Rattle.base.proofs.Test.{all_below, below}
use Rattle.field.specs.Field.{IsByte, add, coeff, scaled, poly_mul, poly_rem, modulus, mul}
use Rattle.field.proofs.Addition.{Additive, additive-zero, agree, add-self, add-zero-left, add-zero-right, add-exchange}

-- ---- products respect sums

scaled-add : (c p q : ℕ) → scaled c (add p q) ≡ add (scaled c p) (scaled c q)
unfolding scaled
scaled-add zero p q = sym (add-zero-left 0)
scaled-add (suc c) p q = refl

coeff-add : (p q i : ℕ) → coeff (add p q) i ≡ add (coeff p i) (coeff q i)
unfolding add coeff
coeff-add p q i = ap (λ (x : ℕ). x % 2) (xor_shr p q i) ∙ xor_mod (p / 2 ^ i) (q / 2 ^ i) 1

coeff-lt : (p i : ℕ) → coeff p i < 2
unfolding coeff
coeff-lt p i = mod-lt (p / 2 ^ i) (zero-lt-suc 1)

scaled-bits : (c d p : ℕ) → c < 2 → d < 2 → scaled (add c d) p ≡ add (scaled c p) (scaled d p)
unfolding scaled add
scaled-bits zero d p hc hd = sym (add-zero-left (scaled d p))
scaled-bits (suc zero) zero p hc hd = sym (add-zero-right p)
scaled-bits (suc zero) (suc zero) p hc hd = sym (add-self p)
scaled-bits (suc zero) (suc (suc d)) p hc hd = absurd (not-suc-le-zero (le_of_suc-le-suc (le_of_suc-le-suc hd)))
scaled-bits (suc (suc c)) d p hc hd = absurd (not-suc-le-zero (le_of_suc-le-suc (le_of_suc-le-suc hc)))

scaled-coeff-add : (p q i x : ℕ) → scaled (coeff (add p q) i) x ≡ add (scaled (coeff p i) x) (scaled (coeff q i) x)
scaled-coeff-add p q i x =
    ap (λ (c : ℕ). scaled c x) (coeff-add p q i) ∙ scaled-bits (coeff p i) (coeff q i) x (coeff-lt p i) (coeff-lt q i)

pub shift-add : (a b n : ℕ) → add a b * 2 ^ n ≡ add (a * 2 ^ n) (b * 2 ^ n)
unfolding add
shift-add a b n =
    sym (ap₂ bit_xor (sym (add-zero (a * 2 ^ n))) (sym (add-zero (b * 2 ^ n)))
    ∙ xor_block n a b 0 0 (omega (arith, pos n)) (omega (arith, pos n)) ∙ add-zero (bit_xor a b * 2 ^ n))
  where
    pos : (n : ℕ) → 0 < 2 ^ n
    pos n = lib.Pow.pow_pos n

poly_mul-add-left : (n a b c : ℕ) → poly_mul n (add a b) c ≡ add (poly_mul n a c) (poly_mul n b c)
unfolding poly_mul
poly_mul-add-left zero a b c = sym (add-zero-left 0)
poly_mul-add-left (suc n) a b c =
    ap₂ add (poly_mul-add-left n a b c)
    (ap (scaled (coeff c n)) (shift-add a b n) ∙ scaled-add (coeff c n) (a * 2 ^ n) (b * 2 ^ n))
    ∙ add-exchange (poly_mul n a c) (poly_mul n b c) (scaled (coeff c n) (a * 2 ^ n)) (scaled (coeff c n) (b * 2 ^ n))

poly_mul-add-right : (n a b c : ℕ) → poly_mul n a (add b c) ≡ add (poly_mul n a b) (poly_mul n a c)
unfolding poly_mul
poly_mul-add-right zero a b c = sym (add-zero-left 0)
poly_mul-add-right (suc n) a b c =
    ap₂ add (poly_mul-add-right n a b c) (scaled-coeff-add b c n (a * 2 ^ n))
    ∙ add-exchange (poly_mul n a b) (poly_mul n a c) (scaled (coeff b n) (a * 2 ^ n)) (scaled (coeff c n) (a * 2 ^ n))

poly_rem-add : (n : ℕ) → Additive (poly_rem n)
unfolding poly_rem
poly_rem-add zero p q = refl
poly_rem-add (suc n) p q =
    ap (poly_rem n)
    (ap (add (add p q)) (scaled-coeff-add p q (8 + n) (modulus * 2 ^ n))
    ∙ add-exchange p q (scaled (coeff p (8 + n)) (modulus * 2 ^ n)) (scaled (coeff q (8 + n)) (modulus * 2 ^ n)))
    ∙ poly_rem-add n _ _

low-add : (a b : ℕ) → add a b % 256 ≡ add (a % 256) (b % 256)
unfolding add
low-add a b = xor_mod a b 8

mul_is : (a b : ℕ) → mul a b ≡ poly_rem 7 (poly_mul 8 (a % 256) (b % 256))
unfolding mul
mul_is a b = refl

pub mul-add-left : (a b c : ℕ) → mul (add a b) c ≡ add (mul a c) (mul b c)
mul-add-left a b c =
    mul_is (add a b) c
    ∙ ap (poly_rem 7) (ap (λ (x : ℕ). poly_mul 8 x (c % 256)) (low-add a b) ∙ poly_mul-add-left 8 (a % 256) (b % 256) (c % 256))
    ∙ poly_rem-add 7 _ _ ∙ ap₂ add (sym (mul_is a c)) (sym (mul_is b c))

pub mul-add-right : (a b c : ℕ) → mul a (add b c) ≡ add (mul a b) (mul a c)
mul-add-right a b c =
    mul_is a (add b c)
    ∙ ap (poly_rem 7) (ap (poly_mul 8 (a % 256)) (low-add b c) ∙ poly_mul-add-right 8 (a % 256) (b % 256) (c % 256))
    ∙ poly_rem-add 7 _ _ ∙ ap₂ add (sym (mul_is a b)) (sym (mul_is a c))

pub mul-zero-left : (a : ℕ) → mul 0 a ≡ 0
mul-zero-left a = additive-zero (λ x. mul x a) (λ x y. mul-add-left x y a)

pub mul-zero-right : (a : ℕ) → mul a 0 ≡ 0
mul-zero-right a = additive-zero (mul a) (mul-add-right a)

-- ---- from the powers of two to all bytes

low : (a : ℕ) → a % 256 < 256
low a = mod-lt a (zero-lt-suc 255)

-- only the low bytes count
low-left : (a b : ℕ) → mul (a % 256) b ≡ mul a b
low-left a b =
    mul_is (a % 256) b ∙ ap (λ (x : ℕ). poly_rem 7 (poly_mul 8 x (b % 256))) (mod-eq_of_lt (low a)) ∙ sym (mul_is a b)

low-right : (a b : ℕ) → mul a (b % 256) ≡ mul a b
low-right a b =
    mul_is a (b % 256) ∙ ap (λ (x : ℕ). poly_rem 7 (poly_mul 8 (a % 256) x)) (mod-eq_of_lt (low b)) ∙ sym (mul_is a b)

-- two functions of two bytes that respect sums in each agree everywhere if they agree at the powers of two
module _ (F G : ℕ → ℕ → ℕ) (F-left : (b : ℕ) → Additive (λ a. F a b)) (F-right : (a : ℕ) → Additive (F a))
    (G-left : (b : ℕ) → Additive (λ a. G a b)) (G-right : (a : ℕ) → Additive (G a)) where
  agree₂ : T (all_below 8 (λ i. all_below 8 (λ j. eqb (F (2 ^ i) (2 ^ j)) (G (2 ^ i) (2 ^ j))))) → (a b : ℕ) → IsByte a → IsByte b → F a b ≡ G a b
  agree₂ t a b ha hb =
      agree (λ x. F x b) (λ x. G x b) (F-left b) (G-left b) 8
      (λ i hi.
      agree (F (2 ^ i)) (G (2 ^ i)) (F-right (2 ^ i)) (G-right (2 ^ i)) 8
      (λ j hj.
      eqb→eq _ _
      (below 8 (λ j. eqb (F (2 ^ i) (2 ^ j)) (G (2 ^ i) (2 ^ j)))
      (below 8 (λ i. all_below 8 (λ j. eqb (F (2 ^ i) (2 ^ j)) (G (2 ^ i) (2 ^ j)))) t i hi) j hj))
      b hb)
      a ha

comm-bytes : (a b : ℕ) → IsByte a → IsByte b → mul a b ≡ mul b a
unfolding mul
comm-bytes = agree₂ mul (λ a b. mul b a) (λ b x y. mul-add-left x y b) mul-add-right mul-add-right (λ a x y. mul-add-left x y a) tt

pub mul_comm : (a b : ℕ) → mul a b ≡ mul b a
mul_comm a b =
    sym (low-left a b) ∙ sym (low-right (a % 256) b) ∙ comm-bytes (a % 256) (b % 256) (low a) (low b)
    ∙ low-right (b % 256) a ∙ low-left b a

byte-bytes : (a b : ℕ) → IsByte a → IsByte b → mul a b ≡ mul a b % 256
unfolding mul
byte-bytes =
    agree₂ mul (λ a b. mul a b % 256) (λ b x y. mul-add-left x y b) mul-add-right
    (λ b x y. ap (λ (k : ℕ). k % 256) (mul-add-left x y b) ∙ low-add (mul x b) (mul y b))
    (λ a x y. ap (λ (k : ℕ). k % 256) (mul-add-right a x y) ∙ low-add (mul a x) (mul a y)) tt

pub mul-byte : (a b : ℕ) → IsByte (mul a b)
mul-byte a b =
    subst (λ (k : ℕ). k < 256) (sym (byte-bytes (a % 256) (b % 256) (low a) (low b)) ∙ low-right (a % 256) b ∙ low-left a b)
    (low (mul (a % 256) (b % 256)))

pub mul-one-left : (a : ℕ) → IsByte a → mul 1 a ≡ a
unfolding mul
mul-one-left a ha =
    agree (mul 1) (λ x. x) (mul-add-right 1) (λ x y. refl) 8 (λ i hi. eqb→eq _ _ (below 8 (λ i. eqb (mul 1 (2 ^ i)) (2 ^ i)) tt i hi)) a ha

pub mul-one-right : (a : ℕ) → IsByte a → mul a 1 ≡ a
mul-one-right a ha = mul_comm a 1 ∙ mul-one-left a ha

-- associativity: at 2 in front it is computed; each power of two is 2 times the one before
double-bytes : (b c : ℕ) → IsByte b → IsByte c → mul (mul 2 b) c ≡ mul 2 (mul b c)
unfolding mul
double-bytes =
    agree₂ (λ b c. mul (mul 2 b) c) (λ b c. mul 2 (mul b c))
    (λ c x y. ap (λ (k : ℕ). mul k c) (mul-add-right 2 x y) ∙ mul-add-left (mul 2 x) (mul 2 y) c) (λ b. mul-add-right (mul 2 b))
    (λ c x y. ap (mul 2) (mul-add-left x y c) ∙ mul-add-right 2 (mul x c) (mul y c))
    (λ b x y. ap (mul 2) (mul-add-right b x y) ∙ mul-add-right 2 (mul b x) (mul b y)) tt

step-bytes : (i b : ℕ) → i < 7 → IsByte b → mul (2 ^ suc i) b ≡ mul 2 (mul (2 ^ i) b)
unfolding mul
step-bytes i b hi hb =
    ap (λ (x : ℕ). mul x b) (eqb→eq _ _ (below 7 (λ i. eqb (2 ^ suc i) (mul 2 (2 ^ i))) tt i hi))
    ∙ double-bytes (2 ^ i) b (ltb→lt _ _ (below 7 (λ i. ltb (2 ^ i) 256) tt i hi)) hb

assoc-power : (i b c : ℕ) → i < 8 → IsByte b → IsByte c → mul (mul (2 ^ i) b) c ≡ mul (2 ^ i) (mul b c)
assoc-power zero b c hi hb hc = ap (λ (x : ℕ). mul x c) (mul-one-left b hb) ∙ sym (mul-one-left (mul b c) (mul-byte b c))
assoc-power (suc i) b c hi hb hc =
    ap (λ (x : ℕ). mul x c) (step-bytes i b (omega arith) hb) ∙ double-bytes (mul (2 ^ i) b) c (mul-byte (2 ^ i) b) hc
    ∙ ap (mul 2) (assoc-power i b c (omega arith) hb hc) ∙ sym (step-bytes i (mul b c) (omega arith) (mul-byte b c))

assoc-bytes : (a b c : ℕ) → IsByte a → IsByte b → IsByte c → mul (mul a b) c ≡ mul a (mul b c)
assoc-bytes a b c ha hb hc =
    agree (λ x. mul (mul x b) c) (λ x. mul x (mul b c))
    (λ x y. ap (λ (k : ℕ). mul k c) (mul-add-left x y b) ∙ mul-add-left (mul x b) (mul y b) c) (λ x y. mul-add-left x y (mul b c)) 8
    (λ i hi. assoc-power i b c hi hb hc) a ha

pub mul_assoc : (a b c : ℕ) → mul (mul a b) c ≡ mul a (mul b c)
mul_assoc a b c =
    ap (λ (x : ℕ). mul x c) (sym (low-left a b) ∙ sym (low-right (a % 256) b)) ∙ sym (low-right (mul (a % 256) (b % 256)) c)
    ∙ assoc-bytes (a % 256) (b % 256) (c % 256) (low a) (low b) (low c)
    ∙ low-left a (mul (b % 256) (c % 256)) ∙ ap (mul a) (low-left b (c % 256) ∙ low-right b c)
