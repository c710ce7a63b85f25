-- The laws of the sum, and of functions that respect it. A function that respects sums is known by its values at the powers of two:
-- so a law of products, which respect sums in each factor, is shown for all bytes by computing it at 1, 2, 4, .., 128. Assumes nothing.
use mathlib.Core.Path.{◌≡◌, refl, sym, ap, ap₂, ◌∙◌, subst}
use Prim.Native.Nat.{ℕ, zero, suc, ◌+◌, ◌*◌, ◌/◌, ◌%◌, ◌^◌, ◌<◌}
use native.Mathlib.Nat.{mod-lt, zero-mul, one-mul, zero-lt-suc, not-suc-le-zero, le_of_suc-le-suc}
use native.Mathlib.Omega.{arith}
use lib.Arith.{bin_ind, lt-one, digits_div, digits_mod}
use lib.Bits.{differ, bit_xor, xor_step, xor_zero_l, xor_zero_r, xor_comm, xor_self, xor_lt, xor_shifted}
use lib.Pow.{pow_pos, split, shr_lt}
use Rattle.field.specs.Field.{IsByte, add}

pub add_comm : (a b : ℕ) → add a b ≡ add b a
unfolding add
add_comm a b = xor_comm a b

pub add-zero-left : (a : ℕ) → add 0 a ≡ a
unfolding add
add-zero-left a = xor_zero_l a

pub add-zero-right : (a : ℕ) → add a 0 ≡ a
unfolding add
add-zero-right a = xor_zero_r a

-- every element is its own negative
pub add-self : (a : ℕ) → add a a ≡ 0
unfolding add
add-self a = xor_self a

pub add-lt : (k a b : ℕ) → a < 2 ^ k → b < 2 ^ k → add a b < 2 ^ k
unfolding add
add-lt k a b ha hb = xor_lt k a b ha hb

pub add-byte : (a b : ℕ) → IsByte a → IsByte b → IsByte (add a b)
add-byte a b ha hb = add-lt 8 a b ha hb

-- ---- the sum is associative: digit by digit

differ-bit : (x y : ℕ) → x < 2 → y < 2 → differ x y < 2
differ-bit zero y hx hy = hy
differ-bit (suc zero) zero hx hy = hx
differ-bit (suc zero) (suc y) hx hy = subst (λ (k : ℕ). differ 0 k < 2) (sym (lt-one (le_of_suc-le-suc hy))) (zero-lt-suc 1)
differ-bit (suc (suc x)) y hx hy = absurd (not-suc-le-zero (le_of_suc-le-suc (le_of_suc-le-suc hx)))

differ-assoc : (x y z : ℕ) → x < 2 → y < 2 → z < 2 → differ (differ x y) z ≡ differ x (differ y z)
differ-assoc zero y z hx hy hz = refl
differ-assoc (suc zero) zero z hx hy hz = refl
differ-assoc (suc zero) (suc zero) zero hx hy hz = refl
differ-assoc (suc zero) (suc zero) (suc zero) hx hy hz = refl
differ-assoc (suc zero) (suc zero) (suc (suc z)) hx hy hz = absurd (not-suc-le-zero (le_of_suc-le-suc (le_of_suc-le-suc hz)))
differ-assoc (suc zero) (suc (suc y)) z hx hy hz = absurd (not-suc-le-zero (le_of_suc-le-suc (le_of_suc-le-suc hy)))
differ-assoc (suc (suc x)) y z hx hy hz = absurd (not-suc-le-zero (le_of_suc-le-suc (le_of_suc-le-suc hx)))

bit-lt : (a : ℕ) → a % 2 < 2
bit-lt a = mod-lt a (zero-lt-suc 1)

xor-half : (a b : ℕ) → bit_xor a b / 2 ≡ bit_xor (a / 2) (b / 2)
xor-half a b = ap (λ (x : ℕ). x / 2) (xor_step a b) ∙ digits_div _ (differ-bit (a % 2) (b % 2) (bit-lt a) (bit-lt b))

xor-bit : (a b : ℕ) → bit_xor a b % 2 ≡ differ (a % 2) (b % 2)
xor-bit a b = ap (λ (x : ℕ). x % 2) (xor_step a b) ∙ digits_mod _ (differ-bit (a % 2) (b % 2) (bit-lt a) (bit-lt b))

xor_assoc : (a b c : ℕ) → bit_xor (bit_xor a b) c ≡ bit_xor a (bit_xor b c)
xor_assoc =
    bin_ind (λ (a : ℕ). (b c : ℕ) → bit_xor (bit_xor a b) c ≡ bit_xor a (bit_xor b c))
    (λ b c. ap (λ (x : ℕ). bit_xor x c) (xor_zero_l b) ∙ sym (xor_zero_l (bit_xor b c)))
    (λ a ih b c.
    xor_step (bit_xor a b) c
    ∙ ap₂ (λ (x y : ℕ). x * 2 + y)
    (ap (λ (x : ℕ). bit_xor x (c / 2)) (xor-half a b) ∙ ih (b / 2) (c / 2) ∙ ap (bit_xor (a / 2)) (sym (xor-half b c)))
    (ap (λ (x : ℕ). differ x (c % 2)) (xor-bit a b) ∙ differ-assoc (a % 2) (b % 2) (c % 2) (bit-lt a) (bit-lt b) (bit-lt c)
    ∙ ap (differ (a % 2)) (sym (xor-bit b c)))
    ∙ sym (xor_step a (bit_xor b c)))

pub add_assoc : (a b c : ℕ) → add (add a b) c ≡ add a (add b c)
unfolding add
add_assoc a b c = xor_assoc a b c

-- the middle two of four change places
pub add-exchange : (a b c d : ℕ) → add (add a b) (add c d) ≡ add (add a c) (add b d)
add-exchange a b c d =
    add_assoc a b (add c d)
    ∙ ap (add a) (sym (add_assoc b c d) ∙ ap (λ (x : ℕ). add x d) (add_comm b c) ∙ add_assoc c b d)
    ∙ sym (add_assoc a c (add b d))

-- a sum is 0 exactly where the two are equal
pub add-zero-eq : (a b : ℕ) → add a b ≡ 0 → a ≡ b
add-zero-eq a b h =
    sym (add-zero-right a) ∙ ap (add a) (sym (add-self b)) ∙ sym (add_assoc a b b) ∙ ap (λ (x : ℕ). add x b) h ∙ add-zero-left b

pub add-eq-zero : (a b : ℕ) → a ≡ b → add a b ≡ 0
add-eq-zero a b h = ap (λ (x : ℕ). add x b) h ∙ add-self b

-- what is added twice is gone
pub add-cancel : (a b : ℕ) → add (add a b) b ≡ a
add-cancel a b = add_assoc a b b ∙ ap (add a) (add-self b) ∙ add-zero-right a

-- the last two of three change places
pub add-last-two : (a b c : ℕ) → add (add a b) c ≡ add (add a c) b
add-last-two a b c = add_assoc a b c ∙ ap (add a) (add_comm b c) ∙ sym (add_assoc a c b)

-- what is added on both sides does not count
pub add_right_cancel : (a b c : ℕ) → add a c ≡ add b c → a ≡ b
add_right_cancel a b c e = sym (add-cancel a c) ∙ ap (λ (s : ℕ). add s c) e ∙ add-cancel b c

-- ---- functions that respect sums

abbrev pub Additive : (ℕ → ℕ) → Type 0
Additive f = (a b : ℕ) → f (add a b) ≡ add (f a) (f b)

pub additive-zero : (f : ℕ → ℕ) → Additive f → f 0 ≡ 0
additive-zero f hf = ap f (sym (add-self 0)) ∙ hf 0 0 ∙ add-self (f 0)

-- a number from its digit of 2^n and the rest
pub top : (n a : ℕ) → add (a / 2 ^ n * 2 ^ n) (a % 2 ^ n) ≡ a
unfolding add
top n a = xor_shifted (a / 2 ^ n) n (a % 2 ^ n) (mod-lt a (pow_pos n)) ∙ split a n

-- two such functions that agree at the first n powers of two agree below 2^n
pub agree : (f g : ℕ → ℕ) → Additive f → Additive g → (n : ℕ) → ((i : ℕ) → i < n → f (2 ^ i) ≡ g (2 ^ i)) → (a : ℕ) → a < 2 ^ n
    → f a ≡ g a
agree f g hf hg zero same a h = ap f (lt-one h) ∙ additive-zero f hf ∙ sym (additive-zero g hg) ∙ ap g (sym (lt-one h))
agree f g hf hg (suc n) same a h =
    ap f (sym (top n a)) ∙ hf (a / 2 ^ n * 2 ^ n) (a % 2 ^ n)
    ∙ ap₂ add (digit (a / 2 ^ n) (shr_lt 1 n (subst (λ (k : ℕ). a < 2 ^ k) (omega arith) h)))
    (agree f g hf hg n (λ i hi. same i (omega arith)) (a % 2 ^ n) (mod-lt a (pow_pos n)))
    ∙ sym (hg (a / 2 ^ n * 2 ^ n) (a % 2 ^ n)) ∙ ap g (top n a)
  where
    digit : (d : ℕ) → d < 2 → f (d * 2 ^ n) ≡ g (d * 2 ^ n)
    digit zero hd = ap f (zero-mul (2 ^ n)) ∙ additive-zero f hf ∙ sym (additive-zero g hg) ∙ ap g (sym (zero-mul (2 ^ n)))
    digit (suc zero) hd = ap f (one-mul (2 ^ n)) ∙ same n (omega arith) ∙ ap g (sym (one-mul (2 ^ n)))
    digit (suc (suc d)) hd = absurd (not-suc-le-zero (le_of_suc-le-suc (le_of_suc-le-suc hd)))
