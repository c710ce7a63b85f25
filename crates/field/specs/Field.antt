-- The field (document 01, "The field"): what a byte is, sum (of two lists too), product, power and inverse, and the rules of the tables of powers and exponents.
-- No table and no algorithm of the code stands here. Assumes nothing.
use Rattle.std.specs.Prelude.{◌≡◌, List, ℕ, zero, suc, ◌+◌, ◌*◌, ◌/◌, ◌%◌, ◌^◌, ◌<◌, length, get_or}
use Rattle.std.specs.Int.Bits.{bit_xor}
use Rattle.base.specs.Seq.{tabulate}

-- "A field value is one byte."
abbrev pub IsByte : ℕ → Type 0
IsByte a = a < 256

-- Every element of the list is a byte; past its end `get_or` gives 0, which is one too.
abbrev pub Bytes : List ℕ → Type 0
Bytes xs = (i : ℕ) → IsByte (get_or xs i 0)

-- "The sum is exclusive or."
unfoldable pub add : ℕ → ℕ → ℕ
add a b = bit_xor a b

-- The sum of two lists, byte by byte; a byte that the second does not have counts as 00.
unfoldable pub plus : List ℕ → List ℕ → List ℕ
plus xs ys = tabulate (length xs) (λ i. add (get_or xs i 0) (get_or ys i 0))

-- "Its bits are the coefficients of a polynomial over {0,1}, highest power first": the coefficient of z^i in p.
unfoldable pub coeff : ℕ → ℕ → ℕ
coeff p i = p / 2 ^ i % 2

-- A coefficient times a polynomial: nothing for 0, the polynomial itself for 1.
unfoldable pub scaled : ℕ → ℕ → ℕ
scaled zero p = 0
scaled (suc c) p = p

-- The product of two polynomials, b of degree below n: the sum of b's coefficient of z^i times a·z^i, for i below n.
unfoldable pub poly_mul : ℕ → ℕ → ℕ → ℕ
unfolding add coeff scaled
poly_mul zero a b = 0
poly_mul (suc n) a b = add (poly_mul n a b) (scaled (coeff b n) (a * 2 ^ n))

-- z^8 + z^4 + z^3 + z^2 + 1
unfoldable pub modulus : ℕ
modulus = 0x11d

-- The remainder of a polynomial of degree below 8 + n: from the top, whatever stands at z^8 or above is taken away by a multiple of the modulus.
unfoldable pub poly_rem : ℕ → ℕ → ℕ
unfolding add coeff scaled modulus
poly_rem zero p = p
poly_rem (suc n) p = poly_rem n (add p (scaled (coeff p (8 + n)) (modulus * 2 ^ n)))

-- "The product is the polynomial product modulo z^8 + z^4 + z^3 + z^2 + 1 (11D)." Of a number only the low byte counts, so the laws hold of all numbers.
unfoldable pub mul : ℕ → ℕ → ℕ
unfolding poly_mul poly_rem
mul a b = poly_rem 7 (poly_mul 8 (a % 256) (b % 256))

-- "The power 0 of any value is 01."
unfoldable pub pow : ℕ → ℕ → ℕ
unfolding mul
pow a zero = 1
pow a (suc e) = mul a (pow a e)

-- b is the inverse of a: "The inverse of 00 is 00 by agreement."
pub record Inverse (a b : ℕ) : Type 0 where
  pub byte : IsByte b
  pub of_zero : a ≡ 0 → b ≡ 0
  pub product : (a ≡ 0 → ⊥) → mul a b ≡ 1

-- "A constant table holds the 255 powers of 02, from exponent 0 to 254; each entry is 02 times the one before, and the entry after the last would be 01 again."
pub record PowerTable (t : List ℕ) : Type 0 where
  pub count : length t ≡ 255
  pub first : get_or t 0 0 ≡ 1
  pub next : (k : ℕ) → k + 1 < 255 → get_or t (k + 1) 0 ≡ mul 2 (get_or t k 0)
  pub wrap : mul 2 (get_or t 254 0) ≡ 1

-- The exponents that go with it: 02 to the power that stands at a is a, for every a but 00.
pub record LogTable (t : List ℕ) : Type 0 where
  pub count : length t ≡ 256
  pub small : (a : ℕ) → IsByte a → (a ≡ 0 → ⊥) → get_or t a 0 < 255
  pub power : (a : ℕ) → IsByte a → (a ≡ 0 → ⊥) → pow 2 (get_or t a 0) ≡ a
