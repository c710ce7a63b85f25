-- Hexadecimal is right: two digits a byte, and read back they give the byte. One test over the sixteen digits; lists by induction. Assumes nothing.
use mathlib.Core.Path.{◌≡◌, refl, ap, ap₂, ◌∙◌}
use mathlib.Core.Bool.{cond}
use mathlib.Core.Logic.{◌⊎◌, inl, inr, ⊎_elim}
use mathlib.Core.List.{List, [], ◌∷◌, ◌++◌}
use Prim.Native.Nat.{ℕ, suc, ◌+◌, ◌-◌, ◌*◌, ◌/◌, ◌%◌, ◌≤◌, ◌<◌}
use native.Mathlib.Nat.{div-add-mod'}
use native.Mathlib.Omega.{arith}
use lib.Dec.{ltb, eqb, eqb→eq}
use lib.ListN.{length, get_or}
use borrow.Author.Tests.{lt-ltb, le-ltb}
use Rattle.base.proofs.Cases.{lt-or}
use Rattle.base.proofs.Test.{below}
use Rattle.season_lines.specs.Lines.{hex_digit, hex, message_field}

pub hex-length : (xs : List ℕ) → length (hex xs) ≡ 2 * length xs
unfolding hex
hex-length [] = refl
hex-length (x ∷ xs) = let h = hex-length xs in omega arith

-- the field of a message
pub message-short : (xs : List ℕ) → length (message_field xs) ≤ 1 + 2 * length xs
unfolding message_field
message-short [] = omega arith
message-short (x ∷ xs) = omega (arith, hex-length (x ∷ xs))

pub hex-append : (xs : List ℕ) (x : ℕ) → hex (xs ++ (x ∷ [])) ≡ hex xs ++ (hex_digit (x / 16) ∷ []) ++ (hex_digit (x % 16) ∷ [])
unfolding hex
hex-append [] x = refl
hex-append (y ∷ xs) x = ap (λ (l : List ℕ). hex_digit (y / 16) ∷ hex_digit (y % 16) ∷ l) (hex-append xs x)

-- ---- a digit is one of 0 to 9 or of a to f

pub hex-digit : (d : ℕ) → d < 16 → ((48 ≤ hex_digit d) × (hex_digit d ≤ 57)) ⊎ ((97 ≤ hex_digit d) × (hex_digit d ≤ 102))
unfolding hex_digit
hex-digit d h =
    ⊎_elim (λ (lt : d < 10). inl (rw (lt-ltb d 10 lt) (omega arith, omega arith))) (λ (le : 10 ≤ d). inr (rw (le-ltb d 10 le) (omega arith, omega arith)))
    (lt-or d 10)

-- ---- reading back

abbrev pub digit_value : ℕ → ℕ
digit_value c = cond (ltb c 58) (c - 48) (c - 87)

abbrev pub byte_of : ℕ → ℕ → ℕ
byte_of high low = digit_value high * 16 + digit_value low

digit-back : (d : ℕ) → d < 16 → digit_value (hex_digit d) ≡ d
unfolding hex_digit
digit-back d h = eqb→eq _ _ (below 16 (λ d. eqb (digit_value (hex_digit d)) d) tt d h)

pub byte-back : (x : ℕ) → x < 256 → byte_of (hex_digit (x / 16)) (hex_digit (x % 16)) ≡ x
byte-back x h =
    ap₂ (λ (high low : ℕ). high * 16 + low) (digit-back (x / 16) (omega arith)) (digit-back (x % 16) (omega arith)) ∙ div-add-mod' x 16

-- the bytes of a message's digits
abbrev pub unhex : List ℕ → List ℕ
unhex [] = []
unhex (c ∷ []) = []
unhex (c ∷ d ∷ cs) = byte_of c d ∷ unhex cs

pub hex-back : (xs : List ℕ) → ((i : ℕ) → i < length xs → get_or xs i 0 < 256) → unhex (hex xs) ≡ xs
unfolding hex
hex-back [] h = refl
hex-back (x ∷ xs) h = ap₂ ◌∷◌ (byte-back x (h 0 (omega arith))) (hex-back xs (λ i k. h (suc i) (omega arith)))
