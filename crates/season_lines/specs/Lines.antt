-- The line that an event prints (document 01, "The season program"). Assumes nothing.
use Rattle.std.specs.Prelude.{◌≡◌, cond, List, [], ◌∷◌, ◌++◌, ℕ, zero, suc, ◌+◌, ◌*◌, ◌/◌, ◌%◌, ◌≤◌, ltb, length, drop}

-- the last `most` decimal digits of n, without leading zeros, before the rest
unfoldable pub digits_before : ℕ → ℕ → List ℕ → List ℕ
digits_before zero n rest = rest
digits_before (suc most) n rest = cond (ltb n 10) ((48 + n) ∷ rest) (digits_before most (n / 10) ((48 + n % 10) ∷ rest))

-- a number of up to 20 digits in decimal
unfoldable pub decimal : ℕ → List ℕ
decimal n = digits_before 20 n []

-- "two lower-case hexadecimal digits a byte"
unfoldable pub hex_digit : ℕ → ℕ
hex_digit d = cond (ltb d 10) (48 + d) (87 + d)

unfoldable pub hex : List ℕ → List ℕ
hex [] = []
hex (x ∷ xs) = hex_digit (x / 16) ∷ hex_digit (x % 16) ∷ hex xs

-- the field of an accepted reading, which is never empty; every other event has none
unfoldable pub message_field : List ℕ → List ℕ
message_field [] = []
message_field (x ∷ xs) = 32 ∷ hex (x ∷ xs)

-- "Each event prints its number from 1, kind, answer, and after an accepted reading the message, .. with single spaces between the fields and a line end
-- (byte 0A)."
unfoldable pub line_of : ℕ → ℕ → ℕ → List ℕ → List ℕ
line_of number kind answer message = decimal number ++ 32 ∷ decimal kind ++ 32 ∷ decimal answer ++ message_field message ++ 10 ∷ []

-- a length that is enough for every line with this message
abbrev pub room : List ℕ → ℕ
room message = 64 + 2 * length message

-- `new` begins with the text, which is `written` bytes long, and is as `old` behind it
pub record Wrote (text old : List ℕ) (written : ℕ) (new : List ℕ) : Type 0 where
  pub count : written ≡ length text
  pub bytes : new ≡ text ++ drop (length text) old

-- the line, if the buffer has the room; else nothing is written
pub record LinePost (number kind answer : ℕ) (message old : List ℕ) (written : ℕ) (new : List ℕ) : Type 0 where
  pub served : room message ≤ length old → Wrote (line_of number kind answer message) old written new
  pub refused : (room message ≤ length old → ⊥) → Wrote [] old written new
