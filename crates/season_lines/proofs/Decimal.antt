-- Decimal is right: each byte is a digit, the digits read in base ten give the number back, and only 0 begins with the digit 0. By induction on the digits
-- that are left. Assumes nothing.
use mathlib.Core.Path.{◌≡◌, refl, ap, ◌∙◌}
use mathlib.Core.Logic.{⊎_elim}
use mathlib.Core.List.{List, [], ◌∷◌}
use Prim.Native.Nat.{ℕ, zero, suc, ◌+◌, ◌-◌, ◌*◌, ◌/◌, ◌%◌, ◌^◌, ◌≤◌, ◌<◌}
use native.Mathlib.Nat.{div-add-mod'}
use native.Mathlib.Omega.{arith}
use lib.ListN.{length, get_or}
use Rattle.base.proofs.Cases.{lt-or}
use Rattle.season_lines.specs.Lines.{digits_before, decimal}
use Rattle.season_lines.proofs.Backwards.{fewer_digits, last-digit, only-digit}

-- ---- at most so many digits

short : (most n : ℕ) (rest : List ℕ) → length (digits_before most n rest) ≤ most + length rest
unfolding digits_before
short zero n rest = omega arith
short (suc most) n rest =
    ⊎_elim (λ (lt : n < 10). rw (only-digit most n rest lt) (omega arith))
    (λ (le : 10 ≤ n). rw (last-digit most n rest le) (omega (arith, short most (n / 10) ((48 + n % 10) ∷ rest)))) (lt-or n 10)

pub decimal-short : (n : ℕ) → length (decimal n) ≤ 20
unfolding decimal
decimal-short n = short 20 n []

-- ---- digits

abbrev IsDigit : ℕ → Type 0
IsDigit x = (48 ≤ x) × (x ≤ 57)

abbrev AllDigits : List ℕ → Type 0
AllDigits [] = Unit
AllDigits (x ∷ xs) = IsDigit x × AllDigits xs

digits-only : (most n : ℕ) (rest : List ℕ) → AllDigits rest → AllDigits (digits_before most n rest)
unfolding digits_before
digits-only zero n rest h = h
digits-only (suc most) n rest h =
    ⊎_elim (λ (lt : n < 10). rw (only-digit most n rest lt) ((omega arith, omega arith), h))
    (λ (le : 10 ≤ n). rw (last-digit most n rest le) (digits-only most (n / 10) ((48 + n % 10) ∷ rest) ((omega arith, omega arith), h))) (lt-or n 10)

at_each : (xs : List ℕ) → AllDigits xs → (i : ℕ) → i < length xs → (48 ≤ get_or xs i 0) × (get_or xs i 0 ≤ 57)
at_each [] h i k = absurd (omega arith)
at_each (x ∷ xs) h zero k = h.0
at_each (x ∷ xs) h (suc i) k = at_each xs h.1 i (omega arith)

-- every byte of a decimal number is one of the ten digits
pub decimal-digits : (n i : ℕ) → i < length (decimal n) → (48 ≤ get_or (decimal n) i 0) × (get_or (decimal n) i 0 ≤ 57)
unfolding decimal
decimal-digits n = at_each (decimal n) (digits-only 20 n [] tt)

-- ---- the value in base ten

-- the number that digits behind the number n give
abbrev pub value_from : ℕ → List ℕ → ℕ
value_from n [] = n
value_from n (x ∷ xs) = value_from (n * 10 + (x - 48)) xs

abbrev pub value_of : List ℕ → ℕ
value_of xs = value_from 0 xs

value_before : (most n : ℕ) (rest : List ℕ) → n < 10 ^ most → value_of (digits_before most n rest) ≡ value_from n rest
unfolding digits_before
value_before zero n rest h = let z : 0 ≡ n = omega arith in ap (λ (m : ℕ). value_from m rest) z
value_before (suc most) n rest h =
    ⊎_elim
    (λ (lt : n < 10).
    let e : 0 * 10 + (48 + n - 48) ≡ n = omega arith in ap value_of (only-digit most n rest lt) ∙ ap (λ (m : ℕ). value_from m rest) e)
    (λ (le : 10 ≤ n).
    let e : n / 10 * 10 + (48 + n % 10 - 48) ≡ n = omega (arith, div-add-mod' n 10) in
    ap value_of (last-digit most n rest le) ∙ value_before most (n / 10) ((48 + n % 10) ∷ rest) (fewer_digits most n h)
    ∙ ap (λ (m : ℕ). value_from m rest) e)
    (lt-or n 10)

pub decimal-value : (n : ℕ) → n < 10 ^ 20 → value_of (decimal n) ≡ n
unfolding decimal
decimal-value n h = value_before 20 n [] h

-- ---- no leading zero

leading : (most n : ℕ) (rest : List ℕ) → n < 10 ^ most → get_or (digits_before most n rest) 0 0 ≡ 48 → n ≡ 0
unfolding digits_before
leading zero n rest h e = omega arith
leading (suc most) n rest h e =
    ⊎_elim
    (λ (lt : n < 10). let f : 48 + n ≡ 48 = rw (only-digit most n rest lt) at e in omega arith)
    (λ (le : 10 ≤ n).
    let z : n / 10 ≡ 0 = leading most (n / 10) ((48 + n % 10) ∷ rest) (fewer_digits most n h) (rw (last-digit most n rest le) at e) in
    absurd (omega arith))
    (lt-or n 10)

pub no-leading-zero : (n : ℕ) → n < 10 ^ 20 → get_or (decimal n) 0 0 ≡ 48 → n ≡ 0
unfolding decimal
no-leading-zero n h e = leading 20 n [] h e

-- 0 itself is the one digit 0
pub decimal-zero : decimal 0 ≡ 48 ∷ []
unfolding decimal digits_before
decimal-zero = refl
