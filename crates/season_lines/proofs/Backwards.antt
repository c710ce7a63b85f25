-- Decimal digits written from the last to the first: what is left of the number is to be written before the digits that are there. Assumes nothing.
use mathlib.Core.Path.{◌≡◌, sym, ap, ap₂, ◌∙◌, subst}
use mathlib.Core.List.{List, ◌∷◌}
use Prim.Native.Nat.{ℕ, suc, ◌+◌, ◌/◌, ◌%◌, ◌^◌, ◌≤◌, ◌<◌}
use native.Mathlib.Nat.{pow-suc, div-lt_iff_lt-mul}
use native.Mathlib.Omega.{arith}
use lib.ListN.{length, drop, set, length-set}
use lib.Seq.{drop-cons, drop-set-lt, get_or-set_same}
use borrow.Author.Tests.{lt-ltb, le-ltb}
use Rattle.season_lines.specs.Lines.{digits_before}

pub fewer_digits : (most n : ℕ) → n < 10 ^ suc most → n / 10 < 10 ^ most
fewer_digits most n h = (div-lt_iff_lt-mul {k = 10} (omega arith)).1 (subst (λ (k : ℕ). n < k) (pow-suc 10 most) h)

-- the last of several digits, and the only one
pub last-digit : (most n : ℕ) (rest : List ℕ) → 10 ≤ n → digits_before (suc most) n rest ≡ digits_before most (n / 10) ((48 + n % 10) ∷ rest)
unfolding digits_before
last-digit most n rest h = simp (le-ltb n 10 h)

pub only-digit : (most n : ℕ) (rest : List ℕ) → n < 10 → digits_before (suc most) n rest ≡ (48 + n) ∷ rest
unfolding digits_before
only-digit most n rest h = simp (lt-ltb n 10 h)

module _ (start : ℕ) (digits : List ℕ) (inside : start < length digits) where
  stored : (x : ℕ) → drop start (set digits start x) ≡ x ∷ drop (suc start) digits
  stored x =
      drop-cons (set digits start x) start 0 (simp length-set inside)
      ∙ ap₂ ◌∷◌ (get_or-set_same digits start x 0 inside) (drop-set-lt (suc start) digits start x (omega arith))

  module _ (n : ℕ) where
    -- the number's last digit stored
    pub one_less : (n / 10 ≡ 0 → ⊥)
        → digits_before start (n / 10) (drop start (set digits start (48 + n % 10))) ≡ digits_before (suc start) n (drop (suc start) digits)
    one_less more =
        ap (digits_before start (n / 10)) (stored (48 + n % 10)) ∙ sym (last-digit start n (drop (suc start) digits) (omega (arith, more)))

    -- its first
    pub first-digit : n / 10 ≡ 0 → drop start (set digits start (48 + n % 10)) ≡ digits_before (suc start) n (drop (suc start) digits)
    first-digit last =
        let e : n % 10 ≡ n = omega arith in
        stored (48 + n % 10) ∙ ap (λ (d : ℕ). (48 + d) ∷ drop (suc start) digits) e ∙ sym (only-digit start n (drop (suc start) digits) (omega arith))
