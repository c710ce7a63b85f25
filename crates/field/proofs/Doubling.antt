-- 02·x of a byte as a shift, and a sum with 29 where a bit leaves the byte: compared with the product at the powers of two. Assumes nothing.
use mathlib.Core.Path.{◌≡◌, refl, sym, ap, ap₂, ◌∙◌, subst}
use Prim.Native.Nat.{ℕ, zero, suc, ◌*◌, ◌/◌, ◌%◌, ◌^◌, ◌<◌}
use native.Mathlib.Nat.{mod-lt, zero-lt-suc, not-suc-le-zero, le_of_suc-le-suc}
use native.Mathlib.Omega.{arith}
use lib.Dec.{eqb, eqb→eq}
use lib.Bits.{bit_xor}
use Rattle.base.proofs.Test.{below}
use Rattle.field.specs.Field.{IsByte, add, mul}
use Rattle.field.proofs.Addition.{agree, top, add_comm}
use Rattle.field.proofs.Multiplication.{shift-add, mul-add-right, mul-byte}

-- as the code doubles
unfoldable pub twice : ℕ → ℕ
twice x = bit_xor (x % 128 * 2) (x / 128 * 29)

-- below 128 nothing is reduced
pub double-small : (q : ℕ) → q < 128 → mul 2 q ≡ q * 2
unfolding mul
double-small q h =
    agree (mul 2) (λ x. x * 2) (mul-add-right 2) (λ a b. shift-add a b 1) 7
    (λ i hi. eqb→eq _ _ (below 7 (λ i. eqb (mul 2 (2 ^ i)) (2 ^ i * 2)) tt i hi)) q h

-- bit 7 leaves the byte
double-high : (d : ℕ) → d < 2 → mul 2 (d * 2 ^ 7) ≡ d * 29
unfolding mul
double-high zero h = refl
double-high (suc zero) h = refl
double-high (suc (suc d)) h = absurd (not-suc-le-zero (le_of_suc-le-suc (le_of_suc-le-suc h)))

pub twice-is : (x : ℕ) → IsByte x → twice x ≡ mul 2 x
unfolding twice add
twice-is x h =
    add_comm (x % 128 * 2) (x / 128 * 29)
    ∙ sym (ap (mul 2) (sym (top 7 x)) ∙ mul-add-right 2 (x / 128 * 128) (x % 128)
    ∙ ap₂ add (double-high (x / 128) (omega arith)) (double-small (x % 128) (mod-lt x (zero-lt-suc 127))))

pub twice-byte : (x : ℕ) → IsByte x → IsByte (twice x)
twice-byte x h = subst IsByte (sym (twice-is x h)) (mul-byte 2 x)
