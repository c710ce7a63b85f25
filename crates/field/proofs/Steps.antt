-- One step of the branch-free product takes the lowest bit off the factor and doubles the multiple. Assumes nothing.
use mathlib.Core.Path.{◌≡◌, sym, ap, ap₂, ◌∙◌, subst}
use Prim.Native.Nat.{ℕ, zero, suc, ◌+◌, ◌*◌, ◌/◌, ◌%◌, ◌^◌, ◌≤◌, ◌<◌}
use native.Mathlib.Nat.{not-suc-le-zero, le_of_suc-le-suc, mul-zero, mul-one, mod-lt, zero-lt-suc, mul-le-mul_left}
use native.Mathlib.Omega.{arith}
use lib.Pow.{shr-shr}
use Rattle.field.specs.Field.{IsByte, add, mul}
use Rattle.field.proofs.Addition.{top, add_assoc, add_comm, add-zero-left, add-zero-right}
use Rattle.field.proofs.Multiplication.{mul-add-left, mul_comm, mul_assoc, mul-zero-left, mul-one-left, mul-byte}
use Rattle.field.proofs.Doubling.{double-small}

bit-times : (b x : ℕ) → b < 2 → IsByte x → mul b x ≡ x * b
bit-times zero x hb hx = mul-zero-left x ∙ sym (mul-zero x)
bit-times (suc zero) x hb hx = mul-one-left x hx ∙ sym (mul-one x)
bit-times (suc (suc b)) x hb hx = absurd (not-suc-le-zero (le_of_suc-le-suc (le_of_suc-le-suc hb)))

pub bit-times-byte : (b x : ℕ) → b < 2 → IsByte x → x * b < 256
bit-times-byte b x hb hx = omega (arith, mul-le-mul_left x (le_of_suc-le-suc hb), mul-one x)

module _ (m x : ℕ) (hm : IsByte m) (hx : IsByte x) where
  half-times : mul (m / 2 * 2) x ≡ mul (m / 2) (mul 2 x)
  half-times =
      ap (λ (y : ℕ). mul y x) (sym (double-small (m / 2) (omega arith)) ∙ mul_comm 2 (m / 2)) ∙ mul_assoc (m / 2) 2 x

  -- one step: the lowest bit's multiple, and the rest of the factor times the double
  times-step : mul m x ≡ add (x * (m % 2)) (mul (m / 2) (mul 2 x))
  times-step =
      ap (λ (y : ℕ). mul y x) (sym (top 1 m)) ∙ mul-add-left (m / 2 * 2) (m % 2) x
      ∙ ap₂ add half-times (bit-times (m % 2) x (mod-lt m (zero-lt-suc 1)) hx)
      ∙ add_comm (mul (m / 2) (mul 2 x)) (x * (m % 2))

-- the state of the product's loop after i steps
pub record Stepped (c x i sum multiple rest : ℕ) : Type 0 where
  pub most : i ≤ 8
  pub left : rest ≡ c / 2 ^ i
  pub byte : IsByte multiple
  pub small : IsByte rest
  pub whole : add sum (mul rest multiple) ≡ mul c x

pub stepped-none : (c x : ℕ) → IsByte c → IsByte x → Stepped c x 0 0 x c
stepped-none c x hc hx =
    record { most = omega arith; left = omega arith; byte = hx; small = hc; whole = add-zero-left (mul c x) }

pub stepped-more : (c x i sum multiple rest next : ℕ) → i < 8 → next ≡ mul 2 multiple → Stepped c x i sum multiple rest
    → Stepped c x (i + 1) (add sum (multiple * (rest % 2))) next (rest / 2)
stepped-more c x i sum multiple rest next hi n s =
    record {
      most = omega arith;
      left = ap (λ (y : ℕ). y / 2) s.left ∙ shr-shr c i 1;
      byte = subst IsByte (sym n) (mul-byte 2 multiple);
      small = omega (arith, s.small);
      whole =
          ap (λ (y : ℕ). add (add sum (multiple * (rest % 2))) (mul (rest / 2) y)) n ∙ add_assoc sum (multiple * (rest % 2)) (mul (rest / 2) (mul 2 multiple))
          ∙ ap (add sum) (sym (times-step rest multiple s.small s.byte)) ∙ s.whole;
    }

pub stepped-all : (c x i sum multiple rest : ℕ) → IsByte c → 8 ≤ i → Stepped c x i sum multiple rest → sum ≡ mul c x
stepped-all c x i sum multiple rest hc hi s =
    sym (add-zero-right sum) ∙ ap (add sum) (sym (mul-zero-left multiple) ∙ ap (λ (y : ℕ). mul y multiple) (sym none)) ∙ s.whole
  where
    eight : i ≡ 8
    eight = omega (arith, s.most)

    none : rest ≡ 0
    none = s.left ∙ ap (λ (j : ℕ). c / 2 ^ j) eight ∙ omega arith
