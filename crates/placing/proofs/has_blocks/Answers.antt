-- No block is empty; a list has as many as the quotient of the lengths says. Assumes nothing.
use mathlib.Core.Path.{◌≡◌, sym, ◌∙◌}
use mathlib.Core.Bool.{Bool, true, false, true≢false}
use Prim.Native.Nat.{ℕ, zero, suc, ◌+◌, ◌*◌, ◌/◌, ◌^◌, ◌≤◌, ◌<◌}
use native.Mathlib.Nat.{suc-mul, le-div_iff_mul-le}
use native.Mathlib.Omega.{arith}
use Rattle.params.specs.Nodes.{has, within}
use Rattle.params.proofs.Sets.{within_has}
use Rattle.base.specs.Decided.{Decided}
use Rattle.base.proofs.Decisions.{decided-false}
use Rattle.placing.specs.Placed.{BlocksIn}
use Rattle.placing.proofs.has_blocks.Goals as goal

empty : (b set length : ℕ) → b ≡ 0 → Decided (BlocksIn b set length) false
empty b set length e = decided-false _ (λ h. omega (arith, h.0))

told : (b set length : ℕ) (answer : Bool) → 0 < b → set < 2 ^ 32 → answer ≡ within (length / b) set → Decided (BlocksIn b set length) answer
told b set length answer some word is =
    record {
      holds = λ e.
          (some, λ j hj. omega (arith, (le-div_iff_mul-le some).0 ((within_has (length / b) set word).0 (sym is ∙ e) (suc j) hj), suc-mul j b));
      fails = λ e all.
          true≢false (sym (is ∙ (within_has (length / b) set word).1 (λ i hi. bound i hi all.1)) ∙ e);
    }
  where
    bound : (i : ℕ) → has set i ≡ true → ((j : ℕ) → has set (suc j) ≡ true → j * b + b ≤ length) → i ≤ length / b
    bound zero hi all = omega arith
    bound (suc j) hi all = (le-div_iff_mul-le some).1 (omega (arith, all j hi, suc-mul j b))

pub returns-then-b-eq0 : goal.returns-then-b-eq0
returns-then-b-eq0 c = empty _ _ _ c.if-b-eq0.true

pub returns : goal.returns
returns c = told _ _ _ _ (omega arith) (omega arith) c.within.ensures
