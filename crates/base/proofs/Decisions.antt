-- A proposition that holds is decided by true, one that does not by false; what a test of two numbers tells. Assumes nothing.
use mathlib.Core.Path.{◌≡◌, sym, ◌∙◌}
use mathlib.Core.Bool.{Bool, true, false, not, true≢false}
use Prim.Native.Nat.{ℕ}
use borrow.Author.Tests.{not-true, not-false, eqb-true, eqb-false}
use lib.Dec.{eqb}
use Rattle.base.specs.Decided.{Decided}

pub decided-true : (P : Type 0) → P → Decided P true
decided-true P h = record { holds = λ e. h; fails = λ e. absurd (true≢false e) }

pub decided-false : (P : Type 0) → (P → ⊥) → Decided P false
decided-false P h = record { holds = λ e. absurd (true≢false (sym e)); fails = λ e. h }

-- ---- two numbers compared, where the code goes on if they are equal

module _ (l m : ℕ) (answer : Bool) (is : answer ≡ eqb l m) where
  pub told-equal : not answer ≡ false → l ≡ m
  told-equal left = eqb-true l m (sym is ∙ not-false answer left)

  pub told-other : not answer ≡ true → l ≡ m → ⊥
  told-other taken = eqb-false l m (sym is ∙ not-true answer taken)
