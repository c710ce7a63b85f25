-- A computed test over all bytes shows what it is. Assumes nothing.
use mathlib.Core.Path.{ap₂, ◌∙◌}
use Prim.Native.Nat.{ℕ, ◌+◌, ◌*◌}
use native.Mathlib.Omega.{arith}
use lib.Bits.{bit_and}
use Rattle.words.specs.Words.{word}
use Rattle.picks.specs.Picks.{bit}
use Rattle.picks.proofs.Words.{spread-by}
use Rattle.picks.proofs.spread.Goals as goal

pub returns : goal.returns
unfolding bit word
returns c =
    ap₂ (λ (low high : ℕ). bit_and (low * _) _ + high) c.from-copies.ensures c.from.ensures ∙ spread-by _ _ _ _ _ (omega arith) tt
