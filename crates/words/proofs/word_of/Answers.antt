-- The library's word, byte by byte. Assumes nothing.
use mathlib.Core.Path.{ap}
use Prim.Native.Nat.{ℕ}
use native.Mathlib.Omega.{arith}
use lib.ListN.{get_or}
use Rattle.words.specs.Words.{word, word_of}
use Rattle.words.proofs.word_of.Goals as goal

pub returns : goal.returns
unfolding word_of word
returns c = omega (arith, c.from_le_bytes.ensures, ap (λ (m : ℕ). word m (λ s. get_or c.args.bytes.now s 0)) c.requires)
