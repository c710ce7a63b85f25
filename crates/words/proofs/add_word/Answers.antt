-- The sum of two words of eight bytes holds the eight sums. Assumes nothing.
use mathlib.Core.Path.{ap, ap₂, ◌∙◌}
use Prim.Native.Nat.{ℕ}
use mir.Syntax.{w8}
use mir.Val.{Fits}
use native.Mathlib.Omega.{arith}
use borrow.Author.Rules.{rules}
use lib.Bits.{bit_xor}
use lib.ListN.{length, get_or}
use Rattle.field.specs.Field.{add}
use Rattle.words.specs.Words.{low_bytes}
use Rattle.words.proofs.Words.{sum-holds}
use Rattle.words.proofs.add_word.Goals as goal

pub returns : goal.returns
unfolding add
returns c =
    let s = c.args in
    let fit : (i : ℕ) → Fits w8 (get_or s.dst.now i 0) = search rules in
    c.put_word.ensures ∙ ap (low_bytes (length s.dst.now)) (ap₂ bit_xor c.word_of-x.ensures c.word_of-y.ensures)
    ∙ sum-holds s.dst.now s.src.now (λ i. omega (arith, (fit i).fits)) (λ i. omega (arith, (c.type_inv.src i).fits))
    (omega (arith, c.requires.0, c.requires.1))
