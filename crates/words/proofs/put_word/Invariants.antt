-- After s turns the first s bytes are written, and what is left of the word begins with the next. Assumes nothing.
use mathlib.Core.Path.{◌≡◌}
use Prim.Native.Nat.{◌/◌, ◌%◌, ◌^◌}
use Rattle.base.specs.Parts.{Filled}
use Rattle.words.proofs.put_word.Given as goal

abbrev pub invariant-loop-byte : goal.invariant-loop-byte
invariant-loop-byte l = Filled (λ q. l.word / 256 ^ q % 256) l.byte-index l.initial.bytes l.bytes × (l.rest ≡ l.word / 256 ^ l.byte-index)
