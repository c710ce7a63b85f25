-- When so many words are done, the bytes of theirs are the sums, the others as they were. Assumes nothing.
use Prim.Native.Nat.{◌*◌}
use lib.ListN.{get_or}
use Rattle.base.specs.Parts.{Filled}
use Rattle.field.specs.Field.{add}
use Rattle.words.proofs.add_words.Given as goal

abbrev pub invariant-loop-word : goal.invariant-loop-word
invariant-loop-word l = Filled (λ q. add (get_or l.initial.dst q 0) (get_or l.src q 0)) (8 * l.word) l.initial.dst l.dst
