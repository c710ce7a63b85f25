-- Zeros behind the copy of src add nothing. Assumes nothing.
use mathlib.Core.Path.{◌∙◌}
use native.Mathlib.Omega.{arith}
use Rattle.tiles.proofs.Choices.{plus-copy}
use Rattle.tiles.proofs.add_part.Goals as goal

pub returns : goal.returns
returns c = c.add_block-2.ensures ∙ plus-copy 64 _ _ _ (omega arith) c.copy_block.ensures
