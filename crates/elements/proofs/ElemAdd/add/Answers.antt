-- The code's exclusive or is the definition itself. Assumes nothing.
use mathlib.Core.Path.{refl}
use Rattle.field.specs.Field.{add}
use Rattle.elements.proofs.ElemAdd.add.Goals as goal

pub returns : goal.returns
unfolding add
returns c = refl
