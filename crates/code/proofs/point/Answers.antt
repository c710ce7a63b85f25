-- The point rule is the definition itself. Assumes nothing.
use mathlib.Core.Path.{refl}
use Rattle.code.specs.Code.{point}
use Rattle.code.proofs.point.Goals as goal

pub returns : goal.returns
unfolding point
returns c = refl
