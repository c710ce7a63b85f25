-- Each length decides, and then the stretch's end. Assumes nothing.
use native.Mathlib.Omega.{arith}
use Rattle.season_effects.proofs.Readiness.{other-count, too_many, ends_by}
use Rattle.season_effects.proofs.is_stretch.Goals as goal

pub returns-then-s-count : goal.returns-then-s-count
returns-then-s-count c = other-count _ _ _ c.if-s-count.true

pub returns-then-input-count : goal.returns-then-input-count
returns-then-input-count c = too_many _ _ _ c.if-input-count.true

pub returns : goal.returns
returns c = ends_by _ _ _ c.if-s-count.false (omega (arith, c.if-input-count.false))
