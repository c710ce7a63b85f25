-- The digits behind the space. Assumes nothing.
use mathlib.Core.List.{[], ◌∷◌}
use native.Mathlib.Omega.{arith}
use Rattle.season_lines.proofs.Texts.{put_then}
use Rattle.season_lines.proofs.put_field.Goals as goal

pub returns : goal.returns
returns c =
    put_then (32 ∷ []) _ _ _ _ _ _ _ (omega (arith, c.requires)) c.put_byte-start.ensures c.put_number.ensures
