-- One store. Assumes nothing.
use Rattle.season_lines.proofs.Texts.{put_one}
use Rattle.season_lines.proofs.put_byte.Goals as goal

pub returns : goal.returns
returns c = put_one _ _ _ c.requires
