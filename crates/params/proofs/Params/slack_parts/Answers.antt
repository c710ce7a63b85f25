-- By definition. Assumes nothing.
use Rattle.params.specs.Params.{slack_parts}
use Rattle.params.proofs.Params.slack_parts.Goals as goal

pub returns : goal.returns
unfolding slack_parts
returns c = c.saturating_sub.ensures
