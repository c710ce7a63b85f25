-- The lengths found get the answer of those lent. Assumes nothing.
use Rattle.season_answers.proofs.Gated.{extent, reconfigure-answer}
use Rattle.season_answers.proofs.reconfigure_answer.Goals as goal

pub returns : goal.returns
returns c = reconfigure-answer _ _ _ _ _ _ (extent _ _ _ c.saturating_mul-codeword.ensures) (extent _ _ _ c.saturating_mul-new.ensures) (extent _ _ _ c.saturating_mul-message.ensures) c.reconfigure_gate.ensures
