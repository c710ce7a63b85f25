-- By the kind. Assumes nothing.
use Rattle.season_answers.proofs.Gated.{extent, update-answer, repair-answer, damage-answer, decode-answer}
use Rattle.season_answers.proofs.answer.Goals as goal

pub returns-in-Update : goal.returns-in-Update
returns-in-Update c = update-answer _ _ _ _ _ _ (extent _ _ _ c.saturating_mul-codeword.ensures) (extent _ _ _ c.saturating_mul-message.ensures) _ c.in-Update.is c.update_gate.ensures

pub returns-in-Repair : goal.returns-in-Repair
returns-in-Repair c = repair-answer _ _ _ _ _ _ (extent _ _ _ c.saturating_mul-codeword.ensures) c.in-Repair.is c.repair_gate.ensures

pub returns-in-Damage : goal.returns-in-Damage
returns-in-Damage c = damage-answer _ _ _ _ _ c.in-Damage.is c.damage_gate.ensures

pub returns-in-Decode : goal.returns-in-Decode
returns-in-Decode c = decode-answer _ _ _ _ _ _ (extent _ _ _ c.saturating_mul-codeword.ensures) (extent _ _ _ c.saturating_mul-message.ensures) _ c.in-Decode.is c.decode_gate.ensures
