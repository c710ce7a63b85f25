-- The product is not cut off where the parameters are valid, and check accepts a record of its length only there. Assumes nothing.
use mathlib.Core.Path.{◌≡◌, sym, ◌∙◌}
use Prim.Native.Nat.{◌*◌}
use Rattle.gates.specs.Valid.{Valid}
use Rattle.gates.proofs.Valid.{check-accepted}
use Rattle.gates.proofs.Refusals.{ok-is-0, err-not-0}
use Rattle.season_answers.proofs.Gated.{n-found, extent}
use Rattle.season_answers.proofs.record_length.Goals as goal
use Rattle.season_answers.proofs.record_length.Goals.{After-saturating_mul-length}

whole : (c : After-saturating_mul-length) → Valid c.args.a → c.saturating_mul-length.result ≡ c.args.a.n * c.args.a.b
whole c v = n-found v (extent _ _ _ c.saturating_mul-length.ensures)

pub returns-then-is_err : goal.returns-then-is_err
returns-then-is_err c =
    λ v.
    err-not-0 _ (sym c.is_err.ensures.value ∙ c.if-is_err.true)
    (c.check_gate.ensures
    ∙ (check-accepted _ _).1 (record { valid = v; codeword_length = whole (goal.at.returns-then-is_err c).After-saturating_mul-length v }))

pub returns : goal.returns
returns c =
    let v =
    ((check-accepted c.args.a c.saturating_mul-length.result).0
    (sym c.check_gate.ensures ∙ ok-is-0 _ (sym c.is_err.ensures.value ∙ c.if-is_err.false))).valid in
    (v, whole (goal.at.returns c).After-saturating_mul-length v)
