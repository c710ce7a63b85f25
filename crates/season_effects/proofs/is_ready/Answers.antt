-- Each test decides; of the event its blocks do. Assumes nothing.
use mathlib.Core.Path.{◌≡◌, refl, ap, ◌∙◌, subst}
use mathlib.Core.Bool.{Bool, not}
use Rattle.base.specs.Decided.{Decided}
use Rattle.base.proofs.Decisions.{decided-true}
use Rattle.gates.specs.Valid.{Valid}
use Rattle.gates.proofs.Valid.{k-fits}
use Rattle.season_file.specs.declared.Event.{Event}
use Rattle.season_answers.proofs.Records.{no_record, some-record}
use Rattle.season_effects.specs.Effects.{InFull, Accepted, Ready}
use Rattle.season_effects.proofs.Applied.{new-valid}
use Rattle.season_effects.proofs.Readiness.{not-ready, ready_by, box-fits, box-decided}
use Rattle.season_effects.proofs.is_ready.Goals as goal
use Rattle.season_effects.proofs.is_ready.Goals.{Else-is_none}

-- all tests before the event are passed
module _ (c : Else-is_none) where
  valid : Valid c.args.a
  valid = some-record _ _ c.record_length.ensures (c.is_none.ensures ∙ ap not c.if-is_none.false)

  -- the event's blocks decide
  decided : (t : Bool) (e : Event) → c.args.e ≡ e → Decided (InFull c.args.a c.args.input e) t
      → Decided (Ready c.args.a c.args.input c.args.e 32768 32 32768) t
  decided t e is d = ready_by _ _ _ _ _ _ t e is valid refl refl refl d

pub returns-then-is_none : goal.returns-then-is_none
returns-then-is_none c = not-ready _ _ _ _ _ _ (λ h. no_record _ _ c.record_length.ensures (c.is_none.ensures ∙ ap not c.if-is_none.true) h.valid)

pub overflow_mul-a : goal.overflow_mul-a
overflow_mul-a c = k-fits (valid (goal.at.overflow_mul-a c).Else-is_none)

pub overflow_mul-size : goal.overflow_mul-size
overflow_mul-size c =
    let h = (goal.at.overflow_mul-size c).Else-is_none in
    let is = c.in-Damage.is in
    box-fits h.args.a _ (valid h) (subst (Accepted h.args.a) is h.requires) _ c.size.ensures

pub overflow_mul-f : goal.overflow_mul-f
overflow_mul-f c =
    let s = c in
    k-fits (new-valid s.args.a _ (subst (Accepted s.args.a) c.in-Reconfigure.is s.requires))

pub returns-in-Update : goal.returns-in-Update
returns-in-Update c = decided (goal.at.returns-in-Update c).Else-is_none _ _ c.in-Update.is c.is_stretch.ensures

pub returns-in-Repair : goal.returns-in-Repair
returns-in-Repair c = decided (goal.at.returns-in-Repair c).Else-is_none _ _ c.in-Repair.is (decided-true _ tt)

pub returns-in-Damage : goal.returns-in-Damage
returns-in-Damage c =
    let h = (goal.at.returns-in-Damage c).Else-is_none in
    decided h _ _ c.in-Damage.is
    (box-decided h.args.a h.args.input _ _ _ c.size.ensures c.is_stretch-in-Damage.ensures)

pub returns-in-Decode : goal.returns-in-Decode
returns-in-Decode c = decided (goal.at.returns-in-Decode c).Else-is_none _ _ c.in-Decode.is (decided-true _ tt)

pub returns-in-Reconfigure : goal.returns-in-Reconfigure
returns-in-Reconfigure c = decided (goal.at.returns-in-Reconfigure c).Else-is_none _ _ c.in-Reconfigure.is c.is_stretch-in-Reconfigure.ensures
