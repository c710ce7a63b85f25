-- Each kind has its function. Assumes nothing.
use mathlib.Core.Path.{◌≡◌, sym, ap, ◌∙◌, subst, subst⁻¹}
use lib.ListN.{length}
use Rattle.season_answers.specs.Answers.{answer_of}
use Rattle.season_file.specs.declared.Event.{Event}
use Rattle.season_effects.specs.Effects.{InFull, Accepted, Taken}
use Rattle.season_effects.proofs.applying.apply.Goals as goal
use Rattle.season_effects.proofs.applying.apply.Goals.{Start}

-- what is known of the event holds of its variant
found : (c : Start) (e : Event) → c.args.e ≡ e → InFull c.args.a (length c.args.input.now) e
found c e is = subst (InFull c.args.a (length c.args.input.now)) is c.requires.found

accepted : (c : Start) (e : Event) → c.args.e ≡ e → Accepted c.args.a e
accepted c e is = (c.args.serial, sym (ap (answer_of c.args.a c.args.serial) is) ∙ c.requires.e_value)

pub apply_update-requires : goal.apply_update-requires
apply_update-requires c = let s = (goal.at.apply_update-requires c).Start in
    record {
      valid = s.requires.valid;
      stretch = found s _ c.in-Update.is;
    }

pub apply_repair-requires : goal.apply_repair-requires
apply_repair-requires c = let s = c in
    record {
      valid = s.requires.valid;
    }

pub apply_damage-requires : goal.apply_damage-requires
apply_damage-requires c =
    let s = (goal.at.apply_damage-requires c).Start in
    let is = c.in-Damage.is in
    record {
      valid = s.requires.valid;
      stretch = found s _ is;
      accepted = accepted s _ is;
    }

pub apply_decode-requires : goal.apply_decode-requires
apply_decode-requires c =
    let s = (goal.at.apply_decode-requires c).Start in
    record {
      valid = s.requires.valid;
      accepted = accepted s _ c.in-Decode.is;
    }

pub apply_reconfigure-requires : goal.apply_reconfigure-requires
apply_reconfigure-requires c =
    let s = (goal.at.apply_reconfigure-requires c).Start in
    let is = c.in-Reconfigure.is in
    record {
      valid = s.requires.valid;
      stretch = found s _ is;
      accepted = accepted s _ is;
    }

pub returns-in-Update : goal.returns-in-Update
returns-in-Update c =
    let s = c in
    let r = c.apply_update in
    subst⁻¹
    (λ (e : Event).
    Taken s.args.a s.args.input.now s.args.serial e s.args.codeword.now s.args.serials.now s.args.room.now 0 r.result
    r.new.codeword r.new.serials s.args.room.now)
    c.in-Update.is (r.ensures s.args.room.now)

pub returns-in-Repair : goal.returns-in-Repair
returns-in-Repair c =
    let s = c in
    let r = c.apply_repair in
    subst⁻¹
    (λ (e : Event).
    Taken s.args.a s.args.input.now s.args.serial e s.args.codeword.now s.args.serials.now s.args.room.now 0 r.result
    r.new.codeword r.new.serials s.args.room.now)
    c.in-Repair.is (r.ensures s.args.input.now s.args.room.now s.args.serial)

pub returns-in-Damage : goal.returns-in-Damage
returns-in-Damage c =
    let s = c in
    let r = c.apply_damage in
    subst⁻¹
    (λ (e : Event).
    Taken s.args.a s.args.input.now s.args.serial e s.args.codeword.now s.args.serials.now s.args.room.now 0 r.result
    r.new.codeword s.args.serials.now s.args.room.now)
    c.in-Damage.is (r.ensures s.args.room.now s.args.serials.now s.args.serial)

pub returns-in-Decode : goal.returns-in-Decode
returns-in-Decode c =
    let s = c in
    let r = c.apply_decode in
    subst⁻¹
    (λ (e : Event).
    Taken s.args.a s.args.input.now s.args.serial e s.args.codeword.now s.args.serials.now s.args.room.now 0 r.result
    s.args.codeword.now s.args.serials.now r.new.room)
    c.in-Decode.is (r.ensures s.args.input.now s.args.serials.now s.args.serial s.told-serials)

pub returns-in-Reconfigure : goal.returns-in-Reconfigure
returns-in-Reconfigure c =
    let s = c in
    let r = c.apply_reconfigure in
    subst⁻¹
    (λ (e : Event).
    Taken s.args.a s.args.input.now s.args.serial e s.args.codeword.now s.args.serials.now s.args.room.now 0 r.result
    r.new.codeword r.new.serials r.new.room)
    c.in-Reconfigure.is (r.ensures s.args.serial)
