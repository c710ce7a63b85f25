-- The event is ready for its effect, and the line has the room for any message. Assumes nothing.
use mathlib.Core.Path.{sym, ◌∙◌, subst}
use Prim.Native.Nat.{ℕ}
use native.Mathlib.Omega.{arith}
use lib.ListN.{replicate, length-replicate}
use lib.Seq.{length-take-le}
use Rattle.gates.specs.Refusals.{answer}
use Rattle.season_effects.specs.Effects.{Taken}
use Rattle.season_effects.specs.declared.Effect.{Effect}
use Rattle.season_run.proofs.Events.{found-good}
use Rattle.season_run.proofs.Turns.{event-turn}
use Rattle.season_run.proofs.turning.try_event.Goals as goal
use Rattle.season_run.proofs.turning.try_event.Goals.{After-told-answer}

-- what the event leaves, since it is ready
left : (c : After-told-answer)
    → Taken c.args.s.params c.args.input.now c.args.s.number c.args.found.event c.args.codeword.now c.args.serials.now (replicate 32768 0)
    (answer c.take_effect-taken.result) c.told-answer.result.1 c.take_effect-taken.new.codeword c.take_effect-taken.new.serials c.take_effect-taken.new.room
left c =
    let a = c.args in
    let t = c.take_effect-taken in
    let p = c.requires in
    subst
    (λ (r : Effect).
    Taken a.s.params a.input.now a.s.number a.found.event a.codeword.now a.serials.now (replicate 32768 0) (answer t.result) r t.new.codeword t.new.serials t.new.room)
    (sym c.told-answer.ensures.1)
    (t.ensures.served
    (record {
      valid = p.standing.valid;
      found = (found-good a.s.params a.input.now a.s.at a.found p.at_value).found;
      record_room = c.told-codeword;
      serials_room = c.told-serials;
      work_room = length-replicate {A = ℕ} 32768 0;
    }))

pub overflow_cast-serial : goal.overflow_cast-serial
overflow_cast-serial c = omega (arith, c.requires.standing.countable)

pub slice_bounds-write_line-end : goal.slice_bounds-write_line-end
slice_bounds-write_line-end c =
    let taken = left (goal.at.slice_bounds-write_line-end c).After-told-answer in
    omega (arith, taken.printed_fits, c.take_effect-taken.auto.room, length-replicate {A = ℕ} 32768 0)

pub slice_bounds-write_line-end-2 : goal.slice_bounds-write_line-end-2
slice_bounds-write_line-end-2 c =
    let taken = left (goal.at.slice_bounds-write_line-end-2 c).After-told-answer in
    sym (length-take-le _ c.take_effect-taken.new.room (omega (arith, taken.printed_fits, c.take_effect-taken.auto.room, length-replicate {A = ℕ} 32768 0)))

pub returns : goal.returns
returns c =
    let s = c in
    let e = c.take_effect-taken in
    let r = c.told-answer.result.1 in
    let taken = left (goal.at.returns c).After-told-answer in
    event-turn s.args.input.now s.args.s s.args.found s.requires.at_value s.args.codeword.now s.args.serials.now s.args.line.now
    c.told-line r.params _ _ _ _ _ _ _ s.requires.left_nonzero taken.effected
    (omega (arith, taken.printed_fits, length-take-le r.printed e.new.room (omega (arith, taken.printed_fits, e.auto.room, length-replicate {A = ℕ} 32768 0))))
    (c.from.ensures ∙ c.kind.ensures) (c.told-answer.ensures.0 ∙ e.ensures.answer_is) c.write_line-written.ensures
