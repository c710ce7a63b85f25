-- A refused event leaves all as it was; of an accepted one the test decides. Assumes nothing.
use mathlib.Core.Path.{◌≡◌, refl, sym, ap, ◌∙◌, subst⁻¹}
use mathlib.Core.List.{List}
use Prim.Native.Nat.{ℕ}
use lib.ListN.{length}
use Rattle.std.specs.Prelude.{Result, Ok, Err}
use Rattle.std.proofs.lemmas.Result.{err_from_is_err_and}
use Rattle.gates.specs.declared.Refusal.{Refusal}
use Rattle.params.specs.declared.Params.{Params}
use Rattle.season_answers.specs.Answers.{answer_of}
use Rattle.season_file.specs.declared.Event.{Event}
use Rattle.season_effects.specs.Effects.{Ready, Still, EffectPost}
use Rattle.season_effects.specs.declared.Effect.{Effect}
use Rattle.season_effects.proofs.Applied.{refused-applied}
use Rattle.season_effects.proofs.take_effect.Goals as goal

pub returns-in_err-answer : goal.returns-in_err-answer
returns-in_err-answer c =
    let s = c.args in
    let p = err_from_is_err_and c.from_residual.result c.from_residual.ensures.1 in
    subst⁻¹
    (λ (r : Result Effect Refusal).
    EffectPost s.a s.input.now s.serial s.e s.codeword.now s.serials.now s.room.now r s.codeword.now s.serials.now s.room.now)
    (p.1 ∙ ap (λ (q : Refusal). Err q) p.2)
    (refused-applied _ s.a s.input.now s.serial s.e s.codeword.now s.serials.now s.room.now c.in_err-answer.ensures)

pub is_ready-requires : goal.is_ready-requires
is_ready-requires c = (c.args.serial, sym c.in_ok-answer.ensures)

-- nothing is done in buffers of other lengths
undone : {a : Params} {input : List ℕ} {serial : ℕ} {e : Event} {buffer serials room : List ℕ} {r : Effect} {buffer' serials' room' : List ℕ} → 0 ≡ answer_of a serial e
    → (Ready a (length input) e (length buffer) (length serials) (length room) → ⊥) → Still a buffer serials room r buffer' serials' room'
    → EffectPost a input serial e buffer serials room (Ok r) buffer' serials' room'
undone is ne still = record { answer_is = is; served = λ h. absurd (ne h); refused = λ _. still }

pub returns-in_default-as_mut_array : goal.returns-in_default-as_mut_array
returns-in_default-as_mut_array c =
    rw c.silent-in_default-as_mut_array.ensures
    (undone c.in_ok-answer.ensures (λ h. c.in_default-as_mut_array.ensures.cases h.serials_room)
    (record { params_kept = refl; nothing_printed = refl; buffer_kept = c.in-Some.ensures.cases.same; serials_kept = refl; room_kept = refl }))

pub returns-in_default-as_mut_array-2 : goal.returns-in_default-as_mut_array-2
returns-in_default-as_mut_array-2 c =
    rw c.silent-in_default-as_mut_array-2.ensures
    (undone c.in_ok-answer.ensures (λ h. c.in_default-as_mut_array-2.ensures.cases h.work_room)
    (record {
      params_kept = refl;
      nothing_printed = refl;
      buffer_kept = c.in-Some.ensures.cases.same;
      serials_kept = c.in-Some-as_mut_array.ensures.cases.same;
      room_kept = refl;
    }))

pub apply-requires-clause-valid : goal.apply-requires-clause-valid
apply-requires-clause-valid c = (c.is_ready.ensures.holds c.if-is_ready.true).valid

pub apply-requires-clause-found : goal.apply-requires-clause-found
apply-requires-clause-found c = (c.is_ready.ensures.holds c.if-is_ready.true).found

pub returns-then-is_ready : goal.returns-then-is_ready
returns-then-is_ready c =
    let buffer = c.in-Some.ensures.cases in
    let serials = c.in-Some-as_mut_array.ensures.cases in
    let room = c.in-Some-as_mut_array-2.ensures.cases in
    let p = c.is_ready.ensures.holds c.if-is_ready.true in
    let taken = rw room.same at (rw serials.same at (rw buffer.same at c.apply.ensures)) in
    record {
      answer_is = c.in_ok-answer.ensures;
      served = λ _. taken;
      refused =
          λ ne. absurd (ne (record { valid = p.valid; found = p.found; record_room = buffer.long; serials_room = serials.long; work_room = room.long }));
    }

pub returns : goal.returns
returns c =
    rw c.silent-2.ensures
    (undone c.in_ok-answer.ensures
    (λ h. c.is_ready.ensures.fails c.if-is_ready.false
    (record { valid = h.valid; found = h.found; record_room = refl; serials_room = refl; work_room = refl }))
    (record {
      params_kept = refl;
      nothing_printed = refl;
      buffer_kept = c.in-Some.ensures.cases.same;
      serials_kept = c.in-Some-as_mut_array.ensures.cases.same;
      room_kept = c.in-Some-as_mut_array-2.ensures.cases.same;
    }))
