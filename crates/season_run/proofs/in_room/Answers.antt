-- Each length decides, and then whether the state is one that a turn can start from. Assumes nothing.
use mathlib.Core.Path.{◌≡◌, refl, sym, subst}
use mathlib.Core.List.{List}
use Prim.Native.Nat.{ℕ}
use Rattle.std.specs.Prelude.{Option, None, Some, MatchOption}
use Rattle.season_run.specs.Season.{Room, Idle, BeginPost, TurnPost}
use Rattle.season_run.specs.declared.State.{State}
use Rattle.season_run.specs.declared.Turn.{Turn}
use Rattle.season_run.proofs.in_room.Goals as goal

-- nothing is done in buffers of other lengths
undone : (input : List ℕ) {buffer serials line : List ℕ} {t : Turn} {buffer' serials' line' : List ℕ} (from : Option State)
    → (Room buffer serials line → ⊥) → Idle buffer serials line t buffer' serials' line'
    → MatchOption from (BeginPost input buffer serials line t buffer' serials' line')
    (λ s. TurnPost input s buffer serials line t buffer' serials' line')
undone input None ne idle = record { served = λ room. absurd (ne room); refused = λ _. idle }
undone input (Some s) ne idle = record { served = λ h. absurd (ne h.0); refused = λ _. idle }

-- what is known of a state that is there
of-some : (P : Type 0) (Q : State → Type 0) {o : Option State} {s : State} → o ≡ Some s → Q s → MatchOption o P Q
of-some P Q e q = subst (λ (o : Option State). MatchOption o P Q) (sym e) q

pub returns-in_default-as_mut_array : goal.returns-in_default-as_mut_array
returns-in_default-as_mut_array c =
    undone c.args.input.now c.args.from (λ room. c.in_default-as_mut_array.ensures.cases room.serials_room)
    (record { ends = c.idle-in_default-as_mut_array.ensures; buffer_kept = c.in-Some.ensures.cases.same; serials_kept = refl; line_kept = refl })

pub returns-in_default-as_mut_array-2 : goal.returns-in_default-as_mut_array-2
returns-in_default-as_mut_array-2 c =
    undone c.args.input.now c.args.from (λ room. c.in_default-as_mut_array-2.ensures.cases room.line_room)
    (record {
      ends = c.idle-in_default-as_mut_array-2.ensures;
      buffer_kept = c.in-Some.ensures.cases.same;
      serials_kept = c.in-Some-as_mut_array.ensures.cases.same;
      line_kept = refl;
    })

pub turn_within-requires : goal.turn_within-requires
turn_within-requires c = record { standing = c.is_standing.ensures.holds c.if-is_standing.true }

pub returns-in-Some-from : goal.returns-in-Some-from
returns-in-Some-from c =
    let buffer = c.in-Some.ensures.cases in
    let serials = c.in-Some-as_mut_array.ensures.cases in
    let line = c.in-Some-as_mut_array-2.ensures.cases in
    let turned = rw line.same at (rw serials.same at (rw buffer.same at c.turn_within.ensures)) in
    of-some _ _ c.in-Some-from.is
    (record {
      served = λ _. turned;
      refused =
          λ ne. absurd (ne (
            record { record_room = buffer.long; serials_room = serials.long; line_room = line.long },
            c.is_standing.ensures.holds c.if-is_standing.true,
          ));
    })

pub returns-in-Some-2 : goal.returns-in-Some-2
returns-in-Some-2 c =
    of-some _ _ c.in-Some-from.is
    (record {
      served = λ h. absurd (c.is_standing.ensures.fails c.if-is_standing.false h.1);
      refused =
          λ _. record {
            ends = c.idle-in-Some-2.ensures;
            buffer_kept = c.in-Some.ensures.cases.same;
            serials_kept = c.in-Some-as_mut_array.ensures.cases.same;
            line_kept = c.in-Some-as_mut_array-2.ensures.cases.same;
          };
    })
