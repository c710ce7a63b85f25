-- The count of events decides, and then what the file holds at the event's place. Assumes nothing.
use mathlib.Core.Path.{sym, ◌∙◌, subst}
use mathlib.Core.List.{[]}
use Prim.Native.Nat.{ℕ, ◌-◌}
use native.Mathlib.Omega.{arith}
use Rattle.season_lines.specs.Lines.{line_of}
use Rattle.season_run.specs.Season.{ended, Goes, faulty, place_of}
use Rattle.season_run.proofs.Turns.{ended-turn}
use Rattle.season_run.proofs.turning.turn_within.Goals as goal

pub returns-then-s-eq0 : goal.returns-then-s-eq0
returns-then-s-eq0 c = let s = c in c.finish.ensures s.args.codeword.now s.args.serials.now

pub try_event-requires : goal.try_event-requires
try_event-requires c =
    let s = c in
    record {
      standing = s.requires.standing;
      left_nonzero = omega (arith, c.if-s-eq0.false);
      at_value = sym c.parse.ensures ∙ c.in-Ok.is;
    }

pub returns-in-Err : goal.returns-in-Err
returns-in-Err c =
    let s = c in
    let buffer = s.args.codeword.now in
    let serials = s.args.serials.now in
    let here = place_of s.args.s buffer serials in
    ended-turn (Goes s.args.input.now here) s.args.s.number _ _ buffer serials s.args.line.now _ _ c.last_line.ensures
    (subst (λ (q : ℕ). Goes s.args.input.now here (line_of s.args.s.number c.in-Err.f.kind q []) ended) (sym c.from.ensures)
    (faulty (s.args.s.left - 1) _ (omega (arith, c.if-s-eq0.false)) (sym c.parse.ensures ∙ c.in-Err.is)))
