-- No event is left, so the bytes that are left decide. Assumes nothing.
use mathlib.Core.Path.{sym, subst}
use mathlib.Core.List.{[]}
use Prim.Native.Nat.{ℕ}
use native.Mathlib.Omega.{arith}
use Rattle.season_lines.specs.Lines.{line_of}
use Rattle.season_run.specs.Season.{ended, Goes, over, leftover, place_of}
use Rattle.season_run.proofs.Turns.{silent-turn, ended-turn}
use Rattle.season_run.proofs.turning.finish.Goals as goal

pub returns-then-input-s : goal.returns-then-input-s
returns-then-input-s c =
    λ buffer serials.
    let s = c in
    silent-turn (Goes s.args.input.now (place_of s.args.s buffer serials)) buffer serials s.args.line.now _
    c.idle.ensures (over s.requires.left_value c.if-input-s.true)

pub returns : goal.returns
returns c =
    λ buffer serials.
    let s = c in
    let here = place_of s.args.s buffer serials in
    ended-turn (Goes s.args.input.now here) s.args.s.number 0 _ buffer serials s.args.line.now _ _ c.last_line.ensures
    (subst (λ (q : ℕ). Goes s.args.input.now here (line_of s.args.s.number 0 q []) ended) (sym c.from.ensures)
    (leftover s.requires.left_value (omega (arith, c.if-input-s.false))))
