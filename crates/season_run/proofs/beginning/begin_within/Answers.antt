-- A fault is event 0's. Assumes nothing.
use mathlib.Core.Path.{sym, ◌∙◌, subst}
use mathlib.Core.List.{[]}
use Prim.Native.Nat.{ℕ}
use Rattle.season_lines.specs.Lines.{line_of}
use Rattle.season_run.specs.Season.{ended, Opens, faulty}
use Rattle.season_run.proofs.Turns.{ended-turn}
use Rattle.season_run.proofs.beginning.begin_within.Goals as goal

pub set_up-requires : goal.set_up-requires
set_up-requires c = record { input_value = sym c.«open».ensures ∙ c.in-Ok.is }

pub returns-in-Err : goal.returns-in-Err
returns-in-Err c =
    let s = c in
    ended-turn (Opens s.args.input.now) 0 0 _ s.args.codeword.now s.args.serials.now s.args.line.now _ _ c.last_line.ensures
    (subst (λ (q : ℕ). Opens s.args.input.now (line_of 0 0 q []) ended) (sym c.from.ensures) (faulty _ (sym c.«open».ensures ∙ c.in-Err.is)))
