-- Calls of the run lead here, and the writer has been given their lines; with each turn fewer events are left. Assumes nothing.
use Rattle.std.proofs.Common.{ℕ, List}
use Rattle.std.specs.Io.KnownBytes.{Appends}
use Rattle.season_run.specs.Program.{Calls}
use Rattle.season.proofs.Turning.{left}
use Rattle.season.proofs.run_within.Given as goal

abbrev pub invariant-loop-t : goal.invariant-loop-t
invariant-loop-t g l =
    (lines : List ℕ)
    × Calls l.fn.input l.fn.codeword l.fn.serials l.fn.line lines l.t.next l.codeword l.serials l.line
    × Appends (g.W.Write.contents l.fn.out) (g.W.Write.contents l.out) lines

abbrev pub decreases-loop-t : goal.decreases-loop-t
decreases-loop-t g l = left l.t.next
