-- After i turns the digits of the first i bytes are put. Assumes nothing.
use Prim.Native.Nat.{◌+◌, ◌*◌}
use lib.ListN.{take}
use Rattle.season_lines.specs.Lines.{hex}
use Rattle.season_lines.specs.Writing.{TextAt}
use Rattle.season_lines.proofs.put_hex.Given as goal

abbrev pub invariant-loop-i : goal.invariant-loop-i
invariant-loop-i l = TextAt (hex (take l.i l.message)) l.at l.initial.line (l.at + 2 * l.i) l.line
