-- What is left of the number is to be written before the digits that are there, from place `start` on. Assumes nothing.
use mathlib.Core.Path.{◌≡◌}
use Prim.Native.Nat.{◌^◌, ◌<◌}
use lib.ListN.{drop}
use Rattle.season_lines.specs.Lines.{digits_before, decimal}
use Rattle.season_lines.proofs.last_digits.Given as goal

abbrev pub invariant-loop-start : goal.invariant-loop-start
invariant-loop-start l = (l.rest < 10 ^ l.start) × (digits_before l.start l.rest (drop l.start l.digits) ≡ decimal l.number)
