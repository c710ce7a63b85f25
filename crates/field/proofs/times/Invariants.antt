-- After so many steps: what is summed up, and the rest of the factor times the present multiple, make the product. Assumes nothing.
use Rattle.field.proofs.Steps.{Stepped}
use Rattle.field.proofs.times.Given as goal

abbrev pub invariant-loop : goal.invariant-loop
invariant-loop l = Stepped l.x l.c l.counter l.sum l.multiple l.rest
