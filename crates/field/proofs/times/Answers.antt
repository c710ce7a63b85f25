use mathlib.Core.Path.{◌∙◌}
use native.Mathlib.Omega.{arith}
use Rattle.field.specs.Field.{add}
use Rattle.field.proofs.Multiplication.{mul_comm}
use Rattle.field.proofs.Steps.{stepped-none, stepped-more, stepped-all, bit-times-byte}
use Rattle.field.proofs.times.Goals as goal

pub loop-init : goal.loop-init
loop-init c = stepped-none c.args.x c.args.c (omega arith) (omega arith)

pub overflow_mul-sum : goal.overflow_mul-sum
overflow_mul-sum c = record { fits = bit-times-byte _ _ (omega arith) c.loop.invariant.byte }

pub loop-preserved : goal.loop-preserved
unfolding add
loop-preserved c =
    let l = c.loop in
    stepped-more _ _ l.counter l.sum l.multiple l.rest c.double-multiple.result (omega arith) c.double-multiple.ensures l.invariant

pub returns : goal.returns
returns c =
    let s = c.args in
    stepped-all _ _ _ _ _ _ (omega arith) (omega arith) c.loop.invariant ∙ mul_comm s.x s.c
