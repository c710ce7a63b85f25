use mathlib.Core.Path.{◌≡◌, ap, ◌∙◌}
use Prim.Native.Nat.{ℕ, ◌-◌}
use native.Mathlib.Omega.{arith}
use lib.Bits.{bit_and}
use lib.Pow.{pow_pos}
use Rattle.params.specs.Nodes.{has, lowest}
use Rattle.params.proofs.Words.{one_shifted, passed_none, next-lt, passed-more, more_left, passed-lt, passed-lowest}
use Rattle.params.proofs.Lowest.{lowest-all}
use Rattle.params.proofs.NodeSet.lowest.Goals as goal

pub returns-then-size-q : goal.returns-then-size-q
returns-then-size-q c =
    let a = c.args in
    lowest-all a.self.0 a.q (omega arith) (omega (arith, c.size.ensures, c.if-size-q.true))

pub loop-init : goal.loop-init
loop-init c = passed_none _ _ _ (omega arith) c.over-walk.ensures.0 c.over-walk.ensures.1

pub next-walk-requires : goal.next-walk-requires
next-walk-requires c = let w = c.loop.invariant in next-lt w (more_left w (omega arith))

pub loop-preserved : goal.loop-preserved
loop-preserved c =
    let w = c.loop.invariant in
    passed-more w (more_left w (omega arith)) c.next-walk.ensures.0 c.next-walk.ensures.1

pub overflow_shl-result : goal.overflow_shl-result
overflow_shl-result c = passed-lt c.loop.invariant (omega arith)

pub overflow_sub-result : goal.overflow_sub-result
overflow_sub-result c = omega (arith, one_shifted c.loop.walk.passed (passed-lt c.loop.invariant (omega arith)), pow_pos c.loop.walk.passed)

pub returns : goal.returns
returns c =
    let w = c.loop.invariant in
    let s = c.args.self.0 in
    let all : c.loop.counter ≡ c.args.q = omega arith in λ i.
    ap (λ (m : ℕ). has (bit_and s (m - 1)) i) (one_shifted c.loop.walk.passed (passed-lt w (omega arith))) ∙ passed-lowest w i
    ∙ ap (λ (q : ℕ). lowest q (has s) i) all
