use mathlib.Core.Path.{ap₂, ◌∙◌}
use mathlib.Core.List.{List, ◌++◌}
use Prim.Native.Nat.{ℕ}
use native.Mathlib.Omega.{arith}
use lib.ListN.{drop}
use lib.Seq.{length-take-le}
use Rattle.params.proofs.Sets.{size-most}
use Rattle.params.proofs.Words.{walked_none, next-lt, more_left, walked_more, walked_all}
use Rattle.params.proofs.NodeSet.list.Goals as goal

pub slice_bounds-place-items-end : goal.slice_bounds-place-items-end
slice_bounds-place-items-end c = omega (arith, size-most c.args.self.0 (omega arith))

pub slice_bounds-place-items-end-2 : goal.slice_bounds-place-items-end-2
slice_bounds-place-items-end-2 c = omega (arith, length-take-le c.size-count.result c.args.out.now (omega (arith, size-most c.args.self.0 (omega arith))))

pub loop-place-init : goal.loop-place-init
loop-place-init c =
    walked_none _ _ _ _ (omega arith) c.over-walk.ensures.0 c.over-walk.ensures.1
    (length-take-le c.size-count.result c.args.out.now (omega (arith, size-most c.args.self.0 (omega arith))) ∙ c.size-count.ensures)

pub next-walk-requires : goal.next-walk-requires
next-walk-requires c = let w = c.loop-place.invariant in next-lt w.walk (more_left w.walk (omega (arith, w.room)))

pub loop-place-preserved : goal.loop-place-preserved
loop-place-preserved c =
    let w = c.loop-place.invariant in
    walked_more w (omega (arith, w.room)) c.next-walk.ensures.0 c.next-walk.ensures.1

pub returns : goal.returns
returns c =
    let w = c.loop-place.invariant in
    let n = c.size-count in
    record {
      written = λ room. ap₂ (λ (l : List ℕ) (k : ℕ). l ++ drop k c.args.out.now) (walked_all w (omega (arith, w.room))) n.ensures;
      counted = λ room. n.ensures;
      kept = λ none. absurd (none (omega arith));
    }
