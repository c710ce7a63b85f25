-- A node of 1..n has its block within the codeword. Assumes nothing.
use mathlib.Core.Path.{sym, ◌∙◌}
use Prim.Native.Nat.{◌+◌, ◌-◌, ◌*◌, ◌≤◌}
use native.Mathlib.Omega.{arith}
use lib.ListN.{length}
use Rattle.gates.proofs.Refusals.{ok-is-0, err-not-0}
use Rattle.views.proofs.Viewed.{some, view-inside, viewed, hidden}
use Rattle.views.proofs.view.Goals as goal

pub returns-then-is_err : goal.returns-then-is_err
returns-then-is_err c = hidden _ _ _ _ c.view_gate.ensures (err-not-0 _ (sym c.is_err.ensures.value ∙ c.if-is_err.true))

pub overflow_sub-start : goal.overflow_sub-start
overflow_sub-start c =
    let s = c in
    omega (arith, some s.args.a s.args.codeword.now _ _ _ c.view_gate.ensures (ok-is-0 _ (sym c.is_err.ensures.value ∙ c.if-is_err.false)) c.from.ensures)

-- its block ends within the codeword
ends : (c : goal.After-from)
    → (c.from.result - 1) * c.args.a.b + c.args.a.b
    ≤ length c.args.codeword.now
ends c =
    let s = c in
    view-inside s.args.a s.args.codeword.now _ _ _ c.view_gate.ensures (ok-is-0 _ (sym c.is_err.ensures.value ∙ c.if-is_err.false)) c.from.ensures

pub overflow_mul-start : goal.overflow_mul-start
overflow_mul-start c = omega (arith, ends c)

pub overflow_add-end : goal.overflow_add-end
overflow_add-end c = omega (arith, ends c)

pub slice_bounds-result-end-2 : goal.slice_bounds-result-end-2
slice_bounds-result-end-2 c = omega (arith, ends c)

pub returns : goal.returns
returns c =
    let i = c in
    let s = i in
    viewed s.args.a s.args.codeword.now _ _ _ i.view_gate.ensures (ok-is-0 _ (sym i.is_err.ensures.value ∙ i.if-is_err.false)) i.from.ensures
