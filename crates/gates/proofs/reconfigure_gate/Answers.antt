-- The questions on the old parameters are another gate's, and so are those on the new shape; then the lengths and the two sets. Assumes nothing.
use mathlib.Core.Path.{◌≡◌, sym, ap, ◌∙◌}
use mathlib.Core.List.{List, [], ◌∷◌, ◌++◌}
use Rattle.std.specs.Result.{result_and}
use Rattle.base.specs.Gate.{Question, first_no}
use Rattle.params.specs.Params.{reshaped}
use Rattle.gates.specs.Gates.{shape_asked, params_asked, reconfigure_gate}
use Rattle.gates.specs.Refusals.{answer}
use Rattle.gates.specs.Valid.{Valid}
use Rattle.base.proofs.Questions.{all_yes}
use Rattle.gates.proofs.Valid.{params-known, shape-known, k-fits, n-fits}
use Rattle.gates.proofs.Answers.{refused, passed, both}
use Rattle.gates.proofs.reconfigure_gate.Goals as goal
use Rattle.gates.proofs.reconfigure_gate.Goals.{After-new_shape_gate, In_ok-and}

-- the questions on the old parameters and on the new shape
abbrev asked : After-new_shape_gate → List Question
asked c = let s = c.args in params_asked s.a ++ shape_asked 10 s.t

answered : (c : After-new_shape_gate) → answer (result_and c.params_gate.result c.new_shape_gate.result) ≡ first_no (asked c)
answered c = let s = c.args in both (params_asked s.a) (shape_asked 10 s.t) _ _ tt c.params_gate.ensures c.new_shape_gate.ensures

none : (c : In_ok-and) → let s = c.args in 0 ≡ first_no (params_asked s.a ++ shape_asked 10 s.t)
none c = ap answer c.in_ok-and.ensures ∙ answered c.before.before.before

valid : (c : In_ok-and) → let s = c.args in Valid s.a × Valid (reshaped s.a s.t)
valid c =
    let s = c.args in
    let old = params-known s.a (all_yes (params_asked s.a ++ shape_asked 10 s.t) tt (sym (none c))) in
    (old.0, record { shape = (shape-known 10 s.t old.1).0; b_low = old.0.b_low; b_high = old.0.b_high })

pub returns-in_err-and : goal.returns-in_err-and
unfolding reconfigure_gate
returns-in_err-and c = refused (asked (goal.at.returns-in_err-and c).After-new_shape_gate) _ _ _ c.from_residual.ensures.1 (ap answer c.in_err-and.ensures ∙ answered (goal.at.returns-in_err-and c).After-new_shape_gate)

pub overflow_mul-a : goal.overflow_mul-a
overflow_mul-a c = n-fits (valid (goal.at.overflow_mul-a c).In_ok-and).0

pub overflow_mul-t : goal.overflow_mul-t
overflow_mul-t c = n-fits (valid (goal.at.overflow_mul-t c).In_ok-and).1

pub overflow_mul-t-2 : goal.overflow_mul-t-2
overflow_mul-t-2 c = k-fits (valid (goal.at.overflow_mul-t-2 c).In_ok-and).1

pub returns-in_err-put : goal.returns-in_err-put
unfolding reconfigure_gate
returns-in_err-put c = passed (asked (goal.at.returns-in_err-put c).After-new_shape_gate) _ tt (none (goal.at.returns-in_err-put c).In_ok-and) (refused (_ ∷ []) _ _ _ c.from_residual-in_err-put.ensures.1 c.in_err-put.ensures)

pub returns-in_err-put-2 : goal.returns-in_err-put-2
unfolding reconfigure_gate
returns-in_err-put-2 c =
    rw (← c.within.ensures, ← c.within-2.ensures)
    (passed (asked (goal.at.returns-in_err-put-2 c).After-new_shape_gate) _ tt (none (goal.at.returns-in_err-put-2 c).In_ok-and)
    (passed (_ ∷ []) _ tt c.in_ok-put.ensures (refused (_ ∷ []) _ _ _ c.from_residual-in_err-put-2.ensures.1 c.in_err-put-2.ensures)))

pub returns : goal.returns
unfolding reconfigure_gate
returns c =
    rw (← c.within.ensures, ← c.within-2.ensures, ← c.size.ensures, ← c.size-2.ensures)
    (passed (asked (goal.at.returns c).After-new_shape_gate) _ tt (none (goal.at.returns c).In_ok-and)
    (passed (_ ∷ []) _ tt c.in_ok-put.ensures (passed (_ ∷ []) _ tt c.in_ok-put-2.ensures c.put-3.ensures)))
