-- The header stands within the input, and record and serials fit their buffers; the answer decides. Assumes nothing.
use mathlib.Core.Path.{refl, sym}
use native.Mathlib.Omega.{arith}
use lib.Seq.{length-take-le}
use Rattle.gates.proofs.Refusals.{number-not-0}
use Rattle.season_run.proofs.Events.{header-inside}
use Rattle.season_run.proofs.Turns.{Size, size_of, size_fits, set-up-refused, set-up-accepted}
use Rattle.season_run.proofs.beginning.set_up.Goals as goal
use Rattle.season_run.proofs.beginning.set_up.Goals.{After-unwrap_or-length}

-- the length found is a record's, 0 where there is none
size : (c : After-unwrap_or-length) → Size c.args.header.params c.unwrap_or-length.result
size c = size_of _ _ _ c.record_length.ensures c.unwrap_or-length.ensures

pub overflow_add-message_end : goal.overflow_add-message_end
overflow_add-message_end c = let s = c in omega (arith, (header-inside s.args.input.now s.args.header s.requires.input_value).0)

pub overflow_add-slack_end : goal.overflow_add-slack_end
overflow_add-slack_end c = let s = c in omega (arith, (header-inside s.args.input.now s.args.header s.requires.input_value).1)

pub slice_bounds-encode-end : goal.slice_bounds-encode-end
slice_bounds-encode-end c = let s = c in omega (arith, (header-inside s.args.input.now s.args.header s.requires.input_value).0)

pub slice_bounds-encode-end-2 : goal.slice_bounds-encode-end-2
slice_bounds-encode-end-2 c = let s = c in omega (arith, (header-inside s.args.input.now s.args.header s.requires.input_value).1)

pub slice_bounds-encode-end-3 : goal.slice_bounds-encode-end-3
slice_bounds-encode-end-3 c =
    let s = c in
    omega (arith, size_fits s.args.header.params _ (size (goal.at.slice_bounds-encode-end-3 c).After-unwrap_or-length))

pub slice_bounds-encode-end-4 : goal.slice_bounds-encode-end-4
slice_bounds-encode-end-4 c =
    let s = c in
    sym (length-take-le _ c.args.codeword.now (omega (arith, size_fits s.args.header.params _ (size (goal.at.slice_bounds-encode-end-4 c).After-unwrap_or-length))))

pub slice_bounds-encode-end-5 : goal.slice_bounds-encode-end-5
slice_bounds-encode-end-5 c = omega (arith, c.min-nodes.ensures)

pub slice_bounds-encode-end-6 : goal.slice_bounds-encode-end-6
slice_bounds-encode-end-6 c = sym (length-take-le _ c.args.serials.now (omega (arith, c.min-nodes.ensures)))

pub returns-in-Err : goal.returns-in-Err
returns-in-Err c =
    let s = c in
    let n = c.min-nodes.ensures in
    let u = c.encode-answer in
    set-up-refused s.args.input.now s.args.header s.requires.input_value s.args.codeword.now s.args.serials.now (omega arith) (omega arith) _ _ (size (goal.at.returns-in-Err c).After-unwrap_or-length) (omega (arith, n)) (λ few. omega (arith, n, few)) _ _ _ u.auto.codeword
    u.auto.serials c.in-Err.ensures (number-not-0 _) s.args.line.now _ _
    (rw c.from.ensures at c.last_line.ensures)

pub returns : goal.returns
returns c =
    let s = c in
    let n = c.min-nodes.ensures in
    let u = c.encode-answer in
    set-up-accepted s.args.input.now s.args.header s.requires.input_value s.args.codeword.now s.args.serials.now (omega arith) (omega arith) _ _ (size (goal.at.returns c).After-unwrap_or-length) (omega (arith, n)) (λ few. omega (arith, n, few)) _ _ _ u.auto.codeword
    u.auto.serials c.in_default.ensures refl s.args.line.now _ _
    c.write_line-written.ensures (omega arith)
