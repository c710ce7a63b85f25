-- The tests that led to each exit say which case holds. Assumes nothing.
use mathlib.Core.Path.{sym, ap, ◌∙◌}
use Prim.Native.Nat.{ℕ, ◌+◌}
use Rattle.std.specs.Prelude.{Err}
use Rattle.std.proofs.lemmas.Result.{err_from_is_err_and}
use Rattle.season_file.specs.File.{unknown, fault_of, fields_at}
use Rattle.season_file.specs.declared.Fault.{Fault}
use Rattle.season_file.specs.declared.FileFault.TheVariants.{KindUnknown}
use Rattle.season_file.proofs.Items.{kind-known, unread, strange, known}
use Rattle.season_file.proofs.parsing.parse.Goals as goal

pub returns-then-input-at : goal.returns-then-input-at
returns-then-input-at c = unread c.args.a c.args.input.now c.args.at c.if-input-at.true

pub returns-in_err-kind : goal.returns-in_err-kind
returns-in_err-kind c =
    let p = err_from_is_err_and c.from_residual.result c.from_residual.ensures.1 in
    let byte = c.in_err-kind.ensures in
    p.1 ∙ ap (λ (f : Fault). Err f) p.2 ∙ ap (λ (k : ℕ). Err (fault_of k KindUnknown)) byte.0
    ∙ strange c.args.a c.args.input.now c.args.at c.if-input-at.false byte.1

pub returns : goal.returns
returns c =
    let byte = c.in_ok-kind.ensures in
    c.fields_at.ensures ∙ ap (fields_at c.args.a c.args.input.now (c.args.at + 1)) byte
    ∙ known c.args.a c.args.input.now c.args.at c.if-input-at.false (sym (ap unknown byte) ∙ kind-known c.in_ok-kind.kind)
