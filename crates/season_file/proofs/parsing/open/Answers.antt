-- The tests that led to each exit say which case holds. Assumes nothing.
use mathlib.Core.Path.{◌≡◌, sym, ap, ◌∙◌}
use mathlib.Core.List.{List}
use Prim.Native.Nat.{ℕ, ◌+◌}
use native.Mathlib.Omega.{arith}
use Rattle.std.specs.Prelude.{Result, Err, IsErrAnd}
use Rattle.std.proofs.lemmas.Result.{err_from_is_err_and}
use Rattle.season_file.specs.File.{number_at, opening_of}
use Rattle.season_file.specs.declared.FileFault.{FileFault}
use Rattle.season_file.specs.declared.FileFault.TheVariants.{EndsEarly}
use Rattle.season_file.specs.declared.Header.{Header}
use Rattle.season_file.proofs.Openings.{no-count, other-count, cut, opened}
use Rattle.season_file.proofs.parsing.open.Goals as goal

-- the fault that a count's reading gives is passed on
passed : (r : Result Header FileFault) (f : FileFault) (input : List ℕ) → IsErrAnd r (λ x. x ≡ f) → f ≡ EndsEarly → Err EndsEarly ≡ opening_of input
    → r ≡ opening_of input
passed r f input is e h = let p = err_from_is_err_and r is in p.1 ∙ ap (λ (x : FileFault). Err x) (p.2 ∙ e) ∙ h

pub returns-in_err-count_at : goal.returns-in_err-count_at
returns-in_err-count_at c = let e = c.in_err-count_at.ensures in passed _ _ _ c.from_residual.ensures.1 e.0 (no-count _ e.1)

pub returns-then-branch-ne5 : goal.returns-then-branch-ne5
returns-then-branch-ne5 c = let n = c.in_ok-count_at.ensures in other-count _ n.0 (λ e. c.if-branch-ne5.true (n.1 ∙ e))

pub returns-in_err-message : goal.returns-in_err-message
returns-in_err-message c =
    let n = c.in_ok-count_at.ensures in
    let e = c.in_err-message.ensures in
    passed _ _ _ c.from_residual-in_err-message.ensures.1 e.0 (cut _ n.0 (sym n.1 ∙ c.if-branch-ne5.false) (omega (arith, e.1)))

pub returns-in_err-slack : goal.returns-in_err-slack
returns-in_err-slack c =
    let n = c.in_ok-count_at.ensures in
    let m = c.in_ok-message.ensures in
    let e = c.in_err-slack.ensures in
    passed _ _ _ c.from_residual-in_err-slack.ensures.1 e.0 (cut _ n.0 (sym n.1 ∙ c.if-branch-ne5.false) (omega (arith, e.1, m.1)))

pub returns-in_err-events : goal.returns-in_err-events
returns-in_err-events c =
    let n = c.in_ok-count_at.ensures in
    let m = c.in_ok-message.ensures in
    let s = c.in_ok-slack.ensures in
    let e = c.in_err-events.ensures in
    passed _ _ _ c.from_residual-in_err-events.ensures.1 e.0
    (cut _ n.0 (sym n.1 ∙ c.if-branch-ne5.false) (omega (arith, e.1, m.1, s.1 ∙ ap (λ (k : ℕ). number_at c.args.input.now (14 + k)) m.1)))

pub returns : goal.returns
returns c =
    let n = c.in_ok-count_at.ensures in
    let m = c.in_ok-message.ensures in
    let s = c.in_ok-slack.ensures in
    let e = c.in_ok-events.ensures in
    opened _ n.0 (sym n.1 ∙ c.if-branch-ne5.false) _ _ _ _ c.params_at.ensures m.1 s.1 e.1 e.0
