-- The tests that led to each exit say which case holds. Assumes nothing.
use mathlib.Core.Path.{◌≡◌, ap, ◌∙◌}
use Prim.Native.Nat.{ℕ, ◌+◌, ◌-◌}
use native.Mathlib.Omega.{arith}
use lib.ListN.{length}
use Rattle.std.specs.Prelude.{Err}
use Rattle.season_file.specs.File.{code_of, fault_of, following}
use Rattle.season_file.specs.declared.FileFault.TheVariants.{EndsEarly}
use Rattle.season_file.proofs.Items.{early, late, whole}
use Rattle.season_file.proofs.Capped.{capped-within}
use Rattle.season_file.proofs.parsing.fields_at.Goals as goal

pub returns-then-input-at : goal.returns-then-input-at
returns-then-input-at c = let a = c.args in
    ap (λ (byte : ℕ). Err (fault_of byte EndsEarly)) c.from.ensures
    ∙ early a.a a.input.now a.at (code_of a.kind) (omega (arith, c.requires)) (omega (arith, c.if-input-at.true, c.fixed-count.ensures))

pub returns-then-input-start : goal.returns-then-input-start
returns-then-input-start c = let a = c.args in
    ap (λ (byte : ℕ). Err (fault_of byte EndsEarly)) c.from.ensures
    ∙ late a.a a.input.now a.at (code_of a.kind) (omega (arith, c.requires, c.if-input-at.false, c.fixed-count.ensures))
    (omega (arith, c.if-input-start.true, c.following-blocks.ensures, c.fixed-count.ensures))

pub returns : goal.returns
returns c = let a = c.args in
    let more = following a.a a.input.now a.at (code_of a.kind) in
    let count : c.following-blocks.result ≡ more
    = c.following-blocks.ensures
    ∙ capped-within more (length a.input.now - (a.at + c.fixed-count.result))
    (omega (arith, c.requires)) (omega (arith, c.if-input-start.false, c.following-blocks.ensures)) in
    whole a.a a.input.now a.at (code_of a.kind) _ _ (c.event_at.ensures a.a count)
    (omega (arith, count, c.fixed-count.ensures))
    (omega (arith, c.if-input-start.false, c.if-input-at.false, c.requires))
