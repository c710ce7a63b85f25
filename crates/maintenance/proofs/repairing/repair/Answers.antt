-- Refused, nothing is written; else the blocks are rebuilt, and the serials follow. Assumes nothing.
use mathlib.Core.Path.{refl, sym}
use native.Mathlib.Omega.{arith}
use borrow.Author.Rules.{rules}
use Rattle.gates.proofs.Valid.{repair-accepted}
use Rattle.code.proofs.Posts.{served, refused}
use Rattle.code.proofs.Used.{Uses, uses}
use Rattle.maintenance.proofs.Rebuilding.{rebuildable, repaired, restamped}
use Rattle.maintenance.proofs.repairing.repair.Goals as goal

pub returns-in_err-repair_gate : goal.returns-in_err-repair_gate
returns-in_err-repair_gate c = refused _ _ _ c.from_residual.ensures.1 c.in_err-repair_gate.ensures (refl, refl)

pub repair_blocks-requires : goal.repair_blocks-requires
repair_blocks-requires c =
    let ok = (repair-accepted _ _ _ _ _).0 (sym c.in_ok-repair_gate.ensures) in
    let chosen : Uses c.args.a c.args.from.0 c.lowest-chosen.result.0 =
    uses _ _ _ _ ok.valid ok.from_within ok.from_size (omega arith) (omega arith) c.working.ensures c.lowest-chosen.ensures in
    rebuildable _ _ _ _ chosen _ _ (omega arith) ok

pub returns : goal.returns
returns c =
    let s = c.args in
    let ok = (repair-accepted _ _ _ _ _).0 (sym c.in_ok-repair_gate.ensures) in
    let chosen : Uses c.args.a c.args.from.0 c.lowest-chosen.result.0 =
    uses _ _ _ _ ok.valid ok.from_within ok.from_size (omega arith) (omega arith) c.working.ensures c.lowest-chosen.ensures in
    served _ (sym c.in_ok-repair_gate.ensures) (
      repaired s.a s.from.0 _ s.lost.0 chosen _ s.codeword.now _ ok (λ i. search rules) c.repair_blocks.ensures,
      restamped s.a _ s.from.0 s.lost.0 _ s.serials.now _ ok c.highest-newest.ensures c.stamp.ensures,
    )
