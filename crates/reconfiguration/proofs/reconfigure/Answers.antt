-- Refused, nothing is written; else the record is rewritten, and its serials follow. Assumes nothing.
use mathlib.Core.Path.{refl, sym}
use native.Mathlib.Omega.{arith}
use Rattle.gates.proofs.Valid.{reconfigure-accepted}
use Rattle.code.proofs.Posts.{served, refused}
use Rattle.code.proofs.Used.{Uses, uses}
use Rattle.reconfiguration.proofs.Rewriting.{reconfigurable, reconfigured, restamped}
use Rattle.reconfiguration.proofs.reconfigure.Goals as goal

pub returns-in_err-reconfigure_gate : goal.returns-in_err-reconfigure_gate
returns-in_err-reconfigure_gate c = refused _ _ _ c.from_residual.ensures.1 c.in_err-reconfigure_gate.ensures (refl, refl)

pub write-requires : goal.write-requires
write-requires c =
    let ok = (reconfigure-accepted _ _ _ _ _ _ _ _ _).0 (sym c.in_ok-reconfigure_gate.ensures) in
    let chosen : Uses c.args.a c.args.from.0 c.lowest-chosen.result.0 =
    uses _ _ _ _ ok.valid ok.from_within ok.from_size (omega arith) (omega arith) c.working.ensures c.lowest-chosen.ensures in
    reconfigurable _ _ _ _ _ chosen _ _ _ _ _ ok

pub returns : goal.returns
returns c =
    let s = c.args in
    let ok = (reconfigure-accepted _ _ _ _ _ _ _ _ _).0 (sym c.in_ok-reconfigure_gate.ensures) in
    let chosen : Uses s.a s.from.0 c.lowest-chosen.result.0 =
    uses _ _ _ _ ok.valid ok.from_within ok.from_size (omega arith) (omega arith) c.working.ensures c.lowest-chosen.ensures in
    served _ (sym c.in_ok-reconfigure_gate.ensures) (
      reconfigured s.a s.shape s.from.0 _ s.to.0 chosen _ _ s.codeword.now s.message.now s.out.now _ ok
          (λ i. omega (arith, c.type_inv.codeword i)) (λ i. omega (arith, c.type_inv.message i)) c.write.ensures,
      restamped s.a s.shape _ _ _ s.from.0 s.to.0 _ _ _ s.serials.now s.numbers.now _ ok c.outside.ensures
          c.outside-made.ensures c.highest.ensures c.hand_on.ensures,
    )
