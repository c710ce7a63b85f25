-- A set that fails at the probes fails; else all its bytes tell. Assumes nothing.
use Rattle.probes.proofs.Picking.{probeable, picked-serves}
use Rattle.probes.proofs.try_set.Goals as goal

pub returns-then-fails_at-clause-told : goal.returns-then-fails_at-clause-told
returns-then-fails_at-clause-told c test told = (
  λ h. c.fails_at.ensures (probeable c.args.a _ _ _ _ _ _ _ test told) c.if-fails_at.true
      (picked-serves c.args.a c.args.codeword.now _ _ _ told _ h),
  told,
)
