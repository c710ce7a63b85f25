use mathlib.Core.Path.{refl}
use Rattle.std.proofs.Common.{arith, rules, length-append}
use Rattle.matrix.proofs.Loading.{loaded-none, loaded, go_on, ended}
use Rattle.matrix.proofs.work.Work.load.Goals as goal

pub loop-i-init : goal.loop-i-init
loop-i-init c =
    (record { counted = search rules; left = search rules; sized = search rules }, refl, loaded-none _ _ _ (omega arith) c.requires.1)

pub loop-i-preserved : goal.loop-i-preserved
loop-i-preserved c =
    let l = c.loop-i.invariant in
    let a = c.args.self.now in
    let t = c.in-Some in
    let u = c.next.new.self in
    simp length-append (
      go_on l.0 a.some c.requires.0 t.i t.entries u t.ensures.steps,
      l.1,
      loaded l.0 a.some c.requires.0 t.i t.entries u t.ensures.steps _ _ a.fits c.load_row.ensures l.2,
    )

pub returns : goal.returns
returns c =
    let l = c.loop-i.invariant in
    let end = ended l.0 c.args.self.now.some c.requires.0 c.next.new.self c.in-None.ensures.steps in
    (l.1, record { left = λ i k hi. l.2.left i k (omega arith); right = λ i k hi. l.2.right i k (omega arith) })
