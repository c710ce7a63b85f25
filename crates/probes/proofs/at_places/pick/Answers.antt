use mathlib.Core.Path.{refl}
use Prim.Native.Nat.{◌<◌}
use native.Mathlib.Omega.{arith}
use lib.ListN.{length}
use Rattle.base.specs.Seq.{cell}
use Rattle.base.proofs.Buffers.{areas-fit}
use Rattle.base.proofs.Filled.{filled_more}
use Rattle.probes.proofs.at_places.pick.Goals as goal

pub loop-at-preserved : goal.loop-at-preserved
unfolding cell
loop-at-preserved c =
    let room : c.loop-at.at < 1024 = omega (arith, c.loop-at-test.true, areas-fit c.args.a.n (length c.args.places.now) c.requires.n_high c.requires.most) in
    filled_more _ c.loop-at.at _ _ _ (omega (arith, room, c.loop-at.invariant.same, c.requires.room)) refl c.loop-at.invariant
