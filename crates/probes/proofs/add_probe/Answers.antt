-- The place goes behind those before it, and the bytes are picked anew. Assumes nothing.
use Prim.Native.Nat.{◌<◌}
use native.Mathlib.Omega.{arith}
use Rattle.probes.proofs.Picking.{lent-in, probed-more}
use Rattle.probes.proofs.add_probe.Goals as goal

pub returns-clause-probed : goal.returns-clause-probed
returns-clause-probed c told =
    let s = c.args in
    let here : s.place < s.a.b = omega arith in
    let room : s.probes < 32 = omega arith in
    probed-more s.a s.codeword.now s.probes s.places.now s.picked.now _ s.place told c.if-places-ne32.false room (omega arith) here
    (c.pick.ensures (lent-in s.a.b s.probes s.places.now s.place c.if-places-ne32.false room here told.inside))
