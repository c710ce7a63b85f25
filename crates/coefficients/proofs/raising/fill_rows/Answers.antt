use Prim.Native.Nat.{◌+◌, ◌*◌, ◌≤◌}
use native.Mathlib.Omega.{arith}
use lib.ListN.{length, get_or}
use Rattle.base.specs.Parts.{part_of}
use Rattle.base.proofs.Parts.{blocked-more, row_ends, length-part_of}
use Rattle.coefficients.specs.Coefficients.{power_rows}
use Rattle.coefficients.proofs.Rows.{row-powers, blocked-whole}
use Rattle.coefficients.proofs.raising.fill_rows.Goals as goal

pub loop-i-preserved : goal.loop-i-preserved
loop-i-preserved c =
    let s = c.args in
    let l = c.loop-i in
    let f = c.fill_row in
    let fits : l.i * s.m + s.m ≤ length s.out.now =
    row_ends (length s.points.now) l.i s.m (length s.out.now) (omega arith) (omega (arith, c.requires)) in
    let r = row-powers (get_or s.points.now l.i 0) s.m (part_of s.m l.i l.out) f.new.out
    (length-part_of s.m l.i l.out (omega (arith, fits, l.invariant.same))) f.ensures in
    blocked-more _ _ _ l.i _ l.out f.new.out (omega arith) c.requires r.0 r.1 l.invariant

pub returns : goal.returns
unfolding power_rows
returns c = blocked-whole _ _ _ _ _ _ c.requires (omega arith) c.loop-i.invariant
