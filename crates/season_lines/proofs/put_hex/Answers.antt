use mathlib.Core.Path.{refl}
use native.Mathlib.Nat.{add-zero}
use native.Mathlib.Omega.{arith}
use Rattle.season_lines.proofs.Texts.{hex-start, hex-next}
use Rattle.season_lines.proofs.put_hex.Goals as goal

pub loop-i-init : goal.loop-i-init
loop-i-init c = rw add-zero (hex-start c.args.message.now _ _)

pub loop-i-preserved : goal.loop-i-preserved
loop-i-preserved c =
    let l = c.loop-i in
    hex-next _ _ _ l.i _ _ _ _ refl (omega (arith, c.requires)) (omega (arith, c.requires)) (omega arith) c.hex_digit.ensures c.hex_digit-in-loop-i.ensures l.invariant
