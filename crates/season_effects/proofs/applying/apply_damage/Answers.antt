-- The nodes are all within n, and their blocks become those given, in rising order. Assumes nothing.
use mathlib.Core.Path.{sym}
use native.Mathlib.Omega.{arith}
use lib.Seq.{length-take-le}
use Rattle.gates.proofs.Valid.{n-fits}
use Rattle.season_effects.proofs.Fronts.{blocks-room}
use Rattle.season_effects.proofs.Applied.{damage-applied}
use Rattle.season_effects.proofs.applying.apply_damage.Goals as goal

pub overflow_mul-length : goal.overflow_mul-length
overflow_mul-length c = n-fits c.requires.valid

pub slice_bounds-put_blocks-end : goal.slice_bounds-put_blocks-end
slice_bounds-put_blocks-end c = let s = c in omega (arith, s.told-codeword, blocks-room s.args.a s.args.a.n s.requires.valid (omega arith))

pub slice_bounds-put_blocks-end-2 : goal.slice_bounds-put_blocks-end-2
slice_bounds-put_blocks-end-2 c =
    let s = c in
    sym (length-take-le _ c.args.codeword.now (omega (arith, s.told-codeword, blocks-room s.args.a s.args.a.n s.requires.valid (omega arith))))

pub returns : goal.returns
returns c =
    let s = c in
    rw c.silent.ensures
    (damage-applied s.args.a s.args.input.now s.args.f s.args.codeword.now s.requires.valid s.told-codeword s.requires.stretch (omega arith) s.requires.accepted _
    c.put_blocks.ensures)
