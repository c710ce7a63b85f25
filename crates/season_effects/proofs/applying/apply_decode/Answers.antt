-- The call on the record, with the front of the room for the message. Assumes nothing.
use mathlib.Core.Path.{sym, ◌∙◌}
use native.Mathlib.Omega.{arith}
use lib.Seq.{length-take-le}
use Rattle.gates.proofs.Valid.{n-fits, k-fits}
use Rattle.season_effects.proofs.Fronts.{blocks-room}
use Rattle.season_effects.proofs.Applied.{decode-applied}
use Rattle.season_effects.proofs.applying.apply_decode.Goals as goal

pub overflow_mul-length : goal.overflow_mul-length
overflow_mul-length c = n-fits c.requires.valid

pub overflow_mul-count : goal.overflow_mul-count
overflow_mul-count c = k-fits c.requires.valid

pub slice_bounds-decode-end : goal.slice_bounds-decode-end
slice_bounds-decode-end c =
    let s = c in
    sym (length-take-le _ s.args.codeword.now (omega (arith, s.told-codeword, blocks-room s.args.a s.args.a.n s.requires.valid (omega arith))))

pub slice_bounds-decode-end-2 : goal.slice_bounds-decode-end-2
slice_bounds-decode-end-2 c = let s = c in omega (arith, s.told-room, blocks-room s.args.a s.args.a.k s.requires.valid (omega arith))

pub slice_bounds-decode-end-3 : goal.slice_bounds-decode-end-3
slice_bounds-decode-end-3 c = let s = c in sym (length-take-le _ c.args.room.now (omega (arith, s.told-room, blocks-room s.args.a s.args.a.k s.requires.valid (omega arith))))

pub returns : goal.returns
returns c =
    let s = c in
    decode-applied s.args.a s.args.f s.args.codeword.now s.args.room.now _ _ s.requires.valid s.told-codeword s.told-room
    s.requires.accepted (c.decode.auto.out ∙ length-take-le _ s.args.room.now (omega (arith, s.told-room, blocks-room s.args.a s.args.a.k s.requires.valid (omega arith)))) c.decode.ensures
