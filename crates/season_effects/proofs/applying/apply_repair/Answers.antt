-- The call on the record and the serials. Assumes nothing.
use mathlib.Core.Path.{sym, ◌∙◌}
use native.Mathlib.Omega.{arith}
use Rattle.gates.proofs.Valid.{n-fits}
use Rattle.season_effects.proofs.Fronts.{blocks-room}
use Rattle.season_effects.proofs.Applied.{front-full, repair-applied}
use Rattle.season_effects.proofs.applying.apply_repair.Goals as goal

pub overflow_mul-length : goal.overflow_mul-length
overflow_mul-length c = n-fits c.requires.valid

pub slice_bounds-repair-end : goal.slice_bounds-repair-end
slice_bounds-repair-end c = let s = c in omega (arith, s.told-codeword, blocks-room s.args.a s.args.a.n s.requires.valid (omega arith))

pub slice_bounds-repair-end-2 : goal.slice_bounds-repair-end-2
slice_bounds-repair-end-2 c = sym (front-full c.args.a c.args.codeword.now c.args.serials.now c.requires.valid c.told-codeword c.told-serials).0

pub slice_bounds-repair-end-3 : goal.slice_bounds-repair-end-3
slice_bounds-repair-end-3 c = let s = c in omega (arith, s.told-serials, s.requires.valid.shape.n_high)

pub slice_bounds-repair-end-4 : goal.slice_bounds-repair-end-4
slice_bounds-repair-end-4 c = sym (front-full c.args.a c.args.codeword.now c.args.serials.now c.requires.valid c.told-codeword c.told-serials).1

pub returns : goal.returns
returns c =
    let s = c in
    let u = c.repair in
    rw c.silent.ensures
    (repair-applied s.args.a s.requires.valid s.args.codeword.now s.args.serials.now _ _ s.told-codeword s.told-serials
    (u.auto.codeword ∙ (front-full c.args.a c.args.codeword.now c.args.serials.now c.requires.valid c.told-codeword c.told-serials).0) (u.auto.serials ∙ (front-full c.args.a c.args.codeword.now c.args.serials.now c.requires.valid c.told-codeword c.told-serials).1)
    s.args.f _ u.ensures)
