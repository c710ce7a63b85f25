-- The call on the record and the serials, with the fronts of two rooms for the new ones, which are then laid over the old ones. Assumes nothing.
use mathlib.Core.Path.{◌≡◌, sym, ◌∙◌}
use mathlib.Core.List.{List}
use Prim.Native.Nat.{ℕ, ◌*◌, ◌≤◌}
use native.Mathlib.Omega.{arith}
use lib.ListN.{length, take, replicate, length-replicate}
use lib.Seq.{length-take-le}
use Rattle.gates.proofs.Valid.{n-fits}
use Rattle.params.specs.Params.{reshaped}
use Rattle.season_file.specs.declared.Event.TheVariants.{Reconfigure}
use Rattle.season_effects.specs.Effects.{Ready}
use Rattle.season_effects.proofs.Fronts.{blocks-room, front_length}
use Rattle.season_effects.proofs.Applied.{new-valid, reconfigure-applied}
use Rattle.season_effects.proofs.applying.apply_reconfigure.Goals as goal
use Rattle.season_effects.proofs.applying.apply_reconfigure.Goals.{Start}

-- the room for the new serials
abbrev zeros : List ℕ
zeros = replicate 32 0

length-zeros : length zeros ≡ 32
length-zeros = length-replicate {A = ℕ} 32 0

ready : (c : Start) → Ready c.args.a (length c.args.input.now) (Reconfigure c.args.f) (length c.args.codeword.now) (length c.args.serials.now) (length c.args.room.now)
ready c =
    record { valid = c.requires.valid; found = c.requires.stretch; record_room = c.told-codeword; serials_room = c.told-serials; work_room = c.told-room }

-- the new record has room, ..
room_for : (c : Start) → c.args.f.shape.n * c.args.a.b ≤ 32768
room_for c =
    let t = c.args.f.shape in
    blocks-room (reshaped c.args.a t) t.n (new-valid c.args.a c.args.f c.requires.accepted) (omega arith)

-- .. and so have the new serials
nodes-for : (c : Start) → c.args.f.shape.n ≤ 32
nodes-for c = (new-valid c.args.a c.args.f c.requires.accepted).shape.n_high

-- the room and the numbers are long enough, and their fronts are as long as the new record and its serials
room-fits : (c : Start) → c.args.f.shape.n * c.args.a.b ≤ length c.args.room.now
room-fits c = omega (arith, c.told-room, room_for c)

numbers-fit : (c : Start) → c.args.f.shape.n ≤ length zeros
numbers-fit c = omega (arith, length-zeros, nodes-for c)

room-front : (c : Start) → length (take (c.args.f.shape.n * c.args.a.b) c.args.room.now) ≡ c.args.f.shape.n * c.args.a.b
room-front c = length-take-le _ c.args.room.now (room-fits c)

numbers-front : (c : Start) → length (take c.args.f.shape.n zeros) ≡ c.args.f.shape.n
numbers-front c = length-take-le _ zeros (numbers-fit c)

pub overflow_mul-old : goal.overflow_mul-old
overflow_mul-old c = n-fits c.requires.valid

pub overflow_mul-new : goal.overflow_mul-new
overflow_mul-new c = omega (arith, room_for (goal.at.overflow_mul-new c).Start)

pub slice_bounds-reconfigure-end : goal.slice_bounds-reconfigure-end
slice_bounds-reconfigure-end c = let s = c in omega (arith, s.told-codeword, blocks-room s.args.a s.args.a.n s.requires.valid (omega arith))

pub slice_bounds-reconfigure-end-3 : goal.slice_bounds-reconfigure-end-3
slice_bounds-reconfigure-end-3 c = let s = c in omega (arith, s.told-serials, s.requires.valid.shape.n_high)

pub slice_bounds-copy_block-end : goal.slice_bounds-copy_block-end
slice_bounds-copy_block-end c =
    let s = (goal.at.slice_bounds-copy_block-end c).Start in
    let u = c.reconfigure in
    omega (
      arith,
      room_for s,
      s.told-room,
      front_length (s.args.f.shape.n * s.args.a.b) s.args.room.now u.new.out (room-fits s)
          (u.auto.out ∙ room-front s),
    )

pub slice_bounds-copy_block-end-2 : goal.slice_bounds-copy_block-end-2
slice_bounds-copy_block-end-2 c =
    let s = (goal.at.slice_bounds-copy_block-end-2 c).Start in
    let u = c.reconfigure in
    sym (length-take-le _ _ (omega (arith, room-fits s, front_length (s.args.f.shape.n * s.args.a.b) s.args.room.now u.new.out (room-fits s) (u.auto.out ∙ room-front s))))

pub slice_bounds-hand_on-end-3 : goal.slice_bounds-hand_on-end-3
slice_bounds-hand_on-end-3 c = let s = (goal.at.slice_bounds-hand_on-end-3 c).Start in omega (arith, s.told-serials, nodes-for s)

pub slice_bounds-reconfigure-end-4 : goal.slice_bounds-reconfigure-end-4
slice_bounds-reconfigure-end-4 c = room_for (goal.at.slice_bounds-reconfigure-end-4 c).Start

pub slice_bounds-numbers-end : goal.slice_bounds-numbers-end
slice_bounds-numbers-end c = nodes-for (goal.at.slice_bounds-numbers-end c).Start

pub slice_bounds-reconfigure-end-6 : goal.slice_bounds-reconfigure-end-6
slice_bounds-reconfigure-end-6 c = sym (numbers-front (goal.at.slice_bounds-reconfigure-end-6 c).Start)

pub slice_bounds-numbers-end-2 : goal.slice_bounds-numbers-end-2
slice_bounds-numbers-end-2 c =
    let s = (goal.at.slice_bounds-numbers-end-2 c).Start in
    let u = c.reconfigure in
    omega (arith, numbers-fit s, front_length s.args.f.shape.n zeros u.new.numbers (numbers-fit s) (u.auto.numbers ∙ numbers-front s))

pub slice_bounds-hand_on-end : goal.slice_bounds-hand_on-end
slice_bounds-hand_on-end c =
    let s = (goal.at.slice_bounds-hand_on-end c).Start in
    let u = c.reconfigure in
    sym (length-take-le _ _ (omega (arith, numbers-fit s, front_length s.args.f.shape.n zeros u.new.numbers (numbers-fit s) (u.auto.numbers ∙ numbers-front s))))

pub slice_bounds-hand_on-end-2 : goal.slice_bounds-hand_on-end-2
slice_bounds-hand_on-end-2 c = nodes-for (goal.at.slice_bounds-hand_on-end-2 c).Start

pub returns : goal.returns
returns c =
    let s = (goal.at.returns c).Start in
    let u = c.reconfigure in
    reconfigure-applied s.args.a s.args.input.now s.args.f s.requires.accepted s.args.codeword.now s.args.serials.now s.args.room.now
    zeros (ready s) length-zeros _ _ _ (u.auto.out ∙ room-front s)
    (u.auto.numbers ∙ numbers-front s) u.ensures _ c.copy_block.ensures _
    c.hand_on.ensures
