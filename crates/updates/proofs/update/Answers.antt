-- The gate's number; where it is 0, the rows go to the blocks of the takers, and these take the serial. Assumes nothing.
use mathlib.Core.Path.{◌≡◌, sym, ap, ◌∙◌}
use Prim.Native.Nat.{◌^◌, ◌≤◌, ◌<◌}
use native.Mathlib.Omega.{arith}
use lib.ListN.{length}
use lib.Seq.{length-take-le}
use Rattle.params.specs.Nodes.{places_of}
use Rattle.params.proofs.Sets.{size-most}
use Rattle.params.proofs.Placing.{placing-zeros, length-places}
use Rattle.gates.specs.Valid.{UpdateAccepted}
use Rattle.gates.proofs.Valid.{update-accepted}
use Rattle.code.proofs.Posts.{served}
use Rattle.updates.proofs.Targets.{in_place, updated, stamped}
use Rattle.updates.proofs.update.Goals as goal
use Rattle.updates.proofs.update.Goals.{After-places_of, In_ok-update_gate}

-- what the gate's 0 says
accepted : (c : In_ok-update_gate)
    → let s = c.args in UpdateAccepted s.a (length s.codeword.now) (length s.serials.now) (length s.change.now) s.to.0 s.serial
accepted c = (update-accepted _ _ _ _ _ _).0 (sym c.in_ok-update_gate.ensures)

word : (c : After-places_of) → c.takers-taking.result.0 < 2 ^ 32
word c = omega arith

-- the numbers of their blocks
placed : (c : After-places_of) → c.places_of.new.out ≡ places_of c.takers-taking.result.0
placed c = placing-zeros _ _ (word c) c.places_of.ensures

-- there are at most 32
few : (c : After-places_of) → c.size-count.result ≤ length c.places_of.new.out
few c = omega (arith, ap length (placed c) ∙ length-places _, c.size-count.ensures, size-most c.takers-taking.result.0 (word c))

pub slice_bounds-places-end : goal.slice_bounds-places-end
slice_bounds-places-end c = few (goal.at.slice_bounds-places-end c).After-places_of

pub slice_bounds-spread-end : goal.slice_bounds-spread-end
slice_bounds-spread-end c = sym (length-take-le _ c.places_of.new.out (few (goal.at.slice_bounds-spread-end c).After-places_of))

pub spread-requires : goal.spread-requires
spread-requires c =
    let l = (goal.at.spread-requires c).After-places_of in
    let s = c.args in
    in_place s.a s.to.0 s.reached.0 s.serial c.takers-taking.result.0 s.change.now s.codeword.now s.serials.now
    (accepted (goal.at.spread-requires c).In_ok-update_gate) c.takers-taking.ensures (word l) _ (placed l) _ c.size-count.ensures

pub returns : goal.returns
returns c =
    let l = (goal.at.returns c).After-places_of in
    let e = accepted (goal.at.returns c).In_ok-update_gate in
    let s = c.args in
    served _ (sym c.in_ok-update_gate.ensures) (
      updated s.a s.to.0 s.reached.0 s.serial c.takers-taking.result.0 s.change.now s.codeword.now s.serials.now e
          c.takers-taking.ensures (word l) _ (placed l) _ c.size-count.ensures _ c.spread.ensures,
      stamped s.a s.to.0 s.reached.0 s.serial c.takers-taking.result.0 s.change.now s.codeword.now s.serials.now e
          c.takers-taking.ensures _ c.stamp.ensures,
    )
