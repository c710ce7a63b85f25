-- The calls one after the other. Assumes nothing.
use mathlib.Core.Path.{ap}
use native.Mathlib.Omega.{arith}
use Rattle.std.proofs.KnownBytes.{Appends-trans}
use Rattle.season_run.specs.Season.{Room}
use Rattle.season_run.specs.Program.{began, turned}
use Rattle.season.proofs.Turning.{left, onto, begin-within, turn-within, turn-fewer, stopped, finished, handed}
use Rattle.season.proofs.run_within.Given.{Over}
use Rattle.season.proofs.run_within.Goals as goal
use Rattle.season.proofs.run_within.Goals.{Start}

-- the buffers have the lengths of their types
room : (g : Over) (c : Start g) → Room c.args.codeword.now c.args.serials.now c.args.line.now
room g c = record { record_room = omega arith; serials_room = omega arith; line_room = omega arith }

pub show-requires : goal.show-requires
show-requires g c =
    let full = room g (goal.at.show-requires g c).Start in
    begin-within _ _ _ _ (λ i. omega (arith, c.type_inv.input i)) full _ _ _ _ c.begin-t.ensures

pub returns-in_err-show-clause-printed : goal.returns-in_err-show-clause-printed
returns-in_err-show-clause-printed g c =
    let full = room g (goal.at.returns-in_err-show-clause-printed g c).Start in
    stopped _ _ _ _ (λ i. omega (arith, c.type_inv.input i)) full _ _ _ _ _ (began c.begin-t.ensures) _ c.from_residual.ensures.0

pub loop-t-init : goal.loop-t-init
loop-t-init g c = (_, began c.begin-t.ensures, c.in_ok-show.ensures)

pub show-requires-in-Some : goal.show-requires-in-Some
show-requires-in-Some g c =
    let full = room g (goal.at.show-requires-in-Some g c).Start in
    turn-within _ _ _ _ (λ i. omega (arith, c.type_inv.input i)) full _ _ _ _ _ (onto c.in-Some.is c.loop-t.invariant.1) _ _ _ _ c.turn-t.ensures

pub returns-in_err-show-2-clause-printed : goal.returns-in_err-show-2-clause-printed
returns-in_err-show-2-clause-printed g c =
    let full = room g (goal.at.returns-in_err-show-2-clause-printed g c).Start in
    stopped _ _ _ _ (λ i. omega (arith, c.type_inv.input i)) full _ _ _ _ _ (turned (onto c.in-Some.is c.loop-t.invariant.1) c.turn-t.ensures) _
    c.from_residual-in_err-show-2.ensures.0

pub loop-t-smaller : goal.loop-t-smaller
loop-t-smaller g c =
    let full = room g (goal.at.loop-t-smaller g c).Start in
    omega (
      arith,
      turn-fewer _ _ _ _ (λ i. omega (arith, c.type_inv.input i)) full _ _ _ _ _ (onto c.in-Some.is c.loop-t.invariant.1) _ _ _ _ c.turn-t.ensures,
      ap left c.in-Some.is,
    )

pub loop-t-preserved : goal.loop-t-preserved
loop-t-preserved g c = (
  _,
  turned (onto c.in-Some.is c.loop-t.invariant.1) c.turn-t.ensures,
  Appends-trans _ _ _ _ _ c.loop-t.invariant.2 c.in_ok-show-2.ensures,
)

pub returns-clause-printed : goal.returns-clause-printed
returns-clause-printed g c =
    let full = room g (goal.at.returns-clause-printed g c).Start in
    finished _ _ _ _ (λ i. omega (arith, c.type_inv.input i)) full _ _ _ _ _ c.loop-t.invariant.1 c.in_default.is

pub returns-clause-handed_over : goal.returns-clause-handed_over
returns-clause-handed_over g c =
    let full = room g (goal.at.returns-clause-handed_over g c).Start in
    handed _ _ _ _ (λ i. omega (arith, c.type_inv.input i)) full _ _ _ _ _ c.loop-t.invariant.1 c.in_default.is c.loop-t.invariant.2
