-- Nothing may be tried, or the empty set serves, or the sets behind it are tried. Assumes nothing.
use mathlib.Core.Path.{subst⁻¹, ◌∙◌}
use native.Mathlib.Omega.{arith}
use Rattle.probes.specs.Held.{Held}
use Rattle.checking.proofs.Search.{search-none, first-testable, first_found, search-start, search-next, search-testable, search-found, search-stopped}
use Rattle.checking.proofs.searching.search.Goals.{in-Some-place_of, in_default-place_of}
use Rattle.checking.proofs.searching.search.Goals as goal

pub give_up-requires : goal.give_up-requires
give_up-requires c = record { valid = c.requires.check.valid; few = (first-testable _ _ _ c.requires).few }

pub returns-then-budget-eq0 : goal.returns-then-budget-eq0
returns-then-budget-eq0 c = search-none _ _ _ _ c.requires _ c.if-budget-eq0.true c.give_up.ensures

pub returns-in_default : goal.returns-in_default
returns-in_default c =
    first_found _ _ _ _ c.requires (omega (arith, c.if-budget-eq0.false))
    (c.in_default.ensures (first-testable _ _ _ c.requires) c.requires.check.valid.shape.n_high)

pub loop-tried-init : goal.loop-tried-init
loop-tried-init c =
    let held = Held c.args.a c.args.codeword.now in
    let told : held c.match-place_of.probes = elim c.match-place_of.branch [
      | in-Some-place_of w ↦ subst⁻¹ held w.probes-is (w.add.ensures (c.new-probes.ensures _ _))
      | in_default-place_of w ↦ subst⁻¹ held w.probes-is (c.new-probes.ensures _ _)
    ] in
    search-next (search-start {probes = c.match-place_of.probes} c.requires told) (λ j. omega (arith, c.type_inv.codeword j)) (omega arith)
    (c.in-Some.ensures (first-testable _ _ _ c.requires)) told (c.place_of.auto.fresh ∙ c.other_node.auto.fresh) c.next-set.ensures

pub returns-then-try_set : goal.returns-then-try_set
returns-then-try_set c =
    let at = c.loop-tried.invariant in
    search-found at c.loop-tried-test.true ((c.try_set.ensures.told (search-testable at) at.probed).holds c.if-try_set.true)

pub loop-tried-preserved : goal.loop-tried-preserved
loop-tried-preserved c =
    let at = c.loop-tried.invariant in
    search-next at (λ j. omega (arith, c.type_inv.codeword j)) c.loop-tried-test.true
    ((c.try_set.ensures.told (search-testable at) at.probed).fails c.if-try_set.false) (c.try_set.ensures.probed at.probed) c.try_set.auto.fresh
    c.next-set-in-loop-tried.ensures

pub give_up-requires-2 : goal.give_up-requires-2
give_up-requires-2 c = let at = c.loop-tried.invariant in record { valid = at.asks.check.valid; few = at.few }

pub returns : goal.returns
returns c = search-stopped c.loop-tried.invariant _ c.loop-tried-test.false c.give_up-2.ensures
