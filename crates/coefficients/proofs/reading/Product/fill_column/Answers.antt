use mathlib.Core.Path.{◌≡◌, refl, sym, ap, ◌∙◌, subst}
use mathlib.Core.List.{List}
use Prim.Native.Nat.{ℕ, suc, ◌+◌, ◌-◌, ◌*◌}
use native.Mathlib.Omega.{arith}
use borrow.Author.Rules.{rules}
use lib.ListN.{length, get_or, set, length-set}
use Rattle.field.specs.Field.{add, mul, pow}
use Rattle.interpolation.specs.Lagrange.{apart}
use Rattle.coefficients.specs.Working.{product_at, basis}
use Rattle.coefficients.proofs.Basis.{lead-first, lead-next, Climbed, climbed-none, climbed-here, climbed-more, climbed-on, climbed-all}
use Rattle.coefficients.proofs.reading.Product.fill_column.Goals as goal
use Rattle.coefficients.proofs.reading.Product.fill_column.Goals.{After-power-lead}

module _ (c : After-power-lead) where
  abbrev points : List ℕ
  points = c.args.self.now.points.now

  -- the point of the column
  abbrev x : ℕ
  x = get_or points c.args.i 0

  nonzero : x ≡ 0 → ⊥
  nonzero = c.args.self.now.multiplied.tell.nonzero c.args.i c.requires.i_in_bounds

  -- the exponent that divides by the point
  inverse : mul x (pow 2 c.neg-back.result.value) ≡ 1
  inverse = subst (λ (k : ℕ). mul k (pow 2 c.neg-back.result.value) ≡ 1) (c.of.ensures nonzero) c.neg-back.ensures

  -- .. and the one that divides by what the quotient, times z, is there
  weight : mul (apart 0 points x x) (pow 2 c.neg-scale.result.value) ≡ 1
  weight = subst (λ (k : ℕ). mul k (pow 2 c.neg-scale.result.value) ≡ 1) c.apart_exponent.ensures c.neg-scale.ensures

  -- the first entry is written
  lead_is : c.power-lead.result ≡ basis points c.args.i 0
  lead_is =
      c.power-lead.ensures
      ∙ lead-first points c.args.self.now.multiplied.tell c.args.i c.requires.i_in_bounds _ _ inverse weight c.args.first.value _ _
      c.requires.first c.add.ensures c.add-2.ensures

  one : Climbed points c.args.i 1 c.args.rows.now (set c.args.rows.now c.args.i c.power-lead.result)
  one =
      let s = c in
      let first : s.args.i ≡ 0 * length points + s.args.i = omega arith in
      climbed-more (length s.args.self.now.lowest.now) _ _ 0 _ _ _ _ s.requires.i_in_bounds s.args.self.now.multiplied.some s.requires.room first lead_is (climbed-none _ _ _)

pub loop-j-init : goal.loop-j-init
loop-j-init c =
    let k = (goal.at.loop-j-init c).After-power-lead in
    (lead_is k, climbed-here _ _ _ _ _ (one k))

pub loop-j-preserved : goal.loop-j-preserved
unfolding add
loop-j-preserved c =
    let k = (goal.at.loop-j-preserved c).After-power-lead in
    let l = c.loop-j in
    let s = c.args in
    let ps = s.self.now.points.now in
    let can = s.self.now.multiplied in
    let top : l.j ≡ suc (l.j - 1) = omega arith in
    let next : l.j + 1 - 1 ≡ l.j = omega arith in
    let above = can.lowest l.j (search rules) ∙ ap (product_at ps (length ps)) top in
    let here : c.times-lead.result ≡ basis ps s.i l.j =
    c.times-lead.ensures ∙ ap (λ (y : ℕ). mul (add l.lead y) (pow 2 c.neg-back.result.value)) c.times.ensures
    ∙ lead-next ps can.tell s.i c.requires.i_in_bounds _ _ (inverse k) (weight k) (l.j - 1) l.lead _ l.invariant.0 above
    ∙ ap (basis ps s.i) (sym top) in (
      here ∙ ap (basis ps s.i) (sym next),
      climbed-more (length s.self.now.lowest.now) ps s.i l.j _ _ l.rows _ c.requires.i_in_bounds (search rules)
          (length-set s.rows.now s.i c.power-lead.result ∙ c.requires.room) refl here l.invariant.1,
    )

pub returns : goal.returns
returns c =
    let l = c.loop-j in
    climbed-all _ _ _ l.j _ _ (omega arith) (climbed-on _ _ 1 l.j _ _ l.rows (one (goal.at.returns c).After-power-lead) l.invariant.1)
