use mathlib.Core.Path.{ap, ap₂, ◌∙◌}
use Prim.Native.Nat.{ℕ, ◌+◌, ◌*◌}
use native.Mathlib.Omega.{arith}
use Rattle.words.specs.Words.{word as wordFrom}
use Rattle.picks.specs.Picks.{pick_of}
use Rattle.picks.proofs.Words.{first_picks, picks-none, picks_more, picks-fit}
use Rattle.picks.proofs.picks_word.Goals as goal

pub loop-coeff-init : goal.loop-coeff-init
loop-coeff-init c = picks-none c.args.coeffs.now

pub overflow_mul-word : goal.overflow_mul-word
overflow_mul-word c =
    let l = c.loop-coeff in
    let coeffs = c.args.coeffs.now in
    let k = l.coeff-index in
    omega (arith, l.invariant, picks_more coeffs k, picks-fit coeffs (k + 1) (omega arith))

pub overflow_add-word : goal.overflow_add-word
overflow_add-word c =
    let l = c.loop-coeff in
    let coeffs = c.args.coeffs.now in
    let k = l.coeff-index in
    omega (arith, l.invariant, c.spread.ensures, picks_more coeffs k, picks-fit coeffs (k + 1) (omega arith))

pub loop-coeff-preserved : goal.loop-coeff-preserved
loop-coeff-preserved c =
    let l = c.loop-coeff in
    ap₂ (λ (x y : ℕ). x * 2 + y) l.invariant c.spread.ensures ∙ picks_more c.args.coeffs.now l.coeff-index

pub returns : goal.returns
unfolding pick_of
returns c = c.loop-coeff.invariant ∙ ap (λ (n : ℕ). wordFrom 8 (first_picks c.args.coeffs.now n)) (omega arith)
