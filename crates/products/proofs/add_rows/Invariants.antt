-- After i turns the first i rows of the product are added to their targets. Assumes nothing.
use Rattle.products.specs.Blocks.{product, Spanned}
use Rattle.products.proofs.add_rows.Given as goal

abbrev pub invariant-loop-i : goal.invariant-loop-i
invariant-loop-i l = Spanned l.b 0 l.b l.targets (λ i p. product l.b l.src l.places l.coeffs l.stride i p) l.i l.initial.out l.out
