-- Each place is below the number of blocks, or one is not. Assumes nothing.
use native.Mathlib.Omega.{arith}
use borrow.Author.Rules.{rules}
use Rattle.products.proofs.Fitting.{places-below}
use Rattle.products.proofs.places_fit.Goals as goal

pub returns : goal.returns
returns c = places-below _ c.args.places.now _ (omega arith) c.all.result (search rules)
