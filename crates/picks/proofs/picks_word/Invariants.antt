-- After so many turns the word has the picks of the coefficients that they went over. Assumes nothing.
use mathlib.Core.Path.{◌≡◌}
use Rattle.words.specs.Words.{word as wordFrom}
use Rattle.picks.proofs.Words.{first_picks}
use Rattle.picks.proofs.picks_word.Given as goal

abbrev pub invariant-loop-coeff : goal.invariant-loop-coeff
invariant-loop-coeff l = l.word ≡ wordFrom 8 (first_picks l.coeffs l.coeff-index)
