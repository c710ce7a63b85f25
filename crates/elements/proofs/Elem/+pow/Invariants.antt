-- The measure is the exponent, which is halved at each call. Assumes nothing.
use Rattle.elements.proofs.Elem.+pow.Given as goal

abbrev pub decreases-pow : goal.decreases-pow
decreases-pow l = l.e
