-- Eight bytes and at most eight coefficients: the bytes of the word are their picks. Assumes nothing.
use mathlib.Core.Path.{◌∙◌}
use native.Mathlib.Omega.{arith}
use Rattle.picks.proofs.Words.{picks-are}
use Rattle.picks.proofs.put_picks.Goals as goal

pub returns : goal.returns
returns c =
    record {
      written = λ e h. c.put_word.ensures ∙ picks-are _ _ _ e h c.picks_word-word.ensures;
      kept = λ ne. absurd (ne (omega arith) (omega arith));
    }
