use mathlib.Core.Path.{sym, ap, ap₂, ◌∙◌}
use Prim.Native.Nat.{ℕ}
use borrow.Author.Rules.{rules}
use lib.ListN.{length, length-append}
use Rattle.std.proofs.lemmas.Slice.Zip.{zip_turn}
use Rattle.coefficients.specs.Working.{with_powers, with_share}
use Rattle.coefficients.proofs.Shares.{share-none, share-more}
use Rattle.coefficients.proofs.completing.add_row_share.Goals as goal

pub loop-g-init : goal.loop-g-init
loop-g-init c = share-none _ _ _

pub loop-g-preserved : goal.loop-g-preserved
loop-g-preserved c =
    let s = c.args in
    let l = c.loop-g in
    let n = length l.yielded in
    let turn = zip_turn s.gains.now s.at.now l.yielded c.into_iter-g-iterator.result l.g-iterator c.next.new.self c.next.result
    (search rules) (search rules) l.yielded_by _ c.in-Some.is c.next.ensures.steps in
    share-more n s.at.now s.gains.now s.leading.now l.leading _ l.invariant
    (c.add_powers.ensures ∙ ap₂ (λ (g x : ℕ). with_powers g x l.leading) (turn.2 0) (turn.3 0))
    ∙ ap (λ (m : ℕ). with_share m s.at.now s.gains.now s.leading.now) (sym (length-append l.yielded _))
