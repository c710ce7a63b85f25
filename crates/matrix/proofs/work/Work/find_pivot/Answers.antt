-- The first row that passes, or none. Assumes nothing.
use Rattle.std.proofs.Common.{◌≡◌, arith, rules, tests}
use Rattle.std.proofs.lemmas.Iterator.{first_from_Range}
use Rattle.std.proofs.lemmas.List.{get_or_read}
use Rattle.matrix.specs.Working.{grid}
use Rattle.matrix.proofs.RowOperations.{found-first}
use Rattle.matrix.proofs.work.Work.find_pivot.Goals as goal

pub returns : goal.returns
returns c =
    let entry = λ (i : _). grid c.args.self.now.rows i c.args.j in
    found-first _ _ _ _
    (first_from_Range _ _ _ _ (λ i. entry i ≡ 0 → ⊥) (λ i. entry i ≡ 0) c.find.ensures.ran
    (λ x q k. grind (arith, tests, get_or_read))
    (λ x q k. (search rules, grind (arith, tests, get_or_read))))
