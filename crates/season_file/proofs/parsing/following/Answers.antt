-- By the kind: what it says, capped as the products are. Assumes nothing.
use mathlib.Core.Path.{◌≡◌, sym, ap, ◌∙◌}
use Prim.Native.Nat.{ℕ, ◌*◌}
use borrow.Author.Rules.{rules}
use Rattle.params.specs.Nodes.{size}
use Rattle.season_file.specs.File.{following, code_of}
use Rattle.season_file.specs.Lengths.{capped}
use Rattle.season_file.specs.declared.Kind.{Kind}
use Rattle.season_file.proofs.parsing.following.Goals as goal
use Rattle.season_file.proofs.parsing.following.Goals.{Start}

-- what follows by the kind
by : (c : Start) (k : Kind) → c.args.kind ≡ k → (m : ℕ) → m ≡ capped (following c.args.a c.args.input.now c.args.at (code_of k))
    → m ≡ capped (following c.args.a c.args.input.now c.args.at (code_of c.args.kind))
by c k is m e = e ∙ sym (ap (λ (k : Kind). capped (following c.args.a c.args.input.now c.args.at (code_of k))) is)

pub returns-in-Update : goal.returns-in-Update
unfolding capped
returns-in-Update c = by (goal.at.returns-in-Update c).Start _ c.in-Update.is _ c.saturating_mul.ensures

pub returns-in-Damage : goal.returns-in-Damage
unfolding capped
returns-in-Damage c =
    by (goal.at.returns-in-Damage c).Start _ c.in-Damage.is _
    (c.saturating_mul-in-Damage.ensures ∙ ap (λ (m : ℕ). capped (m * c.args.a.b)) (c.size.ensures ∙ ap size c.set_at-nodes.ensures))

pub returns-in-Reconfigure : goal.returns-in-Reconfigure
unfolding capped
returns-in-Reconfigure c =
    by (goal.at.returns-in-Reconfigure c).Start _ c.in-Reconfigure.is _
    (c.saturating_mul-in-Reconfigure.ensures ∙ ap (λ (m : ℕ). capped (m * c.args.a.b)) c.number_at-k.ensures.0)

pub returns-in-Repair : goal.returns-in-Repair
unfolding capped
returns-in-Repair c = search rules
