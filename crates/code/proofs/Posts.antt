-- A call's post-condition, from the gate's number and what the served core did. Assumes nothing.
use mathlib.Core.Path.{◌≡◌, refl, sym, ap, ◌∙◌}
use Rattle.std.specs.Prelude.{ℕ, Result, IsErrAnd}
use Rattle.std.proofs.lemmas.Result.{err_from_is_err_and}
use Rattle.gates.specs.declared.Refusal.{Refusal}
use Rattle.gates.specs.Refusals.{number, answer}
use Rattle.gates.proofs.Refusals.{number-not-0}
use Rattle.code.specs.Calls.{Post}

pub served : {S R : Type 0} (gate : ℕ) → gate ≡ 0 → S → Post gate 0 S R
served gate e s = record { number = sym e; served = λ _. s; refused = λ n. absurd (n refl) }

pub refused-by-number : {S R : Type 0} (gate answer : ℕ) → answer ≡ gate → (answer ≡ 0 → ⊥) → R → Post gate answer S R
refused-by-number gate answer e n r = record { number = e; served = λ z. absurd (n z); refused = λ _. r }

-- where the gate's `?` returns
pub refused : {A S R : Type 0} (gate : ℕ) (q : Refusal) (result : Result A Refusal) → IsErrAnd result (λ p. p ≡ q) → number q ≡ gate → R
    → Post gate (answer result) S R
refused gate q result f e r =
    let p = err_from_is_err_and result f in
    let same = ap answer p.1 ∙ ap number p.2 in
    record { number = same ∙ e; served = λ z. absurd (number-not-0 q (sym same ∙ z)); refused = λ _. r }
