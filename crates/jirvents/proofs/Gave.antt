-- What each answer of check and view gives beside its number, and that a node's block begins where a record may have one. Assumes nothing.
use mathlib.Core.Path.{◌≡◌, refl, sym, ◌∙◌}
use mathlib.Core.List.{List}
use Prim.Native.Nat.{ℕ, ◌-◌, ◌*◌, ◌≤◌}
use native.Mathlib.Nat.{le_trans, mul-le-mul}
use native.Mathlib.Omega.{arith}
use lib.ListN.{length}
use Rattle.gates.specs.Gates.{view_gate}
use Rattle.gates.specs.Valid.{ViewAccepted}
use Rattle.params.specs.declared.Params.{Params}
use Rattle.code.specs.Calls.{CheckPost}
use Rattle.code.specs.declared.Blame.{Blame}
use Rattle.code.specs.Verdict.{Refused, Blamed}
use Rattle.jirvents.specs.Exports.{CheckGave, ViewGave}

pub check-refused : (a : Params) (codeword : List ℕ) (budget set tried distance q : ℕ) → CheckPost a codeword budget (Refused q)
    → CheckGave a codeword budget set tried distance q set tried distance
check-refused a codeword budget set tried distance q post = record { verdict = Refused q; post = post; answers = refl; wrote = (refl, refl, refl) }

pub check-blamed : (a : Params) (codeword : List ℕ) (budget set tried distance : ℕ) (blame : Blame) → CheckPost a codeword budget (Blamed blame)
    → CheckGave a codeword budget set tried distance 0 blame.set.0 blame.tried blame.distance
check-blamed a codeword budget set tried distance blame post = record { verdict = Blamed blame; post = post; answers = refl; wrote = (refl, refl, refl) }

pub view-refused : (a : Params) (codeword : List ℕ) (i old answer : ℕ) → answer ≡ view_gate a (length codeword) i → (answer ≡ 0 → ⊥)
    → ViewGave a codeword i old answer old
view-refused a codeword i old answer e ne =
    record {
      answers = e;
      gave = record { served = λ z. absurd (ne z); refused = λ _. refl };
      part = λ z. absurd (ne z);
    }

pub view-served : (a : Params) (codeword : List ℕ) (i old answer : ℕ) → answer ≡ view_gate a (length codeword) i → answer ≡ 0
    → ViewGave a codeword i old 0 ((i - 1) * a.b)
view-served a codeword i old answer e z =
    let zero : 0 ≡ view_gate a (length codeword) i = sym z ∙ e in
    record {
      answers = zero;
      gave = record { served = λ _. refl; refused = λ ne. absurd (ne refl) };
      part = λ _. record { number = refl; served = λ _. refl; refused = λ ne. absurd (ne (sym zero)) };
    }

before-32 : (i : ℕ) → i ≤ 32 → i - 1 ≤ 32
before-32 i h = omega (arith, h)

-- a block begins within any record
pub start_fits : (a : Params) (codeword i : ℕ) → ViewAccepted a codeword i → (i - 1) * a.b ≤ 32768
start_fits a codeword i ok =
    omega (arith, mul-le-mul (before-32 i (le_trans ok.node_high ok.valid.shape.n_high)) ok.valid.b_high)
