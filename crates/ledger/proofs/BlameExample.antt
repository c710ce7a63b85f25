-- The promise of check (document 02, 2026-06) met: at (1,2,3,3) the record 07 FF 09 differs from the pair of message 07 at node 2 alone, so that node is blamed. Assumes
-- nothing.
use mathlib.Core.Path.{◌≡◌, refl, sym}
use mathlib.Core.Bool.{true, not, true≢false}
use mathlib.Core.List.{List, [], ◌∷◌}
use Prim.Native.Nat.{ℕ, zero, suc, ◌≤◌, ◌<◌}
use native.Mathlib.Omega.{arith}
use lib.Count.{ones}
use Rattle.base.specs.Seq.{cell}
use Rattle.field.specs.Field.{add, mul, pow}
use Rattle.field.specs.FiniteSum.{sum}
use Rattle.interpolation.specs.Polynomial.{evaluate}
use Rattle.params.specs.Nodes.{has, size, within}
use Rattle.params.specs.Params.{slack_parts, working}
use Rattle.subsets.specs.Order.{before, how_many, earlier}
use Rattle.code.specs.Code.{point, block}
use Rattle.code.specs.Calls.{CheckPost}
use Rattle.code.specs.declared.Blame.{Blame}
use Rattle.code.specs.Verdict.{Blamed}
use Rattle.code.proofs.Serving.{Same}
use Rattle.ledger.proofs.Computed.{bytes, same}
use Rattle.ledger.proofs.Figures.{spare}
use Rattle.ledger.proofs.Demands.{DiffersAt, demand-2-blame-exact}

abbrev damaged : List ℕ
damaged = 0x07 ∷ 0xff ∷ 0x09 ∷ []

-- it differs from 07 0E 09 at node 2
pub differs : DiffersAt spare damaged (0x07 ∷ []) [] 0b010
unfolding has within cell block point evaluate sum add mul pow slack_parts
differs =
    record {
      inside = refl;
      others =
          record {
            pair = record { message = record { length_is = refl; bytes = bytes (0x07 ∷ []) tt }; slack = record { length_is = refl; bytes = bytes [] tt } };
            equal = same 3 1 (λ i. not (has 0b010 i)) (λ j. block spare (0x07 ∷ []) [] (suc j)) (cell 1 damaged) tt;
          };
      these = these;
    }
  where
    unlike : ◌≡◌ {A = ℕ} 0x0e 0xff → ⊥
    unlike e = omega (arith, e)

    these : (j : ℕ) → j < 3 → has 0b010 (suc j) ≡ true → Same spare (0x07 ∷ []) [] damaged j → ⊥
    these zero h e s = true≢false (sym e)
    these (suc zero) h e s = unlike (s 0 (omega arith))
    these (suc (suc zero)) h e s = true≢false (sym e)
    these (suc (suc (suc j))) h e s = omega arith

-- Every accepted check with a budget of 3 or more gives node 2: two sets come before it, and n - q = 2.
pub blamed : (budget : ℕ) (blame : Blame) → 3 ≤ budget → CheckPost spare damaged budget (Blamed blame) → blame.set.0 ≡ 0b010
unfolding size ones working slack_parts before how_many earlier
blamed budget blame enough post = demand-2-blame-exact spare damaged budget blame post (0x07 ∷ []) [] 0b010 differs (omega arith) enough
