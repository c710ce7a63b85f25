-- What an accepted call's core is given: NodeSet::lowest of R at the working number has just the nodes used, as many as message and slack have parts. Assumes
-- nothing.
use mathlib.Core.Path.{◌≡◌, sym, ap, ◌∙◌}
use mathlib.Core.Bool.{true}
use mathlib.Core.List.{List}
use Prim.Native.Nat.{ℕ, suc, ◌-◌, ◌^◌, min, ◌≤◌, ◌<◌}
use native.Mathlib.Omega.{arith}
use Rattle.params.specs.Nodes.{has, size, within, lowest}
use Rattle.params.specs.Params.{working}
use Rattle.params.specs.declared.Params.{Params}
use Rattle.params.proofs.Sets.{within_has}
use Rattle.params.proofs.Lowest.{Lowest, lowest-has, lowest-size}
use Rattle.gates.specs.Valid.{Valid}
use Rattle.gates.proofs.Valid.{working-le-r, working-known}
use Rattle.code.specs.Code.{Gives, used}
use Rattle.code.proofs.Pairs.{gives-fewer}

-- the set `chosen` of the nodes that a call given R uses
pub record Uses (a : Params) (from chosen : ℕ) : Type 0 where
  pub has_is : (i : ℕ) → has chosen i ≡ used a from i
  pub full : size chosen ≡ working a
  pub inside : (i : ℕ) → has chosen i ≡ true → i ≤ a.n

-- q is what Params::working answers
pub uses : (a : Params) (from chosen q : ℕ) → Valid a → within a.n from ≡ true → size from ≡ a.r → from < 2 ^ 32 → chosen < 2 ^ 32
    → q ≡ min (working a) (2 ^ 64 - 1) → Lowest q from chosen → Uses a from chosen
uses a from chosen q ok hw hs word word' hq told =
    let exact = working-known a ok q hq in
    record {
      has_is = λ i. told i ∙ ap (λ (m : ℕ). lowest m (has from) i) exact;
      full = lowest-size q from chosen told word word' ∙ omega (arith, exact, hs, working-le-r a ok);
      inside = λ i e. (within_has a.n from word).0 hw i (lowest-has q from chosen told i e);
    }

-- a pair that gives the blocks used gives the set's
pub gives-chosen : {a : Params} {from chosen : ℕ} → Uses a from chosen → {x v codeword : List ℕ} → Gives a x v (used a from) codeword
    → Gives a x v (has chosen) codeword
gives-chosen u = gives-fewer (λ j s. sym (u.has_is (suc j)) ∙ s)
