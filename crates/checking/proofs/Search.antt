-- The search, from turn to turn: so many sets come before the set as were tried, none of them serves, and the set leaves q nodes, since all nodes behind the
-- first q serve. Assumes nothing.
use mathlib.Core.Path.{◌≡◌, refl, sym, ◌∙◌}
use mathlib.Core.Logic.{inl, inr}
use mathlib.Core.Bool.{true}
use mathlib.Core.List.{List}
use Prim.Native.Nat.{ℕ, ◌+◌, ◌≤◌, ◌<◌, zero-le}
use native.Mathlib.Omega.{arith}
use lib.Count.{ones}
use lib.ListN.{length}
use Rattle.field.specs.Field.{Bytes}
use Rattle.params.specs.Nodes.{size, within}
use Rattle.params.specs.Params.{slack_parts, working}
use Rattle.params.specs.declared.Params.{Params}
use Rattle.gates.specs.Valid.{Valid}
use Rattle.gates.proofs.Valid.{working-le}
use Rattle.subsets.specs.Order.{earlier, NextPost}
use Rattle.subsets.proofs.Order.{empty-inside, earlier-first, next-earlier}
use Rattle.code.specs.Calls.{Serves, NoneBefore, Blames}
use Rattle.code.specs.declared.Blame.{Blame}
use Rattle.code.proofs.Serving.{none_first, none-next, stopped-size}
use Rattle.consistency.specs.Tested.{Testable}
use Rattle.probes.specs.declared.Probes.{Probes}
use Rattle.probes.specs.Held.{Held}
use Rattle.checking.specs.Cores.{Searchable, Given}

pub record Searching (a : Params) (codeword : List ℕ) (budget fresh : ℕ) (probes : Probes) (s tried : ℕ) : Type 0 where
  pub asks : Searchable a (length codeword) fresh
  pub inside : within a.n s ≡ true
  pub none : NoneBefore a codeword s
  pub few : size s + working a ≤ a.n
  pub count : earlier a.n s ≡ tried
  pub within_budget : tried ≤ budget
  pub probed : Held a codeword probes

working-pos : (a : Params) → Valid a → 1 ≤ working a
unfolding working slack_parts
working-pos a ok = omega (arith, ok.shape.k_low)

-- ---- the empty set

first-few : (a : Params) → Valid a → size 0 + working a ≤ a.n
unfolding size ones
first-few a ok = omega (arith, working-le a ok)

pub first-testable : (a : Params) (codeword fresh : ℕ) → Searchable a codeword fresh → Testable a 0 codeword fresh
first-testable a codeword fresh ok =
    record { check = ok.check; inside = empty-inside a.n; few = first-few a ok.check.valid; room = ok.room }

module _ (a : Params) (codeword : List ℕ) (budget fresh : ℕ) (ok : Searchable a (length codeword) fresh) where
  pub search-none : (blame : Blame) → budget ≡ 0 → Given a 0 0 blame → Blames a codeword budget blame
  search-none blame z given =
      inr (record {
        untried = 0;
        inside = empty-inside a.n;
        first = none_first a codeword;
        reached = earlier-first a.n ∙ sym z;
        set_is = given.set_is;
        tried_is = given.tried_is ∙ sym z;
        distance_is = given.distance_is;
      })

  pub first_found : 0 < budget → Serves a codeword 0 → Blames a codeword budget (record { set = record { 0 = 0 }; tried = 1; distance = 0 })
  first_found more serves =
      inl (record {
        inside = empty-inside a.n;
        serves = serves;
        first = none_first a codeword;
        reached = omega (arith, earlier-first a.n);
        tried_is = omega (arith, earlier-first a.n);
        distance_is = refl;
      })

-- ---- the sets behind it

module _ {a : Params} {codeword : List ℕ} {budget fresh : ℕ} {probes : Probes} where
  pub search-start : Searchable a (length codeword) fresh → Held a codeword probes
      → Searching a codeword budget fresh probes 0 0
  search-start ok told =
      record {
        asks = ok;
        inside = empty-inside a.n;
        none = none_first a codeword;
        few = first-few a ok.check.valid;
        count = earlier-first a.n;
        within_budget = zero-le;
        probed = told;
      }

  module _ {s tried : ℕ} (at : Searching a codeword budget fresh probes s tried) where
    pub search-testable : Testable a s (length codeword) fresh
    search-testable = record { check = at.asks.check; inside = at.inside; few = at.few; room = at.asks.room }

    pub search-found : tried < budget → Serves a codeword s → Blames a codeword budget (record { set = record { 0 = s }; tried = tried + 1; distance = 0 })
    search-found more serves =
        inl (record {
          inside = at.inside;
          serves = serves;
          first = at.none;
          reached = omega (arith, at.count);
          tried_is = omega (arith, at.count);
          distance_is = refl;
        })

    pub search-next : {fresh' t : ℕ} {probes' : Probes} → Bytes codeword → tried < budget → (Serves a codeword s → ⊥)
        → Held a codeword probes' → fresh' ≡ fresh → NextPost a.n s t → Searching a codeword budget fresh' probes' t (tried + 1)
    search-next {fresh'} {t} {probes'} bytes more fails told ef post =
        let valid = at.asks.check.valid in
        let next =
        post.next (record { n_high = valid.shape.n_high; inside = at.inside; not_all = omega (arith, at.few, working-pos a valid) }) in
        let none = none-next a codeword s t next at.none fails in
        record {
          asks =
              record {
                check = at.asks.check;
                room = omega (arith, at.asks.room, ef);
              };
          inside = next.inside;
          none = none;
          few = omega (arith, stopped-size a valid codeword bytes t none, working-le a valid);
          count = omega (arith, next-earlier a.n s t next at.inside, at.count);
          within_budget = omega arith;
          probed = told;
        }

    pub search-stopped : (blame : Blame) → budget ≤ tried → Given a s budget blame → Blames a codeword budget blame
    search-stopped blame spent given =
        inr (record {
          untried = s;
          inside = at.inside;
          first = at.none;
          reached = omega (arith, at.count, at.within_budget);
          set_is = given.set_is;
          tried_is = given.tried_is;
          distance_is = given.distance_is;
        })
