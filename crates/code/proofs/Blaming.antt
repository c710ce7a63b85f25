-- What check answers: exactly one verdict meets its post-condition, found by going from set to set; its set serves, and is the smallest that does up to the
-- distance. If few nodes are wrong and the budget reaches them, they are the set. Assumes nothing.
use mathlib.Core.Path.{◌≡◌, refl, sym, ap, ap₂, ◌∙◌, subst}
use mathlib.Core.Logic.{◌↔◌, inl, inr, ⊎_elim}
use mathlib.Core.Bool.{Bool, true, false, not}
use mathlib.Core.List.{List}
use Prim.Native.Nat.{ℕ, zero, suc, ◌+◌, ◌-◌, ◌≤◌, ◌<◌}
use native.Mathlib.Omega.{arith}
use lib.ListN.{length}
use Rattle.base.proofs.Cases.{eq-or}
use Rattle.field.specs.Field.{Bytes}
use Rattle.params.specs.Nodes.{has, size, within}
use Rattle.params.specs.Params.{working}
use Rattle.params.specs.declared.Params.{Params}
use Rattle.params.proofs.Sets.{same_nodes, same-subset}
use Rattle.params.proofs.Behind.{behind-exists, behind-within, behind-size}
use Rattle.gates.specs.Gates.{check_gate}
use Rattle.gates.specs.Valid.{Valid}
use Rattle.gates.proofs.Valid.{working-le, check-accepted}
use Rattle.subsets.specs.Order.{earlier}
use Rattle.subsets.proofs.Order.{before-or, before-first, not-before-size, empty-inside, earlier-first, earlier-before, earlier-once, next-earlier}
use Rattle.subsets.proofs.Successor.{next-exists}
use Rattle.code.specs.Code.{block, Gives}
use Rattle.code.specs.Calls.{Serves, NoneBefore, Found, Stopped, Blames, number, CheckPost}
use Rattle.code.specs.declared.Blame.{Blame}
use Rattle.code.specs.Verdict.{Verdict, Refused, Blamed}
use Rattle.code.proofs.Pairs.{free}
use Rattle.code.proofs.Serving.{Same, none_first, none-next, serves-dec, behind-serves, stopped-size, one-pair}

-- ---- one verdict

-- what is found is told by its numbers
same-blame : (b b' : Blame) → b.set.0 ≡ b'.set.0 → b.tried ≡ b'.tried → b.distance ≡ b'.distance → b ≡ b'
same-blame b b' s t d =
    ap₂ (λ (s t : ℕ). record { set = record { 0 = s }; tried = t; distance = b.distance }) s t
    ∙ ap (λ (d : ℕ). record { set = record { 0 = b'.set.0 }; tried = b'.tried; distance = d }) d

module _ (a : Params) (codeword : List ℕ) (budget : ℕ) where
  -- where the check stopped, none of the first budget sets serves
  pub stopped_none : (b : Blame) → Stopped a codeword budget b → (s : ℕ) → within a.n s ≡ true → earlier a.n s < budget → Serves a codeword s → ⊥
  stopped_none b t s w reach =
      t.first s w (earlier-before a.n s t.untried w t.inside (omega (arith, t.reached)))

  blames-once : (b b' : Blame) → Blames a codeword budget b → Blames a codeword budget b' → b ≡ b'
  blames-once b b' (inl f) (inl f') =
      let e : b.set.0 ≡ b'.set.0 =
      ⊎_elim (λ h. absurd (f'.first b.set.0 f.inside h f.serves))
      (⊎_elim (λ e. e) (λ h. absurd (f.first b'.set.0 f'.inside h f'.serves))) (before-or b.set.0 b'.set.0) in
      same-blame b b' e (f.tried_is ∙ ap (λ (s : ℕ). suc (earlier a.n s)) e ∙ sym f'.tried_is) (f.distance_is ∙ sym f'.distance_is)
  blames-once b b' (inl f) (inr s') = absurd (stopped_none b' s' b.set.0 f.inside (omega (arith, f.reached)) f.serves)
  blames-once b b' (inr s) (inl f') = absurd (stopped_none b s b'.set.0 f'.inside (omega (arith, f'.reached)) f'.serves)
  blames-once b b' (inr s) (inr s') =
      let same = earlier-once a.n s.untried s'.untried s.inside s'.inside (s.reached ∙ sym s'.reached) in
      let e : b.set.0 ≡ b'.set.0 = same_nodes b.set.0 b'.set.0 (λ i. s.set_is i ∙ sym (s'.set_is i)) in
      same-blame b b' e (s.tried_is ∙ sym s'.tried_is) (omega (arith, s.distance_is, s'.distance_is, ap size same, ap size e))

  pub check-once : (answer answer' : Verdict) → CheckPost a codeword budget answer → CheckPost a codeword budget answer' → answer ≡ answer'
  check-once (Refused q) (Refused q') t t' = ap Refused (t.0 ∙ sym t'.0)
  check-once (Refused q) (Blamed b') t t' = absurd (t.1 (t.0 ∙ t'.0))
  check-once (Blamed b) (Refused q') t t' = absurd (t'.1 (t'.0 ∙ t.0))
  check-once (Blamed b) (Blamed b') t t' = ap Blamed (blames-once b b' t.1 t'.1)

  pub check-number : (answer : Verdict) → CheckPost a codeword budget answer → number answer ≡ check_gate a (length codeword)
  check-number (Refused q) t = t.0
  check-number (Blamed b) t = sym t.0

-- ---- a verdict

module _ (a : Params) (ok : Valid a) (codeword : List ℕ) (bytes : Bytes codeword) (budget : ℕ) where
  abbrev Blamable : Type 0
  Blamable = (b : Blame) × Blames a codeword budget b

  -- none before s serves, and so many more may be tried
  abbrev From : ℕ → ℕ → Type 0
  From left s = within a.n s ≡ true → NoneBefore a codeword s → earlier a.n s + left ≡ budget → Blamable

  from-set : (left s : ℕ) → From left s
  unfolding working
  from-set zero s w none e =
      let g = behind-exists (working a) a.n (working-le a ok) in
      let small = stopped-size a ok codeword bytes s none in (
        record { set = record { 0 = g.0 }; tried = budget; distance = size g.0 - size s },
        inr (record {
          untried = s;
          inside = w;
          first = none;
          reached = omega arith;
          set_is = g.2;
          tried_is = refl;
          distance_is = omega (arith, behind-size (working a) a.n (working-le a ok) g.0 g.2);
        }),
      )
  from-set (suc left) s w none e = go (serves-dec a ok codeword s w (omega (arith, small, working-le a ok)) bytes) (from-set left)
    where
      small : size s ≤ a.n - working a
      small = stopped-size a ok codeword bytes s none

      go : Dec (Serves a codeword s) → ((t : ℕ) → From left t) → Blamable
      go (yes t) further = (
        record { set = record { 0 = s }; tried = suc (earlier a.n s); distance = 0 },
        inl (record { inside = w; serves = t; first = none; reached = omega arith; tried_is = refl; distance_is = refl }),
      )
      go (no not-this) further =
          let next = next-exists a.n s w (omega (arith, small, working-le a ok, ok.shape.k_low)) in
          further next.0 next.1.inside (none-next a codeword s next.0 next.1 none not-this)
          (omega (arith, next-earlier a.n s next.0 next.1 w))

pub check-met : (a : Params) (codeword : List ℕ) (budget : ℕ) → Bytes codeword → (answer : Verdict) × CheckPost a codeword budget answer
check-met a codeword budget bytes =
    ⊎_elim
    (λ z.
    let b =
    from-set a ((check-accepted a _).0 z).valid codeword bytes budget budget 0 (empty-inside a.n) (none_first a codeword)
    (omega (arith, earlier-first a.n)) in
    (Blamed b.0, (z, b.1)))
    (λ ne. (Refused (check_gate a (length codeword)), (refl, ne))) (eq-or (check_gate a (length codeword)) 0)

-- ---- what the verdict says

module _ (a : Params) (codeword : List ℕ) (budget : ℕ) (blame : Blame) where
  -- Its nodes are of 1..n, its set serves, ..
  pub blame-inside : Valid a → Blames a codeword budget blame → within a.n blame.set.0 ≡ true
  blame-inside ok = ⊎_elim (λ f. f.inside) (λ s. behind-within (working a) a.n (working-le a ok) blame.set.0 s.set_is)

  pub blame-serves : Valid a → Bytes codeword → Blames a codeword budget blame → Serves a codeword blame.set.0
  blame-serves ok bytes = ⊎_elim (λ f. f.serves) (λ s. behind-serves a ok codeword bytes blame.set.0 s.set_is)

  -- .. and exceeds no other that does by more than the distance.
  pub blame-size : Blames a codeword budget blame → (t : ℕ) → within a.n t ≡ true → Serves a codeword t → size blame.set.0 ≤ size t + blame.distance
  blame-size b t w h =
      ⊎_elim (λ f. omega (arith, not-before-size blame.set.0 t (λ k. f.first t w k h)))
      (λ s. omega (arith, s.distance_is, not-before-size s.untried t (λ k. s.first t w k h))) b

  -- Where a pair differs from the record at the nodes of D alone, 2·|D| is at most n − q, and the budget reaches D, the set is D: what is found is no larger, so one
  -- pair serves both; so it has all nodes of D. It is D too where fewer sets than the budget were tried, which tells that the set was found.
  module _ (ok : Valid a) (x v : List ℕ) (D : ℕ) (w : within a.n D ≡ true) (g : Gives a x v (free (has D)) codeword)
      (wrong : (j : ℕ) → j < a.n → has D (suc j) ≡ true → Same a x v codeword j → ⊥) (few : size D + size D ≤ a.n - working a) where
    served : Serves a codeword D
    served = record { message = x; slack = v; gives = g }

    found-exact : Found a codeword budget blame → blame.set.0 ≡ D
    found-exact f = same-subset a.n D s w f.inside (λ j hj e. named j hj e (has s (suc j)) refl) small
      where
        s : ℕ
        s = blame.set.0

        small : size s ≤ size D
        small = not-before-size s D (λ k. f.first D w k served)

        one : (f.serves.message ≡ x) × (f.serves.slack ≡ v)
        one =
            one-pair a ok codeword s D f.inside w (omega (arith, small, working-le a ok)) f.serves.message x f.serves.slack v f.serves.gives g

        named : (j : ℕ) → j < a.n → has D (suc j) ≡ true → (b : Bool) → has s (suc j) ≡ b → has s (suc j) ≡ true
        named j hj e true h = h
        named j hj e false h =
            absurd
            (wrong j hj e
            (λ p hp.
            sym (ap₂ (λ (x v : List ℕ). block a x v (suc j) p) one.0 one.1) ∙ f.serves.gives.equal j p hj (ap not h) hp))

    pub blame-exact : earlier a.n D < budget → Blames a codeword budget blame → blame.set.0 ≡ D
    blame-exact reach = ⊎_elim found-exact (λ s. absurd (stopped_none a codeword budget blame s D w reach served))

    -- Under these hypotheses the set was found exactly where the budget goes beyond D.
    pub blame-sufficed : Blames a codeword budget blame → Found a codeword budget blame ↔ earlier a.n D < budget
    blame-sufficed b = (
      λ f. subst (λ (t : ℕ). earlier a.n t < budget) (found-exact f) f.reached,
      λ reach. ⊎_elim (λ f. f) (λ s. absurd (stopped_none a codeword budget blame s D w reach served)) b,
    )

    pub blame-seen : blame.tried < budget → Blames a codeword budget blame → blame.set.0 ≡ D
    blame-seen less = ⊎_elim found-exact (λ s. absurd (omega (arith, s.tried_is)))

  -- With a budget at all, the set is empty exactly where one pair gives all blocks.
  pub blame-none : Valid a → Bytes codeword → 0 < budget → Blames a codeword budget blame → (blame.set.0 ≡ 0) ↔ Serves a codeword 0
  blame-none ok bytes some b = (
    λ e. subst (Serves a codeword) e (blame-serves ok bytes b),
    λ h. ⊎_elim (λ f. first-empty f h) (λ s. absurd (stopped_none a codeword budget blame s 0 (empty-inside a.n) (omega (arith, earlier-first a.n)) h)) b,
  )
    where
      first-empty : Found a codeword budget blame → Serves a codeword 0 → blame.set.0 ≡ 0
      first-empty f h =
          ⊎_elim (λ k. absurd (f.first 0 (empty-inside a.n) k h)) (⊎_elim (λ e. sym e) (λ k. absurd (before-first blame.set.0 k)))
          (before-or 0 blame.set.0)
