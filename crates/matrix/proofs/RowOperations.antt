-- The two row operations, and the steps of one column: none changes which vectors are taken to zero, nor the columns that are already the identity's.
-- Assumes nothing.
use mathlib.Core.Path.{◌≡◌, refl, sym, ap, ap₂, ◌∙◌, subst}
use mathlib.Core.List.{List}
use mathlib.Core.Logic.Iff
use mathlib.Core.Logic.{◌↔◌, ⊎_elim}
use Prim.Native.Nat.{ℕ, ◌+◌, ◌≤◌, ◌<◌}
use native.Mathlib.Omega.{arith}
use Rattle.std.specs.Prelude.{Option, Some, None, MatchOption}
use Rattle.base.proofs.Cases.{lt-or, eq-or}
use Rattle.field.specs.Field.{IsByte, Inverse, add, mul}
use Rattle.field.specs.FiniteSum.{sum}
use Rattle.field.proofs.Addition.{add-self, add-zero-left, add-zero-right}
use Rattle.field.proofs.Multiplication.{mul-add-left, mul_assoc, mul_comm, mul-byte, mul-zero-right, mul-one-left, mul-one-right}
use Rattle.field.proofs.FiniteSum.{sum-byte, sum-ext, sum-add, mul-sum}
use Rattle.matrix.specs.Product.{unit}
use Rattle.matrix.specs.Working.{grid, row_plus, row_times, Rewritten, Kills, Units, Reduced, FoundAt, Found, Raised, Ready}
use Rattle.matrix.proofs.Identity.{unit-same, unit-other}
use Rattle.matrix.proofs.Rewriting.{by_copy}

-- row i of the working matrix against the vector z
abbrev pub against : ℕ → List (List ℕ) → ℕ → (ℕ → ℕ) → ℕ
against s w i z = sum (s + s) (λ k. mul (grid w i k) (z k))

scaled-sum : (n c : ℕ) (q z : ℕ → ℕ) → sum n (λ k. mul (mul c (q k)) (z k)) ≡ mul c (sum n (λ k. mul (q k) (z k)))
scaled-sum n c q z =
    sum-ext n (λ k. mul (mul c (q k)) (z k)) (λ k. mul c (mul (q k) (z k))) (λ k hk. mul_assoc c (q k) (z k))
    ∙ sym (mul-sum n c (λ k. mul (q k) (z k)))

added-sum : (n c : ℕ) (r q z : ℕ → ℕ) → sum n (λ k. mul (add (r k) (mul c (q k))) (z k))
    ≡ add (sum n (λ k. mul (r k) (z k))) (mul c (sum n (λ k. mul (q k) (z k))))
added-sum n c r q z =
    sum-ext n (λ k. mul (add (r k) (mul c (q k))) (z k)) (λ k. add (mul (r k) (z k)) (mul (mul c (q k)) (z k)))
    (λ k hk. mul-add-left (r k) (mul c (q k)) (z k))
    ∙ sum-add n (λ k. mul (r k) (z k)) (λ k. mul (mul c (q k)) (z k))
    ∙ ap (add (sum n (λ k. mul (r k) (z k)))) (scaled-sum n c q z)

-- ---- what both have in common: one row is rewritten

module _ (s i : ℕ) (old new : List (List ℕ)) (row : ℕ → ℕ) (hi : i < s) (r : Rewritten s i old new row) where
  kept-against : (z : ℕ → ℕ) (h : ℕ) → (h ≡ i → ⊥) → against s new h z ≡ against s old h z
  kept-against z h ne =
      sum-ext (s + s) (λ k. mul (grid new h k) (z k)) (λ k. mul (grid old h k) (z k))
      (λ k hk. ap (λ (x : ℕ). mul x (z k)) (r.others h k ne))

  here-against : (z : ℕ → ℕ) → against s new i z ≡ sum (s + s) (λ k. mul (row k) (z k))
  here-against z =
      sum-ext (s + s) (λ k. mul (grid new i k) (z k)) (λ k. mul (row k) (z k)) (λ k hk. ap (λ (x : ℕ). mul x (z k)) (r.done k hk))

  -- the kernel is the same if row i is taken to zero by the one where it is by the other
  same_from : ((z : ℕ → ℕ) → Kills s old z → against s new i z ≡ 0) → ((z : ℕ → ℕ) → Kills s new z → against s old i z ≡ 0)
      → (z : ℕ → ℕ) → Kills s old z ↔ Kills s new z
  same_from to back z = (
    λ kills h hh.
        ⊎_elim (λ e. subst (λ (x : ℕ). against s new x z ≡ 0) (sym e) (to z kills)) (λ ne. kept-against z h ne ∙ kills h hh) (eq-or h i),
    λ kills h hh.
        ⊎_elim (λ e. subst (λ (x : ℕ). against s old x z ≡ 0) (sym e) (back z kills))
        (λ ne. sym (kept-against z h ne) ∙ kills h hh)
        (eq-or h i),
  )

  units-from : (j : ℕ) → j ≤ s → Units s j old → ((k : ℕ) → k < j → row k ≡ unit i k) → Units s j new
  units-from j hj u e h k hh hk =
      ⊎_elim (λ q. subst (λ (x : ℕ). grid new x k ≡ unit x k) (sym q) (r.done k (omega arith) ∙ e k hk))
      (λ ne. r.others h k ne ∙ u h k hh hk)
      (eq-or h i)

-- ---- c times row p is added to row i

module _ (s i c p : ℕ) (old new : List (List ℕ)) (hi : i < s) (hp : p < s) (ne : i ≡ p → ⊥)
    (r : Rewritten s i old new (row_plus old i c (grid old p))) where
  added-against : (z : ℕ → ℕ) → against s new i z ≡ add (against s old i z) (mul c (against s old p z))
  added-against z = here-against s i old new (row_plus old i c (grid old p)) hi r z ∙ added-sum (s + s) c (grid old i) (grid old p) z

  pub added : (j : ℕ) → j ≤ p → Units s j old → Reduced s j old new
  added j hj u =
      record {
        same =
            same_from s i old new (row_plus old i c (grid old p)) hi r
            (λ z kills. added-against z ∙ ap₂ add (kills i hi) (ap (mul c) (kills p hp) ∙ mul-zero-right c) ∙ add-zero-left 0)
            (λ z kills.
            let gone : against s old p z ≡ 0 =
            sym (kept-against s i old new (row_plus old i c (grid old p)) hi r z p (λ e. ne (sym e))) ∙ kills p hp in
            sym (add-zero-right (against s old i z)) ∙ ap (add (against s old i z)) (sym (mul-zero-right c) ∙ ap (mul c) (sym gone))
            ∙ sym (added-against z) ∙ kills i hi);
        units =
            units-from s i old new (row_plus old i c (grid old p)) hi r j (omega arith) u
            (λ k hk.
            ap₂ add (u i k hi hk) (ap (mul c) (u p k hp hk ∙ unit-other p k (λ e. omega arith)) ∙ mul-zero-right c)
            ∙ add-zero-right (unit i k));
      }

-- ---- row j is multiplied by c, which has an inverse

module _ (s j c d : ℕ) (old new : List (List ℕ)) (hj : j < s) (inverse : mul d c ≡ 1)
    (r : Rewritten s j old new (row_times old c j)) where
  scaled-against : (z : ℕ → ℕ) → against s new j z ≡ mul c (against s old j z)
  scaled-against z = here-against s j old new (row_times old c j) hj r z ∙ scaled-sum (s + s) c (grid old j) z

  pub scaled : Units s j old → Reduced s j old new
  scaled u =
      record {
        same =
            same_from s j old new (row_times old c j) hj r
            (λ z kills. scaled-against z ∙ ap (mul c) (kills j hj) ∙ mul-zero-right c)
            (λ z kills.
            sym (mul-one-left (against s old j z) (sum-byte (s + s) _ (λ k hk. mul-byte (grid old j k) (z k))))
            ∙ ap (λ (x : ℕ). mul x (against s old j z)) (sym inverse) ∙ mul_assoc d c (against s old j z)
            ∙ ap (mul d) (sym (scaled-against z) ∙ kills j hj) ∙ mul-zero-right d);
        units =
            units-from s j old new (row_times old c j) hj r j (omega arith) u
            (λ k hk.
            let off : unit j k ≡ 0 = unit-other j k (λ e. omega arith) in
            ap (mul c) (u j k hj hk ∙ off) ∙ mul-zero-right c ∙ sym off);
      }

-- ---- the steps of one column

pub reduced-none : (s : ℕ) (w : List (List ℕ)) (j : ℕ) → Units s j w → Reduced s j w w
reduced-none s w j u = record { same = λ z. Iff.rfl; units = u }

pub reduced-then : (s j k : ℕ) (a b c : List (List ℕ)) → Reduced s j a b → Reduced s k b c → Reduced s k a c
reduced-then s j k a b c r q = record { same = λ z. Iff.trans (r.same z) (q.same z); units = q.units }

-- what a search of the rows from j on tells
pub found-first : (s j : ℕ) (w : List (List ℕ)) (r : Option ℕ)
    → MatchOption r ((k : ℕ) → j ≤ k → k < s → grid w k j ≡ 0)
    (λ i. (j ≤ i) × (i < s) × (grid w i j ≡ 0 → ⊥) × ((k : ℕ) → j ≤ k → k < i → grid w k j ≡ 0)) → Found s j w r
found-first s j w (Some i) m = record { low = m.0; within = m.1; nonzero = m.2; first = λ k hk low. m.3 k low hk }
found-first s j w None m = λ k hk low. m k low hk

-- row p is added: row j had a zero
pub raised-added : (s j p : ℕ) (old new : List (List ℕ)) → IsByte (grid old p j) → Units s j old → FoundAt s j old p → (p ≡ j → ⊥)
    → Rewritten s j old new (row_plus old j 1 (grid old p)) → Raised s j old new
raised-added s j p old new byte u f ne r =
    record {
      reduced = added s j 1 p old new hj f.within (λ e. ne (sym e)) r j f.low u;
      nonzero = λ e. f.nonzero (sym pivot ∙ e);
    }
  where
    lt : j < p
    lt = ⊎_elim (λ h. h) (λ h. absurd (ne (omega (arith, f.low)))) (lt-or j p)

    hj : j < s
    hj = omega (arith, f.within)

    pivot : grid new j j ≡ grid old p j
    pivot =
        r.done j (omega arith) ∙ ap₂ add (f.first j lt (omega arith)) (mul-one-left (grid old p j) byte)
        ∙ add-zero-left (grid old p j)

-- row j is multiplied by its pivot's inverse
pub scaled-pivot : (s j c : ℕ) (old new : List (List ℕ)) → j < s → (grid old j j ≡ 0 → ⊥) → Inverse (grid old j j) c → Units s j old
    → Rewritten s j old new (row_times old c j) → Reduced s j old new × (grid new j j ≡ 1)
scaled-pivot s j c old new hj ne inv u r = (
  scaled s j c (grid old j j) old new hj (inv.product ne) r u,
  r.done j (omega arith) ∙ mul_comm c (grid old j j) ∙ inv.product ne,
)

-- Column j of row i is the identity's; row j, and column j of the other rows, are as they were.
pub record Cleared (s j i : ℕ) (old new : List (List ℕ)) : Type 0 where
  pub reduced : Reduced s j old new
  pub kept : (k : ℕ) → k < s + s → grid new j k ≡ grid old j k
  pub here : grid new i j ≡ unit i j
  pub others : (h : ℕ) → h < s → (h ≡ i → ⊥) → grid new h j ≡ grid old h j

pub cleared-none : (s j i : ℕ) (w : List (List ℕ)) → Ready s j w → i ≡ j → Cleared s j i w w
cleared-none s j i w d e =
    record {
      reduced = reduced-none s w j d.units;
      kept = λ k hk. refl;
      here = subst (λ (x : ℕ). grid w x j ≡ unit x j) (sym e) (d.pivot ∙ sym (unit-same j));
      others = λ h hh ne. refl;
    }

-- row j, times what stands in column j, is added: the two are equal, and their sum is zero
pub cleared-added : (s j i : ℕ) (old new : List (List ℕ)) → i < s → (i ≡ j → ⊥) → IsByte (grid old i j) → Ready s j old
    → Rewritten s i old new (row_plus old i (grid old i j) (grid old j)) → Cleared s j i old new
cleared-added s j i old new hi ne byte d r =
    record {
      reduced = added s i (grid old i j) j old new hi d.within ne r j (omega arith) d.units;
      kept = λ k hk. r.others j k (λ e. ne (sym e));
      here =
          r.done j (omega (arith, d.within))
          ∙ ap (add (grid old i j)) (ap (mul (grid old i j)) d.pivot ∙ mul-one-right (grid old i j) byte)
          ∙ add-self (grid old i j) ∙ sym (unit-other i j ne);
      others = λ h hh nh. r.others h j nh;
    }

-- the rows before i are clear in column j
pub record ClearedBelow (s j i : ℕ) (old new : List (List ℕ)) : Type 0 where
  pub reduced : Reduced s j old new
  pub kept : (k : ℕ) → k < s + s → grid new j k ≡ grid old j k
  pub column : (h : ℕ) → h < i → grid new h j ≡ unit h j

pub still-ready : (s j i : ℕ) (old new : List (List ℕ)) → Ready s j old → ClearedBelow s j i old new → Ready s j new
still-ready s j i old new d b =
    record { within = d.within; units = b.reduced.units; pivot = b.kept j (omega (arith, d.within)) ∙ d.pivot }

pub below_more : (s j i : ℕ) (old mid new : List (List ℕ)) → i < s → ClearedBelow s j i old mid → Cleared s j i mid new
    → ClearedBelow s j (i + 1) old new
below_more s j i old mid new hi b x =
    record {
      reduced = reduced-then s j j old mid new b.reduced x.reduced;
      kept = λ k hk. x.kept k hk ∙ b.kept k hk;
      column =
          λ h hh.
          ⊎_elim (λ e. subst (λ (h : ℕ). grid new h j ≡ unit h j) (sym e) x.here)
          (λ ne. x.others h (omega arith) ne ∙ b.column h (omega arith))
          (eq-or h i);
    }

-- ---- the steps as the code takes them: the working matrix says its side, and no step changes it

pub scaled-ready : (s t u j c : ℕ) (old mid new : List (List ℕ)) → t ≡ s → u ≡ t → j < s → Raised s j old mid → Inverse (grid mid j j) c
    → Rewritten t j mid new (row_times mid c j) → Reduced s j old new × Ready u j new
scaled-ready s t u j c old mid new e e' hj a inv r =
    let q =
    scaled-pivot s j c mid new hj a.nonzero inv a.reduced.units (subst (λ (x : ℕ). Rewritten x j mid new (row_times mid c j)) e r) in (
      reduced-then s j j old mid new a.reduced q.0,
      subst (λ (x : ℕ). Ready x j new) (sym (e' ∙ e)) (record { within = hj; units = q.0.units; pivot = q.1 }),
    )

pub reduced-more : (s t j k : ℕ) (old mid new : List (List ℕ)) → t ≡ s → Reduced s j old mid → Reduced t k mid new → Reduced s k old new
reduced-more s t j k old mid new e a r = reduced-then s j k old mid new a (subst (λ (x : ℕ). Reduced x k mid new) e r)

pub cleared-more : (s t j i : ℕ) (old mid new : List (List ℕ)) (row : ℕ → ℕ) → t ≡ s → i < t → (i ≡ j → ⊥) → IsByte (grid mid i j) → Ready s j old
    → ((k : ℕ) → k < s + s → row k ≡ grid old j k) → Rewritten t i mid new (row_plus mid i (grid mid i j) row) → ClearedBelow s j i old mid
    → ClearedBelow s j (i + 1) old new
cleared-more s t j i old mid new row e hi ne byte d copy r b =
    below_more s j i old mid new (omega arith) b
    (cleared-added s j i mid new (omega arith) ne byte (still-ready s j i old mid d b)
    (by_copy s i (grid mid i j) j mid new row (λ k hk. copy k hk ∙ sym (b.kept k hk))
    (subst (λ (x : ℕ). Rewritten x i mid new (row_plus mid i (grid mid i j) row)) e r)))

pub cleared-same : (s t j i : ℕ) (old mid : List (List ℕ)) → t ≡ s → i < t → i ≡ j → Ready s j old → ClearedBelow s j i old mid
    → ClearedBelow s j (i + 1) old mid
cleared-same s t j i old mid e hi q d b =
    below_more s j i old mid mid (omega arith) b (cleared-none s j i mid (still-ready s j i old mid d b) q)
