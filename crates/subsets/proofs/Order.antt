-- The order of the tries is a strict order of all sets, the smaller first; how many sets come before one follows by counting: two tests that differ at one
-- number count one apart. Assumes nothing.
use mathlib.Core.Path.{◌≡◌, refl, sym, ap, ap₂, ◌∙◌, subst}
use mathlib.Core.Logic.{◌⊎◌, inl, inr, ⊎_elim}
use mathlib.Core.Bool.{Bool, true, false, ◌&&◌, ◌||◌, true≢false}
use Prim.Native.Nat.{ℕ, zero, suc, ◌^◌, ◌≤◌, ◌<◌}
use native.Mathlib.Nat.{not-suc-le-zero, le_refl}
use native.Mathlib.Omega.{arith}
use lib.Count.{ones}
use lib.Dec.{ltb, eqb}
use lib.Pow.{pow_pos}
use borrow.Author.Tests.{ltb-true, eqb-true, lt-ltb, le-ltb, eq-eqb}
use Rattle.base.specs.Seq.{one}
use Rattle.base.proofs.Cases.{lt-or, eq-or}
use Rattle.base.proofs.Questions.{both-known}
use Rattle.params.specs.Nodes.{size, within}
use Rattle.params.proofs.Sets.{same_test, one-mono}
use Rattle.subsets.specs.Order.{before, how_many, earlier, Next}

-- ---- the order

-- what the test says of sizes and numbers, ..
abbrev pub Below : ℕ → ℕ → Type 0
Below s t = (size s < size t) ⊎ ((size s ≡ size t) × (s < t))

pub below : (s t : ℕ) → before s t ≡ true → Below s t
unfolding before
below s t = go (ltb (size s) (size t)) refl
  where
    go : (b : Bool) → ltb (size s) (size t) ≡ b → (b || (eqb (size s) (size t) && ltb s t)) ≡ true → Below s t
    go true l e = inl (ltb-true (size s) (size t) l)
    go false l e = let y = both-known (eqb (size s) (size t)) (ltb s t) e in inr (eqb-true (size s) (size t) y.0, ltb-true s t y.1)

-- .. and when it is passed
pub before-smaller : (s t : ℕ) → size s < size t → before s t ≡ true
unfolding before
before-smaller s t h = ap (λ (b : Bool). b || (eqb (size s) (size t) && ltb s t)) (lt-ltb (size s) (size t) h)

pub before-lower : (s t : ℕ) → size s ≡ size t → s < t → before s t ≡ true
unfolding before
before-lower s t e h = ap₂ ◌||◌ (le-ltb (size s) (size t) (omega arith)) (ap₂ ◌&&◌ (eq-eqb (size s) (size t) e) (lt-ltb s t h))

pub before-irrefl : (s : ℕ) → before s s ≡ true → ⊥
before-irrefl s e = ⊎_elim (λ (l : size s < size s). omega arith) (λ h. omega (arith, h.1)) (below s s e)

pub before-trans : (s t u : ℕ) → before s t ≡ true → before t u ≡ true → before s u ≡ true
before-trans s t u h k = go (below s t h) (below t u k)
  where
    go : Below s t → Below t u → before s u ≡ true
    go (inl a) (inl b) = before-smaller s u (omega arith)
    go (inl a) (inr b) = before-smaller s u (omega arith)
    go (inr a) (inl b) = before-smaller s u (omega arith)
    go (inr a) (inr b) = before-lower s u (omega arith) (omega arith)

pub before-or : (s t : ℕ) → (before s t ≡ true) ⊎ ((s ≡ t) ⊎ (before t s ≡ true))
before-or s t =
    ⊎_elim (λ l. inl (before-smaller s t l))
    (λ g.
    ⊎_elim (λ l. inr (inr (before-smaller t s l)))
    (λ g'.
    let e : size s ≡ size t = omega arith in
    ⊎_elim (λ l. inl (before-lower s t e l))
    (λ h. ⊎_elim (λ l. inr (inr (before-lower t s (sym e) l))) (λ h'. inr (inl (omega arith))) (lt-or t s)) (lt-or s t))
    (lt-or (size t) (size s)))
    (lt-or (size s) (size t))

pub not-before-size : (s t : ℕ) → (before t s ≡ true → ⊥) → size s ≤ size t
not-before-size s t h = ⊎_elim (λ l. absurd (h (before-smaller t s l))) (λ g. g) (lt-or (size t) (size s))

-- the empty set is one of 1..n, and the first
pub empty-inside : (n : ℕ) → within n 0 ≡ true
unfolding within
empty-inside n = lt-ltb 0 (2 ^ n) (pow_pos n)

pub before-first : (t : ℕ) → before t 0 ≡ true → ⊥
unfolding size ones
before-first t e = ⊎_elim (λ l. not-suc-le-zero l) (λ h. not-suc-le-zero h.1) (below t 0 e)

-- ---- how many pass a test

many-none : (f : ℕ → Bool) (m : ℕ) → ((i : ℕ) → f i ≡ true → ⊥) → how_many f m ≡ 0
unfolding how_many
many-none f zero h = refl
many-none f (suc m) h = omega (arith, many-none f m h, one-mono (f m) false (λ e. absurd (h m e)))

many-le : (f g : ℕ → Bool) (m : ℕ) → ((i : ℕ) → i < m → f i ≡ true → g i ≡ true) → how_many f m ≤ how_many g m
unfolding how_many
many-le f g zero h = omega arith
many-le f g (suc m) h = omega (arith, many-le f g m (λ i hi. h i (omega arith)), one-mono (f m) (g m) (h m (le_refl (suc m))))

module _ (f g : ℕ → Bool) (j : ℕ) (left-no : f j ≡ false) (right-yes : g j ≡ true) where
  at_top : (m : ℕ) → j ≡ m → (one (f m) ≡ 0) × (one (g m) ≡ 1)
  at_top m e = (ap one (subst (λ (k : ℕ). f k ≡ false) e left-no), ap one (subst (λ (k : ℕ). g k ≡ true) e right-yes))

  -- a test that passes wherever another does, and once more, ..
  many-lt : (m : ℕ) → j < m → ((i : ℕ) → i < m → f i ≡ true → g i ≡ true) → how_many f m < how_many g m
  unfolding how_many
  many-lt zero hj h = absurd (not-suc-le-zero hj)
  many-lt (suc m) hj h =
      ⊎_elim (λ e. omega (arith, many-le f g m (λ i hi. h i (omega arith)), (at_top m e).0, (at_top m e).1))
      (λ ne. omega (arith, many-lt m (omega arith) (λ i hi. h i (omega arith)), one-mono (f m) (g m) (h m (le_refl (suc m)))))
      (eq-or j m)

  -- .. and one that differs there alone
  many-suc : (m : ℕ) → j < m → ((i : ℕ) → i < m → (i ≡ j → ⊥) → f i ≡ g i) → how_many g m ≡ suc (how_many f m)
  unfolding how_many
  many-suc zero hj h = absurd (not-suc-le-zero hj)
  many-suc (suc m) hj h =
      ⊎_elim
      (λ e.
      let other : (i : ℕ) → i < m → f i ≡ g i = λ i hi. h i (omega arith) (λ k. omega arith) in
      omega (arith, many-le f g m (λ i hi k. sym (other i hi) ∙ k), many-le g f m (λ i hi k. other i hi ∙ k), (at_top m e).0, (at_top m e).1))
      (λ ne. omega (arith, many-suc m (omega arith) (λ i hi. h i (omega arith)), ap one (h m (le_refl (suc m)) (λ e. ne (sym e)))))
      (eq-or j m)

-- ---- how many sets come before one

pub earlier-first : (n : ℕ) → earlier n 0 ≡ 0
unfolding earlier
earlier-first n = many-none (λ t. before t 0) (2 ^ n) before-first

no_self : (s : ℕ) → before s s ≡ false
no_self s = same_test (before s s) false (λ e. absurd (before-irrefl s e)) (λ e. absurd (true≢false (sym e)))

pub earlier-lt : (n s t : ℕ) → within n s ≡ true → before s t ≡ true → earlier n s < earlier n t
unfolding earlier within
earlier-lt n s t w h =
    many-lt (λ u. before u s) (λ u. before u t) s (no_self s) h (2 ^ n) (ltb-true s (2 ^ n) w) (λ u hu k. before-trans u s t k h)

pub earlier-before : (n s t : ℕ) → within n s ≡ true → within n t ≡ true → earlier n s < earlier n t → before s t ≡ true
earlier-before n s t w w' h =
    ⊎_elim (λ b. b)
    (⊎_elim (λ e. absurd (omega (arith, ap (earlier n) e))) (λ b. absurd (omega (arith, earlier-lt n t s w' b))))
    (before-or s t)

pub earlier-once : (n s t : ℕ) → within n s ≡ true → within n t ≡ true → earlier n s ≡ earlier n t → s ≡ t
earlier-once n s t w w' h =
    ⊎_elim (λ b. absurd (omega (arith, earlier-lt n s t w b)))
    (⊎_elim (λ e. e) (λ b. absurd (omega (arith, earlier-lt n t s w' b))))
    (before-or s t)

-- ---- the next set

module _ (n s t : ℕ) (next : Next n s t) where
  pub next-split : (u : ℕ) → within n u ≡ true → before u t ≡ true → (before u s ≡ true) ⊎ (u ≡ s)
  next-split u w h =
      ⊎_elim (λ b. inl b) (⊎_elim (λ e. inr e) (λ b. absurd (next.none_between u w b h))) (before-or u s)

  pub next-earlier : within n s ≡ true → earlier n t ≡ suc (earlier n s)
  unfolding earlier within
  next-earlier w =
      many-suc (λ u. before u s) (λ u. before u t) s (no_self s) next.behind (2 ^ n) (ltb-true s (2 ^ n) w)
      (λ u hu ne.
      same_test (before u s) (before u t) (λ k. before-trans u s t k next.behind)
      (λ k. ⊎_elim (λ b. b) (λ e. absurd (ne e)) (next-split u (lt-ltb u (2 ^ n) hu) k)))
