-- The q lowest of the nodes that pass a test: counted by induction on the number of nodes; then as NodeSet::lowest finds them. Assumes nothing.
use mathlib.Core.Path.{◌≡◌, refl, sym, ap, ap₂, ◌∙◌}
use mathlib.Core.Logic.{⊎_elim}
use mathlib.Core.Bool.{Bool, true, false, not, ◌&&◌, true≢false}
use Prim.Native.Nat.{ℕ, zero, suc, ◌+◌, ◌-◌, ◌^◌, min, ◌≤◌, ◌<◌}
use native.Mathlib.Omega.{arith}
use borrow.Author.Tests.{lt-ltb, le-ltb, ltb-true, ltb-false}
use lib.Dec.{ltb}
use Rattle.base.specs.Seq.{one}
use Rattle.base.proofs.Cases.{lt-or}
use Rattle.base.proofs.Questions.{both-known}
use Rattle.params.specs.Nodes.{has, size, count, lowest}
use Rattle.params.proofs.Sets.{count-mono, count-ext, count-not, size-count, rank-inside}

-- ---- over a test

-- there are q of them, or as many as pass
pub count-lowest : (q : ℕ) (f : ℕ → Bool) (n : ℕ) → count (lowest q f) n ≡ min q (count f n)
unfolding count lowest
count-lowest q f zero = omega arith
count-lowest q f (suc n) = next (f (suc n)) (count f n) (count (lowest q f) n) (count-lowest q f n)
  where
    next : (b : Bool) (c e : ℕ) → e ≡ min q c → e + one (b && ltb c q) ≡ min q (c + one b)
    next true c e h =
        ⊎_elim (λ (l : c < q). ap (λ (t : Bool). e + one t) (lt-ltb c q l) ∙ omega arith)
        (λ (g : q ≤ c). ap (λ (t : Bool). e + one t) (le-ltb c q g) ∙ omega arith) (lt-or c q)
    next false c e h = omega arith

pub lowest-passes : (q : ℕ) (f : ℕ → Bool) (i : ℕ) → lowest q f i ≡ true → f i ≡ true
unfolding lowest
lowest-passes q f zero e = absurd (true≢false (sym e))
lowest-passes q f (suc j) e = (both-known (f (suc j)) (ltb (count f j) q) e).0

-- the q lowest are among more of the lowest
pub lowest-more : (q m : ℕ) (f : ℕ → Bool) (i : ℕ) → q ≤ m → lowest q f i ≡ true → lowest m f i ≡ true
unfolding lowest
lowest-more q m f zero h e = e
lowest-more q m f (suc j) h e =
    let k = both-known (f (suc j)) (ltb (count f j) q) e in
    ap₂ ◌&&◌ k.0 (lt-ltb (count f j) m (omega (arith, ltb-true (count f j) q k.1)))

-- a node that passes and is not one of them is above them all
pub lowest-below : (q : ℕ) (f : ℕ → Bool) (i j : ℕ) → lowest q f i ≡ true → f (suc j) ≡ true → lowest q f (suc j) ≡ false → i < suc j
unfolding lowest
lowest-below q f zero j e h out = absurd (true≢false (sym e))
lowest-below q f (suc i) j e h out =
    let low = ltb-true (count f i) q (both-known (f (suc i)) (ltb (count f i) q) e).1 in
    let high = ltb-false (count f j) q (ap (λ (b : Bool). b && ltb (count f j) q) (sym h) ∙ out) in
    ⊎_elim (λ (l : i < j). omega arith) (λ (g : j ≤ i). absurd (omega (arith, count-mono f j i g))) (lt-or i j)

-- Of n nodes those that pass and so many others that there are m: all but the n - m lowest that do not pass.
abbrev pub widened : ℕ → ℕ → (ℕ → Bool) → ℕ → Bool
widened n m f i = not (lowest (n - m) (λ i. not (f i)) i)

pub count-widened : (n m : ℕ) (f : ℕ → Bool) → count f n ≤ m → m ≤ n → count (widened n m f) n ≡ m
count-widened n m f few le =
    omega (arith, count-not (lowest (n - m) (λ i. not (f i))) n, count-lowest (n - m) (λ i. not (f i)) n, count-not f n)

pub widened-has : (n m : ℕ) (f : ℕ → Bool) (i : ℕ) → f i ≡ true → widened n m f i ≡ true
widened-has n m f i e = go (lowest (n - m) (λ i. not (f i)) i) refl
  where
    go : (b : Bool) → lowest (n - m) (λ i. not (f i)) i ≡ b → not b ≡ true
    go false h = refl
    go true h = absurd (true≢false (sym (lowest-passes (n - m) (λ i. not (f i)) i h) ∙ ap not e))

-- ---- over a set

-- where a set has no more than q nodes, its q lowest are all
pub lowest-all : (s q : ℕ) → s < 2 ^ 32 → size s ≤ q → (i : ℕ) → has s i ≡ lowest q (has s) i
unfolding lowest has
lowest-all s q word h zero = refl
lowest-all s q word h (suc j) = go (has s (suc j)) refl
  where
    go : (b : Bool) → has s (suc j) ≡ b → has s (suc j) ≡ (has s (suc j) && ltb (count (has s) j) q)
    go true e = e ∙ sym (ap₂ ◌&&◌ e (lt-ltb (count (has s) j) q (omega (arith, rank-inside s j word e))))
    go false e = e ∙ sym (ap (λ (b : Bool). b && ltb (count (has s) j) q) e)

-- what NodeSet::lowest answers
abbrev pub Lowest : ℕ → ℕ → ℕ → Type 0
Lowest q s t = (i : ℕ) → has t i ≡ lowest q (has s) i

module _ (q s t : ℕ) (told : Lowest q s t) where
  -- its nodes are the set's, ..
  pub lowest-has : (i : ℕ) → has t i ≡ true → has s i ≡ true
  lowest-has i e = lowest-passes q (has s) i (sym (told i) ∙ e)

  -- .. and there are q of them, or all
  pub lowest-size : s < 2 ^ 32 → t < 2 ^ 32 → size t ≡ min q (size s)
  lowest-size word word' =
      size-count 32 t word' ∙ count-ext (has t) (lowest q (has s)) 32 (λ j hj. told (suc j)) ∙ count-lowest q (has s) 32
      ∙ ap (min q) (sym (size-count 32 s word))
