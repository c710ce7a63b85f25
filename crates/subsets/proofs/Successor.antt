-- The set behind a set: the next number of its size where that is below 2^n, otherwise the lowest of the size above. Assumes nothing.
use mathlib.Core.Path.{◌≡◌, refl, sym, ap, subst}
use mathlib.Core.Logic.{⊎_elim}
use mathlib.Core.Bool.{true}
use Prim.Native.Nat.{ℕ, suc, ◌+◌, ◌-◌, ◌^◌, ◌≤◌, ◌<◌}
use native.Mathlib.Omega.{arith}
use lib.Count.{ones, ones-ones}
use lib.Pow.{pow_pos, pow_mono}
use borrow.Author.Tests.{ltb-true, lt-ltb}
use Rattle.base.proofs.Cases.{lt-or, eq-or}
use Rattle.params.specs.Nodes.{size, within}
use Rattle.subsets.specs.Order.{Next, Passable, NextPost}
use Rattle.subsets.specs.Numbers.{Above}
use Rattle.subsets.proofs.Order.{below, before-smaller, before-lower}
use Rattle.subsets.proofs.Numbers.{ones-short, ones_pos, parts, above-parts}

-- ---- the set behind

-- the next number of the size
pub next-same : (n s t : ℕ) → t < 2 ^ n → Above s t → Next n s t
unfolding within
next-same n s t l a =
    record {
      inside = lt-ltb t (2 ^ n) l;
      behind = before-lower s t (sym a.same_size) a.more;
      none_between = λ u in-n first second.
          ⊎_elim
          (λ lower. ⊎_elim (λ higher. omega (arith, a.same_size)) (λ higher. omega (arith, a.same_size, higher.0)) (below u t second))
          (λ lower.
          ⊎_elim (λ higher. omega (arith, a.same_size, lower.0))
          (λ higher. a.none_between u lower.1 higher.1 (sym lower.0)) (below u t second))
          (below s u first);
    }

-- k ones at the bottom are the lowest number of size k
size-lowest : (k : ℕ) → size (2 ^ k - 1) ≡ k
unfolding size
size-lowest k = ones-ones k

size-short : (k u : ℕ) → u < 2 ^ k - 1 → size u < k
unfolding size
size-short k u = ones-short k u

-- the lowest of the size above, where no set of the size is left
next-size : (n s : ℕ) → size s < n → ((u : ℕ) → u < 2 ^ n → s < u → size u ≡ size s → ⊥) → Next n s (2 ^ suc (size s) - 1)
unfolding within
next-size n s h last =
    let k = suc (size s) in
    let lowest = size-lowest k in
    record {
      inside = lt-ltb (2 ^ k - 1) (2 ^ n) (omega (arith, pow_mono h, pow_pos k));
      behind = before-smaller s (2 ^ k - 1) (omega arith);
      none_between = λ u in-n first second.
          ⊎_elim
          (λ lower.
          ⊎_elim (λ higher. omega arith) (λ higher. omega (arith, higher.0, size-short k u higher.1)) (below u (2 ^ k - 1) second))
          (λ lower. last u (ltb-true u (2 ^ n) in-n) lower.1 (sym lower.0)) (below s u first);
    }

-- the next number of the size is past the last set
pub next_last : (n s t : ℕ) → size s < n → Above s t → 2 ^ n ≤ t → Next n s (2 ^ suc (size s) - 1)
next_last n s t h a g = next-size n s h (λ u l more e. a.none_between u more (omega arith) e)

-- no other set is empty
pub next-none : (n s : ℕ) → s ≡ 0 → size s < n → Next n s 1
unfolding size ones
next-none n s z h =
    subst (λ (x : ℕ). Next n s (2 ^ suc (size x) - 1)) z
    (next-size n s h (λ u l more e. omega (arith, ones_pos n u l (omega arith), ap ones z)))

pub next-exists : (n s : ℕ) → within n s ≡ true → size s < n → (t : ℕ) × Next n s t
next-exists n s e h =
    ⊎_elim (λ (z : s ≡ 0). (1, next-none n s z h))
    (λ (ne : s ≡ 0 → ⊥).
    let w = parts s (omega arith) in
    let t = s + 2 ^ w.a + (2 ^ w.m - 1) in
    ⊎_elim (λ (l : t < 2 ^ n). (t, next-same n s t l (above-parts w)))
    (λ (g : 2 ^ n ≤ t). (2 ^ suc (size s) - 1, next_last n s t h (above-parts w) g)) (lt-or t (2 ^ n)))
    (eq-or s 0)

-- ---- the contract, where no set comes behind and where one does

pub kept : (n s : ℕ) → (Passable n s → ⊥) → NextPost n s s
kept n s none = record { next = λ p. absurd (none p); kept = λ _. refl }

pub moved : (n s t : ℕ) → Passable n s → Next n s t → NextPost n s t
moved n s t p x = record { next = λ _. x; kept = λ none. absurd (none p) }
