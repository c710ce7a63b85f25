-- Counts and rising lists of the nodes that pass a test, by induction on the number of nodes; then node sets, by their bits. Assumes nothing.
use mathlib.Core.Path.{◌≡◌, refl, sym, ap, ap₂, ◌∙◌, subst}
use mathlib.Core.Logic.{◌↔◌, ⊎_elim}
use mathlib.Core.Bool.{Bool, true, false, not, ◌&&◌, true≢false}
use mathlib.Core.List.{List, [], ◌++◌, append-nil}
use Prim.Native.Nat.{ℕ, zero, suc, ◌+◌, ◌-◌, ◌*◌, ◌/◌, ◌%◌, ◌^◌, min, ◌≤◌, ◌<◌, zero-le}
use native.Mathlib.Nat.{not-suc-le-zero, le_refl, zero-lt-suc, lt_of_lt_of_le, lt_of_le_of_lt, one-mul, zero-min, min-le_left, pow-suc}
use native.Mathlib.Nat.{mod-one, mod-lt, mod-eq_of_lt, div-eq_of_lt, div-lt_iff_lt-mul}
use native.Mathlib.Numerals.{one-add}
use native.Mathlib.Omega.{arith}
use native.Mathlib.Decide.{le_ind}
use lib.Arith.{lt-one}
use lib.Bits.{bit_and, and_step, and_shr, and_le_l}
use lib.Count.{ones, ones_cat, ones-le}
use lib.Dec.{leb, eqb}
use lib.ListN.{length, get_or, length-append, get_or-append}
use lib.Pow.{pow_pos, pow_mono, shr_lt, mod-pow-add}
use lib.Seq.{get_or_at}
use borrow.Author.Tests.{ltb-true, eqb-true, eqb-false, lt-ltb, le-leb, lt-leb, eq-eqb}
use Rattle.base.specs.Seq.{one}
use Rattle.base.proofs.Cases.{lt-or}
use Rattle.params.specs.Nodes.{has, size, within, disjoint, count, only, nodes, outside, listed}

-- ---- one node

one-le : (b : Bool) → one b ≤ 1
one-le true = le_refl 1
one-le false = zero-le

one-pos : (b : Bool) → 0 < one b → b ≡ true
one-pos true h = refl
one-pos false h = absurd (not-suc-le-zero h)

one-not : (b : Bool) → one (not b) + one b ≡ 1
one-not true = refl
one-not false = refl

length-only : (b : Bool) (i : ℕ) → length (only b i) ≡ one b
length-only true i = refl
length-only false i = refl

-- ---- counts and lists over a test

pub length-nodes : (f : ℕ → Bool) (n : ℕ) → length (nodes f n) ≡ count f n
unfolding nodes count
length-nodes f zero = refl
length-nodes f (suc n) =
    length-append (nodes f n) (only (f (suc n)) (suc n)) ∙ ap₂ ◌+◌ (length-nodes f n) (length-only (f (suc n)) (suc n))

pub count-le : (f : ℕ → Bool) (n : ℕ) → count f n ≤ n
unfolding count
count-le f zero = zero-le
count-le f (suc n) = omega (arith, count-le f n, one-le (f (suc n)))

pub count-mono : (f : ℕ → Bool) (m n : ℕ) → m ≤ n → count f m ≤ count f n
unfolding count
count-mono f m n h = le_ind (λ (k : ℕ). count f m ≤ count f k) (le_refl _) (λ k hk ih. omega arith) n h

-- the rank of a node that passes is below the count
pub rank_lt : (f : ℕ → Bool) (n j : ℕ) → j < n → f (suc j) ≡ true → count f j < count f n
unfolding count
rank_lt f n j h e = omega (arith, count-mono f (suc j) n h, ap one e)

-- a node that passes stands at its rank
pub node-at-rank : (f : ℕ → Bool) (n j : ℕ) → j < n → f (suc j) ≡ true → get_or (nodes f n) (count f j) 0 ≡ suc j
unfolding nodes
node-at-rank f n j h e =
    le_ind (λ (m : ℕ). get_or (nodes f m) (count f j) 0 ≡ suc j)
    (ap (λ (b : Bool). get_or (nodes f j ++ only b (suc j)) (count f j) 0) e
    ∙ get_or_at (nodes f j) (suc j) [] 0 (count f j) (length-nodes f j))
    (λ m hm ih.
    get_or-append (nodes f m) (only (f (suc m)) (suc m)) 0 (count f j) (omega (arith, length-nodes f m, rank_lt f m j hm e)) ∙ ih) n h

place : (f : ℕ → Bool) (n i : ℕ) → i < count f n → (j : ℕ) × (j < n) × (f (suc j) ≡ true) × (count f j ≡ i)
unfolding count
place f zero i h = absurd (not-suc-le-zero h)
place f (suc n) i h =
    ⊎_elim (λ l. let p = place f n i l in (p.0, omega (arith, p.1), p.2, p.3))
    (λ g. (n, le_refl (suc n), one-pos (f (suc n)) (omega arith), omega (arith, one-le (f (suc n)))))
    (lt-or i (count f n))

-- each entry is a node that passes, and stands at its rank
pub entry : (f : ℕ → Bool) (n i : ℕ) → i < count f n
    → (j : ℕ) × (j < n) × (f (suc j) ≡ true) × (get_or (nodes f n) i 0 ≡ suc j) × (count f j ≡ i)
entry f n i h =
    let p = place f n i h in
    (p.0, p.1, p.2, ap (λ (k : ℕ). get_or (nodes f n) k 0) (sym p.3) ∙ node-at-rank f n p.0 p.1 p.2, p.3)

pub rising : (f : ℕ → Bool) (n i j : ℕ) → i < j → j < count f n → get_or (nodes f n) i 0 < get_or (nodes f n) j 0
rising f n i j h hj =
    let p = entry f n i (omega arith) in
    let q = entry f n j hj in
    ⊎_elim (λ l. omega (arith, p.3, q.3, l)) (λ g. absurd (omega (arith, count-mono f q.0 p.0 g, p.4, q.4)))
    (lt-or p.0 q.0)

-- two nodes of one rank are one
pub same_rank : (f : ℕ → Bool) (i j : ℕ) → f (suc i) ≡ true → f (suc j) ≡ true → count f i ≡ count f j → i ≡ j
same_rank f i j hi hj e =
    let p = node-at-rank f (suc (i + j)) i (omega arith) hi in
    let q = node-at-rank f (suc (i + j)) j (omega arith) hj in
    let s : suc i ≡ suc j = sym p ∙ ap (λ (k : ℕ). get_or (nodes f (suc (i + j))) k 0) e ∙ q in
    omega (arith, s)

-- equal entries have equal places
pub distinct : (f : ℕ → Bool) (n i j : ℕ) → i < count f n → j < count f n
    → get_or (nodes f n) i 0 ≡ get_or (nodes f n) j 0 → i ≡ j
distinct f n i j hi hj e =
    let p = entry f n i hi in
    let q = entry f n j hj in
    let same : p.0 ≡ q.0 = omega (arith, p.3, q.3, e) in
    sym p.4 ∙ ap (count f) same ∙ q.4

pub nodes-ext : (f g : ℕ → Bool) (n : ℕ) → ((j : ℕ) → j < n → f (suc j) ≡ g (suc j)) → nodes f n ≡ nodes g n
unfolding nodes
nodes-ext f g zero h = refl
nodes-ext f g (suc n) h =
    ap₂ (λ (l : List ℕ) (b : Bool). l ++ only b (suc n)) (nodes-ext f g n (λ j hj. h j (omega arith))) (h n (le_refl (suc n)))

pub count-ext : (f g : ℕ → Bool) (n : ℕ) → ((j : ℕ) → j < n → f (suc j) ≡ g (suc j)) → count f n ≡ count g n
count-ext f g n h = sym (length-nodes f n) ∙ ap length (nodes-ext f g n h) ∙ length-nodes g n

-- where no node above m passes
pub nodes-stop : (f : ℕ → Bool) (m n : ℕ) → m ≤ n → ((j : ℕ) → m ≤ j → j < n → f (suc j) ≡ false) → nodes f n ≡ nodes f m
unfolding nodes
nodes-stop f m n h =
    le_ind (λ (k : ℕ). ((j : ℕ) → m ≤ j → j < k → f (suc j) ≡ false) → nodes f k ≡ nodes f m) (λ z. refl)
    (λ k hk ih z.
    ap (λ (b : Bool). nodes f k ++ only b (suc k)) (z k hk (le_refl (suc k))) ∙ append-nil (nodes f k)
    ∙ ih (λ j hj hl. z j hj (omega arith))) n h

pub count-stop : (f : ℕ → Bool) (m n : ℕ) → m ≤ n → ((j : ℕ) → m ≤ j → j < n → f (suc j) ≡ false) → count f n ≡ count f m
count-stop f m n h z = sym (length-nodes f n) ∙ ap length (nodes-stop f m n h z) ∙ length-nodes f m

pub count-not : (f : ℕ → Bool) (n : ℕ) → count (λ i. not (f i)) n + count f n ≡ n
unfolding count
count-not f zero = refl
count-not f (suc n) = omega (arith, count-not f n, one-not (f (suc n)))

count-all : (f : ℕ → Bool) (n : ℕ) → ((j : ℕ) → j < n → f (suc j) ≡ true) → count f n ≡ n
unfolding count
count-all f zero h = refl
count-all f (suc n) h =
    omega (arith, count-all f n (λ j hj. h j (omega arith)), ap one (h n (le_refl (suc n))))

-- a test of range at a node's number
pub range-yes : (m j : ℕ) → j < m → (leb 1 (suc j) && leb (suc j) m) ≡ true
range-yes m j h = ap₂ ◌&&◌ (le-leb 1 (suc j) (omega arith)) (le-leb (suc j) m h)

pub range-no : (m j : ℕ) → m ≤ j → (leb 1 (suc j) && leb (suc j) m) ≡ false
range-no m j h = ap₂ ◌&&◌ (le-leb 1 (suc j) (omega arith)) (lt-leb (suc j) m (omega arith))

-- the nodes 1..m
pub count-range : (m n : ℕ) → m ≤ n → count (λ i. leb 1 i && leb i m) n ≡ m
count-range m n h = count-stop _ m n h (λ j hj hn. range-no m j hj) ∙ count-all _ m (range-yes m)

pub count-outside : (n s : ℕ) → count (outside n s) n ≡ n - count (has s) n
count-outside n s =
    let same : count (outside n s) n ≡ count (λ i. not (has s i)) n =
    count-ext (outside n s) (λ i. not (has s i)) n (λ j hj. ap (λ (b : Bool). b && not (has s (suc j))) (range-yes n j hj)) in
    omega (arith, same, count-not (has s) n)

-- ---- sets

ones_bit : (b : ℕ) → b < 2 → ones b ≡ one (eqb b 1)
unfolding ones
ones_bit zero h = refl
ones_bit (suc zero) h = refl
ones_bit (suc (suc b)) h = absurd (omega arith)

ones_low : (s k : ℕ) → ones (s % 2 ^ k) ≡ count (has s) k
unfolding count has ones
ones_low s zero = ap ones (mod-one s)
ones_low s (suc k) =
    ap (λ (e : ℕ). ones (s % 2 ^ e)) (sym (one-add k)) ∙ ap ones (mod-pow-add s 1 k)
    ∙ ones_cat k (s / 2 ^ k % 2) (s % 2 ^ k) (mod-lt s (pow_pos k))
    ∙ ap₂ ◌+◌ (ones_bit (s / 2 ^ k % 2) (omega arith)) (ones_low s k)
    ∙ omega arith

pub size-count : (k s : ℕ) → s < 2 ^ k → size s ≡ count (has s) k
unfolding size
size-count k s h = ap ones (sym (mod-eq_of_lt h)) ∙ ones_low s k

pub size-most : (s : ℕ) → s < 2 ^ 32 → size s ≤ 32
unfolding size
size-most s h = ones-le 32 s h

pub length-listed : (s : ℕ) → s < 2 ^ 32 → length (listed s) ≡ size s
length-listed s h = length-nodes (has s) 32 ∙ sym (size-count 32 s h)

-- no node above k is in a set below 2^k
pub has-past : (k s j : ℕ) → s < 2 ^ k → k ≤ j → has s (suc j) ≡ false
unfolding has
has-past k s j h l = ap (λ (x : ℕ). eqb (x % 2) 1) (div-eq_of_lt (lt_of_lt_of_le h (pow_mono l)))

pub has-none : (i : ℕ) → has 0 i ≡ false
unfolding has
has-none zero = refl
has-none (suc j) = has-past 0 0 j (zero-lt-suc 0) zero-le

pub has-le : (k s i : ℕ) → s < 2 ^ k → has s i ≡ true → i ≤ k
unfolding has
has-le k s zero h e = zero-le
has-le k s (suc j) h e =
    ⊎_elim (λ l. l) (λ g. absurd (true≢false (sym e ∙ has-past k s j h g))) (lt-or j k)

-- where a set's node stands in its list
pub rank-inside : (s j : ℕ) → s < 2 ^ 32 → has s (suc j) ≡ true → count (has s) j < size s
rank-inside s j word e = omega (arith, rank_lt (has s) 32 j (has-le 32 s (suc j) word e) e, size-count 32 s word)

bit-no : (s j : ℕ) → has s (suc j) ≡ false → s / 2 ^ j % 2 ≡ 0
unfolding has
bit-no s j e = let ne = eqb-false (s / 2 ^ j % 2) 1 e in omega arith

-- a number with no bit from n up is below 2^n
lt-of-bits : (k s n : ℕ) → s < 2 ^ k → ((j : ℕ) → n ≤ j → j < k → has s (suc j) ≡ false) → s < 2 ^ n
lt-of-bits zero s n h z = lt_of_lt_of_le h (pow_mono zero-le)
lt-of-bits (suc k) s n h z =
    ⊎_elim (λ l. lt_of_lt_of_le h (pow_mono l))
    (λ g.
    let top : s / 2 ^ k < 2 = shr_lt 1 k (subst (λ (e : ℕ). s < 2 ^ e) (sym (one-add k)) h) in
    let none : s / 2 ^ k < 1 = omega (arith, bit-no s k (z k g (le_refl (suc k)))) in
    lt-of-bits k s n (subst (λ (x : ℕ). s < x) (one-mul (2 ^ k)) ((div-lt_iff_lt-mul (pow_pos k)).0 none))
    (λ j hj hk. z j hj (omega arith)))
    (lt-or k n)

not-true : (b : Bool) → (b ≡ true → ⊥) → b ≡ false
not-true true h = absurd (h refl)
not-true false h = refl

pub within_has : (n s : ℕ) → s < 2 ^ 32 → (within n s ≡ true) ↔ ((i : ℕ) → has s i ≡ true → i ≤ n)
unfolding within
within_has n s h = (
  λ e i. has-le n s i (ltb-true s (2 ^ n) e),
  λ f. lt-ltb s (2 ^ n) (lt-of-bits 32 s n h (λ j hj hk. not-true (has s (suc j)) (λ e. omega (arith, f (suc j) e)))),
)

pub within-size : (n s : ℕ) → within n s ≡ true → size s ≡ count (has s) n
unfolding within
within-size n s e = size-count n s (ltb-true s (2 ^ n) e)

both_bits : (x y : ℕ) → x < 2 → y < 2 → eqb (min x y) 1 ≡ (eqb x 1 && eqb y 1)
both_bits zero y hx hy = ap (λ (m : ℕ). eqb m 1) (zero-min y)
both_bits (suc zero) zero hx hy = refl
both_bits (suc zero) (suc zero) hx hy = refl
both_bits (suc zero) (suc (suc y)) hx hy = absurd (omega arith)
both_bits (suc (suc x)) y hx hy = absurd (omega arith)

pub has-and : (l r i : ℕ) → has (bit_and l r) i ≡ (has l i && has r i)
unfolding has
has-and l r zero = refl
has-and l r (suc j) =
    let a = l / 2 ^ j in
    let b = r / 2 ^ j in
    let bit : bit_and l r / 2 ^ j % 2 ≡ min (a % 2) (b % 2) =
    ap (λ (x : ℕ). x % 2) (and_shr l r j ∙ and_step a b) ∙ omega (arith, min-le_left (a % 2) (b % 2)) in
    ap (λ (x : ℕ). eqb x 1) bit ∙ both_bits (a % 2) (b % 2) (omega arith) (omega arith)

pub disjoint-has : (l r : ℕ) → l < 2 ^ 32
    → (disjoint l r ≡ true) ↔ ((i : ℕ) → has l i ≡ true → has r i ≡ true → ⊥)
unfolding disjoint
disjoint-has l r h = (
  λ e i hl hr.
      let one_in : has (bit_and l r) i ≡ true = has-and l r i ∙ ap₂ ◌&&◌ hl hr in
      true≢false (sym one_in ∙ ap (λ (s : ℕ). has s i) (eqb-true (bit_and l r) 0 e) ∙ has-none i),
  λ f.
      eq-eqb (bit_and l r) 0
      (lt-one (lt-of-bits 32 (bit_and l r) 0 (lt_of_le_of_lt (and_le_l l r) h)
      (λ j hj hk. has-and l r (suc j) ∙ apart (has l (suc j)) (has r (suc j)) (f (suc j))))),
)
  where
    apart : (a b : Bool) → (a ≡ true → b ≡ true → ⊥) → (a && b) ≡ false
    apart false b f = refl
    apart true true f = absurd (f refl refl)
    apart true false f = refl

-- ---- a set by its nodes

bit-same : (x y : ℕ) → x < 2 → y < 2 → eqb x 1 ≡ eqb y 1 → x ≡ y
bit-same zero zero hx hy e = refl
bit-same zero (suc zero) hx hy e = absurd (true≢false (sym e))
bit-same (suc zero) zero hx hy e = absurd (true≢false e)
bit-same (suc zero) (suc zero) hx hy e = refl
bit-same (suc (suc x)) y hx hy e = absurd (omega arith)
bit-same zero (suc (suc y)) hx hy e = absurd (omega arith)
bit-same (suc zero) (suc (suc y)) hx hy e = absurd (omega arith)

low_same : (k l r : ℕ) → ((i : ℕ) → has l i ≡ has r i) → l % 2 ^ k ≡ r % 2 ^ k
unfolding has
low_same zero l r h = mod-one l ∙ sym (mod-one r)
low_same (suc k) l r h =
    let top = bit-same (l / 2 ^ k % 2) (r / 2 ^ k % 2) (omega arith) (omega arith) (h (suc k)) in
    ap (λ (e : ℕ). l % 2 ^ e) (sym (one-add k)) ∙ mod-pow-add l 1 k
    ∙ ap₂ (λ (b x : ℕ). b * 2 ^ k + x) top (low_same k l r h)
    ∙ sym (mod-pow-add r 1 k) ∙ ap (λ (e : ℕ). r % 2 ^ e) (one-add k)

-- sets with the same nodes are equal: below any power of two, ..
same-below : (k l r : ℕ) → l < 2 ^ k → r < 2 ^ k → ((i : ℕ) → has l i ≡ has r i) → l ≡ r
same-below k l r hl hr h = sym (mod-eq_of_lt hl) ∙ low_same k l r h ∙ mod-eq_of_lt hr

-- .. and every number is below some
pub same_nodes : (l r : ℕ) → ((i : ℕ) → has l i ≡ has r i) → l ≡ r
same_nodes l r = same-below (l + r) l r (lt_of_lt_of_le (lt-pow l) (pow_mono (omega arith))) (lt_of_lt_of_le (lt-pow r) (pow_mono (omega arith)))
  where
    lt-pow : (s : ℕ) → s < 2 ^ s
    lt-pow zero = zero-lt-suc 0
    lt-pow (suc s) = omega (arith, lt-pow s, pow-suc 2 s)

-- Sets of nodes of 1..n are equal if they have the same of them.
pub same-inside : (n l r : ℕ) → within n l ≡ true → within n r ≡ true → ((j : ℕ) → j < n → has l (suc j) ≡ has r (suc j)) → l ≡ r
unfolding has within
same-inside n l r wl wr h = same_nodes l r same
  where
    same : (i : ℕ) → has l i ≡ has r i
    same zero = refl
    same (suc j) = ⊎_elim (h j) (λ g. has-past n l j (ltb-true l (2 ^ n) wl) g ∙ sym (has-past n r j (ltb-true r (2 ^ n) wr) g)) (lt-or j n)

-- Two tests that together are passed more often than there are nodes are both passed by some node.
abbrev pub Both : (ℕ → Bool) → (ℕ → Bool) → ℕ → Type 0
Both f g n = (j : ℕ) × (j < n) × (f (suc j) ≡ true) × (g (suc j) ≡ true)

pub meet : (f g : ℕ → Bool) (n : ℕ) → n < count f n + count g n → Both f g n
unfolding count
meet f g zero h = absurd (omega arith)
meet f g (suc n) h = go (f (suc n)) refl (g (suc n)) refl (meet f g n) h
  where
    higher : Both f g n → Both f g (suc n)
    higher m = (m.0, omega (arith, m.1), m.2, m.3)

    go : (b : Bool) → f (suc n) ≡ b → (c : Bool) → g (suc n) ≡ c → (n < count f n + count g n → Both f g n)
        → suc n < (count f n + one b) + (count g n + one c) → Both f g (suc n)
    go true e true e' below k = (n, le_refl (suc n), e, e')
    go true e false e' below k = higher (below (omega arith))
    go false e true e' below k = higher (below (omega arith))
    go false e false e' below k = higher (below (omega arith))

-- ---- one set in another

-- tests that are passed together are equal
pub same_test : (b c : Bool) → (b ≡ true → c ≡ true) → (c ≡ true → b ≡ true) → b ≡ c
same_test true c h k = sym (h refl)
same_test false true h k = k refl
same_test false false h k = refl

pub one-mono : (b c : Bool) → (b ≡ true → c ≡ true) → one b ≤ one c
one-mono true c h = omega (arith, ap one (h refl))
one-mono false c h = zero-le

module _ (f g : ℕ → Bool) where
  -- where each node that passes one test passes another, no more of them do; ..
  pub count-sub : (n : ℕ) → ((j : ℕ) → j < n → f (suc j) ≡ true → g (suc j) ≡ true) → count f n ≤ count g n
  unfolding count
  count-sub zero h = zero-le
  count-sub (suc n) h = omega (arith, count-sub n (λ j hj. h j (omega arith)), one-mono (f (suc n)) (g (suc n)) (h n (le_refl (suc n))))

  -- .. and if no fewer do, both are passed by the same
  count_same : (n : ℕ) → ((j : ℕ) → j < n → f (suc j) ≡ true → g (suc j) ≡ true) → count g n ≤ count f n → (j : ℕ) → j < n → g (suc j) ≡ true
      → f (suc j) ≡ true
  unfolding count
  count_same zero h few j hj e = absurd (not-suc-le-zero hj)
  count_same (suc n) h few j hj e =
      let less : (i : ℕ) → i < n → f (suc i) ≡ true → g (suc i) ≡ true = λ i hi. h i (omega arith) in
      ⊎_elim (λ l. count_same n less (omega (arith, one-mono (f (suc n)) (g (suc n)) (h n (le_refl (suc n))))) j l e)
      (λ l.
      let top : j ≡ n = omega arith in
      subst (λ (i : ℕ). f (suc i) ≡ true) (sym top)
      (one-pos (f (suc n)) (omega (arith, count-sub n less, ap one (subst (λ (i : ℕ). g (suc i) ≡ true) top e)))))
      (lt-or j n)

-- a set that has all of another's nodes, and no more of them, is the other
pub same-subset : (n l r : ℕ) → within n l ≡ true → within n r ≡ true → ((j : ℕ) → j < n → has l (suc j) ≡ true → has r (suc j) ≡ true) → size r ≤ size l
    → r ≡ l
same-subset n l r wl wr h few =
    same-inside n r l wr wl
    (λ j hj.
    same_test (has r (suc j)) (has l (suc j))
    (count_same (has l) (has r) n h (omega (arith, within-size n l wl, within-size n r wr)) j hj) (h j hj))
