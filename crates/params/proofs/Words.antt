-- Words of 32 bits as node sets: shifts, complements and the walk from bit to bit, by splitting a number at a bit. Assumes nothing.
use mathlib.Core.Path.{◌≡◌, refl, sym, ap, ap₂, ◌∙◌, subst}
use mathlib.Core.Logic.{⊎_elim}
use mathlib.Core.Bool.{Bool, true, false, not, ◌&&◌, and-true, and-false, true≢false}
use mathlib.Core.List.{List, [], ◌∷◌, ◌++◌}
use Prim.Native.Nat.{ℕ, zero, suc, ◌+◌, ◌-◌, ◌*◌, ◌/◌, ◌%◌, ◌^◌, ◌≤◌, ◌<◌}
use native.Mathlib.Nat.{le_refl, le_trans, le_of_eq, lt_of_le_of_lt, not-suc-le-zero, one-mul, div-one, div-lt_iff_lt-mul, add-mul, mod-lt, pow-suc, sub-zero}
use native.Mathlib.Numerals.{add-one, one-add}
use native.Mathlib.Omega.{arith}
use lib.Bits.{bit_and}
use lib.Count.{count_trailing_zeros, under}
use lib.Dec.{leb, ltb, eqb}
use lib.ListN.{length, get_or, drop, set}
use lib.Pow.{pow_pos, shl_exact, shr_lt, shr-shr, shr_le, split, high, ones_split}
use lib.Seq.{set_at, drop-cons, append_snoc}
use Rattle.std.proofs.lemmas.List.{append-nil, drop_all}
use borrow.Author.Tests.{leb-true, le-leb, lt-ltb, le-ltb, eq-eqb}
use Rattle.base.specs.Seq.{one}
use Rattle.base.proofs.Cases.{lt-or, eq-or}
use Rattle.params.specs.Nodes.{has, size, count, only, nodes, lowest, listed, outside}
use Rattle.params.proofs.Sets.{length-nodes, count-mono, rank_lt, nodes-stop, count-stop, range-yes, range-no, size-count, has-past, has-none, has-and}

-- 1 shifted by less than the width
pub one_shifted : (n : ℕ) → n < 32 → 1 * 2 ^ n % 2 ^ 32 ≡ 2 ^ n
one_shifted n h = shl_exact 1 n 32 (le_refl 2) (omega arith) ∙ one-mul (2 ^ n)

-- ---- complements

flip : (b : ℕ) → b < 2 → eqb (1 - b) 1 ≡ not (eqb b 1)
flip zero h = refl
flip (suc zero) h = refl
flip (suc (suc b)) h = absurd (omega arith)

bit_not : (d j s : ℕ) → s < 2 ^ (suc d + j) → ((2 ^ (suc d + j) - 1) - s) / 2 ^ j % 2 ≡ 1 - s / 2 ^ j % 2
bit_not d j s h =
    let q = s / 2 ^ j in
    let lo = s % 2 ^ j in
    let x = (2 ^ suc d - 1) - q in
    let small : q < 2 ^ suc d = shr_lt (suc d) j h in
    let parts : (x + q) * 2 ^ j ≡ x * 2 ^ j + q * 2 ^ j = add-mul x q (2 ^ j) in
    let sum : x + q ≡ 2 ^ suc d - 1 = omega arith in
    let low : lo < 2 ^ j = mod-lt s (pow_pos j) in
    let whole : (2 ^ (suc d + j) - 1) - s ≡ x * 2 ^ j + ((2 ^ j - 1) - lo) =
    omega (arith, ones_split (suc d) j, split s j, parts, ap (λ (y : ℕ). y * 2 ^ j) sum) in
    ap (λ (y : ℕ). y / 2 ^ j % 2) whole ∙ ap (λ (y : ℕ). y % 2) (high x j (omega arith)) ∙ omega (arith, pow-suc 2 d)

pub has-not : (k s i : ℕ) → s < 2 ^ k → has ((2 ^ k - 1) - s) i ≡ ((leb 1 i && leb i k) && not (has s i))
unfolding has
has-not k s zero h = refl
has-not k s (suc j) h =
    ⊎_elim
    (λ l.
    let width : suc (k - suc j) + j ≡ k = omega arith in
    ap (λ (b : ℕ). eqb b 1)
    (subst (λ (e : ℕ). s < 2 ^ e → ((2 ^ e - 1) - s) / 2 ^ j % 2 ≡ 1 - s / 2 ^ j % 2) width (bit_not (k - suc j) j s) h)
    ∙ flip (s / 2 ^ j % 2) (omega arith)
    ∙ ap (λ (b : Bool). b && not (has s (suc j))) (sym (range-yes k j l)))
    (λ g.
    has-past k ((2 ^ k - 1) - s) j (omega (arith, pow_pos k)) g
    ∙ ap (λ (b : Bool). b && not (has s (suc j))) (sym (range-no k j g)))
    (lt-or j k)

pub has-ones : (k i : ℕ) → has (2 ^ k - 1) i ≡ (leb 1 i && leb i k)
has-ones k i =
    ap (λ (x : ℕ). has x i) (sym (sub-zero (2 ^ k - 1))) ∙ has-not k 0 i (pow_pos k)
    ∙ ap (λ (b : Bool). (leb 1 i && leb i k) && not b) (has-none i) ∙ and-true (leb 1 i && leb i k)

regroup : (a b c n : Bool) → (((a && b) && n) && (a && c)) ≡ (((a && c) && n) && b)
regroup false b c n = refl
regroup true true true n = refl
regroup true true false n = and-false n
regroup true false true n = sym (and-false n)
regroup true false false n = refl

widen : (a b c n : Bool) → (b ≡ true → c ≡ true) → ((a && b) && n) ≡ (((a && c) && n) && b)
widen false b c n h = refl
widen true true c n h = sym (ap (λ (x : Bool). (x && n) && true) (h refl) ∙ and-true n)
widen true false c n h = sym (and-false (c && n))

pub outside-some : (n s i : ℕ) → s < 2 ^ 32 → has (bit_and ((2 ^ 32 - 1) - s) (2 ^ n - 1)) i ≡ (outside n s i && leb i 32)
outside-some n s i h =
    has-and ((2 ^ 32 - 1) - s) (2 ^ n - 1) i ∙ ap₂ ◌&&◌ (has-not 32 s i h) (has-ones n i)
    ∙ regroup (leb 1 i) (leb i 32) (leb i n) (not (has s i))

pub outside-all : (n s i : ℕ) → s < 2 ^ 32 → 32 ≤ n → has ((2 ^ 32 - 1) - s) i ≡ (outside n s i && leb i 32)
outside-all n s i h l =
    has-not 32 s i h
    ∙ widen (leb 1 i) (leb i 32) (leb i n) (not (has s i)) (λ e. le-leb i n (le_trans (leb-true i 32 e) l))

-- ---- the walk

-- the lowest bit of a number that is not 0
lowest-bit : (k n : ℕ) → 0 < n → n < 2 ^ k
    → (n / 2 ^ count_trailing_zeros k n % 2 ≡ 1) × ((j : ℕ) → j < count_trailing_zeros k n → n / 2 ^ j % 2 ≡ 0)
unfolding count_trailing_zeros
lowest-bit zero n p h = absurd (omega arith)
lowest-bit (suc k) n p h = go (n % 2) refl (lowest-bit k (n / 2))
  where
    half : (t : ℕ) → n / 2 / 2 ^ t ≡ n / 2 ^ suc t
    half t = shr-shr n 1 t ∙ ap (λ (e : ℕ). n / 2 ^ e) (one-add t)

    go : (r : ℕ) → n % 2 ≡ r
        → (0 < n / 2 → n / 2 < 2 ^ k
        → (n / 2 / 2 ^ count_trailing_zeros k (n / 2) % 2 ≡ 1) × ((j : ℕ) → j < count_trailing_zeros k (n / 2) → n / 2 / 2 ^ j % 2 ≡ 0))
        → (n / 2 ^ under r (count_trailing_zeros k (n / 2)) % 2 ≡ 1) × ((j : ℕ) → j < under r (count_trailing_zeros k (n / 2)) → n / 2 ^ j % 2 ≡ 0)
    go zero e rest =
        let ih = rest (omega arith) (omega (arith, pow-suc 2 k)) in
        (ap (λ (x : ℕ). x % 2) (sym (half (count_trailing_zeros k (n / 2)))) ∙ ih.0, low ih.1)
      where
        low : ((j : ℕ) → j < count_trailing_zeros k (n / 2) → n / 2 / 2 ^ j % 2 ≡ 0) → (j : ℕ) → j < suc (count_trailing_zeros k (n / 2)) → n / 2 ^ j % 2 ≡ 0
        low f zero l = ap (λ (x : ℕ). x % 2) (div-one n) ∙ e
        low f (suc j) l = ap (λ (x : ℕ). x % 2) (sym (half j)) ∙ f j (omega arith)
    go (suc r) e rest = (ap (λ (x : ℕ). x % 2) (div-one n) ∙ omega arith, λ j l. absurd (not-suc-le-zero l))

-- So many nodes up to `passed` are in the set, and the bits above are left.
pub record Passed (s at passed rest : ℕ) : Type 0 where
  pub small : s < 2 ^ 32
  pub passed_le : passed ≤ 32
  pub at_is : at ≡ count (has s) passed
  pub left : rest ≡ s / 2 ^ passed

pub passed_none : (s passed rest : ℕ) → s < 2 ^ 32 → passed ≡ 0 → rest ≡ s → Passed s 0 passed rest
unfolding count
passed_none s passed rest h e f =
    record { small = h; passed_le = omega arith; at_is = ap (count (has s)) (sym e); left = f ∙ sym (div-one s) ∙ ap (λ (k : ℕ). s / 2 ^ k) (sym e) }

-- the next node of the set
module _ {s at passed rest : ℕ} (w : Passed s at passed rest) (ne : rest ≡ 0 → ⊥) where
  bit_at : (j : ℕ) → rest / 2 ^ j ≡ s / 2 ^ (passed + j)
  bit_at j = ap (λ (x : ℕ). x / 2 ^ j) w.left ∙ shr-shr s passed j

  lowest-left : (rest / 2 ^ count_trailing_zeros 32 rest % 2 ≡ 1) × ((j : ℕ) → j < count_trailing_zeros 32 rest → rest / 2 ^ j % 2 ≡ 0)
  lowest-left = lowest-bit 32 rest (omega arith) (lt_of_le_of_lt (le_trans (le_of_eq w.left) (shr_le s passed)) w.small)

  next-in : has s (suc (passed + count_trailing_zeros 32 rest)) ≡ true
  unfolding has
  next-in = eq-eqb _ 1 (ap (λ (x : ℕ). x % 2) (sym (bit_at (count_trailing_zeros 32 rest))) ∙ lowest-left.0)

  none_between : (j : ℕ) → passed ≤ j → j < passed + count_trailing_zeros 32 rest → has s (suc j) ≡ false
  unfolding has
  none_between j l h =
      let e : passed + (j - passed) ≡ j = omega arith in
      ap (λ (x : ℕ). eqb x 1)
      (ap (λ (k : ℕ). s / 2 ^ k % 2) (sym e) ∙ ap (λ (x : ℕ). x % 2) (sym (bit_at (j - passed))) ∙ lowest-left.1 (j - passed) (omega arith))

  pub next-lt : passed + count_trailing_zeros 32 rest < 32
  next-lt =
      ⊎_elim (λ l. l) (λ g. absurd (true≢false (sym next-in ∙ has-past 32 s (passed + count_trailing_zeros 32 rest) w.small g)))
      (lt-or (passed + count_trailing_zeros 32 rest) 32)

  same_count : count (has s) (passed + count_trailing_zeros 32 rest) ≡ at
  same_count = count-stop (has s) passed (passed + count_trailing_zeros 32 rest) (omega arith) none_between ∙ sym w.at_is

  pub passed-more : {passed' rest' : ℕ} → passed' ≡ passed + count_trailing_zeros 32 rest + 1 → rest' ≡ rest / 2 ^ count_trailing_zeros 32 rest / 2
      → Passed s (at + 1) passed' rest'
  unfolding count
  passed-more e f =
      let j = passed + count_trailing_zeros 32 rest in
      record {
        small = w.small;
        passed_le = omega (arith, next-lt);
        at_is = omega (arith, same_count, ap one next-in, ap (count (has s)) (add-one j)) ∙ ap (count (has s)) (sym e);
        left = f ∙ ap (λ (x : ℕ). x / 2) (bit_at (count_trailing_zeros 32 rest)) ∙ shr-shr s j 1 ∙ ap (λ (k : ℕ). s / 2 ^ k) (sym e);
      }

module _ {s at passed rest : ℕ} (w : Passed s at passed rest) where
  -- no bit is left: all nodes are passed
  below : rest ≡ 0 → s < 2 ^ passed
  below e = subst (λ (x : ℕ). s < x) (one-mul (2 ^ passed)) ((div-lt_iff_lt-mul (pow_pos passed)).0 (omega (arith, w.left)))

  passed-all : rest ≡ 0 → at ≡ size s
  passed-all e = w.at_is ∙ sym (size-count passed s (below e))

  -- while there are more, a bit is left, ..
  pub more_left : at < size s → rest ≡ 0 → ⊥
  more_left h e = omega (arith, passed-all e)

  -- .. and none once all are passed
  none_left : at ≡ size s → rest ≡ 0
  none_left e =
      ⊎_elim (λ z. z)
      (λ ne. let m = passed-more w ne refl refl in absurd (omega (arith, m.at_is, count-mono (has s) _ 32 m.passed_le, size-count 32 s w.small)))
      (eq-or rest 0)

  pub passed-lt : at < size s → passed < 32
  passed-lt h =
      ⊎_elim (λ l. l) (λ g. absurd (omega (arith, w.at_is, count-mono (has s) 32 passed g, size-count 32 s w.small))) (lt-or passed 32)

  -- .. and the bits up to there are the lowest nodes
  pub passed-lowest : (i : ℕ) → has (bit_and s (2 ^ passed - 1)) i ≡ lowest at (has s) i
  unfolding lowest
  passed-lowest i = has-and s (2 ^ passed - 1) i ∙ ap (λ (b : Bool). has s i && b) (has-ones passed i) ∙ go i (has s i) refl
    where
      go : (i : ℕ) (b : Bool) → has s i ≡ b → (b && (leb 1 i && leb i passed)) ≡ lowest at (has s) i
      go zero b e = and-false b
      go (suc j) true e =
          ⊎_elim
          (λ (l : j < passed).
          range-yes passed j l ∙ sym (ap₂ ◌&&◌ e (lt-ltb (count (has s) j) at (omega (arith, w.at_is, rank_lt (has s) passed j l e)))))
          (λ (g : passed ≤ j).
          range-no passed j g ∙ sym (ap₂ ◌&&◌ e (le-ltb (count (has s) j) at (omega (arith, w.at_is, count-mono (has s) passed j g)))))
          (lt-or j passed)
      go (suc j) false e = sym (ap (λ (b : Bool). b && ltb (count (has s) j) at) e)

-- The nodes up to `passed` are listed at the front of a list that has room for all, and what stands behind them is as it was.
pub record Walked (s : ℕ) (old out : List ℕ) (at passed rest : ℕ) : Type 0 where
  pub walk : Passed s at passed rest
  pub room : length old ≡ size s
  pub listed : out ≡ nodes (has s) passed ++ drop at old

pub walked_none : (s passed rest : ℕ) (old : List ℕ) → s < 2 ^ 32 → passed ≡ 0 → rest ≡ s → length old ≡ size s → Walked s old old 0 passed rest
unfolding nodes
walked_none s passed rest old h e f room =
    record { walk = passed_none s passed rest h e f; room = room; listed = ap (λ (n : ℕ). nodes (has s) n ++ old) (sym e) }

pub walked_more : {s : ℕ} {old out : List ℕ} {at passed rest passed' rest' : ℕ} → Walked s old out at passed rest → at < size s
    → passed' ≡ passed + count_trailing_zeros 32 rest + 1 → rest' ≡ rest / 2 ^ count_trailing_zeros 32 rest / 2
    → Walked s old (set out at passed') (at + 1) passed' rest'
unfolding nodes
walked_more {s} {old} {out} {at} {passed} {rest} {passed'} {rest'} w more e f =
    let j = passed + count_trailing_zeros 32 rest in
    let ne = more_left w.walk more in
    let listed : nodes (has s) (suc j) ≡ nodes (has s) passed ++ suc j ∷ [] =
    ap₂ (λ (l : List ℕ) (b : Bool). l ++ only b (suc j)) (nodes-stop (has s) passed j (omega arith) (none_between w.walk ne)) (next-in w.walk ne) in
    let behind : drop at old ≡ get_or old at 0 ∷ drop (at + 1) old =
    drop-cons old at 0 (omega (arith, w.room)) ∙ ap (λ (n : ℕ). get_or old at 0 ∷ drop n old) (sym (add-one at)) in
    let is : suc j ≡ passed' = omega arith in
    record {
      walk = passed-more w.walk ne e f;
      room = w.room;
      listed =
          ap (λ (l : List ℕ). set l at passed') (w.listed ∙ ap (λ (l : List ℕ). nodes (has s) passed ++ l) behind)
          ∙ set_at (nodes (has s) passed) (get_or old at 0) (drop (at + 1) old) passed' at (length-nodes (has s) passed ∙ sym w.walk.at_is)
          ∙ sym (append_snoc (nodes (has s) passed) passed' (drop (at + 1) old))
          ∙ ap (λ (n : ℕ). (nodes (has s) passed ++ n ∷ []) ++ drop (at + 1) old) (sym is)
          ∙ ap (λ (l : List ℕ). l ++ drop (at + 1) old) (sym listed)
          ∙ ap (λ (n : ℕ). nodes (has s) n ++ drop (at + 1) old) is;
    }

-- all are listed
pub walked_all : {s : ℕ} {old out : List ℕ} {at passed rest : ℕ} → Walked s old out at passed rest → at ≡ size s → out ≡ listed s
walked_all {s} {old} {out} {at} {passed} w all =
    w.listed
    ∙ ap₂ ◌++◌ (sym (nodes-stop (has s) passed 32 w.walk.passed_le (λ j hj hk. has-past passed s j (below w.walk (none_left w.walk all)) hj)))
    (drop_all at old (omega (arith, w.room)))
    ∙ append-nil (listed s)
