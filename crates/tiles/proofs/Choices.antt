-- The table of a group: each column, from the last to the first, doubles the entries, so the entry that digits name is the sum of the columns whose digit is 1; and
-- the tables of all groups, filled one after the other. Assumes nothing.
use mathlib.Core.Path.{◌≡◌, refl, sym, ap, ap₂, ◌∙◌, subst, subst⁻¹}
use mathlib.Core.List.{List}
use mathlib.Core.Logic.{⊎_elim}
use Prim.Native.Nat.{ℕ, zero, suc, ◌+◌, ◌-◌, ◌*◌, ◌^◌, ◌≤◌, ◌<◌, min}
use native.Mathlib.Nat.{suc-mul, add-mul, zero-mul, mul-le-mul_right, not-suc-le-zero, le_of_suc-le-suc}
use native.Mathlib.Omega.{arith}
use borrow.Rule.Slice.PartMut.{put_mid, same_len_mid}
use lib.ListN.{length, get_or, take, drop, replicate, length-replicate, get_or-replicate, get_or-eq_default}
use lib.Pow.{pow_mono}
use Rattle.base.specs.Seq.{cell}
use Rattle.base.proofs.Cases.{lt-or, eq-or}
use Rattle.base.specs.Parts.{part_of, put_block}
use Rattle.base.proofs.Parts.{put-before, put_in, row_ends, length-lent, length-part_of, part_of-at, put_block-here, put_block-other, put_block-length}
use Rattle.base.proofs.Seq.{tabulate-ext, zeros-at}
use Rattle.field.specs.Field.{IsByte, Bytes, add, mul, plus}
use Rattle.field.specs.FiniteSum.{sum}
use Rattle.field.proofs.Addition.{add_comm, add-zero-left}
use Rattle.field.proofs.FiniteSum.{sum-zero, sum-suc, sum-ext}
use Rattle.field.proofs.Multiplication.{mul-zero-left, mul-one-left}
use Rattle.blocks.specs.Bytes.{over}
use Rattle.blocks.proofs.Laws.{plus-length, plus-at, over-length, over-at, over-past, over-same}
use Rattle.picks.specs.Picks.{number}
use Rattle.picks.proofs.Digits.{number-below, number-front}
use Rattle.products.specs.Blocks.{Inside}
use Rattle.products.proofs.Stretches.{stretch, length-stretch, stretch-at}
use Rattle.tiles.specs.Tiling.{Grouped, columns, tile_at, Raised, Chosen, Tabled}
use Rattle.tiles.proofs.Groups.{columns-size, columns-most}

pub tile-byte : (b at : ℕ) (src places : List ℕ) → Bytes src → (k p : ℕ) → IsByte (tile_at b at src places k p)
unfolding cell
tile-byte b at src places bytes k p = bytes (get_or places k 0 * b + (at + p))

-- a copy of ys with zeros behind it
pub copy_at : (n : ℕ) (ys copy : List ℕ) → length ys ≤ n → copy ≡ over (replicate n 0) ys → (p : ℕ) → get_or copy p 0 ≡ get_or ys p 0
copy_at n ys copy h e p =
    ap (λ (l : List ℕ). get_or l p 0) e
    ∙ ⊎_elim (λ (lt : p < length ys). over-at (replicate n 0) ys p (omega (arith, size)) lt)
    (λ (le : length ys ≤ p). ⊎_elim
    (λ (lt : p < n). over-past (replicate n 0) ys p (omega (arith, size)) le ∙ zeros-at n p)
    (λ (ge : n ≤ p). get_or-eq_default (over (replicate n 0) ys) 0 (omega (arith, size, over-length (replicate n 0) ys)))
    (lt-or p n) ∙ sym (get_or-eq_default ys 0 le))
    (lt-or p (length ys))
  where
    size : length (replicate {A = ℕ} n 0) ≡ n
    size = length-replicate {A = ℕ} n 0

-- xs plus such a copy
pub plus-copy : (n : ℕ) (xs ys copy : List ℕ) → length ys ≤ n → copy ≡ over (replicate n 0) ys → plus xs copy ≡ plus xs ys
unfolding plus
plus-copy n xs ys copy h e = tabulate-ext (length xs) _ _ (λ p hp. ap (add (get_or xs p 0)) (copy_at n ys copy h e p))

-- zeros plus ys
pub zeros-plus : (n : ℕ) (ys copy : List ℕ) → copy ≡ plus (replicate n 0) ys → (p : ℕ) → p < n → get_or copy p 0 ≡ get_or ys p 0
zeros-plus n ys copy e p h =
    ap (λ (l : List ℕ). get_or l p 0) e ∙ plus-at (replicate n 0) ys p (omega (arith, length-replicate {A = ℕ} n 0))
    ∙ ap (λ (x : ℕ). add x (get_or ys p 0)) (get_or-replicate n p 0 0 h) ∙ add-zero-left (get_or ys p 0)

-- ---- entry m plus a tile, as the code makes it

pub sum_is : (t n m : ℕ) (table zeros taken sum tile last : List ℕ) → m * t + t ≤ length table → length zeros ≡ t → taken ≡ over zeros (part_of t m table)
    → sum ≡ plus taken tile → last ≡ put_block t n table sum → last ≡ put_block t n table (plus (part_of t m table) tile)
sum_is t n m table zeros taken sum tile last room size et es el =
    el ∙ ap (put_block t n table) (es ∙ ap (λ (l : List ℕ). plus l tile) (et ∙ over-same zeros (part_of t m table) (length-part_of t m table room ∙ sym size)))

-- ---- entries half + m from entries m

pub raised-none : (t half : ℕ) (part old : List ℕ) → Raised t half 0 part old old
raised-none t half part old = record { same = refl; lower = λ n p hn hp. refl; upper = λ m p hm. absurd (omega arith) }

-- a table of n entries of t bytes
module _ (t n half : ℕ) (tile old : List ℕ) (room : n * t ≤ length old) (fits : half + half ≤ n) where
  pub raised-more : (k : ℕ) (new last : List ℕ) → k < half → last ≡ put_block t (half + k) new (plus (part_of t k new) tile) → Raised t half k tile old new
      → Raised t half (k + 1) tile old last
  raised-more k new last hk e s = subst⁻¹ (Raised t half (k + 1) tile old) e more
    where
      sum : List ℕ
      sum = plus (part_of t k new) tile

      inside : (m : ℕ) → m < n → m * t + t ≤ length new
      inside m hm = row_ends n m t (length new) hm (omega (arith, s.same))

      within : length (part_of t k new) ≡ t
      within = length-part_of t k new (inside k (omega arith))

      full : length sum ≡ t
      full = plus-length (part_of t k new) tile ∙ within

      other : (m p : ℕ) → (m ≡ half + k → ⊥) → p < t → cell t (put_block t (half + k) new sum) m p ≡ cell t new m p
      other m p ne hp = put_block-other t n (half + k) new sum (omega arith) (omega (arith, s.same)) full m p ne hp

      here : (p : ℕ) → p < t → cell t (put_block t (half + k) new sum) (half + k) p ≡ add (cell t old k p) (get_or tile p 0)
      here p hp =
          put_block-here t n (half + k) new sum (omega arith) (omega (arith, s.same)) full p hp ∙ plus-at (part_of t k new) tile p (omega (arith, within))
          ∙ ap (λ (x : ℕ). add x (get_or tile p 0)) (part_of-at t k new p hp ∙ s.lower k p hk hp)

      more : Raised t half (k + 1) tile old (put_block t (half + k) new sum)
      more =
          record {
            same = put_block-length t n (half + k) new sum (omega arith) (omega (arith, s.same)) full ∙ s.same;
            lower = λ m p hm hp. other m p (λ x. omega arith) hp ∙ s.lower m p hm hp;
            upper = λ m p hm hp.
                ⊎_elim
                (λ (x : m ≡ k). ap (λ (j : ℕ). cell t (put_block t (half + k) new sum) (half + j) p) x ∙ here p hp ∙ ap (λ (j : ℕ). add (cell t old j p) (get_or tile p 0)) (sym x))
                (λ ne. other (half + m) p (λ x. ne (omega arith)) hp ∙ s.upper m p (omega arith) hp) (eq-or m k);
          }

-- by a part with the same bytes
pub raised-same : (t half k : ℕ) (tile part old new : List ℕ) → ((p : ℕ) → p < t → get_or tile p 0 ≡ get_or part p 0) → Raised t half k tile old new
    → Raised t half k part old new
raised-same t half k tile part old new e r =
    record { same = r.same; lower = r.lower; upper = λ m p hm hp. r.upper m p hm hp ∙ ap (add (cell t old m p)) (e p hp) }

-- ---- one column more, in front of those that the table has

-- no column yet: the first entry, k bytes from a on, is cleared
pub chosen_none : (t w : ℕ) (wt : w ≤ t) (x : ℕ → ℕ → ℕ) (n a k : ℕ) (start part : List ℕ) → n ≡ 0 → a ≡ 0 → k ≡ t → t ≤ length start
    → part ≡ replicate (length (take k (drop a start))) 0 → Chosen t w n x (put_mid a k start part) (put_mid a k start part)
unfolding cell number
chosen_none t w wt x n a k start part none front whole room e =
    subst⁻¹ (λ (m : ℕ). Chosen t w m x (put_mid a k start part) (put_mid a k start part)) none
    (record {
      same = refl;
      entry = λ d p hd hp.
          ap (λ (q : ℕ). get_or (put_mid a k start part) q 0) (omega (arith, zero-mul t)) ∙ put_in a k start part inside full p (omega arith)
          ∙ ap (λ (l : List ℕ). get_or l p 0) e ∙ zeros-at (length (take k (drop a start))) p ∙ sym (sum-zero _);
    })
  where
    inside : a + k ≤ length start
    inside = omega arith

    full : length part ≡ k
    full = ap length e ∙ length-replicate {A = ℕ} (length (take k (drop a start))) 0 ∙ length-lent a k start inside

module _ (t w : ℕ) (wt : w ≤ t) (x : ℕ → ℕ → ℕ) (old : List ℕ) where
  -- the entry that digits name: where the first is 0 it is among the lower half, where it is 1 in the upper
  module _ (byte : (k p : ℕ) → IsByte (x k p)) (j k half : ℕ) (part mid new : List ℕ) (pos : 0 < j) (eh : half ≡ 2 ^ k)
      (at : (p : ℕ) → p < w → get_or part p 0 ≡ x (j - 1) p) (r : Raised t half half part mid new) (s : Chosen t w k (λ i. x (j + i)) old mid) where
    module _ (d : ℕ → ℕ) (p : ℕ) (hd : (i : ℕ) → d i < 2) (hp : p < w) where
      rest : ℕ
      rest = number k (λ i. d (suc i))

      others : ℕ
      others = sum k (λ i. mul (d (suc i)) (x (j - 1 + suc i) p))

      rest_lt : rest < half
      unfolding rest
      rest_lt = omega (arith, number-below k k (λ i. d (suc i)) (λ i. hd (suc i)) (omega arith))

      mid-is : cell t mid rest p ≡ others
      unfolding rest others
      mid-is =
          s.entry (λ i. d (suc i)) p (λ i. hd (suc i)) hp
          ∙ sum-ext k _ _ (λ i hi. let e : j + i ≡ j - 1 + suc i = omega arith in ap (λ (m : ℕ). mul (d (suc i)) (x m p)) e)

      go : (e : ℕ) → d 0 ≡ e → e < 2 → cell t new (d 0 * 2 ^ k + rest) p ≡ add (mul e (x (j - 1) p)) others
      go zero ed he =
          let z : d 0 * 2 ^ k + rest ≡ rest = omega (arith, ap (λ (y : ℕ). y * 2 ^ k) ed) in
          ap (λ (n : ℕ). cell t new n p) z ∙ r.lower rest p rest_lt (omega arith) ∙ mid-is ∙ sym (add-zero-left others)
          ∙ ap (λ (y : ℕ). add y others) (sym (mul-zero-left (x (j - 1) p)))
      go (suc zero) ed he =
          let z : d 0 * 2 ^ k + rest ≡ half + rest = omega (arith, ap (λ (y : ℕ). y * 2 ^ k) ed) in
          ap (λ (n : ℕ). cell t new n p) z ∙ r.upper rest p rest_lt (omega arith)
          ∙ ap₂ add mid-is (at p hp ∙ sym (mul-one-left _ (byte (j - 1) p))) ∙ add_comm others _
      go (suc (suc e)) ed he = absurd (not-suc-le-zero (le_of_suc-le-suc (le_of_suc-le-suc he)))

      entry-is : cell t new (number (suc k) d) p ≡ sum (suc k) (λ i. mul (d i) (x (j - 1 + i) p))
      unfolding rest others
      entry-is =
          let e : j - 1 ≡ j - 1 + 0 = omega arith in
          ap (λ (n : ℕ). cell t new n p) (number-front k d) ∙ go (d 0) refl (hd 0) ∙ ap (λ (m : ℕ). add (mul (d 0) (x m p)) others) e ∙ sym (sum-suc k _)

    pub chosen_more : (n : ℕ) → n ≡ suc k → Chosen t w n (λ i. x (j - 1 + i)) old new
    chosen_more n en = subst⁻¹ (λ (m : ℕ). Chosen t w m (λ i. x (j - 1 + i)) old new) en (record { same = r.same ∙ s.same; entry = entry-is })

  pub chosen-all : (j n : ℕ) (table : List ℕ) → j ≡ 0 → Chosen t w (n - j) (λ k. x (j + k)) old table → Chosen t w n x old table
  chosen-all j n table e s =
      subst (λ (m : ℕ). Chosen t w m x old table) whole (record { same = s.same; entry = λ d p hd hp. s.entry d p hd hp ∙ sum-ext (n - j) _ _ (λ k hk. same-term d p k) })
    where
      whole : n - j ≡ n
      whole = omega arith

      same-term : (d : ℕ → ℕ) (p k : ℕ) → mul (d k) (x (j + k) p) ≡ mul (d k) (x k p)
      same-term d p k = let q : j + k ≡ k = omega arith in ap (λ (m : ℕ). mul (d k) (x m p)) q

-- ---- the tables of all groups

-- byte p of entry n of group g, in the whole table and in what is left from the group's own on
in_group : (t g n p : ℕ) → (g * 32 + n) * t + p ≡ g * 32 * t + (n * t + p)
in_group t g n p = omega (arith, add-mul (g * 32) n t)

-- the places of a group name blocks too
pub group-inside : (b j r src : ℕ) (places : List ℕ) → j + r ≤ length places → Inside b places src → Inside b (stretch j r places) src
group-inside b j r src places h f k hk =
    let lt : k < r = omega (arith, length-stretch j r places h) in
    subst⁻¹ (λ (q : ℕ). suc q * b ≤ src) (stretch-at j r places k lt) (f (j + k) (omega arith))

module _ (t b at w size : ℕ) (src places old : List ℕ) where
  pub tabled-none : Tabled t b at w size src places 0 old old
  tabled-none = record { same = refl; entry = λ g d p hg. absurd (omega arith) }

  -- the table of a group begins, at a, behind those of the groups before, and has room up to the end
  pub tabled-more : {groups : ℕ} → Grouped (length places) groups size → (h r a n : ℕ) (new group : List ℕ) → a ≡ h * 32 * t → w ≤ t → length new ≡ n → (h * 32 + 2 ^ size) * t ≤ n
      → h * size + r ≤ length places → r ≡ columns size (length places) h
      → Chosen t w (length (stretch (h * size) r places)) (tile_at b at src (stretch (h * size) r places)) (take (n - a) (drop a new)) group
      → Tabled t b at w size src places h old new → Tabled t b at w size src places (h + 1) old (put_mid a (n - a) new group)
  unfolding cell
  tabled-more gr h r first n new group begin hw long room fits er m s =
      record {
        same = same_len_mid first span new group m.same ∙ s.same;
        entry = λ g d p hg hd hp.
            ⊎_elim
            (λ (e : g ≡ h). ap (λ (k : ℕ). cell t last (k * 32 + number (columns size (length places) k) d) p) e ∙ here d p hd hp
            ∙ ap (λ (k : ℕ). sum (columns size (length places) k) (λ i. mul (d i) (tile_at b at src places (k * size + i) p))) (sym e))
            (λ ne. before g d p (omega arith) hd hp ∙ s.entry g d p (omega arith) hd hp)
            (eq-or g h);
      }
    where
      begins : first + 2 ^ size * t ≤ n
      begins = omega (arith, begin, room, add-mul (h * 32) (2 ^ size) t)

      span : ℕ
      span = n - first

      last : List ℕ
      last = put_mid first span new group

      inside : first + span ≤ length new
      inside = omega (arith, begins)

      full : length group ≡ span
      full = m.same ∙ length-lent first span new inside

      -- an entry that digits name ends within a group's table
      small : (g k m : ℕ) (d : ℕ → ℕ) (p : ℕ) → ((k : ℕ) → d k < 2) → p < w → columns size (length places) g ≤ k → k ≤ m → number (columns size (length places) g) d * t + p < 2 ^ m * t
      small g k m d p hd hp hc hk =
          let lt : suc (number (columns size (length places) g) d) ≤ 2 ^ m = omega (arith, number-below (columns size (length places) g) k d hd hc, pow_mono hk) in
          omega (arith, suc-mul (number (columns size (length places) g) d) t, mul-le-mul_right t lt)

      before : (g : ℕ) (d : ℕ → ℕ) (p : ℕ) → g < h → ((k : ℕ) → d k < 2) → p < w
          → get_or last ((g * 32 + number (columns size (length places) g) d) * t + p) 0 ≡ get_or new ((g * 32 + number (columns size (length places) g) d) * t + p) 0
      before g d p hg hd hp =
          let next : suc g * 32 ≤ h * 32 = mul-le-mul_right 32 hg in
          let whole : (suc g * 32) * t ≡ g * 32 * t + 32 * t = ap (λ (k : ℕ). k * t) (suc-mul g 32 ∙ omega arith) ∙ add-mul (g * 32) 32 t in
          put-before first span new group inside full _
          (omega (arith, in_group t g (number (columns size (length places) g) d) p, small g 5 5 d p hd hp (columns-most gr g) (omega arith), mul-le-mul_right t next, whole, begin))

      own : Chosen t w (columns size (length places) h) (tile_at b at src (stretch (h * size) r places)) (take span (drop first new)) group
      own = subst (λ (n : ℕ). Chosen t w n (tile_at b at src (stretch (h * size) r places)) (take span (drop first new)) group) (length-stretch (h * size) r places fits ∙ er) m

      here : (d : ℕ → ℕ) (p : ℕ) → ((k : ℕ) → d k < 2) → p < w
          → get_or last ((h * 32 + number (columns size (length places) h) d) * t + p) 0
          ≡ sum (columns size (length places) h) (λ i. mul (d i) (tile_at b at src places (h * size + i) p))
      here d p hd hp =
          ap (λ (q : ℕ). get_or last q 0) (in_group t h (number (columns size (length places) h) d) p ∙ ap (λ (q : ℕ). q + (number (columns size (length places) h) d * t + p)) (sym begin))
          ∙ put_in first span new group inside full (number (columns size (length places) h) d * t + p) (omega (arith, small h size size d p hd hp (columns-size size (length places) h) (omega arith), begins))
          ∙ own.entry d p hd hp
          ∙ sum-ext (columns size (length places) h) _ _ (λ i hi. ap (λ (q : ℕ). mul (d i) (cell b src q (at + p))) (stretch-at (h * size) r places i (omega arith)))

-- or the table of one group
pub tabled-one : (t b at w : ℕ) (src places old new : List ℕ) → Chosen t w (length places) (tile_at b at src places) old new → Tabled t b at w (length places) src places 1 old new
unfolding columns
tabled-one t b at w src places old new s =
    record {
      same = s.same;
      entry = λ g d p hg hd hp.
          let none : g ≡ 0 = omega arith in
          subst⁻¹ (λ (k : ℕ). Entry k d p) none (first d p hd hp);
    }
  where
    Entry : ℕ → (ℕ → ℕ) → ℕ → Type 0
    Entry g d p =
        cell t new (g * 32 + number (min (length places) (length places - g * length places)) d) p
        ≡ sum (min (length places) (length places - g * length places)) (λ k. mul (d k) (tile_at b at src places (g * length places + k) p))

    all : length places ≡ min (length places) (length places - 0 * length places)
    all = omega (arith, zero-mul (length places))

    first : (d : ℕ → ℕ) (p : ℕ) → ((k : ℕ) → d k < 2) → p < w → Entry 0 d p
    first d p hd hp =
        subst (λ (m : ℕ). cell t new (0 * 32 + number m d) p ≡ sum m (λ k. mul (d k) (tile_at b at src places (0 * length places + k) p))) all
        (ap (λ (n : ℕ). cell t new n p) (omega arith) ∙ s.entry d p hd hp
        ∙ sum-ext (length places) _ _ (λ k hk. ap (λ (i : ℕ). mul (d k) (tile_at b at src places i p)) (omega (arith, zero-mul (length places)))))
