-- A tile of every row: the entries that a row's picks name, summed bit by bit, are its tile of the product, and added to its target's block, tile by tile, they make the product.
-- Assumes nothing.
use mathlib.Core.Path.{◌≡◌, refl, sym, ap, ap₂, ◌∙◌, subst, subst⁻¹}
use mathlib.Core.List.{List}
use mathlib.Core.Logic.{⊎_elim}
use Prim.Native.Nat.{ℕ, zero, suc, ◌+◌, ◌-◌, ◌*◌, ◌^◌, ◌≤◌, ◌<◌, min}
use native.Mathlib.Nat.{suc-mul, mul-le-mul_right}
use native.Mathlib.Numerals.{add-one}
use native.Mathlib.Omega.{arith}
use borrow.Rule.Slice.PartMut.{put_mid}
use lib.ListN.{length, get_or, replicate}
use Rattle.base.specs.Seq.{tabulate, cell}
use Rattle.base.proofs.Cases.{lt-or}
use Rattle.base.specs.Parts.{part_of}
use Rattle.base.proofs.Parts.{part_of-at}
use Rattle.base.proofs.Seq.{length-tabulate, get_d_tabulate, eq-tabulate, tabulate-zeros}
use Rattle.field.specs.Field.{Bytes, add, mul, plus}
use Rattle.field.specs.FiniteSum.{sum}
use Rattle.field.proofs.Addition.{add_assoc, add-zero-right}
use Rattle.field.proofs.FiniteSum.{sum-zero, sum_zeros, sum-last, sum-ext, sum-add, mul-sum}
use Rattle.field.proofs.Multiplication.{mul-zero-left}
use Rattle.blocks.proofs.Laws.{plus-length, plus-at}
use Rattle.picks.specs.Picks.{bit, number}
use Rattle.picks.proofs.Digits.{bit-lt, number-below, number-bits, digit-times}
use Rattle.products.specs.Blocks.{product, arriving, Fits, Added, Spanned}
use Rattle.products.proofs.Arriving.{arriving-ext}
use Rattle.products.proofs.Spanning.{spanned-more}
use Rattle.products.proofs.Stretches.{stretch, length-stretch, stretch-at}
use Rattle.tiles.specs.Tiling.{Grouped, columns, multiple, tile_at, Tabled, Picked, named, by_bits, Stepped, Gathered, Reached}
use Rattle.tiles.proofs.Groups.{grouped}

-- ---- entries summed up one after the other

module _ (t : ℕ) (table picks : List ℕ) (q : ℕ) (old : List ℕ) (size : length old ≡ t) where
  pub gathered_none : Gathered t 0 table picks q old old
  unfolding named
  gathered_none = record { same = refl; sums = λ p h. sym (ap (add (get_or old p 0)) (sum-zero _) ∙ add-zero-right (get_or old p 0)) }

  pub gathered-more : (g : ℕ) (new last : List ℕ) → last ≡ plus new (part_of t (g * 32 + cell 256 picks g q) table)
      → Gathered t g table picks q old new → Gathered t (g + 1) table picks q old last
  unfolding named
  gathered-more g new last e r =
      record {
        same = ap length e ∙ plus-length new entry ∙ r.same;
        sums = λ p h.
            ap (λ (l : List ℕ). get_or l p 0) e ∙ plus-at new entry p (omega (arith, r.same))
            ∙ ap₂ add (r.sums p h) (part_of-at t (g * 32 + cell 256 picks g q) table p h) ∙ add_assoc (get_or old p 0) _ _
            ∙ ap (add (get_or old p 0)) (sym (sum-last g _) ∙ ap (λ (k : ℕ). sum k (λ g. cell t table (g * 32 + cell 256 picks g q) p)) (sym (add-one g)));
      }
    where
      entry : List ℕ
      entry = part_of t (g * 32 + cell 256 picks g q) table

  -- the first g of all groups, and one more if there is one
  pub gathered-step : (groups g : ℕ) (new last : List ℕ) → Stepped t groups table picks g q new last → Gathered t (min g groups) table picks q old new
      → Gathered t (min (g + 1) groups) table picks q old last
  gathered-step groups g new last s r =
      ⊎_elim
      (λ (lt : g < groups).
      let here : min g groups ≡ g = omega arith in
      let next : min (g + 1) groups ≡ g + 1 = omega arith in
      subst⁻¹ (λ (k : ℕ). Gathered t k table picks q old last) next
      (gathered-more g new last (s.inside lt) (subst (λ (k : ℕ). Gathered t k table picks q old new) here r)))
      (λ (le : groups ≤ g).
      let stays : min g groups ≡ min (g + 1) groups = omega arith in
      subst (λ (k : ℕ). Gathered t k table picks q old last) stays (subst⁻¹ (Gathered t (min g groups) table picks q old) (s.beyond le) r))
      (lt-or g groups)

-- ---- bit by bit

module _ (t groups : ℕ) (table picks : List ℕ) (i : ℕ) where
  pub bits_none : replicate t 0 ≡ tabulate t (by_bits t groups table picks i 0)
  unfolding by_bits
  bits_none = sym (tabulate-zeros t)

  pub bits-more : (s : ℕ) (tile twice last : List ℕ) → tile ≡ tabulate t (by_bits t groups table picks i s) → twice ≡ multiple 2 tile
      → Gathered t groups table picks (i * 8 + s) twice last → last ≡ tabulate t (by_bits t groups table picks i (s + 1))
  unfolding by_bits multiple
  bits-more s tile twice last e et r =
      eq-tabulate t _ last (r.same ∙ ap length et ∙ length-tabulate (length tile) _ ∙ size)
      (λ p h.
      r.sums p h
      ∙ ap (λ (x : ℕ). add x (named t groups table picks (i * 8 + s) p))
      (ap (λ (l : List ℕ). get_or l p 0) et ∙ get_d_tabulate (length tile) _ p (omega (arith, size)) ∙ ap (mul 2) (ap (λ (l : List ℕ). get_or l p 0) e ∙ get_d_tabulate t _ p h))
      ∙ ap (λ (k : ℕ). by_bits t groups table picks i k p) (sym (add-one s)))
    where
      size : length tile ≡ t
      size = ap length e ∙ length-tabulate t _

-- ---- a row's sums are its tile of the product

cell-byte : (stride : ℕ) (coeffs : List ℕ) → Bytes coeffs → (i j : ℕ) → cell stride coeffs i j < 256
unfolding cell
cell-byte stride coeffs bytes i j = bytes (i * stride + j)

module _ {n groups size : ℕ} (rows stride : ℕ) (coeffs none picks : List ℕ) (k : Picked rows stride coeffs n groups size none picks) where
  -- a pick has as many digits as its group has columns
  pick-below : (m g s i : ℕ) → size ≤ m → g < groups → s < 8 → i < rows → cell 256 picks g (i * 8 + s) < 2 ^ m
  unfolding columns
  pick-below m g s i hm hg hs hi =
      subst⁻¹ (λ (x : ℕ). x < 2 ^ m) (k.pick g s i hg hs hi) (number-below (columns size n g) m _ (λ j. bit-lt s _) (omega arith))

  -- so it names an entry of a table with room for 2^m entries of the last group
  pub picks-reach : (t m : ℕ) (table : List ℕ) → size ≤ m → ((g : ℕ) → g < groups → g * 256 + rows * 8 ≤ length picks)
      → ((g : ℕ) → g < groups → (g * 32 + 2 ^ m) * t ≤ length table) → (i s : ℕ) → i < rows → s < 8 → Reached t groups (i * 8 + s) table picks
  picks-reach t m table hm places entries i s hi hs =
      record {
        place = λ g hg. omega (arith, places g hg);
        entry = λ g hg. omega (arith, suc-mul (g * 32 + cell 256 picks g (i * 8 + s)) t, mul-le-mul_right t (next g hg), entries g hg);
      }
    where
      next : (g : ℕ) → g < groups → suc (g * 32 + cell 256 picks g (i * 8 + s)) ≤ g * 32 + 2 ^ m
      next g hg = omega (arith, pick-below m g s i hm hg hs hi)

module _ (t b at w rows stride : ℕ) (src places coeffs room table none picks : List ℕ) (bytes : Bytes coeffs) {groups size : ℕ} (gr : Grouped (length places) groups size)
    (tab : Tabled t b at w size src places groups room table) (k : Picked rows stride coeffs (length places) groups size none picks) where
  module _ (i p : ℕ) (hi : i < rows) (hp : p < w) where
    abbrev c : ℕ → ℕ
    c j = cell stride coeffs i j

    abbrev x : ℕ → ℕ
    x j = tile_at b at src places j p

    bit-sum : (s : ℕ) → s < 8 → named t groups table picks (i * 8 + s) p ≡ sum (length places) (λ j. mul (bit s (c j)) (x j))
    unfolding named
    bit-sum s hs =
        grouped gr _ (λ j. mul (bit s (c j)) (x j))
        (λ g hg.
        ap (λ (q : ℕ). cell t table (g * 32 + q) p) (k.pick g s i hg hs hi)
        ∙ tab.entry g (λ j. bit s (c (g * size + j))) p hg (λ j. bit-lt s _) hp)

    bits-sum : (s : ℕ) → s ≤ 8 → by_bits t groups table picks i s p ≡ sum (length places) (λ j. mul (number s (λ r. bit r (c j))) (x j))
    unfolding by_bits number
    bits-sum zero hs = sym (sum_zeros (length places) _ (λ j hj. mul-zero-left (x j)))
    bits-sum (suc s) hs =
        ap₂ add (ap (mul 2) (bits-sum s (omega arith)) ∙ mul-sum (length places) 2 _) (bit-sum s (omega arith)) ∙ sym (sum-add (length places) _ _)
        ∙ sum-ext (length places) _ _
        (λ j hj.
        sym (digit-times (number s (λ r. bit r (c j))) (bit s (c j)) (x j) (number-below s 7 _ (λ r. bit-lt r (c j)) (omega arith)) (bit-lt s (c j))))

    pub row-product : by_bits t groups table picks i 8 p ≡ product b src places coeffs stride i (at + p)
    unfolding product
    row-product =
        bits-sum 8 (omega arith) ∙ sum-ext (length places) _ _ (λ j hj. ap (λ (q : ℕ). mul q (x j)) (number-bits (c j) (cell-byte stride coeffs bytes i j)))

-- ---- a row added to its target's span, as the code does it

module _ (b at w : ℕ) (targets : List ℕ) (f : ℕ → ℕ → ℕ) (old : List ℕ) (fits : at + w ≤ b) where
  -- as the code adds a row to at most m bytes
  pub row-spanned : (m : ℕ) → w ≤ m → (t g : ℕ) (new part : List ℕ) → g ≡ get_or targets t 0 → g * b + at + w ≤ length new → part ≡ plus (stretch (g * b + at) w new) (tabulate m (f t))
      → Spanned b at w targets f t old new → Spanned b at w targets f (t + 1) old (put_mid (g * b + at) (g * b + at + w - (g * b + at)) new part)
  unfolding cell
  row-spanned m wm t g new part eg ends e s =
      spanned-more b at w targets f old fits t (g * b + at) (g * b + at + w - (g * b + at)) new part (ap (λ (k : ℕ). k * b + at) eg) (omega arith) (omega arith)
      (ap length e ∙ plus-length (stretch (g * b + at) w new) _ ∙ l ∙ omega arith)
      (λ p hp.
      let q : g * b + at + p ≡ get_or targets t 0 * b + (at + p) = omega (arith, ap (λ (k : ℕ). k * b) eg) in
      ap (λ (l : List ℕ). get_or l p 0) e ∙ plus-at (stretch (g * b + at) w new) _ p (omega (arith, l))
      ∙ ap₂ add (stretch-at (g * b + at) w new p hp ∙ ap (λ (k : ℕ). get_or new k 0) q) (get_d_tabulate m _ p (omega arith)))
      s
    where
      l : length (stretch (g * b + at) w new) ≡ w
      l = length-stretch (g * b + at) w new ends

-- ---- tile by tile

-- byte p of block j: what it was plus the rows that go to it
unfoldable pub block_at : ℕ → ℕ → List ℕ → List ℕ → List ℕ → List ℕ → List ℕ → ℕ → ℕ → ℕ
block_at b stride src targets places coeffs old j p = add (cell b old j p) (arriving (length targets) targets (λ i. product b src places coeffs stride i p) j)

-- of every block of b bytes those before `at` are f's, the others as they were
pub record Tiled (b : ℕ) (f : ℕ → ℕ → ℕ) (at : ℕ) (old new : List ℕ) : Type 0 where
  pub same : length new ≡ length old
  pub done : (j p : ℕ) → p < at → p < b → cell b new j p ≡ f j p
  pub rest : (j p : ℕ) → at ≤ p → p < b → cell b new j p ≡ cell b old j p

pub tiled-none : (b : ℕ) (f : ℕ → ℕ → ℕ) (old : List ℕ) → Tiled b f 0 old old
tiled-none b f old = record { same = refl; done = λ j p hp. absurd (omega arith); rest = λ j p hp hb. refl }

-- one more tile of every block
pub tiled-more : (b at w stride : ℕ) (src targets places coeffs old : List ℕ) (f : ℕ → ℕ → ℕ) (mid new : List ℕ) → at + w ≤ b
    → ((i p : ℕ) → i < length targets → p < w → f i p ≡ product b src places coeffs stride i (at + p))
    → Tiled b (block_at b stride src targets places coeffs old) at old mid → Spanned b at w targets f (length targets) mid new
    → Tiled b (block_at b stride src targets places coeffs old) (at + w) old new
unfolding block_at
tiled-more b at w stride src targets places coeffs old f mid new hw is s l =
    record {
      same = l.same ∙ s.same;
      done = λ j p hp hb.
          ⊎_elim (λ (lt : p < at). l.front j p lt ∙ s.done j p lt hb)
          (λ (le : at ≤ p). let whole : p ≡ at + (p - at) = omega arith in
          ap (cell b new j) whole ∙ l.done j (p - at) (omega arith)
          ∙ ap₂ add (s.rest j (at + (p - at)) (omega arith) (omega arith)) (arriving-ext (length targets) targets _ _ j (λ i hi. is i (p - at) hi (omega arith)))
          ∙ ap (λ (q : ℕ). add (cell b old j q) (arriving (length targets) targets (λ i. product b src places coeffs stride i q) j)) (sym whole))
          (lt-or p at);
      rest = λ j p hp hb. l.back j p hp hb ∙ s.rest j p (omega arith) hb;
    }

pub tiled-all : (b stride at : ℕ) (src targets places coeffs old new : List ℕ) → Fits b stride targets places (length src) (length coeffs) (length old) → b ≤ at
    → Tiled b (block_at b stride src targets places coeffs old) at old new → Added b stride src targets places coeffs old new
unfolding block_at
tiled-all b stride at src targets places coeffs old new fits h s =
    record { same = s.same; written = λ f j p hp. s.done j p (omega arith) hp; kept = λ ne. absurd (ne fits) }
