-- A part of a list that was lent and came back changed, told entry by entry, and loops that write a list part by part or block by block. Assumes nothing.
use mathlib.Core.Path.{◌≡◌, refl, sym, ap, ◌∙◌}
use mathlib.Core.List.{List, ◌++◌}
use mathlib.Core.Logic.{⊎_elim}
use Prim.Native.Nat.{ℕ, suc, ◌+◌, ◌-◌, ◌*◌, ◌≤◌, ◌<◌}
use native.Mathlib.Nat.{suc-mul, mul-le-mul_right}
use native.Mathlib.Omega.{arith}
use borrow.Rule.Slice.PartMut.{put_mid, post_of, same_len_mid}
use lib.ListN.{length, get_or, take, drop, length-drop, get_or-append}
use lib.Seq.{length-take-le, get_or-take, get_or-drop, get_or-append-add}
use Rattle.base.specs.Seq.{cell, blocks}
use Rattle.base.specs.Parts.{Filled, part_of, put_block, Blocked}
use Rattle.base.proofs.Cases.{lt-or, eq-or}
use Rattle.base.proofs.Seq.{cell-blocks, length-blocks, cells_ext}

module _ (a k : ℕ) (xs ys : List ℕ) (fits : a + k ≤ length xs) (full : length ys ≡ k) where
  front : length (take a xs) ≡ a
  front = length-take-le a xs (omega arith)

  -- before the part
  pub put-before : (q : ℕ) → q < a → get_or (put_mid a k xs ys) q 0 ≡ get_or xs q 0
  put-before q h = get_or-append (take a xs) _ 0 q (omega (arith, front)) ∙ get_or-take a xs q 0 h

  after : (q : ℕ) → get_or (put_mid a k xs ys) (a + q) 0 ≡ get_or (ys ++ post_of a k xs) q 0
  after q = ap (λ (m : ℕ). get_or (put_mid a k xs ys) (m + q) 0) (sym front) ∙ get_or-append-add (take a xs) _ q 0

  -- in the part
  pub put_in : (q : ℕ) → q < k → get_or (put_mid a k xs ys) (a + q) 0 ≡ get_or ys q 0
  put_in q h = after q ∙ get_or-append ys _ 0 q (omega (arith, full))

  -- after the part
  pub put-after : (q : ℕ) → a + k ≤ q → get_or (put_mid a k xs ys) q 0 ≡ get_or xs q 0
  put-after q h =
      let e : a + (k + (q - (a + k))) ≡ q = omega arith in
      ap (λ (m : ℕ). get_or (put_mid a k xs ys) m 0) (sym e) ∙ after (k + (q - (a + k)))
      ∙ ap (λ (m : ℕ). get_or (ys ++ post_of a k xs) (m + (q - (a + k))) 0) (sym full) ∙ get_or-append-add ys _ (q - (a + k)) 0
      ∙ get_or-drop k (drop a xs) (q - (a + k)) 0 ∙ get_or-drop a xs (k + (q - (a + k))) 0 ∙ ap (λ (m : ℕ). get_or xs m 0) e

-- k entries from a on, as the code lends them
pub length-lent : (a k : ℕ) (xs : List ℕ) → a + k ≤ length xs → length (take k (drop a xs)) ≡ k
length-lent a k xs h = length-take-le k (drop a xs) (omega (arith, length-drop a xs))

pub lent_at : (a k : ℕ) (xs : List ℕ) (p : ℕ) → p < k → get_or (take k (drop a xs)) p 0 ≡ get_or xs (a + p) 0
lent_at a k xs p h = get_or-take k (drop a xs) p 0 h ∙ get_or-drop a xs p 0

-- a loop that fills a list part by part: the part from t to n, k entries long
pub filled-part : (f : ℕ → ℕ) (t k n : ℕ) (old new part : List ℕ) → t + k ≡ n → n ≤ length new → length part ≡ k
    → ((q : ℕ) → q < k → get_or part q 0 ≡ f (t + q)) → Filled f t old new → Filled f n old (put_mid t k new part)
filled-part f t k n old new part e le full h s =
    record {
      same = same_len_mid t k new part (full ∙ sym (length-lent t k new (omega arith))) ∙ s.same;
      done = λ q hq.
          ⊎_elim (λ (lt : q < t). put-before t k new part (omega arith) full q lt ∙ s.done q lt)
          (λ (ge : t ≤ q).
          let d : t + (q - t) ≡ q = omega arith in
          ap (λ (m : ℕ). get_or (put_mid t k new part) m 0) (sym d) ∙ put_in t k new part (omega arith) full (q - t) (omega arith) ∙ h (q - t) (omega arith) ∙ ap f d)
          (lt-or q t);
      rest = λ q hq. put-after t k new part (omega arith) full q (omega arith) ∙ s.rest q (omega arith);
    }

-- row i of n rows of b entries ends within them
pub row_ends : (n i b size : ℕ) → i < n → n * b ≤ size → i * b + b ≤ size
row_ends n i b size h k = omega (arith, mul-le-mul_right b h, suc-mul i b)

pub length-part_of : (b j : ℕ) (xs : List ℕ) → j * b + b ≤ length xs → length (part_of b j xs) ≡ b
length-part_of b j xs h = length-lent (j * b) (j * b + b - j * b) xs (omega arith) ∙ omega arith

pub part_of-at : (b j : ℕ) (xs : List ℕ) (p : ℕ) → p < b → get_or (part_of b j xs) p 0 ≡ cell b xs j p
unfolding cell
part_of-at b j xs p h = lent_at (j * b) (j * b + b - j * b) xs p (omega arith)

module _ (b n j : ℕ) (xs ys : List ℕ) (hj : j < n) (hx : n * b ≤ length xs) (hy : length ys ≡ b) where
  inside : j * b + (j * b + b - j * b) ≤ length xs
  inside = omega (arith, mul-le-mul_right b hj, suc-mul j b)

  whole : length ys ≡ j * b + b - j * b
  whole = omega arith

  pub put_block-here : (p : ℕ) → p < b → cell b (put_block b j xs ys) j p ≡ get_or ys p 0
  unfolding cell
  put_block-here p h = put_in (j * b) (j * b + b - j * b) xs ys inside whole p (omega arith)

  pub put_block-other : (i p : ℕ) → (i ≡ j → ⊥) → p < b → cell b (put_block b j xs ys) i p ≡ cell b xs i p
  unfolding cell
  put_block-other i p ne h =
      ⊎_elim (λ (lt : i < j). put-before (j * b) (j * b + b - j * b) xs ys inside whole (i * b + p) (omega (arith, mul-le-mul_right b lt, suc-mul i b)))
      (λ (le : j ≤ i). put-after (j * b) (j * b + b - j * b) xs ys inside whole (i * b + p) (omega (arith, mul-le-mul_right b (above le), suc-mul j b)))
      (lt-or i j)
    where
      above : j ≤ i → suc j ≤ i
      above le = omega (arith, ne)

  pub put_block-length : length (put_block b j xs ys) ≡ length xs
  put_block-length =
      same_len_mid (j * b) (j * b + b - j * b) xs ys
      (whole ∙ sym (length-lent (j * b) (j * b + b - j * b) xs inside))

-- ---- a loop that writes the blocks of a list one after the other

pub blocked-none : (b n : ℕ) (f : ℕ → ℕ → ℕ) (l : List ℕ) → Blocked b n f 0 l l
blocked-none b n f l = record { same = refl; done = λ i p h hp. absurd (omega arith); rest = λ i p h hp. refl }

pub blocked-more : (b n : ℕ) (f : ℕ → ℕ → ℕ) (t : ℕ) (old new part : List ℕ) → t < n → length old ≡ n * b → length part ≡ b
    → ((p : ℕ) → p < b → get_or part p 0 ≡ f t p) → Blocked b n f t old new → Blocked b n f (t + 1) old (put_block b t new part)
blocked-more b n f t old new part ht ho hl hf s =
    let hn : n * b ≤ length new = omega (arith, s.same) in
    record {
      same = put_block-length b n t new part ht hn hl ∙ s.same;
      done = λ i p hi hp.
          ⊎_elim
          (λ (e : i ≡ t). ap (λ (k : ℕ). cell b (put_block b t new part) k p) e ∙ put_block-here b n t new part ht hn hl p hp ∙ hf p hp ∙ ap (λ (k : ℕ). f k p) (sym e))
          (λ ne. put_block-other b n t new part ht hn hl i p ne hp ∙ s.done i p (omega arith) hp) (eq-or i t);
      rest = λ i p hi hp. put_block-other b n t new part ht hn hl i p (λ e. omega arith) hp ∙ s.rest i p (omega arith) hp;
    }

pub blocked-all : (b n : ℕ) (f : ℕ → ℕ → ℕ) (t : ℕ) (old new : List ℕ) → 0 < b → length old ≡ n * b → n ≤ t → Blocked b n f t old new
    → new ≡ blocks b n f
blocked-all b n f t old new hb ho ht s =
    cells_ext b n new (blocks b n f) hb (s.same ∙ ho) (length-blocks b n f)
    (λ j p hj hp. s.done j p (omega arith) hp ∙ sym (cell-blocks b n f j p hj hp))
