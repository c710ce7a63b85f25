-- A loop over a set's nodes that writes their blocks one after the other: what the codeword holds after t of them. Assumes nothing.
use mathlib.Core.Path.{◌≡◌, refl, sym, ap, ◌∙◌}
use mathlib.Core.Logic.{⊎_elim}
use mathlib.Core.Bool.{Bool, true, false, not, true≢false}
use mathlib.Core.List.{List}
use Prim.Native.Nat.{ℕ, suc, ◌+◌, ◌*◌, ◌^◌, ◌≤◌, ◌<◌}
use native.Mathlib.Nat.{suc-mul}
use native.Mathlib.Omega.{arith}
use borrow.Author.Tests.{not-false}
use lib.Dec.{eqb}
use lib.ListN.{length, get_or, take, replicate, length-replicate}
use lib.Seq.{get_or-take, length-take-le}
use Rattle.base.specs.Decided.{Decided}
use Rattle.base.specs.Seq.{cell}
use Rattle.base.proofs.Cases.{eq-or}
use Rattle.base.proofs.Decisions.{told-equal, told-other}
use Rattle.base.proofs.Seq.{zeros-at}
use Rattle.base.specs.Parts.{part_of, put_block}
use Rattle.base.proofs.Parts.{length-part_of, part_of-at, put_block-here, put_block-other, put_block-length, row_ends}
use Rattle.params.specs.Nodes.{has, size, count, Placing}
use Rattle.params.proofs.Sets.{same_rank, rank-inside, size-most}
use Rattle.params.proofs.Placing.{Listed, at_node, placing-zeros, length-places}
use Rattle.blocks.specs.Bytes.{over}
use Rattle.blocks.proofs.Laws.{over-same}
use Rattle.placing.specs.Placed.{BlocksIn, Puttable, PutPost, ClearPost}

-- the places, listed
pub listed : {set number : ℕ} {places : List ℕ} → set < 2 ^ 32 → number ≡ size set → Placing set (replicate 32 0) places → Listed set number places
listed word count_is placed = record { word = word; lists = placing-zeros _ _ word placed; count_is = count_is }

-- ---- put and compare, once their tests are passed

pub record Placeable (b set number : ℕ) (places : List ℕ) (codeword fresh : ℕ) : Type 0 where
  pub listed : Listed set number places
  pub fits : Puttable b set codeword fresh

-- the two tests: fresh has one block for each node, and the codeword has the nodes' blocks
module _ (b set number codeword fresh : ℕ) (product : Bool) (count_is : number ≡ size set) (told : product ≡ eqb fresh (number * b)) where
  pub no_room : not product ≡ true → Puttable b set codeword fresh → ⊥
  no_room taken ok = told-other _ _ _ told taken (ok.room ∙ ap (λ (m : ℕ). m * b) (sym count_is))

  pub placeable : not product ≡ false → (inside : Bool) → Decided (BlocksIn b set codeword) inside → not inside ≡ false → set < 2 ^ 32 → (places : List ℕ)
      → Placing set (replicate 32 0) places → Placeable b set number places codeword fresh
  placeable left inside decided kept word places placed =
      record {
        listed = listed word count_is placed;
        fits =
            record {
              inside = decided.holds (not-false inside kept);
              room = told-equal _ _ _ told left ∙ ap (λ (m : ℕ). m * b) count_is;
            };
      }

-- Turn i: the node with place w, and fresh's block for it.
pub record Turn (b set number codeword : ℕ) (fresh : List ℕ) (i w : ℕ) (block : List ℕ) : Type 0 where
  pub places : List ℕ
  pub fit : Placeable b set number places codeword (length fresh)
  pub turn : i < number
  pub place : w ≡ get_or places i 0
  pub is : block ≡ part_of b i fresh

module _ {b set number codeword i w : ℕ} {fresh block : List ℕ} (t : Turn b set number codeword fresh i w block) where
  -- the node is the set's, with rank i
  pub at : (has set (suc w) ≡ true) × (count (has set) w ≡ i)
  at = at_node set number t.places t.fit.listed i w t.turn t.place

  -- its block ends within the codeword
  pub ends : w * b + b ≤ codeword
  ends = t.fit.fits.inside.1 w at.0

  pub block_ends : i * b + b ≤ length fresh
  block_ends = row_ends (size set) i b (length fresh) (omega (arith, t.turn, t.fit.listed.count_is)) (omega (arith, t.fit.fits.room))

  pub long : length block ≡ b
  long = ap length t.is ∙ length-part_of b i fresh block_ends

-- ---- blocks written over others

-- After t turns the first t nodes' blocks are f's, by their ranks, and all outside the set are as they were.
pub record Written (b set : ℕ) (f : ℕ → ℕ → ℕ) (t : ℕ) (old new : List ℕ) : Type 0 where
  pub same : length new ≡ length old
  pub done : (j p : ℕ) → has set (suc j) ≡ true → count (has set) j < t → p < b → cell b new j p ≡ f (count (has set) j) p
  pub others : (j p : ℕ) → has set (suc j) ≡ false → p < b → cell b new j p ≡ cell b old j p

pub written_none : (b set : ℕ) (f : ℕ → ℕ → ℕ) (l : List ℕ) → Written b set f 0 l l
written_none b set f l = record { same = refl; done = λ j p e h hp. absurd (omega arith); others = λ j p e hp. refl }

-- all turns
written_all : (b set : ℕ) (f : ℕ → ℕ → ℕ) (t : ℕ) (old new : List ℕ) → set < 2 ^ 32 → size set ≤ t → Written b set f t old new
    → (j p : ℕ) → has set (suc j) ≡ true → p < b → cell b new j p ≡ f (count (has set) j) p
written_all b set f t old new word h s j p e hp = s.done j p e (omega (arith, rank-inside set j word e)) hp

-- one turn more: the node with place w has rank t
written-more : (b set : ℕ) (f : ℕ → ℕ → ℕ) (t w : ℕ) (old new part : List ℕ) → has set (suc w) ≡ true → count (has set) w ≡ t
    → w * b + b ≤ length new → length part ≡ b → ((p : ℕ) → p < b → get_or part p 0 ≡ f t p) → Written b set f t old new
    → Written b set f (t + 1) old (put_block b w new part)
written-more b set f t w old new part e rank held hl hf s =
    let hn : suc w * b ≤ length new = omega (arith, suc-mul w b) in
    let hj : w < suc w = omega arith in
    record {
      same = put_block-length b (suc w) w new part hj hn hl ∙ s.same;
      done = λ i p ei hi hp.
          ⊎_elim
          (λ (q : i ≡ w).
          ap (λ (k : ℕ). cell b (put_block b w new part) k p) q ∙ put_block-here b (suc w) w new part hj hn hl p hp ∙ hf p hp
          ∙ ap (λ (k : ℕ). f k p) (sym (ap (count (has set)) q ∙ rank)))
          (λ (ne : i ≡ w → ⊥).
          put_block-other b (suc w) w new part hj hn hl i p ne hp
          ∙ s.done i p ei (below i hi (λ q. ne (same_rank (has set) i w ei e (q ∙ sym rank)))) hp) (eq-or i w);
      others = λ i p ei hp.
          put_block-other b (suc w) w new part hj hn hl i p
          (λ q. true≢false (sym e ∙ ap (λ (k : ℕ). has set (suc k)) (sym q) ∙ ei)) hp
          ∙ s.others i p ei hp;
    }
  where
    below : (i : ℕ) → count (has set) i < t + 1 → (count (has set) i ≡ t → ⊥) → count (has set) i < t
    below i h ne = omega (arith, ne)

-- ---- put: block i of fresh over that of the node with place w

pub put-turn : {b set number i w : ℕ} {fresh old new block part : List ℕ} → Turn b set number (length old) fresh i w block
    → Written b set (cell b fresh) i old new → part ≡ over (part_of b w new) block → Written b set (cell b fresh) (i + 1) old (put_block b w new part)
put-turn {b} {set} {number} {i} {w} {fresh} {old} {new} {block} {part} t s e =
    let held : w * b + b ≤ length new = omega (arith, ends t, s.same) in
    let whole : part ≡ block = e ∙ over-same _ _ (long t ∙ sym (length-part_of b w new held)) in
    written-more b set (cell b fresh) i w old new part (at t).0 (at t).1 held (ap length whole ∙ long t)
    (λ p hp. ap (λ (l : List ℕ). get_or l p 0) (whole ∙ t.is) ∙ part_of-at b i fresh p hp) s

pub put-done : {b set number t : ℕ} {fresh places old new : List ℕ} → Placeable b set number places (length old) (length fresh) → number ≤ t
    → Written b set (cell b fresh) t old new → PutPost b set fresh old new
put-done {b} {set} {t = t} {fresh} {old = old} {new} k all s =
    record {
      same = s.same;
      put = λ ok. written_all b set (cell b fresh) t old new k.listed.word (omega (arith, k.listed.count_is)) s;
      others = s.others;
      kept = λ none. absurd (none k.fits);
    }

pub put-idle : (b set : ℕ) (fresh l : List ℕ) → (Puttable b set (length l) (length fresh) → ⊥) → PutPost b set fresh l l
put-idle b set fresh l none = record { same = refl; put = λ ok. absurd (none ok); others = λ j p e hp. refl; kept = λ _. refl }

-- ---- clear: 00 over the block of the node with place w

-- once the test is passed: the places of the set's nodes, and the codeword has the nodes' blocks
pub record Clearing (b set number codeword : ℕ) (items : List ℕ) : Type 0 where
  pub places : List ℕ
  pub listed : Listed set number places
  pub items_are : items ≡ take number places
  pub inside : BlocksIn b set codeword

-- there are 32 places, and the set has no more nodes
pub places-most : {set number : ℕ} {places : List ℕ} → Listed set number places → number ≤ length places
places-most {set} g = omega (arith, g.count_is, size-most set g.word, ap length g.lists, length-places set)

module _ {b set number codeword : ℕ} {items : List ℕ} (g : Clearing b set number codeword items) where
  pub one_each : length items ≡ number
  one_each = ap length g.items_are ∙ length-take-le number g.places (places-most g.listed)

  -- the node of turn i, whose place is w, is the set's, with rank i
  pub cleared_at : {i w : ℕ} → i < number → w ≡ get_or items i 0 → (has set (suc w) ≡ true) × (count (has set) w ≡ i)
  cleared_at {i} {w} turn place =
      at_node set number g.places g.listed i w turn (place ∙ ap (λ (l : List ℕ). get_or l i 0) g.items_are ∙ get_or-take number g.places i 0 turn)

  -- its block ends within the codeword
  pub cleared_ends : {i w : ℕ} → i < number → w ≡ get_or items i 0 → w * b + b ≤ codeword
  cleared_ends {w = w} turn place = g.inside.1 w (cleared_at turn place).0

pub clear-turn : {b set number i w : ℕ} {items old new part : List ℕ} → Clearing b set number (length old) items → i < number → w ≡ get_or items i 0
    → Written b set (λ r p. 0) i old new → part ≡ replicate (length (part_of b w new)) 0 → Written b set (λ r p. 0) (i + 1) old (put_block b w new part)
clear-turn {b} {set} {i = i} {w} {old = old} {new} {part} g turn place s e =
    let at = cleared_at g turn place in
    let held : w * b + b ≤ length new = omega (arith, cleared_ends g turn place, s.same) in
    written-more b set (λ r p. 0) i w old new part at.0 at.1 held
    (ap length e ∙ length-replicate {A = ℕ} (length (part_of b w new)) 0 ∙ length-part_of b w new held)
    (λ p hp. ap (λ (l : List ℕ). get_or l p 0) e ∙ zeros-at (length (part_of b w new)) p) s

pub clear-done : {b set number t : ℕ} {items old new : List ℕ} → Clearing b set number (length old) items → number ≤ t
    → Written b set (λ r p. 0) t old new → ClearPost b set old new
clear-done {b} {set} {t = t} {old = old} {new} g all s =
    record {
      same = s.same;
      cleared = λ ok. written_all b set (λ r p. 0) t old new g.listed.word (omega (arith, g.listed.count_is)) s;
      others = s.others;
      kept = λ none. absurd (none g.inside);
    }

pub clear-idle : (b set : ℕ) (l : List ℕ) → (BlocksIn b set (length l) → ⊥) → ClearPost b set l l
clear-idle b set l none = record { same = refl; cleared = λ ok. absurd (none ok); others = λ j p e hp. refl; kept = λ _. refl }
