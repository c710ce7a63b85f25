-- Blocks added up one after the other, what the sum holds after j of them; and a block that such sums are added to stretch by stretch. Assumes nothing.
use mathlib.Core.Path.{◌≡◌, refl, sym, ap, ap₂, ◌∙◌}
use mathlib.Core.List.{List, ◌++◌}
use Prim.Native.Nat.{ℕ, ◌+◌, ◌≤◌, ◌<◌}
use native.Mathlib.Numerals.{add-one}
use native.Mathlib.Omega.{arith}
use borrow.Rule.Slice.PartMut.{put_mid}
use lib.ListN.{length, get_or, take, drop, replicate, length-replicate, get_or-append}
use lib.Seq.{length-take-le, length_front}
use Rattle.base.specs.Seq.{cell}
use Rattle.base.specs.Parts.{Filled}
use Rattle.base.proofs.Buffers.{zeros-front}
use Rattle.base.proofs.Parts.{length-lent, lent_at, filled-part}
use Rattle.base.proofs.Seq.{length-tabulate, get_d_tabulate}
use Rattle.field.specs.Field.{add, mul, plus}
use Rattle.field.specs.FiniteSum.{sum}
use Rattle.field.proofs.Addition.{add_assoc, add-zero-left, add-zero-right}
use Rattle.field.proofs.FiniteSum.{sum-zero, sum-last}
use Rattle.blocks.proofs.Laws.{plus-length, plus-at}
use Rattle.products.specs.Blocks.{plus_multiple, combined, Accumulated}

plus_multiple-length : (xs : List ℕ) (c : ℕ) (ys : List ℕ) → length (plus_multiple xs c ys) ≡ length xs
unfolding plus_multiple
plus_multiple-length xs c ys = length-tabulate (length xs) _

plus_multiple-at : (xs : List ℕ) (c : ℕ) (ys : List ℕ) (p : ℕ) → p < length xs
    → get_or (plus_multiple xs c ys) p 0 ≡ add (get_or xs p 0) (mul c (get_or ys p 0))
unfolding plus_multiple
plus_multiple-at xs c ys p h = get_d_tabulate (length xs) _ p h

-- ---- a room of n zeros, of which w bytes are lent

pub room-length : (n w : ℕ) → w ≤ n → length (take w (replicate {A = ℕ} n 0)) ≡ w
room-length n w h = length-take-le w (replicate n 0) (omega (arith, length-replicate {A = ℕ} n 0))

-- what came back, with the rest behind it
pub room_whole : (n w : ℕ) (part : List ℕ) → length part ≡ length (take w (replicate {A = ℕ} n 0)) → n ≡ length (part ++ drop w (replicate n 0))
room_whole n w part e = sym (length_front (replicate n 0) part w e ∙ length-replicate {A = ℕ} n 0)

-- ---- one block after the other

module _ (b at : ℕ) (src places coeffs : List ℕ) where
  -- term i of byte p of the sum
  abbrev term : ℕ → ℕ → ℕ
  term p i = mul (get_or coeffs i 0) (cell b src (get_or places i 0) (at + p))

  pub record Summed (j : ℕ) (old new : List ℕ) : Type 0 where
    pub most : j ≤ length places
    pub same : length new ≡ length old
    pub sums : (p : ℕ) → p < length old → get_or new p 0 ≡ add (get_or old p 0) (sum j (term p))

  pub summed-none : (old : List ℕ) → Summed 0 old old
  summed-none old =
      record {
        most = omega arith;
        same = refl;
        sums = λ p h. sym (add-zero-right (get_or old p 0)) ∙ ap (add (get_or old p 0)) (sym (sum-zero _));
      }

  pub summed-more : (j : ℕ) (old new part last : List ℕ) → j < length places
      → ((p : ℕ) → p < length old → get_or part p 0 ≡ cell b src (get_or places j 0) (at + p)) → last ≡ plus_multiple new (get_or coeffs j 0) part
      → Summed j old new → Summed (j + 1) old last
  summed-more j old new part last hj hp e s =
      record {
        most = omega arith;
        same = ap length e ∙ plus_multiple-length new (get_or coeffs j 0) part ∙ s.same;
        sums = λ p h.
            ap (λ (l : List ℕ). get_or l p 0) e ∙ plus_multiple-at new (get_or coeffs j 0) part p (omega (arith, s.same))
            ∙ ap₂ add (s.sums p h) (ap (mul (get_or coeffs j 0)) (hp p h)) ∙ add_assoc (get_or old p 0) _ _
            ∙ ap (add (get_or old p 0)) (sym (sum-last j _) ∙ ap (λ (k : ℕ). sum k (term p)) (sym (add-one j)));
      }

  pub summed-all : (j : ℕ) (old new : List ℕ) → length places ≤ j → Summed j old new → Accumulated b at src places coeffs old new
  unfolding combined
  summed-all j old new h s =
      record {
        same = s.same;
        sums = λ p hp. s.sums p hp ∙ ap (λ (k : ℕ). add (get_or old p 0) (sum k (term p))) whole;
      }
    where
      whole : j ≡ length places
      whole = omega (arith, s.most)

  -- ---- a stretch of a block, whose sum was formed apart, in a room of n that held zeros

  pub stretch-added : (n : ℕ) (part old new : List ℕ) → length old ≤ n → Accumulated b at src places coeffs (take (length old) (replicate n 0)) part
      → new ≡ plus old (part ++ drop (length old) (replicate n 0)) → Accumulated b at src places coeffs old new
  stretch-added n part old new h a e =
      record {
        same = ap length e ∙ plus-length old _;
        sums = λ p hp.
            let hw : p < length (take (length old) (replicate {A = ℕ} n 0)) = omega (arith, room-length n (length old) h) in
            ap (λ (l : List ℕ). get_or l p 0) e ∙ plus-at old (part ++ drop (length old) (replicate n 0)) p hp
            ∙ ap (add (get_or old p 0))
            (get_or-append part _ 0 p (omega (arith, a.same)) ∙ a.sums p hw
            ∙ ap (λ (x : ℕ). add x (combined b src places coeffs (at + p))) (zeros-front (length old) n (omega (arith, length-replicate {A = ℕ} n 0)) p) ∙ add-zero-left _);
      }

-- ---- a block, stretch by stretch

module _ (src places coeffs old : List ℕ) where
  -- byte p of the block with the sum added
  abbrev pub total : ℕ → ℕ
  total p = add (get_or old p 0) (combined (length old) src places coeffs p)

  pub stretches-more : (t k n : ℕ) (new part : List ℕ) → t + k ≡ n → n ≤ length old → Accumulated (length old) t src places coeffs (take k (drop t new)) part
      → Filled total t old new → Filled total n old (put_mid t k new part)
  stretches-more t k n new part e le a s =
      filled-part total t k n old new part e (omega (arith, s.same)) (a.same ∙ full)
      (λ q h.
      a.sums q (omega (arith, full))
      ∙ ap (λ (x : ℕ). add x (combined (length old) src places coeffs (t + q)))
      (lent_at t k new q h ∙ s.rest (t + q) (omega arith))) s
    where
      full : length (take k (drop t new)) ≡ k
      full = length-lent t k new (omega (arith, s.same))

  pub stretches-all : (t : ℕ) (new : List ℕ) → length old ≤ t → Filled total t old new → Accumulated (length old) 0 src places coeffs old new
  stretches-all t new h s =
      record {
        same = s.same;
        sums = λ p hp.
            let e : p ≡ 0 + p = omega arith in
            s.done p (omega arith) ∙ ap (λ (q : ℕ). add (get_or old p 0) (combined (length old) src places coeffs q)) e;
      }
