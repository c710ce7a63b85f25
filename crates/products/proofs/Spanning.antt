-- A span of every block, one row after the other: what it holds after t rows. Assumes nothing.
use mathlib.Core.Path.{◌≡◌, refl, sym, ap, ap₂, ◌∙◌}
use mathlib.Core.List.{List}
use mathlib.Core.Logic.{◌⊎◌, inl, inr, ⊎_elim}
use Prim.Native.Nat.{ℕ, suc, ◌+◌, ◌*◌, ◌≤◌, ◌<◌}
use native.Mathlib.Nat.{suc-mul, mul-le-mul_right}
use native.Mathlib.Omega.{arith}
use borrow.Rule.Slice.PartMut.{put_mid, same_len_mid}
use lib.ListN.{length, get_or}
use Rattle.base.specs.Seq.{cell}
use Rattle.base.proofs.Cases.{lt-or, eq-or}
use Rattle.base.proofs.Parts.{put-before, put_in, put-after, length-lent}
use Rattle.field.specs.Field.{add}
use Rattle.field.proofs.Addition.{add_assoc, add-zero-right}
use Rattle.products.specs.Blocks.{Spanned}
use Rattle.products.proofs.Arriving.{arriving-start, arriving-here, arriving-by}

pub spanned-none : (b at w : ℕ) (targets : List ℕ) (f : ℕ → ℕ → ℕ) (old : List ℕ) → Spanned b at w targets f 0 old old
spanned-none b at w targets f old =
    record {
      same = refl;
      done = λ j p hp. sym (ap (add (cell b old j (at + p))) (arriving-start targets _ j) ∙ add-zero-right (cell b old j (at + p)));
      front = λ j p hp. refl;
      back = λ j p hp hb. refl;
    }

-- one row more: the k bytes from a on, which are a span of its target's block, have the row added
module _ (b at w : ℕ) (targets : List ℕ) (f : ℕ → ℕ → ℕ) (old : List ℕ) (fits : at + w ≤ b) where
  module _ (t a k : ℕ) (new part : List ℕ) (ea : a ≡ get_or targets t 0 * b + at) (ek : k ≡ w) (ends : a + k ≤ length new) (full : length part ≡ k) where
    last : List ℕ
    last = put_mid a k new part

    -- a byte that is not in the span
    apart : (j q : ℕ) → q < b → (j ≡ get_or targets t 0 → (q < at) ⊎ (at + w ≤ q)) → cell b last j q ≡ cell b new j q
    unfolding cell last
    apart j q hq h =
        ⊎_elim
        (λ (lt : j < get_or targets t 0). put-before a k new part ends full (j * b + q) (omega (arith, mul-le-mul_right b lt, suc-mul j b)))
        (λ (le : get_or targets t 0 ≤ j). ⊎_elim
        (λ (e : j ≡ get_or targets t 0). ⊎_elim
        (λ (lt : q < at). put-before a k new part ends full (j * b + q) (omega (arith, ap (λ (m : ℕ). m * b) e)))
        (λ (after : at + w ≤ q). put-after a k new part ends full (j * b + q) (omega (arith, ap (λ (m : ℕ). m * b) e)))
        (h e))
        (λ ne. put-after a k new part ends full (j * b + q) (omega (arith, mul-le-mul_right b (above j le ne), suc-mul (get_or targets t 0) b)))
        (eq-or j (get_or targets t 0)))
        (lt-or j (get_or targets t 0))
      where
        above : (j : ℕ) → get_or targets t 0 ≤ j → (j ≡ get_or targets t 0 → ⊥) → suc (get_or targets t 0) ≤ j
        above j le ne = omega (arith, ne)

    within : (p : ℕ) → p < w → cell b last (get_or targets t 0) (at + p) ≡ get_or part p 0
    unfolding cell last
    within p hp =
        let e : get_or targets t 0 * b + (at + p) ≡ a + p = omega arith in
        ap (λ (q : ℕ). get_or (put_mid a k new part) q 0) e ∙ put_in a k new part ends full p (omega arith)

    pub spanned-more : ((p : ℕ) → p < w → get_or part p 0 ≡ add (cell b new (get_or targets t 0) (at + p)) (f t p)) → Spanned b at w targets f t old new
        → Spanned b at w targets f (t + 1) old (put_mid a k new part)
    unfolding last
    spanned-more is s =
        record {
          same = same_len_mid a k new part (full ∙ sym (length-lent a k new (omega arith))) ∙ s.same;
          done = λ j p hp.
              ⊎_elim
              (λ (e : get_or targets t 0 ≡ j). ap (λ (m : ℕ). cell b (put_mid a k new part) m (at + p)) (sym e) ∙ within p hp ∙ is p hp
              ∙ ap₂ add (ap (λ (m : ℕ). cell b new m (at + p)) e ∙ s.done j p hp) refl ∙ add_assoc (cell b old j (at + p)) _ _
              ∙ ap (add (cell b old j (at + p))) (sym (arriving-here targets (λ i. f i p) j t e)))
              (λ ne. apart j (at + p) (omega arith) (λ e. absurd (ne (sym e))) ∙ s.done j p hp
              ∙ ap (add (cell b old j (at + p))) (sym (arriving-by targets (λ i. f i p) j t ne ∙ add-zero-right _)))
              (eq-or (get_or targets t 0) j);
          front = λ j p hp. apart j p (omega arith) (λ e. inl hp) ∙ s.front j p hp;
          back = λ j p hp hb. apart j p hb (λ e. inr hp) ∙ s.back j p hp hb;
        }
