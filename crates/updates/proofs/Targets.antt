-- Where the rows of a change go: one after the other, they are the differences; to the takers' own blocks, they make one send of the change. Here the gates' facts
-- become what the rows ask, and there is a slack with which the change vanishes outside W. Assumes nothing.
use mathlib.Core.Path.{◌≡◌, sym, ap, ap₂, ◌∙◌, subst}
use mathlib.Core.Bool.{Bool, true, ◌&&◌, and-true}
use mathlib.Core.List.{List}
use Prim.Native.Nat.{ℕ, suc, ◌+◌, ◌*◌, ◌^◌, ◌≤◌, ◌<◌}
use native.Mathlib.Nat.{le_refl}
use native.Mathlib.Omega.{arith}
use lib.Dec.{leb}
use lib.ListN.{length, get_or, take, replicate}
use borrow.Author.Tests.{leb-true, le-leb}
use Rattle.base.specs.Seq.{cell}
use Rattle.base.proofs.Questions.{both-known}
use Rattle.base.proofs.Seq.{zeros-at}
use Rattle.field.specs.Field.{add}
use Rattle.field.proofs.Addition.{add-zero-left, add-zero-right}
use Rattle.params.specs.Nodes.{has, size, within, count, in_order, places_of}
use Rattle.params.specs.declared.Params.{Params}
use Rattle.params.proofs.Placing.{placed-length, placed-inside}
use Rattle.gates.specs.Valid.{Valid, DeltaAccepted, UpdateAccepted}
use Rattle.serials.specs.Serials.{takes, Stamped}
use Rattle.serials.proofs.Laws.{stamped-ext}
use Rattle.code.specs.Code.{block}
use Rattle.code.specs.Calls.{Differences, Updated}
use Rattle.code.proofs.Pairs.{spread-exists}
use Rattle.coefficients.proofs.Laws.{first-length, first-inside}
use Rattle.node_rows.proofs.Targets.{arriving-ordered, arriving-placed, arriving-outside}
use Rattle.updates.specs.Spreading.{Spreadable, Spread}

-- what the rows ask of the targets that either call gives them
spreadable : (a : Params) (change to takers : ℕ) (targets : List ℕ) (out : ℕ) → Valid a → change ≡ a.k * a.b → within a.n to ≡ true → size to ≡ a.w
    → length targets ≡ size takers → ((i : ℕ) → i < length targets → suc (get_or targets i 0) * a.b ≤ out) → Spreadable a change to takers targets out
spreadable a change to takers targets out valid change-is inside many count target =
    record {
      n_high = valid.shape.n_high;
      k_le_n = omega (arith, valid.shape.k_le_w, valid.shape.w_le_n);
      b_low = valid.b_low;
      change_length = change-is;
      to_within = inside;
      to_size = many;
      count = count;
      target = target;
    }

-- ---- one after the other

module _ (a : Params) (to : ℕ) (word : to < 2 ^ 32) (d order : List ℕ) (o : order ≡ in_order) where
  module _ (out : ℕ) (ok : DeltaAccepted a (length d) out to) where
    few : a.w ≤ 32
    few = omega (arith, ok.valid.shape.w_le_n, ok.valid.shape.n_high)

    pub in_a_row : (size : ℕ) → size ≡ out → Spreadable a (length d) to to (take a.w order) size
    in_a_row size e =
        spreadable a (length d) to to (take a.w order) size ok.valid ok.change_length ok.to_within ok.to_size
        (first-length order o a.w few ∙ sym ok.to_size)
        (first-inside order o a.w few a.b a.w size (le_refl a.w) (omega (arith, ok.out_length)))

    pub differences : (n : ℕ) (zeros new : List ℕ) → zeros ≡ replicate n 0 → length zeros ≡ out → Spread a d to to (take a.w order) zeros new → Differences a d to new
    unfolding cell
    differences n zeros new e full s =
        let v = spread-exists a to ok.valid ok.to_within ok.to_size d in
        record {
          slack = v.0;
          vanishes = v.1;
          length_is = s.same ∙ full ∙ ok.out_length;
          holds = λ j p hj h hp.
              let t = count (has to) j in
              s.added v.0 v.1 t p hp
              ∙ ap₂ add (ap (λ (l : List ℕ). get_or l (t * a.b + p) 0) e ∙ zeros-at n (t * a.b + p))
              (arriving-ordered to word a.w (sym ok.to_size) (λ i. block a d v.0 i p) j order o h)
              ∙ add-zero-left _;
        }

-- ---- to the takers' own blocks

-- the takers as the code finds them
module _ (a : Params) (to reached serial taking : ℕ) (d old serials : List ℕ) (ok : UpdateAccepted a (length old) (length serials) (length d) to serial)
    (taken : (i : ℕ) → has taking i ≡ (takes to reached serials serial i && leb i (length serials))) where
  -- of 1..n they are those that take the serial, ..
  among : (j : ℕ) → j < a.n → has taking (suc j) ≡ takes to reached serials serial (suc j)
  among j h =
      taken (suc j) ∙ ap (λ (b : Bool). takes to reached serials serial (suc j) && b) (le-leb (suc j) (length serials) (omega (arith, ok.serials_length)))
      ∙ and-true (takes to reached serials serial (suc j))

  -- .. and there are no others
  inside : (i : ℕ) → has taking i ≡ true → i ≤ a.n
  inside i e =
      let l = leb-true i (length serials) (both-known (takes to reached serials serial i) (leb i (length serials)) (sym (taken i) ∙ e)).1 in
      omega (arith, l, ok.serials_length)

  pub stamped : (new : List ℕ) → Stamped (length serials) (has taking) serial serials new → Stamped a.n (takes to reached serials serial) serial serials new
  stamped new s = stamped-ext among (subst (λ (m : ℕ). Stamped m (has taking) serial serials new) ok.serials_length s)

  -- the numbers of their blocks, and how many there are, as the code counts them
  module _ (word : taking < 2 ^ 32) (places : List ℕ) (told : places ≡ places_of taking) (many : ℕ) (all : many ≡ size taking) where
    pub in_place : Spreadable a (length d) to taking (take many places) (length old)
    in_place =
        spreadable a (length d) to taking (take many places) (length old) ok.valid ok.change_length ok.to_within ok.to_size
        (placed-length taking word places told many all ∙ all)
        (placed-inside taking word places told many all a.b a.n (length old) inside (omega (arith, ok.codeword_length)))

    pub updated : (new : List ℕ) → Spread a d to taking (take many places) old new → Updated a old d to (takes to reached serials serial) new
    updated new s =
        let v = spread-exists a to ok.valid ok.to_within ok.to_size d in
        record {
          slack = v.0;
          vanishes = v.1;
          length_is = s.same ∙ ok.codeword_length;
          added = λ j p hj h hp.
              s.added v.0 v.1 j p hp
              ∙ ap (add (cell a.b old j p)) (arriving-placed taking word many all (λ i. block a d v.0 i p) j places told (among j hj ∙ h));
          kept = λ j p hj h hp.
              s.added v.0 v.1 j p hp
              ∙ ap (add (cell a.b old j p)) (arriving-outside taking word many all (λ i. block a d v.0 i p) j places told (among j hj ∙ h))
              ∙ add-zero-right _;
        }
