-- Which sets serve: the q lowest nodes outside a set have one pair, and the set serves exactly if that pair gives all the others; the nodes behind the first q
-- always do. Two sets that leave q nodes between them are served by one pair. Assumes nothing.
use mathlib.Core.Path.{◌≡◌, refl, sym, ◌∙◌, subst}
use mathlib.Core.Logic.{◌⊎◌, inl, inr, ⊎_elim}
use mathlib.Core.Bool.{Bool, true, false, not, ◌&&◌, true≢false}
use mathlib.Core.List.{List}
use Prim.Native.Nat.{ℕ, zero, suc, ◌+◌, ◌-◌, ◌≤◌, ◌<◌}
use native.Mathlib.Omega.{arith}
use native.Mathlib.Decide.{ℕ_discrete}
use borrow.Author.Tests.{ltb-false, le-leb, not-true}
use lib.Dec.{leb, ltb}
use Rattle.base.specs.Seq.{cell, one}
use Rattle.base.proofs.Below.{all-below}
use Rattle.base.proofs.Questions.{both-known}
use Rattle.field.specs.Field.{Bytes}
use Rattle.params.specs.Nodes.{has, size, within, count, lowest}
use Rattle.params.specs.Params.{working}
use Rattle.params.specs.declared.Params.{Params}
use Rattle.params.proofs.Sets.{count-not, range-yes, within-size}
use Rattle.params.proofs.Lowest.{count-lowest, lowest-passes}
use Rattle.params.proofs.Behind.{Behind, behind-exists, behind-size}
use Rattle.gates.specs.Valid.{Valid}
use Rattle.gates.proofs.Valid.{working-le}
use Rattle.subsets.specs.Order.{Next}
use Rattle.subsets.proofs.Order.{not-before-size, before-first, next-split}
use Rattle.code.specs.Code.{block, Gives}
use Rattle.code.specs.Calls.{Serves, NoneBefore}
use Rattle.code.proofs.Pairs.{free, Reads, pair-exists, pair-unique, pair-blocks, gives-fewer, up_to, first_reads}

-- The pair gives node suc j's block.
abbrev pub Same : Params → List ℕ → List ℕ → List ℕ → ℕ → Type 0
Same a x v codeword j = (p : ℕ) → p < a.b → block a x v (suc j) p ≡ cell a.b codeword j p

-- It does or does not: its bytes are compared.
pub same_or : (a : Params) (x v codeword : List ℕ) (j : ℕ) → Same a x v codeword j ⊎ (Same a x v codeword j → ⊥)
same_or a x v codeword j =
    ⊎_elim inl (λ f. inr (λ h. f.2 (h f.0 f.1)))
    (all-below (λ p. block a x v (suc j) p ≡ cell a.b codeword j p) (λ p. ℕ_discrete _ _) a.b)

-- The q lowest nodes outside s.
abbrev pub lowest_outside : Params → ℕ → ℕ → Bool
lowest_outside a s = lowest (working a) (free (has s))

pub outside-reads : (a : Params) (s : ℕ) → within a.n s ≡ true → size s + working a ≤ a.n → Reads a (lowest_outside a s)
outside-reads a s w few = omega (arith, count-lowest (working a) (free (has s)) a.n, count-not (has s) a.n, within-size a.n s w)

pub outside-lowest : (a : Params) (s j : ℕ) → lowest_outside a s (suc j) ≡ true → free (has s) (suc j) ≡ true
outside-lowest a s j = lowest-passes (working a) (free (has s)) (suc j)

-- each node is outside both of two sets, or in one of them
count-both : (f g : ℕ → Bool) (n : ℕ) → n ≤ count (λ i. free f i && free g i) n + (count f n + count g n)
unfolding count
count-both f g zero = omega arith
count-both f g (suc n) = omega (arith, count-both f g n, node (f (suc n)) (g (suc n)))
  where
    node : (b c : Bool) → 1 ≤ one (not b && not c) + (one b + one c)
    node true c = omega arith
    node false true = omega arith
    node false false = omega arith

-- ---- going from set to set: none before the first serves, nor before the next of one that does not

module _ (a : Params) (codeword : List ℕ) where
  pub none_first : NoneBefore a codeword 0
  none_first t w h = absurd (before-first t h)

  pub none-next : (s t : ℕ) → Next a.n s t → NoneBefore a codeword s → (Serves a codeword s → ⊥) → NoneBefore a codeword t
  none-next s t next none not-this u w b h =
      ⊎_elim (λ k. none u w k h) (λ e. not-this (subst (Serves a codeword) e h)) (next-split a.n s t next u w b)

-- ---- one set

module _ (a : Params) (ok : Valid a) (codeword : List ℕ) where
  -- If s serves, it does by whichever pair gives q nodes outside it.
  pub serves_by : (S : ℕ → Bool) → Reads a S → (s : ℕ) → ((j : ℕ) → S (suc j) ≡ true → free (has s) (suc j) ≡ true) → (x v : List ℕ) → Gives a x v S codeword
      → Serves a codeword s → Gives a x v (free (has s)) codeword
  serves_by S full s outside x v g t =
      record {
        pair = g.pair;
        equal = λ j p hj e hp.
            pair-blocks a ok S full x t.message v t.slack codeword g (gives-fewer outside t.gives) (suc j) p ∙ t.gives.equal j p hj e hp;
      }

  module _ (s : ℕ) (w : within a.n s ≡ true) (few : size s + working a ≤ a.n) where
    pub serves-dec : Bytes codeword → Dec (Serves a codeword s)
    serves-dec bytes =
        let e = pair-exists a ok (lowest_outside a s) (outside-reads a s w few) codeword bytes in
        ⊎_elim
        (λ all. yes (record { message = e.0; slack = e.1; gives = record { pair = e.2.pair; equal = λ j p hj out hp. all j hj out p hp } }))
        (λ f. no (λ t. f.2 (λ out p hp. (serves_by (lowest_outside a s) (outside-reads a s w few) s (outside-lowest a s) e.0 e.1 e.2 t).equal f.0 p f.1 out hp)))
        (all-below (λ j. free (has s) (suc j) ≡ true → Same a e.0 e.1 codeword j) (λ j. asked e.0 e.1 j (free (has s) (suc j))) a.n)
      where
        asked : (x v : List ℕ) (j : ℕ) (b : Bool) → Dec (b ≡ true → Same a x v codeword j)
        asked x v j false = yes (λ e. absurd (true≢false (sym e)))
        asked x v j true = ⊎_elim (λ h. yes (λ _. h)) (λ h. no (λ k. h (k refl))) (same_or a x v codeword j)

  -- The nodes behind the first q serve: these have a pair. ..
  pub behind-serves : Bytes codeword → (s : ℕ) → Behind (working a) a.n s → Serves a codeword s
  behind-serves bytes s h =
      let e = pair-exists a ok (up_to (working a)) (first_reads a ok) codeword bytes in
      record {
        message = e.0;
        slack = e.1;
        gives = record { pair = e.2.pair; equal = λ j p hj out hp. e.2.equal j p hj (range-yes (working a) j (first j hj out)) hp };
      }
    where
      first : (j : ℕ) → j < a.n → free (has s) (suc j) ≡ true → j < working a
      first j hj out =
          let no_node : (ltb (working a) (suc j) && leb (suc j) a.n) ≡ false = sym (h (suc j)) ∙ not-true (has s (suc j)) out in
          ltb-false (working a) (suc j) (left (ltb (working a) (suc j)) (leb (suc j) a.n) (le-leb (suc j) a.n hj) no_node)
        where
          left : (b c : Bool) → c ≡ true → (b && c) ≡ false → b ≡ false
          left true c e n = absurd (true≢false (sym e ∙ n))
          left false c e n = refl

  -- .. So a set before which none serves is no larger.
  pub stopped-size : Bytes codeword → (s : ℕ) → NoneBefore a codeword s → size s ≤ a.n - working a
  stopped-size bytes s none =
      let g = behind-exists (working a) a.n (working-le a ok) in
      omega (
        arith,
        not-before-size s g.0 (λ b. none g.0 g.1 b (behind-serves bytes g.0 g.2)),
        behind-size (working a) a.n (working-le a ok) g.0 g.2,
      )

  -- the pair outside s and the pair outside t are one, if s and t leave q nodes
  pub one-pair : (s t : ℕ) → within a.n s ≡ true → within a.n t ≡ true → size s + size t + working a ≤ a.n → (x x' v v' : List ℕ)
      → Gives a x v (free (has s)) codeword → Gives a x' v' (free (has t)) codeword → (x ≡ x') × (v ≡ v')
  one-pair s t hs ht few x x' v v' g g' =
      pair-unique a ok (lowest (working a) neither)
      (omega (
        arith,
        count-lowest (working a) neither a.n,
        count-both (has s) (has t) a.n,
        within-size a.n s hs,
        within-size a.n t ht,
      )) x x' v v' codeword (gives-fewer (λ j e. (in_both j e).0) g) (gives-fewer (λ j e. (in_both j e).1) g')
    where
      neither : ℕ → Bool
      neither i = free (has s) i && free (has t) i

      in_both : (j : ℕ) → lowest (working a) neither (suc j) ≡ true → (free (has s) (suc j) ≡ true) × (free (has t) (suc j) ≡ true)
      in_both j e = both-known (free (has s) (suc j)) (free (has t) (suc j)) (lowest-passes (working a) neither (suc j) e)
