-- A set serves exactly if the pair of the q lowest nodes outside it gives the blocks of the others, since no other pair gives those of the q. Assumes nothing.
use mathlib.Core.Path.{◌≡◌, refl, sym, ap, ap₂, ◌∙◌}
use mathlib.Core.Bool.{Bool, true, false, not, ◌&&◌}
use mathlib.Core.List.{List}
use Prim.Native.Nat.{ℕ, suc, ◌*◌, ◌^◌, ◌≤◌, ◌<◌}
use native.Mathlib.Nat.{le_trans, mul-le-mul_right}
use native.Mathlib.Omega.{arith}
use borrow.Author.Tests.{not-true}
use lib.Bits.{bit_and}
use lib.ListN.{length}
use Rattle.base.specs.Seq.{cell}
use Rattle.base.proofs.Parts.{row_ends}
use Rattle.base.proofs.Questions.{both-known}
use Rattle.field.specs.Field.{Bytes}
use Rattle.params.specs.Nodes.{has, size, within, count}
use Rattle.params.specs.Params.{working}
use Rattle.std.specs.Prelude.{Option, Some, None}
use Rattle.params.specs.declared.Node.{Node}
use Rattle.params.specs.declared.Params.{Params}
use Rattle.params.proofs.Sets.{count-le, count-sub, range-yes, within-size, within_has, has-and}
use Rattle.params.proofs.Lowest.{Lowest, lowest-has, lowest-size, lowest-all}
use Rattle.params.proofs.Outside.{Outside, outside-has, outside-le, outside-node, outside-size}
use Rattle.gates.specs.Valid.{Valid}
use Rattle.code.specs.Code.{block, Gives}
use Rattle.code.proofs.Pairs.{Reads, pair-exists}
use Rattle.code.proofs.Serving.{serves_by}
use Rattle.placing.specs.Placed.{Puttable, ComparePost}
use Rattle.extension.specs.Blocks.{RecomputePost}
use Rattle.consistency.specs.Tested.{Testable, Tested}

-- rest: the nodes outside s; chosen: the q lowest of them; others: of the nodes outside chosen those of rest, or the lowest of these
module _ (a : Params) (s codeword room q most rest chosen out others : ℕ) (ok : Testable a s codeword room) (hq : q ≡ working a)
    (rest-word : rest < 2 ^ 32) (chosen-word : chosen < 2 ^ 32) (both_word : bit_and out rest < 2 ^ 32) (out-word : out < 2 ^ 32) (others-word : others < 2 ^ 32)
    (told-rest : Outside a.n s rest) (told_Chosen : Lowest q rest chosen) (told-out : Outside a.n chosen out)
    (told-others : Lowest most (bit_and out rest) others) where
  n_high : a.n ≤ 32
  n_high = ok.check.valid.shape.n_high

  rest-node : (j : ℕ) → has rest (suc j) ≡ true → (j < a.n) × (has s (suc j) ≡ false)
  rest-node = outside-node a.n s rest n_high told-rest

  chosen-node : (j : ℕ) → has chosen (suc j) ≡ true → (j < a.n) × (has s (suc j) ≡ false)
  chosen-node j e = rest-node j (lowest-has q rest chosen told_Chosen (suc j) e)

  chosen-le : (i : ℕ) → has chosen i ≡ true → i ≤ a.n
  chosen-le i e = outside-le a.n s rest n_high told-rest i (lowest-has q rest chosen told_Chosen i e)

  chosen-within : within a.n chosen ≡ true
  chosen-within = (within_has a.n chosen chosen-word).1 chosen-le

  chosen-size : size chosen ≡ working a
  chosen-size =
      lowest-size q rest chosen told_Chosen rest-word chosen-word
      ∙ omega (arith, outside-size a.n s rest n_high told-rest rest-word ok.inside, ok.few)

  both-has : (i : ℕ) → has (bit_and out rest) i ≡ true → (has out i ≡ true) × (has rest i ≡ true)
  both-has i e = both-known (has out i) (has rest i) (sym (has-and out rest i) ∙ e)

  others-has : (i : ℕ) → has others i ≡ true → (has out i ≡ true) × (has rest i ≡ true)
  others-has i e = both-has i (lowest-has most (bit_and out rest) others told-others i e)

  others-node : (j : ℕ) → has others (suc j) ≡ true → (j < a.n) × (has s (suc j) ≡ false)
  others-node j e = rest-node j (others-has (suc j) e).1

  both-within : within a.n (bit_and out rest) ≡ true
  both-within = (within_has a.n (bit_and out rest) both_word).1 (λ i e. outside-le a.n s rest n_high told-rest i (both-has i e).1)

  -- there is room for the others' blocks
  pub others-room : size others * a.b ≤ room
  others-room =
      let lower : size others ≤ size (bit_and out rest) =
      omega (arith, lowest-size most (bit_and out rest) others told-others both_word others-word) in
      let fewer : size (bit_and out rest) ≤ size out =
      omega (
        arith,
        within-size a.n (bit_and out rest) both-within,
        within-size a.n out ((within_has a.n out out-word).1 (outside-le a.n chosen out n_high told-out)),
        count-sub (has (bit_and out rest)) (has out) a.n (λ j hj e. (both-has (suc j) e).0),
      ) in
      le_trans (mul-le-mul_right a.b (omega (arith, lower, fewer, outside-size a.n chosen out n_high told-out out-word chosen-within, chosen-size)))
      ok.room

  -- where all are compared, each node of 1..n is in s, in chosen or in others
  all : a.n ≤ most → (j : ℕ) → j < a.n → has s (suc j) ≡ false → has chosen (suc j) ≡ false → has others (suc j) ≡ true
  all enough j hj e e' =
      told-others (suc j)
      ∙ sym (lowest-all (bit_and out rest) most both_word
      (omega (arith, within-size a.n (bit_and out rest) both-within, count-le (has (bit_and out rest)) a.n, enough)) (suc j))
      ∙ has-and out rest (suc j) ∙ ap₂ ◌&&◌ (outer chosen out told-out e') (outer s rest told-rest e)
    where
      outer : (t u : ℕ) → Outside a.n t u → has t (suc j) ≡ false → has u (suc j) ≡ true
      outer t u told e = outside-has a.n t u n_high told (suc j) ∙ ap₂ (λ (x y : Bool). x && not y) (range-yes a.n j hj) e

  module _ (word : List ℕ) (bytes : Bytes word) (before fresh : List ℕ) (long : length word ≡ codeword) (rooms : length before ≡ size others * a.b)
      (again : RecomputePost a chosen others word before fresh) where
    valid : Valid a
    valid = ok.check.valid

    full : Reads a (has chosen)
    full = sym (within-size a.n chosen chosen-within) ∙ chosen-size

    -- the pair of the chosen nodes' blocks
    abbrev one-pair : (x : List ℕ) × (v : List ℕ) × Gives a x v (has chosen) word
    one-pair = pair-exists a valid (has chosen) full word bytes

    found : (j p : ℕ) → has others (suc j) ≡ true → p < a.b → cell a.b fresh (count (has others) j) p ≡ block a one-pair.0 one-pair.1 (suc j) p
    found =
        again.written (record { full = chosen-size; inside = chosen-le; codeword_length = long ∙ ok.check.codeword_length; room = rooms }) one-pair.0
        one-pair.1 one-pair.2

    puts : Puttable a.b others (length word) (length fresh)
    puts =
        record {
          inside =
              (valid.b_low, λ j e. row_ends a.n j a.b (length word) (others-node j e).0 (omega (arith, long, ok.check.codeword_length)));
          room = again.same ∙ rooms;
        }

    agrees : ComparePost a.b others word fresh None → a.n ≤ most → (j p : ℕ) → j < a.n → has s (suc j) ≡ false → p < a.b → (b : Bool) → has chosen (suc j) ≡ b
        → block a one-pair.0 one-pair.1 (suc j) p ≡ cell a.b word j p
    agrees like enough j p hj e hp true c = one-pair.2.equal j p hj c hp
    agrees like enough j p hj e hp false c = let o = all enough j hj e c in sym (found j p o hp) ∙ like puts j o p hp

    pub tested : (node : Option Node) → ComparePost a.b others word fresh node → Tested a s most word node
    tested (Some node) (ok, other) =
        let inside = others-node other.j other.inside in
        λ v. other.unlike (λ p hp.
        found other.j p other.inside hp
        ∙ (serves_by a valid word (has chosen) full s (λ i h. ap not (chosen-node i h).1) one-pair.0 one-pair.1 one-pair.2 v).equal other.j p inside.0
        (ap not inside.1) hp)
    tested None like =
        λ enough.
        record {
          message = one-pair.0;
          slack = one-pair.1;
          gives =
              record {
                pair = one-pair.2.pair;
                equal = λ j p hj e hp. agrees like enough j p hj (not-true (has s (suc j)) e) hp (has chosen (suc j)) refl;
              };
        }
