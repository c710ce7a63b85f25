-- The completion theorem at the nodes of a test: as many nodes as the working number determine exactly one pair, and as many as the slack has parts
-- exactly one slack beside a given message. Assumes nothing.
use mathlib.Core.Path.{◌≡◌, sym, ap, ap₂, ◌∙◌}
use mathlib.Core.Bool.{Bool, true, not, ◌&&◌}
use mathlib.Core.List.{List}
use Prim.Native.Nat.{ℕ, suc, ◌+◌, ◌-◌, ◌*◌}
use native.Mathlib.Omega.{arith}
use lib.Dec.{leb}
use lib.ListN.{length, get_or}
use borrow.Author.Tests.{not-true}
use Rattle.base.specs.Seq.{cell}
use Rattle.base.proofs.Seq.{cells_ext}
use Rattle.field.specs.Field.{IsByte, Bytes}
use Rattle.field.proofs.Bytes.{cell-byte}
use Rattle.interpolation.specs.Polynomial.{evaluate, Points, Completes}
use Rattle.interpolation.proofs.Completion.{completion-exists, completion-unique}
use Rattle.interpolation.proofs.Parts.{parts-exist, parts-unique}
use Rattle.params.specs.Nodes.{has, size, within, count, nodes}
use Rattle.params.specs.Params.{slack_parts, working}
use Rattle.gates.specs.Valid.{Valid}
use Rattle.params.specs.declared.Params.{Params}
use Rattle.params.proofs.Sets.{count-not, count-range, within-size}
use Rattle.params.proofs.Lowest.{count-lowest, lowest-passes}
use Rattle.gates.proofs.Valid.{working-le-r, working-le, slack-add}
use Rattle.code.specs.Code.{point, block, Gives, used}
use Rattle.code.specs.Slacks.{Slack}
use Rattle.code.specs.Calls.{Vanishes}
use Rattle.code.proofs.PointRule.{points_at, length-points_at, at-nodes, at-entries, points_at-points}

-- the polynomial of byte place p, with m parts of v counted
abbrev at : Params → List ℕ → List ℕ → ℕ → ℕ → ℕ → ℕ
at a x v p m c = evaluate a.k m (λ j. cell a.b x j p) (λ j. cell a.b v j p) c

valid-points : (a : Params) (S : ℕ → Bool) → Valid a → Points (points_at S a.n)
valid-points a S ok = points_at-points S a.n ok.shape.n_high

-- ---- a slack beside a given message

-- the nodes outside W
abbrev pub free : (ℕ → Bool) → ℕ → Bool
free W i = not (W i)

-- there are as many of them as the slack has parts
abbrev pub Leaves : Params → (ℕ → Bool) → Type 0
Leaves a W = count (free W) a.n ≡ slack_parts a

module _ (a : Params) (ok : Valid a) (W : ℕ → Bool) (full : Leaves a W) (x : List ℕ) (wanted : ℕ → ℕ → ℕ) where
  many : length (points_at (free W) a.n) ≡ slack_parts a
  many = length-points_at (free W) a.n ∙ full

  -- the slack completes the message at these points
  completes : (v : List ℕ) → Slack a x W wanted v → Completes a.b a.k x (points_at (free W) a.n) (λ i. wanted (get_or (nodes (free W) a.n) i 0)) v
  unfolding block
  completes v s =
      record {
        count = s.parts.length_is ∙ ap (λ (m : ℕ). m * a.b) (sym many);
        bytes = s.parts.bytes;
        takes = λ i p hi hp.
            at-entries (free W) a.n (λ i c. at a x v p (length (points_at (free W) a.n)) c ≡ wanted i p)
            (λ j hj e. ap (λ (m : ℕ). at a x v p m (point (suc j))) many ∙ s.equal j p hj (not-true (W (suc j)) e) hp) i hi;
      }

  pub slack-exists : ((i p : ℕ) → IsByte (wanted i p)) → (v : List ℕ) × Slack a x W wanted v
  unfolding block
  slack-exists hw =
      let g =
      completion-exists a.b a.k x (points_at (free W) a.n) (λ i. wanted (get_or (nodes (free W) a.n) i 0)) (valid-points a (free W) ok)
      (λ i p hi hp. hw _ p) in (
        g.0,
        record {
          parts = record { length_is = g.1.count ∙ ap (λ (m : ℕ). m * a.b) many; bytes = g.1.bytes };
          equal = λ j p hj e hp.
              ap (λ (m : ℕ). at a x g.0 p m (point (suc j))) (sym many)
              ∙ at-nodes (free W) a.n (λ i c. at a x g.0 p (length (points_at (free W) a.n)) c ≡ wanted i p) (λ i hi. g.1.takes i p hi hp) j hj
              (ap not e);
        },
      )

  pub slack-unique : (v v' : List ℕ) → Slack a x W wanted v → Slack a x W wanted v' → v ≡ v'
  slack-unique v v' s s' =
      completion-unique a.b a.k x (points_at (free W) a.n) _ v v' (valid-points a (free W) ok) ok.b_low (completes v s) (completes v' s')

-- W of w nodes leaves that many
pub written-leaves : (a : Params) (to : ℕ) → Valid a → within a.n to ≡ true → size to ≡ a.w → Leaves a (has to)
written-leaves a to ok hw hs = omega (arith, count-not (has to) a.n, within-size a.n to hw, slack-add a ok)

-- A change d has exactly one slack with which it leaves the nodes outside W alone.
module _ (a : Params) (to : ℕ) (ok : Valid a) (hw : within a.n to ≡ true) (hs : size to ≡ a.w) (d : List ℕ) where
  pub spread-exists : (v : List ℕ) × Vanishes a d to v
  spread-exists =
      let g = slack-exists a ok (has to) (written-leaves a to ok hw hs) d (λ i p. 0) (λ i p. omega arith) in
      (g.0, record { slack = g.1.parts; zero = g.1.equal })

  pub spread-unique : (v v' : List ℕ) → Vanishes a d to v → Vanishes a d to v' → v ≡ v'
  spread-unique v v' s s' = slack-unique a ok (has to) (written-leaves a to ok hw hs) d (λ i p. 0) v v' (told v s) (told v' s')
    where
      told : (v : List ℕ) → Vanishes a d to v → Slack a d (has to) (λ i p. 0) v
      told v s = record { parts = s.slack; equal = s.zero }

-- ---- the pair of given blocks

-- as many nodes as message and slack have parts
abbrev pub Reads : Params → (ℕ → Bool) → Type 0
Reads a S = count S a.n ≡ working a

module _ (a : Params) (ok : Valid a) (S : ℕ → Bool) (full : Reads a S) where
  whole : a.k + slack_parts a ≡ length (points_at S a.n)
  unfolding working
  whole = sym (length-points_at S a.n ∙ full)

  pub pair-exists : (codeword : List ℕ) → Bytes codeword → (x : List ℕ) × (v : List ℕ) × Gives a x v S codeword
  unfolding block
  pair-exists codeword bytes =
      let g =
      parts-exist a.b a.k (slack_parts a) (points_at S a.n) (λ i p. cell a.b codeword (get_or (nodes S a.n) i 0 - 1) p) (valid-points a S ok) whole
      (λ i p hi hp. cell-byte a.b codeword _ p bytes) in (
        g.0,
        g.1,
        record {
          pair = record {
            message = record { length_is = g.2.leading_count; bytes = g.2.leading_bytes };
            slack = record { length_is = g.2.count; bytes = g.2.bytes };
          };
          equal = λ j p hj e hp.
              at-nodes S a.n (λ i c. at a g.0 g.1 p (slack_parts a) c ≡ cell a.b codeword (i - 1) p) (λ i hi. g.2.takes i p hi hp) j hj e
              ∙ ap (λ (i : ℕ). cell a.b codeword i p) (sub-suc j);
        },
      )
    where
      sub-suc : (j : ℕ) → suc j - 1 ≡ j
      sub-suc j = omega arith

  pub pair-unique : (x x' v v' codeword : List ℕ) → Gives a x v S codeword → Gives a x' v' S codeword → (x ≡ x') × (v ≡ v')
  unfolding block
  pair-unique x x' v v' codeword g g' =
      let e =
      parts-unique a.b a.k (slack_parts a) (points_at S a.n) x x' v v' (valid-points a S ok) whole g.pair.message.bytes g'.pair.message.bytes
      g.pair.slack.bytes g'.pair.slack.bytes
      (λ i p hi hp.
      at-entries S a.n (λ i c. at a x v p (slack_parts a) c ≡ at a x' v' p (slack_parts a) c)
      (λ j hj s. g.equal j p hj s hp ∙ sym (g'.equal j p hj s hp)) i hi) in (
        cells_ext a.b a.k x x' ok.b_low g.pair.message.length_is g'.pair.message.length_is (λ j p hj hp. (e p hp).0 j hj),
        cells_ext a.b (slack_parts a) v v' ok.b_low g.pair.slack.length_is g'.pair.slack.length_is (λ j p hj hp. (e p hp).1 j hj),
      )

  -- pairs that agree at these nodes agree at all
  pub pair-blocks : (x x' v v' codeword : List ℕ) → Gives a x v S codeword → Gives a x' v' S codeword → (i p : ℕ)
      → block a x v i p ≡ block a x' v' i p
  pair-blocks x x' v v' codeword g g' i p =
      let e = pair-unique x x' v v' codeword g g' in ap₂ (λ (x v : List ℕ). block a x v i p) e.0 e.1

-- a pair that gives the blocks of some nodes gives those of fewer: ..
pub gives-fewer : {a : Params} {S T : ℕ → Bool} {x v codeword : List ℕ} → ((j : ℕ) → T (suc j) ≡ true → S (suc j) ≡ true)
    → Gives a x v S codeword → Gives a x v T codeword
gives-fewer h g = record { pair = g.pair; equal = λ j p hj s hp. g.equal j p hj (h j s) hp }

-- .. of all nodes of R, of those used
pub gives-used : (a : Params) (from : ℕ) {x v codeword : List ℕ} → Gives a x v (has from) codeword → Gives a x v (used a from) codeword
gives-used a from = gives-fewer (λ j. lowest-passes (working a) (has from) (suc j))

-- The nodes used are that many: R has r, and q is never above r.
pub from-reads : (a : Params) (from : ℕ) → Valid a → within a.n from ≡ true → size from ≡ a.r → Reads a (used a from)
from-reads a from ok hw hs = omega (arith, count-lowest (working a) (has from) a.n, within-size a.n from hw, hs, working-le-r a ok)

-- the nodes 1..q
abbrev pub up_to : ℕ → ℕ → Bool
up_to q i = leb 1 i && leb i q

-- they are that many too
pub first_reads : (a : Params) → Valid a → Reads a (up_to (working a))
first_reads a ok = count-range (working a) a.n (working-le a ok)
