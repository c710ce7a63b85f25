-- What calls add to a record does not depend on the pair that it was set up with (document 02, 2026-07). A change adds its differences. A rebuild writes a block of
-- the pair that it reads, and the sum of that pair and the set-up's is settled by what was added at the nodes read. So two records that went through the same calls
-- are equal at a node exactly where their set-ups are, and at as many nodes as the slack has parts exactly one slack makes them so. Assumes nothing.
use mathlib.Core.Path.{◌≡◌, refl, sym, ap, ap₂, ◌∙◌}
use mathlib.Core.Bool.{Bool, true, false, not, cond}
use mathlib.Core.List.{List}
use Prim.Native.Nat.{ℕ, suc, ◌<◌}
use native.Mathlib.Omega.{arith}
use borrow.Author.Tests.{not-true, not-false}
use Rattle.base.specs.Seq.{cell, blocks}
use Rattle.base.proofs.Seq.{cell-blocks}
use Rattle.field.specs.Field.{IsByte, add, plus}
use Rattle.field.proofs.Addition.{add-byte, add-zero-left, add_comm, add-eq-zero, add-last-two, add_right_cancel}
use Rattle.field.proofs.Bytes.{bytes-blocks}
use Rattle.params.specs.Nodes.{has, size, within, count, lowest}
use Rattle.params.specs.Params.{slack_parts, working}
use Rattle.params.specs.declared.Params.{Params}
use Rattle.params.proofs.Sets.{count-not, meet}
use Rattle.params.proofs.Lowest.{count-lowest, lowest-passes, lowest-more, widened, count-widened, widened-has}
use Rattle.gates.specs.Valid.{Valid}
use Rattle.gates.proofs.Valid.{working-le}
use Rattle.code.specs.Code.{Parts, block, Pair, Gives, used}
use Rattle.code.specs.Slacks.{Slack}
use Rattle.code.specs.Calls.{Encoded, Updated, Repaired}
use Rattle.code.proofs.Pairs.{Leaves, slack-exists, slack-unique, spread-unique, Reads, pair-exists, pair-blocks}
use Rattle.code.proofs.Additivity.{block-byte, pair-plus, block-add}

-- adding 1 alters every byte
altered : (a : ℕ) → a ≡ add a 1 → ⊥
altered a e = omega (arith, add_right_cancel 0 1 a (add-zero-left a ∙ e ∙ add_comm a 1))

module _ (a : Params) (x v x' v' : List ℕ) where
  -- What two records have more than the blocks of (x, v), and of (x', v'), is the same at every node.
  abbrev pub SameAdded : List ℕ → List ℕ → Type 0
  SameAdded c c' =
      (j p : ℕ) → j < a.n → p < a.b → add (cell a.b c j p) (block a x v (suc j) p) ≡ add (cell a.b c' j p) (block a x' v' (suc j) p)

  -- after the set-ups, nothing
  pub encode_same : (c c' : List ℕ) → Encoded a x v c → Encoded a x' v' c' → SameAdded c c'
  encode_same c c' e e' j p hj hp = nothing (e.holds j p hj hp) ∙ sym (nothing (e'.holds j p hj hp))
    where
      nothing : {y z : ℕ} → y ≡ z → add y z ≡ 0
      nothing {y} {z} = add-eq-zero y z

  -- one send of a change on both sides, taken by the same nodes
  pub update_same : Valid a → (d : List ℕ) (to : ℕ) → within a.n to ≡ true → size to ≡ a.w → (taking : ℕ → Bool) (c c' new new' : List ℕ)
      → SameAdded c c' → Updated a c d to taking new → Updated a c' d to taking new' → SameAdded new new'
  update_same ok d to hw hs taking c c' new new' h u u' j p hj hp = go (taking (suc j)) refl
    where
      same : u.slack ≡ u'.slack
      same = spread-unique a to ok hw hs d u.slack u'.slack u.vanishes u'.vanishes

      go : (t : Bool) → taking (suc j) ≡ t → add (cell a.b new j p) (block a x v (suc j) p) ≡ add (cell a.b new' j p) (block a x' v' (suc j) p)
      go true e =
          ap (λ (y : ℕ). add y (block a x v (suc j) p)) (u.added j p hj e hp)
          ∙ add-last-two _ _ _
          ∙ ap₂ add (h j p hj hp) (ap (λ (s : List ℕ). block a d s (suc j) p) same)
          ∙ add-last-two _ _ _
          ∙ ap (λ (y : ℕ). add y (block a x' v' (suc j) p)) (sym (u'.added j p hj e hp))
      go false e =
          ap (λ (y : ℕ). add y (block a x v (suc j) p)) (u.kept j p hj e hp) ∙ h j p hj hp
          ∙ ap (λ (y : ℕ). add y (block a x' v' (suc j) p)) (sym (u'.kept j p hj e hp))

  -- One rebuild on both sides, whatever the records hold: the sums of the pair read and the pair of the set-up agree at the nodes read, and so everywhere.
  pub repair-same : Valid a → Pair a x v → Pair a x' v' → (from lost : ℕ) → Reads a (used a from) → (c c' new new' : List ℕ)
      → SameAdded c c' → Repaired a c from lost new → Repaired a c' from lost new' → SameAdded new new'
  repair-same ok pair pair' from lost full c c' new new' h r r' j p hj hp = go (has lost (suc j)) refl
    where
      -- the first record and its set-up's blocks added up: what the calls have added
      sums : List ℕ
      sums = blocks a.b a.n (λ j p. add (cell a.b c j p) (block a x v (suc j) p))

      sum-at : (j p : ℕ) → j < a.n → p < a.b → cell a.b sums j p ≡ add (cell a.b c j p) (block a x v (suc j) p)
      sum-at = cell-blocks a.b a.n (λ j p. add (cell a.b c j p) (block a x v (suc j) p))

      everywhere : add (block a r.message r.slack (suc j) p) (block a x v (suc j) p)
          ≡ add (block a r'.message r'.slack (suc j) p) (block a x' v' (suc j) p)
      everywhere =
          sym (block-add a r.message x r.slack v r.gives.pair (suc j) p hp)
          ∙ pair-blocks a ok (used a from) full (plus r.message x) (plus r'.message x') (plus r.slack v) (plus r'.slack v') sums
          (record {
            pair = pair-plus a r.message x r.slack v r.gives.pair pair;
            equal = λ j p hj s hp.
                block-add a r.message x r.slack v r.gives.pair (suc j) p hp
                ∙ ap (λ (y : ℕ). add y (block a x v (suc j) p)) (r.gives.equal j p hj s hp)
                ∙ sym (sum-at j p hj hp);
          })
          (record {
            pair = pair-plus a r'.message x' r'.slack v' r'.gives.pair pair';
            equal = λ j p hj s hp.
                block-add a r'.message x' r'.slack v' r'.gives.pair (suc j) p hp
                ∙ ap (λ (y : ℕ). add y (block a x' v' (suc j) p)) (r'.gives.equal j p hj s hp)
                ∙ sym (h j p hj hp) ∙ sym (sum-at j p hj hp);
          })
          (suc j) p
          ∙ block-add a r'.message x' r'.slack v' r'.gives.pair (suc j) p hp

      go : (t : Bool) → has lost (suc j) ≡ t → add (cell a.b new j p) (block a x v (suc j) p) ≡ add (cell a.b new' j p) (block a x' v' (suc j) p)
      go true e =
          ap (λ (y : ℕ). add y (block a x v (suc j) p)) (r.rebuilt j p hj e hp) ∙ everywhere
          ∙ ap (λ (y : ℕ). add y (block a x' v' (suc j) p)) (sym (r'.rebuilt j p hj e hp))
      go false e =
          ap (λ (y : ℕ). add y (block a x v (suc j) p)) (r.kept j p hj e hp) ∙ h j p hj hp
          ∙ ap (λ (y : ℕ). add y (block a x' v' (suc j) p)) (sym (r'.kept j p hj e hp))

  -- So a node holds the same in both records exactly where its blocks of the two pairs are the same.
  module _ (c c' : List ℕ) (h : SameAdded c c') (j p : ℕ) (hj : j < a.n) (hp : p < a.b) where
    pub same-cells : block a x v (suc j) p ≡ block a x' v' (suc j) p → cell a.b c j p ≡ cell a.b c' j p
    same-cells e = add_right_cancel _ _ (block a x v (suc j) p) (h j p hj hp ∙ ap (add (cell a.b c' j p)) (sym e))

    pub same_blocks : cell a.b c j p ≡ cell a.b c' j p → block a x v (suc j) p ≡ block a x' v' (suc j) p
    same_blocks e =
        add_right_cancel _ _ (cell a.b c j p)
        (add_comm _ _ ∙ h j p hj hp ∙ ap (λ (y : ℕ). add y (block a x' v' (suc j) p)) (sym e) ∙ add_comm _ _)

-- ---- the slacks for which the blocks at some nodes are those of (x, v)

-- the pair's blocks are those of (x, v) at the nodes that pass the test
abbrev pub SameBlocks : Params → (ℕ → Bool) → (x v x' v' : List ℕ) → Type 0
SameBlocks a f x v x' v' = (j p : ℕ) → j < a.n → f (suc j) ≡ true → p < a.b → block a x v (suc j) p ≡ block a x' v' (suc j) p

-- as many nodes as the slack has parts: one slack, ..
module _ (a : Params) (ok : Valid a) (f : ℕ → Bool) (many : count f a.n ≡ slack_parts a) (x v x' : List ℕ) where
  leaves : Leaves a (λ i. not (f i))
  leaves = omega (arith, count-not f a.n, count-not (λ i. not (f i)) a.n, many)

  pub same-exists : (v' : List ℕ) × Parts a.b (slack_parts a) v' × SameBlocks a f x v x' v'
  same-exists =
      let s = slack-exists a ok (λ i. not (f i)) leaves x' (block a x v) (block-byte a x v) in
      (s.0, s.1.parts, λ j p hj e hp. sym (s.1.equal j p hj (ap not e) hp))

  -- .. and no other
  pub same-unique : (v' v'' : List ℕ) → Parts a.b (slack_parts a) v' → Parts a.b (slack_parts a) v'' → SameBlocks a f x v x' v' → SameBlocks a f x v x' v''
      → v' ≡ v''
  same-unique v' v'' hv hv' h h' = slack-unique a ok (λ i. not (f i)) leaves x' (block a x v) v' v'' (told v' hv h) (told v'' hv' h')
    where
      told : (v' : List ℕ) → Parts a.b (slack_parts a) v' → SameBlocks a f x v x' v' → Slack a x' (λ i. not (f i)) (block a x v) v'
      told v' hv h = record { parts = hv; equal = λ j p hj e hp. sym (h j p hj (not-false (f (suc j)) e) hp) }

-- More nodes than the slack has parts: some message has no slack. It is that of a pair whose blocks are those of (x, v) at as many of the nodes as the slack has
-- parts, which settle the slack, and others at one more.
module _ (a : Params) (ok : Valid a) (f : ℕ → Bool) (many : slack_parts a < count f a.n) (x v : List ℕ) where
  -- as many of the nodes as the slack has parts, and one more
  few : ℕ → Bool
  few = lowest (slack_parts a) f

  wider : ℕ → Bool
  wider = lowest (suc (slack_parts a)) f

  few-count : count few a.n ≡ slack_parts a
  unfolding few
  few-count = omega (arith, count-lowest (slack_parts a) f a.n)

  wider-count : count wider a.n ≡ suc (slack_parts a)
  unfolding wider
  wider-count = omega (arith, count-lowest (suc (slack_parts a)) f a.n)

  -- the blocks of the pair
  wanted : ℕ → ℕ → ℕ
  wanted j p = cond (few (suc j)) (block a x v (suc j) p) (add (block a x v (suc j) p) 1)

  wanted-byte : (j p : ℕ) → IsByte (wanted j p)
  unfolding wanted
  wanted-byte j p = go (few (suc j))
    where
      go : (b : Bool) → IsByte (cond b (block a x v (suc j) p) (add (block a x v (suc j) p) 1))
      go true = block-byte a x v (suc j) p
      go false = add-byte _ _ (block-byte a x v (suc j) p) (omega arith)

  pub some-apart : (x' : List ℕ) × Parts a.b a.k x' × ((v' : List ℕ) → Parts a.b (slack_parts a) v' → SameBlocks a f x v x' v' → ⊥)
  unfolding working few wider wanted
  some-apart = (g.0, g.2.pair.message, apart)
    where
      S : ℕ → Bool
      S = widened a.n (working a) wider

      word : List ℕ
      word = blocks a.b a.n wanted

      g : (x' : List ℕ) × (v' : List ℕ) × Gives a x' v' S word
      g =
          pair-exists a ok S
          (count-widened a.n (working a) wider (omega (arith, wider-count, ok.shape.k_low)) (working-le a ok)) word (bytes-blocks a.b a.n wanted wanted-byte)

      at : (j p : ℕ) → j < a.n → wider (suc j) ≡ true → p < a.b → block a g.0 g.1 (suc j) p ≡ wanted j p
      at j p hj e hp =
          g.2.equal j p hj (widened-has a.n (working a) wider (suc j) e) hp ∙ cell-blocks a.b a.n wanted j p hj hp

      apart : (v' : List ℕ) → Parts a.b (slack_parts a) v' → SameBlocks a f x v g.0 v' → ⊥
      apart v' hv same =
          let m = meet wider (λ i. not (few i)) a.n (omega (arith, wider-count, count-not few a.n, few-count)) in
          let slack =
          same-unique a ok few few-count x v g.0 v' g.1 hv g.2.pair.slack
          (λ j p hj e hp. same j p hj (lowest-passes (slack_parts a) f (suc j) e) hp)
          (λ j p hj e hp.
          sym (at j p hj (lowest-more (slack_parts a) (suc (slack_parts a)) f (suc j) (omega arith) e) hp
          ∙ ap (λ (b : Bool). cond b (block a x v (suc j) p) (add (block a x v (suc j) p) 1)) e)) in
          altered (block a x v (suc m.0) 0)
          (same m.0 0 m.1 (lowest-passes (suc (slack_parts a)) f (suc m.0) m.2) ok.b_low
          ∙ ap (λ (v : List ℕ). block a g.0 v (suc m.0) 0) slack ∙ at m.0 0 m.1 m.2 ok.b_low
          ∙ ap (λ (b : Bool). cond b (block a x v (suc m.0) 0) (add (block a x v (suc m.0) 0) 1)) (not-true (few (suc m.0)) m.3))
