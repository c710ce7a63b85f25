-- One record and what is known of it: with some slack the ledger is a pair that gives the block of every undamaged node. Each call keeps this of the record that
-- it leaves, by what its post-condition says of the blocks. Assumes nothing.
use mathlib.Core.Path.{◌≡◌, refl, sym, ap₂, ◌∙◌}
use mathlib.Core.Bool.{Bool, true, false, not, ◌&&◌, ◌||◌, true≢false, cond}
use mathlib.Core.List.{List}
use Prim.Native.Nat.{ℕ, suc, ◌<◌}
use lib.Dec.{leb, ltb}
use borrow.Author.Tests.{ltb-false, le-leb}
use Rattle.base.specs.Seq.{cell}
use Rattle.base.proofs.Seq.{cell-blocks}
use Rattle.field.specs.Field.{add, plus}
use Rattle.field.proofs.Addition.{add-zero-right}
use Rattle.params.specs.Nodes.{has}
use Rattle.params.specs.Params.{reshaped}
use Rattle.gates.specs.Valid.{Valid}
use Rattle.params.specs.declared.Params.{Params}
use Rattle.params.specs.declared.Shape.{Shape}
use Rattle.code.specs.Code.{Parts, block, Pair, Gives, used}
use Rattle.code.specs.Calls.{Encoded, Updated, Repaired, Reconfigured}
use Rattle.code.proofs.Pairs.{Reads, pair-blocks, gives-used}
use Rattle.code.proofs.Additivity.{pair-plus, block-add}
use Rattle.ledger.specs.Ledger.{damaged_word}

-- There is a slack with which the ledger gives the block of each undamaged node.
pub record Sound (a : Params) (codeword ledger : List ℕ) (damaged : ℕ → Bool) : Type 0 where
  pub slack : List ℕ
  pub pair : Pair a ledger slack
  pub holds : (j p : ℕ) → j < a.n → damaged (suc j) ≡ false → p < a.b → cell a.b codeword j p ≡ block a ledger slack (suc j) p

-- What is known of a record is told by its blocks.
pub sound-cells : (a : Params) (ledger : List ℕ) (damaged : ℕ → Bool) (codeword codeword' : List ℕ)
    → ((j p : ℕ) → j < a.n → p < a.b → cell a.b codeword' j p ≡ cell a.b codeword j p) → Sound a codeword ledger damaged
    → Sound a codeword' ledger damaged
sound-cells a ledger damaged codeword codeword' same s =
    record { slack = s.slack; pair = s.pair; holds = λ j p hj d hp. same j p hj hp ∙ s.holds j p hj d hp }

-- Damage keeps the blocks of the nodes outside its set.
pub damaged-other : (a : Params) (codeword bytes : List ℕ) (nodes j p : ℕ) → j < a.n → p < a.b → has nodes (suc j) ≡ false
    → cell a.b (damaged_word a codeword nodes bytes) j p ≡ cell a.b codeword j p
unfolding damaged_word
damaged-other a codeword bytes nodes j p hj hp e = cell-blocks a.b a.n _ j p hj hp ∙ other (has nodes (suc j)) _ _ e
  where
    other : (t : Bool) (x y : ℕ) → t ≡ false → cond t x y ≡ y
    other true x y e = absurd (true≢false e)
    other false x y e = refl

-- After a set-up every block is the pair's.
pub encode-sound : (a : Params) (x v codeword : List ℕ) → Pair a x v → Encoded a x v codeword → Sound a codeword x (λ i. false)
encode-sound a x v codeword pair e = record { slack = v; pair = pair; holds = λ j p hj d hp. e.holds j p hj hp }

module _ (a : Params) (codeword ledger : List ℕ) (damaged : ℕ → Bool) (i : Sound a codeword ledger damaged) where
  -- A set of undamaged nodes holds the pair's blocks.
  pub undamaged-gives : (from : ℕ) → ((j : ℕ) → has from j ≡ true → damaged j ≡ false) → Gives a ledger i.slack (has from) codeword
  undamaged-gives from u = record { pair = i.pair; equal = λ j p hj s hp. sym (i.holds j p hj (u (suc j) s) hp) }

  -- A sum of pairs is a pair of sums; outside W the change is 00.
  pub update-sound : (d : List ℕ) (to : ℕ) (new : List ℕ) → Parts a.b a.k d → Updated a codeword d to (has to) new
      → Sound a new (plus ledger d) damaged
  update-sound d to new message u =
      record {
        slack = plus i.slack u.slack;
        pair = pair-plus a ledger d i.slack u.slack i.pair (record { message = message; slack = u.vanishes.slack });
        holds = λ j p hj e hp. go j p hj e hp (has to (suc j)) refl ∙ sym (block-add a ledger d i.slack u.slack i.pair (suc j) p hp);
      }
    where
      go : (j p : ℕ) → j < a.n → damaged (suc j) ≡ false → p < a.b → (b : Bool) → has to (suc j) ≡ b
          → cell a.b new j p ≡ add (block a ledger i.slack (suc j) p) (block a d u.slack (suc j) p)
      go j p hj e hp true s = u.added j p hj s hp ∙ ap₂ add (i.holds j p hj e hp) refl
      go j p hj e hp false s =
          u.kept j p hj s hp ∙ sym (add-zero-right (cell a.b codeword j p))
          ∙ ap₂ add (i.holds j p hj e hp) (sym (u.vanishes.zero j p hj s hp))

  pub damage-sound : (nodes : ℕ) (bytes : List ℕ) → Sound a (damaged_word a codeword nodes bytes) ledger (λ j. damaged j || has nodes j)
  damage-sound nodes bytes =
      record {
        slack = i.slack;
        pair = i.pair;
        holds = λ j p hj e hp. go j p hj hp (damaged (suc j)) refl (has nodes (suc j)) refl e;
      }
    where
      go : (j p : ℕ) → j < a.n → p < a.b → (b : Bool) → damaged (suc j) ≡ b → (c : Bool) → has nodes (suc j) ≡ c → (b || c) ≡ false
          → cell a.b (damaged_word a codeword nodes bytes) j p ≡ block a ledger i.slack (suc j) p
      go j p hj hp true db c sc e = absurd (true≢false e)
      go j p hj hp false db true sc e = absurd (true≢false e)
      go j p hj hp false db false sc e = damaged-other a codeword bytes nodes j p hj hp sc ∙ i.holds j p hj db hp

  module _ (valid : Valid a) (from : ℕ) (full : Reads a (used a from)) (u : (j : ℕ) → has from j ≡ true → damaged j ≡ false) where
    -- R's pair, R undamaged, is the ledger's.
    read_back : (x v : List ℕ) → Gives a x v (used a from) codeword → (j p : ℕ) → block a x v j p ≡ block a ledger i.slack j p
    read_back x v g = pair-blocks a valid (used a from) full x ledger v i.slack codeword g (gives-used a from (undamaged-gives from u))

    pub repair-sound : (lost : ℕ) (new : List ℕ) → Repaired a codeword from lost new → Sound a new ledger (λ j. damaged j && not (has lost j))
    repair-sound lost new r =
        record {
          slack = i.slack;
          pair = i.pair;
          holds = λ j p hj e hp. go j p hj hp (has lost (suc j)) refl (damaged (suc j)) refl e;
        }
      where
        go : (j p : ℕ) → j < a.n → p < a.b → (b : Bool) → has lost (suc j) ≡ b → (c : Bool) → damaged (suc j) ≡ c → (c && not b) ≡ false
            → cell a.b new j p ≡ block a ledger i.slack (suc j) p
        go j p hj hp true s c dc e = r.rebuilt j p hj s hp ∙ read_back r.message r.slack r.gives (suc j) p
        go j p hj hp false s true dc e = absurd (true≢false e)
        go j p hj hp false s false dc e = r.kept j p hj s hp ∙ i.holds j p hj dc hp

    -- A copied block, if undamaged, is that of R's pair, with which the new pair agrees there.
    pub reconfigure-sound : (t : Shape) (to : ℕ) (x new : List ℕ) → Reconfigured a t codeword from to x new
        → Sound (reshaped a t) new x (λ j. ((damaged j && not (has to j)) && leb j a.n) && leb j t.n)
    reconfigure-sound t to x new r =
        record {
          slack = r.slack;
          pair = r.pair;
          holds = λ j p hj e hp. go j p hj hp (has to (suc j)) refl (ltb a.n (suc j)) refl (damaged (suc j)) refl e;
        }
      where
        go : (j p : ℕ) → j < t.n → p < a.b → (b : Bool) → has to (suc j) ≡ b → (c : Bool) → ltb a.n (suc j) ≡ c
            → (d : Bool) → damaged (suc j) ≡ d → (((d && not b) && leb (suc j) a.n) && leb (suc j) t.n) ≡ false
            → cell a.b new j p ≡ block (reshaped a t) x r.slack (suc j) p
        go j p hj hp true s c above d dd e = r.written j p hj (ap₂ ◌||◌ s above) hp
        go j p hj hp false s true above d dd e = r.written j p hj (ap₂ ◌||◌ s above) hp
        go j p hj hp false s false above true dd e =
            absurd (true≢false (sym (ap₂ ◌&&◌ (le-leb (suc j) a.n (ltb-false a.n (suc j) above)) (le-leb (suc j) t.n hj)) ∙ e))
        go j p hj hp false s false above false dd e =
            r.copied j p hj (ap₂ ◌||◌ s above) hp ∙ i.holds j p (ltb-false a.n (suc j) above) dd hp
            ∙ sym (read_back r.old_message r.old_slack r.gives (suc j) p) ∙ sym (r.agrees j p hj s hp)
