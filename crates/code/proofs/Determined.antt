-- Each call's post-condition is met by exactly one answer and one content of its buffers: the answer is the gate's, each byte of a served buffer is told
-- through the one pair or the one slack (Pairs.antt), and each serial by who takes which. Assumes nothing.
use mathlib.Core.Path.{◌≡◌, refl, sym, ap, ◌∙◌, subst}
use mathlib.Core.Logic.{⊎_elim}
use mathlib.Core.Bool.{Bool, true, false, cond}
use mathlib.Core.List.{List, []}
use Prim.Native.Nat.{ℕ, suc, ◌*◌, ◌<◌}
use native.Mathlib.Omega.{arith}
use lib.ListN.{length, get_or, replicate}
use Rattle.base.specs.Seq.{cell, blocks}
use Rattle.base.proofs.Cases.{eq-or}
use Rattle.base.proofs.Seq.{cell-blocks, length-blocks, cells_ext}
use Rattle.field.specs.Field.{Bytes, add}
use Rattle.params.specs.Nodes.{has, size, within, count, nodes}
use Rattle.params.specs.Params.{reshaped}
use Rattle.gates.specs.Gates.{view_gate}
use Rattle.gates.specs.Valid.{Valid, DeltaAccepted}
use Rattle.params.specs.declared.Params.{Params}
use Rattle.params.specs.declared.Shape.{Shape}
use Rattle.params.proofs.Sets.{rank_lt, node-at-rank, entry, within-size}
use Rattle.gates.proofs.Valid.{encode-accepted, decode-accepted, delta-accepted, update-accepted, repair-accepted, reconfigure-accepted}
use Rattle.serials.specs.Serials.{takes, highest, Stamped}
use Rattle.serials.proofs.Laws.{stamped-exists, stamped-unique}
use Rattle.code.specs.Code.{block, used}
use Rattle.code.specs.Calls.{Post, Unwritten, Encoded, EncodePost, Decoded, DecodePost, Differences, DeltaPost, Updated, UpdatePost, Repaired, RepairPost, writes, Reconfigured, ReconfigurePost, ViewPost}
use Rattle.code.proofs.Pairs.{slack-exists, slack-unique, written-leaves, spread-exists, spread-unique, pair-exists, pair-unique, pair-blocks, from-reads}
use Rattle.code.proofs.Additivity.{block-byte}

-- Some answer and buffer meet the post-condition, ..
abbrev pub Met : (ℕ → List ℕ → Type 0) → Type 0
Met P = (answer : ℕ) × (new : List ℕ) × P answer new

-- .. and only one.
abbrev pub Once : (ℕ → List ℕ → Type 0) → Type 0
Once P = (answer answer' : ℕ) (new new' : List ℕ) → P answer new → P answer' new' → (answer ≡ answer') × (new ≡ new')

-- The same for a call with a buffer of bytes and one of serials.
abbrev pub BothMet : (ℕ → List ℕ → List ℕ → Type 0) → Type 0
BothMet P = (answer : ℕ) × (new : List ℕ) × (serials : List ℕ) × P answer new serials

abbrev pub BothOnce : (ℕ → List ℕ → List ℕ → Type 0) → Type 0
BothOnce P =
    (answer answer' : ℕ) (new new' serials serials' : List ℕ) → P answer new serials → P answer' new' serials'
    → (answer ≡ answer') × (new ≡ new') × (serials ≡ serials')

-- two answers of one gate: both served or both refused
alike : {gate answer answer' : ℕ} {A A' B B' C : Type 0} → (gate ≡ 0 → A → A' → C) → (B → B' → C) → Post gate answer A B → Post gate answer' A' B' → C
alike {gate} f g t t' =
    ⊎_elim (λ z. f z (t.served (t.number ∙ z)) (t'.served (t'.number ∙ z)))
    (λ ne. g (t.refused (λ z. ne (sym t.number ∙ z))) (t'.refused (λ z. ne (sym t'.number ∙ z)))) (eq-or gate 0)

-- for a call that leaves its buffer as it was where it is refused, the served buffer alone is in question
module _ (gate : ℕ) (Served : List ℕ → Type 0) (old : List ℕ) where
  post-met : (gate ≡ 0 → (new : List ℕ) × Served new) → Met (λ answer new. Post gate answer (Served new) (new ≡ old))
  post-met f =
      ⊎_elim (λ z. (gate, (f z).0, record { number = refl; served = λ _. (f z).1; refused = λ ne. absurd (ne z) }))
      (λ ne. (gate, old, record { number = refl; served = λ z. absurd (ne z); refused = λ _. refl })) (eq-or gate 0)

  post-once : (gate ≡ 0 → (new new' : List ℕ) → Served new → Served new' → new ≡ new') → Once (λ answer new. Post gate answer (Served new) (new ≡ old))
  post-once f answer answer' new new' t t' = (t.number ∙ sym t'.number, alike (λ z. f z new new') (λ e e'. e ∙ sym e') t t')

-- for one with two buffers, each of the two as it is served
module _ (gate : ℕ) (Bytes Serials : List ℕ → Type 0) (old serials : List ℕ) where
  abbrev Posted : ℕ → List ℕ → List ℕ → Type 0
  Posted answer new serials' = Post gate answer (Bytes new × Serials serials') (Unwritten old serials new serials')

  both-met : (gate ≡ 0 → (new : List ℕ) × Bytes new) → (gate ≡ 0 → (new : List ℕ) × Serials new) → BothMet Posted
  both-met f g =
      ⊎_elim (λ z. (gate, (f z).0, (g z).0, record { number = refl; served = λ _. ((f z).1, (g z).1); refused = λ ne. absurd (ne z) }))
      (λ ne. (gate, old, serials, record { number = refl; served = λ z. absurd (ne z); refused = λ _. (refl, refl) })) (eq-or gate 0)

  both-once : (gate ≡ 0 → (new new' : List ℕ) → Bytes new → Bytes new' → new ≡ new')
      → (gate ≡ 0 → (new new' : List ℕ) → Serials new → Serials new' → new ≡ new') → BothOnce Posted
  both-once f g answer answer' new new' s s' t t' = (
    t.number ∙ sym t'.number,
    alike (λ z u u'. f z new new' u.0 u'.0) (λ e e'. e.0 ∙ sym e'.0) t t',
    alike (λ z u u'. g z s s' u.1 u'.1) (λ e e'. e.1 ∙ sym e'.1) t t',
  )

-- ---- a list told at the nodes that pass a test by f, at the others by g

record Split (b n : ℕ) (S : ℕ → Bool) (f g : ℕ → ℕ → ℕ) (new : List ℕ) : Type 0 where
  length_is : length new ≡ n * b
  passed : (j p : ℕ) → j < n → S (suc j) ≡ true → p < b → cell b new j p ≡ f j p
  other : (j p : ℕ) → j < n → S (suc j) ≡ false → p < b → cell b new j p ≡ g j p

module _ (b n : ℕ) (S : ℕ → Bool) (f g : ℕ → ℕ → ℕ) where
  split-exists : (new : List ℕ) × Split b n S f g new
  split-exists = (
    blocks b n mixed,
    record {
      length_is = length-blocks b n mixed;
      passed = λ j p hj s hp. cell-blocks b n mixed j p hj hp ∙ ap (λ (t : Bool). cond t (f j p) (g j p)) s;
      other = λ j p hj s hp. cell-blocks b n mixed j p hj hp ∙ ap (λ (t : Bool). cond t (f j p) (g j p)) s;
    },
  )
    where
      mixed : ℕ → ℕ → ℕ
      mixed j p = cond (S (suc j)) (f j p) (g j p)

  split-unique : (f' : ℕ → ℕ → ℕ) (new new' : List ℕ) → 0 < b → ((j p : ℕ) → f j p ≡ f' j p) → Split b n S f g new → Split b n S f' g new'
      → new ≡ new'
  split-unique f' new new' hb same s s' =
      cells_ext b n new new' hb s.length_is s'.length_is (λ j p hj hp. go j p hj hp (S (suc j)) refl)
    where
      go : (j p : ℕ) → j < n → p < b → (t : Bool) → S (suc j) ≡ t → cell b new j p ≡ cell b new' j p
      go j p hj hp true e = s.passed j p hj e hp ∙ same j p ∙ sym (s'.passed j p hj e hp)
      go j p hj hp false e = s.other j p hj e hp ∙ sym (s'.other j p hj e hp)

-- ---- encode

module _ (a : Params) (x v old serials : List ℕ) where
  pub encode-met : BothMet (EncodePost a x v old serials)
  encode-met =
      both-met _ (Encoded a x v) (λ s. s ≡ replicate a.n 0) old serials
      (λ z. (
        blocks a.b a.n (λ j. block a x v (suc j)),
        record { length_is = length-blocks a.b a.n _; holds = λ j p hj hp. cell-blocks a.b a.n (λ j. block a x v (suc j)) j p hj hp },
      ))
      (λ z. (_, refl))

  pub encode-once : BothOnce (EncodePost a x v old serials)
  encode-once =
      both-once _ (Encoded a x v) (λ s. s ≡ replicate a.n 0) old serials
      (λ z new new' e e'.
      let g = (encode-accepted a _ _ _ _).0 z in
      cells_ext a.b a.n new new' g.valid.b_low e.length_is e'.length_is (λ j p hj hp. e.holds j p hj hp ∙ sym (e'.holds j p hj hp)))
      (λ z s s' e e'. e ∙ sym e')

-- ---- decode

module _ (a : Params) (codeword : List ℕ) (from : ℕ) (old : List ℕ) where
  pub decode-met : Bytes codeword → Met (DecodePost a codeword from old)
  decode-met bytes =
      post-met _ (Decoded a codeword from) old
      (λ z.
      let g = (decode-accepted a _ _ _).0 z in
      let e = pair-exists a g.valid (used a from) (from-reads a from g.valid g.from_within g.from_size) codeword bytes in
      (e.0, record { slack = e.1; gives = e.2 }))

  pub decode-once : Once (DecodePost a codeword from old)
  decode-once =
      post-once _ (Decoded a codeword from) old
      (λ z new new' d d'.
      let g = (decode-accepted a _ _ _).0 z in
      (pair-unique a g.valid (used a from) (from-reads a from g.valid g.from_within g.from_size) new new' d.slack d'.slack codeword
      d.gives d'.gives).0)

-- ---- delta

module _ (a : Params) (d : List ℕ) (to : ℕ) (old : List ℕ) where
  -- the ranks in W are 0 .. w - 1
  ranks : DeltaAccepted a (length d) (length old) to → count (has to) a.n ≡ a.w
  ranks g = sym (within-size a.n to g.to_within) ∙ g.to_size

  pub delta-met : Met (DeltaPost a d to old)
  delta-met =
      post-met _ (Differences a d to) old
      (λ z.
      let g = (delta-accepted a _ _ _).0 z in
      let s = spread-exists a to g.valid g.to_within g.to_size d in
      let f : ℕ → ℕ → ℕ = λ i. block a d s.0 (get_or (nodes (has to) a.n) i 0) in (
        blocks a.b a.w f,
        record {
          slack = s.0;
          vanishes = s.1;
          length_is = length-blocks a.b a.w f;
          holds = λ j p hj e hp.
              cell-blocks a.b a.w f (count (has to) j) p (omega (arith, rank_lt (has to) a.n j hj e, ranks g)) hp
              ∙ ap (λ (i : ℕ). block a d s.0 i p) (node-at-rank (has to) a.n j hj e);
        },
      ))

  pub delta-once : Once (DeltaPost a d to old)
  delta-once =
      post-once _ (Differences a d to) old
      (λ z new new' s s'.
      let g = (delta-accepted a _ _ _).0 z in
      let same = spread-unique a to g.valid g.to_within g.to_size d s.slack s'.slack s.vanishes s'.vanishes in
      cells_ext a.b a.w new new' g.valid.b_low s.length_is s'.length_is
      (λ i p hi hp.
      let q = entry (has to) a.n i (omega (arith, ranks g)) in
      subst (λ (i : ℕ). cell a.b new i p ≡ cell a.b new' i p) q.4
      (s.holds q.0 p q.1 q.2 hp ∙ ap (λ (v : List ℕ). block a d v (suc q.0) p) same ∙ sym (s'.holds q.0 p q.1 q.2 hp))))

-- ---- update

module _ (a : Params) (ok : Valid a) (d : List ℕ) (to : ℕ) (hw : within a.n to ≡ true) (hs : size to ≡ a.w) (old : List ℕ) (taking : ℕ → Bool) where
  -- the cell after the change, where v is the slack
  sums : List ℕ → ℕ → ℕ → ℕ
  sums v j p = add (cell a.b old j p) (block a d v (suc j) p)

  pub updated-exists : (new : List ℕ) × Updated a old d to taking new
  unfolding sums
  updated-exists =
      let s = spread-exists a to ok hw hs d in
      let n = split-exists a.b a.n taking (sums s.0) (cell a.b old) in
      (n.0, record { slack = s.0; vanishes = s.1; length_is = n.1.length_is; added = n.1.passed; kept = n.1.other })

  pub updated-unique : (new new' : List ℕ) → Updated a old d to taking new → Updated a old d to taking new' → new ≡ new'
  unfolding sums
  updated-unique new new' u u' =
      let same = spread-unique a to ok hw hs d u.slack u'.slack u.vanishes u'.vanishes in
      split-unique a.b a.n taking (sums u.slack) (cell a.b old) (sums u'.slack) new new' ok.b_low (λ j p. ap (λ (v : List ℕ). sums v j p) same)
      (record { length_is = u.length_is; passed = u.added; other = u.kept })
      (record { length_is = u'.length_is; passed = u'.added; other = u'.kept })

module _ (a : Params) (d : List ℕ) (to serial reached : ℕ) (old serials : List ℕ) where
  abbrev taking : ℕ → Bool
  taking = takes to reached serials serial

  pub update-met : BothMet (UpdatePost a d to serial reached old serials)
  update-met =
      both-met _ (Updated a old d to taking) (Stamped a.n taking serial serials) old serials
      (λ z. let g = (update-accepted a _ _ _ _ _).0 z in updated-exists a g.valid d to g.to_within g.to_size old taking)
      (λ z. stamped-exists a.n taking serial serials)

  pub update-once : BothOnce (UpdatePost a d to serial reached old serials)
  update-once =
      both-once _ (Updated a old d to taking) (Stamped a.n taking serial serials) old serials
      (λ z. let g = (update-accepted a _ _ _ _ _).0 z in updated-unique a g.valid d to g.to_within g.to_size old taking)
      (λ z s s'. stamped-unique)

-- ---- repair

module _ (a : Params) (from lost : ℕ) (old serials : List ℕ) where
  pub repair-met : Bytes old → BothMet (RepairPost a from lost old serials)
  repair-met bytes =
      both-met _ (Repaired a old from lost) (Stamped a.n (has lost) (highest (has from) serials a.n) serials) old serials
      (λ z.
      let g = (repair-accepted a _ _ _ _).0 z in
      let e = pair-exists a g.valid (used a from) (from-reads a from g.valid g.from_within g.from_size) old bytes in
      let n = split-exists a.b a.n (has lost) (λ j. block a e.0 e.1 (suc j)) (cell a.b old) in
      (n.0, record { message = e.0; slack = e.1; gives = e.2; length_is = n.1.length_is; rebuilt = n.1.passed; kept = n.1.other }))
      (λ z. stamped-exists a.n (has lost) (highest (has from) serials a.n) serials)

  pub repair-once : BothOnce (RepairPost a from lost old serials)
  repair-once =
      both-once _ (Repaired a old from lost) (Stamped a.n (has lost) (highest (has from) serials a.n) serials) old serials
      (λ z new new' r r'.
      let g = (repair-accepted a _ _ _ _).0 z in
      let full = from-reads a from g.valid g.from_within g.from_size in
      split-unique a.b a.n (has lost) (λ j. block a r.message r.slack (suc j)) (cell a.b old) (λ j. block a r'.message r'.slack (suc j)) new
      new' g.valid.b_low
      (λ j. pair-blocks a g.valid (used a from) full r.message r'.message r.slack r'.slack old r.gives r'.gives (suc j))
      (record { length_is = r.length_is; passed = r.rebuilt; other = r.kept })
      (record { length_is = r'.length_is; passed = r'.rebuilt; other = r'.kept }))
      (λ z s s'. stamped-unique)

-- ---- reconfigure

-- where R's pairs have the same blocks, the new pair's slack is the same
module _ (a : Params) (t : Shape) (valid : Valid (reshaped a t)) (to : ℕ) (hw : within t.n to ≡ true) (hs : size to ≡ t.w) (from : ℕ) (x : List ℕ) where
  pub new-slack : (old old' new new' : List ℕ) (r : Reconfigured a t old from to x new) (r' : Reconfigured a t old' from to x new')
      → ((i p : ℕ) → block a r.old_message r.old_slack i p ≡ block a r'.old_message r'.old_slack i p) → r.slack ≡ r'.slack
  new-slack old old' new new' r r' same =
      slack-unique (reshaped a t) valid (has to) (written-leaves (reshaped a t) to valid hw hs) x (block a r.old_message r.old_slack) r.slack r'.slack
      (record { parts = r.pair.slack; equal = r.agrees })
      (record { parts = r'.pair.slack; equal = λ j p hj s hp. r'.agrees j p hj s hp ∙ sym (same (suc j) p) })

module _ (a : Params) (t : Shape) (old serials : List ℕ) (from to : ℕ) (x buffer numbers : List ℕ) where
  abbrev Handed : List ℕ → Type 0
  Handed = Stamped t.n (writes a to) (highest (has from) serials a.n) serials

  pub reconfigure-met : Bytes old → Bytes x → BothMet (ReconfigurePost a t old serials from to x buffer numbers)
  reconfigure-met bytes hx =
      both-met _ (Reconfigured a t old from to x) Handed buffer numbers
      (λ z.
      let g = (reconfigure-accepted a t _ _ _ _ _ _ _).0 z in
      let e = pair-exists a g.valid (used a from) (from-reads a from g.valid g.from_within g.from_size) old bytes in
      let s =
      slack-exists (reshaped a t) g.valid_new (has to) (written-leaves (reshaped a t) to g.valid_new g.to_within g.to_size) x
      (block a e.0 e.1) (block-byte a e.0 e.1) in
      let n = split-exists a.b t.n (writes a to) (λ j. block (reshaped a t) x s.0 (suc j)) (cell a.b old) in (
        n.0,
        record {
          old_message = e.0;
          old_slack = e.1;
          gives = e.2;
          slack = s.0;
          pair = record { message = record { length_is = g.message_length; bytes = hx }; slack = s.1.parts };
          agrees = s.1.equal;
          length_is = n.1.length_is;
          written = n.1.passed;
          copied = n.1.other;
        },
      ))
      (λ z. stamped-exists t.n (writes a to) (highest (has from) serials a.n) serials)

  pub reconfigure-once : BothOnce (ReconfigurePost a t old serials from to x buffer numbers)
  reconfigure-once =
      both-once _ (Reconfigured a t old from to x) Handed buffer numbers
      (λ z new new' r r'.
      let g = (reconfigure-accepted a t _ _ _ _ _ _ _).0 z in
      let before =
      pair-blocks a g.valid (used a from) (from-reads a from g.valid g.from_within g.from_size) r.old_message r'.old_message r.old_slack
      r'.old_slack old r.gives r'.gives in
      let same = new-slack a t g.valid_new to g.to_within g.to_size from x old old new new' r r' before in
      split-unique a.b t.n (writes a to) (λ j. block (reshaped a t) x r.slack (suc j)) (cell a.b old)
      (λ j. block (reshaped a t) x r'.slack (suc j)) new new' g.valid.b_low (λ j p. ap (λ (v : List ℕ). block (reshaped a t) x v (suc j) p) same)
      (record { length_is = r.length_is; passed = r.written; other = r.copied })
      (record { length_is = r'.length_is; passed = r'.written; other = r'.copied }))
      (λ z s s'. stamped-unique)

-- ---- view: its number is the gate's by definition

module _ (a : Params) (codeword : List ℕ) (i : ℕ) where
  pub view-met : (part : List ℕ) × ViewPost a codeword i part
  view-met =
      ⊎_elim (λ z. (_, record { number = refl; served = λ _. refl; refused = λ ne. absurd (ne z) }))
      (λ ne. ([], record { number = refl; served = λ z. absurd (ne z); refused = λ _. refl })) (eq-or (view_gate a (length codeword) i) 0)

  pub view-once : (part part' : List ℕ) → ViewPost a codeword i part → ViewPost a codeword i part' → part ≡ part'
  view-once part part' = alike (λ z e e'. e ∙ sym e') (λ e e'. e ∙ sym e')
