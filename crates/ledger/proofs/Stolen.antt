-- What stolen nodes tell (document 02, 2026-07). The same list after two set-ups adds the same to both records and leaves the same serials (the code's Added.antt),
-- and is accepted after the one as after the other, since no gate looks at the record's bytes. So some nodes end with equal bytes exactly where the set-ups put equal
-- blocks there, and at n - w nodes exactly one slack does that. Assumes nothing.
use mathlib.Core.Path.{◌≡◌, refl, sym, ap, ◌∙◌, subst}
use mathlib.Core.Bool.{true}
use mathlib.Core.List.{List}
use Prim.Native.Nat.{ℕ, suc, ◌-◌, ◌≤◌, ◌<◌}
use native.Mathlib.Omega.{arith}
use lib.ListN.{length}
use Rattle.field.specs.Field.{Bytes}
use Rattle.params.specs.Nodes.{has, size, within}
use Rattle.params.specs.Params.{slack_parts, working}
use Rattle.params.specs.declared.Params.{Params}
use Rattle.params.proofs.Sets.{within-size}
use Rattle.params.proofs.Lowest.{count-lowest, lowest-passes, widened, count-widened, widened-has}
use Rattle.gates.specs.Gates.{update_gate, repair_gate}
use Rattle.gates.specs.Valid.{Valid}
use Rattle.gates.proofs.Valid.{encode-accepted, update-accepted, repair-accepted, slack-le}
use Rattle.serials.specs.Serials.{Words32}
use Rattle.code.specs.Code.{Parts, Pair, used}
use Rattle.code.specs.Calls.{EncodePost, UpdatePost, RepairPost}
use Rattle.code.proofs.Pairs.{from-reads, pair-unique}
use Rattle.code.proofs.Posts.{served}
use Rattle.code.proofs.Theorems.{encode-pair}
use Rattle.code.proofs.Determined.{encode-met, update-met, repair-met}
use Rattle.code.proofs.Added.{SameAdded, encode_same, update_same, repair-same, same-cells, same_blocks, SameBlocks, same-exists, same-unique, some-apart}
use Rattle.ledger.specs.Ledger.{Held, begun, held, Given, encode, update, repair, reconfigure, decode, delta, check, view, Event, call, damage}
use Rattle.ledger.specs.Ledger.{Step, updated, repaired}
use Rattle.ledger.specs.Stolen.{Handful, ChangeOrRebuild, Upkeep, done, more, UpkeepAfter, EndsAlike, ExactlyOne}
use Rattle.ledger.proofs.Invariant.{given-in-force, given_is}
use Rattle.ledger.proofs.Whole.{Whole, opening-whole, step-whole}
use Rattle.ledger.proofs.Upkeep.{upkeep-once}

-- ---- the same list on both sides

module _ (a : Params) (x v x' v' : List ℕ) (pair : Pair a x v) (pair' : Pair a x' v') where
  -- A change or a rebuild that is accepted on the first side is accepted on the second, from the same serials, and leaves the same ones.
  module _ (c c' s : List ℕ) (w : Whole (begun a c' s)) (same : SameAdded a x v x' v' c c') (new s₁ : List ℕ) where
    update-too : (d : List ℕ) (to serial reached : ℕ) → UpdatePost a d to serial reached c s 0 new s₁
        → (new' : List ℕ) × UpdatePost a d to serial reached c' s 0 new' s₁ × SameAdded a x v x' v' new new'
    update-too d to serial reached post =
        let g = (update-accepted a _ _ _ _ _).0 (sym post.number) in
        let m = update-met a d to serial reached c' s in
        let z : 0 ≡ update_gate a (length c') (length s) (length d) to serial =
        post.number ∙ ap (λ (n : ℕ). update_gate a n (length s) (length d) to serial) (g.codeword_length ∙ sym w.length_is) in
        let t = m.3.served (m.3.number ∙ sym z) in (
          m.1,
          served _ (sym z) (t.0, (post.served refl).1),
          update_same a x v x' v' g.valid d to g.to_within g.to_size _ c c' new m.1 same (post.served refl).0 t.0,
        )

    repair-too : (from lost : ℕ) → RepairPost a from lost c s 0 new s₁ → (new' : List ℕ) × RepairPost a from lost c' s 0 new' s₁ × SameAdded a x v x' v' new new'
    repair-too from lost post =
        let g = (repair-accepted a _ _ _ _).0 (sym post.number) in
        let m = repair-met a from lost c' s w.bytes in
        let z : 0 ≡ repair_gate a (length c') (length s) from lost =
        post.number ∙ ap (λ (n : ℕ). repair_gate a n (length s) from lost) (g.codeword_length ∙ sym w.length_is) in
        let t = m.3.served (m.3.number ∙ sym z) in (
          m.1,
          served _ (sym z) (t.0, (post.served refl).1),
          repair-same a x v x' v' g.valid pair pair' from lost (from-reads a from g.valid g.from_within g.from_size) c c' new m.1 same
              (post.served refl).0 t.0,
        )

  -- Two states with the same serials, and the same added.
  record Beside (h h' : Held) : Type 0 where
    c : List ℕ
    c' : List ℕ
    s : List ℕ
    first : h ≡ begun a c s
    second : h' ≡ begun a c' s
    same : SameAdded a x v x' v' c c'

  -- the same event, accepted on the second side
  abbrev Next : Held → Event → Held → Type 0
  Next h' e h₁ = (h₁' : Held) × ChangeOrRebuild h' e × Step h' e 0 h₁' × Beside h₁ h₁'

  module _ (c c' s : List ℕ) (w : Whole (begun a c' s)) (same : SameAdded a x v x' v' c c') where
    abbrev both : Given
    both = record { params = a; codeword = held; serials = held }

    update-next : (d : List ℕ) (to serial reached : ℕ) (h₁ : Held) → Step (begun a c s) (call both (update d to serial reached)) 0 h₁
        → Next (begun a c' s) (call both (update d to serial reached)) h₁
    update-next d to serial reached h₁ (updated _ new s₁ post) =
        let n = update-too c c' s w same new s₁ d to serial reached post in (
          begun a n.0 s₁,
          given-in-force (begun a c' s),
          updated 0 n.0 s₁ n.1,
          record { c = new; c' = n.0; s = s₁; first = refl; second = refl; same = n.2 },
        )

    repair-next : (from lost : ℕ) (h₁ : Held) → Step (begun a c s) (call both (repair from lost)) 0 h₁ → Next (begun a c' s) (call both (repair from lost)) h₁
    repair-next from lost h₁ (repaired _ new s₁ post) =
        let n = repair-too c c' s w same new s₁ from lost post in (
          begun a n.0 s₁,
          given-in-force (begun a c' s),
          repaired 0 n.0 s₁ n.1,
          record { c = new; c' = n.0; s = s₁; first = refl; second = refl; same = n.2 },
        )

    next : (e : Event) (h₁ : Held) → ChangeOrRebuild (begun a c s) e → Step (begun a c s) e 0 h₁ → Next (begun a c' s) e h₁
    next (call g (update d to serial reached)) h₁ i =
        subst (λ (g : Given). Step (begun a c s) (call g (update d to serial reached)) 0 h₁ → Next (begun a c' s) (call g (update d to serial reached)) h₁)
        (sym (given_is (begun a c s) g i)) (update-next d to serial reached h₁)
    next (call g (repair from lost)) h₁ i =
        subst (λ (g : Given). Step (begun a c s) (call g (repair from lost)) 0 h₁ → Next (begun a c' s) (call g (repair from lost)) h₁)
        (sym (given_is (begun a c s) g i)) (repair-next from lost h₁)
    next (call g (encode x v)) h₁ i = absurd i
    next (call g (reconfigure t buffer numbers x from to)) h₁ i = absurd i
    next (call g (decode buffer from)) h₁ i = absurd i
    next (call g (delta d buffer to)) h₁ i = absurd i
    next (call g (check budget)) h₁ i = absurd i
    next (call g (view node)) h₁ i = absurd i
    next (damage nodes bytes) h₁ i = absurd i

  step-next : (h h' h₁ : Held) (e : Event) → Whole h' → Beside h h' → ChangeOrRebuild h e → Step h e 0 h₁ → Next h' e h₁
  step-next h h' h₁ e w b =
      subst (λ (h : Held). ChangeOrRebuild h e → Step h e 0 h₁ → Next h' e h₁) (sym b.first)
      (subst (λ (h' : Held). ChangeOrRebuild (begun a b.c b.s) e → Step (begun a b.c b.s) e 0 h₁ → Next h' e h₁) (sym b.second)
      (next b.c b.c' b.s (subst Whole b.second w) b.same e h₁))

  upkeep-next : {h h' end : Held} {events : List Event} → Whole h' → Beside h h' → Upkeep h events end → (end' : Held) × Upkeep h' events end' × Beside end end'
  upkeep-next {h' = h'} w b done = (h', done, b)
  upkeep-next {h = h} {h' = h'} w b (more {h' = h₁} {e = e} ty i st rest) =
      let n = step-next h h' h₁ e w b i st in
      let r = upkeep-next (step-whole h' e w ty n.2) n.3 rest in
      (r.0, more ty n.1 n.2 r.1, r.2)

-- ---- after two set-ups

module _ {a : Params} {x v : List ℕ} {events : List Event} {h : Held} (y : UpkeepAfter a x v events h) where
  valid : Valid a
  valid = ((encode-accepted a _ _ _ _).0 (sym y.opening.number)).valid

  pair : Pair a x v
  pair = encode-pair y.typed.0 y.typed.1 y.opening

  -- After every other accepted set-up the list is accepted too. It ends with the same serials and the same added.
  module _ (x' v' buffer numbers codeword serials : List ℕ) (hx : Bytes x') (hv : Bytes v') (hb : Bytes buffer) (hn : Words32 numbers)
      (post : EncodePost a x' v' buffer numbers 0 codeword serials) where
    after_next : (h' : Held) × Upkeep (begun a codeword serials) events h' × Beside a x v x' v' pair (encode-pair hx hv post) h h'
    after_next =
        let s = y.opening.served refl in
        let s' = post.served refl in
        upkeep-next a x v x' v' pair (encode-pair hx hv post) (opening-whole a x' v' buffer numbers codeword serials hb hn post)
        (record {
          c = y.codeword;
          c' = codeword;
          s = serials;
          first = ap (begun a y.codeword) (s.1 ∙ sym s'.1);
          second = refl;
          same = encode_same a x v x' v' y.codeword codeword s.0 s'.0;
        })
        y.upkeep

    pub upkeep-too : (h' : Held) × Upkeep (begun a codeword serials) events h' × (h'.serials ≡ h.serials)
    upkeep-too = let n = after_next in (n.0, n.1, ap (λ (h : Held). h.serials) n.2.second ∙ sym (ap (λ (h : Held). h.serials) n.2.first))

    added-too : (h' : Held) → Upkeep (begun a codeword serials) events h' → SameAdded a x v x' v' h.codeword h'.codeword
    added-too h' u =
        let n = after_next in
        subst (λ (h' : Held). SameAdded a x v x' v' h.codeword h'.codeword) (upkeep-once n.1 u)
        (subst (λ (c : List ℕ). SameAdded a x v x' v' c n.0.codeword) (ap (λ (h : Held). h.codeword) (sym n.2.first))
        (subst (λ (c : List ℕ). SameAdded a x v x' v' n.2.c c) (ap (λ (h : Held). h.codeword) (sym n.2.second)) n.2.same))

  -- what it adds, after a set-up with this message and slack
  added : {x' v' : List ℕ} {end : Held} → UpkeepAfter a x' v' events end → SameAdded a x v x' v' h.codeword end.codeword
  added {x'} {v'} {end} u =
      added-too x' v' u.buffer u.numbers u.codeword u.serials u.typed.0 u.typed.1 u.typed.2 u.typed.3 u.opening end u.upkeep

  module _ (x' : List ℕ) (hx : Parts a.b a.k x') where
    -- every slack of the second message has such a set-up, say over the first one's buffers, and the list after it
    ends : (v' : List ℕ) → Parts a.b (slack_parts a) v' → (end : Held) × UpkeepAfter a x' v' events end
    ends v' hv =
        let g = (encode-accepted a _ _ _ _).0 (sym y.opening.number) in
        let m = encode-met a x' v' y.buffer y.numbers in
        let z =
        (encode-accepted a (length x') (length v') (length y.buffer) (length y.numbers)).1
        (record {
          valid = g.valid;
          message_length = hx.length_is;
          slack_length = hv.length_is;
          codeword_length = g.codeword_length;
          serials_length = g.serials_length;
        }) in
        let post = subst (λ (q : ℕ). EncodePost a x' v' y.buffer y.numbers q m.1 m.2) (m.3.number ∙ z) m.3 in
        let n = upkeep-too x' v' y.buffer y.numbers m.1 m.2 hx.bytes hv.bytes y.typed.2 y.typed.3 post in (
          n.0,
          record {
            buffer = y.buffer;
            numbers = y.numbers;
            codeword = m.1;
            serials = m.2;
            typed = (hx.bytes, hv.bytes, y.typed.2, y.typed.3);
            opening = post;
            upkeep = n.1;
          },
        )

    -- n - w nodes, and fewer, which are among so many: some slack, ..
    pub fewer-some : (t : ℕ) → within a.n t ≡ true → size t ≤ a.n - a.w → (v' : List ℕ) × EndsAlike a events t h.codeword x' v'
    unfolding slack_parts
    fewer-some t inside few =
        let among = widened a.n (slack_parts a) (has t) in
        let many = count-widened a.n (slack_parts a) (has t) (omega (arith, within-size a.n t inside)) (slack-le a valid) in
        let s = same-exists a valid among many x v x' in
        let e = ends s.0 s.1 in (
          s.0,
          record {
            end = e.0;
            after = e.1;
            alike = λ j p hj b hp.
                same-cells a x v x' s.0 h.codeword e.0.codeword (added e.1) j p hj hp
                (s.2 j p hj (widened-has a.n (slack_parts a) (has t) (suc j) b) hp);
          },
        )

  -- where some nodes end alike, the set-ups put equal blocks there
  module _ {t : ℕ} {x' v' : List ℕ} (e : EndsAlike a events t h.codeword x' v') where
    pair_of : Pair a x' v'
    pair_of = let u = e.after in encode-pair u.typed.0 u.typed.1 u.opening

    blocks-of : SameBlocks a (has t) x v x' v'
    blocks-of j p hj b hp = same_blocks a x v x' v' h.codeword e.end.codeword (added e.after) j p hj hp (e.alike j p hj b hp)

  -- .. and n - w nodes only one
  pub stolen-one : (x' : List ℕ) → Parts a.b a.k x' → (t : ℕ) → Handful a t → ExactlyOne (EndsAlike a events t h.codeword x')
  unfolding slack_parts
  stolen-one x' hx t few =
      let many = sym (within-size a.n t few.inside) ∙ few.many in
      let s = fewer-some x' hx t few.inside (omega (arith, few.many)) in (
        s.0,
        s.1,
        λ v'' e. same-unique a valid (has t) many x v x' v'' s.0 (pair_of e).slack (pair_of s.1).slack (blocks-of e) (blocks-of s.1),
      )

  module _ (t : ℕ) (inside : within a.n t ≡ true) where
    -- More nodes rule some message out, ..
    pub more-none : a.n - a.w < size t → (x' : List ℕ) × Parts a.b a.k x' × ((v' : List ℕ) → EndsAlike a events t h.codeword x' v' → ⊥)
    unfolding slack_parts
    more-none many =
        let s = some-apart a valid (has t) (omega (arith, within-size a.n t inside)) x v in
        (s.0, s.1, λ v' e. s.2 v' (pair_of e).slack (blocks-of e))

    -- .. and as many as the working number rule out all but the message and slack that were set up.
    pub working-all : working a ≤ size t → (x' v' : List ℕ) → EndsAlike a events t h.codeword x' v' → (x' ≡ x) × (v' ≡ v)
    working-all enough x' v' e =
        let holds = (y.opening.served refl).0.holds in
        pair-unique a valid (used a t) (omega (arith, count-lowest (working a) (has t) a.n, within-size a.n t inside)) x' x v' v y.codeword
        (record {
          pair = pair_of e;
          equal = λ j p hj b hp. sym (blocks-of e j p hj (lowest-passes (working a) (has t) (suc j) b) hp) ∙ sym (holds j p hj hp);
        })
        (record { pair = pair; equal = λ j p hj b hp. sym (holds j p hj hp) })
