-- The record while a change is open. The ledger counts a change at its first send, so the record is sound once the change is sent to all of its W; that a further
-- send does not alter what this would leave is the law of sends (code/proofs/Sends.antt). Between closed changes it leaves what there is. Assumes nothing.
use mathlib.Core.Path.{◌≡◌, refl, sym, ap, ap₂, ◌∙◌, subst}
use mathlib.Core.Logic.{⊎_elim}
use mathlib.Core.Bool.{Bool, true, false, ◌||◌, true≢false}
use mathlib.Core.List.{List}
use Prim.Native.Nat.{ℕ, suc, ◌*◌, ◌≤◌, ◌<◌}
use native.Mathlib.Omega.{arith}
use lib.ListN.{length, get_or}
use Rattle.base.specs.Seq.{cell}
use Rattle.base.proofs.Cases.{lt-or}
use Rattle.field.specs.Field.{add, plus}
use Rattle.params.specs.Nodes.{has, size, within}
use Rattle.gates.specs.Valid.{Valid}
use Rattle.params.specs.declared.Params.{Params}
use Rattle.serials.specs.Serials.{takes}
use Rattle.serials.proofs.Laws.{stamped-exists}
use Rattle.code.specs.Code.{Parts, block}
use Rattle.code.specs.Calls.{Updated, Sent}
use Rattle.code.proofs.Pairs.{spread-unique}
use Rattle.code.proofs.Determined.{updated-exists, updated-unique}
use Rattle.code.proofs.Sends.{send-over, send-whole, none-takes, send-still}
use Rattle.ledger.specs.Ledger.{Sends, sending, Closed, damaged_word}
use Rattle.ledger.proofs.Sound.{Sound, damaged-other, update-sound, damage-sound, sound-cells}
use Rattle.ledger.proofs.Stamps.{Stamps, sent-here, to-here, change-here, again-sent, again-to, again-change, reached_still}

-- what sending a change to all of its W would leave: a sound record
pub record Finish (a : Params) (codeword serials ledger : List ℕ) (damaged : ℕ → Bool) (d : List ℕ) (to serial : ℕ) : Type 0 where
  pub inside : within a.n to ≡ true
  pub many : size to ≡ a.w
  pub full : List ℕ
  pub stamps : List ℕ
  pub send : Sent a d to serial to codeword serials full stamps
  pub sound : Sound a full ledger damaged

pub data Finished (a : Params) (codeword serials ledger : List ℕ) (damaged : ℕ → Bool) (k : Sends) (top : ℕ) : Type 0 where
  whole : Closed k → Sound a codeword ledger damaged → Finished a codeword serials ledger damaged k top
  part : k.sent top ≡ true → Finish a codeword serials ledger damaged (k.change top) (k.to top) top → Finished a codeword serials ledger damaged k top

module _ (a : Params) (ok : Valid a) where
  -- a send to all of W has a result
  finish-exists : (d : List ℕ) (to serial : ℕ) (codeword serials : List ℕ) → within a.n to ≡ true → size to ≡ a.w
      → (full : List ℕ) × (stamps : List ℕ) × Sent a d to serial to codeword serials full stamps
  finish-exists d to serial codeword serials hw hs =
      let u = updated-exists a ok d to hw hs codeword (takes to to serials serial) in
      let x = stamped-exists a.n (takes to to serials serial) serial serials in
      (u.0, x.0, (u.1, x.1))

  module _ (codeword serials ledger : List ℕ) (damaged : ℕ → Bool) (k : Sends) (top : ℕ) (i : Stamps a serials k top) where
    -- between closed changes all of W has the last serial, so that a send to it moves nobody
    still : k.sent top ≡ true → Closed k → (j : ℕ) → j < a.n → takes (k.to top) (k.to top) serials top (suc j) ≡ false
    still sent closed j hj = none-takes (k.to top) top (k.to top) serials j (λ b _. i.marked top sent j hj b (closed top sent (suc j) b))

    -- Between closed changes the record itself is sound.
    pub closed-sound : Closed k → Finished a codeword serials ledger damaged k top → Sound a codeword ledger damaged
    closed-sound closed (whole _ s) = s
    closed-sound closed (part sent f) =
        sound-cells a ledger damaged f.full codeword (λ j p hj hp. sym (f.send.0.kept j p hj (still sent closed j hj) hp)) f.sound

    -- Of either kind of record a last change that may be sent again has a sound finish.
    finish : k.sent top ≡ true → within a.n (k.to top) ≡ true → size (k.to top) ≡ a.w → Finished a codeword serials ledger damaged k top
        → Finish a codeword serials ledger damaged (k.change top) (k.to top) top
    finish sent hw hs (part _ f) = f
    finish sent hw hs (whole closed s) =
        let e = finish-exists (k.change top) (k.to top) top codeword serials hw hs in
        record {
          inside = hw;
          many = hs;
          full = e.0;
          stamps = e.1;
          send = e.2;
          sound = sound-cells a ledger damaged codeword e.0 (λ j p hj hp. e.2.0.kept j p hj (still sent closed j hj) hp) s;
        }

    -- a further send of the last change, to whichever nodes
    finish-again : (c : ℕ) (new serials' : List ℕ) → Finish a codeword serials ledger damaged (k.change top) (k.to top) top
        → Sent a (k.change top) (k.to top) top c codeword serials new serials' → Finish a new serials' ledger damaged (k.change top) (k.to top) top
    finish-again c new serials' f sent =
        let d = k.change top in
        let to = k.to top in
        let e = finish-exists d to top new serials' f.inside f.many in
        let both = send-over a ok d to top f.inside f.many c to (λ i b. b) codeword serials new serials' e.0 e.1 sent e.2 in
        let same = updated-unique a ok d to f.inside f.many codeword (takes to to serials top) f.full e.0 f.send.0 both.0 in
        record {
          inside = f.inside;
          many = f.many;
          full = e.0;
          stamps = e.1;
          send = e.2;
          sound = subst (λ (c : List ℕ). Sound a c ledger damaged) same f.sound;
        }

    -- the first send of a change, to whichever nodes: the ledger has it from here on
    finish-begin : (d : List ℕ) (to serial c : ℕ) (new serials' : List ℕ) → Parts a.b a.k d → within a.n to ≡ true → size to ≡ a.w → top < serial
        → Sound a codeword ledger damaged → Sent a d to serial c codeword serials new serials' → Finish a new serials' (plus ledger d) damaged d to serial
    finish-begin d to serial c new serials' hd hw hs above s sent =
        let e = finish-exists d to serial new serials' hw hs in
        let both = send-over a ok d to serial hw hs c to (λ i b. b) codeword serials new serials' e.0 e.1 sent e.2 in
        let one = send-whole a ok d to serial hw hs to (λ i b. b) codeword serials e.0 e.1 (λ j hj b. omega (arith, i.below j hj)) both in
        record {
          inside = hw;
          many = hs;
          full = e.0;
          stamps = e.1;
          send = e.2;
          sound = update-sound a codeword ledger damaged s d to e.0 hd one.0;
        }

    -- damage, open or not: what a send to all of W would leave is as before at every other node
    finish-damage : (d : List ℕ) (to serial nodes : ℕ) (bytes : List ℕ) → Finish a codeword serials ledger damaged d to serial
        → Finish a (damaged_word a codeword nodes bytes) serials ledger (λ j. damaged j || has nodes j) d to serial
    finish-damage d to serial nodes bytes f =
        let word = damaged_word a codeword nodes bytes in
        let e = finish-exists d to serial word serials f.inside f.many in
        let same = spread-unique a to ok f.inside f.many d e.2.0.slack f.send.0.slack e.2.0.vanishes f.send.0.vanishes in
        record {
          inside = f.inside;
          many = f.many;
          full = e.0;
          stamps = e.1;
          send = e.2;
          sound =
              record {
                slack = f.sound.slack;
                pair = f.sound.pair;
                holds = λ j p hj q hp. go j p hj hp e.0 e.2.0 same (damaged (suc j)) refl (has nodes (suc j)) refl q;
              };
        }
      where
        go : (j p : ℕ) → j < a.n → p < a.b → (full : List ℕ) (u : Updated a (damaged_word a codeword nodes bytes) d to (takes to to serials serial) full)
            → u.slack ≡ f.send.0.slack → (b : Bool) → damaged (suc j) ≡ b → (t : Bool) → has nodes (suc j) ≡ t → (b || t) ≡ false
            → cell a.b full j p ≡ block a ledger f.sound.slack (suc j) p
        go j p hj hp full u same true eb t et q = absurd (true≢false q)
        go j p hj hp full u same false eb true et q = absurd (true≢false q)
        go j p hj hp full u same false eb false et q = by (takes to to serials serial (suc j)) refl ∙ f.sound.holds j p hj eb hp
          where
            other : cell a.b (damaged_word a codeword nodes bytes) j p ≡ cell a.b codeword j p
            other = damaged-other a codeword bytes nodes j p hj hp et

            by : (t : Bool) → takes to to serials serial (suc j) ≡ t → cell a.b full j p ≡ cell a.b f.full j p
            by true e =
                u.added j p hj e hp ∙ ap₂ add other (ap (λ (v : List ℕ). block a d v (suc j) p) same) ∙ sym (f.send.0.added j p hj e hp)
            by false e = u.kept j p hj e hp ∙ other ∙ sym (f.send.0.kept j p hj e hp)

    pub finished-damage : (nodes : ℕ) (bytes : List ℕ) → Finished a codeword serials ledger damaged k top
        → Finished a (damaged_word a codeword nodes bytes) serials ledger (λ j. damaged j || has nodes j) k top
    finished-damage nodes bytes (whole closed s) = whole closed (damage-sound a codeword ledger damaged s nodes bytes)
    finished-damage nodes bytes (part sent f) = part sent (finish-damage (k.change top) (k.to top) top nodes bytes f)

    -- ---- sends, and what is then kept of them

    pub finished-begin : (d : List ℕ) (to serial c : ℕ) (new serials' : List ℕ) → Parts a.b a.k d → within a.n to ≡ true → size to ≡ a.w
        → top < serial → Sound a codeword ledger damaged → Sent a d to serial c codeword serials new serials'
        → Finished a new serials' (plus ledger d) damaged (sending d to serial c k) serial
    finished-begin d to serial c new serials' hd hw hs above s sent =
        part (sent-here d to serial c k)
        (subst (λ (d' : List ℕ). Finish a new serials' (plus ledger d) damaged d' ((sending d to serial c k).to serial) serial) (sym (change-here d to serial c k))
        (subst (λ (to' : ℕ). Finish a new serials' (plus ledger d) damaged d to' serial) (sym (to-here d to serial c k))
        (finish-begin d to serial c new serials' hd hw hs above s sent)))

    -- a further send moves nobody, if it is of a change before the last; else it leaves the last one's finish as it was
    module _ (d : List ℕ) (to serial c : ℕ) (sent : k.sent serial ≡ true) (same-to : to ≡ k.to serial) (same-change : d ≡ k.change serial) where
      -- what is kept of the last change is as it was
      part-again : (new serials' : List ℕ) → k.sent top ≡ true → Finish a new serials' ledger damaged (k.change top) (k.to top) top
          → Finished a new serials' ledger damaged (sending d to serial c k) top
      part-again new serials' e f =
          part (again-sent d to serial c k sent top ∙ e)
          (subst (λ (d' : List ℕ). Finish a new serials' ledger damaged d' ((sending d to serial c k).to top) top) (sym (again-change d to serial c k same-change top))
          (subst (λ (to' : ℕ). Finish a new serials' ledger damaged (k.change top) to' top) (sym (again-to d to serial c k same-to top)) f))

      earlier : Finished a codeword serials ledger damaged k top → Finished a codeword serials ledger damaged (sending d to serial c k) top
      earlier (whole closed s) =
          whole
          (λ t e j b.
          reached_still d to serial c k t j
          (closed t (sym (again-sent d to serial c k sent t) ∙ e) j (ap (λ (s : ℕ). has s j) (sym (again-to d to serial c k same-to t)) ∙ b)))
          s
      earlier (part e f) = part-again codeword serials e f

      module _ (new serials' : List ℕ) (full : length codeword ≡ a.n * a.b) (hw : within a.n to ≡ true) (hs : size to ≡ a.w)
          (s : Sent a d to serial c codeword serials new serials') (f : Finished a codeword serials ledger damaged k top) where
        before_last : serial < top → Finished a new serials' ledger damaged (sending d to serial c k) top
        before_last h =
            let high : (j : ℕ) → j < a.n → has to (suc j) ≡ true → has c (suc j) ≡ true → serial ≤ get_or serials j 0 =
            λ j hj b _.
            let there = ap (λ (s : ℕ). has s (suc j)) (sym same-to) ∙ b in i.marked serial sent j hj there (i.older serial sent h (suc j) there) in
            let still = send-still a ok d to serial c codeword serials new serials' full i.many high s in
            subst (λ (x : List ℕ). Finished a x serials' ledger damaged (sending d to serial c k) top) (sym still.0)
            (subst (λ (x : List ℕ). Finished a codeword x ledger damaged (sending d to serial c k) top) (sym still.1) (earlier f))

        the_last : serial ≡ top → Finished a new serials' ledger damaged (sending d to serial c k) top
        the_last q =
            let e = subst (λ (t : ℕ). k.sent t ≡ true) q sent in
            let to_is : to ≡ k.to top = same-to ∙ ap (λ (t : ℕ). k.to t) q in
            let d-is : d ≡ k.change top = same-change ∙ ap (λ (t : ℕ). k.change t) q in
            let last =
            subst (λ (x : List ℕ). Sent a x (k.to top) top c codeword serials new serials') d-is
            (subst (λ (x : ℕ). Sent a d x top c codeword serials new serials') to_is
            (subst (λ (x : ℕ). Sent a d to x c codeword serials new serials') q s)) in
            part-again new serials' e
            (finish-again c new serials'
            (finish e (subst (λ (x : ℕ). within a.n x ≡ true) to_is hw) (subst (λ (x : ℕ). size x ≡ a.w) to_is hs) f) last)

        pub finished-again : Finished a new serials' ledger damaged (sending d to serial c k) top
        finished-again = ⊎_elim before_last (λ h. the_last (omega (arith, h, i.latest serial sent))) (lt-or serial top)
