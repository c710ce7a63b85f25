-- Sends of one change (document 02, 2026-03). Two of them are one that reaches the nodes of both: a node that took the change has its serial and does not take it
-- again. So whichever nodes each send reaches, once all of W was reached there is what one send to all of W would have left. Assumes nothing.
use mathlib.Core.Path.{◌≡◌, refl, sym, ap, ap₂, ◌∙◌}
use mathlib.Core.Bool.{Bool, true, false, ◌&&◌, ◌||◌, true≢false, and-false, or_assoc, or_comm}
use mathlib.Core.List.{List}
use Prim.Native.Nat.{ℕ, zero, suc, ◌*◌, ◌≤◌, ◌<◌}
use native.Mathlib.Omega.{arith}
use lib.Dec.{ltb}
use lib.ListN.{length, get_or}
use borrow.Author.Tests.{lt-ltb, le-ltb}
use Rattle.base.specs.Seq.{cell}
use Rattle.base.proofs.Seq.{cells_ext}
use Rattle.field.specs.Field.{add}
use Rattle.params.specs.Nodes.{has, size, within}
use Rattle.params.specs.declared.Params.{Params}
use Rattle.gates.specs.Gates.{update_gate}
use Rattle.gates.specs.Valid.{Valid}
use Rattle.gates.proofs.Valid.{update-accepted}
use Rattle.serials.specs.Serials.{takes, Stamped}
use Rattle.serials.proofs.Laws.{stamped-ext, stamped-unique}
use Rattle.code.specs.Code.{block}
use Rattle.code.specs.Calls.{Updated, Sent, UpdatePost}
use Rattle.code.specs.Sends.{Sendings, none, more, reached_by, Covers}
use Rattle.code.proofs.Pairs.{spread-unique}
use Rattle.code.proofs.Posts.{served}

-- ---- tests: of W, of what is reached, and whether the node's serial is below

-- a node whose own serial is this one, or a higher one, does not take it
not-taking : (b c : Bool) (own serial : ℕ) → serial ≤ own → ((b && c) && ltb own serial) ≡ false
not-taking b c own serial h = ap (λ (t : Bool). (b && c) && t) (le-ltb own serial h) ∙ and-false (b && c)

-- one that did not take the change from the first send takes it from both where it takes it from the second, ..
either : (b c₁ c₂ t : Bool) → ((b && c₁) && t) ≡ false → ((b && (c₁ || c₂)) && t) ≡ ((b && c₂) && t)
either true true c₂ true e = absurd (true≢false e)
either true true true false e = refl
either true true false false e = refl
either true false c₂ t e = refl
either false c₁ c₂ t e = refl

-- .. and one that did would take it from both
both : (b c₁ c₂ t : Bool) → ((b && c₁) && t) ≡ true → ((b && (c₁ || c₂)) && t) ≡ true
both true true c₂ true e = refl
both true true c₂ false e = absurd (true≢false (sym e))
both true false c₂ t e = absurd (true≢false (sym e))
both false c₁ c₂ t e = absurd (true≢false (sym e))

-- A choice reaches of W's nodes those that pass the test.
abbrev pub Reaches : (to c : ℕ) → (ℕ → Bool) → Type 0
Reaches to c f = (i : ℕ) → (has to i && has c i) ≡ (has to i && f i)

-- all of W, where all pass
pub reaches_all : (to : ℕ) (f : ℕ → Bool) → Covers f to → (c : ℕ) → Covers (has c) to → Reaches to c f
reaches_all to f all c cover i = go (has to i) (has c i) (f i) (cover i) (all i)
  where
    go : (b x y : Bool) → (b ≡ true → x ≡ true) → (b ≡ true → y ≡ true) → (b && x) ≡ (b && y)
    go false x y h k = refl
    go true x y h k = h refl ∙ sym (k refl)

-- ---- sends whose reached nodes are told by a test

abbrev taking : (to : ℕ) → (ℕ → Bool) → List ℕ → (serial : ℕ) → ℕ → Bool
taking to f s serial zero = false
taking to f s serial (suc j) = (has to (suc j) && f (suc j)) && ltb (get_or s j 0) serial

abbrev SentTo : Params → List ℕ → (to serial : ℕ) → (ℕ → Bool) → List ℕ → List ℕ → List ℕ → List ℕ → Type 0
SentTo a d to serial f old s new s₁ = Updated a old d to (taking to f s serial) new × Stamped a.n (taking to f s serial) serial s s₁

-- who takes the change is all that counts
retold : (a : Params) (d : List ℕ) (to serial : ℕ) (f g : ℕ → Bool) (old s new s₁ : List ℕ) → ((j : ℕ) → j < a.n → g (suc j) ≡ f (suc j))
    → Updated a old d to f new × Stamped a.n f serial s s₁ → Updated a old d to g new × Stamped a.n g serial s s₁
retold a d to serial f g old s new s₁ same (u, x) = (
  record {
    slack = u.slack;
    vanishes = u.vanishes;
    length_is = u.length_is;
    added = λ j p hj e hp. u.added j p hj (sym (same j hj) ∙ e) hp;
    kept = λ j p hj e hp. u.kept j p hj (sym (same j hj) ∙ e) hp;
  },
  stamped-ext (λ j hj. sym (same j hj)) x,
)

module _ (a : Params) (d : List ℕ) (to serial : ℕ) (old s new s₁ : List ℕ) where
  by-test : (c : ℕ) → Sent a d to serial c old s new s₁ → SentTo a d to serial (has c) old s new s₁
  by-test c = retold a d to serial (takes to c s serial) (taking to (has c) s serial) old s new s₁ (λ j hj. refl)

  by-choice : (c : ℕ) (f : ℕ → Bool) → Reaches to c f → SentTo a d to serial f old s new s₁ → Sent a d to serial c old s new s₁
  by-choice c f h =
      retold a d to serial (taking to f s serial) (takes to c s serial) old s new s₁ (λ j hj. ap (λ (b : Bool). b && ltb (get_or s j 0) serial) (h (suc j)))

module _ (a : Params) (ok : Valid a) (d : List ℕ) (to serial : ℕ) (hw : within a.n to ≡ true) (hs : size to ≡ a.w) where
  -- Two sends are one that reaches the nodes of both.
  join : (f g : ℕ → Bool) (old s mid s₁ new s₂ : List ℕ) → SentTo a d to serial f old s mid s₁ → SentTo a d to serial g mid s₁ new s₂
      → SentTo a d to serial (λ i. f i || g i) old s new s₂
  join f g old s mid s₁ new s₂ (u, x) (v, y) = (
    record {
      slack = u.slack;
      vanishes = u.vanishes;
      length_is = v.length_is;
      added = λ j p hj e hp. add-go j p hj hp (taking to f s serial (suc j)) refl e;
      kept = λ j p hj e hp. keep-go j p hj hp (taking to f s serial (suc j)) refl e;
    },
    record {
      length_is = y.length_is;
      taken = λ j hj e. take-go j hj (taking to f s serial (suc j)) refl e;
      kept = λ j hj e. left-go j hj (taking to f s serial (suc j)) refl e;
    },
  )
    where
      same : u.slack ≡ v.slack
      same = spread-unique a to ok hw hs d u.slack v.slack u.vanishes v.vanishes

      all : ℕ → Bool
      all j = (has to (suc j) && (f (suc j) || g (suc j))) && ltb (get_or s j 0) serial

      -- after the first send
      not-again : (j : ℕ) → j < a.n → taking to f s serial (suc j) ≡ true → taking to g s₁ serial (suc j) ≡ false
      not-again j hj e = not-taking (has to (suc j)) (g (suc j)) (get_or s₁ j 0) serial (omega (arith, x.taken j hj e))

      still : (j : ℕ) → j < a.n → taking to f s serial (suc j) ≡ false → taking to g s₁ serial (suc j) ≡ all j
      still j hj e =
          ap (λ (own : ℕ). (has to (suc j) && g (suc j)) && ltb own serial) (x.kept j hj e)
          ∙ sym (either (has to (suc j)) (f (suc j)) (g (suc j)) (ltb (get_or s j 0) serial) e)

      full : (j : ℕ) → taking to f s serial (suc j) ≡ true → all j ≡ true
      full j e = both (has to (suc j)) (f (suc j)) (g (suc j)) (ltb (get_or s j 0) serial) e

      add-go : (j p : ℕ) → j < a.n → p < a.b → (t : Bool) → taking to f s serial (suc j) ≡ t → all j ≡ true
          → cell a.b new j p ≡ add (cell a.b old j p) (block a d u.slack (suc j) p)
      add-go j p hj hp true e w = v.kept j p hj (not-again j hj e) hp ∙ u.added j p hj e hp
      add-go j p hj hp false e w =
          v.added j p hj (still j hj e ∙ w) hp
          ∙ ap₂ add (u.kept j p hj e hp) (ap (λ (x : List ℕ). block a d x (suc j) p) (sym same))

      keep-go : (j p : ℕ) → j < a.n → p < a.b → (t : Bool) → taking to f s serial (suc j) ≡ t → all j ≡ false
          → cell a.b new j p ≡ cell a.b old j p
      keep-go j p hj hp true e w = absurd (true≢false (sym (full j e) ∙ w))
      keep-go j p hj hp false e w = v.kept j p hj (still j hj e ∙ w) hp ∙ u.kept j p hj e hp

      take-go : (j : ℕ) → j < a.n → (t : Bool) → taking to f s serial (suc j) ≡ t → all j ≡ true → get_or s₂ j 0 ≡ serial
      take-go j hj true e w = y.kept j hj (not-again j hj e) ∙ x.taken j hj e
      take-go j hj false e w = y.taken j hj (still j hj e ∙ w)

      left-go : (j : ℕ) → j < a.n → (t : Bool) → taking to f s serial (suc j) ≡ t → all j ≡ false → get_or s₂ j 0 ≡ get_or s j 0
      left-go j hj true e w = absurd (true≢false (sym (full j e) ∙ w))
      left-go j hj false e w = y.kept j hj (still j hj e ∙ w) ∙ x.kept j hj e

  -- A second send that reaches all of W leaves what it alone would have left.
  pub send-over : (c₁ c : ℕ) → Covers (has c) to → (old s mid s₁ new s₂ : List ℕ) → Sent a d to serial c₁ old s mid s₁ → Sent a d to serial c mid s₁ new s₂
      → Sent a d to serial c old s new s₂
  send-over c₁ c cover old s mid s₁ new s₂ u v =
      by-choice a d to serial old s new s₂ c (λ i. has c₁ i || has c i) (reaches_all to _ (λ i e. last (has c₁ i) (has c i) (cover i e)) c cover)
      (join (has c₁) (has c) old s mid s₁ new s₂ (by-test a d to serial old s mid s₁ c₁ u) (by-test a d to serial mid s₁ new s₂ c v))
    where
      last : (x y : Bool) → y ≡ true → (x || y) ≡ true
      last true y e = refl
      last false y e = e

  -- A send that reaches all of W, under a serial above theirs, is the whole change of document 01.
  pub send-whole : (c : ℕ) → Covers (has c) to → (old s new s₁ : List ℕ) → ((j : ℕ) → j < a.n → has to (suc j) ≡ true → get_or s j 0 < serial)
      → Sent a d to serial c old s new s₁ → Updated a old d to (has to) new × Stamped a.n (has to) serial s s₁
  send-whole c all old s new s₁ low = retold a d to serial (takes to c s serial) (has to) old s new s₁ same
    where
      same : (j : ℕ) → j < a.n → has to (suc j) ≡ takes to c s serial (suc j)
      same j hj = go (has to (suc j)) refl
        where
          go : (b : Bool) → has to (suc j) ≡ b → has to (suc j) ≡ takes to c s serial (suc j)
          go true e = e ∙ sym (ap₂ ◌&&◌ (ap₂ ◌&&◌ e (all (suc j) e)) (lt-ltb _ _ (low j hj e)))
          go false e = e ∙ sym (ap (λ (b : Bool). (b && has c (suc j)) && ltb (get_or s j 0) serial) e)

-- A node of W that is reached and has the serial, or a higher one, does not take the change; nor does one that is not reached, or not of W.
pub none-takes : (to serial c : ℕ) (s : List ℕ) (j : ℕ) → (has to (suc j) ≡ true → has c (suc j) ≡ true → serial ≤ get_or s j 0)
    → takes to c s serial (suc j) ≡ false
none-takes to serial c s j high = go (has to (suc j)) refl (has c (suc j)) refl
  where
    go : (b : Bool) → has to (suc j) ≡ b → (r : Bool) → has c (suc j) ≡ r → takes to c s serial (suc j) ≡ false
    go true e true f = not-taking (has to (suc j)) (has c (suc j)) (get_or s j 0) serial (high e f)
    go true e false f = ap₂ (λ (x y : Bool). (x && y) && ltb (get_or s j 0) serial) e f
    go false e r f = ap (λ (x : Bool). (x && has c (suc j)) && ltb (get_or s j 0) serial) e

-- So a send whose reached nodes of W all have the serial, or a higher one, moves nobody.
pub send-still : (a : Params) → Valid a → (d : List ℕ) (to serial c : ℕ) (old s new s₁ : List ℕ) → length old ≡ a.n * a.b → length s ≡ a.n
    → ((j : ℕ) → j < a.n → has to (suc j) ≡ true → has c (suc j) ≡ true → serial ≤ get_or s j 0) → Sent a d to serial c old s new s₁
    → (new ≡ old) × (s₁ ≡ s)
send-still a ok d to serial c old s new s₁ full many high (u, x) =
    let none : (j : ℕ) → j < a.n → takes to c s serial (suc j) ≡ false = λ j hj. none-takes to serial c s j (high j hj) in (
      cells_ext a.b a.n new old ok.b_low u.length_is full (λ j p hj hp. u.kept j p hj (none j hj) hp),
      stamped-unique x (record { length_is = many; taken = λ j hj e. absurd (true≢false (sym e ∙ none j hj)); kept = λ j hj e. refl }),
    )

-- ---- any number of sends

-- After an accepted send the same change is accepted again: the lengths are as they were.
pub send-accepted : {a : Params} {d : List ℕ} {to serial : ℕ} (reached : ℕ) {old s new s₁ : List ℕ} → UpdatePost a d to serial reached old s 0 new s₁
    → update_gate a (length new) (length s₁) (length d) to serial ≡ 0
send-accepted {a} {d} {to} {serial} reached post =
    let g = (update-accepted a _ _ _ to serial).0 (sym post.number) in
    let t = post.served refl in
    (update-accepted a _ _ _ to serial).1
    (record {
      valid = g.valid;
      codeword_length = t.0.length_is;
      serials_length = t.1.length_is;
      change_length = g.change_length;
      to_within = g.to_within;
      to_size = g.to_size;
      serial_low = g.serial_low;
    })

-- Sends of one change are one send that reaches the nodes of all.
sends-one : {a : Params} {d : List ℕ} {to serial : ℕ} {old s mid s₁ new s₂ : List ℕ} (sends : Sendings a d to serial old s mid s₁) (reached : ℕ)
    → UpdatePost a d to serial reached mid s₁ 0 new s₂
    → (update_gate a (length old) (length s) (length d) to serial ≡ 0) × SentTo a d to serial (λ i. reached_by sends i || has reached i) old s new s₂
sends-one {a} {d} {to} {serial} {mid = mid} {s₁ = s₁} {new = new} {s₂ = s₂} none reached last =
    (sym last.number, by-test a d to serial mid s₁ new s₂ reached (last.served refl))
sends-one {a} {d} {to} {serial} {old} {s} {new = new} {s₂ = s₂} (more {codeword' = codeword'} {serials' = serials'} c first rest) reached last =
    let g = (update-accepted a _ _ _ to serial).0 (sym first.number) in
    let after = (sends-one rest reached last).1 in (
      sym first.number,
      retold a d to serial _ _ old s new s₂
          (λ j hj. ap (λ (b : Bool). (has to (suc j) && b) && ltb (get_or s j 0) serial) (or_assoc (has c (suc j)) (reached_by rest (suc j)) (has reached (suc j))))
          (join a g.valid d to serial g.to_within g.to_size (has c) (λ i. reached_by rest i || has reached i) old s codeword' serials' new s₂
          (by-test a d to serial old s codeword' serials' c (first.served refl)) after),
    )

-- After any sends of one change, if these and a last one together reach all of W, there is what one send to all of W would have left, ..
pub resend : {a : Params} {d : List ℕ} {to serial : ℕ} {old s mid s₁ new s₂ : List ℕ} (sends : Sendings a d to serial old s mid s₁) (reached : ℕ)
    → Covers (λ i. reached_by sends i || has reached i) to → UpdatePost a d to serial reached mid s₁ 0 new s₂
    → UpdatePost a d to serial to old s 0 new s₂
resend {a} {d} {to} {serial} {old} {s} {new = new} {s₂ = s₂} sends reached all last =
    let one = sends-one sends reached last in
    served _ one.0 (by-choice a d to serial old s new s₂ to (λ i. reached_by sends i || has reached i) (reaches_all to _ all to (λ i e. e)) one.1)

-- .. which, if W's serials were below the change's, is the whole change of document 01, W's nodes having its serial.
pub resend-whole : {a : Params} {d : List ℕ} {to serial : ℕ} {old s mid s₁ new s₂ : List ℕ} (sends : Sendings a d to serial old s mid s₁) (reached : ℕ)
    → Covers (λ i. reached_by sends i || has reached i) to → ((j : ℕ) → j < a.n → has to (suc j) ≡ true → get_or s j 0 < serial)
    → UpdatePost a d to serial reached mid s₁ 0 new s₂ → Updated a old d to (has to) new × Stamped a.n (has to) serial s s₂
resend-whole {a} {d} {to} {serial} {old} {s} {new = new} {s₂ = s₂} sends reached all low last =
    let post = resend sends reached all last in
    let g = (update-accepted a _ _ _ to serial).0 (sym post.number) in
    send-whole a g.valid d to serial g.to_within g.to_size to (λ i e. e) old s new s₂ low (post.served refl)

-- One send more, and the nodes that all of them reach.
pub one_more : {a : Params} {d : List ℕ} {to serial : ℕ} {old s mid s₁ new s₂ : List ℕ} (sends : Sendings a d to serial old s mid s₁) (reached : ℕ)
    → UpdatePost a d to serial reached mid s₁ 0 new s₂
    → (all : Sendings a d to serial old s new s₂) × ((i : ℕ) → reached_by all i ≡ (reached_by sends i || has reached i))
one_more none reached last = (more reached last none, λ i. or_comm (has reached i) false)
one_more (more c first rest) reached last =
    let r = one_more rest reached last in
    (more c first r.0, λ i. ap (λ (b : Bool). has c i || b) (r.1 i) ∙ sym (or_assoc (has c i) (reached_by rest i) (has reached i)))
