-- A season's output is determined by its input, and there is one for every input of bytes: each event has exactly one step and prints exactly one message,
-- and the count of events that are left falls with each turn. Every run keeps valid parameters in force, a record of n·b bytes and n serials. Assumes nothing.
use mathlib.Core.Path.{◌≡◌, refl, sym, ap, ap₂, ◌∙◌, subst}
use mathlib.Core.Logic.{⊎_elim}
use mathlib.Core.List.{List, [], ◌++◌}
use Prim.Native.Nat.{ℕ, zero, suc, ◌+◌, ◌*◌, ◌≤◌}
use native.Mathlib.Omega.{arith}
use lib.ListN.{length, take, replicate, length-replicate}
use Rattle.base.proofs.Cases.{lt-or, eq-or}
use Rattle.field.specs.Field.{Bytes}
use Rattle.field.proofs.Bytes.{bytes_take}
use Rattle.gates.specs.Gates.{encode_gate, decode_gate}
use Rattle.gates.proofs.Valid.{decode-accepted}
use Rattle.code.specs.Code.{used}
use Rattle.code.specs.Calls.{Decoded, EncodePost}
use Rattle.code.proofs.Pairs.{from-reads, pair-exists}
use Rattle.code.proofs.Determined.{encode-met, encode-once}
use Rattle.code.proofs.Theorems.{decode-message}
use Rattle.ledger.specs.Ledger.{Held, begun, History}
use Rattle.ledger.specs.Ledger as ledger
use Rattle.ledger.proofs.Whole.{Whole, step-whole, history-whole, step-exists, step-unique}
use Rattle.std.specs.Prelude.{Result, Ok, Err}
use Rattle.season_file.specs.File.{bytes_of, opening_of, item_at, kind_of, number_of}
use Rattle.season_lines.specs.Lines.{line_of}
use Rattle.season_answers.specs.Answers.{answer_of}
use Rattle.season_file.specs.declared.Event.{Event}
use Rattle.season_file.specs.declared.Event.TheVariants.{Update, Repair, Damage, Decode, Reconfigure}
use Rattle.season_file.specs.declared.Header.{Header}
use Rattle.season_file.specs.declared.Fault.{Fault}
use Rattle.season_file.specs.declared.Found.{Found}
use Rattle.season_file.specs.declared.FileFault.{FileFault}
use Rattle.season_effects.specs.Events.{listed, Prints}
use Rattle.season_run.specs.Season.{Tried, Place, Outcome, ended, on, Goes, over, leftover, faulty, tried, set_up_answer, Opens, refused}
use Rattle.season_run.specs.Season.{opened, Runs, done, turn, Season, season, FileOutput}
use Rattle.season_run.proofs.Events.{span-bytes, bytes-zeros, words-zeros, header-counted, found-good, typed}
use Rattle.season_effects.proofs.Answered.{answered}

-- ---- one message

-- an accepted reading has one message, ..
decoded-once : (h : Held) (from : ℕ) (x y : List ℕ) → decode_gate h.params (h.params.n * h.params.b) (h.params.k * h.params.b) from ≡ 0
    → Decoded h.params h.codeword from x → Decoded h.params h.codeword from y → x ≡ y
decoded-once h from x y z d d' =
    let g = (decode-accepted h.params _ _ from).0 z in
    decode-message h.params g.valid from g.from_within g.from_size y d'.slack h.codeword x d'.gives d

-- .. if the record consists of bytes
decoded-exists : (h : Held) (from : ℕ) → decode_gate h.params (h.params.n * h.params.b) (h.params.k * h.params.b) from ≡ 0
    → Bytes h.codeword → (x : List ℕ) × Decoded h.params h.codeword from x
decoded-exists h from z hb =
    let g = (decode-accepted h.params _ _ from).0 z in
    let e = pair-exists h.params g.valid (used h.params from) (from-reads h.params from g.valid g.from_within g.from_size) h.codeword hb in
    (e.0, record { slack = e.1; gives = e.2 })

prints-once : (h : Held) (serial : ℕ) (e : Event) (x y : List ℕ) → Prints h serial e x → Prints h serial e y → x ≡ y
unfolding answer_of
prints-once h serial (Update f) x y p q = p ∙ sym q
prints-once h serial (Repair f) x y p q = p ∙ sym q
prints-once h serial (Damage f) x y p q = p ∙ sym q
prints-once h serial (Decode f) x y p q =
    ⊎_elim (λ z. decoded-once h f.from.0 x y z (p.served z) (q.served z)) (λ ne. p.refused ne ∙ sym (q.refused ne))
    (eq-or (answer_of h.params serial (Decode f)) 0)
prints-once h serial (Reconfigure f) x y p q = p ∙ sym q

prints-exists : (h : Held) (serial : ℕ) (e : Event) → Bytes h.codeword → (x : List ℕ) × Prints h serial e x
unfolding answer_of
prints-exists h serial (Update f) hb = ([], refl)
prints-exists h serial (Repair f) hb = ([], refl)
prints-exists h serial (Damage f) hb = ([], refl)
prints-exists h serial (Decode f) hb =
    ⊎_elim
    (λ z. let d = decoded-exists h f.from.0 z hb in (d.0, record { served = λ _. d.1; refused = λ ne. absurd (ne z) }))
    (λ ne. ([], record { served = λ z. absurd (ne z); refused = λ _. refl })) (eq-or (answer_of h.params serial (Decode f)) 0)
prints-exists h serial (Reconfigure f) hb = ([], refl)

module _ (input : List ℕ) where
  -- ---- one turn

  abbrev pub Same : List ℕ → List ℕ → Outcome → Outcome → Type 0
  Same line line' outcome outcome' = (line ≡ line') × (outcome ≡ outcome')

  tried-once : {h h' h'' : Held} {number : ℕ} {e : Event} {line line' : List ℕ} → Tried input h number e line h' → Tried input h number e line' h''
      → (line ≡ line') × (h' ≡ h'')
  tried-once {h = h} {number = number} {e = e} t t' = (
    t.line_is
        ∙ ap (line_of number (kind_of e) (answer_of h.params number e)) (prints-once h number e t.message t'.message t.prints t'.prints)
        ∙ sym t'.line_is,
    (step-unique h (listed h input number e) t.step t'.step).1,
  )

  pub goes-once : {here : Place} {line line' : List ℕ} {outcome outcome' : Outcome} → Goes input here line outcome → Goes input here line' outcome'
      → Same line line' outcome outcome'
  goes-once (over z p) (over z' p') = (refl, refl)
  goes-once (over z p) (leftover z' p') = absurd (omega arith)
  goes-once (over z p) (faulty more f z' i) = absurd (omega arith)
  goes-once (over z p) (tried more f line h' z' i t) = absurd (omega arith)
  goes-once (leftover z p) (over z' p') = absurd (omega arith)
  goes-once (leftover z p) (leftover z' p') = (refl, refl)
  goes-once (leftover z p) (faulty more f z' i) = absurd (omega arith)
  goes-once (leftover z p) (tried more f line h' z' i t) = absurd (omega arith)
  goes-once (faulty more f z i) (over z' p') = absurd (omega arith)
  goes-once (faulty more f z i) (leftover z' p') = absurd (omega arith)
  goes-once {here} (faulty more f z i) (faulty more' f' z' i') =
      let e : f ≡ f' = cc in (ap (λ (f : Fault). line_of here.number f.kind (number_of f.fault) []) e, refl)
  goes-once (faulty more f z i) (tried more' f' line h' z' i' t) = let q : ◌≡◌ {A = ℕ} 0 1 = cc in absurd (omega arith)
  goes-once (tried more f line h' z i t) (over z' p') = absurd (omega arith)
  goes-once (tried more f line h' z i t) (leftover z' p') = absurd (omega arith)
  goes-once (tried more f line h' z i t) (faulty more' f' z' i') = let q : ◌≡◌ {A = ℕ} 0 1 = cc in absurd (omega arith)
  goes-once {here} (tried more f line h' z i t) (tried more' f' line' h'' z' i' t') =
      let e : f ≡ f' = cc in
      let n : more ≡ more' = omega arith in
      let s = tried-once t (subst (λ (f : Found). Tried input here.stands here.number f.event line' h'') (sym e) t') in
      (s.0, cc)

  -- ---- the opening

  abbrev SetUp : Header → ℕ → List ℕ → List ℕ → Type 0
  SetUp hd answer codeword serials =
      EncodePost hd.params (bytes_of input hd.message) (bytes_of input hd.slack) (replicate (hd.params.n * hd.params.b) 0)
      (replicate hd.params.n 0) answer codeword serials

  set-up-answer : (hd : Header) (answer : ℕ) (codeword serials : List ℕ) → SetUp hd answer codeword serials → answer ≡ set_up_answer input hd
  set-up-answer hd answer codeword serials post =
      post.number
      ∙ ap₂ (encode_gate hd.params (length (bytes_of input hd.message)) (length (bytes_of input hd.slack))) (length-replicate {A = ℕ} _ 0)
      (length-replicate {A = ℕ} _ 0)

  pub opens-once : {line line' : List ℕ} {outcome outcome' : Outcome} → Opens input line outcome → Opens input line' outcome'
      → Same line line' outcome outcome'
  opens-once (faulty fault i) (faulty fault' i') = let e : fault ≡ fault' = cc in (ap (λ (q : FileFault). line_of 0 0 (number_of q) []) e, refl)
  opens-once (faulty fault i) (refused hd i' ne) = let q : ◌≡◌ {A = ℕ} 0 1 = cc in absurd (omega arith)
  opens-once (faulty fault i) (opened hd codeword serials i' post) = let q : ◌≡◌ {A = ℕ} 0 1 = cc in absurd (omega arith)
  opens-once (refused hd i ne) (faulty fault i') = let q : ◌≡◌ {A = ℕ} 0 1 = cc in absurd (omega arith)
  opens-once (refused hd i ne) (refused hd' i' ne') =
      let e : hd ≡ hd' = cc in (ap (λ (hd : Header). line_of 0 0 (set_up_answer input hd) []) e, refl)
  opens-once (refused hd i ne) (opened hd' codeword serials i' post) =
      let e : hd ≡ hd' = cc in absurd (ne (ap (set_up_answer input) e ∙ sym (set-up-answer hd' 0 codeword serials post)))
  opens-once (opened hd codeword serials i post) (faulty fault i') = let q : ◌≡◌ {A = ℕ} 0 1 = cc in absurd (omega arith)
  opens-once (opened hd codeword serials i post) (refused hd' i' ne) =
      let e : hd ≡ hd' = cc in absurd (ne (ap (set_up_answer input) (sym e) ∙ sym (set-up-answer hd 0 codeword serials post)))
  opens-once (opened hd codeword serials i post) (opened hd' codeword' serials' i' post') =
      let e : hd ≡ hd' = cc in
      let once =
      encode-once hd.params (bytes_of input hd.message) (bytes_of input hd.slack) _ _ 0 0 codeword codeword' serials serials' post
      (subst (λ (hd : Header). SetUp hd 0 codeword' serials') (sym e) post') in
      let c = once.1 in
      let s = once.2 in
      (refl, cc)

  -- ---- the whole run

  runs-once : {outcome : Outcome} {rest rest' : List ℕ} → Runs input outcome rest → Runs input outcome rest' → rest ≡ rest'
  runs-once done done = refl
  runs-once (turn {rest = rest} g r) (turn {rest = rest'} g' r') =
      let s = goes-once g g' in ap₂ ◌++◌ s.0 (runs-once r (subst (λ (o : Outcome). Runs input o rest') (sym s.1) r'))

-- Two outputs of one input are the same, ..
pub output-unique : {input output output' : List ℕ} → Season input output → Season input output' → output ≡ output'
output-unique {input} (season o r) (season {rest = rest'} o' r') =
    let s = opens-once input o o' in
    ap₂ ◌++◌ s.0 (runs-once input r (subst (λ (o : Outcome). Runs input o rest') (sym s.1) r'))

-- How a run stands: what is held is whole, and an event's number and the count of those left never add up to more than 65,536.
abbrev pub Stands : Place → Type 0
Stands here = Whole here.stands × (here.number + here.left ≤ 65536)

module _ (input : List ℕ) (bytes : Bytes input) where
  -- ---- every run keeps a whole state

  -- the opening set-up is that of a list
  pub opens-history : {line : List ℕ} {here : Place} (hd : Header) → opening_of input ≡ Ok hd → Opens input line (on here)
      → History [] here.stands (ledger.opened hd.params (bytes_of input hd.message))
  opens-history hd i (opened hd' codeword serials i' post) =
      let e : hd' ≡ hd = cc in
      subst (λ (g : Header). History [] (begun hd'.params codeword serials) (ledger.opened g.params (bytes_of input g.message))) e
      (record {
        params = hd'.params;
        message = bytes_of input hd'.message;
        slack = bytes_of input hd'.slack;
        buffer = replicate (hd'.params.n * hd'.params.b) 0;
        numbers = replicate hd'.params.n 0;
        codeword = codeword;
        serials = serials;
        typed =
            (span-bytes input hd'.message bytes, span-bytes input hd'.slack bytes, bytes-zeros (hd'.params.n * hd'.params.b), words-zeros hd'.params.n);
        opening = post;
        run = ledger.done;
      })

  pub opens-stands : {line : List ℕ} {here : Place} → Opens input line (on here) → Stands here
  opens-stands (opened hd codeword serials i post) = (
    history-whole (opens-history hd i (opened hd codeword serials i post)),
    omega (arith, header-counted input hd bytes i),
  )

  pub goes-stands : {here : Place} {line : List ℕ} {here' : Place} → Stands here → Goes input here line (on here') → Stands here'
  goes-stands {here = here} (w, c) (tried more f line h' z i t) =
      let h = here.stands in
      let ty = typed h input here.number f.event bytes (omega arith) (found-good h.params input here.at f i) in
      (step-whole h (listed h input here.number f.event) w ty t.step, omega arith)

  -- ---- there is an output

  -- from a state where n events are left
  abbrev pub RunsWith : ℕ → Type 0
  RunsWith n = (here : Place) → here.left ≡ n → Stands here → (rest : List ℕ) × Runs input (on here) rest

  runs-more : (n : ℕ) → RunsWith n → RunsWith (suc n)
  runs-more n again here z (w, c) = go (item_at here.stands.params input here.at) refl
    where
      go : (i : Result Found Fault) → item_at here.stands.params input here.at ≡ i → (rest : List ℕ) × Runs input (on here) rest
      go (Err f) i = (_, turn (faulty n f z i) done)
      go (Ok f) i =
          let h = here.stands in
          let serial = here.number in
          let good = found-good h.params input here.at f i in
          let p = prints-exists h serial f.event w.bytes in
          let s = step-exists h (listed h input serial f.event) w (typed h input serial f.event bytes (omega arith) good) in
          let st = answered h input serial f.event (w.length_is, w.serials_length) good.found s.2 in
          let g = tried n f _ s.1 z i (record { message = p.0; prints = p.1; line_is = refl; step = st }) in
          (_, turn g (again _ refl (goes-stands (w, c) g)).1)

  pub runs-exist : (n : ℕ) → RunsWith n
  runs-exist zero here z w =
      ⊎_elim (λ more. (_, turn (leftover z more) done)) (λ none. (_, turn (over z none) done)) (lt-or here.at (length input))
  runs-exist (suc n) here z w = runs-more n (runs-exist n) here z w

  pub opens-exist : (line : List ℕ) × (outcome : Outcome) × Opens input line outcome
  opens-exist = go (opening_of input) refl
    where
      go : (i : Result Header FileFault) → opening_of input ≡ i → (line : List ℕ) × (outcome : Outcome) × Opens input line outcome
      go (Err fault) i = (_, _, faulty fault i)
      go (Ok hd) i =
          ⊎_elim
          (λ z.
          let m =
          encode-met hd.params (bytes_of input hd.message) (bytes_of input hd.slack) (replicate (hd.params.n * hd.params.b) 0)
          (replicate hd.params.n 0) in
          let e = set-up-answer input hd m.0 m.1 m.2 m.3 ∙ z in
          (_, _, opened hd m.1 m.2 i (subst (λ (q : ℕ). SetUp input hd q m.1 m.2) e m.3)))
          (λ ne. (_, _, refused hd i ne)) (eq-or (set_up_answer input hd) 0)

  outcome-runs : (outcome : Outcome) {line : List ℕ} → Opens input line outcome → (rest : List ℕ) × Runs input outcome rest
  outcome-runs ended o = ([], done)
  outcome-runs (on here) o = runs-exist here.left here refl (opens-stands o)

  -- .. and every input of bytes has one.
  pub output-exists : (output : List ℕ) × Season input output
  output-exists = let o = opens-exist in let r = outcome-runs o.1 o.2 in (_, season o.2 r.1)

-- A file of any length has exactly one output.
pub file-output : (file : List ℕ) → Bytes file
    → (output : List ℕ) × FileOutput file output × ((other : List ℕ) → FileOutput file other → other ≡ output)
file-output file bytes =
    let o = output-exists (take 65535 file) (bytes_take 65535 file bytes) in (o.0, o.1, λ other h. output-unique h o.1)
