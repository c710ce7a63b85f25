-- The turns as the specification has them, from what the functions below them did to the three buffers. Assumes nothing.
use mathlib.Core.Path.{◌≡◌, refl, sym, ap, ap₂, ◌∙◌, subst, subst₂}
use mathlib.Core.List.{List, [], ◌++◌}
use mathlib.Core.Logic.{◌⊎◌, inl, inr, ⊎_elim}
use Prim.Native.Nat.{ℕ, ◌+◌, ◌-◌, ◌*◌, ◌≤◌, ◌<◌}
use native.Mathlib.Numerals.{add-one}
use native.Mathlib.Omega.{arith}
use lib.ListN.{length, take, drop, length-replicate, take-append-drop}
use lib.Seq.{length-take-le}
use Rattle.base.specs.Gate.{first_no}
use Rattle.gates.specs.Gates.{params_asked, encode_gate}
use Rattle.gates.specs.Valid.{Valid}
use Rattle.params.specs.declared.Params.{Params}
use Rattle.base.proofs.Questions.{first, stopped}
use Rattle.gates.proofs.Valid.{valid-of, encode-accepted}
use Rattle.code.specs.Calls.{EncodePost}
use Rattle.ledger.specs.Ledger.{begun}
use Rattle.std.specs.Prelude.{Option, None, Some, Ok, unwrap_or}
use Rattle.season_file.specs.File.{bytes_of, opening_of, item_at, kind_of}
use Rattle.season_lines.specs.Lines.{line_of, Wrote, LinePost}
use Rattle.season_answers.specs.Answers.{answer_of}
use Rattle.season_file.specs.declared.Found.{Found}
use Rattle.season_file.specs.declared.Header.{Header}
use Rattle.season_run.specs.Season.{Outcome, ended, on, Goes, tried, set_up_answer, Opens, refused, opened, place_of, outcome_of, Turned}
use Rattle.season_run.specs.Turning.{Ended}
use Rattle.season_run.specs.declared.State.{State}
use Rattle.season_run.specs.declared.Turn.{Turn}
use Rattle.season_effects.specs.Events.{held_in}
use Rattle.season_answers.specs.Records.{RecordLength}
use Rattle.season_effects.specs.Effects.{Effected}
use Rattle.season_effects.proofs.Fronts.{blocks-room, front-take, front-drop, front_length, part-is}

-- a turn that prints a last line
pub ended-turn : (Result : List ℕ → Outcome → Type 0) (number kind answer : ℕ) (buffer serials line : List ℕ) (t : Turn) (line' : List ℕ)
    → Ended number kind answer line t line' → Result (line_of number kind answer []) ended → Turned Result buffer serials line t buffer serials line'
ended-turn Result number kind answer buffer serials line t line' e result =
    record {
      text = line_of number kind answer [];
      result = subst (λ (n : Option State). Result (line_of number kind answer []) (outcome_of n buffer serials)) (sym e.ends) result;
      wrote = e.wrote;
      length_is = refl;
      rest = refl;
      serials_length = refl;
      serials_rest = refl;
    }

-- one that prints nothing
pub silent-turn : (Result : List ℕ → Outcome → Type 0) (buffer serials line : List ℕ) (t : Turn) → t ≡ record { written = 0; next = None }
    → Result [] ended → Turned Result buffer serials line t buffer serials line
silent-turn Result buffer serials line t e result =
    subst (λ (t : Turn). Turned Result buffer serials line t buffer serials line) (sym e)
    (record {
      text = [];
      result = result;
      wrote = record { count = refl; bytes = refl };
      length_is = refl;
      rest = refl;
      serials_length = refl;
      serials_rest = refl;
    })

-- ---- the set-up

-- parameters that no set-up accepts are refused before a length is looked at
invalid-gate : (a : Params) (message slack codeword serials codeword' serials' : ℕ) → (Valid a → ⊥)
    → encode_gate a message slack codeword serials ≡ encode_gate a message slack codeword' serials'
unfolding encode_gate
invalid-gate a message slack codeword serials codeword' serials' bad =
    let ne : first_no (params_asked a) ≡ 0 → ⊥ = λ z. bad (valid-of a (sym z)) in
    sym (first _ (stopped (params_asked a) _ refl ne)) ∙ first _ (stopped (params_asked a) _ refl ne)

-- the length of a record, 0 for parameters that no set-up accepts
abbrev pub Size : Params → ℕ → Type 0
Size a size = (Valid a × (size ≡ a.n * a.b)) ⊎ ((Valid a → ⊥) × (size ≡ 0))

pub size_of : (a : Params) (length : Option ℕ) (size : ℕ) → RecordLength a length → size ≡ unwrap_or length 0 → Size a size
size_of a None size r e = inr (r, e)
size_of a (Some length) size r e = inl (r.0, e ∙ r.1)

-- a record fits the buffer
pub size_fits : (a : Params) (size : ℕ) → Size a size → size ≤ 32768
size_fits a size = ⊎_elim (λ v. omega (arith, v.1, blocks-room a a.n v.0 (omega arith))) (λ n. omega (arith, n.1))

module _ (input : List ℕ) (hd : Header) (whole : opening_of input ≡ Ok hd) (buffer serials : List ℕ) (room : length buffer ≡ 32768)
    (count : length serials ≡ 32) (size nodes : ℕ) (record-size : Size hd.params size) (few : nodes ≤ 32)
    (all : hd.params.n ≤ 32 → nodes ≡ hd.params.n) where
  -- the answer of the call is that of the set-up
  number_is : encode_gate hd.params (length (bytes_of input hd.message)) (length (bytes_of input hd.slack)) (length (take size buffer))
      (length (take nodes serials)) ≡ set_up_answer input hd
  number_is =
      let l = length-take-le size buffer (omega (arith, size_fits hd.params size record-size)) in
      let k = length-take-le nodes serials (omega arith) in
      ⊎_elim (λ v. let s = v.1 in let n = all v.0.shape.n_high in cc) (λ n. invalid-gate hd.params _ _ _ _ _ _ n.0) record-size

  module _ (new numbers : List ℕ) (answer : ℕ) (full : length new ≡ length (take size buffer)) (each : length numbers ≡ length (take nodes serials))
      (post
      : EncodePost hd.params (take (hd.message.at + hd.message.count - hd.message.at) (drop hd.message.at input))
      (take (hd.slack.at + hd.slack.count - hd.slack.at) (drop hd.slack.at input)) (take size buffer) (take nodes serials) answer new numbers) where
    set-up-post : EncodePost hd.params (bytes_of input hd.message) (bytes_of input hd.slack) (take size buffer) (take nodes serials) answer new numbers
    set-up-post =
        subst₂ (λ (x v : List ℕ). EncodePost hd.params x v (take size buffer) (take nodes serials) answer new numbers) (part-is input hd.message)
        (part-is input hd.slack) post

    pub set-up-refused : (answer ≡ 0 → ⊥) → (line : List ℕ) (t : Turn) (line' : List ℕ) → Ended 0 0 answer line t line'
        → Turned (Opens input) buffer serials line t (new ++ drop size buffer) (numbers ++ drop nodes serials) line'
    set-up-refused ne line t line' e =
        let n : answer ≡ set_up_answer input hd = set-up-post.number ∙ number_is in
        let kept = set-up-post.refused ne in
        let bytes : new ++ drop size buffer ≡ buffer = ap (λ (l : List ℕ). l ++ drop size buffer) kept.0 ∙ take-append-drop size buffer in
        let words : numbers ++ drop nodes serials ≡ serials = ap (λ (l : List ℕ). l ++ drop nodes serials) kept.1 ∙ take-append-drop nodes serials in
        subst₂ (λ (b k : List ℕ). Turned (Opens input) buffer serials line t b k line') (sym bytes) (sym words)
        (ended-turn (Opens input) 0 0 answer buffer serials line t line' e
        (subst (λ (q : ℕ). Opens input (line_of 0 0 q []) ended) (sym n) (refused hd whole (λ z. ne (n ∙ z)))))

    pub set-up-accepted : answer ≡ 0 → (line : List ℕ) (written : ℕ) (line' : List ℕ) → LinePost 0 0 0 [] line written line' → 64 ≤ length line
        → Turned (Opens input) buffer serials line
        (record { written = written; next = Some (record { params = hd.params; number = 1; left = hd.events; at = hd.at }) })
        (new ++ drop size buffer) (numbers ++ drop nodes serials) line'
    set-up-accepted z line written line' w h =
        let a = hd.params in
        let g = (encode-accepted a _ _ _ _).0 (sym set-up-post.number ∙ z) in
        let s : size ≡ a.n * a.b = sym (length-take-le size buffer (omega (arith, size_fits hd.params size record-size))) ∙ g.codeword_length in
        let q : nodes ≡ a.n = sym (length-take-le nodes serials (omega arith)) ∙ g.serials_length in
        let f : length new ≡ a.n * a.b = full ∙ g.codeword_length in
        let f' : length numbers ≡ a.n = each ∙ g.serials_length in
        let fits : a.n * a.b ≤ length buffer = omega (arith, size_fits hd.params size record-size) in
        let fits' : a.n ≤ length serials = omega arith in
        let e : new ++ drop size buffer ≡ new ++ drop (a.n * a.b) buffer = ap (λ (m : ℕ). new ++ drop m buffer) s in
        let e' : numbers ++ drop nodes serials ≡ numbers ++ drop a.n serials = ap (λ (m : ℕ). numbers ++ drop m serials) q in
        let t : Turn = record { written = written; next = Some (record { params = a; number = 1; left = hd.events; at = hd.at }) } in
        subst₂ (λ (b k : List ℕ). Turned (Opens input) buffer serials line t b k line') (sym e) (sym e')
        (record {
          text = line_of 0 0 0 [];
          result =
              subst₂
              (λ (l k : List ℕ). Opens input (line_of 0 0 0 []) (on (record { stands = begun a l k; number = 1; left = hd.events; at = hd.at })))
              (sym (front-take (a.n * a.b) buffer new fits f)) (sym (front-take a.n serials numbers fits' f'))
              (opened hd new numbers whole
              (record {
                number =
                    sym
                    (ap₂ (encode_gate a (length (bytes_of input hd.message)) (length (bytes_of input hd.slack))) (length-replicate {A = ℕ} _ 0)
                    (length-replicate {A = ℕ} _ 0) ∙ sym number_is ∙ sym set-up-post.number ∙ z);
                served = λ _. set-up-post.served z;
                refused = λ ne. absurd (ne refl);
              }));
          wrote = w.served h;
          length_is = front_length (a.n * a.b) buffer new fits f;
          rest = front-drop (a.n * a.b) buffer new fits f;
          serials_length = front_length a.n serials numbers fits' f';
          serials_rest = front-drop a.n serials numbers fits' f';
        })

-- ---- an event

module _ (input : List ℕ) (s : State) (found : Found) (whole : item_at s.params input s.at ≡ Ok found) (buffer serials line : List ℕ)
    (room : length line ≡ 65600) where
  pub event-turn : (params : Params) (message buffer' serials' : List ℕ) (kind answer written : ℕ) (line' : List ℕ) → 0 < s.left
      → Effected s.params input s.number found.event buffer serials params message buffer' serials' → length message ≤ 32768
      → kind ≡ kind_of found.event → answer ≡ answer_of s.params s.number found.event
      → LinePost s.number kind answer message line written line'
      → Turned (Goes input (place_of s buffer serials)) buffer serials line
      (record { written = written; next = Some (record { params = params; number = s.number + 1; left = s.left - 1; at = found.next }) }) buffer' serials'
      line'
  event-turn params message buffer' serials' kind answer written line' more e short k q post =
      let text = line_of s.number (kind_of found.event) (answer_of s.params s.number found.event) message in
      let after = held_in params buffer' serials' in
      record {
        text = text;
        result =
            subst
            (λ (n : ℕ). Goes input (place_of s buffer serials) text (on (record { stands = after; number = n; left = s.left - 1; at = found.next })))
            (sym (add-one s.number))
            (tried (s.left - 1) found text after (omega arith) whole
            (record { message = message; prints = e.prints; line_is = refl; step = e.step }));
        wrote = subst₂ (λ (k q : ℕ). Wrote (line_of s.number k q message) line written line') k q (post.served (omega arith));
        length_is = e.length_is;
        rest = e.rest;
        serials_length = e.serials_length;
        serials_rest = e.serials_rest;
      }
