-- What the calls leave of a buffer whose front they were lent, as the effect of a file's event. Assumes nothing.
use mathlib.Core.Path.{◌≡◌, refl, sym, ap, ◌∙◌, subst, subst₂}
use mathlib.Core.Bool.{Bool, true, false, cond}
use mathlib.Core.List.{List, [], ◌++◌}
use Prim.Native.Nat.{ℕ, zero, suc, ◌+◌, ◌-◌, ◌*◌, ◌^◌, ◌≤◌, ◌<◌}
use native.Mathlib.Omega.{arith}
use lib.ListN.{length, take, drop, length-replicate}
use lib.Seq.{length-take-le, ext_get_or}
use Rattle.base.specs.Seq.{cell}
use Rattle.base.proofs.Parts.{row_ends}
use Rattle.base.proofs.Seq.{cells_ext, cell-blocks, length-blocks}
use Rattle.gates.specs.Valid.{Valid}
use Rattle.params.specs.declared.Params.{Params}
use Rattle.params.specs.Nodes.{has, size, count}
use Rattle.params.specs.Params.{reshaped}
use Rattle.params.proofs.Sets.{has-none, within_has}
use Rattle.serials.specs.Serials.{Stamped}
use Rattle.std.specs.Prelude.{Err}
use Rattle.gates.specs.Refusals.{number}
use Rattle.gates.specs.declared.Refusal.{Refusal}
use Rattle.gates.proofs.Refusals.{number-not-0}
use Rattle.gates.proofs.Valid.{damage-accepted, reconfigure-accepted}
use Rattle.code.specs.Calls.{UpdatePost, RepairPost, DecodePost, ReconfigurePost, Reconfigured}
use Rattle.blocks.specs.Bytes.{over}
use Rattle.placing.specs.Placed.{Puttable, PutPost}
use Rattle.ledger.specs.Ledger as ledger
use Rattle.ledger.specs.Ledger.{Held, begun, damaged_word, damaged_held, Step, updated, repaired, decoded, reconfigured, damaged}
use Rattle.ledger.proofs.Invariant.{moved_same, damaged-same}
use Rattle.season_file.specs.File.{bytes_of}
use Rattle.season_answers.specs.Answers.{answer_of}
use Rattle.season_file.specs.declared.Event.{Event}
use Rattle.season_file.specs.declared.Event.TheVariants.{Update, Repair, Damage, Decode, Reconfigure}
use Rattle.season_file.specs.declared.UpdateFields.{UpdateFields}
use Rattle.season_file.specs.declared.RepairFields.{RepairFields}
use Rattle.season_file.specs.declared.DamageFields.{DamageFields}
use Rattle.season_file.specs.declared.DecodeFields.{DecodeFields}
use Rattle.season_file.specs.declared.ReconfigureFields.{ReconfigureFields}
use Rattle.season_effects.specs.Events.{listed, Prints, held_in}
use Rattle.season_effects.specs.Effects.{Stretch, InFull, Accepted, Ready, Effected, laid, Taken, EffectPost}
use Rattle.season_effects.proofs.Answered.{stretch-length, gate, Full, answer-is-gate, answered}
use Rattle.season_effects.proofs.Fronts.{blocks-room, front-take, front-drop, front_length, over-front, part-is}

-- an event that leaves the given record and serials at the front
fronted : (a a' : Params) (input : List ℕ) (serial : ℕ) (e : Event) (buffer serials new numbers message : List ℕ) → a'.n * a'.b ≤ length buffer
    → a'.n ≤ length serials → length new ≡ a'.n * a'.b → length numbers ≡ a'.n → Prints (held_in a buffer serials) serial e message
    → Step (held_in a buffer serials) (listed (held_in a buffer serials) input serial e) (answer_of a serial e) (begun a' new numbers)
    → Effected a input serial e buffer serials a' message (new ++ drop (a'.n * a'.b) buffer) (numbers ++ drop a'.n serials)
fronted a a' input serial e buffer serials new numbers message fits room full count prints step =
    record {
      prints = prints;
      step =
          subst₂
          (λ (l k : List ℕ). Step (held_in a buffer serials) (listed (held_in a buffer serials) input serial e) (answer_of a serial e) (begun a' l k))
          (sym (front-take (a'.n * a'.b) buffer new fits full)) (sym (front-take a'.n serials numbers room count)) step;
      length_is = front_length (a'.n * a'.b) buffer new fits full;
      rest = front-drop (a'.n * a'.b) buffer new fits full;
      serials_length = front_length a'.n serials numbers room count;
      serials_rest = front-drop a'.n serials numbers room count;
    }

-- one that leaves all as it was
unmoved : (a : Params) (input : List ℕ) (serial : ℕ) (e : Event) (buffer serials message : List ℕ) → Prints (held_in a buffer serials) serial e message
    → Step (held_in a buffer serials) (listed (held_in a buffer serials) input serial e) (answer_of a serial e) (held_in a buffer serials)
    → Effected a input serial e buffer serials a message buffer serials
unmoved a input serial e buffer serials message prints step =
    record { prints = prints; step = step; length_is = refl; rest = refl; serials_length = refl; serials_rest = refl }

-- the record at the front of a buffer has n·b bytes, and there are n serials at the front of theirs
pub front-full : (a : Params) (buffer serials : List ℕ) → Valid a → length buffer ≡ 32768 → length serials ≡ 32 → Full (held_in a buffer serials)
front-full a buffer serials v room count =
    let nb : a.n * a.b ≤ 32768 = blocks-room a a.n v (omega arith) in
    (length-take-le (a.n * a.b) buffer (omega arith), length-take-le a.n serials (omega (arith, v.shape.n_high)))

-- ---- the room

-- nothing is laid in it
quiet : (q : ℕ) (a : Params) (input : List ℕ) (serial : ℕ) (e : Event) (buffer serials room buffer' serials' : List ℕ)
    → [] ≡ laid q e [] (take (a.n * a.b) buffer') → Effected a input serial e buffer serials a [] buffer' serials'
    → Taken a input serial e buffer serials room q (record { params = a; printed = 0 }) buffer' serials' room
quiet q a input serial e buffer serials room buffer' serials' none x =
    record { effected = x; printed_fits = omega arith; work = []; work_is = none; room_is = refl }

-- .. by an accepted event
abbrev Quiet : Params → List ℕ → ℕ → Event → List ℕ → List ℕ → List ℕ → List ℕ → List ℕ → Type 0
Quiet a input serial e buffer serials room buffer' serials' =
    Taken a input serial e buffer serials room 0 (record { params = a; printed = 0 }) buffer' serials' room

-- ---- change and rebuild

module _ (a : Params) (v : Valid a) (buffer serials new numbers : List ℕ) (hb : length buffer ≡ 32768) (hs : length serials ≡ 32)
    (full : length new ≡ a.n * a.b) (count : length numbers ≡ a.n) where
  -- the call's step, in the buffers
  stepped-in : (input : List ℕ) (serial : ℕ) (e : Event) → InFull a (length input) e → Prints (held_in a buffer serials) serial e [] → {q : ℕ}
      → Step (held_in a buffer serials) (listed (held_in a buffer serials) input serial e) q (begun a new numbers)
      → Effected a input serial e buffer serials a [] (new ++ drop (a.n * a.b) buffer) (numbers ++ drop a.n serials)
  stepped-in input serial e i prints step =
      fronted a a input serial e buffer serials new numbers [] (omega (arith, blocks-room a a.n v (omega arith))) (omega (arith, v.shape.n_high)) full
      count prints (answered (held_in a buffer serials) input serial e (front-full a buffer serials v hb hs) i step)

  pub update-applied : (input : List ℕ) (serial : ℕ) (f : UpdateFields) (answer : ℕ) → Stretch (length input) f.change (a.k * a.b)
      → UpdatePost a (take (f.change.at + f.change.count - f.change.at) (drop f.change.at input)) f.to.0 serial f.to.0
      (take (a.n * a.b) buffer) (take a.n serials) answer new numbers
      → (room : List ℕ) → Quiet a input serial (Update f) buffer serials room (new ++ drop (a.n * a.b) buffer) (numbers ++ drop a.n serials)
  update-applied input serial f answer s post room =
      quiet 0 a input serial (Update f) buffer serials room _ _ refl
      (stepped-in input serial (Update f) s refl
      (updated answer new numbers
      (subst (λ (d : List ℕ). UpdatePost a d f.to.0 serial f.to.0 (take (a.n * a.b) buffer) (take a.n serials) answer new numbers)
      (part-is input f.change) post)))

  pub repair-applied : (f : RepairFields) (answer : ℕ)
      → RepairPost a f.from.0 f.lost.0 (take (a.n * a.b) buffer) (take a.n serials) answer new numbers → (input room : List ℕ) (serial : ℕ)
      → Quiet a input serial (Repair f) buffer serials room (new ++ drop (a.n * a.b) buffer) (numbers ++ drop a.n serials)
  repair-applied f answer post input room serial =
      quiet 0 a input serial (Repair f) buffer serials room _ _ refl (stepped-in input serial (Repair f) tt refl (repaired answer new numbers post))

-- ---- damage

module _ (a : Params) (input : List ℕ) (f : DamageFields) (buffer : List ℕ) (v : Valid a) (hb : length buffer ≡ 32768)
    (s : Stretch (length input) f.blocks (size f.nodes.0 * a.b)) (word : f.nodes.0 < 2 ^ 32) (z : Accepted a (Damage f)) where
  fits : a.n * a.b ≤ length buffer
  fits = omega (arith, blocks-room a a.n v (omega arith))

  whole : length (take (a.n * a.b) buffer) ≡ a.n * a.b
  whole = length-take-le (a.n * a.b) buffer fits

  -- the nodes are all within n, and there is a block for each
  puttable : Puttable a.b f.nodes.0 (length (take (a.n * a.b) buffer)) (length (bytes_of input f.blocks))
  unfolding answer_of
  puttable =
      record {
        inside = (
          v.b_low,
          λ j e.
              row_ends a.n j a.b _ ((within_has a.n f.nodes.0 word).0 ((damage-accepted a.n f.nodes.0).0 z.1) (suc j) e) (omega (arith, whole)),
        );
        room = stretch-length input f.blocks _ s;
      }

  module _ (new : List ℕ) (put : PutPost a.b f.nodes.0 (bytes_of input f.blocks) (take (a.n * a.b) buffer) new) where
    full : length new ≡ a.n * a.b
    full = put.same ∙ whole

    damaged-word : damaged_word a (take (a.n * a.b) buffer) f.nodes.0 (bytes_of input f.blocks) ≡ new
    unfolding damaged_word
    damaged-word =
        cells_ext a.b a.n _ _ v.b_low (length-blocks a.b a.n _) full
        (λ j p hj hp. cell-blocks a.b a.n _ j p hj hp ∙ by j p hp (has f.nodes.0 (suc j)) refl)
      where
        by : (j p : ℕ) → p < a.b → (t : Bool) → has f.nodes.0 (suc j) ≡ t
            → cond t (cell a.b (bytes_of input f.blocks) (count (has f.nodes.0) j) p) (cell a.b (take (a.n * a.b) buffer) j p) ≡ cell a.b new j p
        by j p hp true e = sym (put.put puttable j p e hp)
        by j p hp false e = sym (put.others j p e hp)

    effected : (serials : List ℕ) (serial : ℕ)
        → Effected a input serial (Damage f) buffer serials a [] (new ++ drop (a.n * a.b) buffer) serials
    unfolding answer_of
    effected serials serial =
        record {
          prints = refl;
          step =
              subst
              (λ (l : List ℕ).
              Step (held_in a buffer serials) (ledger.damage f.nodes.0 (bytes_of input f.blocks)) (answer_of a serial (Damage f)) (begun a l (take a.n serials)))
              (damaged-word ∙ sym (front-take (a.n * a.b) buffer new fits full))
              (subst
              (λ (q : ℕ).
              Step (held_in a buffer serials) (ledger.damage f.nodes.0 (bytes_of input f.blocks)) (answer_of a serial (Damage f))
              (damaged_held q (held_in a buffer serials) f.nodes.0 (bytes_of input f.blocks)))
              z.1 (damaged refl));
          length_is = front_length (a.n * a.b) buffer new fits full;
          rest = front-drop (a.n * a.b) buffer new fits full;
          serials_length = refl;
          serials_rest = refl;
        }

  pub damage-applied : (new : List ℕ)
      → PutPost a.b f.nodes.0 (take (f.blocks.at + f.blocks.count - f.blocks.at) (drop f.blocks.at input)) (take (a.n * a.b) buffer) new
      → (room serials : List ℕ) (serial : ℕ) → Quiet a input serial (Damage f) buffer serials room (new ++ drop (a.n * a.b) buffer) serials
  damage-applied new put room serials serial =
      quiet 0 a input serial (Damage f) buffer serials room _ _ refl
      (effected new
      (subst (λ (fresh : List ℕ). PutPost a.b f.nodes.0 fresh (take (a.n * a.b) buffer) new) (part-is input f.blocks) put) serials serial)

-- ---- reading

pub decode-applied : (a : Params) (f : DecodeFields) (buffer room out : List ℕ) (answer : ℕ) → Valid a → length buffer ≡ 32768 → length room ≡ 32768
    → Accepted a (Decode f) → length out ≡ a.k * a.b
    → DecodePost a (take (a.n * a.b) buffer) f.from.0 (take (a.k * a.b) room) answer out → (input serials : List ℕ) (serial : ℕ)
    → length serials ≡ 32
    → Taken a input serial (Decode f) buffer serials room 0 (record { params = a; printed = a.k * a.b }) buffer serials
    (out ++ drop (a.k * a.b) room)
unfolding answer_of
decode-applied a f buffer room out answer v hb hr (_, z) full post input serials serial hs =
    let kb : a.k * a.b ≤ 32768 = blocks-room a a.k v (omega arith) in
    let lb = front-full a buffer serials v hb hs in
    let lr = length-take-le (a.k * a.b) room (omega arith) in
    let lz = length-replicate {A = ℕ} (a.k * a.b) 0 in
    let zero : answer ≡ 0 = post.number ∙ cc in
    let d = post.served zero in
    let front = front-take (a.k * a.b) room out (omega arith) full in
    record {
      effected =
          unmoved a input serial (Decode f) buffer serials _
          (subst (λ (m : List ℕ). Prints (held_in a buffer serials) serial (Decode f) m) (sym front) (record { served = λ _. d; refused = λ ne. absurd (ne z) }))
          (answered (held_in a buffer serials) input serial (Decode f) lb tt
          (decoded 0 out (record { number = cc; served = λ _. d; refused = λ ne. absurd (ne refl) })));
      printed_fits = kb;
      work = out;
      work_is = sym front;
      room_is = ap (λ (m : ℕ). out ++ drop m room) (sym full);
    }

-- ---- rearrangement

pub new-valid : (a : Params) (f : ReconfigureFields) → Accepted a (Reconfigure f) → Valid (reshaped a f.shape)
unfolding answer_of
new-valid a f (_, z) = ((reconfigure-accepted a f.shape _ _ _ _ _ _ _).0 z).valid_new

-- serials that no node takes are copied
copied : (n serial : ℕ) (old new : List ℕ) → length old ≡ n → Stamped n (has 0) serial old new → new ≡ old
copied n serial old new e s =
    ext_get_or 0 new old (s.length_is ∙ sym e) (λ j h. s.kept j (omega (arith, s.length_is)) (has-none (suc j)))

module _ (a : Params) (input : List ℕ) (f : ReconfigureFields) (z : Accepted a (Reconfigure f)) (buffer serials room fresh : List ℕ)
    (h : Ready a (length input) (Reconfigure f) (length buffer) (length serials) (length room)) (hf : length fresh ≡ 32) (new numbers : List ℕ) (answer : ℕ)
    (full : length new ≡ f.shape.n * a.b) (count : length numbers ≡ f.shape.n)
    (post
    : ReconfigurePost a f.shape (take (a.n * a.b) buffer) (take a.n serials) f.from.0 f.to.0
    (take (f.message.at + f.message.count - f.message.at) (drop f.message.at input)) (take (f.shape.n * a.b) room) (take f.shape.n fresh)
    answer new numbers) where
  new-fits : f.shape.n * a.b ≤ 32768
  new-fits = blocks-room (reshaped a f.shape) f.shape.n (new-valid a f z) (omega arith)

  new-few : f.shape.n ≤ 32
  new-few = (new-valid a f z).shape.n_high

  -- the call's step
  reconfigure-step : (serial : ℕ)
      → Step (held_in a buffer serials) (listed (held_in a buffer serials) input serial (Reconfigure f)) (answer_of a serial (Reconfigure f))
      (begun (reshaped a f.shape) new numbers)
  unfolding answer_of
  reconfigure-step serial =
      let lb = front-full a buffer serials h.valid h.record_room h.serials_room in
      let bytes = lb.0 in
      let words = lb.1 in
      let lr = length-take-le (f.shape.n * a.b) room (omega (arith, new-fits, h.work_room)) in
      let lf = length-take-le f.shape.n fresh (omega (arith, new-few)) in
      let lz = length-replicate {A = ℕ} (f.shape.n * a.b) 0 in
      let ls = length-replicate {A = ℕ} f.shape.n 0 in
      let pi = part-is input f.message in
      let lm = stretch-length input f.message _ h.found in
      let accepted = z.1 in
      let zero : answer ≡ 0 = post.number ∙ cc in
      let served = post.served zero in
      let d = subst (λ (x : List ℕ). Reconfigured a f.shape (take (a.n * a.b) buffer) f.from.0 f.to.0 x new) pi served.0 in
      answered (held_in a buffer serials) input serial (Reconfigure f) lb h.found
      (reconfigured 0 new numbers (record { number = cc; served = λ _. (d, served.1); refused = λ ne. absurd (ne refl) }))

  pub reconfigure-applied : (buffer' : List ℕ) → buffer' ≡ over buffer (take (f.shape.n * a.b) (new ++ drop (f.shape.n * a.b) room))
      → (serials' : List ℕ)
      → Stamped (length (take f.shape.n serials)) (has 0) 0 (take f.shape.n (numbers ++ drop f.shape.n fresh)) serials' → (serial : ℕ)
      → Taken a input serial (Reconfigure f) buffer serials room 0 (record { params = reshaped a f.shape; printed = 0 }) buffer'
      (serials' ++ drop f.shape.n serials) (new ++ drop (f.shape.n * a.b) room)
  reconfigure-applied buffer' e serials' handed serial =
      let fits : f.shape.n * a.b ≤ length buffer = omega (arith, new-fits, h.record_room) in
      let few : f.shape.n ≤ length serials = omega (arith, new-few, h.serials_room) in
      let whole : buffer' ≡ new ++ drop (f.shape.n * a.b) buffer =
      e ∙ ap (over buffer) (front-take (f.shape.n * a.b) room new (omega (arith, new-fits, h.work_room)) full)
      ∙ over-front (f.shape.n * a.b) buffer new fits full in
      let front = front-take f.shape.n fresh numbers (omega (arith, new-few)) count in
      let same : serials' ≡ numbers =
      copied _ 0 _ serials' (ap length front ∙ count ∙ sym (length-take-le f.shape.n serials few)) handed ∙ front in
      record {
        effected =
            subst₂ (λ (l k : List ℕ). Effected a input serial (Reconfigure f) buffer serials (reshaped a f.shape) [] l (k ++ drop f.shape.n serials))
            (sym whole) (sym same)
            (fronted a (reshaped a f.shape) input serial (Reconfigure f) buffer serials new numbers [] fits few full count refl (reconfigure-step serial));
        printed_fits = omega arith;
        work = new;
        work_is = sym (ap (take (f.shape.n * a.b)) whole ∙ front-take (f.shape.n * a.b) buffer new fits full);
        room_is = ap (λ (m : ℕ). new ++ drop m room) (sym full);
      }

-- ---- a refused event

-- its call would leave all as it was
refused-step : (h : Held) (input : List ℕ) (serial : ℕ) (e : Event) (q : ℕ) → q ≡ gate h input serial e → (q ≡ 0 → ⊥)
    → Step h (listed h input serial e) q h
refused-step h input serial (Update f) q g ne = updated q _ _ (record { number = g; served = λ z. absurd (ne z); refused = λ _. (refl, refl) })
refused-step h input serial (Repair f) q g ne = repaired q _ _ (record { number = g; served = λ z. absurd (ne z); refused = λ _. (refl, refl) })
refused-step h input serial (Damage f) q g ne =
    subst (Step h (listed h input serial (Damage f)) q) (damaged-same q h f.nodes.0 (bytes_of input f.blocks) ne) (damaged g)
refused-step h input serial (Decode f) q g ne = decoded q _ (record { number = g; served = λ z. absurd (ne z); refused = λ _. refl })
refused-step h input serial (Reconfigure f) q g ne =
    subst (Step h (listed h input serial (Reconfigure f)) q) (moved_same q h h.params f.shape _ _ ne)
    (reconfigured q _ _ (record { number = g; served = λ z. absurd (ne z); refused = λ _. (refl, refl) }))

refused-prints : (h : Held) (serial : ℕ) (e : Event) → (answer_of h.params serial e ≡ 0 → ⊥) → Prints h serial e []
refused-prints h serial (Update f) ne = refl
refused-prints h serial (Repair f) ne = refl
refused-prints h serial (Damage f) ne = refl
refused-prints h serial (Decode f) ne = record { served = λ z. absurd (ne z); refused = λ _. refl }
refused-prints h serial (Reconfigure f) ne = refl

none-laid : (q : ℕ) (e : Event) (message codeword : List ℕ) → (q ≡ 0 → ⊥) → [] ≡ laid q e message codeword
none-laid zero e message codeword ne = absurd (ne refl)
none-laid (suc q) e message codeword ne = refl

pub refused-applied : (q : Refusal) (a : Params) (input : List ℕ) (serial : ℕ) (e : Event) (buffer serials room : List ℕ) → number q ≡ answer_of a serial e
    → EffectPost a input serial e buffer serials room (Err q) buffer serials room
refused-applied q a input serial e buffer serials room is =
    record {
      answer_is = is;
      served = λ h.
          let no : answer_of a serial e ≡ 0 → ⊥ = λ z. number-not-0 q (is ∙ z) in
          let held = held_in a buffer serials in
          let g = answer-is-gate held input serial e (front-full a buffer serials h.valid h.record_room h.serials_room) h.found in
          quiet (number q) a input serial e buffer serials room buffer serials (none-laid (number q) e _ _ (number-not-0 q))
          (unmoved a input serial e buffer serials [] (refused-prints held serial e no) (refused-step held input serial e (answer_of a serial e) g no));
      refused = λ _. record { params_kept = refl; nothing_printed = refl; buffer_kept = refl; serials_kept = refl; room_kept = refl };
    }
