-- The answer to an event is the number of the list's event, where its blocks were read in full, the record in force has n·b bytes and there are n serials. By cases on
-- its kind. Assumes nothing.
use mathlib.Core.Path.{◌≡◌, refl, sym, ◌∙◌, subst}
use mathlib.Core.List.{List}
use Prim.Native.Nat.{ℕ, ◌*◌}
use lib.ListN.{length, replicate, length-replicate}
use Rattle.base.proofs.Parts.{length-lent}
use Rattle.gates.specs.Gates.{update_gate, repair_gate, damage_gate, decode_gate, reconfigure_gate}
use Rattle.ledger.specs.Ledger.{Held, Step, updated, repaired, reconfigured, decoded, damaged}
use Rattle.season_file.specs.File.{bytes_of}
use Rattle.season_answers.specs.Answers.{answer_of}
use Rattle.season_file.specs.declared.Span.{Span}
use Rattle.season_file.specs.declared.Event.{Event}
use Rattle.season_file.specs.declared.Event.TheVariants.{Update, Repair, Damage, Decode, Reconfigure}
use Rattle.season_effects.specs.Events.{listed}
use Rattle.season_effects.specs.Effects.{Stretch, InFull}

pub stretch-length : (input : List ℕ) (s : Span) (count : ℕ) → Stretch (length input) s count → length (bytes_of input s) ≡ count
stretch-length input s count h = length-lent s.at s.count input h.inside ∙ h.counted

-- the gate that its call's post-condition cites, on the lengths of what it is lent
abbrev pub gate : Held → List ℕ → (serial : ℕ) → Event → ℕ
gate h input serial (Update f) =
    update_gate h.params (length h.codeword) (length h.serials) (length (bytes_of input f.change)) f.to.0 serial
gate h input serial (Repair f) = repair_gate h.params (length h.codeword) (length h.serials) f.from.0 f.lost.0
gate h input serial (Damage f) = damage_gate h.params.n f.nodes.0
gate h input serial (Decode f) =
    decode_gate h.params (length h.codeword) (length (replicate {A = ℕ} (h.params.k * h.params.b) 0)) f.from.0
gate h input serial (Reconfigure f) =
    reconfigure_gate h.params f.shape (length h.codeword) (length h.serials) (length (replicate {A = ℕ} (f.shape.n * h.params.b) 0))
    (length (replicate {A = ℕ} f.shape.n 0)) (length (bytes_of input f.message)) f.from.0 f.to.0

-- Every step of it answers that number, ..
step-answer : (h : Held) (input : List ℕ) (serial : ℕ) (e : Event) {q : ℕ} {h' : Held} → Step h (listed h input serial e) q h'
    → q ≡ gate h input serial e
step-answer h input serial (Update f) (updated answer new serials post) = post.number
step-answer h input serial (Repair f) (repaired answer new serials post) = post.number
step-answer h input serial (Damage f) (damaged e) = e
step-answer h input serial (Decode f) (decoded answer out post) = post.number
step-answer h input serial (Reconfigure f) (reconfigured answer new serials post) = post.number

-- a record of n·b bytes and n serials
abbrev pub Full : Held → Type 0
Full h = (length h.codeword ≡ h.params.n * h.params.b) × (length h.serials ≡ h.params.n)

-- .. which is the answer that the event prints.
pub answer-is-gate : (h : Held) (input : List ℕ) (serial : ℕ) (e : Event) → Full h → InFull h.params (length input) e
    → answer_of h.params serial e ≡ gate h input serial e
unfolding answer_of
answer-is-gate h input serial (Update f) (l, m) i = let s = stretch-length input f.change _ i in cc
answer-is-gate h input serial (Repair f) (l, m) i = cc
answer-is-gate h input serial (Damage f) (l, m) i = refl
answer-is-gate h input serial (Decode f) (l, m) i = let r = length-replicate {A = ℕ} (h.params.k * h.params.b) 0 in cc
answer-is-gate h input serial (Reconfigure f) (l, m) i =
    let r = length-replicate {A = ℕ} (f.shape.n * h.params.b) 0 in
    let q = length-replicate {A = ℕ} f.shape.n 0 in
    let s = stretch-length input f.message _ i in cc

-- So a step of it answers what is printed.
pub answered : (h : Held) (input : List ℕ) (serial : ℕ) (e : Event) {q : ℕ} {h' : Held} → Full h → InFull h.params (length input) e
    → Step h (listed h input serial e) q h' → Step h (listed h input serial e) (answer_of h.params serial e) h'
answered h input serial e {h' = h'} l i st =
    subst (λ (q : ℕ). Step h (listed h input serial e) q h') (step-answer h input serial e st ∙ sym (answer-is-gate h input serial e l i)) st
