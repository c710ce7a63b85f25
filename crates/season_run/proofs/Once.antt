-- The contracts of `begin` and `turn` settle the answer and all three buffers. A turn has one line and one outcome (Output.antt), which are the front of the
-- buffers; what is behind them is as it was. That a call is served can be told, and one that is not does nothing. Assumes nothing.
use mathlib.Core.Path.{◌≡◌, refl, sym, ap, ap₂, ◌∙◌, subst}
use mathlib.Core.Logic.{◌⊎◌, inl, inr, ⊎_elim}
use mathlib.Core.List.{List, ◌++◌}
use Prim.Native.Nat.{ℕ, ◌*◌, ◌≤◌}
use native.Mathlib.Omega.{arith}
use lib.ListN.{length, take, drop, take-append-drop}
use Rattle.base.specs.Gate.{first_no}
use Rattle.base.proofs.Cases.{lt-or, eq-or}
use Rattle.base.proofs.Questions.{first-zero}
use Rattle.params.specs.declared.Params.{Params}
use Rattle.gates.specs.Gates.{params_asked}
use Rattle.gates.specs.Valid.{Valid}
use Rattle.gates.proofs.Valid.{valid-of, params-yes}
use Rattle.std.specs.Prelude.{Option, None, Some}
use Rattle.season_lines.specs.Lines.{Wrote}
use Rattle.season_run.specs.Season.{Place, Outcome, place_of, outcome_of, record_end, serials_end, Room, Turned, Idle, BeginPost, Standing, TurnPost}
use Rattle.season_run.specs.declared.State.{State}
use Rattle.season_run.specs.declared.Turn.{Turn}
use Rattle.season_run.proofs.Output.{goes-once, opens-once}

-- ---- a call is served or not

-- two facts that can be told, told together
both-or : {A B : Type 0} → A ⊎ (A → ⊥) → B ⊎ (B → ⊥) → (A × B) ⊎ (A × B → ⊥)
both-or (inl a) (inl b) = inl (a, b)
both-or (inl a) (inr nb) = inr (λ h. nb h.1)
both-or (inr na) b = inr (λ h. na h.0)

-- .. and one that is as good as another
same_or : {A B : Type 0} → (A → B) → (B → A) → A ⊎ (A → ⊥) → B ⊎ (B → ⊥)
same_or f g (inl a) = inl (f a)
same_or f g (inr na) = inr (λ b. na (g b))

room-or : (buffer serials line : List ℕ) → Room buffer serials line ⊎ (Room buffer serials line → ⊥)
room-or buffer serials line =
    same_or (λ h. record { record_room = h.0; serials_room = h.1.0; line_room = h.1.1 })
    (λ r. (r.record_room, (r.serials_room, r.line_room)))
    (both-or (eq-or (length buffer) 32768) (both-or (eq-or (length serials) 32) (eq-or (length line) 65600)))

valid-or : (a : Params) → Valid a ⊎ (Valid a → ⊥)
valid-or a = same_or (λ z. valid-of a (sym z)) (λ v. first-zero _ (params-yes a v tt)) (eq-or (first_no (params_asked a)) 0)

le-or : (a b : ℕ) → (a ≤ b) ⊎ (a ≤ b → ⊥)
le-or a b = ⊎_elim (λ gt. inr (λ h. absurd (omega arith))) (λ le. inl le) (lt-or b a)

standing-or : (s : State) → Standing s ⊎ (Standing s → ⊥)
standing-or s =
    same_or (λ h. record { valid = h.0; countable = h.1 }) (λ t. (t.valid, t.countable)) (both-or (valid-or s.params) (le-or s.number 65536))

-- ---- what the outcome says of how the run goes on, and of the buffers' fronts

record SameFronts (m m' : Option State) (buffer buffer' serials serials' : List ℕ) : Type 0 where
  goes_on : m ≡ m'
  record_same : take (record_end m) buffer ≡ take (record_end m) buffer'
  serials_same : take (serials_end m) serials ≡ take (serials_end m) serials'

-- a place without what is held
abbrev state_of : Place → State
state_of p = record { params = p.stands.params; number = p.number; left = p.left; at = p.at }

fronts-once : (m m' : Option State) (buffer buffer' serials serials' : List ℕ) → outcome_of m buffer serials ≡ outcome_of m' buffer' serials'
    → SameFronts m m' buffer buffer' serials serials'
fronts-once None None buffer buffer' serials serials' e = record { goes_on = refl; record_same = refl; serials_same = refl }
fronts-once None (Some s) buffer buffer' serials serials' e = let q : ◌≡◌ {A = ℕ} 0 1 = cc in absurd (omega arith)
fronts-once (Some s) None buffer buffer' serials serials' e = let q : ◌≡◌ {A = ℕ} 0 1 = cc in absurd (omega arith)
fronts-once (Some s) (Some s') buffer buffer' serials serials' e =
    let p : place_of s buffer serials ≡ place_of s' buffer' serials' = cc in
    record {
      goes_on = ap (λ (p : Place). Some (state_of p)) p;
      record_same =
          ap (λ (p : Place). p.stands.codeword) p ∙ ap (λ (p : Place). take (p.stands.params.n * p.stands.params.b) buffer') (sym p);
      serials_same = ap (λ (p : Place). p.stands.serials) p ∙ ap (λ (p : Place). take p.stands.params.n serials') (sym p);
    }

-- a buffer is its front and what is behind it
whole-once : (n : ℕ) (l l' : List ℕ) → take n l ≡ take n l' → drop n l ≡ drop n l' → l ≡ l'
whole-once n l l' t d = sym (take-append-drop n l) ∙ ap₂ ◌++◌ t d ∙ take-append-drop n l'

wrote-once : {text text' old new new' : List ℕ} {written written' : ℕ} → text ≡ text' → Wrote text old written new → Wrote text' old written' new'
    → (written ≡ written') × (new ≡ new')
wrote-once {old = old} e w w' = (
  w.count ∙ ap length e ∙ sym w'.count,
  w.bytes ∙ ap (λ (t : List ℕ). t ++ drop (length t) old) e ∙ sym w'.bytes,
)

-- ---- the two contracts

abbrev made : ℕ → Option State → Turn
made written next = record { written = written; next = next }

module _ (buffer serials line : List ℕ) {t t₁ : Turn} {buffer' buffer'' serials' serials'' line' line'' : List ℕ} where
  turned-once : {Result : List ℕ → Outcome → Type 0}
      → ((text text' : List ℕ) (o o' : Outcome) → Result text o → Result text' o' → (text ≡ text') × (o ≡ o'))
      → Turned Result buffer serials line t buffer' serials' line' → Turned Result buffer serials line t₁ buffer'' serials'' line''
      → (t ≡ t₁) × (buffer' ≡ buffer'') × (serials' ≡ serials'') × (line' ≡ line'')
  turned-once once x y =
      let r = once _ _ _ _ x.result y.result in
      let f = fronts-once t.next t₁.next buffer' buffer'' serials' serials'' r.1 in
      let w = wrote-once r.0 x.wrote y.wrote in (
        ap₂ made w.0 f.goes_on,
        whole-once (record_end t.next) buffer' buffer'' f.record_same
            (x.rest ∙ sym (subst (λ (m : Option State). drop (record_end m) buffer'' ≡ drop (record_end m) buffer) (sym f.goes_on) y.rest)),
        whole-once (serials_end t.next) serials' serials'' f.serials_same
            (x.serials_rest ∙ sym (subst (λ (m : Option State). drop (serials_end m) serials'' ≡ drop (serials_end m) serials) (sym f.goes_on) y.serials_rest)),
        w.1,
      )

  idle-once : Idle buffer serials line t buffer' serials' line' → Idle buffer serials line t₁ buffer'' serials'' line''
      → (t ≡ t₁) × (buffer' ≡ buffer'') × (serials' ≡ serials'') × (line' ≡ line'')
  idle-once x y = (
    x.ends ∙ sym y.ends,
    x.buffer_kept ∙ sym y.buffer_kept,
    x.serials_kept ∙ sym y.serials_kept,
    x.line_kept ∙ sym y.line_kept,
  )

-- The set-up, ..
pub begin-once : (input buffer serials line : List ℕ) {t t₁ : Turn} {buffer' buffer'' serials' serials'' line' line'' : List ℕ}
    → BeginPost input buffer serials line t buffer' serials' line' → BeginPost input buffer serials line t₁ buffer'' serials'' line''
    → (t ≡ t₁) × (buffer' ≡ buffer'') × (serials' ≡ serials'') × (line' ≡ line'')
begin-once input buffer serials line x y =
    ⊎_elim (λ room. turned-once buffer serials line (λ text text' o o'. opens-once input) (x.served room) (y.served room))
    (λ none. idle-once buffer serials line (x.refused none) (y.refused none)) (room-or buffer serials line)

-- .. and a turn from any state, whatever the buffers hold.
pub turn-once : (input : List ℕ) (s : State) (buffer serials line : List ℕ) {t t₁ : Turn} {buffer' buffer'' serials' serials'' line' line'' : List ℕ}
    → TurnPost input s buffer serials line t buffer' serials' line' → TurnPost input s buffer serials line t₁ buffer'' serials'' line''
    → (t ≡ t₁) × (buffer' ≡ buffer'') × (serials' ≡ serials'') × (line' ≡ line'')
turn-once input s buffer serials line x y =
    ⊎_elim (λ can. turned-once buffer serials line (λ text text' o o'. goes-once input) (x.served can) (y.served can))
    (λ none. idle-once buffer serials line (x.refused none) (y.refused none)) (both-or (room-or buffer serials line) (standing-or s))
