-- What the file's definitions say of an event that was found: its blocks stand within the input and have their length, its bytes are bytes and its sets have 32 bits.
-- By cases on its kind. Assumes nothing.
use mathlib.Core.Path.{◌≡◌, refl, subst}
use mathlib.Core.Bool.{Bool, true, false, cond}
use mathlib.Core.List.{List}
use Prim.Native.Nat.{ℕ, ◌+◌, ◌*◌, ◌^◌, ◌≤◌, ◌<◌}
use native.Mathlib.Omega.{arith}
use lib.Dec.{ltb, eqb}
use lib.ListN.{length, get_or, drop, replicate}
use borrow.Author.Tests.{ltb-false}
use Rattle.base.proofs.Seq.{tabulate-zeros, zeros-at}
use Rattle.field.specs.Field.{Bytes}
use Rattle.field.proofs.Bytes.{bytes-tabulate, bytes_take, bytes_drop}
use Rattle.params.specs.declared.Params.{Params}
use Rattle.serials.specs.Serials.{Words32}
use Rattle.ledger.specs.Ledger.{Held, Typed}
use Rattle.std.specs.Prelude.{Ok, Err}
use Rattle.season_file.specs.File.{number_at, choice_at, bytes_of, events_count_at, opening_of, event_at, end_of, unknown, item_at}
use Rattle.season_file.specs.declared.Span.{Span}
use Rattle.season_file.specs.declared.Event.{Event}
use Rattle.season_file.specs.declared.Event.TheVariants.{Update, Repair, Damage, Decode, Reconfigure}
use Rattle.season_file.specs.declared.Fault.{Fault}
use Rattle.season_file.specs.declared.Found.{Found}
use Rattle.season_file.specs.declared.Header.{Header}
use Rattle.season_file.specs.declared.FileFault.{FileFault}
use Rattle.season_effects.specs.Events.{listed}
use Rattle.season_effects.specs.Effects.{InFull}

-- ---- numbers and blocks of an input of bytes

pub bytes-zeros : (n : ℕ) → Bytes (replicate n 0)
bytes-zeros n = subst Bytes (tabulate-zeros n) (bytes-tabulate n (λ i. 0) (λ i hi. omega arith))

pub words-zeros : (n : ℕ) → Words32 (replicate n 0)
words-zeros n j = omega (arith, zeros-at n j)

pub span-bytes : (input : List ℕ) (s : Span) → Bytes input → Bytes (bytes_of input s)
span-bytes input s h = bytes_take s.count (drop s.at input) (bytes_drop s.at input h)

choice-small : (input : List ℕ) (at : ℕ) → Bytes input → choice_at input at < 2 ^ 32
unfolding choice_at
choice-small input at h = omega (arith, h at, h (at + 1), h (at + 2), h (at + 2 + 1))

-- ---- the sections before the events

-- the one choice that ends at a header
header_of : (b₁ b₂ b₃ : Bool) (u v w : FileFault) (h hd : Header)
    → cond b₁ (Err u) (cond b₂ (cond b₃ (Err v) (Ok h)) (Err w)) ≡ Ok hd
    → (b₃ ≡ false) × (h ≡ hd)
header_of true b₂ b₃ u v w h hd e = let z : ◌≡◌ {A = ℕ} 0 1 = cc in absurd (omega arith)
header_of false true true u v w h hd e = let z : ◌≡◌ {A = ℕ} 0 1 = cc in absurd (omega arith)
header_of false true false u v w h hd e = (refl, cc)
header_of false false b₃ u v w h hd e = let z : ◌≡◌ {A = ℕ} 0 1 = cc in absurd (omega arith)

-- message and slack stand within the input
pub header-inside : (input : List ℕ) (hd : Header) → opening_of input ≡ Ok hd
    → (hd.message.at + hd.message.count ≤ length input) × (hd.slack.at + hd.slack.count ≤ length input)
unfolding opening_of
header-inside input hd e =
    let w = header_of (ltb (length input) 2) (eqb (number_at input 0) 5) (ltb (length input) (events_count_at input + 2)) _ _ _ _ hd e in
    let h : events_count_at input + 2 ≤ length input = ltb-false _ _ w.0 in
    subst (λ (g : Header). (g.message.at + g.message.count ≤ length input) × (g.slack.at + g.slack.count ≤ length input)) w.1
    (omega arith, omega arith)

-- the count of events has two bytes
pub header-counted : (input : List ℕ) (hd : Header) → Bytes input → opening_of input ≡ Ok hd → hd.events < 65536
unfolding opening_of number_at
header-counted input hd bytes e =
    let w = header_of (ltb (length input) 2) (eqb (number_at input 0) 5) (ltb (length input) (events_count_at input + 2)) _ _ _ _ hd e in
    subst (λ (g : Header). g.events < 65536) w.1 (omega (arith, bytes (events_count_at input), bytes (events_count_at input + 1)))

-- ---- an event that was found

-- its sets have 32 bits
abbrev Small : Event → Type 0
Small (Update f) = f.to.0 < 2 ^ 32
Small (Repair f) = (f.from.0 < 2 ^ 32) × (f.lost.0 < 2 ^ 32)
Small (Damage f) = f.nodes.0 < 2 ^ 32
Small (Decode f) = f.from.0 < 2 ^ 32
Small (Reconfigure f) = (f.from.0 < 2 ^ 32) × (f.to.0 < 2 ^ 32)

pub record Good (a : Params) (input : List ℕ) (e : Event) : Type 0 where
  pub found : InFull a (length input) e
  pub small : Bytes input → Small e

-- what holds of each kind's event and lengths holds of those that the tests of the kind cond
by_kind : {A : Type 0} (P : A → ℕ → ℕ → Type 0) (b₁ b₂ b₃ b₄ : Bool) {x₁ x₂ x₃ x₄ x₅ : A} {y₁ y₂ y₃ y₄ y₅ z₁ z₂ z₃ z₄ z₅ : ℕ}
    → P x₁ y₁ z₁ → P x₂ y₂ z₂ → P x₃ y₃ z₃ → P x₄ y₄ z₄ → P x₅ y₅ z₅
    → P (cond b₁ x₁ (cond b₂ x₂ (cond b₃ x₃ (cond b₄ x₄ x₅)))) (cond b₁ y₁ (cond b₂ y₂ (cond b₃ y₃ (cond b₄ y₄ y₅))))
    (cond b₁ z₁ (cond b₂ z₂ (cond b₃ z₃ (cond b₄ z₄ z₅))))
by_kind P true b₂ b₃ b₄ p₁ p₂ p₃ p₄ p₅ = p₁
by_kind P false true b₃ b₄ p₁ p₂ p₃ p₄ p₅ = p₂
by_kind P false false true b₄ p₁ p₂ p₃ p₄ p₅ = p₃
by_kind P false false false true p₁ p₂ p₃ p₄ p₅ = p₄
by_kind P false false false false p₁ p₂ p₃ p₄ p₅ = p₅

event-good : (a : Params) (input : List ℕ) (at kind : ℕ) → end_of a input at kind ≤ length input → Good a input (event_at a input at kind)
event-good a input at kind =
    by_kind (λ e m q. at + m + q ≤ length input → Good a input e) (eqb kind 1) (eqb kind 2) (eqb kind 3) (eqb kind 4)
    (λ h. record { found = record { inside = omega arith; counted = refl }; small = choice-small input at })
    (λ h. record { found = tt; small = λ hb. (choice-small input at hb, choice-small input (at + 4) hb) })
    (λ h. record { found = record { inside = omega arith; counted = refl }; small = choice-small input at })
    (λ h. record { found = tt; small = choice-small input at })
    (λ h. record { found = record { inside = omega arith; counted = refl }; small = λ hb. (choice-small input at hb, choice-small input (at + 12) hb) })

-- the one choice that ends at an event
whole_of : (b₁ b₂ b₃ : Bool) (u v w : Fault) (g f : Found)
    → cond b₁ (cond b₂ (Err u) (cond b₃ (Err v) (Ok g))) (Err w) ≡ Ok f → (b₃ ≡ false) × (g ≡ f)
whole_of true true b₃ u v w g f e = let z : ◌≡◌ {A = ℕ} 0 1 = cc in absurd (omega arith)
whole_of true false true u v w g f e = let z : ◌≡◌ {A = ℕ} 0 1 = cc in absurd (omega arith)
whole_of true false false u v w g f e = (refl, cc)
whole_of false b₂ b₃ u v w g f e = let z : ◌≡◌ {A = ℕ} 0 1 = cc in absurd (omega arith)

pub found-good : (a : Params) (input : List ℕ) (at : ℕ) (f : Found) → item_at a input at ≡ Ok f → Good a input f.event
unfolding item_at
found-good a input at f e =
    let kind : ℕ = get_or input at 0 in
    let w =
    whole_of (ltb at (length input)) (unknown kind) (ltb (length input) (end_of a input (at + 1) kind)) _ _ _ _ f e in
    subst (λ (g : Found). Good a input g.event) w.1 (event-good a input (at + 1) kind (ltb-false _ _ w.0))

-- ---- the list's event

pub typed : (h : Held) (input : List ℕ) (serial : ℕ) (e : Event) → Bytes input → serial < 2 ^ 32 → Good h.params input e
    → Typed (listed h input serial e)
typed h input serial (Update f) hb hs g = ((tt, tt), span-bytes input f.change hb, g.small hb, hs, g.small hb)
typed h input serial (Repair f) hb hs g = ((tt, tt), (g.small hb).0, (g.small hb).1)
typed h input serial (Damage f) hb hs g = (g.small hb, span-bytes input f.blocks hb)
typed h input serial (Decode f) hb hs g = ((tt, tt), bytes-zeros (h.params.k * h.params.b), g.small hb)
typed h input serial (Reconfigure f) hb hs g = (
  (tt, tt),
  bytes-zeros (f.shape.n * h.params.b),
  words-zeros f.shape.n,
  span-bytes input f.message hb,
  (g.small hb).0,
  (g.small hb).1,
)
