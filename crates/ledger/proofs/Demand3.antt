-- The customer's third demand, as one claim about whole lists. A reading is that of a decode through r undamaged nodes between closed changes, and all of these hold
-- the blocks of a pair whose message is the ledger (Invariant.antt); a pair is determined by the blocks of the q lowest of them. Assumes nothing.
use mathlib.Core.Path.{◌≡◌, refl, sym, ◌∙◌, subst}
use mathlib.Core.Logic.{◌↔◌}
use mathlib.Core.List.{List}
use Prim.Native.Nat.{ℕ}
use lib.ListN.{length}
use Rattle.params.specs.Nodes.{has}
use Rattle.gates.proofs.Valid.{decode-accepted}
use Rattle.code.specs.Code.{Gives, used}
use Rattle.code.proofs.Pairs.{gives-used}
use Rattle.code.proofs.Theorems.{decode-message, decode-one}
use Rattle.ledger.specs.Ledger.{Held, Machine, Event, History, Reading}
use Rattle.ledger.proofs.Sound.{undamaged-gives}
use Rattle.ledger.proofs.Invariant.{agrees-sound, history-agrees}

-- "r being that of the arrangement then in force": system and machine have the same parameters.
pub in-force : {events : List Event} {h : Held} {m : Machine} → History events h m → h.params ≡ m.params
in-force y = (history-agrees y).same

-- "Every accepted reading after such a list, through any r undamaged traps, .. gives exactly the list's ledger."
pub reading-is-ledger : {events : List Event} {h : Held} {m : Machine} {out : List ℕ} → History events h m → Reading h m out
    → out ≡ m.ledger
reading-is-ledger {h = h} {m = m} {out = out} y rd =
    let i = agrees-sound h m (history-agrees y) rd.readable.closed in
    let g = (decode-accepted h.params (length h.codeword) (length rd.buffer) rd.from).0 (sym rd.accepted.number) in
    decode-message h.params g.valid rd.from g.from_within g.from_size m.ledger i.slack h.codeword out
    (gives-used h.params rd.from (undamaged-gives h.params h.codeword m.ledger m.damaged i rd.from rd.readable.undamaged))
    (rd.accepted.served refl)

-- "That reading is also the message of document 01's one pair that gives the blocks read": all r of them, and no other pair gives even those of the q lowest
-- nodes.
pub reading-is-the-pair's : {events : List Event} {h : Held} {m : Machine} {out : List ℕ} → History events h m → (rd : Reading h m out)
    → (v : List ℕ) × Gives h.params out v (has rd.from) h.codeword
    × ((x' v' : List ℕ) → Gives h.params x' v' (used h.params rd.from) h.codeword → (x' ≡ out) × (v' ≡ v))
reading-is-the-pair's {h = h} {m = m} {out = out} y rd =
    let a = h.params in
    let i = agrees-sound h m (history-agrees y) rd.readable.closed in
    let all = undamaged-gives a h.codeword m.ledger m.damaged i rd.from rd.readable.undamaged in
    let one = decode-one a h.codeword rd.from rd.buffer out rd.accepted in
    let same = one.2 m.ledger i.slack (gives-used a rd.from all) in (
      one.0,
      subst (λ (x : List ℕ). Gives a x one.0 (has rd.from) h.codeword) same.0
          (subst (λ (v : List ℕ). Gives a m.ledger v (has rd.from) h.codeword) same.1 all),
      one.2,
    )

-- "For every two such lists, two such readings, one after each, are equal exactly when the two ledgers are equal."
pub readings-equal : {events events' : List Event} {h h' : Held} {m m' : Machine} {out out' : List ℕ}
    → History events h m → History events' h' m' → Reading h m out → Reading h' m' out' → (out ≡ out') ↔ (m.ledger ≡ m'.ledger)
readings-equal y y' rd rd' =
    let e = reading-is-ledger y rd in
    let e' = reading-is-ledger y' rd' in
    (λ p. sym e ∙ p ∙ e', λ p. e ∙ p ∙ sym e')
