-- Demand 3 for a season's run. Its events are a list of the ledger machine: each is given what is in force, every change has a serial of its own, the number of its
-- event, and reaches all of W. So in a run whose accepted rebuilds and rearrangements read undamaged nodes only, every accepted reading through undamaged nodes prints
-- the ledger (ledger/proofs/Demand3.antt). Assumes nothing.
use mathlib.Core.Path.{◌≡◌, refl, sym, ap, ap₂, ◌∙◌, subst}
use mathlib.Core.Bool.{Bool, true, false, ◌&&◌, ◌||◌, cond, true≢false}
use mathlib.Core.List.{List, ◌++◌, append_assoc}
use Prim.Native.Nat.{ℕ, zero, suc, ◌*◌, ◌<◌}
use native.Mathlib.Omega.{arith}
use lib.Dec.{eqb}
use lib.ListN.{replicate}
use borrow.Author.Tests.{eqb-true}
use Rattle.field.specs.Field.{Bytes}
use Rattle.params.specs.Nodes.{has}
use Rattle.params.specs.declared.Shape.{Shape}
use Rattle.ledger.specs.Ledger.{Held, Machine, Sends, no_sends, sending, Step, stepped, Undamaged, Closed, Sendable, Allowed, History}
use Rattle.ledger.specs.Ledger as ledger
use Rattle.ledger.proofs.Invariant.{given-in-force}
use Rattle.ledger.proofs.Lists.{goes_on}
use Rattle.ledger.proofs.Whole.{history-whole}
use Rattle.ledger.proofs.Demand3.{reading-is-ledger}
use Rattle.std.specs.Prelude.{Ok}
use Rattle.season_file.specs.File.{bytes_of, item_at}
use Rattle.season_lines.specs.Lines.{line_of}
use Rattle.season_answers.specs.Answers.{answer_of}
use Rattle.season_file.specs.declared.Event.{Event}
use Rattle.season_file.specs.declared.Event.TheVariants.{Update, Repair, Damage, Decode, Reconfigure}
use Rattle.season_file.specs.declared.DecodeFields.{DecodeFields}
use Rattle.season_file.specs.declared.Found.{Found}
use Rattle.season_effects.specs.Events.{listed, Prints}
use Rattle.season_run.specs.Season.{Tried, Place, Outcome, on, Goes, Runs, Season}
use Rattle.season_run.specs.Season as season
use Rattle.season_run.specs.Ledgers.{listed_at, answer_at, Reached, opened, tried, FromUndamaged, ReadsUndamaged}
use Rattle.season_run.proofs.Output.{Stands, opens-history, opens-stands, goes-stands}
use Rattle.season_run.proofs.Events.{found-good, typed}
use Rattle.season_run.proofs.Program.{goes-next}
use Rattle.season_effects.proofs.Answered.{answer-is-gate}

-- ---- serials

-- Before the event with a number: each change that was accepted had a lower serial and reached all of its W.
record Past (number : ℕ) (m : Machine) : Type 0 where
  below : (s : ℕ) → m.sends.sent s ≡ true → s < number
  closed : Closed m.sends

-- none was accepted
past-none : (number : ℕ) (m : Machine) → m.sends ≡ no_sends → Past number m
past-none number m e =
    let none : (s : ℕ) → m.sends.sent s ≡ true → ⊥ = λ s h. true≢false (sym h ∙ ap (λ (k : Sends). k.sent s) e) in
    record { below = λ s h. absurd (none s h); closed = λ s h. absurd (none s h) }

-- the changes stay, at the next event
past_same : (number : ℕ) (m m' : Machine) → m'.sends ≡ m.sends → Past number m → Past (suc number) m'
past_same number m m' e p =
    record {
      below = λ s h. omega (arith, p.below s (sym (ap (λ (k : Sends). k.sent s) e) ∙ h));
      closed = subst Closed (sym e) p.closed;
    }

-- one that reaches all of W is added
past-sent : (number : ℕ) (m m' : Machine) (d : List ℕ) (to : ℕ) → m'.sends ≡ sending d to number to m.sends → Past number m → Past (suc number) m'
past-sent number m m' d to e p =
    record {
      below = λ s h. below s (eqb s number) refl (sym (ap (λ (k : Sends). k.sent s) e) ∙ h);
      closed = subst Closed (sym e) (λ s h i. closed s i (eqb s number) h);
    }
  where
    below : (s : ℕ) (t : Bool) → eqb s number ≡ t → (eqb s number || m.sends.sent s) ≡ true → s < suc number
    below s true q h = omega (arith, eqb-true s number q)
    below s false q h = omega (arith, p.below s (sym (ap (λ (b : Bool). b || m.sends.sent s) q) ∙ h))

    closed : (s i : ℕ) (t : Bool) → (t || m.sends.sent s) ≡ true → has (cond t to (m.sends.to s)) i ≡ true
        → ((t && has to i) || m.sends.reached s i) ≡ true
    closed s i true h w = ap (λ (b : Bool). b || m.sends.reached s i) w
    closed s i false h w = p.closed s h i w

-- an event of the file, accepted or refused
past_next : (q : ℕ) (h : Held) (m : Machine) (input : List ℕ) (number : ℕ) (e : Event) → Past number m
    → Past (suc number) (stepped q m (listed h input number e))
past_next (suc q) h m input number e p = past_same number m m refl p
past_next zero h m input number (Update f) p = past-sent number m _ (bytes_of input f.change) f.to.0 refl p
past_next zero h m input number (Repair f) p = past_same number m _ refl p
past_next zero h m input number (Damage f) p = past_same number m _ refl p
past_next zero h m input number (Decode f) p = past_same number m _ refl p
past_next zero h m input number (Reconfigure f) p = past_same number m _ refl p

-- a change under a number that is above all serials begins a new one
sendable : (number : ℕ) (m : Machine) (d : List ℕ) (to : ℕ) → Past number m → Sendable m.sends d to number
sendable number m d to p =
    record { same = λ h. absurd (omega (arith, p.below number h)); higher = λ _. p.below; alone = λ _. p.closed }

-- an event of the file is given what is in force
allowed : (h : Held) (m : Machine) (input : List ℕ) (number : ℕ) (e : Event) → Past number m → FromUndamaged m (listed h input number e)
    → Allowed h m (listed h input number e)
allowed h m input number (Update f) p u = (given-in-force h, sendable number m (bytes_of input f.change) f.to.0 p)
allowed h m input number (Repair f) p u = (given-in-force h, record { undamaged = u; closed = p.closed })
allowed h m input number (Damage f) p u = tt
allowed h m input number (Decode f) p u = record { params = refl; codeword = refl }
allowed h m input number (Reconfigure f) p u = (given-in-force h, record { undamaged = u; closed = p.closed })

-- ---- the run

module _ (input : List ℕ) (bytes : Bytes input) where
  -- what an event of the run does is a step
  pub step_of : {here : Place} {line : List ℕ} {here' : Place} (f : Found) → item_at here.stands.params input here.at ≡ Ok f
      → Goes input here line (on here') → Step here.stands (listed_at input here f) (answer_at here f) here'.stands
  step_of {here = here} f i (season.tried left g line h' z i' t) =
      let e : g ≡ f = cc in subst (λ (f : Found). Step here.stands (listed_at input here f) (answer_at here f) h') e t.step

  -- Wherever a run gets, valid parameters are in force, the record has n·b bytes and there are n serials.
  pub reached-stands : {events : List ledger.Event} {here : Place} {m : Machine} → Reached input events here m → Stands here
  reached-stands (opened hd i o) = opens-stands input bytes o
  reached-stands (tried f r i g) = goes-stands input bytes (reached-stands r) g

  past : {events : List ledger.Event} {here : Place} {m : Machine} → Reached input events here m → Past here.number m
  past (opened {here = here} hd i o) = past-none here.number _ refl
  past (tried {here = here} {here' = here'} {m = m} f r i g) =
      subst (λ (n : ℕ). Past n (stepped (answer_at here f) m (listed_at input here f))) (sym (goes-next g).0)
      (past_next (answer_at here f) here.stands m input here.number f.event (past r))

  -- The events of a run are a list that document 01 allows, if its accepted rebuilds and rearrangements read undamaged nodes only.
  pub season-history : {events : List ledger.Event} {here : Place} {m : Machine} (r : Reached input events here m) → ReadsUndamaged r
      → History events here.stands m
  season-history (opened hd i o) u = opens-history input bytes hd i o
  season-history (tried {here = here} {m = m} f r i g) u =
      let h = here.stands in
      let s = reached-stands r in
      let good = found-good h.params input here.at f i in
      goes_on (listed_at input here f) (season-history r u.0) (typed h input here.number f.event bytes (omega (arith, s.1)) good)
      (λ z. allowed h m input here.number f.event (past r) (u.1 z)) (step_of f i g)

  -- If moreover the next event is an accepted reading through undamaged nodes, it prints the ledger.
  module _ {events : List ledger.Event} {here : Place} {m : Machine} (r : Reached input events here m) (u : ReadsUndamaged r) (f : DecodeFields) (after : ℕ)
      (found : item_at here.stands.params input here.at ≡ Ok (record { event = Decode f; next = after }))
      (accepted : answer_of here.stands.params here.number (Decode f) ≡ 0) (undamaged : Undamaged m f.from.0) where
    pub season-prints-ledger : (message : List ℕ) → Prints here.stands here.number (Decode f) message → message ≡ m.ledger
    season-prints-ledger message p =
        let h = here.stands in
        let y = season-history r u in
        let w = history-whole y in
        let g = answer-is-gate h input here.number (Decode f) (w.length_is, w.serials_length) tt in
        reading-is-ledger y
        (record {
          from = f.from.0;
          buffer = replicate (h.params.k * h.params.b) 0;
          accepted = record { number = sym accepted ∙ g; served = λ _. p.served accepted; refused = λ ne. absurd (ne refl) };
          readable = record { undamaged = undamaged; closed = (past r).closed };
        })

    -- its line: number, kind 4, answer 0, ledger
    pub season-line : {line : List ℕ} {outcome : Outcome} (left : ℕ) → here.left ≡ suc left → Goes input here line outcome
        → line ≡ line_of here.number 4 0 m.ledger
    season-line left z (season.over z' p) = absurd (omega arith)
    season-line left z (season.leftover z' p) = absurd (omega arith)
    season-line left z (season.faulty left' g z' i) = let q : ◌≡◌ {A = ℕ} 0 1 = cc in absurd (omega arith)
    season-line left z (season.tried left' g line h' z' i t) =
        let e : g ≡ record { event = Decode f; next = after } = cc in
        let t' = subst (λ (g : Found). Tried input here.stands here.number g.event line h') e t in
        t'.line_is ∙ ap₂ (line_of here.number 4) accepted (season-prints-ledger t'.message t'.prints)

-- What is asked of a run's events, in so many words: that of rebuilds and rearrangements no node of R is damaged, ..
pub from-undamaged : (m : Machine) (g : ledger.Given) (from : ℕ) → ((i : ℕ) → has from i ≡ true → m.damaged i ≡ false)
    → ((lost : ℕ) → FromUndamaged m (ledger.call g (ledger.repair from lost)))
    × ((t : Shape) (buffer numbers x : List ℕ) (to : ℕ) → FromUndamaged m (ledger.call g (ledger.reconfigure t buffer numbers x from to)))
from-undamaged m g from u = (λ lost. u, λ t buffer numbers x to. u)

-- .. and nothing of changes, readings and damage.
pub asks_nothing : (m : Machine) (g : ledger.Given)
    → ((d : List ℕ) (to serial reached : ℕ) → FromUndamaged m (ledger.call g (ledger.update d to serial reached)))
    × ((buffer : List ℕ) (from : ℕ) → FromUndamaged m (ledger.call g (ledger.decode buffer from)))
    × ((nodes : ℕ) (bytes : List ℕ) → FromUndamaged m (ledger.damage nodes bytes))
asks_nothing m g = (λ d to serial reached. tt, λ buffer from. tt, λ nodes bytes. tt)

-- Where a run got to is a place in its output: what was printed so far, and behind it whatever the run prints from there on.
pub reached-printed : {input : List ℕ} {events : List ledger.Event} {here : Place} {m : Machine} → Reached input events here m
    → (printed : List ℕ) × ((rest : List ℕ) → Runs input (on here) rest → Season input (printed ++ rest))
reached-printed (opened {line = line} hd i o) = (line, λ rest r. season.season o r)
reached-printed {input = input} (tried {line = line} f r i g) =
    let p = reached-printed r in
    (p.0 ++ line, λ rest q. subst (Season input) (sym (append_assoc p.0 line rest)) (p.1 (line ++ rest) (season.turn g q)))
