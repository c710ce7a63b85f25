-- The invariant behind demand 3: system and machine have the same parameters, the serials fit the changes that were accepted (Stamps.antt), and the record held is
-- sound once the open change, if there is one, is sent to all of its W (Finishing.antt). Each accepted event keeps it, a refused one alters nothing, and so every
-- list keeps it. Assumes nothing.
use mathlib.Core.Path.{◌≡◌, refl, sym, ap, ap₂, ◌∙◌, subst}
use mathlib.Core.Bool.{Bool, true, false, true≢false, cond}
use mathlib.Core.List.{List}
use Prim.Native.Nat.{ℕ, zero, suc}
use native.Mathlib.Omega.{arith}
use lib.ListN.{length, get_or, length-replicate}
use Rattle.base.proofs.Seq.{zeros-at}
use Rattle.field.specs.Field.{Bytes, plus}
use Rattle.gates.specs.Valid.{Valid, UpdateAccepted}
use Rattle.params.specs.declared.Params.{Params}
use Rattle.params.specs.declared.Shape.{Shape}
use Rattle.gates.proofs.Valid.{encode-accepted, update-accepted, repair-accepted, reconfigure-accepted}
use Rattle.code.specs.Calls.{EncodePost, Sent}
use Rattle.code.proofs.Pairs.{from-reads}
use Rattle.code.proofs.Theorems.{encode-pair}
use Rattle.ledger.specs.Ledger.{Held, begun, with_record, sending, Machine, opened, Lent, held, other, Given, Call, encode, update, repair}
use Rattle.ledger.specs.Ledger.{reconfigure, decode, delta, check, view, Event, call, damage, in_force, InForce, bytes_lent, bytes_left, lent, serials_lent}
use Rattle.ledger.specs.Ledger.{wrote, moved, damaged_held, Step, encoded, updated, repaired, reconfigured, decoded, differed, checked, viewed, damaged}
use Rattle.ledger.specs.Ledger.{effect, stepped, Closed, Sendable, Readable, Allowed, Typed, Run, done, more, History}
use Rattle.ledger.proofs.Sound.{Sound, encode-sound, repair-sound, reconfigure-sound}
use Rattle.ledger.proofs.Stamps.{Stamps, stamps_begun, top_below, stamps-begin, stamps-again, stamps-repair, stamps-reconfigure}
use Rattle.ledger.proofs.Finishing.{Finished, whole, closed-sound, finished-begin, finished-again, finished-damage}

-- System and machine agree.
pub record Agrees (h : Held) (m : Machine) : Type 0 where
  pub same : h.params ≡ m.params
  pub valid : Valid h.params
  pub top : ℕ
  pub stamps : Stamps h.params h.serials m.sends top
  pub finished : Finished h.params h.codeword h.serials m.ledger m.damaged m.sends top

-- Between closed changes the record is sound.
pub agrees-sound : (h : Held) (m : Machine) → Agrees h m → Closed m.sends → Sound h.params h.codeword m.ledger m.damaged
agrees-sound h m i closed =
    closed-sound h.params i.valid h.codeword h.serials m.ledger m.damaged m.sends i.top i.stamps closed i.finished

-- ---- the opening set-up

opening-agrees : (a : Params) (x v buffer numbers codeword serials : List ℕ) → Bytes x → Bytes v → EncodePost a x v buffer numbers 0 codeword serials
    → Agrees (begun a codeword serials) (opened a x)
opening-agrees a x v buffer numbers codeword serials hx hv post =
    let g = (encode-accepted a (length x) (length v) (length buffer) (length numbers)).0 (sym post.number) in
    let s = post.served refl in
    record {
      same = refl;
      valid = g.valid;
      top = 0;
      stamps =
          stamps_begun a serials (ap length s.1 ∙ length-replicate {A = ℕ} a.n 0) (λ j. ap (λ (l : List ℕ). get_or l j 0) s.1 ∙ zeros-at a.n j);
      finished =
          whole (λ t e. absurd (true≢false (sym e)))
          (encode-sound a x v codeword (encode-pair hx hv post) s.0);
    }

-- ---- accepted events

-- the event, accepted, keeps the invariant
abbrev Keeps : Held → Machine → Event → Type 0
Keeps h m e = (h' : Held) → Step h e 0 h' → Agrees h' (effect m e)

-- What is in force is the one thing that is given as in force.
pub given-in-force : (h : Held) → InForce h (in_force h)
given-in-force h = record { params = refl; codeword = refl; serials = refl }

pub given_is : (h : Held) (g : Given) → InForce h g → g ≡ in_force h
given_is h g i =
    ap₂ (λ (a : Params) (l : Lent × Lent). record { params = a; codeword = l.0; serials = l.1 }) i.params
    (ap₂ (λ (l l' : Lent). (l, l')) i.codeword i.serials)

module _ (h : Held) (m : Machine) (i : Agrees h m) where
  -- One send of a change, the first or a further one, by whether its serial was sent before.
  module _ (d : List ℕ) (to serial reached : ℕ) (hd : Bytes d) (rules : Sendable m.sends d to serial) (new serials : List ℕ)
      (g : UpdateAccepted h.params (length h.codeword) (length h.serials) (length d) to serial)
      (s : Sent h.params d to serial reached h.codeword h.serials new serials) where
    -- what the machine then holds, and that it agrees with what the send left
    Follows : Bool → Type 0
    Follows b =
        Agrees (with_record new serials h)
        (record {
          params = m.params;
          ledger = cond b m.ledger (plus m.ledger d);
          damaged = m.damaged;
          sends = sending d to serial reached m.sends;
        })

    send-begins : m.sends.sent serial ≡ false → Follows false
    unfolding Follows
    send-begins e =
        let a = h.params in
        let closed = rules.alone e in
        let above = top_below a h.serials serials m.sends i.top i.stamps d to serial reached i.valid g.to_within g.to_size s.1 g.serial_low e (rules.higher e) closed in
        record {
          same = i.same;
          valid = i.valid;
          top = serial;
          stamps =
              stamps-begin a h.serials serials m.sends i.top i.stamps d to serial reached i.valid g.to_within g.to_size s.1 g.serial_low e
              (rules.higher e) closed;
          finished =
              finished-begin a i.valid h.codeword h.serials m.ledger m.damaged m.sends i.top i.stamps d to serial reached new serials
              (record { length_is = g.change_length; bytes = hd }) g.to_within g.to_size above (agrees-sound h m i closed) s;
        }

    send-again : m.sends.sent serial ≡ true → Follows true
    unfolding Follows
    send-again e =
        let a = h.params in
        let same = rules.same e in
        record {
          same = i.same;
          valid = i.valid;
          top = i.top;
          stamps =
              stamps-again a h.serials serials m.sends i.top i.stamps d to serial reached i.valid g.to_within g.to_size s.1 e same.0;
          finished =
              finished-again a i.valid h.codeword h.serials m.ledger m.damaged m.sends i.top i.stamps d to serial reached e same.0
              same.1 new serials g.codeword_length g.to_within g.to_size s i.finished;
        }

    send-keeps : (b : Bool) → m.sends.sent serial ≡ b → Follows b
    send-keeps true e = send-again e
    send-keeps false e = send-begins e

  update-keeps : (d : List ℕ) (to serial reached : ℕ) → Bytes d → Sendable m.sends d to serial
      → Keeps h m (call (in_force h) (update d to serial reached))
  unfolding Follows
  update-keeps d to serial reached hd rules h' (updated _ new serials post) =
      let g = (update-accepted h.params (length h.codeword) (length h.serials) (length d) to serial).0 (sym post.number) in
      send-keeps d to serial reached hd rules new serials g (post.served refl) (m.sends.sent serial) refl

  repair-keeps : (from lost : ℕ) → Readable m from → Keeps h m (call (in_force h) (repair from lost))
  repair-keeps from lost u h' (repaired _ new serials post) =
      let g = (repair-accepted h.params (length h.codeword) (length h.serials) from lost).0 (sym post.number) in
      let s = post.served refl in
      record {
        same = i.same;
        valid = i.valid;
        top = i.top;
        stamps =
            stamps-repair h.params h.serials serials m.sends i.top i.stamps u.closed from g.from_within g.from_size lost s.1;
        finished =
            whole u.closed
            (repair-sound h.params h.codeword m.ledger m.damaged (agrees-sound h m i u.closed) i.valid from
            (from-reads h.params from g.valid g.from_within g.from_size) u.undamaged lost new s.0);
      }

  reconfigure-keeps : (t : Shape) (buffer numbers x : List ℕ) (from to : ℕ) → Readable m from
      → Keeps h m (call (in_force h) (reconfigure t buffer numbers x from to))
  reconfigure-keeps t buffer numbers x from to u h' (reconfigured _ new serials post) =
      let g =
      (reconfigure-accepted h.params t (length h.codeword) (length h.serials) (length buffer) (length numbers) (length x) from to).0
      (sym post.number) in
      let s = post.served refl in
      record {
        same = refl;
        valid = g.valid_new;
        top = i.top;
        stamps =
            stamps-reconfigure h.params h.serials serials m.sends i.top i.stamps u.closed from g.from_within g.from_size t to
            g.valid_new g.to_within g.to_size s.1;
        finished =
            whole u.closed
            (reconfigure-sound h.params h.codeword m.ledger m.damaged (agrees-sound h m i u.closed) i.valid from
            (from-reads h.params from g.valid g.from_within g.from_size) u.undamaged t to x new s.0);
      }

  damage-keeps : (nodes : ℕ) (bytes : List ℕ) → Keeps h m (damage nodes bytes)
  damage-keeps nodes bytes h' (damaged e) =
      record {
        same = i.same;
        valid = i.valid;
        top = i.top;
        stamps = i.stamps;
        finished =
            finished-damage h.params i.valid h.codeword h.serials m.ledger m.damaged m.sends i.top i.stamps nodes bytes i.finished;
      }

  given : (g : Given) (c : Call) → InForce h g → Keeps h m (call (in_force h) c) → Keeps h m (call g c)
  given g c f = subst (λ (g : Given). Keeps h m (call g c)) (sym (given_is h g f))

  accepted-keeps : (e : Event) → Typed e → Allowed h m e → Keeps h m e
  accepted-keeps (call g (encode x v)) ty al h' st = absurd al
  accepted-keeps (call g (update d to serial reached)) ty al h' st =
      given g (update d to serial reached) al.0 (update-keeps d to serial reached ty.1 al.1) h' st
  accepted-keeps (call g (repair from lost)) ty al h' st = given g (repair from lost) al.0 (repair-keeps from lost al.1) h' st
  accepted-keeps (call g (reconfigure t buffer numbers x from to)) ty al h' st =
      given g (reconfigure t buffer numbers x from to) al.0 (reconfigure-keeps t buffer numbers x from to al.1) h' st
  accepted-keeps (call g (decode buffer from)) ty al h' (decoded _ out post) = i
  accepted-keeps (call g (delta d buffer to)) ty al h' (differed _ out post) = i
  accepted-keeps (call g (check budget)) ty al h' (checked verdict e post) = i
  accepted-keeps (call g (view node)) ty al h' (viewed part e post) = i
  accepted-keeps (damage nodes bytes) ty al h' st = damage-keeps nodes bytes h' st

-- ---- refused events

left-same : (own : List ℕ) (l : Lent) (new : List ℕ) → new ≡ bytes_lent own l → bytes_left own l new ≡ own
left-same own held new e = e
left-same own (other bytes) new e = refl

wrote-same : (h : Held) (g : Given) (new serials : List ℕ) → (new ≡ lent h g) × (serials ≡ serials_lent h g) → wrote h g new serials ≡ h
wrote-same h g new serials e =
    ap₂ (λ (c s : List ℕ). with_record c s h) (left-same h.codeword g.codeword new e.0) (left-same h.serials g.serials serials e.1)

pub moved_same : (answer : ℕ) (h : Held) (a : Params) (t : Shape) (new serials : List ℕ) → (answer ≡ 0 → ⊥) → moved answer h a t new serials ≡ h
moved_same zero h a t new serials ne = absurd (ne refl)
moved_same (suc q) h a t new serials ne = refl

pub damaged-same : (q : ℕ) (h : Held) (nodes : ℕ) (bytes : List ℕ) → (q ≡ 0 → ⊥) → damaged_held q h nodes bytes ≡ h
damaged-same zero h nodes bytes ne = absurd (ne refl)
damaged-same (suc q) h nodes bytes ne = refl

-- A refused event alters nothing.
pub refused-same : (h h' : Held) (e : Event) (q : ℕ) → (q ≡ 0 → ⊥) → Step h e q h' → h' ≡ h
refused-same h h' e _ ne (encoded {g = g} answer new serials post) = wrote-same h g new serials (post.refused ne)
refused-same h h' e _ ne (updated {g = g} answer new serials post) = wrote-same h g new serials (post.refused ne)
refused-same h h' e _ ne (repaired {g = g} answer new serials post) = wrote-same h g new serials (post.refused ne)
refused-same h h' e _ ne (reconfigured {g = g} {t = t} answer new serials post) = moved_same answer h g.params t new serials ne
refused-same h h' e _ ne (decoded answer out post) = refl
refused-same h h' e _ ne (differed answer out post) = refl
refused-same h h' e _ ne (checked verdict z post) = refl
refused-same h h' e _ ne (viewed part z post) = refl
refused-same h h' e q ne (damaged {nodes = nodes} {bytes = bytes} z) = damaged-same q h nodes bytes ne

-- ---- lists

-- Every event keeps the invariant, ..
step_keeps : (h h' : Held) (m : Machine) (e : Event) (q : ℕ) → Agrees h m → Typed e → (q ≡ 0 → Allowed h m e) → Step h e q h'
    → Agrees h' (stepped q m e)
step_keeps h h' m e zero i ty al st = accepted-keeps h m i e ty (al refl) h' st
step_keeps h h' m e (suc q) i ty al st = subst (λ (h : Held). Agrees h m) (sym (refused-same h h' e (suc q) (λ z. omega arith) st)) i

-- .. and so does every list.
run-keeps : {h h' : Held} {m m' : Machine} {events : List Event} → Agrees h m → Run h m events h' m' → Agrees h' m'
run-keeps i done = i
run-keeps i (more {h = h} {h' = h'} {m = m} {e = e} {q = q} ty al st rest) = run-keeps (step_keeps h h' m e q i ty al st) rest

pub history-agrees : {events : List Event} {h : Held} {m : Machine} → History events h m → Agrees h m
history-agrees y =
    run-keeps
    (opening-agrees y.params y.message y.slack y.buffer y.numbers y.codeword y.serials y.typed.0 y.typed.1 y.opening) y.run
