-- What a list's serials say of the next send (document 02, 2026-03): a change that begins is new to every node, so that its sends make one whole change; one that is
-- closed moves nobody. Both by the invariant's serials. Assumes nothing.
use mathlib.Core.Path.{◌≡◌, refl, sym, ap, ◌∙◌}
use mathlib.Core.Logic.{⊎_elim}
use mathlib.Core.Bool.{true, false, ◌||◌}
use mathlib.Core.List.{List}
use Prim.Native.Nat.{ℕ, suc, ◌≤◌, ◌<◌}
use native.Mathlib.Omega.{arith}
use lib.ListN.{get_or}
use Rattle.params.specs.Nodes.{has}
use Rattle.gates.proofs.Valid.{update-accepted}
use Rattle.serials.specs.Serials.{Stamped}
use Rattle.code.specs.Calls.{Updated, UpdatePost}
use Rattle.code.specs.Sends.{Sendings, reached_by, Covers}
use Rattle.code.proofs.Sends.{resend, resend-whole, send-still}
use Rattle.ledger.specs.Ledger.{Held, Machine, Event, Sendable, History}
use Rattle.ledger.proofs.Invariant.{history-agrees}

module _ {events : List Event} {h : Held} {m : Machine} (y : History events h m) where
  -- a change under a serial that was not sent has a higher one than every node
  new-above : (d : List ℕ) (to serial : ℕ) → 1 ≤ serial → Sendable m.sends d to serial → m.sends.sent serial ≡ false → (j : ℕ) → j < h.params.n
      → get_or h.serials j 0 < serial
  new-above d to serial low rules new j hj =
      let i = history-agrees y in
      let above : i.top < serial = ⊎_elim (λ e. rules.higher new i.top e) (λ z. omega (arith, z, low)) i.stamps.known in
      omega (arith, i.stamps.below j hj, above)

  -- Sends of a change that begins here, the last of which leaves none of W unreached, make the whole change of document 01.
  pub sent-whole : {d mid serials₁ new serials₂ : List ℕ} {to serial : ℕ} → Sendable m.sends d to serial → m.sends.sent serial ≡ false
      → (sends : Sendings h.params d to serial h.codeword h.serials mid serials₁) (reached : ℕ)
      → Covers (λ i. reached_by sends i || has reached i) to → UpdatePost h.params d to serial reached mid serials₁ 0 new serials₂
      → Updated h.params h.codeword d to (has to) new × Stamped h.params.n (has to) serial h.serials serials₂
  sent-whole {d = d} {to = to} {serial = serial} rules new sends reached all last =
      let post = resend sends reached all last in
      let g = (update-accepted h.params _ _ _ to serial).0 (sym post.number) in
      resend-whole sends reached all (λ j hj _. new-above d to serial g.serial_low rules new j hj) last

  -- A send of a closed change leaves record and serials as they are.
  pub late-still : (d : List ℕ) (to serial reached : ℕ) (new serials : List ℕ) → m.sends.sent serial ≡ true → to ≡ m.sends.to serial
      → ((i : ℕ) → has to i ≡ true → m.sends.reached serial i ≡ true)
      → UpdatePost h.params d to serial reached h.codeword h.serials 0 new serials → (new ≡ h.codeword) × (serials ≡ h.serials)
  late-still d to serial reached new serials sent same closed post =
      let i = history-agrees y in
      let g = (update-accepted h.params _ _ _ to serial).0 (sym post.number) in
      send-still h.params g.valid d to serial reached h.codeword h.serials new serials g.codeword_length g.serials_length
      (λ j hj b _. i.stamps.marked serial sent j hj (ap (λ (s : ℕ). has s (suc j)) (sym same) ∙ b) (closed (suc j) b)) (post.served refl)
