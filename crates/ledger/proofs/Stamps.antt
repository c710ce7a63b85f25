-- The serials along a list, against the changes that were accepted: none is above the last change's, a node that was reached has its change's or a higher one, and
-- between closed changes every set of r nodes has one with the last (r + w is above n). So rebuilt and newly written nodes take the last. Assumes nothing.
use mathlib.Core.Path.{◌≡◌, refl, sym, ap, ap₂, ◌∙◌, subst}
use mathlib.Core.Logic.{◌⊎◌, inl, inr, ⊎_elim}
use mathlib.Core.Bool.{Bool, true, false, ◌&&◌, ◌||◌, true≢false, cond}
use mathlib.Core.List.{List}
use Prim.Native.Nat.{ℕ, suc, ◌≤◌, ◌<◌}
use native.Mathlib.Omega.{arith}
use lib.Dec.{ltb, eqb}
use lib.ListN.{length, get_or}
use borrow.Author.Tests.{ltb-true, ltb-false, eqb-true, eq-eqb, ne_eqb}
use Rattle.base.proofs.Cases.{lt-or, eq-or}
use Rattle.params.specs.Nodes.{has, size, within}
use Rattle.params.specs.Params.{reshaped}
use Rattle.params.specs.declared.Params.{Params}
use Rattle.params.specs.declared.Shape.{Shape}
use Rattle.params.proofs.Sets.{within-size, meet}
use Rattle.gates.specs.Valid.{Valid}
use Rattle.serials.specs.Serials.{takes, highest, Stamped}
use Rattle.serials.proofs.Laws.{highest-le, highest-at, highest-mono}
use Rattle.code.specs.Calls.{writes}
use Rattle.ledger.specs.Ledger.{Sends, no_sends, sending, Closed}

-- ---- one send more, by the serials

module _ (d : List ℕ) (to serial reached : ℕ) (k : Sends) where
  pub sent-here : (sending d to serial reached k).sent serial ≡ true
  sent-here = ap (λ (b : Bool). b || k.sent serial) (eq-eqb serial serial refl)

  pub to-here : (sending d to serial reached k).to serial ≡ to
  to-here = ap (λ (b : Bool). cond b to (k.to serial)) (eq-eqb serial serial refl)

  pub change-here : (sending d to serial reached k).change serial ≡ d
  change-here = ap (λ (b : Bool). cond b d (k.change serial)) (eq-eqb serial serial refl)

  pub reached-here : (i : ℕ) → (sending d to serial reached k).reached serial i ≡ (has reached i || k.reached serial i)
  reached-here i = ap (λ (b : Bool). (b && has reached i) || k.reached serial i) (eq-eqb serial serial refl)

  -- the others are as they were
  module _ (t : ℕ) (ne : t ≡ serial → ⊥) where
    pub sent-there : (sending d to serial reached k).sent t ≡ k.sent t
    sent-there = ap (λ (b : Bool). b || k.sent t) (ne_eqb t serial ne)

    pub to-there : (sending d to serial reached k).to t ≡ k.to t
    to-there = ap (λ (b : Bool). cond b to (k.to t)) (ne_eqb t serial ne)

    pub change-there : (sending d to serial reached k).change t ≡ k.change t
    change-there = ap (λ (b : Bool). cond b d (k.change t)) (ne_eqb t serial ne)

    pub reached-there : (i : ℕ) → (sending d to serial reached k).reached t i ≡ k.reached t i
    reached-there i = ap (λ (b : Bool). (b && has reached i) || k.reached t i) (ne_eqb t serial ne)

  -- a send under a serial that was sent before, of the same change, alters nothing but what is reached
  pub again-sent : k.sent serial ≡ true → (t : ℕ) → (sending d to serial reached k).sent t ≡ k.sent t
  again-sent old t = ⊎_elim (λ q. subst (λ (t : ℕ). (sending d to serial reached k).sent t ≡ k.sent t) (sym q) (sent-here ∙ sym old)) (sent-there t) (eq-or t serial)

  pub again-to : to ≡ k.to serial → (t : ℕ) → (sending d to serial reached k).to t ≡ k.to t
  again-to same t = ⊎_elim (λ q. subst (λ (t : ℕ). (sending d to serial reached k).to t ≡ k.to t) (sym q) (to-here ∙ same)) (to-there t) (eq-or t serial)

  pub again-change : d ≡ k.change serial → (t : ℕ) → (sending d to serial reached k).change t ≡ k.change t
  again-change same t =
      ⊎_elim (λ q. subst (λ (t : ℕ). (sending d to serial reached k).change t ≡ k.change t) (sym q) (change-here ∙ same)) (change-there t) (eq-or t serial)

  -- what was reached stays reached
  pub reached_still : (t i : ℕ) → k.reached t i ≡ true → (sending d to serial reached k).reached t i ≡ true
  reached_still t i e = go (eqb t serial && has reached i)
    where
      go : (b : Bool) → (b || k.reached t i) ≡ true
      go true = refl
      go false = e

-- ---- what is known of the serials

-- top is the last change's serial, 0 before any
pub record Stamps (a : Params) (serials : List ℕ) (k : Sends) (top : ℕ) : Type 0 where
  pub many : length serials ≡ a.n
  pub below : (j : ℕ) → j < a.n → get_or serials j 0 ≤ top
  pub known : (k.sent top ≡ true) ⊎ (top ≡ 0)
  pub latest : (t : ℕ) → k.sent t ≡ true → t ≤ top
  pub unsent : (t : ℕ) → k.sent t ≡ false → (i : ℕ) → k.reached t i ≡ false
  -- every change before the last is closed
  pub older : (t : ℕ) → k.sent t ≡ true → t < top → (i : ℕ) → has (k.to t) i ≡ true → k.reached t i ≡ true
  pub marked : (t : ℕ) → k.sent t ≡ true → (j : ℕ) → j < a.n → has (k.to t) (suc j) ≡ true → k.reached t (suc j) ≡ true → t ≤ get_or serials j 0
  pub every : Closed k → (from : ℕ) → within a.n from ≡ true → size from ≡ a.r → highest (has from) serials a.n ≡ top

-- a set of r nodes meets the nodes that have the last serial, if there are w of them
every-meets : (a : Params) → Valid a → (serials : List ℕ) (top to : ℕ) → within a.n to ≡ true → size to ≡ a.w
    → ((j : ℕ) → j < a.n → get_or serials j 0 ≤ top) → ((j : ℕ) → j < a.n → has to (suc j) ≡ true → top ≤ get_or serials j 0)
    → (from : ℕ) → within a.n from ≡ true → size from ≡ a.r → highest (has from) serials a.n ≡ top
every-meets a ok serials top to tw ts low high from fw fs =
    let m =
    meet (has from) (has to) a.n
    (omega (arith, within-size a.n from fw, within-size a.n to tw, fs, ts, ok.shape.enough, ok.shape.k_low)) in
    omega (arith, highest-le (has from) serials a.n top (λ j hj _. low j hj), highest-at (has from) serials a.n m.0 m.1 m.2, high m.0 m.1 m.3)

-- .. and where no serial falls it still has one
every-still : (a : Params) (serials serials' : List ℕ) (top : ℕ) → ((j : ℕ) → j < a.n → get_or serials' j 0 ≤ top)
    → ((j : ℕ) → j < a.n → get_or serials j 0 ≤ get_or serials' j 0) → (from : ℕ) → highest (has from) serials a.n ≡ top
    → highest (has from) serials' a.n ≡ top
every-still a serials serials' top low rise from e =
    omega (arith, highest-le (has from) serials' a.n top (λ j hj _. low j hj), highest-mono (has from) serials serials' a.n rise, e)

-- ---- the opening set-up

pub stamps_begun : (a : Params) (serials : List ℕ) → length serials ≡ a.n → ((j : ℕ) → get_or serials j 0 ≡ 0) → Stamps a serials no_sends 0
stamps_begun a serials many zeros =
    record {
      many = many;
      below = λ j hj. omega (arith, zeros j);
      known = inr refl;
      latest = λ t e. absurd (true≢false (sym e));
      unsent = λ t e i. refl;
      older = λ t e. absurd (true≢false (sym e));
      marked = λ t e. absurd (true≢false (sym e));
      every = λ c from w s. omega (arith, highest-le (has from) serials a.n 0 (λ j hj _. omega (arith, zeros j)));
    }

module _ (a : Params) (serials serials' : List ℕ) (k : Sends) (top : ℕ) (i : Stamps a serials k top) where
  -- ---- a change

  module _ (d : List ℕ) (to serial reached : ℕ) (valid : Valid a) (tw : within a.n to ≡ true) (ts : size to ≡ a.w)
      (x : Stamped a.n (takes to reached serials serial) serial serials serials') where
    abbrev k' : Sends
    k' = sending d to serial reached k

    -- a node's serial does not fall
    rises : (j : ℕ) → j < a.n → get_or serials j 0 ≤ get_or serials' j 0
    rises j hj = go (has to (suc j) && has reached (suc j)) refl (ltb (get_or serials j 0) serial) refl
      where
        go : (b : Bool) → (has to (suc j) && has reached (suc j)) ≡ b → (c : Bool) → ltb (get_or serials j 0) serial ≡ c → get_or serials j 0 ≤ get_or serials' j 0
        go true e true f = omega (arith, x.taken j hj (ap₂ ◌&&◌ e f), ltb-true (get_or serials j 0) serial f)
        go true e false f = omega (arith, x.kept j hj (ap₂ ◌&&◌ e f))
        go false e c f = omega (arith, x.kept j hj (ap (λ (b : Bool). b && ltb (get_or serials j 0) serial) e))

    -- one that is reached has the change's serial, or a higher one
    reaches : (j : ℕ) → j < a.n → has to (suc j) ≡ true → has reached (suc j) ≡ true → serial ≤ get_or serials' j 0
    reaches j hj e f = go (ltb (get_or serials j 0) serial) refl
      where
        go : (c : Bool) → ltb (get_or serials j 0) serial ≡ c → serial ≤ get_or serials' j 0
        go true g = omega (arith, x.taken j hj (ap₂ ◌&&◌ (ap₂ ◌&&◌ e f) g))
        go false g = omega (arith, x.kept j hj (ap₂ ◌&&◌ (ap₂ ◌&&◌ e f) g), ltb-false (get_or serials j 0) serial g)

    -- none gets above a bound of all
    stays-below : (m : ℕ) → serial ≤ m → top ≤ m → (j : ℕ) → j < a.n → get_or serials' j 0 ≤ m
    stays-below m hs ht j hj = go (takes to reached serials serial (suc j)) refl
      where
        go : (b : Bool) → takes to reached serials serial (suc j) ≡ b → get_or serials' j 0 ≤ m
        go true e = omega (arith, x.taken j hj e)
        go false e = omega (arith, x.kept j hj e, i.below j hj)

    -- the first send of a change
    module _ (low : 1 ≤ serial) (new : k.sent serial ≡ false) (higher : (s : ℕ) → k.sent s ≡ true → s < serial) (closed : Closed k) where
      pub top_below : top < serial
      top_below = ⊎_elim (λ e. higher top e) (λ z. omega (arith, z, low)) i.known

      begins-sent : (t : ℕ) → k'.sent t ≡ true → (t ≡ serial) ⊎ ((t ≡ serial → ⊥) × (k.sent t ≡ true))
      begins-sent t e = ⊎_elim (λ q. inl q) (λ ne. inr (ne, sym (sent-there d to serial reached k t ne) ∙ e)) (eq-or t serial)

      begins-marked : (t : ℕ) → k'.sent t ≡ true → (j : ℕ) → j < a.n → has (k'.to t) (suc j) ≡ true → k'.reached t (suc j) ≡ true
          → t ≤ get_or serials' j 0
      begins-marked t e j hj b r =
          ⊎_elim
          (λ q.
          omega (
            arith,
            q,
            reaches j hj (ap (λ (s : ℕ). has s (suc j)) (sym (to-here d to serial reached k)) ∙ subst (λ (t : ℕ). has (k'.to t) (suc j) ≡ true) q b)
                (mine j (sym (reached-here d to serial reached k (suc j)) ∙ subst (λ (t : ℕ). k'.reached t (suc j) ≡ true) q r)),
          ))
          (λ o.
          let was =
          i.marked t o.1 j hj (ap (λ (s : ℕ). has s (suc j)) (sym (to-there d to serial reached k t o.0)) ∙ b)
          (sym (reached-there d to serial reached k t o.0 (suc j)) ∙ r) in
          omega (arith, was, rises j hj))
          (begins-sent t e)
        where
          mine : (j : ℕ) → (has reached (suc j) || k.reached serial (suc j)) ≡ true → has reached (suc j) ≡ true
          mine j h = go (has reached (suc j)) (subst (λ (b : Bool). (has reached (suc j) || b) ≡ true) (i.unsent serial new (suc j)) h)
            where
              go : (b : Bool) → (b || false) ≡ true → b ≡ true
              go true h = refl
              go false h = h

      pub stamps-begin : Stamps a serials' k' serial
      stamps-begin =
          record {
            many = x.length_is;
            below = stays-below serial (omega arith) (omega (arith, top_below));
            known = inl (sent-here d to serial reached k);
            latest = λ t e. ⊎_elim (λ q. omega (arith, q)) (λ o. omega (arith, higher t o.1)) (begins-sent t e);
            unsent = λ t e i'.
                let ne : t ≡ serial → ⊥ = λ q. true≢false (sym (sent-here d to serial reached k) ∙ subst (λ (t : ℕ). k'.sent t ≡ false) q e) in
                reached-there d to serial reached k t ne i' ∙ i.unsent t (sym (sent-there d to serial reached k t ne) ∙ e) i';
            older = λ t e h i' b.
                ⊎_elim (λ q. absurd (omega (arith, q, h)))
                (λ o.
                reached_still d to serial reached k t i'
                (closed t o.1 i' (ap (λ (s : ℕ). has s i') (sym (to-there d to serial reached k t o.0)) ∙ b)))
                (begins-sent t e);
            marked = begins-marked;
            every = λ c.
                every-meets a valid serials' serial to tw ts (stays-below serial (omega arith) (omega (arith, top_below)))
                (λ j hj b.
                let there = ap (λ (s : ℕ). has s (suc j)) (to-here d to serial reached k) ∙ b in
                begins-marked serial (sent-here d to serial reached k) j hj there (c serial (sent-here d to serial reached k) (suc j) there));
          }

    -- a further one
    module _ (old : k.sent serial ≡ true) (same : to ≡ k.to serial) where
      again-marked : (t : ℕ) → k'.sent t ≡ true → (j : ℕ) → j < a.n → has (k'.to t) (suc j) ≡ true → k'.reached t (suc j) ≡ true
          → t ≤ get_or serials' j 0
      again-marked t e j hj b r = go (k.reached t (suc j)) refl
        where
          there : has (k.to t) (suc j) ≡ true
          there = ap (λ (s : ℕ). has s (suc j)) (sym (again-to d to serial reached k same t)) ∙ b

          this : (c : Bool) → (c || false) ≡ true → c ≡ true
          this true h = refl
          this false h = h

          split : (b c : Bool) → (b && c) ≡ true → (b ≡ true) × (c ≡ true)
          split true c h = (refl, h)
          split false c h = absurd (true≢false (sym h))

          go : (c : Bool) → k.reached t (suc j) ≡ c → t ≤ get_or serials' j 0
          go true f = omega (arith, i.marked t (sym (again-sent d to serial reached k old t) ∙ e) j hj there f, rises j hj)
          go false f =
              let h = split (eqb t serial) (has reached (suc j)) (this _ (ap (λ (c : Bool). (eqb t serial && has reached (suc j)) || c) (sym f) ∙ r)) in
              let q : t ≡ serial = eqb-true t serial h.0 in
              omega (arith, q, reaches j hj (ap (λ (s : ℕ). has s (suc j)) (same ∙ ap (λ (t : ℕ). k.to t) (sym q)) ∙ there) h.1)

      -- the earlier changes, closed before, are closed as they were
      again-closed : serial < top → Closed k' → Closed k
      again-closed h c t e i' b =
          ⊎_elim (λ q. i.older t e (omega (arith, q, h)) i' b)
          (λ ne.
          sym (reached-there d to serial reached k t ne i') ∙ c t (again-sent d to serial reached k old t ∙ e) i' (ap (λ (s : ℕ). has s i') (again-to d to serial reached k same t) ∙ b))
          (eq-or t serial)

      pub stamps-again : Stamps a serials' k' top
      stamps-again =
          record {
            many = x.length_is;
            below = low;
            known = ⊎_elim (λ e. inl (again-sent d to serial reached k old top ∙ e)) inr i.known;
            latest = λ t e. i.latest t (sym (again-sent d to serial reached k old t) ∙ e);
            unsent = λ t e i'.
                let was = sym (again-sent d to serial reached k old t) ∙ e in
                let ne : t ≡ serial → ⊥ = λ q. true≢false (sym old ∙ subst (λ (t : ℕ). k.sent t ≡ false) q was) in
                reached-there d to serial reached k t ne i' ∙ i.unsent t was i';
            older = λ t e h i' b.
                reached_still d to serial reached k t i' (i.older t (sym (again-sent d to serial reached k old t) ∙ e) h i' (ap (λ (s : ℕ). has s i') (sym (again-to d to serial reached k same t)) ∙ b));
            marked = again-marked;
            every = λ c.
                ⊎_elim (λ h from w s. every-still a serials serials' top low rises from (i.every (again-closed h c) from w s))
                (λ h.
                let q : top ≡ serial = omega (arith, h, i.latest serial old) in
                every-meets a valid serials' top to tw ts low
                (λ j hj b.
                let there = ap (λ (s : ℕ). has s (suc j)) (to-here d to serial reached k) ∙ b in
                omega (
                  arith,
                  q,
                  again-marked serial (sent-here d to serial reached k) j hj there (c serial (sent-here d to serial reached k) (suc j) there),
                )))
                (lt-or serial top);
          }
        where
          low : (j : ℕ) → j < a.n → get_or serials' j 0 ≤ top
          low = stays-below top (i.latest serial old) (omega arith)

  -- ---- between closed changes

  module _ (closed : Closed k) (from : ℕ) (fw : within a.n from ≡ true) (fs : size from ≡ a.r) where
    last : highest (has from) serials a.n ≡ top
    last = i.every closed from fw fs

    pub stamps-repair : (lost : ℕ) → Stamped a.n (has lost) (highest (has from) serials a.n) serials serials' → Stamps a serials' k top
    stamps-repair lost x =
        record {
          many = x.length_is;
          below = λ j hj. (proj j hj).0;
          known = i.known;
          latest = i.latest;
          unsent = i.unsent;
          older = i.older;
          marked = λ t e j hj b r. omega (arith, i.marked t e j hj b r, (proj j hj).1);
          every = λ c from w s. every-still a serials serials' top (λ j hj. (proj j hj).0) (λ j hj. (proj j hj).1) from (i.every c from w s);
        }
      where
        proj : (j : ℕ) → j < a.n → (get_or serials' j 0 ≤ top) × (get_or serials j 0 ≤ get_or serials' j 0)
        proj j hj = go (has lost (suc j)) refl
          where
            go : (b : Bool) → has lost (suc j) ≡ b → (get_or serials' j 0 ≤ top) × (get_or serials j 0 ≤ get_or serials' j 0)
            go true e = let s = x.taken j hj e in (omega (arith, s, last), omega (arith, s, last, i.below j hj))
            go false e = let s = x.kept j hj e in (omega (arith, s, i.below j hj), omega (arith, s))

    pub stamps-reconfigure : (t : Shape) (to : ℕ) → Valid (reshaped a t) → within t.n to ≡ true → size to ≡ t.w
        → Stamped t.n (writes a to) (highest (has from) serials a.n) serials serials' → Stamps (reshaped a t) serials' k top
    stamps-reconfigure t to valid tw ts x =
        record {
          many = x.length_is;
          below = low;
          known = i.known;
          latest = i.latest;
          unsent = i.unsent;
          older = i.older;
          marked = λ s e j hj b r. go j hj s e b r (has to (suc j)) refl (ltb a.n (suc j)) refl;
          every = λ c. every-meets (reshaped a t) valid serials' top to tw ts low (λ j hj e. omega (arith, x.taken j hj (ap (λ (b : Bool). b || ltb a.n (suc j)) e), last));
        }
      where
        low : (j : ℕ) → j < t.n → get_or serials' j 0 ≤ top
        low j hj = by (has to (suc j)) refl (ltb a.n (suc j)) refl
          where
            by : (b : Bool) → has to (suc j) ≡ b → (c : Bool) → ltb a.n (suc j) ≡ c → get_or serials' j 0 ≤ top
            by true e c f = omega (arith, x.taken j hj (ap₂ ◌||◌ e f), last)
            by false e true f = omega (arith, x.taken j hj (ap₂ ◌||◌ e f), last)
            by false e false f = omega (arith, x.kept j hj (ap₂ ◌||◌ e f), i.below j (ltb-false a.n (suc j) f))

        go : (j : ℕ) → j < t.n → (s : ℕ) → k.sent s ≡ true → has (k.to s) (suc j) ≡ true → k.reached s (suc j) ≡ true → (b : Bool) → has to (suc j) ≡ b
            → (c : Bool) → ltb a.n (suc j) ≡ c → s ≤ get_or serials' j 0
        go j hj s e b r true et c ec = omega (arith, x.taken j hj (ap₂ ◌||◌ et ec), last, i.latest s e)
        go j hj s e b r false et true ec = omega (arith, x.taken j hj (ap₂ ◌||◌ et ec), last, i.latest s e)
        go j hj s e b r false et false ec =
            omega (arith, x.kept j hj (ap₂ ◌||◌ et ec), i.marked s e j (ltb-false a.n (suc j) ec) b r)
