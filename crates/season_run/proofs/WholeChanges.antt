-- In every run of a season, whatever is damaged or read, the serials before an event are below its number: each event hands on serials that are there, or its own
-- number. So no change is refused for its serial, and each accepted one is the whole change of document 01. Assumes nothing.
use mathlib.Core.Path.{◌≡◌, refl, sym, ap, ◌∙◌, subst}
use mathlib.Core.Logic.{⊎_elim}
use mathlib.Core.Bool.{Bool, true, false, ◌||◌, true≢false}
use mathlib.Core.List.{List}
use Prim.Native.Nat.{ℕ, zero, suc, ◌≤◌, ◌<◌}
use native.Mathlib.Omega.{arith}
use lib.Dec.{ltb}
use lib.ListN.{get_or}
use borrow.Author.Tests.{ltb-false}
use Rattle.base.proofs.Cases.{eq-or}
use Rattle.base.proofs.Seq.{zeros-at}
use Rattle.field.specs.Field.{Bytes}
use Rattle.params.specs.Nodes.{has}
use Rattle.gates.proofs.Valid.{update-accepted}
use Rattle.serials.specs.Serials.{Stamped}
use Rattle.serials.proofs.Laws.{highest-le}
use Rattle.code.specs.Calls.{Updated}
use Rattle.code.proofs.Sends.{send-whole}
use Rattle.ledger.specs.Ledger.{Held, Machine, Step, updated, repaired, damaged, decoded, reconfigured}
use Rattle.ledger.specs.Ledger as ledger
use Rattle.std.specs.Prelude.{Ok}
use Rattle.season_file.specs.File.{bytes_of, item_at}
use Rattle.season_file.specs.declared.Event.{Event}
use Rattle.season_file.specs.declared.Event.TheVariants.{Update, Repair, Damage, Decode, Reconfigure}
use Rattle.season_file.specs.declared.Found.{Found}
use Rattle.season_file.specs.declared.UpdateFields.{UpdateFields}
use Rattle.season_answers.specs.Answers.{answer_of}
use Rattle.season_answers.proofs.Numbers.{no-twenty-four}
use Rattle.season_effects.specs.Events.{listed}
use Rattle.season_run.specs.Season.{Place, on, Goes}
use Rattle.season_run.specs.Season as season
use Rattle.season_run.specs.Ledgers.{answer_at, Reached, opened, tried}
use Rattle.season_run.proofs.Program.{goes-next}
use Rattle.season_run.proofs.LedgerRun.{step_of}

abbrev Below : ℕ → Held → Type 0
Below m h = (j : ℕ) → j < h.params.n → get_or h.serials j 0 < m

-- nodes that take a lower serial, and nodes that had one
stamped-below : (n : ℕ) (f : ℕ → Bool) (serial m : ℕ) (old new : List ℕ) → serial < m → Stamped n f serial old new
    → ((j : ℕ) → j < n → f (suc j) ≡ false → get_or old j 0 < m) → (j : ℕ) → j < n → get_or new j 0 < m
stamped-below n f serial m old new h s low j hj = go (f (suc j)) refl
  where
    go : (b : Bool) → f (suc j) ≡ b → get_or new j 0 < m
    go true e = omega (arith, s.taken j hj e)
    go false e = omega (arith, s.kept j hj e, low j hj e)

-- a copied node is an old one
copied-low : (n i : ℕ) (b : Bool) → (b || ltb n i) ≡ false → i ≤ n
copied-low n i true e = absurd (true≢false e)
copied-low n i false e = ltb-false n i e

step-below : (h : Held) (input : List ℕ) (number : ℕ) (e : Event) {q : ℕ} {h' : Held} → Step h (listed h input number e) q h' → Below number h
    → Below (suc number) h'
step-below h input number (Update f) (updated answer new serials post) low =
    ⊎_elim
    (λ z.
    stamped-below h.params.n _ number (suc number) h.serials serials (omega arith) (post.served z).1 (λ j hj _. omega (arith, low j hj)))
    (λ ne j hj. subst (λ (s : List ℕ). get_or s j 0 < suc number) (sym (post.refused ne).1) (omega (arith, low j hj))) (eq-or answer 0)
step-below h input number (Repair f) (repaired answer new serials post) low =
    ⊎_elim
    (λ z.
    stamped-below h.params.n _ _ (suc number) h.serials serials
    (omega (arith, highest-le (has f.from.0) h.serials h.params.n number (λ j hj _. omega (arith, low j hj)))) (post.served z).1
    (λ j hj _. omega (arith, low j hj)))
    (λ ne j hj. subst (λ (s : List ℕ). get_or s j 0 < suc number) (sym (post.refused ne).1) (omega (arith, low j hj))) (eq-or answer 0)
step-below h input number (Damage f) (damaged {q = zero} e) low = λ j hj. omega (arith, low j hj)
step-below h input number (Damage f) (damaged {q = suc q} e) low = λ j hj. omega (arith, low j hj)
step-below h input number (Decode f) (decoded answer out post) low = λ j hj. omega (arith, low j hj)
step-below h input number (Reconfigure f) (reconfigured zero new serials post) low =
    stamped-below f.shape.n _ _ (suc number) h.serials serials
    (omega (arith, highest-le (has f.from.0) h.serials h.params.n number (λ j hj _. omega (arith, low j hj)))) (post.served refl).1
    (λ j hj e. omega (arith, low j (omega (arith, copied-low h.params.n (suc j) (has f.to.0 (suc j)) e))))
step-below h input number (Reconfigure f) (reconfigured (suc q) new serials post) low = λ j hj. omega (arith, low j hj)

module _ (input : List ℕ) (bytes : Bytes input) where
  reached-below : {events : List ledger.Event} {here : Place} {m : Machine} → Reached input events here m
      → (1 ≤ here.number) × Below here.number here.stands
  reached-below (opened hd i (season.opened hd' codeword serials i' post)) =
      (omega arith, λ j hj. omega (arith, ap (λ (l : List ℕ). get_or l j 0) (post.served refl).1 ∙ zeros-at hd'.params.n j))
  reached-below (tried {here = here} {here' = here'} f r i g) =
      let low = reached-below r in
      let next = (goes-next g).0 in (
        omega (arith, next),
        subst (λ (m : ℕ). Below m here'.stands) (sym next)
            (step-below here.stands input here.number f.event (step_of input bytes f i g) low.1),
      )

  module _ {events : List ledger.Event} {here : Place} {m : Machine} (r : Reached input events here m) where
    -- 24 never comes.
    pub season-no-24 : (f : Found) → answer_at here f ≡ 24 → ⊥
    season-no-24 f = no-twenty-four here.stands.params here.number f.event (reached-below r).0

    -- An accepted change adds its differences to the blocks of all of W, and these nodes take its number.
    pub season-change-whole : (f : UpdateFields) (after : ℕ)
        → item_at here.stands.params input here.at ≡ Ok (record { event = Update f; next = after })
        → answer_of here.stands.params here.number (Update f) ≡ 0 → {line : List ℕ} {here' : Place} → Goes input here line (on here')
        → Updated here.stands.params here.stands.codeword (bytes_of input f.change) f.to.0 (has f.to.0) here'.stands.codeword
        × Stamped here.stands.params.n (has f.to.0) here.number here.stands.serials here'.stands.serials
    season-change-whole f after found accepted {here' = here'} g =
        whole here'.stands (step_of input bytes (record { event = Update f; next = after }) found g)
      where
        h : Held
        h = here.stands

        whole : (h' : Held) → Step h (listed h input here.number (Update f)) (answer_of h.params here.number (Update f)) h'
            → Updated h.params h.codeword (bytes_of input f.change) f.to.0 (has f.to.0) h'.codeword
            × Stamped h.params.n (has f.to.0) here.number h.serials h'.serials
        whole h' (updated answer new serials post) =
            let ok = (update-accepted h.params _ _ _ f.to.0 here.number).0 (sym post.number ∙ accepted) in
            send-whole h.params ok.valid (bytes_of input f.change) f.to.0 here.number ok.to_within ok.to_size f.to.0 (λ i e. e)
            h.codeword h.serials new serials (λ j hj _. (reached-below r).1 j hj) (post.served accepted)
