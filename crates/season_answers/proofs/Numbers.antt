-- "10 no longer comes from events" (document 02, 2026-04): it is none of the numbers that the events' gates give. Nor is 24, since no event's number is 0 (2026-03).
-- Assumes nothing.
use mathlib.Core.Path.{◌≡◌, sym, ◌∙◌}
use mathlib.Core.Bool.{Bool, true, false, not, ◌&&◌, true≢false}
use mathlib.Core.List.{List, [], ◌∷◌, Memᴰ}
use Prim.Native.Nat.{ℕ, ◌≤◌}
use lib.Dec.{T, eqb}
use borrow.Author.Tests.{eq-eqb}
use Rattle.params.specs.declared.Params.{Params}
use Rattle.gates.proofs.Valid.{update-number, update-number-above, repair-number, damage-number, decode-number, reconfigure-number}
use Rattle.season_file.specs.declared.Event.{Event}
use Rattle.season_file.specs.declared.Event.TheVariants.{Update, Repair, Damage, Decode, Reconfigure}
use Rattle.season_answers.specs.Answers.{answer_of}

-- the number is not in the list
abbrev lacks : ℕ → List ℕ → Bool
lacks m [] = true
lacks m (x ∷ l) = not (eqb m x) && lacks m l

apart : (m q : ℕ) (l : List ℕ) → Memᴰ q l → T (lacks m l) → q ≡ m → ⊥
apart m q [] k t e = elim k [ ]
apart m q (x ∷ l) (Memᴰ.head h) t e = here (eqb m x) (eq-eqb m x (sym e ∙ h)) t
  where
    here : (b : Bool) → b ≡ true → T (not b && lacks m l) → ⊥
    here true e t = t
    here false e t = true≢false (sym e)
apart m q (x ∷ l) (Memᴰ.tail k) t e = there (eqb m x) t (λ t. apart m q l k t e)
  where
    there : (b : Bool) → T (not b && lacks m l) → (T (lacks m l) → ⊥) → ⊥
    there true t rest = t
    there false t rest = rest t

pub no-ten : (a : Params) (serial : ℕ) (e : Event) → answer_of a serial e ≡ 10 → ⊥
unfolding answer_of
no-ten a serial (Update f) = apart 10 _ _ (update-number _ _ _ _ _ _) tt
no-ten a serial (Repair f) = apart 10 _ _ (repair-number _ _ _ _ _) tt
no-ten a serial (Damage f) = apart 10 _ _ (damage-number _ _) tt
no-ten a serial (Decode f) = apart 10 _ _ (decode-number _ _ _ _) tt
no-ten a serial (Reconfigure f) = apart 10 _ _ (reconfigure-number _ _ _ _ _ _ _ _ _) tt

pub no-twenty-four : (a : Params) (serial : ℕ) (e : Event) → 1 ≤ serial → answer_of a serial e ≡ 24 → ⊥
unfolding answer_of
no-twenty-four a serial (Update f) low = apart 24 _ _ (update-number-above _ _ _ _ _ _ low) tt
no-twenty-four a serial (Repair f) low = apart 24 _ _ (repair-number _ _ _ _ _) tt
no-twenty-four a serial (Damage f) low = apart 24 _ _ (damage-number _ _) tt
no-twenty-four a serial (Decode f) low = apart 24 _ _ (decode-number _ _ _ _) tt
no-twenty-four a serial (Reconfigure f) low = apart 24 _ _ (reconfigure-number _ _ _ _ _ _ _ _ _) tt
