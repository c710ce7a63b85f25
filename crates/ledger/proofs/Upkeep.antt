-- Lists of accepted changes and rebuilds after a set-up (document 02, 2026-07): an accepted set-up begins one, every accepted change and every accepted rebuild may
-- come next, and what is then held is settled. Assumes nothing.
use mathlib.Core.Path.{◌≡◌, refl, sym, ap₂, subst}
use mathlib.Core.List.{List, [], ◌∷◌, ◌++◌}
use Prim.Native.Nat.{ℕ}
use Rattle.field.specs.Field.{Bytes}
use Rattle.params.specs.declared.Params.{Params}
use Rattle.serials.specs.Serials.{Words32}
use Rattle.code.specs.Calls.{EncodePost, UpdatePost, RepairPost}
use Rattle.code.proofs.Posts.{served}
use Rattle.code.proofs.Determined.{encode-once}
use Rattle.ledger.specs.Ledger.{Held, begun, with_record, update, repair, Event, call, in_force, Step, updated, repaired, Typed}
use Rattle.ledger.specs.Stolen.{ChangeOrRebuild, Upkeep, done, more, UpkeepAfter}
use Rattle.ledger.proofs.Invariant.{given-in-force}
use Rattle.ledger.proofs.Whole.{step-unique}

-- ---- which lists there are

pub begins : {a : Params} {x v buffer numbers codeword serials : List ℕ} → Bytes x → Bytes v → Bytes buffer → Words32 numbers
    → EncodePost a x v buffer numbers 0 codeword serials → UpkeepAfter a x v [] (begun a codeword serials)
begins {buffer = buffer} {numbers = numbers} {codeword = codeword} {serials = serials} hx hv hb hn post =
    record {
      buffer = buffer;
      numbers = numbers;
      codeword = codeword;
      serials = serials;
      typed = (hx, hv, hb, hn);
      opening = post;
      upkeep = done;
    }

-- one event more at the end
extended : {h h₁ h₂ : Held} {es : List Event} {e : Event} → Upkeep h es h₁ → Typed e → ChangeOrRebuild h₁ e → Step h₁ e 0 h₂ → Upkeep h (es ++ e ∷ []) h₂
extended done t c s = more t c s done
extended (more t' c' s' rest) t c s = more t' c' s' (extended rest t c s)

module _ {a : Params} {x v : List ℕ} {events : List Event} {h : Held} (y : UpkeepAfter a x v events h) {new serials : List ℕ} where
  goes_on : (e : Event) → Typed e → ChangeOrRebuild h e → Step h e 0 (with_record new serials h)
      → UpkeepAfter a x v (events ++ e ∷ []) (with_record new serials h)
  goes_on e t c s =
      record {
        buffer = y.buffer;
        numbers = y.numbers;
        codeword = y.codeword;
        serials = y.serials;
        typed = y.typed;
        opening = y.opening;
        upkeep = extended y.upkeep t c s;
      }

  pub change-next : (d : List ℕ) (to serial reached : ℕ) → Typed (call (in_force h) (update d to serial reached))
      → UpdatePost h.params d to serial reached h.codeword h.serials 0 new serials
      → UpkeepAfter a x v (events ++ call (in_force h) (update d to serial reached) ∷ []) (with_record new serials h)
  change-next d to serial reached t post = goes_on (call (in_force h) (update d to serial reached)) t (given-in-force h) (updated 0 new serials post)

  pub rebuild-next : (from lost : ℕ) → Typed (call (in_force h) (repair from lost)) → RepairPost h.params from lost h.codeword h.serials 0 new serials
      → UpkeepAfter a x v (events ++ call (in_force h) (repair from lost) ∷ []) (with_record new serials h)
  rebuild-next from lost t post = goes_on (call (in_force h) (repair from lost)) t (given-in-force h) (repaired 0 new serials post)

-- ---- what is then held

-- What a list leaves is settled, ..
pub upkeep-once : {h end end' : Held} {events : List Event} → Upkeep h events end → Upkeep h events end' → end ≡ end'
upkeep-once done done = refl
upkeep-once {h = h} {end' = end'} (more {e = e} {es = es} ty i st rest) (more ty' i' st' rest') =
    upkeep-once rest (subst (λ (h : Held). Upkeep h es end') (sym (step-unique h e st st').1) rest')

-- .. and what a set-up and a list leave, whatever the buffers held before.
pub after-once : {a : Params} {x v : List ℕ} {events : List Event} {h h' : Held} → UpkeepAfter a x v events h → UpkeepAfter a x v events h' → h ≡ h'
after-once {a = a} {x = x} {v = v} {events = events} {h' = h'} y y' =
    let same =
    encode-once a x v y.buffer y.numbers 0 0 y.codeword y'.codeword y.serials y'.serials y.opening
    (served _ (sym y.opening.number) (y'.opening.served refl)) in
    upkeep-once y.upkeep (subst (λ (h : Held). Upkeep h events h') (sym (ap₂ (begun a) same.1 same.2)) y'.upkeep)
