-- Each answer of `invert` meets the contract: the questions up to the first no, and what goes with its number. Assumes nothing.
use mathlib.Core.Path.{◌≡◌, refl, sym, ◌∙◌, subst}
use mathlib.Core.Bool.{true, false, ◌&&◌}
use mathlib.Core.List.{List, [], ◌∷◌}
use Prim.Native.Nat.{ℕ, ◌+◌, ◌*◌, ◌≤◌, ◌<◌}
use native.Mathlib.Omega.{arith}
use lib.Dec.{T, leb, eqb}
use lib.ListN.{length}
use borrow.Author.Tests.{le-leb, eq-eqb}
use Rattle.base.specs.Gate.{Question, first_no}
use Rattle.std.specs.Prelude.{Err}
use Rattle.field.specs.Field.{IsByte, Bytes}
use Rattle.matrix.specs.Matrix.{entry, IsInverse, FirstDependent}
use Rattle.matrix.specs.Working.{grid, Loaded, Reduced, StuckAt, Ended}
use Rattle.matrix.specs.Uninvertible.{inversion}
use Rattle.matrix.specs.declared.Uninvertible.{Uninvertible}
use Rattle.matrix.specs.declared.Uninvertible.TheVariants.{Side, Lengths, Singular}
use Rattle.matrix.specs.Invert.{side_asked, lengths_asked, inverse_asked, InvertPost}
use Rattle.matrix.specs.Inversion.{Inverted, Singular as SingularAt, Refused}
use Rattle.matrix.proofs.Laws.{not-singular, dependent-singular}
use Rattle.matrix.proofs.Bridge.{dependent, inverted}

-- the first two questions answered yes
pub record Open (s : ℕ) (m old : List ℕ) : Type 0 where
  pub low : 1 ≤ s
  pub high : s ≤ 32
  pub matrix : length m ≡ s * s
  pub buffer : length old ≡ s * s

-- the rest decides
pub gate-open : (s : ℕ) (m old : List ℕ) (rest : List Question) → Open s m old
    → first_no (side_asked s ∷ lengths_asked s m old ∷ rest) ≡ first_no rest
unfolding first_no
gate-open s m old rest o =
    simp (le-leb 1 s o.low, le-leb s 32 o.high, eq-eqb (length m) (s * s) o.matrix, eq-eqb (length old) (s * s) o.buffer)

refused : (s q : ℕ) (m old : List ℕ) → ((rest : List Question) → first_no (side_asked s ∷ lengths_asked s m old ∷ rest) ≡ q) → (q ≡ 0 → ⊥)
    → (q ≡ 15 → ⊥) → InvertPost s m old (Refused q) old
refused s q m old first some other =
    record {
      has_inverse = true;
      asked = λ none. absurd (some (sym (first []) ∙ none));
      first = sym (first _);
      served = λ e. absurd (some e);
      refused = λ ne. refl;
      dependent = λ e. absurd (other e);
      no_column = λ ne. refl;
      proper = (some, other);
    }

pub refused-side : (s : ℕ) (m old : List ℕ) → (leb 1 s && leb s 32) ≡ false → InvertPost s m old (Refused 16) old
unfolding first_no
refused-side s m old e = refused s 16 m old (λ rest. simp e) (λ z. omega arith) (λ z. omega arith)

pub refused-lengths : (s : ℕ) (m old : List ℕ) → 1 ≤ s → s ≤ 32 → (eqb (length m) (s * s) && eqb (length old) (s * s)) ≡ false
    → InvertPost s m old (Refused 6) old
unfolding first_no
refused-lengths s m old low high e =
    refused s 6 m old (λ rest. simp (le-leb 1 s low, le-leb s 32 high, e)) (λ z. omega arith) (λ z. omega arith)

module _ (s : ℕ) (m old : List ℕ) (o : Open s m old) where
  pub answered-inverse : (new : List ℕ) → IsInverse s m new → InvertPost s m old Inverted new
  unfolding first_no
  answered-inverse new inv =
      record {
        has_inverse = true;
        asked = λ none. (λ e. absurd (subst T e tt), λ g. absurd (not-singular s m new inv g));
        first = sym (gate-open s m old (inverse_asked true ∷ []) o);
        served = λ e. inv;
        refused = λ ne. absurd (ne refl);
        dependent = λ e. absurd (omega arith);
        no_column = λ ne. refl;
        proper = tt;
      }

  pub answered-singular : (c : ℕ) → FirstDependent s m c → InvertPost s m old (SingularAt c) old
  unfolding first_no
  answered-singular c d =
      record {
        has_inverse = false;
        asked = λ none. (λ e. dependent-singular s m d.place d.within d.here, λ x. refl);
        first = sym (gate-open s m old (inverse_asked false ∷ []) o);
        served = λ e. absurd (omega arith);
        refused = λ ne. refl;
        dependent = λ e. d;
        no_column = λ ne. absurd (ne refl);
        proper = tt;
      }

  -- the elimination ended: what it left, and what was written of it
  module _ (t : ℕ) (start end : List (List ℕ)) (e : t ≡ s) (loaded : Loaded s m start) where
    pub answered-stuck : (why : Uninvertible) → Bytes m → ((i k : ℕ) → IsByte (grid end i k)) → Ended t start end (Err why)
        → InvertPost s m old (inversion (Err why)) old
    answered-stuck (Singular c) hm bytes (j, counted, stuck) =
        answered-singular c (dependent s j m start end loaded (subst (λ (x : ℕ). StuckAt x j start end) e stuck) hm bytes c counted)
    answered-stuck Side hm bytes none = absurd none
    answered-stuck Lengths hm bytes none = absurd none

    pub answered-stored : (u : ℕ) (new : List ℕ) → u ≡ t → Reduced t t start end
        → ((i k : ℕ) → i < u → k < u → entry u new i k ≡ grid end i (u + k)) → length new ≡ s * s → Bytes new → InvertPost s m old Inverted new
    answered-stored u new e' reduced written count known =
        answered-inverse new
        (inverted s m new start end loaded (subst (λ (x : ℕ). Reduced x x start end) e reduced)
        (subst (λ (x : ℕ). (i k : ℕ) → i < x → k < x → entry x new i k ≡ grid end i (x + k)) (e' ∙ e) written) count known)
