-- What an input begins with, case by case: the tests decide which case of the definition holds. Assumes nothing.
use mathlib.Core.Path.{◌≡◌, ap, ◌∙◌}
use mathlib.Core.List.{List}
use Prim.Native.Nat.{ℕ, ◌+◌, ◌≤◌, ◌<◌}
use lib.ListN.{length}
use borrow.Author.Tests.{lt-ltb, le-ltb, eq-eqb, ne_eqb}
use Rattle.std.specs.Prelude.{Ok, Err}
use Rattle.params.specs.declared.Params.{Params}
use Rattle.season_file.specs.File.{number_at, params_of, events_count_at, opening_of}
use Rattle.season_file.specs.declared.FileFault.TheVariants.{FirstCount, EndsEarly}

module _ (input : List ℕ) where
  pub no-count : length input < 2 → Err EndsEarly ≡ opening_of input
  unfolding opening_of
  no-count h = simp (lt-ltb (length input) 2 h)

  pub other-count : 2 ≤ length input → (number_at input 0 ≡ 5 → ⊥) → Err FirstCount ≡ opening_of input
  unfolding opening_of
  other-count h ne = simp (le-ltb (length input) 2 h, ne_eqb (number_at input 0) 5 ne)

  module _ (h : 2 ≤ length input) (five : number_at input 0 ≡ 5) where
    pub cut : length input < events_count_at input + 2 → Err EndsEarly ≡ opening_of input
    unfolding opening_of
    cut l = simp (le-ltb (length input) 2 h, eq-eqb (number_at input 0) 5 five, lt-ltb (length input) (events_count_at input + 2) l)

    pub opened : (a : Params) (m s e : ℕ) → a ≡ params_of input → m ≡ number_at input 12 → s ≡ number_at input (14 + m)
        → e ≡ number_at input (14 + m + 2 + s) → 14 + m + 2 + s + 2 ≤ length input
        → Ok (record {
          params = a;
          message = record { at = 14; count = m };
          slack = record { at = 14 + m + 2; count = s };
          events = e;
          at = 14 + m + 2 + s + 2;
        }) ≡ opening_of input
    unfolding opening_of
    opened a m s e ea em es ee l =
        let es' : s ≡ number_at input (14 + number_at input 12) = es ∙ ap (λ (k : ℕ). number_at input (14 + k)) em in
        let ends : 14 + m + 2 + s ≡ events_count_at input = cc in
        let l' : events_count_at input + 2 ≤ length input = rw ends at l in
        let ee' : e ≡ number_at input (events_count_at input) = ee ∙ ap (number_at input) ends in
        simp (le-ltb (length input) 2 h, eq-eqb (number_at input 0) 5 five, le-ltb (length input) (events_count_at input + 2) l') (cc)
