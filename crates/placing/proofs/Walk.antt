-- A loop over the places of a set's nodes and the blocks of a list, side by side: what each of its turns has. Assumes nothing.
use mathlib.Core.Path.{◌≡◌, sym, ap, ◌∙◌}
use mathlib.Core.List.{List, ◌++◌}
use mathlib.Core.Logic.{inl, inr, ⊎_elim}
use Prim.Native.Nat.{ℕ, ◌+◌, ◌*◌, ◌≤◌, ◌<◌}
use native.Mathlib.Nat.{suc-mul, zero-mul, lt_of_mul-lt-mul_right}
use native.Mathlib.Omega.{arith}
use denote.Ref.{Bor}
use lib.ListN.{length, get_or, take, drop, length-drop, length-append}
use lib.Seq.{get_or-drop, drop-drop, take-append_seam, drop-append_seam}
use Rattle.std.specs.Prelude.{Option, Some, None}
use Rattle.std.specs.declared.iter.Zip.{Zip}
use Rattle.std.specs.declared.slice.Iter.{Iter}
use Rattle.std.specs.declared.slice.ChunksExact.{ChunksExact}
use Rattle.std.specs.Iterator.Adapters.{zip_first, zip_second, zip_steps}
use Rattle.std.specs.Slice.Iter.{iter_rest, chunks_exact_rest, chunks_exact_size, iter_steps, chunks_exact_steps}
use Rattle.base.proofs.Cases.{lt-or}
use Rattle.base.proofs.Parts.{row_ends}
use Rattle.params.specs.Nodes.{size}
use Rattle.placing.proofs.Turns.{Placeable, Turn, places-most}

abbrev pub Both : Type 0
Both = Zip (Iter ℕ) (ChunksExact ℕ)

abbrev pub steps : Both → Option (Bor ℕ × Bor (List ℕ)) → Both → Type 0
steps = zip_steps iter_steps chunks_exact_steps

-- The tests are passed, and so many turns: what is left of the places and of the blocks.
pub record Going (b set number codeword : ℕ) (fresh : List ℕ) (turns : ℕ) (t : Both) : Type 0 where
  pub places : List ℕ
  pub fit : Placeable b set number places codeword (length fresh)
  pub places_left : iter_rest (zip_first t) ≡ drop turns places
  pub blocks_left : chunks_exact_rest (zip_second t) ≡ drop (turns * b) fresh
  pub sized : chunks_exact_size (zip_second t) ≡ b

-- as the loop begins
pub going : {b set number codeword : ℕ} {fresh places : List ℕ} {t z : Both} {i : Iter ℕ} {c : ChunksExact ℕ} → Placeable b set number places codeword (length fresh)
    → t ≡ z → zip_first z ≡ i → zip_second z ≡ c → iter_rest i ≡ places → chunks_exact_rest c ≡ fresh → chunks_exact_size c ≡ b
    → Going b set number codeword fresh 0 t
going {b} {fresh = fresh} {places} {t} fit et ei ec first second size =
    record {
      places = places;
      fit = fit;
      places_left = ap (λ (x : Both). iter_rest (zip_first x)) et ∙ ap iter_rest ei ∙ first;
      blocks_left = whole ∙ ap (λ (m : ℕ). drop m fresh) (sym (zero-mul b));
      sized = ap (λ (x : Both). chunks_exact_size (zip_second x)) et ∙ ap chunks_exact_size ec ∙ size;
    }
  where
    whole : chunks_exact_rest (zip_second t) ≡ fresh
    whole = ap (λ (x : Both). chunks_exact_rest (zip_second x)) et ∙ ap chunks_exact_rest ec ∙ second

module _ {b set number codeword turns : ℕ} {fresh : List ℕ} {t : Both} (g : Going b set number codeword fresh turns t) where
  pub some_bytes : 0 < chunks_exact_size (zip_second t)
  some_bytes = omega (arith, g.sized, g.fit.fits.inside.0)

  blocks_are : number * b ≡ length fresh
  blocks_are = omega (arith, g.fit.fits.room, ap (λ (m : ℕ). m * b) g.fit.listed.count_is)

  module _ (p : Bor ℕ × Bor (List ℕ)) (u : Both) (step : steps t (Some p) u) where
    block : p.1.now ++ chunks_exact_rest (zip_second u) ≡ drop (turns * b) fresh
    block = sym step.1.1.0 ∙ g.blocks_left

    long : length p.1.now ≡ b
    long = step.1.1.1 ∙ g.sized

    within : turns * b + b ≤ length fresh
    within = omega (arith, long, ap length block, length-append p.1.now (chunks_exact_rest (zip_second u)), length-drop (turns * b) fresh, g.fit.fits.inside.0)

    -- what the turn has
    pub turned : {w : ℕ} → w ≡ p.0.now → Turn b set number codeword fresh turns w p.1.now
    turned is =
        record {
          places = g.places;
          fit = g.fit;
          turn = lt_of_mul-lt-mul_right b (omega (arith, within, g.fit.fits.inside.0, blocks_are));
          place =
              is ∙ ap (λ (l : List ℕ). get_or l 0 0) (sym step.0 ∙ g.places_left) ∙ get_or-drop turns g.places 0 0
              ∙ ap (λ (n : ℕ). get_or g.places n 0) (omega arith);
          is =
              sym (take-append_seam p.1.now (chunks_exact_rest (zip_second u))) ∙ ap (take (length p.1.now)) block
              ∙ ap (λ (m : ℕ). take m (drop (turns * b) fresh)) (omega (arith, long));
        }

    pub go_on : Going b set number codeword fresh (turns + 1) u
    go_on =
        record {
          places = g.places;
          fit = g.fit;
          places_left = ap (drop 1) (sym step.0 ∙ g.places_left) ∙ drop-drop 1 turns g.places;
          blocks_left =
              sym (drop-append_seam p.1.now (chunks_exact_rest (zip_second u))) ∙ ap (drop (length p.1.now)) block
              ∙ drop-drop (length p.1.now) (turns * b) fresh ∙ ap (λ (m : ℕ). drop m fresh) (omega (arith, long, suc-mul turns b));
          sized = step.1.0 ∙ g.sized;
        }

  -- the loop ends once each node had its turn
  pub ended : (u : Both) → steps t None u → number ≤ turns
  ended u (inl a) =
      omega (arith, a.1.0, ap length g.places_left, length-drop turns g.places, places-most g.fit.listed)
  ended u (inr a) = ⊎_elim (λ (h : turns < number). absurd (short h)) (λ h. h) (lt-or turns number)
    where
      short : turns < number → ⊥
      short h =
          let fits : turns * b + b ≤ length fresh = row_ends number turns b (length fresh) h (omega (arith, blocks_are)) in
          omega (arith, fits, a.1.1.0, g.sized, ap length g.blocks_left, length-drop (turns * b) fresh)
