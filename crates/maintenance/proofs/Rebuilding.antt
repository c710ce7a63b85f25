-- A rebuild: what its core asks of an accepted call, that recomputed blocks put in place are what it does, and what this makes of the call. Assumes nothing.
use mathlib.Core.Path.{◌≡◌, ap, ◌∙◌, subst₂}
use mathlib.Core.List.{List}
use Prim.Native.Nat.{ℕ, suc, ◌*◌, ◌^◌, ◌<◌}
use native.Mathlib.Omega.{arith}
use lib.ListN.{length}
use Rattle.base.proofs.Parts.{row_ends}
use Rattle.field.specs.Field.{Bytes}
use Rattle.params.specs.Nodes.{has, size}
use Rattle.params.specs.declared.Params.{Params}
use Rattle.params.proofs.Sets.{within_has}
use Rattle.gates.specs.Valid.{RepairAccepted}
use Rattle.serials.specs.Serials.{highest, Stamped}
use Rattle.code.specs.Code.{used}
use Rattle.code.specs.Calls.{Repaired}
use Rattle.code.proofs.Pairs.{pair-exists, from-reads}
use Rattle.code.proofs.Used.{Uses, gives-chosen}
use Rattle.placing.specs.Placed.{Puttable, PutPost}
use Rattle.extension.specs.Blocks.{Recomputable, RecomputePost}
use Rattle.maintenance.specs.Cores.{Rebuildable, Rebuilt}

-- ---- the core

module _ (a : Params) (from lost : ℕ) (old : List ℕ) (ok : Rebuildable a from lost (length old)) where
  pub rebuilt : (before fresh new : List ℕ) → length before ≡ size lost * a.b → RecomputePost a from lost old before fresh
      → PutPost a.b lost fresh old new → Rebuilt a from lost old new
  rebuilt before fresh new room found put =
      record {
        same = put.same;
        rebuilt = λ x v gives j p e hp. put.put puts j p e hp ∙ found.written asks x v gives j p e hp;
        kept = put.others;
      }
    where
      asks : Recomputable a from lost (length old) (length before)
      asks = record { full = ok.full; inside = ok.from_inside; codeword_length = ok.codeword_length; room = room }

      puts : Puttable a.b lost (length old) (length fresh)
      puts =
          record {
            inside = (ok.b_low, λ j e. row_ends a.n j a.b (length old) (ok.lost_inside (suc j) e) (omega (arith, ok.codeword_length)));
            room = found.same ∙ room;
          }

-- ---- the call

module _ (a : Params) (from chosen lost : ℕ) (u : Uses a from chosen) where
  pub rebuildable : (codeword serials : ℕ) → lost < 2 ^ 32 → RepairAccepted a codeword serials from lost → Rebuildable a chosen lost codeword
  rebuildable codeword serials word ok =
      record {
        full = u.full;
        from_inside = u.inside;
        lost_inside = (within_has a.n lost word).0 ok.lost_within;
        codeword_length = ok.codeword_length;
        b_low = ok.valid.b_low;
        b_high = ok.valid.b_high;
      }

  pub repaired : (serials : ℕ) (old new : List ℕ) → RepairAccepted a (length old) serials from lost → Bytes old → Rebuilt a chosen lost old new
      → Repaired a old from lost new
  repaired serials old new ok bytes done =
      let g = pair-exists a ok.valid (used a from) (from-reads a from ok.valid ok.from_within ok.from_size) old bytes in
      record {
        message = g.0;
        slack = g.1;
        gives = g.2;
        length_is = done.same ∙ ok.codeword_length;
        rebuilt = λ j p hj e hp. done.rebuilt g.0 g.1 (gives-chosen u g.2) j p e hp;
        kept = λ j p hj e hp. done.kept j p e hp;
      }

-- all n nodes have a serial
pub restamped : (a : Params) (codeword from lost newest : ℕ) (serials new : List ℕ) → RepairAccepted a codeword (length serials) from lost
    → newest ≡ highest (has from) serials (length serials) → Stamped (length serials) (has lost) newest serials new
    → Stamped a.n (has lost) (highest (has from) serials a.n) serials new
restamped a codeword from lost newest serials new ok e =
    subst₂ (λ (m x : ℕ). Stamped m (has lost) x serials new) ok.serials_length (e ∙ ap (highest (has from) serials) ok.serials_length)
