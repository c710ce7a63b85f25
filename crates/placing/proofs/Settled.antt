-- What is put is settled: at most one list meets the post-condition, whatever the lengths. Assumes nothing.
use mathlib.Core.Path.{◌≡◌, refl, sym, ap, ◌∙◌}
use mathlib.Core.Logic.{⊎_elim}
use mathlib.Core.Bool.{Bool, true, false}
use mathlib.Core.List.{List}
use Prim.Native.Nat.{ℕ, suc, ◌*◌, ◌+◌, ◌/◌, ◌%◌, ◌<◌}
use native.Mathlib.Nat.{div-add-mod', mod-lt}
use lib.ListN.{length, get_or}
use lib.Seq.{ext_get_or}
use Rattle.base.specs.Seq.{cell}
use Rattle.base.proofs.Cases.{eq-or}
use Rattle.params.specs.Nodes.{has}
use Rattle.placing.specs.Placed.{Puttable, PutPost}

module _ (b set : ℕ) (fresh old new new' : List ℕ) (x : PutPost b set fresh old new) (y : PutPost b set fresh old new') where
  -- where the lengths fit, each cell is told
  cells : Puttable b set (length old) (length fresh) → (j p : ℕ) → p < b → (t : Bool) → has set (suc j) ≡ t → cell b new j p ≡ cell b new' j p
  cells ok j p hp true e = x.put ok j p e hp ∙ sym (y.put ok j p e hp)
  cells ok j p hp false e = x.others j p e hp ∙ sym (y.others j p e hp)

  entry : Puttable b set (length old) (length fresh) → (i : ℕ) → get_or new i 0 ≡ get_or new' i 0
  unfolding cell
  entry ok i =
      let whole : i / b * b + i % b ≡ i = div-add-mod' i b in
      ap (λ (k : ℕ). get_or new k 0) (sym whole) ∙ cells ok (i / b) (i % b) (mod-lt i ok.inside.0) (has set (suc (i / b))) refl
      ∙ ap (λ (k : ℕ). get_or new' k 0) whole

  -- and an entry that differed would say that they do not fit, when both lists are the old one
  pub put-once : new ≡ new'
  put-once = ext_get_or 0 new new' (x.same ∙ sym y.same) (λ i h. ⊎_elim (λ e. e) (λ ne. absurd (ne (apart i ne))) (eq-or (get_or new i 0) (get_or new' i 0)))
    where
      apart : (i : ℕ) → (get_or new i 0 ≡ get_or new' i 0 → ⊥) → get_or new i 0 ≡ get_or new' i 0
      apart i ne =
          let none : Puttable b set (length old) (length fresh) → ⊥ = λ ok. ne (entry ok i) in
          ap (λ (l : List ℕ). get_or l i 0) (x.kept none ∙ sym (y.kept none))
