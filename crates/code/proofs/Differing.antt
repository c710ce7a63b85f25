-- Every pair differs from a record at exactly one set of nodes: a block is compared byte by byte, so of each node it is told whether the pair gives it. Assumes nothing.
use mathlib.Core.Path.{◌≡◌, refl, ap}
use mathlib.Core.Logic.{inl, inr, ⊎_elim}
use mathlib.Core.Bool.{Bool, true, false, not}
use mathlib.Core.List.{List}
use Prim.Native.Nat.{ℕ, suc, ◌<◌}
use borrow.Author.Tests.{not-true}
use Rattle.params.specs.Nodes.{has, within}
use Rattle.params.specs.declared.Params.{Params}
use Rattle.params.proofs.Sets.{same_test, same-inside}
use Rattle.params.proofs.SetOf.{set-of}
use Rattle.code.specs.Code.{Pair, Gives}
use Rattle.code.proofs.Pairs.{free}
use Rattle.code.proofs.Serving.{Same, same_or}

module _ (a : Params) (x v codeword : List ℕ) where
  -- The pair gives the blocks of the nodes of 1..n outside s, and of no node of s.
  abbrev pub Differs : ℕ → Type 0
  Differs s = (within a.n s ≡ true) × Gives a x v (free (has s)) codeword × ((j : ℕ) → j < a.n → has s (suc j) ≡ true → Same a x v codeword j → ⊥)

  pub differs-exists : Pair a x v → (s : ℕ) × Differs s
  differs-exists pair =
      let d = set-of (λ j. Same a x v codeword j → ⊥) (Same a x v codeword) (λ j. ⊎_elim inr inl (same_or a x v codeword j)) a.n in (
        d.0,
        (
          d.1,
          record { pair = pair; equal = λ j p hj e hp. (d.2 j hj).1 (not-true (has d.0 (suc j)) e) p hp },
          λ j hj. (d.2 j hj).0,
        ),
      )

  pub differs-unique : (s s' : ℕ) → Differs s → Differs s' → s ≡ s'
  differs-unique s s' d d' =
      same-inside a.n s s' d.0 d'.0
      (λ j hj. same_test (has s (suc j)) (has s' (suc j)) (λ e. in_both s s' d d' j hj e (has s' (suc j)) refl) (λ e. in_both s' s d' d j hj e (has s (suc j)) refl))
    where
      -- a node of the one is in the other, since the pair gives the blocks outside that
      in_both : (s t : ℕ) → Differs s → Differs t → (j : ℕ) → j < a.n → has s (suc j) ≡ true → (b : Bool) → has t (suc j) ≡ b → has t (suc j) ≡ true
      in_both s t d d' j hj e true h = h
      in_both s t d d' j hj e false h = absurd (d.2 j hj e (λ p hp. d'.1.equal j p hj (ap not h) hp))
