-- A gate's exits: the refusal by which an earlier gate's questions end stands, and where they end with none the questions behind them decide. Assumes nothing.
use mathlib.Core.Path.{◌≡◌, refl, sym, ap, ◌∙◌}
use mathlib.Core.Bool.{Bool, true, false}
use mathlib.Core.List.{List, [], ◌∷◌, ◌++◌}
use native.Mathlib.Omega.{arith}
use lib.Dec.{T}
use Rattle.std.specs.Prelude.{ℕ, ◌+◌, ◌≤◌, Result, Ok, Err, IsErrAnd, MatchResult}
use Rattle.std.specs.Result.{result_and}
use Rattle.std.proofs.lemmas.Result.{err_from_is_err_and}
use Rattle.base.specs.Gate.{Question, ask, first_no}
use Rattle.base.proofs.Questions.{numbered, all_yes, first, known, stopped, past}
use Rattle.gates.specs.declared.Refusal.{Refusal}
use Rattle.gates.specs.Refusals.{number, answer}
use Rattle.gates.proofs.Refusals.{number-not-0}

-- what a `?` returns
pub refused : (qs rest : List Question) {A : Type 0} (q : Refusal) (r : Result A Refusal) → IsErrAnd r (λ p. p ≡ q) → number q ≡ first_no qs
    → answer r ≡ first_no (qs ++ rest)
refused qs rest q r f e =
    let p = err_from_is_err_and r f in
    ap answer p.1 ∙ ap number p.2 ∙ first (qs ++ rest) (stopped qs rest e (number-not-0 q))

-- past a `?`
pub passed : (qs rest : List Question) {g : ℕ} → T (numbered qs) → 0 ≡ first_no qs → g ≡ first_no rest → g ≡ first_no (qs ++ rest)
passed qs rest t z e = first (qs ++ rest) (past qs t z refl (known rest e))

-- past one question
pub yes : (q : Question) → T (numbered (q ∷ [])) → 0 ≡ first_no (q ∷ []) → q.answer ≡ true
yes q t z = (all_yes (q ∷ []) t (sym z)).0

-- two gates, one after the other
pub both : (qs rest : List Question) {A B : Type 0} (r : Result A Refusal) (s : Result B Refusal) → T (numbered qs) → answer r ≡ first_no qs
    → answer s ≡ first_no rest → answer (result_and r s) ≡ first_no (qs ++ rest)
both qs rest (Ok x) s t e f = passed qs rest t e f
both qs rest (Err q) s t e f = first (qs ++ rest) (stopped qs rest e (number-not-0 q))

-- the questions 11 to 14 are 1 to 4 with 10 more
pub ten-more : (p q r s : Bool) (x y : Result Unit Refusal) → answer x ≡ first_no (ask p 1 ∷ ask q 2 ∷ ask r 3 ∷ ask s 4 ∷ [])
    → MatchResult x (λ u. y ≡ Ok u) (λ d. IsErrAnd y (λ e. number d ≤ 4 → number e ≡ 10 + number d))
    → answer y ≡ first_no (ask p 11 ∷ ask q 12 ∷ ask r 13 ∷ ask s 14 ∷ [])
unfolding first_no
ten-more p q r s (Ok u) y e m = ap answer m ∙ go p q r s e
  where
    go : (p q r s : Bool) → 0 ≡ first_no (ask p 1 ∷ ask q 2 ∷ ask r 3 ∷ ask s 4 ∷ [])
        → 0 ≡ first_no (ask p 11 ∷ ask q 12 ∷ ask r 13 ∷ ask s 14 ∷ [])
    go true true true true e = refl
    go true true true false e = omega (arith, e)
    go true true false s e = omega (arith, e)
    go true false r s e = omega (arith, e)
    go false q r s e = omega (arith, e)
ten-more p q r s (Err d) (Ok u) e m = elim m [ ]
ten-more p q r s (Err d) (Err f) e m = go p q r s e
  where
    go : (p q r s : Bool) → number d ≡ first_no (ask p 1 ∷ ask q 2 ∷ ask r 3 ∷ ask s 4 ∷ [])
        → number f ≡ first_no (ask p 11 ∷ ask q 12 ∷ ask r 13 ∷ ask s 14 ∷ [])
    go true true true true e = absurd (number-not-0 d e)
    go true true true false e = m (omega (arith, e)) ∙ ap (λ (x : ℕ). 10 + x) e
    go true true false s e = m (omega (arith, e)) ∙ ap (λ (x : ℕ). 10 + x) e
    go true false r s e = m (omega (arith, e)) ∙ ap (λ (x : ℕ). 10 + x) e
    go false q r s e = m (omega (arith, e)) ∙ ap (λ (x : ℕ). 10 + x) e
