-- The contracts of check, view and the inverse settle the answer and what is written beside it. Assumes nothing.
use mathlib.Core.Path.{◌≡◌, refl, sym, ap, ◌∙◌, subst}
use mathlib.Core.Logic.{⊎_elim}
use mathlib.Core.List.{List}
use Prim.Native.Nat.{ℕ}
use Rattle.base.proofs.Cases.{eq-or}
use Rattle.params.specs.declared.Params.{Params}
use Rattle.matrix.specs.Invert.{column_number}
use Rattle.matrix.specs.Invert as matrix
use Rattle.matrix.proofs.Settled.{invert-once}
use Rattle.code.specs.Calls.{number}
use Rattle.code.specs.Verdict.{Verdict, Refused, Blamed}
use Rattle.code.proofs.Blaming.{check-once}
use Rattle.jirvents.specs.Exports.{Gave, CheckWrote, CheckGave, ViewGave, InvertGave}

gave-once : {answer answer' given given' old new new' : ℕ} → answer ≡ answer' → given ≡ given' → Gave answer given old new → Gave answer' given' old new'
    → new ≡ new'
gave-once {answer} e g t t' =
    ⊎_elim (λ z. t.served z ∙ g ∙ sym (t'.served (sym e ∙ z))) (λ ne. t.refused ne ∙ sym (t'.refused (λ z. ne (e ∙ z)))) (eq-or answer 0)

pub check-gave-once : (a : Params) (codeword : List ℕ) (budget oldSet oldTried oldDistance answer answer' set set' tried tried' distance distance' : ℕ)
    → CheckGave a codeword budget oldSet oldTried oldDistance answer set tried distance
    → CheckGave a codeword budget oldSet oldTried oldDistance answer' set' tried' distance'
    → (answer ≡ answer') × (set ≡ set') × (tried ≡ tried') × (distance ≡ distance')
check-gave-once a codeword budget oldSet oldTried oldDistance answer answer' set set' tried tried' distance distance' t t' =
    let w = wrote-once t.verdict t.wrote (subst (wrote set' tried' distance') (sym same) t'.wrote) in
    (t.answers ∙ ap number same ∙ sym t'.answers, w.0, w.1, w.2)
  where
    same : t.verdict ≡ t'.verdict
    same = check-once a codeword budget t.verdict t'.verdict t.post t'.post

    wrote : ℕ → ℕ → ℕ → Verdict → Type 0
    wrote set tried distance verdict = CheckWrote verdict oldSet oldTried oldDistance set tried distance

    wrote-once : (verdict : Verdict) → wrote set tried distance verdict → wrote set' tried' distance' verdict
        → (set ≡ set') × (tried ≡ tried') × (distance ≡ distance')
    wrote-once (Refused q) w w' = (w.0 ∙ sym w'.0, w.1 ∙ sym w'.1, w.2 ∙ sym w'.2)
    wrote-once (Blamed blame) w w' = (w.0 ∙ sym w'.0, w.1 ∙ sym w'.1, w.2 ∙ sym w'.2)

pub view-gave-once : (a : Params) (codeword : List ℕ) (i old answer answer' new new' : ℕ) → ViewGave a codeword i old answer new
    → ViewGave a codeword i old answer' new' → (answer ≡ answer') × (new ≡ new')
view-gave-once a codeword i old answer answer' new new' t t' =
    let answers = t.answers ∙ sym t'.answers in
    (answers, gave-once answers refl t.gave t'.gave)

pub invert-gave-once : (s : ℕ) (m oldOut newOut newOut' : List ℕ) (old answer answer' new new' : ℕ) → InvertGave s m oldOut newOut old answer new
    → InvertGave s m oldOut newOut' old answer' new' → (answer ≡ answer') × (newOut ≡ newOut') × (new ≡ new')
invert-gave-once s m oldOut newOut newOut' old answer answer' new new' t t' = (
  answers,
  once.1,
  ⊎_elim (λ e. t.column e ∙ ap column_number once.0 ∙ sym (t'.column (sym answers ∙ e)))
      (λ ne. t.none ne ∙ sym (t'.none (λ e. ne (answers ∙ e)))) (eq-or answer 15),
)
  where
    once : (t.inversion ≡ t'.inversion) × (newOut ≡ newOut')
    once = invert-once s m oldOut t.inversion t'.inversion newOut newOut' t.post t'.post

    answers : answer ≡ answer'
    answers = t.answers ∙ ap matrix.number once.0 ∙ sym t'.answers
