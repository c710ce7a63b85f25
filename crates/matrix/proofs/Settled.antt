-- `invert`'s post-condition settles the whole answer, the column of 15 with it, and every byte of the buffer: there is but one inverse, and but one first dependent column.
-- Assumes nothing.
use mathlib.Core.Path.{◌≡◌, refl, sym, ap, ◌∙◌, subst}
use mathlib.Core.Bool.{Bool, true, false}
use mathlib.Core.List.{List, [], ◌∷◌, ◌++◌}
use mathlib.Core.Logic.{◌↔◌, ⊎_elim}
use Prim.Native.Nat.{ℕ, ◌≤◌}
use native.Mathlib.Omega.{arith}
use Rattle.base.specs.Gate.{Question, first_no}
use Rattle.base.proofs.Cases.{lt-or, eq-or}
use Rattle.base.proofs.Questions.{nay, first, stopped, past}
use Rattle.matrix.specs.Matrix.{Singular, FirstDependent}
use Rattle.matrix.specs.Invert.{number, column_number, Proper, side_asked, lengths_asked, inverse_asked, InvertPost}
use Rattle.matrix.specs.Inversion.{Inversion}
use Rattle.matrix.specs.Inversion.{Inverted, Singular as SingularAt, Refused}
use Rattle.matrix.proofs.Laws.{inverse-unique, dependent-singular}

-- there is but one first
pub first-once : (s : ℕ) (m : List ℕ) (c c' : ℕ) → FirstDependent s m c → FirstDependent s m c' → c ≡ c'
first-once s m c c' d d' =
    let low : d.place ≤ d'.place = ⊎_elim (λ h. absurd (d.none_before d'.place h d'.here)) (λ h. h) (lt-or d'.place d.place) in
    let high : d'.place ≤ d.place = ⊎_elim (λ h. absurd (d'.none_before d.place h d.here)) (λ h. h) (lt-or d.place d'.place) in
    omega (arith, d.counted, d'.counted)

same_answer : (b b' : Bool) → (b ≡ false → b' ≡ false) → (b' ≡ false → b ≡ false) → b ≡ b'
same_answer true true f g = refl
same_answer false b' f g = sym (f refl)
same_answer true false f g = g refl

same-inversion : (x y : Inversion) → Proper x → Proper y → number x ≡ number y → column_number x ≡ column_number y → x ≡ y
same-inversion Inverted Inverted p q e c = refl
same-inversion Inverted (SingularAt j) p q e c = absurd (omega (arith, e))
same-inversion Inverted (Refused a) p q e c = absurd (q.0 (sym e))
same-inversion (SingularAt i) Inverted p q e c = absurd (omega (arith, e))
same-inversion (SingularAt i) (SingularAt j) p q e c = ap SingularAt c
same-inversion (SingularAt i) (Refused a) p q e c = absurd (q.1 (sym e))
same-inversion (Refused a) Inverted p q e c = absurd (p.0 e)
same-inversion (Refused a) (SingularAt j) p q e c = absurd (p.1 e)
same-inversion (Refused a) (Refused b) p q e c = ap Refused e

pub invert-once : (s : ℕ) (m old : List ℕ) (answer answer' : Inversion) (new new' : List ℕ) → InvertPost s m old answer new
    → InvertPost s m old answer' new' → (answer ≡ answer') × (new ≡ new')
invert-once s m old answer answer' new new' post post' = (
  same-inversion answer answer' post.proper post'.proper numbers columns,
  ⊎_elim both-served both-refused (eq-or (number answer) 0),
)
  where
    front : List Question
    front = side_asked s ∷ lengths_asked s m old ∷ []

    asked-alike : first_no front ≡ 0 → post.has_inverse ≡ post'.has_inverse
    asked-alike z =
        same_answer post.has_inverse post'.has_inverse (λ e. (post'.asked z).1 ((post.asked z).0 e)) (λ e. (post.asked z).1 ((post'.asked z).0 e))

    stays : (first_no front ≡ 0 → ⊥) → (b b' : Bool) → first_no (front ++ inverse_asked b ∷ []) ≡ first_no (front ++ inverse_asked b' ∷ [])
    stays ne b b' =
        sym (first (front ++ inverse_asked b ∷ []) (stopped front (inverse_asked b ∷ []) refl ne))
        ∙ first (front ++ inverse_asked b' ∷ []) (stopped front (inverse_asked b' ∷ []) refl ne)

    numbers : number answer ≡ number answer'
    numbers =
        post.first
        ∙ ⊎_elim (λ z. ap (λ (b : Bool). first_no (front ++ inverse_asked b ∷ [])) (asked-alike z)) (λ ne. stays ne post.has_inverse post'.has_inverse) (eq-or (first_no front) 0)
        ∙ sym post'.first

    columns : column_number answer ≡ column_number answer'
    columns =
        ⊎_elim (λ e. first-once s m _ _ (post.dependent e) (post'.dependent (sym numbers ∙ e)))
        (λ ne. post.no_column ne ∙ sym (post'.no_column (λ e. ne (numbers ∙ e)))) (eq-or (number answer) 15)

    both-served : number answer ≡ 0 → new ≡ new'
    both-served z = inverse-unique s m new new' (post.served z) (post'.served (sym numbers ∙ z))

    both-refused : (number answer ≡ 0 → ⊥) → new ≡ new'
    both-refused ne = post.refused ne ∙ sym (post'.refused (λ z. ne (numbers ∙ z)))

-- where the first two questions are answered yes: 15 comes exactly if some vector, not all 00, is taken to all 00, ..
pub singular-exactly : (s : ℕ) (m old new : List ℕ) (answer : Inversion) → first_no (side_asked s ∷ lengths_asked s m old ∷ []) ≡ 0
    → InvertPost s m old answer new → (number answer ≡ 15) ↔ Singular s m
singular-exactly s m old new answer z post = (
  λ e. let d = post.dependent e in dependent-singular s m d.place d.within d.here,
  λ g. post.first ∙ sym (first (front ++ inverse_asked post.has_inverse ∷ []) (past front tt refl z (nay ((post.asked z).1 g)))),
)
  where
    front : List Question
    front = side_asked s ∷ lengths_asked s m old ∷ []

-- .. and with column c exactly if c is the first dependent one, whatever the buffer holds
pub column-exactly : (s : ℕ) (m old new : List ℕ) (answer : Inversion) (c : ℕ) → first_no (side_asked s ∷ lengths_asked s m old ∷ []) ≡ 0
    → InvertPost s m old answer new → ((number answer ≡ 15) × (column_number answer ≡ c)) ↔ FirstDependent s m c
column-exactly s m old new answer c z post = (
  λ e. subst (FirstDependent s m) e.1 (post.dependent e.0),
  λ d.
      let fifteen = (singular-exactly s m old new answer z post).1 (dependent-singular s m d.place d.within d.here) in
      (fifteen, first-once s m _ _ (post.dependent fifteen) d),
)
