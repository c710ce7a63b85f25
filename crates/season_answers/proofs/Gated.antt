-- The lengths that the code finds get the answer of the lengths lent: where the parameters are not valid an earlier question answers, and where they are the
-- two are the same. Assumes nothing.
use mathlib.Core.Path.{◌≡◌, refl, sym, ap, ◌∙◌}
use mathlib.Core.Bool.{Bool, true, false, cond}
use mathlib.Core.List.{List, [], ◌∷◌, ◌++◌}
use Prim.Native.Nat.{ℕ, ◌-◌, ◌*◌, ◌^◌, ◌≤◌, min}
use native.Mathlib.Nat.{le_trans}
use native.Mathlib.Omega.{arith}
use Rattle.base.specs.Gate.{Question, first_no}
use Rattle.params.specs.Params.{reshaped}
use Rattle.gates.specs.Gates.{shape_asked, params_asked, update_gate, repair_gate, decode_gate, reconfigure_gate, damage_gate}
use Rattle.gates.specs.Valid.{ValidShape, Valid}
use Rattle.params.specs.declared.Params.{Params}
use Rattle.params.specs.declared.Shape.{Shape}
use Rattle.base.proofs.Questions.{AllYes}
use Rattle.gates.proofs.Valid.{params-known, shape-known, blocks-most}
use Rattle.season_file.specs.declared.UpdateFields.{UpdateFields}
use Rattle.season_file.specs.declared.RepairFields.{RepairFields}
use Rattle.season_file.specs.declared.DamageFields.{DamageFields}
use Rattle.season_file.specs.declared.DecodeFields.{DecodeFields}
use Rattle.season_file.specs.declared.ReconfigureFields.{ReconfigureFields}
use Rattle.season_file.specs.declared.Event.{Event}
use Rattle.season_file.specs.declared.Event.TheVariants.{Update, Repair, Damage, Decode, Reconfigure}
use Rattle.season_answers.specs.Answers.{answer_of}

-- questions behind others matter only where all of those are answered yes
behind : (qs rest other : List Question) → (AllYes qs → first_no rest ≡ first_no other) → first_no (qs ++ rest) ≡ first_no (qs ++ other)
unfolding first_no
behind [] rest other h = h tt
behind (q ∷ qs) rest other h = go q.answer (λ e. behind qs rest other (λ y. h (e, y)))
  where
    go : (b : Bool) → (b ≡ true → first_no (qs ++ rest) ≡ first_no (qs ++ other))
        → cond b (first_no (qs ++ rest)) q.number ≡ cond b (first_no (qs ++ other)) q.number
    go true more = more refl
    go false more = refl

-- ---- lengths

-- the bytes of so many blocks of a size, if valid parameters can have such blocks
abbrev pub Extent : ℕ → ℕ → ℕ → Type 0
Extent count size bytes = count ≤ 32 → size ≤ 1024 → bytes ≡ count * size

-- a product cut off at the largest usize is that
pub extent : (count size bytes : ℕ) → bytes ≡ min (count * size) (2 ^ 64 - 1) → Extent count size bytes
extent count size bytes e few small = omega (arith, blocks-most count size few small)

-- ---- valid parameters

k-high : {t : Shape} → ValidShape t → t.k ≤ 32
k-high v = le_trans v.k_le_r (le_trans v.r_le_n v.n_high)

module _ {a : Params} (v : Valid a) where
  pub n-found : {x : ℕ} → Extent a.n a.b x → x ≡ a.n * a.b
  n-found h = h v.shape.n_high v.b_high

  k-found : {x : ℕ} → Extent a.k a.b x → x ≡ a.k * a.b
  k-found h = h (k-high v.shape) v.b_high

-- ---- each kind's answer, from what its gate found

module _ (a : Params) (serial : ℕ) (e : Event) where
  module _ (x y g : ℕ) (hx : Extent a.n a.b x) (hy : Extent a.k a.b y) where
    update_same : (to : ℕ) → update_gate a x a.n y to serial ≡ update_gate a (a.n * a.b) a.n (a.k * a.b) to serial
    unfolding update_gate
    update_same to = behind (params_asked a) _ _ (λ y. let v = (params-known a y).0 in simp (n-found v hx, k-found v hy))

    pub update-answer : (f : UpdateFields) → e ≡ Update f → g ≡ update_gate a x a.n y f.to.0 serial → g ≡ answer_of a serial e
    unfolding answer_of
    update-answer f h k = k ∙ update_same f.to.0 ∙ sym (ap (answer_of a serial) h)

    decode-same : (from : ℕ) → decode_gate a x y from ≡ decode_gate a (a.n * a.b) (a.k * a.b) from
    unfolding decode_gate
    decode-same from = behind (params_asked a) _ _ (λ y. let v = (params-known a y).0 in simp (n-found v hx, k-found v hy))

    pub decode-answer : (f : DecodeFields) → e ≡ Decode f → g ≡ decode_gate a x y f.from.0 → g ≡ answer_of a serial e
    unfolding answer_of
    decode-answer f h k = k ∙ decode-same f.from.0 ∙ sym (ap (answer_of a serial) h)

  repair-same : (x from lost : ℕ) → Extent a.n a.b x → repair_gate a x a.n from lost ≡ repair_gate a (a.n * a.b) a.n from lost
  unfolding repair_gate
  repair-same x from lost hx = behind (params_asked a) _ _ (λ y. simp (n-found (params-known a y).0 hx))

  pub repair-answer : (x g : ℕ) (f : RepairFields) → Extent a.n a.b x → e ≡ Repair f → g ≡ repair_gate a x a.n f.from.0 f.lost.0
      → g ≡ answer_of a serial e
  unfolding answer_of
  repair-answer x g f hx h k = k ∙ repair-same x f.from.0 f.lost.0 hx ∙ sym (ap (answer_of a serial) h)

  pub damage-answer : (g : ℕ) (f : DamageFields) → e ≡ Damage f → g ≡ damage_gate a.n f.nodes.0 → g ≡ answer_of a serial e
  unfolding answer_of
  damage-answer g f h k = k ∙ sym (ap (answer_of a serial) h)

module _ (a : Params) (f : ReconfigureFields) (x y z g : ℕ) (hx : Extent a.n a.b x) (hy : Extent f.shape.n a.b y)
    (hz : Extent f.shape.k a.b z) where
  reconfigure-same : (from to : ℕ)
      → reconfigure_gate a f.shape x a.n y f.shape.n z from to
      ≡ reconfigure_gate a f.shape (a.n * a.b) a.n (f.shape.n * a.b) f.shape.n (f.shape.k * a.b) from to
  unfolding reconfigure_gate
  reconfigure-same from to =
      behind (params_asked a ++ shape_asked 10 f.shape) _ _
      (λ y.
      let p = params-known a y in
      let v : Valid (reshaped a f.shape) = record { shape = (shape-known 10 f.shape p.1).0; b_low = p.0.b_low; b_high = p.0.b_high } in
      simp (n-found p.0 hx, n-found v hy, k-found v hz))

  pub reconfigure-answer : g ≡ reconfigure_gate a f.shape x a.n y f.shape.n z f.from.0 f.to.0 → (serial : ℕ) → g ≡ answer_of a serial (Reconfigure f)
  unfolding answer_of
  reconfigure-answer k serial = k ∙ reconfigure-same f.from.0 f.to.0
