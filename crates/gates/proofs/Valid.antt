-- What the questions' answers say of the parameters, test by test; a gate is 0 exactly where the call's facts hold. Assumes nothing.
use mathlib.Core.Path.{◌≡◌, sym, ap, ap₂, ◌∙◌, subst}
use mathlib.Core.Logic.{◌↔◌}
use mathlib.Core.Bool.{Bool, true, ◌&&◌}
use mathlib.Core.List.{List, [], ◌∷◌, ◌++◌, Memᴰ}
use Prim.Native.Nat.{ℕ, ◌+◌, ◌-◌, ◌*◌, ◌^◌, min, ◌≤◌}
use native.Mathlib.Nat.{le_trans, mul-le-mul}
use native.Mathlib.Omega.{arith}
use lib.Dec.{leb, eqb}
use mir.Syntax.{w64}
use mir.Val.{Fits}
use borrow.Author.Tests.{leb-true, eqb-true, le-leb, eq-eqb}
use Rattle.base.specs.Gate.{Question, ask, first_no}
use Rattle.params.specs.Nodes.{size, within}
use Rattle.params.specs.Params.{slack_parts, working, shape_of}
use Rattle.gates.specs.Gates.{shape_asked, params_asked, lengths_asked, names_asked, sizes_asked, encode_gate, check_gate, decode_gate, delta_gate, update_gate, repair_gate, view_gate, reconfigure_gate, damage_gate}
use Rattle.gates.specs.Valid.{ValidShape, Valid, EncodeAccepted, CheckAccepted, DecodeAccepted, DeltaAccepted, UpdateAccepted, RepairAccepted, ViewAccepted, ReconfigureAccepted}
use Rattle.params.specs.declared.Params.{Params}
use Rattle.params.specs.declared.Shape.{Shape}
use Rattle.base.proofs.Questions.{YesAnd, all_yes, first-zero, among, last-yes, both-known, both-le, both-eq}

-- ---- what valid parameters give

pub slack-add : (a : Params) → Valid a → slack_parts a + a.w ≡ a.n
unfolding slack_parts
slack-add a v = omega arith

pub slack-le : (a : Params) → Valid a → slack_parts a ≤ a.n
unfolding slack_parts
slack-le a v = omega arith

-- "never above r"
pub working-le-r : (a : Params) → Valid a → working a ≤ a.r
unfolding working
working-le-r a v = omega arith

pub working-le : (a : Params) → Valid a → working a ≤ a.n
unfolding working
working-le a v = omega arith

-- it is what Params::working answers
pub working-known : (a : Params) → Valid a → (q : ℕ) → q ≡ min (working a) (2 ^ 64 - 1) → q ≡ working a
working-known a v q e = e ∙ omega (arith, working-le a v, v.shape.n_high)

-- ---- the questions of a shape and of parameters, with others behind them

pub shape-known : (more : ℕ) (t : Shape) {R : Type 0} → YesAnd (shape_asked more t) R → ValidShape t × R
shape-known more t y =
    let n = both-le 1 t.n t.n 32 y.0 in
    let rw = both-le t.r t.n t.w t.n y.1.0 in
    let k = both-known (leb 1 t.k && leb t.k t.r) (leb t.k t.w) y.1.1.0 in
    let kr = both-le 1 t.k t.k t.r k.0 in
    let kw = leb-true t.k t.w k.1 in
    let sum = leb-true (t.k + t.n) (t.r + t.w) y.1.1.1.0 in (
      record {
        n_low = n.0;
        n_high = n.1;
        r_le_n = rw.0;
        w_le_n = rw.1;
        k_low = kr.0;
        k_le_r = kr.1;
        k_le_w = kw;
        enough = sum;
      },
      y.1.1.1.1,
    )

pub shape-yes : (more : ℕ) (t : Shape) {R : Type 0} → ValidShape t → R → YesAnd (shape_asked more t) R
shape-yes more t v y = (
  ap₂ ◌&&◌ (le-leb _ _ v.n_low) (le-leb _ _ v.n_high),
  (
    ap₂ ◌&&◌ (le-leb _ _ v.r_le_n) (le-leb _ _ v.w_le_n),
    (ap₂ ◌&&◌ (ap₂ ◌&&◌ (le-leb _ _ v.k_low) (le-leb _ _ v.k_le_r)) (le-leb _ _ v.k_le_w), (le-leb _ _ v.enough, y)),
  ),
)

pub params-known : (a : Params) {R : Type 0} → YesAnd (params_asked a) R → Valid a × R
params-known a y =
    let s = shape-known 0 (shape_of a) y in
    let b = both-le 1 a.b a.b 1024 s.1.0 in
    (record { shape = s.0; b_low = b.0; b_high = b.1 }, s.1.1)

pub params-yes : (a : Params) {R : Type 0} → Valid a → R → YesAnd (params_asked a) R
params-yes a v y = shape-yes 0 (shape_of a) v.shape (ap₂ ◌&&◌ (le-leb _ _ v.b_low) (le-leb _ _ v.b_high), y)

-- the answer 0 of the questions 1 to 5
pub valid-of : (a : Params) → 0 ≡ first_no (params_asked a) → Valid a
valid-of a e = (params-known a (all_yes (params_asked a) tt (sym e))).0

-- what check asks
abbrev pub check_asked : Params → ℕ → List Question
check_asked a codeword = params_asked a ++ lengths_asked (eqb codeword (a.n * a.b)) ∷ []

-- the bytes of at most 32 blocks
pub blocks-most : (count b : ℕ) → count ≤ 32 → b ≤ 1024 → count * b ≤ 32768
blocks-most count b h k = mul-le-mul h k

-- the bytes of at most n blocks are a usize
pub blocks-fit : {a : Params} → Valid a → (x : ℕ) → x ≤ a.n → Fits w64 (x * a.b)
blocks-fit {a} v x h = omega (arith, blocks-most x a.b (le_trans h v.shape.n_high) v.b_high)

pub n-fits : {a : Params} → Valid a → Fits w64 (a.n * a.b)
n-fits {a} v = blocks-fit v a.n (omega arith)

pub k-fits : {a : Params} → Valid a → Fits w64 (a.k * a.b)
k-fits {a} v = blocks-fit v a.k (omega arith)

pub slack-fits : {a : Params} → Valid a → Fits w64 (slack_parts a * a.b)
slack-fits {a} v = blocks-fit v (slack_parts a) (slack-le a v)

-- ---- each gate: what 0 says, and which numbers it can answer

pub encode-accepted : (a : Params) (message slack codeword serials : ℕ)
    → (encode_gate a message slack codeword serials ≡ 0) ↔ EncodeAccepted a message slack codeword serials
unfolding encode_gate
encode-accepted a message slack codeword serials = (
  λ e.
      let y = params-known a (all_yes _ tt e) in
      let u = both-known (eqb serials a.n) ((eqb message (a.k * a.b) && eqb slack (slack_parts a * a.b)) && eqb codeword (a.n * a.b)) y.1.0 in
      let l = both-known (eqb message (a.k * a.b) && eqb slack (slack_parts a * a.b)) (eqb codeword (a.n * a.b)) u.1 in
      let m = both-eq message (a.k * a.b) slack (slack_parts a * a.b) l.0 in
      record {
        valid = y.0;
        message_length = m.0;
        slack_length = m.1;
        codeword_length = eqb-true codeword (a.n * a.b) l.1;
        serials_length = eqb-true serials a.n u.0;
      },
  λ d.
      first-zero _
      (params-yes a d.valid (
        ap₂ ◌&&◌ (eq-eqb _ _ d.serials_length)
            (ap₂ ◌&&◌ (ap₂ ◌&&◌ (eq-eqb _ _ d.message_length) (eq-eqb _ _ d.slack_length)) (eq-eqb _ _ d.codeword_length)),
        tt,
      )),
)

pub encode-number : (a : Params) (message slack codeword serials : ℕ)
    → Memᴰ (encode_gate a message slack codeword serials) (0 ∷ 1 ∷ 2 ∷ 3 ∷ 4 ∷ 5 ∷ 6 ∷ [])
unfolding encode_gate
encode-number a message slack codeword serials = among _

pub check-accepted : (a : Params) (codeword : ℕ) → (check_gate a codeword ≡ 0) ↔ CheckAccepted a codeword
unfolding check_gate
check-accepted a codeword = (
  λ e.
      let y = params-known a (all_yes _ tt e) in
      record { valid = y.0; codeword_length = eqb-true codeword (a.n * a.b) y.1.0 },
  λ d. first-zero _ (params-yes a d.valid (eq-eqb _ _ d.codeword_length, tt)),
)

pub check-number : (a : Params) (codeword : ℕ) → Memᴰ (check_gate a codeword) (0 ∷ 1 ∷ 2 ∷ 3 ∷ 4 ∷ 5 ∷ 6 ∷ [])
unfolding check_gate
check-number a codeword = among _

pub decode-accepted : (a : Params) (codeword out from : ℕ) → (decode_gate a codeword out from ≡ 0) ↔ DecodeAccepted a codeword out from
unfolding decode_gate
decode-accepted a codeword out from = (
  λ e.
      let y = params-known a (all_yes _ tt e) in
      let l = both-eq codeword (a.n * a.b) out (a.k * a.b) y.1.0 in
      record {
        valid = y.0;
        codeword_length = l.0;
        out_length = l.1;
        from_within = y.1.1.0;
        from_size = eqb-true (size from) a.r y.1.1.1.0;
      },
  λ d.
      first-zero _
      (params-yes a d.valid
      (ap₂ ◌&&◌ (eq-eqb _ _ d.codeword_length) (eq-eqb _ _ d.out_length), (d.from_within, (eq-eqb _ _ d.from_size, tt)))),
)

pub decode-number : (a : Params) (codeword out from : ℕ)
    → Memᴰ (decode_gate a codeword out from) (0 ∷ 1 ∷ 2 ∷ 3 ∷ 4 ∷ 5 ∷ 6 ∷ 7 ∷ 8 ∷ [])
unfolding decode_gate
decode-number a codeword out from = among _

pub delta-accepted : (a : Params) (change out to : ℕ) → (delta_gate a change out to ≡ 0) ↔ DeltaAccepted a change out to
unfolding delta_gate
delta-accepted a change out to = (
  λ e.
      let y = params-known a (all_yes _ tt e) in
      let l = both-eq change (a.k * a.b) out (a.w * a.b) y.1.0 in
      record {
        valid = y.0;
        change_length = l.0;
        out_length = l.1;
        to_within = y.1.1.0;
        to_size = eqb-true (size to) a.w y.1.1.1.0;
      },
  λ d.
      first-zero _
      (params-yes a d.valid
      (ap₂ ◌&&◌ (eq-eqb _ _ d.change_length) (eq-eqb _ _ d.out_length), (d.to_within, (eq-eqb _ _ d.to_size, tt)))),
)

pub delta-number : (a : Params) (change out to : ℕ)
    → Memᴰ (delta_gate a change out to) (0 ∷ 1 ∷ 2 ∷ 3 ∷ 4 ∷ 5 ∷ 6 ∷ 7 ∷ 8 ∷ [])
unfolding delta_gate
delta-number a change out to = among _

pub update-accepted : (a : Params) (codeword serials change to serial : ℕ)
    → (update_gate a codeword serials change to serial ≡ 0) ↔ UpdateAccepted a codeword serials change to serial
unfolding update_gate
update-accepted a codeword serials change to serial = (
  λ e.
      let y = params-known a (all_yes _ tt e) in
      let u = both-known (eqb serials a.n) (eqb codeword (a.n * a.b) && eqb change (a.k * a.b)) y.1.0 in
      let l = both-eq codeword (a.n * a.b) change (a.k * a.b) u.1 in
      record {
        valid = y.0;
        codeword_length = l.0;
        serials_length = eqb-true serials a.n u.0;
        change_length = l.1;
        to_within = y.1.1.0;
        to_size = eqb-true (size to) a.w y.1.1.1.0;
        serial_low = leb-true 1 serial y.1.1.1.1.0;
      },
  λ d.
      first-zero _
      (params-yes a d.valid (
        ap₂ ◌&&◌ (eq-eqb _ _ d.serials_length) (ap₂ ◌&&◌ (eq-eqb _ _ d.codeword_length) (eq-eqb _ _ d.change_length)),
        (d.to_within, (eq-eqb _ _ d.to_size, (le-leb _ _ d.serial_low, tt))),
      )),
)

pub update-number : (a : Params) (codeword serials change to serial : ℕ)
    → Memᴰ (update_gate a codeword serials change to serial) (0 ∷ 1 ∷ 2 ∷ 3 ∷ 4 ∷ 5 ∷ 6 ∷ 7 ∷ 8 ∷ 24 ∷ [])
unfolding update_gate
update-number a codeword serials change to serial = among _

-- above 0 the serial is never the reason
pub update-number-above : (a : Params) (codeword serials change to serial : ℕ) → 1 ≤ serial
    → Memᴰ (update_gate a codeword serials change to serial) (0 ∷ 1 ∷ 2 ∷ 3 ∷ 4 ∷ 5 ∷ 6 ∷ 7 ∷ 8 ∷ [])
unfolding update_gate
update-number-above a codeword serials change to serial low =
    let before : List Question =
    params_asked a ++ lengths_asked (eqb serials a.n && (eqb codeword (a.n * a.b) && eqb change (a.k * a.b))) ∷
    names_asked (within a.n to) ∷ sizes_asked (eqb (size to) a.w) ∷ [] in
    subst (λ (q : ℕ). Memᴰ q (0 ∷ 1 ∷ 2 ∷ 3 ∷ 4 ∷ 5 ∷ 6 ∷ 7 ∷ 8 ∷ []))
    (sym (ap (λ (b : Bool). first_no (before ++ ask b 24 ∷ [])) (le-leb 1 serial low) ∙ last-yes before 24)) (among before)

pub repair-accepted : (a : Params) (codeword serials from lost : ℕ)
    → (repair_gate a codeword serials from lost ≡ 0) ↔ RepairAccepted a codeword serials from lost
unfolding repair_gate
repair-accepted a codeword serials from lost = (
  λ e.
      let y = params-known a (all_yes _ tt e) in
      let l = both-eq serials a.n codeword (a.n * a.b) y.1.0 in
      let names = both-known (within a.n from) (within a.n lost) y.1.1.0 in
      record {
        valid = y.0;
        codeword_length = l.1;
        serials_length = l.0;
        from_within = names.0;
        lost_within = names.1;
        from_size = eqb-true (size from) a.r y.1.1.1.0;
        apart = y.1.1.1.1.0;
      },
  λ d.
      first-zero _
      (params-yes a d.valid (
        ap₂ ◌&&◌ (eq-eqb _ _ d.serials_length) (eq-eqb _ _ d.codeword_length),
        (ap₂ ◌&&◌ d.from_within d.lost_within, (eq-eqb _ _ d.from_size, (d.apart, tt))),
      )),
)

pub repair-number : (a : Params) (codeword serials from lost : ℕ)
    → Memᴰ (repair_gate a codeword serials from lost) (0 ∷ 1 ∷ 2 ∷ 3 ∷ 4 ∷ 5 ∷ 6 ∷ 7 ∷ 8 ∷ 9 ∷ [])
unfolding repair_gate
repair-number a codeword serials from lost = among _

pub damage-accepted : (n s : ℕ) → (damage_gate n s ≡ 0) ↔ (within n s ≡ true)
unfolding damage_gate
damage-accepted n s = (λ e. (all_yes _ tt e).0, λ d. first-zero _ (d, tt))

pub damage-number : (n s : ℕ) → Memᴰ (damage_gate n s) (0 ∷ 7 ∷ [])
unfolding damage_gate
damage-number n s = among _

pub view-accepted : (a : Params) (codeword i : ℕ) → (view_gate a codeword i ≡ 0) ↔ ViewAccepted a codeword i
unfolding view_gate
view-accepted a codeword i = (
  λ e.
      let y = params-known a (all_yes _ tt e) in
      let node = both-le 1 i i a.n y.1.1.0 in
      record {
        valid = y.0;
        codeword_length = eqb-true codeword (a.n * a.b) y.1.0;
        node_low = node.0;
        node_high = node.1;
      },
  λ d.
      first-zero _
      (params-yes a d.valid
      (eq-eqb _ _ d.codeword_length, (ap₂ ◌&&◌ (le-leb _ _ d.node_low) (le-leb _ _ d.node_high), tt))),
)

pub view-number : (a : Params) (codeword i : ℕ)
    → Memᴰ (view_gate a codeword i) (0 ∷ 1 ∷ 2 ∷ 3 ∷ 4 ∷ 5 ∷ 6 ∷ 10 ∷ [])
unfolding view_gate
view-number a codeword i = among _

pub reconfigure-accepted : (a : Params) (t : Shape) (old serials new numbers message from to : ℕ)
    → (reconfigure_gate a t old serials new numbers message from to ≡ 0) ↔ ReconfigureAccepted a t old serials new numbers message from to
unfolding reconfigure_gate
reconfigure-accepted a t old serials new numbers message from to = (
  λ e.
      let p = params-known a (all_yes _ tt e) in
      let y = shape-known 10 t p.1 in
      let u =
      both-known (eqb serials a.n && eqb numbers t.n) ((eqb old (a.n * a.b) && eqb new (t.n * a.b)) && eqb message (t.k * a.b)) y.1.0 in
      let kept = both-eq serials a.n numbers t.n u.0 in
      let l = both-known (eqb old (a.n * a.b) && eqb new (t.n * a.b)) (eqb message (t.k * a.b)) u.1 in
      let records = both-eq old (a.n * a.b) new (t.n * a.b) l.0 in
      let names = both-known (within a.n from) (within t.n to) y.1.1.0 in
      let sizes = both-eq (size from) a.r (size to) t.w y.1.1.1.0 in
      record {
        valid = p.0;
        valid_new = record { shape = y.0; b_low = p.0.b_low; b_high = p.0.b_high };
        old_length = records.0;
        serials_length = kept.0;
        new_length = records.1;
        numbers_length = kept.1;
        message_length = eqb-true message (t.k * a.b) l.1;
        from_within = names.0;
        to_within = names.1;
        from_size = sizes.0;
        to_size = sizes.1;
      },
  λ d.
      first-zero _
      (params-yes a d.valid
      (shape-yes 10 t d.valid_new.shape (
        ap₂ ◌&&◌ (ap₂ ◌&&◌ (eq-eqb _ _ d.serials_length) (eq-eqb _ _ d.numbers_length))
            (ap₂ ◌&&◌ (ap₂ ◌&&◌ (eq-eqb _ _ d.old_length) (eq-eqb _ _ d.new_length)) (eq-eqb _ _ d.message_length)),
        (
          ap₂ ◌&&◌ d.from_within d.to_within,
          (ap₂ ◌&&◌ (eq-eqb _ _ d.from_size) (eq-eqb _ _ d.to_size), tt),
        ),
      ))),
)

pub reconfigure-number : (a : Params) (t : Shape) (old serials new numbers message from to : ℕ)
    → Memᴰ (reconfigure_gate a t old serials new numbers message from to) (0 ∷ 1 ∷ 2 ∷ 3 ∷ 4 ∷ 5 ∷ 11 ∷ 12 ∷ 13 ∷ 14 ∷ 6 ∷ 7 ∷ 8 ∷ [])
unfolding reconfigure_gate
reconfigure-number a t old serials new numbers message from to = among _
