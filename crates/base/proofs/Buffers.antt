-- Buffers: room for an area of two small sides, and what stands at the front of a buffer of which a part was lent. Assumes nothing.
use mathlib.Core.Path.{◌≡◌, sym, ap, ◌∙◌}
use mathlib.Core.List.{List, ◌++◌}
use mathlib.Core.Logic.{⊎_elim}
use Prim.Native.Nat.{ℕ, ◌*◌, ◌≤◌, ◌<◌}
use native.Mathlib.Nat.{mul-le-mul}
use native.Mathlib.Omega.{arith}
use lib.ListN.{length, get_or, take, replicate, length-append, get_or-eq_default}
use lib.Seq.{take_at, get_or-take, length-take-le}
use Rattle.base.proofs.Cases.{lt-or}
use Rattle.base.proofs.Seq.{zeros-at}

-- two sides of at most 32 give an area that has room in 1,024 bytes
pub areas-fit : (m n : ℕ) → m ≤ 32 → n ≤ 32 → m * n ≤ 1024
areas-fit m n hm hn = mul-le-mul hm hn

-- ---- the front of a buffer, once its n new bytes are back

pub buffer-front : (n : ℕ) (new rest : List ℕ) → length new ≡ n → take n (new ++ rest) ≡ new
buffer-front n new rest e = take_at new rest n e

pub buffer-fits : (n : ℕ) (new rest : List ℕ) → length new ≡ n → n ≤ length (new ++ rest)
buffer-fits n new rest e = omega (arith, length-append new rest)

pub buffer-count : (n : ℕ) (new rest : List ℕ) → length new ≡ n → n ≡ length (take n (new ++ rest))
buffer-count n new rest e = sym (ap length (buffer-front n new rest e) ∙ e)

-- the front of zeros
pub zeros-front : (n m : ℕ) → n ≤ length (replicate {A = ℕ} m 0) → (j : ℕ) → get_or (take n (replicate {A = ℕ} m 0)) j 0 ≡ 0
zeros-front n m h j =
    ⊎_elim (λ (l : j < n). get_or-take n (replicate m 0) j 0 l ∙ zeros-at m j)
    (λ l. get_or-eq_default (take n (replicate m 0)) 0 (omega (arith, length-take-le n (replicate m 0) h))) (lt-or j n)
