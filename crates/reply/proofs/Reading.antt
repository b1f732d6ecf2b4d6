-- An answer is read off as it was given.
-- Assumes nothing.
use Prim.Native.Nat.{ℕ}
use native.Mathlib.Omega.{arith}
use mathlib.Core.Path.{◌≡◌, refl, ap, ap₂, ◌∙◌}
use mathlib.Core.List.{◌++◌}
use mathlib.Core.Option.{none, some}
use lib.ListN.{length, take, drop}
use lib.Seq.{take-append_seam}
use Rattle.paper.specs.Keys.{Bytes}
use Rattle.paper.specs.Calls.{Reply, done, began, found, answered, committed, refused, Call, value_out, key_out}
use Rattle.layout.specs.Layout.{on_bytes}
use Rattle.reply.specs.Told.{Told, nothing, told}
use Rattle.reply.specs.OnBytes.{told_on, value_on, key_on}
use Rattle.reply.specs.Read.{reply_read}

taken : (b out : Bytes) → take (length b) (b ++ drop (length b) out) ≡ b
taken b out = take-append_seam b (drop (length b) out)

pub read_off : (r : Reply) (key value : Bytes) → reply_read (told r) (key_out r key) (value_out r value) ≡ r
unfolding reply_read told key_out value_out
read_off done key value = refl
read_off (began h n) key value = refl
read_off (found none) key value = refl
read_off (found (some b)) key value = ap (λ (x : Bytes). found (some x)) (taken b value)
read_off (answered none) key value = refl
read_off (answered (some p)) key value = ap₂ (λ (x y : Bytes). answered (some (record { key = x; value = y }))) (taken p.key key) (taken p.value value)
read_off (committed n) key value = refl
read_off (refused r) key value = refl

-- ---- one call on the bytes b, which leaves the bytes a: t is what its reply tells
module _ (c : Call) (b a : Bytes) (t : Told) (tells : ◌≡◌ {A = Told × Bytes} (t, a) (told_on c b)) where
  -- k and v are the out buffers after it, key and value before it
  pub reply-read : (k v key value : Bytes) → k ≡ key_on c b key → v ≡ value_on c b value → reply_read t k v ≡ (on_bytes c b).0
  unfolding told_on key_on value_on
  reply-read k v key value hk hv =
      ap (λ (p : Told × Bytes). reply_read p.0 k v) tells
      ∙ ap₂ (λ (x y : Bytes). reply_read (told (on_bytes c b).0) x y) hk hv
      ∙ read_off (on_bytes c b).0 key value

  pub bytes_left : a ≡ (on_bytes c b).1
  unfolding told_on
  bytes_left = ap (λ (p : Told × Bytes). p.1) tells

pub told-done : (r : Reply) → nothing ≡ told r → r ≡ done
unfolding told
told-done done e = refl
told-done (began h n) e = absurd (let z : ◌≡◌ {A = ℕ} 0 1 = cc in omega arith)
told-done (found b) e = absurd (let z : ◌≡◌ {A = ℕ} 0 1 = cc in omega arith)
told-done (answered p) e = absurd (let z : ◌≡◌ {A = ℕ} 0 1 = cc in omega arith)
told-done (committed n) e = absurd (let z : ◌≡◌ {A = ℕ} 0 1 = cc in omega arith)
told-done (refused r) e = absurd (let z : ◌≡◌ {A = ℕ} 0 1 = cc in omega arith)
