-- A record and an image written part after part; an image is its head and the packed records.
-- Assumes nothing.
use native.Mathlib.Omega.{arith}
use mathlib.Core.Path.{◌≡◌, refl, sym, ap, ◌∙◌}
use mathlib.Core.Bool.{true}
use mathlib.Core.List.{◌++◌, append_assoc}
use Prim.Native.Nat.{ℕ, ◌+◌, ◌≤◌}
use lib.ListN.{length, length-append}
use Rattle.paper.specs.Keys.{Bytes}
use Rattle.paper.specs.Runs.{Run}
use Rattle.paper.specs.Image.{big_endian, mark, format_version, record_bytes, records_bytes, image_of}
use Rattle.paper.proofs.ImageLaws.{length-big_endian}
use Rattle.raw.specs.Bytes.{over}
use Rattle.raw.proofs.Over.{over-after, over-before}
use Rattle.key.specs.Versions.{versions, packed}
use Rattle.key.proofs.Packed.{packed-run}
use Rattle.run.specs.Writing.{field_bytes, head_bytes}

-- ---- a record
length-field : (x : Bytes) → length (field_bytes x) ≡ 2 + length x
length-field x = length-append (big_endian 2 (length x)) x ∙ ap (λ (n : ℕ). n + length x) (length-big_endian 2 (length x))

record-fields : (k : Bytes) (t : ℕ) (v : Bytes) → (field_bytes k ++ big_endian 8 t) ++ field_bytes v ≡ record_bytes (record { key = k; time = t; value = v })
unfolding record_bytes
record-fields k t v = append_assoc (field_bytes k) (big_endian 8 t) (field_bytes v) ∙ append_assoc (big_endian 2 (length k)) k (big_endian 8 t ++ field_bytes v)

pub put_record : (l : Bytes) (at : ℕ) (k : Bytes) (t : ℕ) (v : Bytes) → at ≤ length l
    → over (over (over l at (field_bytes k)) (at + 2 + length k) (big_endian 8 t)) (at + 2 + length k + 8) (field_bytes v) ≡ over l at (record_bytes (record { key = k; time = t; value = v }))
put_record l at k t v h =
    let e : at + 2 + length k ≡ at + length (field_bytes k) = omega (arith, length-field k) in
    let f : at + 2 + length k + 8 ≡ at + length (field_bytes k ++ big_endian 8 t) = omega (arith, length-field k, length-big_endian 8 t, length-append (field_bytes k) (big_endian 8 t)) in
    ap (λ (b : Bytes). over b (at + 2 + length k + 8) (field_bytes v)) (over-after l at (field_bytes k) h (at + 2 + length k) (big_endian 8 t) e)
    ∙ over-after l at (field_bytes k ++ big_endian 8 t) h (at + 2 + length k + 8) (field_bytes v) f
    ∙ ap (over l at) (record-fields k t v)

-- ---- an image
pub length-head : (n : ℕ) → length (head_bytes n) ≡ 9
unfolding head_bytes
length-head n = omega (arith, length-append (big_endian 2 format_version) (big_endian 4 n), length-big_endian 2 format_version, length-big_endian 4 n)

pub put-head : (l : Bytes) (at n : ℕ) → at ≤ length l → over (over (over l at mark) (at + 3) (big_endian 2 format_version)) (at + 5) (big_endian 4 n) ≡ over l at (head_bytes n)
unfolding head_bytes
put-head l at n h =
    let f : at + 5 ≡ at + length (mark ++ big_endian 2 format_version) = omega (arith, length-big_endian 2 format_version) in
    ap (λ (b : Bytes). over b (at + 5) (big_endian 4 n)) (over-after l at mark h (at + 3) (big_endian 2 format_version) refl)
    ∙ over-after l at (mark ++ big_endian 2 format_version) h (at + 5) (big_endian 4 n) f

-- 'three bytes RUN, version, record count, then for each record ..'
pub image-parts : (r : Run) → image_of r ≡ head_bytes (length r) ++ records_bytes r
unfolding image_of head_bytes
image-parts r = ap (λ (b : Bytes). mark ++ b) (sym (append_assoc (big_endian 2 format_version) (big_endian 4 (length r)) (records_bytes r)))

-- packed records are the image's records
pub image-packed : (b : Bytes) → packed b ≡ true → image_of (versions b) ≡ head_bytes (length (versions b)) ++ b
image-packed b h = image-parts (versions b) ∙ ap (λ (x : Bytes). head_bytes (length (versions b)) ++ x) (packed-run b h).0

pub frozen : (l : Bytes) (to n : ℕ) (b : Bytes) → packed b ≡ true → to + 9 ≤ length l → n ≡ length (versions b) → over (over l (to + 9) b) to (head_bytes n) ≡ over l to (image_of (versions b))
frozen l to n b w h e =
    over-before l (to + 9) b h to (head_bytes n) (omega (arith, length-head n))
    ∙ ap (over l to) (ap (λ (k : ℕ). head_bytes k ++ b) e ∙ sym (image-packed b w))
