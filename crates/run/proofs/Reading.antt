-- The versions that bytes hold, taken off one after the other: the first and those of the rest, each fit for its fields, and no more of them than bytes.
-- Assumes nothing.
use native.Mathlib.Omega.{arith}
use mathlib.Core.Path.{◌≡◌, refl, sym, ap}
use mathlib.Core.Bool.{true}
use mathlib.Core.Option.{Option, none, some}
use mathlib.Core.List.{[], ◌∷◌}
use Prim.Native.Nat.{ℕ, zero, suc, ◌+◌, ◌-◌, ◌≤◌}
use lib.ListN.{length, drop, length-append, length-drop}
use lib.Seq.{take_all}
use Rattle.paper.specs.Lists.{all}
use Rattle.paper.specs.Keys.{Bytes, Version, octets}
use Rattle.paper.specs.Runs.{Run, version_size}
use Rattle.paper.specs.Image.{one_record, number, bytes, record_bytes, storable}
use Rattle.paper.proofs.Bools.{and_intro}
use Rattle.paper.proofs.ImageBack.{record-read, length-record}
use Rattle.raw.specs.Bytes.{part}
use Rattle.key.specs.Packing.{up_to, read_all}
use Rattle.key.specs.Versions.{versions}

record-none : one_record [] ≡ none
unfolding one_record number bytes
record-none = refl

-- to the end of the bytes
pub part-rest : (s : Bytes) (at : ℕ) → part s at (length s - at) ≡ drop at s
part-rest s at = take_all (length s - at) (drop at s) (rw length-drop (omega arith))

-- what follows a record is shorter by the record
pub record-shorter : (s : Bytes) (v : Version) (r : Bytes) → octets s ≡ true → one_record s ≡ some (v, r) → 12 + length v.key + length v.value + length r ≡ length s
unfolding version_size
record-shorter s v r o e =
    omega (arith, ap (λ (x : Bytes). length x) (record-read s v r o e).0, length-append (record_bytes v) r, length-record v)

-- ---- enough steps
enough-nil : (n : ℕ) (s : Bytes) → length s ≤ 0 → up_to one_record n s ≡ []
unfolding up_to
enough-nil zero s h = refl
enough-nil (suc n) [] h = rw (record-none, up_to)
enough-nil (suc n) (x ∷ s) h = absurd (omega arith)

enough : (n m : ℕ) (s : Bytes) → octets s ≡ true → length s ≤ n → length s ≤ m → up_to one_record n s ≡ up_to one_record m s
unfolding up_to
enough zero m s o h k = sym (enough-nil m s h)
enough (suc n) zero s o h k = enough-nil (suc n) s k
enough (suc n) (suc m) s o h k = go (λ r. enough n m r) (one_record s) refl
  where
    go : ((r : Bytes) → octets r ≡ true → length r ≤ n → length r ≤ m → up_to one_record n r ≡ up_to one_record m r)
        → (p : Option (Version × Bytes)) → one_record s ≡ p → up_to one_record (suc n) s ≡ up_to one_record (suc m) s
    go ih none e = rw (e, up_to)
    go ih (some (v, r)) e =
        let l = record-shorter s v r o e in
        rw (e, up_to) (ap {B = Run} (λ vs. v ∷ vs) (ih r (record-read s v r o e).2 (omega arith) (omega arith)))

-- ---- the first, and those of the rest
pub versions-none : (s : Bytes) → one_record s ≡ none → versions s ≡ []
unfolding read_all up_to
versions-none [] e = refl
versions-none (x ∷ s) e = rw (e, up_to)

pub versions-some : (s : Bytes) (v : Version) (r : Bytes) → octets s ≡ true → one_record s ≡ some (v, r) → versions s ≡ v ∷ versions r
unfolding read_all up_to
versions-some s v r o e = go (length s) refl
  where
    go : (n : ℕ) → length s ≡ n → up_to one_record n s ≡ v ∷ up_to one_record (length r) r
    go zero h = absurd (omega (arith, record-shorter s v r o e))
    go (suc n) h = rw (e, up_to) (ap {B = Run} (λ vs. v ∷ vs) (enough n (length r) r (record-read s v r o e).2 (omega (arith, record-shorter s v r o e)) (omega arith)))

-- ---- each fits its fields
storable-up-to : (n : ℕ) (s : Bytes) → octets s ≡ true → all storable (up_to one_record n s) ≡ true
unfolding up_to all
storable-up-to zero s o = refl
storable-up-to (suc n) s o = go (λ r. storable-up-to n r) (one_record s) refl
  where
    go : ((r : Bytes) → octets r ≡ true → all storable (up_to one_record n r) ≡ true) → (p : Option (Version × Bytes)) → one_record s ≡ p → all storable (up_to one_record (suc n) s) ≡ true
    go ih none e = rw (e, up_to)
    go ih (some (v, r)) e = let w = record-read s v r o e in rw (e, up_to) (and_intro w.1 (ih r w.2))

pub versions-storable : (s : Bytes) → octets s ≡ true → all storable (versions s) ≡ true
unfolding read_all
versions-storable s o = storable-up-to (length s) s o

-- ---- no more than bytes
length-up-to : (n : ℕ) (s : Bytes) → length (up_to one_record n s) ≤ n
unfolding up_to
length-up-to zero s = omega arith
length-up-to (suc n) s = go (λ r. length-up-to n r) (one_record s) refl
  where
    go : ((r : Bytes) → length (up_to one_record n r) ≤ n) → (p : Option (Version × Bytes)) → one_record s ≡ p → length (up_to one_record (suc n) s) ≤ suc n
    go ih none e = rw (e, up_to) (omega arith)
    go ih (some (v, r)) e = rw (e, up_to) (omega (arith, ih r))

pub versions-count : (s : Bytes) → length (versions s) ≤ length s
unfolding read_all
versions-count s = length-up-to (length s) s
