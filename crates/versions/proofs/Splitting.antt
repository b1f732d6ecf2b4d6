-- The active run cut where an own write's version goes: what is in front of it stays, the version follows, and the other own writes go into what is left.
-- Assumes nothing.
use native.Mathlib.Omega.{arith}
use mathlib.Core.Path.{◌≡◌, refl, sym, ap, ap₂, ◌∙◌}
use mathlib.Core.Bool.{true}
use mathlib.Core.List.{List, [], ◌∷◌, ◌++◌, append_assoc}
use Prim.Native.Nat.{ℕ, ◌+◌, ◌-◌, ◌≤◌}
use lib.Dec.{ltb}
use lib.ListN.{length}
use Rattle.paper.specs.Lists.{is_lt, all, rises_from, insert_all}
use Rattle.paper.specs.Keys.{Bytes, Version, Pair, cmp_version, cmp_pair}
use Rattle.paper.specs.Runs.{Run}
use Rattle.paper.specs.Image.{record_bytes, records_bytes, storable}
use Rattle.paper.specs.Calls.{stamped}
use Rattle.paper.proofs.Bools.{and_intro}
use Rattle.paper.proofs.Alls.{all_append, all_keep}
use Rattle.paper.proofs.KeyOrder.{version-order}
use Rattle.raw.specs.Bytes.{part}
use Rattle.raw.proofs.Parts.{part-append}
use Rattle.key.specs.Versions.{versions}
use Rattle.key.proofs.Packed.{packed-run, versions-records}
use Rattle.overlay.specs.Overlay.{pair}
use Rattle.overlay.specs.Entries.{span}
use Rattle.run.specs.Seeking.{is_before, is_from, Sought}
use Rattle.run.proofs.Seeking.{front-versions, front-packed}
use Rattle.versions.specs.Absorbing.{versions_in, packed_in, older, version_of, joined}
use Rattle.versions.proofs.Inserting.{insert_all-past, behind-all, insert_all-front, all-kept, all-behind, stamped-behind}

-- ---- packed records side by side
records-append : (a b : Run) → records_bytes (a ++ b) ≡ records_bytes a ++ records_bytes b
unfolding records_bytes
records-append [] b = refl
records-append (v ∷ a) b = ap (λ (x : Bytes). record_bytes v ++ x) (records-append a b) ∙ sym (append_assoc (record_bytes v) (records_bytes a) (records_bytes b))

versions-append : (s : Bytes) (at r end : ℕ) → at ≤ r → r ≤ end → packed_in s at r ≡ true → packed_in s r end ≡ true
    → versions_in s at end ≡ versions_in s at r ++ versions_in s r end
versions-append s at r end h k a b =
    let p = packed-run (span s at r) a in
    let q = packed-run (span s r end) b in
    let n : end - at ≡ (r - at) + (end - r) = omega arith in
    let m : at + (r - at) ≡ r = omega arith in
    let e : span s at end ≡ records_bytes (versions_in s at r ++ versions_in s r end) =
    ap (part s at) n ∙ part-append s at (r - at) (end - r) ∙ ap (λ (i : ℕ). span s at r ++ part s i (end - r)) m
    ∙ sym (records-append (versions_in s at r) (versions_in s r end) ∙ ap₂ (λ (x y : Bytes). x ++ y) p.0 q.0) in
    ap versions e ∙ versions-records (versions_in s at r ++ versions_in s r end) (all_append storable (versions_in s at r) (versions_in s r end) p.2 q.2)

-- ---- where the version of an own write goes
-- no own write changes nothing
pub joined-none : (n : ℕ) (r : Run) → joined n [] r ≡ r
unfolding stamped insert_all
joined-none n r = refl

module _ (s : Bytes) (at end n : ℕ) (inside : end ≤ length s) (whole : packed_in s at end ≡ true) (old : older n (versions_in s at end) ≡ true)
    (p : Pair) (own : List Pair) (rise : rises_from cmp_pair p own ≡ true) (r : ℕ) (f : Sought s at end (version_of n (pair p.key [])) r) where
  v : Version
  v = version_of n p

  front : packed_in s at r ≡ true
  front = front-packed s at end (version_of n (pair p.key [])) r whole f

  run_is : versions_in s at end ≡ versions_in s at r ++ versions_in s r end
  run_is = versions-append s at r end f.low f.high front f.whole

  -- the order does not see a version's value
  before : all (λ w. is_lt (cmp_version w v)) (versions_in s at r) ≡ true
  unfolding v cmp_version
  before =
      ap (all (λ w. is_lt (cmp_version w v))) (front-versions s at end (version_of n (pair p.key [])) r whole f)
      ∙ all-kept (λ w. is_before w v) (versions_in s at end)

  -- what is left is as old
  pub aged : older n (versions_in s r end) ≡ true
  aged = ap (all (λ w. ltb w.time n)) f.found ∙ all_keep (λ w. ltb w.time n) (is_from (version_of n (pair p.key []))) (versions_in s at end) old

  behind : all (λ w. is_lt (cmp_version v w)) (versions_in s r end) ≡ true
  unfolding v cmp_version
  behind = all-behind n v (versions_in s r end) refl aged (ap (all (is_from v)) f.found ∙ all-kept (is_from v) (versions_in s at end))

  later : all (λ w. is_lt (cmp_version v w)) (stamped n own) ≡ true
  unfolding v
  later = stamped-behind n p own rise

  -- it goes in front of all that is left
  left_is : joined n (p ∷ own) (versions_in s r end) ≡ v ∷ joined n own (versions_in s r end)
  unfolding stamped v
  left_is = insert_all-front cmp_version version-order (version_of n p) (stamped n own) (versions_in s r end) later behind

  past : all (λ w. all (λ u. is_lt (cmp_version u w)) (versions_in s at r)) (stamped n (p ∷ own)) ≡ true
  unfolding all stamped v
  past = and_intro before (behind-all cmp_version version-order (version_of n p) (stamped n own) (versions_in s at r) before later)

  -- all own writes go among what is left
  pub front-is : records_bytes (joined n (p ∷ own) (versions_in s at end)) ≡ span s at r ++ records_bytes (joined n (p ∷ own) (versions_in s r end))
  front-is =
      ap (λ (vs : Run). records_bytes (joined n (p ∷ own) vs)) run_is
      ∙ ap records_bytes (insert_all-past cmp_version version-order (stamped n (p ∷ own)) (versions_in s at r) (versions_in s r end) past)
      ∙ records-append (versions_in s at r) (joined n (p ∷ own) (versions_in s r end))
      ∙ ap (λ (x : Bytes). x ++ records_bytes (joined n (p ∷ own) (versions_in s r end))) (packed-run (span s at r) front).0

  -- what is in front of the version, the version, and what is left
  pub split : records_bytes (joined n (p ∷ own) (versions_in s at end)) ≡ span s at r ++ (record_bytes (version_of n p) ++ records_bytes (joined n own (versions_in s r end)))
  unfolding v records_bytes
  split = front-is ∙ ap (λ (vs : Run). span s at r ++ records_bytes vs) left_is
