-- Records that rise from a version, taken off one after the other; above an empty key at the last stamp, no key is empty.
-- Assumes nothing.
use native.Mathlib.Omega.{arith}
use mathlib.Core.Path.{◌≡◌, refl, sym, ap, ap₂, ◌∙◌}
use mathlib.Core.Bool.{Bool, true, false, not, ◌&&◌}
use mathlib.Core.Option.{none, some}
use mathlib.Core.List.{[], ◌∷◌, ◌++◌}
use Prim.Native.Nat.{ℕ, ◌<◌, compare}
use borrow.Author.Tests.{le-ltb}
use lib.ListN.{length}
use Rattle.paper.specs.Lists.{then_by, is_lt, is_same, is_empty, all, rises, rises_from}
use Rattle.paper.specs.Keys.{Bytes, Version, octets, cmp_key, cmp_version, same_key}
use Rattle.paper.specs.Runs.{Run, is_run}
use Rattle.paper.specs.Image.{one_record, record_bytes, storable, is_whole}
use Rattle.paper.proofs.Bools.{and_left, and_right, and_intro, is_lt-lt}
use Rattle.paper.proofs.Order.{compare_same}
use Rattle.paper.proofs.KeyOrder.{version-order}
use Rattle.paper.proofs.ImageBack.{record-read}
use Rattle.raw.proofs.Comparing.{less-than}
use Rattle.key.specs.Packing.{pack_all, packed_by}
use Rattle.key.specs.Versions.{no_version, versions}
use Rattle.key.proofs.Packed.{versions-nil}
use Rattle.run.specs.Checks.{whole_run, rises_in}
use Rattle.run.proofs.Reading.{versions-none, versions-some, versions-storable}

-- ---- one record after the other

-- behind the same bytes
same-front : (a x y : Bytes) → cmp_key (a ++ x) (a ++ y) ≡ cmp_key x y
unfolding cmp_key
same-front [] x y = refl
same-front (b ∷ a) x y = ap (λ o. then_by o (cmp_key (a ++ x) (a ++ y))) (compare_same b) ∙ same-front a x y

and-swap : (a b c : Bool) → a && (b && c) ≡ b && (a && c)
and-swap true b c = refl
and-swap false true c = refl
and-swap false false c = refl

pub rises-nil : (v : Version) → rises_in v [] ≡ true
unfolding rises_in pack_all cmp_key rises_from
rises-nil v = ap (λ (r : Run). same_key (pack_all record_bytes r) [] && rises_from cmp_version v r) versions-nil

pub rises-cut : (v : Version) (s : Bytes) → 0 < length s → one_record s ≡ none → rises_in v s ≡ false
unfolding rises_in pack_all cmp_key
rises-cut v [] h e = absurd (omega arith)
rises-cut v (x ∷ s) h e = ap (λ (r : Run). same_key (pack_all record_bytes r) (x ∷ s) && rises_from cmp_version v r) (versions-none (x ∷ s) e)

pub rises-on : (v : Version) (s : Bytes) (w : Version) (r : Bytes) → octets s ≡ true → one_record s ≡ some (w, r) → rises_in v s ≡ is_lt (cmp_version v w) && rises_in w r
unfolding rises_in pack_all rises_from
rises-on v s w r o e =
    ap₂ (λ (vs : Run) (b : Bytes). same_key (pack_all record_bytes vs) b && rises_from cmp_version v vs) (versions-some s w r o e) (record-read s w r o e).0
    ∙ ap (λ o. is_same o && (is_lt (cmp_version v w) && rises_from cmp_version w (versions r))) (same-front (record_bytes w) (pack_all record_bytes (versions r)) r)
    ∙ and-swap (same_key (pack_all record_bytes (versions r)) r) (is_lt (cmp_version v w)) (rises_from cmp_version w (versions r))

-- ---- no key is empty

never-below : (n : ℕ) → is_lt (compare n 0) ≡ false
never-below n = sym (less-than n 0) ∙ le-ltb n 0 (omega arith)

-- a version is above the empty key at the last stamp where its key is not empty
above-none : (v : Version) → is_lt (cmp_version no_version v) ≡ not (is_empty v.key)
unfolding cmp_version cmp_key
above-none v = go v.key
  where
    go : (k : Bytes) → is_lt (then_by (cmp_key [] k) (compare v.time 0)) ≡ not (is_empty k)
    go [] = never-below v.time
    go (x ∷ k) = refl

abbrev non_empty : Version → Bool
non_empty v = not (is_empty v.key)

-- nor is one above it
on-empty : (v w : Version) → is_lt (cmp_version v w) ≡ true → non_empty v ≡ true → non_empty w ≡ true
on-empty v w h k =
    sym (above-none w) ∙ ap is_lt (version-order.trans no_version v w (is_lt-lt (cmp_version no_version v) (above-none v ∙ k)) (is_lt-lt (cmp_version v w) h))

all_above : (v : Version) (vs : Run) → rises_from cmp_version v vs ≡ true → non_empty v ≡ true → all non_empty vs ≡ true
unfolding rises_from all
all_above v [] r k = refl
all_above v (w ∷ vs) r k =
    let h = and_left (is_lt (cmp_version v w)) (rises_from cmp_version w vs) r in
    let e = on-empty v w h k in
    and_intro e (all_above w vs (and_right (is_lt (cmp_version v w)) (rises_from cmp_version w vs) r) e)

both : (a b c : Bool) → (a ≡ true → b ≡ true → c ≡ true) → a && (b && c) ≡ b && a
both true true c f = f refl refl
both true false c f = refl
both false true c f = refl
both false false c f = refl

pub whole_above : (r : Run) → is_whole r ≡ rises_from cmp_version no_version r
unfolding is_whole rises rises_from all
whole_above [] = refl
whole_above (v ∷ vs) =
    both (rises_from cmp_version v vs) (non_empty v) (all non_empty vs) (λ r k. all_above v vs r k)
    ∙ ap (λ (b : Bool). b && rises_from cmp_version v vs) (sym (above-none v))

-- ---- the records of a run in which no key is empty
fits : (a b c w : Bool) → c ≡ true → (w ≡ true → b ≡ true) → (a && (b && c)) && w ≡ a && w
fits a true true true e f = go a
  where
    go : (a : Bool) → (a && true) && true ≡ a && true
    go true = refl
    go false = refl
fits a true true false e f = go a
  where
    go : (a : Bool) → (a && true) && false ≡ a && false
    go true = refl
    go false = refl
fits a true false w e f = cc
fits a false c true e f = let z : false ≡ true = f refl in cc
fits a false c false e f = go a
  where
    go : (a : Bool) → (a && false) && false ≡ a && false
    go true = refl
    go false = refl

whole_run_lem : (r : Run) → is_whole r ≡ true → is_run r ≡ true
unfolding is_whole
whole_run_lem r h = and_left (is_run r) (all non_empty r) h

pub whole-rises : (s : Bytes) → octets s ≡ true → whole_run s ≡ rises_in no_version s
unfolding whole_run rises_in packed_by
whole-rises s o =
    fits (same_key (pack_all record_bytes (versions s)) s) (is_run (versions s)) (all storable (versions s)) (is_whole (versions s)) (versions-storable s o) (whole_run_lem (versions s))
    ∙ ap (λ (b : Bool). same_key (pack_all record_bytes (versions s)) s && b) (whole_above (versions s))
