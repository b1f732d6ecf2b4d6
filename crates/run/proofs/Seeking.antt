-- Seeking in packed records: those passed stand before the version sought, and from the first that does not, none does.
-- Assumes nothing.
use native.Mathlib.Omega.{arith}
use mathlib.Core.Path.{◌≡◌, refl, sym, ap, ap₂, ◌∙◌, subst}
use mathlib.Core.Bool.{Bool, true, false, not, cond, false≢true}
use mathlib.Core.List.{[], ◌∷◌, ◌++◌, append_assoc}
use Prim.Native.Nat.{ℕ, ◌+◌, ◌-◌, ◌≤◌, ◌<◌}
use lib.ListN.{length, take, length-append}
use lib.Seq.{take_at, length-take-le}
use Rattle.paper.specs.Lists.{is_lt, all, keep, rises, rises_from}
use Rattle.paper.specs.Keys.{Bytes, Version, cmp_version}
use Rattle.paper.specs.Runs.{Run, is_run}
use Rattle.paper.specs.Image.{record_bytes, records_bytes, storable}
use Rattle.paper.proofs.Bools.{and_left, and_right, is_lt-lt}
use Rattle.paper.proofs.Alls.{all_keep}
use Rattle.paper.proofs.KeyOrder.{version-order}
use Rattle.paper.proofs.Rising.{keep-rises}
use Rattle.raw.specs.Bytes.{part}
use Rattle.raw.proofs.Parts.{length_part, part-append, part-take}
use Rattle.key.specs.Versions.{versions, packed}
use Rattle.key.specs.Places.{version_in, Placed}
use Rattle.key.specs.declared.Place.{Place}
use Rattle.key.proofs.Placing.{version-placed}
use Rattle.key.proofs.Packed.{versions-records, packed-records, packed-run, versions-nil, versions-step, onward-order, onward-packed}
use Rattle.run.specs.Seeking.{is_before, is_from, Sought}

-- ---- what is kept of a run

keep-not : (v w : Version) (ws : Run) → is_before w v ≡ true → keep (is_from v) (w ∷ ws) ≡ keep (is_from v) ws
unfolding keep
keep-not v w ws h = ap {B = Run} (λ b. cond (not b) (w ∷ keep (is_from v) ws) (keep (is_from v) ws)) h

-- a version after one that is not before v is not before v
on-from : (v w x : Version) → is_lt (cmp_version w x) ≡ true → is_before w v ≡ false → is_before x v ≡ false
on-from v w x h k = go (is_before x v) refl
  where
    go : (b : Bool) → is_before x v ≡ b → is_before x v ≡ false
    go true e = absurd (false≢true (sym k ∙ ap is_lt (version-order.trans w x v (is_lt-lt (cmp_version w x) h) (is_lt-lt (cmp_version x v) e))))
    go false e = e

keep_all : (v w : Version) (ws : Run) → rises_from cmp_version w ws ≡ true → is_before w v ≡ false → keep (is_from v) (w ∷ ws) ≡ w ∷ ws
unfolding keep rises_from
keep_all v w [] r h = ap {B = Run} (λ b. cond (not b) (w ∷ []) []) h
keep_all v w (x ∷ ws) r h =
    let i : is_before x v ≡ false = on-from v w x (and_left (is_lt (cmp_version w x)) (rises_from cmp_version x ws) r) h in
    let ih : keep (is_from v) (x ∷ ws) ≡ x ∷ ws = keep_all v x ws (and_right (is_lt (cmp_version w x)) (rises_from cmp_version x ws) r) i in
    ap {B = Run} (λ b. cond (not b) (w ∷ keep (is_from v) (x ∷ ws)) (keep (is_from v) (x ∷ ws))) h ∙ ap {B = Run} (λ l. w ∷ l) ih

-- a run whose first version is not before v
run-from : (v w : Version) (ws : Run) → is_run (w ∷ ws) ≡ true → is_before w v ≡ false → keep (is_from v) (w ∷ ws) ≡ w ∷ ws
unfolding rises
run-from v w ws r h = keep_all v w ws r h

-- ---- the loop

-- what stands before at is before v
pub record Passing (s : Bytes) (from end : ℕ) (v : Version) (at : ℕ) : Type 0 where
  pub low : from ≤ at
  pub high : at ≤ end
  pub whole : packed (part s at (end - at)) ≡ true
  pub kept : keep (is_from v) (versions (part s at (end - at))) ≡ keep (is_from v) (versions (part s from (end - from)))

module _ (s : Bytes) (from end : ℕ) (v : Version) (fit : end ≤ length s) where
  module _ (at : ℕ) (so : Passing s from end v at) where
    pub seek-end : end ≤ at → Sought s from end v at
    unfolding keep
    seek-end h =
        let z : end - at ≡ 0 = omega (arith, so.high) in
        let e : versions (part s at (end - at)) ≡ [] = ap (λ (n : ℕ). versions (part s at n)) z ∙ versions-nil in
        record { low = so.low; high = so.high; whole = so.whole; found = e ∙ sym (ap (keep (is_from v)) e) ∙ so.kept }

    module _ (l : at < end) (p : Place) (there : Placed s at p) where
      first_then : versions (part s at (end - at)) ≡ version_in s p ∷ versions (part s p.ve (end - p.ve))
      first_then = versions-step s at end l fit so.whole p there ∙ ap {B = Run} (λ w. w ∷ versions (part s p.ve (end - p.ve))) (version-placed s at p there)

      pub seek-next : is_before (version_in s p) v ≡ true → Passing s from end v p.ve
      seek-next h =
          record {
            low = omega (arith, so.low, there.start, there.key, there.mid, there.value);
            high = onward-order s at end l fit so.whole p there;
            whole = onward-packed s at end l fit so.whole p there;
            kept = sym (ap (keep (is_from v)) first_then ∙ keep-not v (version_in s p) (versions (part s p.ve (end - p.ve))) h) ∙ so.kept;
          }

      pub seek_stop : is_before (version_in s p) v ≡ false → Sought s from end v at
      seek_stop h =
          record {
            low = so.low;
            high = so.high;
            whole = so.whole;
            found =
                first_then
                ∙ sym (run-from v (version_in s p) (versions (part s p.ve (end - p.ve))) (ap is_run (sym first_then) ∙ (packed-run (part s at (end - at)) so.whole).1) h)
                ∙ sym (ap (keep (is_from v)) first_then) ∙ so.kept;
          }

-- ---- by the places in the bytes up to the end
module _ (s : Bytes) (from end : ℕ) (v : Version) (fit : end ≤ length s) where
  long : length (take end s) ≡ end
  long = length-take-le end s fit

  -- it is found in the bytes too
  sought-front : (r : ℕ) → from ≤ end → Sought (take end s) from end v r → Sought s from end v r
  sought-front r l h =
      let a : part (take end s) r (end - r) ≡ part s r (end - r) = part-take s end r (end - r) (omega (arith, h.high)) in
      let b : part (take end s) from (end - from) ≡ part s from (end - from) = part-take s end from (end - from) (omega arith) in
      record { low = h.low; high = h.high; whole = ap packed (sym a) ∙ h.whole; found = ap versions (sym a) ∙ h.found ∙ ap (λ (x : Bytes). keep (is_from v) (versions x)) b }

  pub seek-none : (at : ℕ) → from ≤ end → Passing (take end s) from end v at → length (take end s) ≤ at → Sought s from end v end
  seek-none at l so h =
      let z : at ≡ end = omega (arith, so.high, long) in
      sought-front end l (subst (Sought (take end s) from end v) z (seek-end (take end s) from end v (omega (arith, long)) at so (omega (arith, long))))

  module _ (at : ℕ) (so : Passing (take end s) from end v at) (b : Bytes) (same : b ≡ take end s) (p : Place) (placed : Placed b at p) where
    there : Placed (take end s) at p
    there = subst (λ (x : Bytes). Placed x at p) same placed

    l : at < end
    l = let h = there in omega (arith, h.start, h.key, h.mid, h.value, h.inside, long)

    pub seek-at : from ≤ end → is_before (version_in (take end s) p) v ≡ false → Sought s from end v (p.ks - 2)
    seek-at f e =
        let h = there in
        let z : at ≡ p.ks - 2 = omega (arith, h.start) in
        sought-front (p.ks - 2) f (subst (Sought (take end s) from end v) z (seek_stop (take end s) from end v (omega (arith, long)) at so l p there e))

    pub seek-on : is_before (version_in (take end s) p) v ≡ true → (i : ℕ) → i ≡ p.ve → Passing (take end s) from end v i
    seek-on e i z = subst (Passing (take end s) from end v) (sym z) (seek-next (take end s) from end v (omega (arith, long)) at so l p there e)

-- ---- what was found

-- the answer is one only: packed records of one run have one length
pub sought-same : (s : Bytes) (from end : ℕ) (v : Version) (a b : ℕ) → end ≤ length s → Sought s from end v a → Sought s from end v b → a ≡ b
sought-same s from end v a b fit h k =
    let p = packed-run (part s a (end - a)) h.whole in
    let q = packed-run (part s b (end - b)) k.whole in
    let e : part s a (end - a) ≡ part s b (end - b) = sym p.0 ∙ ap records_bytes (h.found ∙ sym k.found) ∙ q.0 in
    omega (arith, h.high, k.high, ap (λ (x : Bytes). length x) e, length_part s a (end - a) (omega (arith, h.high)), length_part s b (end - b) (omega (arith, k.high)))

-- the versions before v
abbrev pub earlier : Version → Run → Run
earlier v r = keep (λ w. is_before w v) r

earlier_on : (v w : Version) (ws : Run) → is_before w v ≡ true → earlier v (w ∷ ws) ≡ w ∷ earlier v ws
unfolding keep
earlier_on v w ws h = ap {B = Run} (λ b. cond b (w ∷ earlier v ws) (earlier v ws)) h

earlier-not : (v w : Version) (ws : Run) → is_before w v ≡ false → earlier v (w ∷ ws) ≡ earlier v ws
unfolding keep
earlier-not v w ws h = ap {B = Run} (λ b. cond b (w ∷ earlier v ws) (earlier v ws)) h

none-earlier : (v w : Version) (ws : Run) → rises_from cmp_version w ws ≡ true → is_before w v ≡ false → earlier v (w ∷ ws) ≡ []
unfolding keep rises_from
none-earlier v w [] r h = earlier-not v w [] h
none-earlier v w (x ∷ ws) r h =
    earlier-not v w (x ∷ ws) h
    ∙ none-earlier v x ws (and_right (is_lt (cmp_version w x)) (rises_from cmp_version x ws) r) (on-from v w x (and_left (is_lt (cmp_version w x)) (rises_from cmp_version x ws) r) h)

-- a run is what stands before v and then what does not
split_from : (v w : Version) (ws : Run) → rises_from cmp_version w ws ≡ true → earlier v (w ∷ ws) ++ keep (is_from v) (w ∷ ws) ≡ w ∷ ws
unfolding keep rises_from
split_from v w [] r = go (is_before w v) refl
  where
    go : (b : Bool) → is_before w v ≡ b → earlier v (w ∷ []) ++ keep (is_from v) (w ∷ []) ≡ w ∷ []
    go true e = ap₂ {C = Run} (λ x y. x ++ y) (earlier_on v w [] e) (keep-not v w [] e)
    go false e = ap₂ {C = Run} (λ x y. x ++ y) (earlier-not v w [] e) (keep_all v w [] r e)
split_from v w (x ∷ ws) r = go (split_from v x ws (and_right (is_lt (cmp_version w x)) (rises_from cmp_version x ws) r)) (is_before w v) refl
  where
    go : earlier v (x ∷ ws) ++ keep (is_from v) (x ∷ ws) ≡ x ∷ ws → (b : Bool) → is_before w v ≡ b → earlier v (w ∷ (x ∷ ws)) ++ keep (is_from v) (w ∷ (x ∷ ws)) ≡ w ∷ (x ∷ ws)
    go ih true e = ap₂ {C = Run} (λ y z. y ++ z) (earlier_on v w (x ∷ ws) e) (keep-not v w (x ∷ ws) e) ∙ ap {B = Run} (λ l. w ∷ l) ih
    go ih false e = ap₂ {C = Run} (λ y z. y ++ z) (none-earlier v w (x ∷ ws) r e) (keep_all v w (x ∷ ws) r e)

split-run : (v : Version) (r : Run) → is_run r ≡ true → earlier v r ++ keep (is_from v) r ≡ r
unfolding rises keep
split-run v [] h = refl
split-run v (w ∷ ws) h = split_from v w ws h

records-append : (a b : Run) → records_bytes (a ++ b) ≡ records_bytes a ++ records_bytes b
unfolding records_bytes
records-append [] b = refl
records-append (v ∷ a) b = ap (λ (x : Bytes). record_bytes v ++ x) (records-append a b) ∙ sym (append_assoc (record_bytes v) (records_bytes a) (records_bytes b))

same-front : (x y z : Bytes) → x ++ z ≡ y ++ z → x ≡ y
same-front x y z e =
    let l : length x ≡ length y = omega (arith, length-append x z, length-append y z, ap (λ (b : Bytes). length b) e) in
    sym (take_at x z (length y) l) ∙ ap (take (length y)) e ∙ take_at y z (length y) refl

-- what stands before the answer is packed too, and is what is before v
module _ (s : Bytes) (from end : ℕ) (v : Version) (r : ℕ) (whole : packed (part s from (end - from)) ≡ true) (h : Sought s from end v r) where
  front : part s from (r - from) ≡ records_bytes (earlier v (versions (part s from (end - from))))
  front =
      let vs : Run = versions (part s from (end - from)) in
      let p = packed-run (part s from (end - from)) whole in
      let q = packed-run (part s r (end - r)) h.whole in
      let n : (r - from) + (end - r) ≡ end - from = omega (arith, h.low, h.high) in
      let k : from + (r - from) ≡ r = omega (arith, h.low) in
      let a : part s from (end - from) ≡ part s from (r - from) ++ part s r (end - r) =
      ap (part s from) (sym n) ∙ part-append s from (r - from) (end - r) ∙ ap (λ (i : ℕ). part s from (r - from) ++ part s i (end - r)) k in
      let b : part s from (end - from) ≡ records_bytes (earlier v vs) ++ records_bytes (keep (is_from v) vs) =
      sym p.0 ∙ ap records_bytes (sym (split-run v vs p.1)) ∙ records-append (earlier v vs) (keep (is_from v) vs) in
      let c : records_bytes (keep (is_from v) vs) ≡ part s r (end - r) = ap records_bytes (sym h.found) ∙ q.0 in
      same-front (part s from (r - from)) (records_bytes (earlier v vs)) (part s r (end - r)) (sym a ∙ b ∙ ap (λ (x : Bytes). records_bytes (earlier v vs) ++ x) c)

  fitting : all storable (earlier v (versions (part s from (end - from)))) ≡ true
  fitting = all_keep storable (λ w. is_before w v) (versions (part s from (end - from))) (packed-run (part s from (end - from)) whole).2

  pub front-versions : versions (part s from (r - from)) ≡ earlier v (versions (part s from (end - from)))
  front-versions = ap versions front ∙ versions-records (earlier v (versions (part s from (end - from)))) fitting

  pub front-packed : packed (part s from (r - from)) ≡ true
  front-packed =
      ap packed front
      ∙ packed-records (earlier v (versions (part s from (end - from)))) (keep-rises cmp_version version-order (λ w. is_before w v) (versions (part s from (end - from))) (packed-run (part s from (end - from)) whole).1) fitting
