-- Where every own write and every version has a key and a value of at most 16 bytes, so has whatever a get or a scan answers.
-- Assumes nothing.
use Prim.Native.Nat.{ℕ}
use mathlib.Core.Path.{◌≡◌, refl}
use mathlib.Core.Bool.{Bool, true, false, cond, ◌&&◌}
use mathlib.Core.List.{List, [], ◌∷◌}
use mathlib.Core.Option.{Option, none, some}
use lib.ListN.{length}
use lib.Dec.{leb, ltb}
use Rattle.paper.specs.Lists.{all, keep, first}
use Rattle.paper.specs.Keys.{Bytes, Version, Pair, cmp_key, same_key}
use Rattle.paper.specs.Bounds.{Bound, within}
use Rattle.paper.specs.Seen.{candidate, newer, newest, unless_empty, value_of, visible, own_write, over, seen, keys_of_run, keys_of, with_value, valued, present, scanned}
use Rattle.paper.proofs.Bools.{and_left, and_right, and_intro}
use Rattle.paper.proofs.Alls.{all_head, all_tail, all_cons, all_keep, all_insert}

abbrev pub short : Bytes → Bool
short b = leb (length b) 16

abbrev pub short_pair : Pair → Bool
short_pair p = short p.key && short p.value

abbrev pub short_version : Version → Bool
short_version v = short v.key && short v.value

-- ---- a test of what an option has
module _ {A : Type 0} (p : A → Bool) where
  abbrev pub Passes : Option A → Type 0
  Passes none = Unit {0}
  Passes (some a) = p a ≡ true

  first_passes : (xs : List A) → all p xs ≡ true → Passes (first xs)
  first_passes [] h = tt
  first_passes (x ∷ xs) h = all_head p x xs h

-- ---- a value
newer-passes : (p : Version → Bool) (v : Version) (o : Option Version) → p v ≡ true → Passes p o → Passes p (newer v o)
unfolding newer
newer-passes p v none h u = h
newer-passes p v (some w) h u = go (ltb v.time w.time)
  where
    go : (b : Bool) → p (cond b w v) ≡ true
    go true = u
    go false = h

newest-passes : (p : Version → Bool) (k : Bytes) (r : ℕ) (vs : List Version) → all p vs ≡ true → Passes p (newest k r vs)
unfolding newest
newest-passes p k r [] h = tt
newest-passes p k r (v ∷ vs) h = go (newest-passes p k r vs (all_tail p v vs h)) (candidate k r v)
  where
    go : Passes p (newest k r vs) → (b : Bool) → Passes p (cond b (newer v (newest k r vs)) (newest k r vs))
    go ih true = newer-passes p v (newest k r vs) (all_head p v vs h) ih
    go ih false = ih

unless_empty-short : (b : Bytes) → short b ≡ true → Passes short (unless_empty b)
unfolding unless_empty
unless_empty-short [] h = tt
unless_empty-short (x ∷ xs) h = h

value_of-short : (o : Option Version) → Passes short_version o → Passes short (value_of o)
value_of-short none h = tt
value_of-short (some v) h = unless_empty-short v.value (and_right (short v.key) (short v.value) h)

own_write-short : (k : Bytes) (own : List Pair) → all short_pair own ≡ true → Passes short (own_write k own)
unfolding own_write
own_write-short k [] h = tt
own_write-short k (p ∷ ps) h = go (own_write-short k ps (all_tail short_pair p ps h)) (same_key k p.key)
  where
    go : Passes short (own_write k ps) → (b : Bool) → Passes short (cond b (some p.value) (own_write k ps))
    go ih true = and_right (short p.key) (short p.value) (all_head short_pair p ps h)
    go ih false = ih

over-short : (o u : Option Bytes) → Passes short o → Passes short u → Passes short (over o u)
over-short none u h k = k
over-short (some b) u h k = unless_empty-short b h

-- ---- keys
keys_of_run-short : (vs : List Version) → all short_version vs ≡ true → all short (keys_of_run vs) ≡ true
unfolding keys_of_run
keys_of_run-short [] h = unfold all in refl
keys_of_run-short (v ∷ vs) h =
    all_insert short cmp_key v.key (keys_of_run vs) (and_left (short v.key) (short v.value) (all_head short_version v vs h))
    (keys_of_run-short vs (all_tail short_version v vs h))

keys_of-short : (own : List Pair) (vs : List Version) → all short_pair own ≡ true → all short_version vs ≡ true → all short (keys_of own vs) ≡ true
unfolding keys_of
keys_of-short [] vs o h = keys_of_run-short vs h
keys_of-short (p ∷ ps) vs o h =
    all_insert short cmp_key p.key (keys_of ps vs) (and_left (short p.key) (short p.value) (all_head short_pair p ps o))
    (keys_of-short ps vs (all_tail short_pair p ps o) h)

valued-short : (f : Bytes → Option Bytes) → ((k : Bytes) → Passes short (f k)) → (ks : List Bytes) → all short ks ≡ true → all short_pair (valued f ks) ≡ true
unfolding valued
valued-short f h [] a = unfold all in refl
valued-short f h (k ∷ ks) a = go (valued-short f h ks (all_tail short k ks a)) (f k) (h k)
  where
    go : all short_pair (valued f ks) ≡ true → (o : Option Bytes) → Passes short o → all short_pair (with_value k o (valued f ks)) ≡ true
    go ih none g = ih
    go ih (some b) g = all_cons short_pair (record { key = k; value = b }) (valued f ks) (and_intro (all_head short k ks a) g) ih

-- ---- what is answered
module _ (own : List Pair) (vs : List Version) (r : ℕ) (short_own : all short_pair own ≡ true) (short_versions : all short_version vs ≡ true) where
  pub seen-short : (k : Bytes) → Passes short (seen own vs r k)
  unfolding seen visible
  seen-short k =
      over-short (own_write k own) (visible k r vs) (own_write-short k own short_own)
      (value_of-short (newest k r vs) (newest-passes short_version k r vs short_versions))

  pub scanned-short : (lo hi : Bound) → Passes short_pair (scanned own vs r lo hi)
  unfolding scanned present
  scanned-short lo hi =
      let ks : List Bytes = keep (within lo hi) (keys_of own vs) in
      first_passes short_pair (valued (seen own vs r) ks)
      (valued-short (seen own vs r) seen-short ks (all_keep short (within lo hi) (keys_of own vs) (keys_of-short own vs short_own short_versions)))
