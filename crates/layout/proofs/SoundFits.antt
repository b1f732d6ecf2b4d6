-- A sound store fits its state: every part its room, and every number its field.
-- Assumes nothing.
use Prim.Native.Nat.{ℕ, suc, ◌+◌, ◌*◌, ◌≤◌, compare, Ordering}
use native.Mathlib.Omega.{arith}
use mathlib.Core.Path.{◌≡◌, refl}
use mathlib.Core.Bool.{Bool, true, false, ◌&&◌, cond, not}
use mathlib.Core.List.{List, [], ◌∷◌, reverse_aux}
use mathlib.Core.Option.{Option, none, some}
use lib.ListN.{length}
use lib.Dec.{leb, eqb}
use borrow.Author.Tests.{leb-true, le-leb, ltb-true, eqb-true}
use Rattle.paper.specs.Lists.{all, total, rises, is_empty, insert, place}
use Rattle.paper.specs.Keys.{Bytes, octets, Version, Pair}
use Rattle.paper.specs.Runs.{Run, is_run, version_size, run_size}
use Rattle.paper.specs.Readers.{Row, row, cmp_row, readers_at, add_reader}
use Rattle.paper.specs.Image.{is_whole, storable}
use Rattle.paper.specs.Settings.{Settings, Range, in_range, ranges, in_ranges, longest, most_number, most_runs}
use Rattle.paper.specs.Store.{Txn, Store, frozen_of, own_size, image_size, area_size, hash_count, txns_of, read_numbers_of, rows_of}
use Rattle.paper.specs.Sound.{sound, sound_key, sound_value, is_hash, is_set, sound_set, sound_pair, txn_rules, sound_txn, sound_commit, history_rules, sound_version, sound_run, run_rules}
use Rattle.paper.proofs.Bools.{and_left, and_right, and_intro}
use Rattle.paper.proofs.Alls.{rule, all_head, all_tail, all-mono, all_insert}
use Rattle.paper.proofs.ImageLaws.{verdict-image}
use Rattle.paper.proofs.ReaderLaws.{readers_at-one}
use Rattle.paper.proofs.PlaceLaws.{same_rows-eq}
use Rattle.paper.proofs.SoundLaws.{rules}
use Rattle.layout.specs.Layout.{hashes_stream}
use Rattle.layout.proofs.Streams.{Below, All}
use Rattle.layout.proofs.Images.{OkVersion}
use Rattle.layout.proofs.LayoutLaws.{OkSet, OkNumber, OkHashes, OkPair, OkSized, OkPlace, OkRows, OkHistory, OkActive, OkFrozen, Fits}
use Rattle.layout.proofs.Sizes.{settings-put-long, head-long, n8-long, rows-form, rows_long, hashes-form, hashes-long, history-form, history-long, overlay-form, overlay-long, run-form, run_long, image-long, images-form, images-long}

-- ---- lists
-- a test at every element, as a fact of every element
pub all_of : {A : Type 0} (p : A → Bool) (P : A → Type 0) → ((a : A) → p a ≡ true → P a) → (xs : List A) → all p xs ≡ true → All P xs
all_of p P f [] h = tt
all_of p P f (x ∷ xs) h = (f x (all_head p x xs h), all_of p P f xs (all_tail p x xs h))

both_of : {A : Type 0} {P Q R : A → Type 0} → ((a : A) → P a → Q a → R a) → (xs : List A) → All P xs → All Q xs → All R xs
both_of f [] p q = tt
both_of f (x ∷ xs) p q = (f x p.0 q.0, both_of f xs p.1 q.1)

-- no element is larger than all together
each_below : {A : Type 0} (f : A → ℕ) (xs : List A) (n : ℕ) → total f xs ≤ n → All (λ x. f x ≤ n) xs
unfolding total
each_below f [] n l = tt
each_below f (x ∷ xs) n l = (omega arith, each_below f xs n (omega arith))

all-turned : {A : Type 0} (P : A → Type 0) (xs ys : List A) → All P xs → All P ys → All P (reverse_aux xs ys)
all-turned P [] ys p q = q
all-turned P (x ∷ xs) ys p q = all-turned P xs (x ∷ ys) p.1 (p.0, q)

-- ---- ranges
pub record Ranged (s : Settings) : Type 0 where
  pub transactions : (1 ≤ s.transactions) × (s.transactions ≤ 64)
  pub overlay_bytes : (64 ≤ s.overlay_bytes) × (s.overlay_bytes ≤ 1_048_576)
  pub read_hashes : (1 ≤ s.read_hashes) × (s.read_hashes ≤ 65_536)
  pub write_hashes : (1 ≤ s.write_hashes) × (s.write_hashes ≤ 4_096)
  pub history_entries : (1 ≤ s.history_entries) × (s.history_entries ≤ 4_096)
  pub history_hashes : (1 ≤ s.history_hashes) × (s.history_hashes ≤ 65_536)
  pub active_bytes : (64 ≤ s.active_bytes) × (s.active_bytes ≤ 1_048_576)
  pub area_bytes : (9 ≤ s.area_bytes) × (s.area_bytes ≤ 16_777_216)

in-range : (r : Range) → in_range r ≡ true → (r.least ≤ r.value) × (r.value ≤ r.most)
in-range r h = (leb-true _ _ (and_left (leb r.least r.value) (leb r.value r.most) h), leb-true _ _ (and_right (leb r.least r.value) (leb r.value r.most) h))

pub ranged : (s : Settings) → in_ranges s ≡ true → Ranged s
unfolding in_ranges ranges
ranged s h =
    let a = all_of in_range (λ r. (r.least ≤ r.value) × (r.value ≤ r.most)) in-range (ranges s) h in
    record {
      transactions = a.0;
      overlay_bytes = a.1.0;
      read_hashes = a.1.1.0;
      write_hashes = a.1.1.1.0;
      history_entries = a.1.1.1.1.0;
      history_hashes = a.1.1.1.1.1.0;
      active_bytes = a.1.1.1.1.1.1.0;
      area_bytes = a.1.1.1.1.1.1.1.0;
    }

-- ---- reader rows: no more than readers, and no row has more
insert-few : (x : Row) (rs : List Row) → length (insert cmp_row x rs) ≤ suc (length rs)
unfolding insert
insert-few x [] = omega arith
insert-few x (r ∷ rs) = go (cmp_row x r) (insert-few x rs)
  where
    go : (o : Ordering) → length (insert cmp_row x rs) ≤ suc (length rs) → length (place o x r rs (insert cmp_row x rs)) ≤ suc (suc (length rs))
    go Ordering.lt k = omega arith
    go Ordering.eq k = omega arith
    go Ordering.gt k = omega arith

-- rows of at most n readers, none later than the clock
record Few (clock : ℕ) (rs : List Row) (n : ℕ) : Type 0 where
  many-rows : length rs ≤ n
  counts : (t : ℕ) → readers_at t rs ≤ n
  times : all (λ r. leb r.time clock) rs ≡ true
  below : (m : ℕ) → n ≤ m → all (λ r. leb r.count m) rs ≡ true

add-few : (clock : ℕ) (rs : List Row) (n t : ℕ) → leb t clock ≡ true → Few clock rs n → Few clock (add_reader t rs) (suc n)
unfolding add_reader
add-few clock rs n t k f =
    record {
      many-rows = omega (arith, insert-few (row t (readers_at t rs + 1)) rs, f.many-rows);
      counts = λ u. go u (eqb u t) (readers_at-one u t rs);
      times = all_insert (λ r. leb r.time clock) cmp_row (row t (readers_at t rs + 1)) rs k f.times;
      below = λ m l. all_insert (λ r. leb r.count m) cmp_row (row t (readers_at t rs + 1)) rs (le-leb (readers_at t rs + 1) m (omega (arith, f.counts t))) (f.below m (omega arith));
    }
  where
    go : (u : ℕ) (p : Bool) → readers_at u (add_reader t rs) ≡ readers_at u rs + cond p 1 0 → readers_at u (add_reader t rs) ≤ suc n
    go u true e = omega (arith, e, f.counts u)
    go u false e = omega (arith, e, f.counts u)

few : (clock : ℕ) (ts : List ℕ) → all (λ t. leb t clock) ts ≡ true → Few clock (rows_of ts) (length ts)
unfolding rows_of all readers_at
few clock [] a = record { many-rows = omega arith; counts = λ t. omega arith; times = refl; below = λ m l. refl }
few clock (t ∷ ts) a = add-few clock (rows_of ts) (length ts) t (all_head (λ t. leb t clock) t ts a) (few clock ts (all_tail (λ t. leb t clock) t ts a))

-- ---- sizes
txns-long : (ps : List (Option Txn)) → length (read_numbers_of ps) ≤ length ps
unfolding read_numbers_of txns_of
txns-long [] = omega arith
txns-long (none ∷ ps) = let h = txns-long ps in omega arith
txns-long (some t ∷ ps) = let h = txns-long ps in omega arith

few-versions : (r : Run) → 12 * length r ≤ run_size r
unfolding run_size total version_size
few-versions [] = omega arith
few-versions (v ∷ r) = let h = few-versions r in omega arith

size_of : (r : Run) → image_size r ≡ 9 + run_size r
unfolding image_size
size_of r = refl

cond_below : (t : Bool) (n : ℕ) → cond t n 0 ≤ n
cond_below true n = omega arith
cond_below false n = omega arith

-- ---- texts and sets
key_fits : (k : Bytes) → sound_key k ≡ true → (not (is_empty k) ≡ true) × (length k ≤ longest)
unfolding sound_key
key_fits k h =
    (and_left (not (is_empty k)) (leb (length k) longest && octets k) h, leb-true _ _ (and_left (leb (length k) longest) (octets k) (and_right (not (is_empty k)) (leb (length k) longest && octets k) h)))

value-fits : (v : Bytes) → sound_value v ≡ true → length v ≤ longest
unfolding sound_value
value-fits v h = leb-true _ _ (and_left (leb (length v) longest) (octets v) h)

pair_fits : (p : Pair) → sound_pair p ≡ true → OkPair p
unfolding sound_pair
pair_fits p h =
    let k = key_fits p.key (and_left (sound_key p.key) (sound_value p.value) h) in
    let v = value-fits p.value (and_right (sound_key p.key) (sound_value p.value) h) in
    ((tt, omega (arith, k.1)), (tt, omega arith))

hash-below : (h : ℕ) → is_hash h ≡ true → Below 4 h
hash-below h e = omega (arith, ltb-true h 4294967296 e)

set_below : (hs : List ℕ) → is_set hs ≡ true → All (Below 4) hs
unfolding is_set
set_below hs h = all_of is_hash (Below 4) hash-below hs (and_right (rises compare hs) (all is_hash hs) h)

set-fits : (serializable : Bool) (room : ℕ) (hs : List ℕ) → room ≤ 65_536 → sound_set serializable room hs ≡ true → OkHashes hs × (length (hashes_stream.put hs) ≤ 8 + 4 * room)
unfolding sound_set
set-fits serializable room hs b h =
    let l = leb-true (length hs) (cond serializable room 0) (and_right (is_set hs) (leb (length hs) (cond serializable room 0)) h) in
    let m = cond_below serializable room in
    ((set_below hs (and_left (is_set hs) (leb (length hs) (cond serializable room 0)) h), omega (arith, hashes-form hs)), omega (arith, hashes-long hs))

-- ---- versions and runs
version-fits : (clock : ℕ) → clock ≤ most_number → (v : Version) → sound_version clock v ≡ true → (storable v ≡ true) × (not (is_empty v.key) ≡ true)
unfolding sound_version storable
version-fits clock c v h =
    let e = and_left (sound_key v.key && sound_value v.value) (leb v.time clock) h in
    let t = leb-true v.time clock (and_right (sound_key v.key && sound_value v.value) (leb v.time clock) h) in
    let k = key_fits v.key (and_left (sound_key v.key) (sound_value v.value) e) in
    let w = value-fits v.value (and_right (sound_key v.key) (sound_value v.value) e) in
    (and_intro (and_intro (le-leb _ longest k.1) (le-leb _ longest w)) (le-leb v.time most_number (omega arith)), k.0)

run_fits : (clock : ℕ) → clock ≤ most_number → (r : Run) → sound_run clock r ≡ true → (is_whole r ≡ true) × (all storable r ≡ true)
unfolding sound_run is_whole
run_fits clock c r h =
    let a = and_right (is_run r) (all (sound_version clock) r) h in (
      and_intro (and_left (is_run r) (all (sound_version clock) r) h) (all-mono (sound_version clock) (λ v. not (is_empty v.key)) (λ v e. (version-fits clock c v e).1) r a),
      all-mono (sound_version clock) storable (λ v e. (version-fits clock c v e).0) r a,
    )

image-fits : (clock : ℕ) → clock ≤ most_number → (r : Run) → image_size r ≤ 16_777_216 → sound_run clock r ≡ true → OkSized r
image-fits clock c r l h =
    let f = run_fits clock c r h in
    (verdict-image r f.0 f.1 (omega (arith, few-versions r, size_of r)), omega (arith, image-long r))

-- ---- a sound store
number_fits : (n : ℕ) → n ≤ most_number → OkNumber n
number_fits n l = (omega arith, omega (arith, n8-long n))

module _ (s : Store) (h : sound s ≡ true) where
  pub sound-ranged : Ranged s.settings
  sound-ranged = ranged s.settings (rules s h).ranges

  clock-fits : s.clock ≤ most_number
  clock-fits = leb-true _ _ (rules s h).clock

  counter-fits : s.counter ≤ most_number
  counter-fits = leb-true _ _ (rules s h).counter

  pub sound-places : length s.places ≡ s.settings.transactions
  sound-places = eqb-true _ _ (rules s h).places

  settings-fit : OkSet s.settings
  settings-fit =
      let r = sound-ranged in
      ((tt, (omega (arith, r.transactions), (omega (arith, r.overlay_bytes), (omega (arith, r.read_hashes), (omega (arith, r.write_hashes), (omega (arith, r.history_entries), (omega (arith, r.history_hashes), (omega (arith, r.active_bytes), omega (arith, r.area_bytes))))))))), omega (arith, settings-put-long s.settings))

  -- ---- the transactions
  read-early : (ps : List (Option Txn)) → all (sound_txn s.settings s.counter s.clock) (txns_of ps) ≡ true → all (λ t. leb t s.clock) (read_numbers_of ps) ≡ true
  unfolding txns_of read_numbers_of all sound_txn txn_rules
  read-early [] a = refl
  read-early (none ∷ ps) a = read-early ps a
  read-early (some t ∷ ps) a =
      and_intro (rule 2 (txn_rules s.settings s.counter s.clock t) (and_left _ (all (sound_txn s.settings s.counter s.clock) (txns_of ps)) a))
      (read-early ps (and_right (sound_txn s.settings s.counter s.clock t) _ a))

  rows_fit : OkRows s.settings s.readers
  rows_fit =
      let r = sound-ranged in
      let ns = read_numbers_of s.places in
      let e : s.readers ≡ rows_of ns = same_rows-eq s.readers (rows_of ns) (rules s h).rows in
      let f : Few s.clock s.readers (length ns) = rw e (few s.clock ns (read-early s.places (rules s h).txns)) in
      let m : length s.readers ≤ s.settings.transactions = omega (arith, f.many-rows, txns-long s.places, sound-places) in
      let k : length ns ≤ 64 = omega (arith, txns-long s.places, sound-places, r.transactions) in (
        (
          both_of (λ x p q. (omega (arith, p, clock-fits), omega (arith, q))) s.readers
              (all_of (λ x. leb x.time s.clock) (λ x. x.time ≤ s.clock) (λ x p. leb-true _ _ p) s.readers f.times)
              (all_of (λ x. leb x.count 64) (λ x. x.count ≤ 64) (λ x p. leb-true _ _ p) s.readers (f.below 64 k)),
          omega (arith, rows-form s.readers, r.transactions),
        ),
        omega (arith, rows_long s.readers),
      )

  place-fits : (t : Txn) → sound_txn s.settings s.counter s.clock t ≡ true → OkPlace s.settings (some t)
  unfolding sound_txn txn_rules
  place-fits t e =
      let r = sound-ranged in
      let l : List Bool = txn_rules s.settings s.counter s.clock t in
      let a = leb-true 1 t.handle (rule 0 l e) in
      let b = leb-true t.handle s.counter (rule 1 l e) in
      let c = leb-true t.read s.clock (rule 2 l e) in
      let d = leb-true (own_size t.own) s.settings.overlay_bytes (rule 5 l e) in (
        a,
        omega (arith, counter-fits),
        (
          ((omega (arith, clock-fits), tt), omega (arith, head-long t.read t.open?)),
          (
            ((all_of sound_pair OkPair pair_fits t.own (rule 4 l e), omega (arith, overlay-form t.own, r.overlay_bytes)), omega (arith, overlay-long t.own)),
            (set-fits s.settings.serializable s.settings.read_hashes t.reads r.read_hashes.1 (rule 6 l e), set-fits s.settings.serializable s.settings.write_hashes t.writes (omega (arith, r.write_hashes)) (rule 7 l e)),
          ),
        ),
      )

  places-fit : (ps : List (Option Txn)) → all (sound_txn s.settings s.counter s.clock) (txns_of ps) ≡ true → All (OkPlace s.settings) ps
  unfolding txns_of
  places-fit [] a = tt
  places-fit (none ∷ ps) a = (tt, places-fit ps a)
  places-fit (some t ∷ ps) a =
      let p : Txn → Bool = sound_txn s.settings s.counter s.clock in
      (place-fits t (all_head p t (txns_of ps) a), places-fit ps (all_tail p t (txns_of ps) a))

  -- ---- the history
  history-fits : OkHistory s.settings s.history
  unfolding history_rules sound_commit hash_count
  history-fits =
      let r = sound-ranged in
      let l : List Bool = history_rules s.settings s.clock s.history in
      let e = (rules s h).history in
      let n = leb-true (length s.history) (cond s.settings.serializable s.settings.history_entries 0) (rule 2 l e) in
      let k = cond_below s.settings.serializable s.settings.history_entries in
      let m = leb-true (hash_count s.history) s.settings.history_hashes (rule 3 l e) in (
        (
          both_of (λ c p q. (omega (arith, p.0, clock-fits), (p.1, omega (arith, q, hashes-form c.hashes, r.history_hashes)))) s.history
              (all_of (sound_commit s.clock) (λ c. (c.number ≤ s.clock) × All (Below 4) c.hashes)
              (λ c p. (leb-true _ _ (and_left (leb c.number s.clock) (is_set c.hashes) p), set_below c.hashes (and_right (leb c.number s.clock) (is_set c.hashes) p))) s.history (rule 1 l e))
              (each_below (λ c. length c.hashes) s.history s.settings.history_hashes m),
          omega (arith, history-form s.history, r.history_entries, r.history_hashes),
        ),
        omega (arith, history-long s.history),
      )

  -- ---- the runs
  active-fits : OkActive s.settings s.active
  unfolding run_rules
  active-fits =
      let r = sound-ranged in
      let l : List Bool = run_rules s.settings s.clock s.active (frozen_of s) in
      let e = (rules s h).runs in
      let z = leb-true (run_size s.active) s.settings.active_bytes (rule 3 l e) in (
        (all_of storable OkVersion (λ v p. p) s.active (run_fits s.clock clock-fits s.active (rule 0 l e)).1, omega (arith, run-form s.active, r.active_bytes)),
        omega (arith, run_long s.active),
      )

  frozen-fits : OkFrozen s.settings (frozen_of s)
  unfolding run_rules area_size
  frozen-fits =
      let r = sound-ranged in
      let l : List Bool = run_rules s.settings s.clock s.active (frozen_of s) in
      let e = (rules s h).runs in
      let n = leb-true (length (frozen_of s)) most_runs (rule 4 l e) in
      let z = leb-true (area_size (frozen_of s)) s.settings.area_bytes (rule 5 l e) in (
        (
          all-turned OkSized (frozen_of s) []
              (both_of (λ x p q. image-fits s.clock clock-fits x (omega (arith, p, r.area_bytes)) q) (frozen_of s) (each_below image_size (frozen_of s) s.settings.area_bytes z)
              (all_of (sound_run s.clock) (λ x. sound_run s.clock x ≡ true) (λ x p. p) (frozen_of s) (rule 1 l e))) tt,
          omega (arith, images-form (frozen_of s), r.area_bytes),
        ),
        omega (arith, images-long (frozen_of s)),
      )

  pub sound-fits : Fits s
  sound-fits =
      record {
        settings = settings-fit;
        clock = number_fits s.clock clock-fits;
        counter = number_fits s.counter counter-fits;
        readers = rows_fit;
        history = history-fits;
        active = active-fits;
        frozen = frozen-fits;
        places = (places-fit s.places (rules s h).txns, sound-places);
      }
