-- A run that bytes hold is sound at a clock exactly if no version of it is later.
-- Assumes nothing.
use native.Mathlib.Omega.{arith}
use mathlib.Core.Path.{◌≡◌, refl, sym, ap, ap₂, ◌∙◌}
use mathlib.Core.Bool.{Bool, true, false, not, ◌&&◌}
use mathlib.Core.List.{List, [], ◌∷◌, ◌++◌}
use Prim.Native.Nat.{ℕ, max}
use lib.ListN.{length}
use lib.Dec.{leb}
use borrow.Author.Tests.{le-leb, lt-leb, leb-true, leb-false}
use Rattle.paper.specs.Lists.{all, is_empty}
use Rattle.paper.specs.Keys.{Bytes, Version, octets}
use Rattle.paper.specs.Runs.{Run, is_run}
use Rattle.paper.specs.Image.{big_endian, record_bytes, records_bytes, is_whole, storable}
use Rattle.paper.specs.Settings.{longest, most_number}
use Rattle.paper.specs.Store.{latest, latest_of}
use Rattle.paper.specs.Sound.{sound_key, sound_value, sound_version, sound_run}
use Rattle.paper.proofs.Bools.{and_left, and_right, and_intro}
use Rattle.paper.proofs.Alls.{all-mono}
use Rattle.paper.proofs.ImageBack.{octets-left, octets-right}
use Rattle.layout.proofs.Streams.{All}

-- the later of two is in time where both are
pub max-leb : (a b c : ℕ) → leb (max a b) c ≡ leb a c && leb b c
max-leb a b c = go (leb a c) (leb b c) refl refl
  where
    go : (p q : Bool) → leb a c ≡ p → leb b c ≡ q → leb (max a b) c ≡ p && q
    go true true e f = le-leb (max a b) c (omega (arith, leb-true a c e, leb-true b c f))
    go true false e f = lt-leb (max a b) c (omega (arith, leb-false b c f))
    go false q e f = lt-leb (max a b) c (omega (arith, leb-false a c e))

-- ---- one version
abbrev non_empty : Version → Bool
non_empty v = not (is_empty v.key)

-- its key and value in bytes are bytes
parts-octets : (v : Version) → octets (record_bytes v) ≡ true → (octets v.key ≡ true) × (octets v.value ≡ true)
unfolding record_bytes
parts-octets v o =
    let a : Bytes = big_endian 2 (length v.key) in
    let c : Bytes = big_endian 8 v.time in
    let d : Bytes = big_endian 2 (length v.value) in
    let two = octets-right a (v.key ++ (c ++ (d ++ v.value))) o in
    (octets-left v.key (c ++ (d ++ v.value)) two, octets-right d v.value (octets-right c (d ++ v.value) (octets-right v.key (c ++ (d ++ v.value)) two)))

version-in-time : (clock : ℕ) (v : Version) → non_empty v ≡ true → storable v ≡ true → octets (record_bytes v) ≡ true → sound_version clock v ≡ leb v.time clock
unfolding sound_version sound_key sound_value storable
version-in-time clock v k h o =
    let l = and_left (leb (length v.key) longest && leb (length v.value) longest) (leb v.time most_number) h in
    let b = parts-octets v o in
    ap (λ (t : Bool). t && leb v.time clock)
    (and_intro (and_intro k (and_intro (and_left (leb (length v.key) longest) (leb (length v.value) longest) l) b.0))
    (and_intro (and_right (leb (length v.key) longest) (leb (length v.value) longest) l) b.1))

-- ---- a run
-- as bytes hold it: rising with no empty key, and every version fits its fields
pub record Sturdy (r : Run) : Type 0 where
  pub whole : is_whole r ≡ true
  pub fits : all storable r ≡ true
  pub bytes : octets (records_bytes r) ≡ true

versions-in-time : (clock : ℕ) (r : Run) → all non_empty r ≡ true → all storable r ≡ true → octets (records_bytes r) ≡ true → all (sound_version clock) r ≡ leb (latest r) clock
unfolding all latest records_bytes
versions-in-time clock [] k h o = sym (le-leb 0 clock (omega arith))
versions-in-time clock (v ∷ vs) k h o =
    ap₂ (λ (a b : Bool). a && b)
    (version-in-time clock v (and_left (non_empty v) (all non_empty vs) k) (and_left (storable v) (all storable vs) h) (octets-left (record_bytes v) (records_bytes vs) o))
    (versions-in-time clock vs (and_right (non_empty v) (all non_empty vs) k) (and_right (storable v) (all storable vs) h) (octets-right (record_bytes v) (records_bytes vs) o))
    ∙ sym (max-leb v.time (latest vs) clock)

pub run-in-time : (clock : ℕ) (r : Run) → Sturdy r → sound_run clock r ≡ leb (latest r) clock
unfolding sound_run is_whole
run-in-time clock r w =
    ap (λ (t : Bool). t && all (sound_version clock) r) (and_left (is_run r) (all non_empty r) w.whole)
    ∙ versions-in-time clock r (and_right (is_run r) (all non_empty r) w.whole) w.fits w.bytes

pub runs-in-time : (clock : ℕ) (rs : List Run) → All Sturdy rs → all (sound_run clock) rs ≡ leb (latest_of rs) clock
unfolding all latest_of
runs-in-time clock [] w = sym (le-leb 0 clock (omega arith))
runs-in-time clock (r ∷ rs) w =
    ap₂ (λ (a b : Bool). a && b) (run-in-time clock r w.0) (runs-in-time clock rs w.1) ∙ sym (max-leb (latest r) (latest_of rs) clock)

-- the other direction: in a sound run no key is empty
key-there : (clock : ℕ) (v : Version) → sound_version clock v ≡ true → non_empty v ≡ true
unfolding sound_version sound_key
key-there clock v h =
    and_left (non_empty v) _ (and_left (sound_key v.key) (sound_value v.value) (and_left (sound_key v.key && sound_value v.value) (leb v.time clock) h))

pub sound-whole : (clock : ℕ) (r : Run) → sound_run clock r ≡ true → is_whole r ≡ true
unfolding sound_run is_whole
sound-whole clock r h =
    and_intro (and_left (is_run r) (all (sound_version clock) r) h) (all-mono (sound_version clock) non_empty (key-there clock) r (and_right (is_run r) (all (sound_version clock) r) h))
