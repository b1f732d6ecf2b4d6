-- An opened store is sound.
-- Assumes nothing.
use Prim.Native.Nat.{ℕ, zero, suc, ◌+◌, ◌≤◌}
use native.Mathlib.Omega.{arith}
use mathlib.Core.Path.{◌≡◌, refl, sym, ap, ap₂, ◌∙◌}
use mathlib.Core.Bool.{Bool, true, false, ◌&&◌, cond, not}
use mathlib.Core.List.{List, [], ◌∷◌, ◌++◌}
use mathlib.Core.Option.{none}
use lib.ListN.{length, replicate, length-replicate}
use lib.Dec.{leb}
use borrow.Author.Tests.{le-leb, leb-true, eq-eqb}
use Rattle.paper.specs.Lists.{all, total, rises, hold_all, is_empty}
use Rattle.paper.specs.Keys.{Bytes, octets, Version}
use Rattle.paper.specs.Runs.{Run, is_run, run_size}
use Rattle.paper.specs.Image.{big_endian, mark, record_bytes, records_bytes, image_of, Verdict, good, broken, foreign, verdict, is_whole, storable}
use Rattle.paper.specs.Refusals.{Refusal, Try, stop, go, must, ◌>>=◌, ◌>>◌}
use Rattle.paper.specs.Settings.{Settings, in_ranges, longest, most_number, most_runs, state_length}
use Rattle.paper.specs.Store.{Store, txns_of, handles_of, read_numbers_of, rows_of, latest, latest_of, area_size, image_size, hash_count}
use Rattle.paper.specs.Sound.{sound_key, sound_value, sound_version, sound_run, sound_txn, distinct, same_rows, history_rules, run_rules, sound}
use Rattle.paper.specs.Calls.{take_run, open_runs, opened, open_store}
use Rattle.paper.proofs.Bools.{and_left, and_right, and_intro}
use Rattle.paper.proofs.ImageBack.{octets-left, octets-right, verdict-read, length-image}
use Rattle.paper.proofs.SoundLaws.{Rules, sounds}

-- a version as an image of bytes can hold it
fit_version : Version → Bool
fit_version v = storable v && (octets v.key && octets v.value)

-- a run as an image can hold it
fit_run : Run → Bool
fit_run r = is_whole r && all fit_version r

fits : (r : Run) → is_whole r ≡ true → all fit_version r ≡ true → fit_run r ≡ true
unfolding fit_run
fits r p q = and_intro p q

-- the keys and values in bytes are bytes
versions-fit : (r : Run) → all storable r ≡ true → octets (records_bytes r) ≡ true → all fit_version r ≡ true
unfolding all records_bytes record_bytes fit_version
versions-fit [] h o = refl
versions-fit (v ∷ vs) h o =
    let a : Bytes = big_endian 2 (length v.key) in
    let c : Bytes = big_endian 8 v.time in
    let d : Bytes = big_endian 2 (length v.value) in
    let one = octets-left (record_bytes v) (records_bytes vs) o in
    let two = octets-right a (v.key ++ (c ++ (d ++ v.value))) one in
    let three = octets-right d v.value (octets-right c (d ++ v.value) (octets-right v.key (c ++ (d ++ v.value)) two)) in
    and_intro (and_intro (and_left (storable v) (all storable vs) h) (and_intro (octets-left v.key (c ++ (d ++ v.value)) two) three))
    (versions-fit vs (and_right (storable v) (all storable vs) h) (octets-right (record_bytes v) (records_bytes vs) o))

image-fits : (r : Run) → all storable r ≡ true → octets (image_of r) ≡ true → all fit_version r ≡ true
unfolding image_of
image-fits r h o =
    let n : Bytes = big_endian 4 (length r) in
    versions-fit r h (octets-right n (records_bytes r) (octets-right (big_endian 2 1) (n ++ records_bytes r) (octets-right mark (big_endian 2 1 ++ (n ++ records_bytes r)) o)))

-- ---- steps of an opening that went through
go_same : {A : Type 0} (a b : A) → go a ≡ go b → a ≡ b
go_same a b e = cc

stop-never : {A : Type 0} (r : Refusal) (b : A) → stop r ≡ go b → ⊥
stop-never r b e = let z : ◌≡◌ {A = ℕ} 0 1 = cc in omega arith

went : {A B : Type 0} (m : Try A) (f : A → Try B) (b : B) → (m >>= f) ≡ go b → (a : A) × (m ≡ go a) × (f a ≡ go b)
unfolding ◌>>=◌
went (stop r) f b e = absurd (stop-never r b e)
went (go a) f b e = (a, refl, e)

passed : {B : Type 0} (t : Bool) (r : Refusal) (m : Try B) (b : B) → (must t r >> m) ≡ go b → (t ≡ true) × (m ≡ go b)
unfolding must ◌>>◌
passed true r m b e = (refl, e)
passed false r m b e = absurd (stop-never r b e)

taken : (n : ℕ) (v : Verdict) (r : Run) → take_run n v ≡ go r → v ≡ good r
taken n (good q) r e = ap good (go_same q r e)
taken n broken r e = absurd (stop-never _ r e)
taken n foreign r e = absurd (stop-never _ r e)

runs-read : (n : ℕ) (images : List Bytes) (runs : List Run) → all octets images ≡ true → open_runs n images ≡ go runs
    → (all fit_run runs ≡ true) × (total length images ≡ area_size runs) × (length runs ≡ length images)
unfolding open_runs all total area_size
runs-read n [] runs o e =
    let j : [] ≡ runs = go_same [] runs e in
    (ap (all fit_run) (sym j), ap (total image_size) j, ap (λ (l : List Run). length l) (sym j))
runs-read n (i ∷ is) runs o e =
    let (r, p, e₁) = went (take_run n (verdict i)) _ runs e in
    let (rs, q, e₂) = went (open_runs (suc n) is) _ runs e₁ in
    here i is runs r rs (and_left (octets i) (all octets is) o) (taken n (verdict i) r p) (runs-read (suc n) is rs (and_right (octets i) (all octets is) o) q) (go_same (r ∷ rs) runs e₂)
  where
    here : (i : Bytes) (is : List Bytes) (runs : List Run) (r : Run) (rs : List Run) → octets i ≡ true → verdict i ≡ good r
        → (all fit_run rs ≡ true) × (total length is ≡ area_size rs) × (length rs ≡ length is) → r ∷ rs ≡ runs
        → (all fit_run runs ≡ true) × (total length (i ∷ is) ≡ area_size runs) × (length runs ≡ length (i ∷ is))
    here i is runs r rs o v w j =
        let u = verdict-read i r o v in (
          ap (all fit_run) (sym j) ∙ and_intro (fits r u.1 (image-fits r u.2 (ap octets (sym u.0) ∙ o))) w.0,
          ap₂ (λ (m k : ℕ). m + k) (ap (λ (l : Bytes). length l) u.0 ∙ length-image r) w.1 ∙ ap (total image_size) j,
          ap (λ (l : List Run). length l) (sym j) ∙ ap suc w.2,
        )

-- ---- runs at the opening clock
version-fit : (c : ℕ) (v : Version) → v.time ≤ c → not (is_empty v.key) ≡ true → fit_version v ≡ true → sound_version c v ≡ true
unfolding fit_version sound_version sound_key sound_value storable
version-fit c v l k h =
    let s : storable v ≡ true = and_left (storable v) (octets v.key && octets v.value) h in
    let b = and_right (storable v) (octets v.key && octets v.value) h in
    let q = and_left (leb (length v.key) longest && leb (length v.value) longest) (leb v.time most_number) s in
    and_intro
    (and_intro (and_intro k (and_intro (and_left (leb (length v.key) longest) (leb (length v.value) longest) q) (and_left (octets v.key) (octets v.value) b)))
    (and_intro (and_right (leb (length v.key) longest) (leb (length v.value) longest) q) (and_right (octets v.key) (octets v.value) b)))
    (le-leb v.time c l)

versions-sound : (c : ℕ) (r : Run) → latest r ≤ c → all (λ v. not (is_empty v.key)) r ≡ true → all fit_version r ≡ true → all (sound_version c) r ≡ true
unfolding latest all
versions-sound c [] l k h = refl
versions-sound c (v ∷ vs) l k h =
    and_intro
    (version-fit c v (omega arith) (and_left (not (is_empty v.key)) (all (λ w. not (is_empty w.key)) vs) k) (and_left (fit_version v) (all fit_version vs) h))
    (versions-sound c vs (omega arith) (and_right (not (is_empty v.key)) (all (λ w. not (is_empty w.key)) vs) k) (and_right (fit_version v) (all fit_version vs) h))

run_sound : (c : ℕ) (r : Run) → latest r ≤ c → fit_run r ≡ true → sound_run c r ≡ true
unfolding fit_run is_whole sound_run
run_sound c r l h =
    let w = and_left (is_whole r) (all fit_version r) h in
    and_intro (and_left (is_run r) (all (λ v. not (is_empty v.key)) r) w)
    (versions-sound c r l (and_right (is_run r) (all (λ v. not (is_empty v.key)) r) w) (and_right (is_whole r) (all fit_version r) h))

runs-sound : (c : ℕ) (rs : List Run) → latest_of rs ≤ c → all fit_run rs ≡ true → all (sound_run c) rs ≡ true
unfolding latest_of all
runs-sound c [] l h = refl
runs-sound c (r ∷ rs) l h =
    and_intro (run_sound c r (omega arith) (and_left (fit_run r) (all fit_run rs) h)) (runs-sound c rs (omega arith) (and_right (fit_run r) (all fit_run rs) h))

version-time : (v : Version) → fit_version v ≡ true → v.time ≤ most_number
unfolding fit_version storable
version-time v h =
    leb-true v.time most_number
    (and_right (leb (length v.key) longest && leb (length v.value) longest) (leb v.time most_number) (and_left (storable v) (octets v.key && octets v.value) h))

latest-fits : (r : Run) → all fit_version r ≡ true → latest r ≤ most_number
unfolding latest all
latest-fits [] h = omega arith
latest-fits (v ∷ vs) h =
    let t = version-time v (and_left (fit_version v) (all fit_version vs) h) in
    let u = latest-fits vs (and_right (fit_version v) (all fit_version vs) h) in
    omega arith

latest_of-fits : (rs : List Run) → all fit_run rs ≡ true → latest_of rs ≤ most_number
unfolding latest_of all fit_run
latest_of-fits [] h = omega arith
latest_of-fits (r ∷ rs) h =
    let t = latest-fits r (and_right (is_whole r) (all fit_version r) (and_left (fit_run r) (all fit_run rs) h)) in
    let u = latest_of-fits rs (and_right (fit_run r) (all fit_run rs) h) in
    omega arith

-- ---- no transactions
no-txns : (n : ℕ) → txns_of (replicate n none) ≡ []
unfolding txns_of
no-txns zero = refl
no-txns (suc n) = no-txns n

opened-rules : (st : Settings) (runs : List Run) → in_ranges st ≡ true → all fit_run runs ≡ true → length runs ≤ most_runs → leb (area_size runs) st.area_bytes ≡ true → Rules (opened st runs)
unfolding opened all rises hold_all history_rules run_rules sound_run distinct handles_of read_numbers_of rows_of same_rows hash_count total run_size
opened-rules st runs h f n a =
    record {
      ranges = h;
      clock = le-leb (latest_of runs) most_number (latest_of-fits runs f);
      counter = refl;
      places = eq-eqb (length (replicate st.transactions none)) st.transactions (length-replicate st.transactions none);
      txns = ap (all (sound_txn st 0 (latest_of runs))) (no-txns st.transactions);
      handles = simp (no-txns st.transactions);
      rows = simp (no-txns st.transactions);
      history = and_intro refl (and_intro refl (and_intro (le-leb 0 (cond st.serializable st.history_entries 0) (omega arith)) (and_intro (le-leb 0 st.history_hashes (omega arith)) refl)));
      runs =
          and_intro (and_intro refl refl) (and_intro (runs-sound (latest_of runs) runs (omega arith) f) (and_intro refl (and_intro (le-leb 0 st.active_bytes (omega arith)) (and_intro (le-leb (length runs) most_runs n) (and_intro a refl)))));
    }

-- a store that an opening gives is sound
pub opened-sound : (st : Settings) (images : List Bytes) (room : ℕ) (s : Store) → all octets images ≡ true → open_store st images room ≡ go s → sound s ≡ true
unfolding open_store
opened-sound st images room s o e =
    let (h, e₁) = passed (in_ranges st) _ _ s e in
    let (runs, p, e₂) = went (open_runs 1 images) _ s e₁ in
    let (m, e₃) = passed (leb (length images) most_runs && leb (total length images) st.area_bytes) _ _ s e₂ in
    let (k, e₄) = passed (leb (state_length st) room) _ _ s e₃ in
    here runs h (runs-read 1 images runs o p) m (go_same (opened st runs) s e₄)
  where
    here : (runs : List Run) → in_ranges st ≡ true → (all fit_run runs ≡ true) × (total length images ≡ area_size runs) × (length runs ≡ length images)
        → leb (length images) most_runs && leb (total length images) st.area_bytes ≡ true → opened st runs ≡ s → sound s ≡ true
    here runs h w m j =
        ap sound (sym j)
        ∙ sounds (opened st runs)
        (opened-rules st runs h w.0
        (omega (arith, leb-true (length images) most_runs (and_left (leb (length images) most_runs) (leb (total length images) st.area_bytes) m), w.2))
        (ap (λ (x : ℕ). leb x st.area_bytes) (sym w.1) ∙ and_right (leb (length images) most_runs) (leb (total length images) st.area_bytes) m))
