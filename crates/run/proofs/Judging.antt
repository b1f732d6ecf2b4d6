-- The verdict on an image, by what is read of it in turn: mark, version, count, records.
-- Assumes nothing.
use native.Mathlib.Omega.{arith}
use mathlib.Core.Path.{◌≡◌, refl, sym, ap, ap₂, ◌∙◌}
use mathlib.Core.Bool.{Bool, true, false, cond, ◌&&◌, false≢true}
use mathlib.Core.Option.{Option, none, some}
use mathlib.Core.List.{[], ◌∷◌, append-nil}
use Prim.Native.Nat.{ℕ, ◌≤◌, ◌<◌}
use borrow.Author.Tests.{eq-eqb, eqb-true}
use lib.Dec.{eqb}
use lib.ListN.{length, take, drop, length-take}
use Rattle.paper.specs.Lists.{is_same, all}
use Rattle.paper.specs.Keys.{Bytes, octets, same_key}
use Rattle.paper.specs.Runs.{Run, is_run}
use Rattle.paper.specs.Image.{number_from, number, body, records, records_bytes, storable, is_whole, mark, judge_mark, judge_version, judge_records, verdict, good, broken, foreign}
use Rattle.paper.proofs.Bools.{and_left, and_right, and_intro}
use Rattle.paper.proofs.KeyOrder.{key-order}
use Rattle.paper.proofs.ImageLaws.{records-at}
use Rattle.paper.proofs.ImageBack.{records-read}
use Rattle.raw.specs.Bytes.{part}
use Rattle.raw.proofs.Octets.{octets-drop}
use Rattle.key.specs.Versions.{versions, packed}
use Rattle.key.proofs.Records.{bytes-here, bytes_cut, number-here, number_cut}
use Rattle.key.proofs.Packed.{versions-records, packed-records, packed-run}
use Rattle.run.specs.Checks.{whole_run}

-- ---- the records
pub whole_is : (b : Bytes) → whole_run b ≡ true → (packed b ≡ true) × (is_whole (versions b) ≡ true)
unfolding whole_run
whole_is b h = (and_left (packed b) (is_whole (versions b)) h, and_right (packed b) (is_whole (versions b)) h)

-- the records of a whole run
pub is-whole : (r : Run) → is_whole r ≡ true → all storable r ≡ true → whole_run (records_bytes r) ≡ true
unfolding whole_run is_whole
is-whole r w a =
    and_intro (packed-records r (and_left (is_run r) _ w) a) (ap is_whole (versions-records r a) ∙ w)

-- as many records as the count says, rising, with no empty key, and nothing after them
abbrev pub whole_of : ℕ → Bytes → Bool
whole_of n b = whole_run b && eqb n (length (versions b))

records-good : (n : ℕ) (b : Bytes) → whole_of n b ≡ true → judge_records (records n b) ≡ good (versions b)
records-good n b h =
    let w = whole_is b (and_left (whole_run b) (eqb n (length (versions b))) h) in
    let p = packed-run b w.0 in
    let e : n ≡ length (versions b) = eqb-true n (length (versions b)) (and_right (whole_run b) (eqb n (length (versions b))) h) in
    let q : records n b ≡ some (versions b, []) =
    ap₂ (λ (k : ℕ) (x : Bytes). records k x) e (sym p.0 ∙ sym (append-nil (records_bytes (versions b)))) ∙ records-at (versions b) [] p.2 in
    ap judge_records q ∙ ap (λ (t : Bool). cond t (good (versions b)) broken) w.1

records-bad : (n : ℕ) (b : Bytes) → octets b ≡ true → whole_of n b ≡ false → judge_records (records n b) ≡ broken
records-bad n b o h = go (records n b) refl
  where
    go : (p : Option (Run × Bytes)) → records n b ≡ p → judge_records p ≡ broken
    go none e = refl
    go (some (vs, x ∷ r)) e = refl
    go (some (vs, [])) e = same (is_whole vs) refl
      where
        w : (b ≡ records_bytes vs) × (all storable vs ≡ true) × (length vs ≡ n)
        w = let u = records-read n b vs [] o e in (u.0 ∙ append-nil (records_bytes vs), u.1, u.2)

        same : (t : Bool) → is_whole vs ≡ t → cond t (good vs) broken ≡ broken
        same true k =
            let v : versions b ≡ vs = ap versions w.0 ∙ versions-records vs w.1 in
            let l : eqb n (length (versions b)) ≡ true = eq-eqb n (length (versions b)) (sym w.2 ∙ sym (ap (λ (r : Run). length r) v)) in
            absurd (false≢true (sym h ∙ and_intro (ap whole_run w.0 ∙ is-whole vs k w.1) l))
        same false k = refl

pub judge-records : (n : ℕ) (b : Bytes) → octets b ≡ true → judge_records (records n b) ≡ cond (whole_of n b) (good (versions b)) broken
judge-records n b o = go (whole_of n b) refl
  where
    go : (t : Bool) → whole_of n b ≡ t → judge_records (records n b) ≡ cond t (good (versions b)) broken
    go true h = records-good n b h
    go false h = records-bad n b o h

-- ---- the mark, the version, the count
pub marked-long : (s : Bytes) → take 3 s ≡ mark → 3 ≤ length s
marked-long s e = omega (arith, length-take 3 s, ap (λ (x : Bytes). length x) e)

module _ (s : Bytes) where
  pub verdict-short : length s < 3 → verdict s ≡ broken
  unfolding verdict
  verdict-short h = ap judge_mark (bytes_cut s 0 3 (omega arith))

  read-mark : 3 ≤ length s → verdict s ≡ cond (same_key (take 3 s) mark) (judge_version (number 2 (drop 3 s))) broken
  unfolding verdict
  read-mark h = ap judge_mark (bytes-here s 0 3 h)

  pub verdict-unmarked : 3 ≤ length s → same_key (take 3 s) mark ≡ false → verdict s ≡ broken
  verdict-unmarked h e = read-mark h ∙ ap (λ (t : Bool). cond t (judge_version (number 2 (drop 3 s))) broken) e

  module _ (long : 3 ≤ length s) (marked : take 3 s ≡ mark) where
    read-version : verdict s ≡ judge_version (number 2 (drop 3 s))
    read-version =
        read-mark long
        ∙ ap (λ (t : Bool). cond t (judge_version (number 2 (drop 3 s))) broken) (ap (λ (m : Bytes). same_key m mark) marked ∙ ap is_same (key-order.same mark))

    pub verdict-cut : length s < 5 → verdict s ≡ broken
    verdict-cut h = read-version ∙ ap judge_version (number_cut s 3 2 (omega arith))

    version-here : 5 ≤ length s → verdict s ≡ cond (eqb (number_from 0 (part s 3 2)) 1) (judge_records (body (drop 5 s))) foreign
    version-here h = read-version ∙ ap judge_version (number-here s 3 2 h)

    pub verdict-foreign : 5 ≤ length s → eqb (number_from 0 (part s 3 2)) 1 ≡ false → verdict s ≡ foreign
    verdict-foreign h e = version-here h ∙ ap (λ (t : Bool). cond t (judge_records (body (drop 5 s))) foreign) e

    module _ (h : 5 ≤ length s) (ours : eqb (number_from 0 (part s 3 2)) 1 ≡ true) where
      read-body : verdict s ≡ judge_records (body (drop 5 s))
      read-body = version-here h ∙ ap (λ (t : Bool). cond t (judge_records (body (drop 5 s))) foreign) ours

      count_cut : length s < 9 → body (drop 5 s) ≡ none
      unfolding body
      count_cut k = rw (number_cut s 5 4 (omega arith))

      count-here : 9 ≤ length s → body (drop 5 s) ≡ records (number_from 0 (part s 5 4)) (drop 9 s)
      unfolding body
      count-here k = rw (number-here s 5 4 k)

      pub verdict-headless : length s < 9 → verdict s ≡ broken
      verdict-headless k = read-body ∙ ap judge_records (count_cut k)

      pub verdict-records : octets s ≡ true → 9 ≤ length s → verdict s ≡ cond (whole_of (number_from 0 (part s 5 4)) (drop 9 s)) (good (versions (drop 9 s))) broken
      verdict-records o k = read-body ∙ ap judge_records (count-here k) ∙ judge-records (number_from 0 (part s 5 4)) (drop 9 s) (octets-drop 9 s o)
