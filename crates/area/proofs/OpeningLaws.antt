-- The opening images one after the other: the verdicts from the first, the clock, and the sum of the lengths.
-- Assumes nothing.
use native.Mathlib.Omega.{arith}
use Rattle.std.specs.Prelude.{Ok, Err}
use native.Mathlib.Numerals.{add-one}
use mathlib.Core.Path.{◌≡◌, refl, sym, ap, ap₂, ◌∙◌}
use mathlib.Core.Bool.{Bool, true, false, cond, ◌&&◌}
use mathlib.Core.List.{List, [], ◌∷◌}
use Prim.Native.Nat.{ℕ, suc, ◌+◌, ◌≤◌, ◌<◌, max}
use lib.ListN.{length, take, drop, get_or, length-drop, length-take, drop_of_length-le}
use lib.Seq.{drop-cons}
use lib.Dec.{leb}
use borrow.Author.Tests.{le-leb, lt-leb, leb-true}
use Rattle.paper.specs.Lists.{total}
use Rattle.paper.specs.Keys.{Bytes, octets}
use Rattle.paper.specs.Runs.{Run}
use Rattle.paper.specs.Settings.{most_runs}
use Rattle.paper.specs.Image as paper
use Rattle.paper.specs.Image.{verdict}
use Rattle.paper.specs.Store.{latest, latest_of}
use Rattle.paper.specs.Refusals.{Refusal, Try, stop, go, ◌>>=◌}
use Rattle.paper.specs.Calls.{take_run, open_runs, images_in}
use Rattle.raw.proofs.Octets.{octets-take, octets-drop}
use Rattle.run.specs.Checks.{told}
use Rattle.run.specs.declared.BadImage.{BadImage}
use Rattle.run.specs.declared.BadImage.TheVariants.{Broken, Foreign}
use Rattle.run.proofs.Images.{told-holds}
use Rattle.area.specs.Opening.{image_in, clock_of, refused_for, passes, good_images, runs_or, runs_in, Total, FitTold}

-- ---- one image
image-octets : (s : Bytes) (n : ℕ) → octets s ≡ true → octets (image_in s n) ≡ true
image-octets s n o = go (leb n (length s))
  where
    go : (b : Bool) → octets (cond b (take n s) []) ≡ true
    go true = octets-take n s o
    go false = octets-take 0 s o

-- the first of the images, and the others
images-on : (s : Bytes) (ns : List ℕ) (i n : ℕ) → i < length ns → n ≡ get_or ns i 0 → images_in s (drop i ns) ≡ image_in s n ∷ images_in (drop n s) (drop (suc i) ns)
unfolding images_in
images-on s ns i n h e = ap (images_in s) (drop-cons ns i 0 h ∙ ap (λ (m : ℕ). m ∷ drop (suc i) ns) (sym e))

-- ---- the clock
-- the latest of some time and of the runs to come
abbrev after : ℕ → Try (List Run) → Try ℕ
after c m = m >>= λ rs. go (max c (latest_of rs))

clock-after : (m : Try (List Run)) → clock_of m ≡ after 0 m
unfolding clock_of ◌>>=◌
clock-after (stop r) = refl
clock-after (go rs) = let z : latest_of rs ≡ max 0 (latest_of rs) = omega arith in ap {B = Try ℕ} (λ n. go n) z

after-good : (c k : ℕ) (x : Bytes) (xs : List Bytes) (r : Run) → verdict x ≡ paper.good r → after c (open_runs k (x ∷ xs)) ≡ after (max c (latest r)) (open_runs (suc k) xs)
unfolding open_runs ◌>>=◌ latest_of
after-good c k x xs r e = ap (λ v. after c (take_run k v >>= λ q. open_runs (suc k) xs >>= λ rs. go (q ∷ rs))) e ∙ more (open_runs (suc k) xs)
  where
    more : (m : Try (List Run)) → after c (m >>= λ rs. go (r ∷ rs)) ≡ after (max c (latest r)) m
    more (stop q) = refl
    more (go rs) = let z : max c (max (latest r) (latest_of rs)) ≡ max (max c (latest r)) (latest_of rs) = omega arith in ap {B = Try ℕ} (λ n. go n) z

after-bad : (c k : ℕ) (x : Bytes) (xs : List Bytes) (why : BadImage) → Err why ≡ told (verdict x) → after c (open_runs k (x ∷ xs)) ≡ stop (refused_for k why)
unfolding open_runs ◌>>=◌
after-bad c k x xs why = each why (verdict x)
  where
    each : (why : BadImage) (v : paper.Verdict) → Err why ≡ told v → after c (take_run k v >>= λ q. open_runs (suc k) xs >>= λ rs. go (q ∷ rs)) ≡ stop (refused_for k why)
    each why (paper.good r) e = cc
    each Broken paper.broken e = refl
    each Broken paper.foreign e = cc
    each Foreign paper.broken e = cc
    each Foreign paper.foreign e = refl

-- i images are passed, all good, and the rest is behind them
pub record Opening (s : Bytes) (ns : List ℕ) (rest : Bytes) (i clock : ℕ) : Type 0 where
  pub bytes : octets rest ≡ true
  pub same : clock_of (open_runs 1 (images_in s ns)) ≡ after clock (open_runs (i + 1) (images_in rest (drop i ns)))

pub open-start : (s : Bytes) (ns : List ℕ) → octets s ≡ true → Opening s ns s 0 0
open-start s ns o = record { bytes = o; same = clock-after (open_runs 1 (images_in s ns)) }

module _ (s : Bytes) (ns : List ℕ) (rest : Bytes) (i clock : ℕ) (so : Opening s ns rest i clock) where
  pub open_done : length ns ≤ i → go clock ≡ clock_of (open_runs 1 (images_in s ns))
  unfolding images_in open_runs ◌>>=◌ latest_of
  open_done h =
      let z : max clock 0 ≡ clock = omega arith in
      sym (so.same ∙ ap (λ (l : List ℕ). after clock (open_runs (i + 1) (images_in rest l))) (drop_of_length-le ns {i = i} h) ∙ ap {B = Try ℕ} (λ n. go n) z)

  module _ (l : i < length ns) (image : Bytes) (e : image ≡ image_in rest (get_or ns i 0)) where
    here : clock_of (open_runs 1 (images_in s ns)) ≡ after clock (open_runs (i + 1) (image ∷ images_in (drop (get_or ns i 0) rest) (drop (suc i) ns)))
    here =
        so.same ∙ ap (λ (xs : List Bytes). after clock (open_runs (i + 1) xs)) (images-on rest ns i (get_or ns i 0) l refl)
        ∙ ap (λ (x : Bytes). after clock (open_runs (i + 1) (x ∷ images_in (drop (get_or ns i 0) rest) (drop (suc i) ns)))) (sym e)

    pub open-bad : (why : BadImage) → Err why ≡ told (verdict image) → stop (refused_for (i + 1) why) ≡ clock_of (open_runs 1 (images_in s ns))
    open-bad why f = sym (here ∙ after-bad clock (i + 1) image _ why f)

    pub open_next : (t : ℕ) → Ok t ≡ told (verdict image) → (c : ℕ) → c ≡ max clock t → (behind : Bytes) → behind ≡ drop (get_or ns i 0) rest → Opening s ns behind (i + 1) c
    open_next t f c g behind b =
        let (r, v, k, h) = told-holds image t (ap octets e ∙ image-octets rest (get_or ns i 0) so.bytes) f in
        let m : c ≡ max clock (latest r) = g ∙ ap (max clock) k in
        let p : suc (i + 1) ≡ i + 1 + 1 = sym (add-one (i + 1)) in
        let q : suc i ≡ i + 1 = sym (add-one i) in
        record {
          bytes = ap octets b ∙ octets-drop (get_or ns i 0) rest so.bytes;
          same =
              here ∙ after-good clock (i + 1) image (images_in (drop (get_or ns i 0) rest) (drop (suc i) ns)) r v
              ∙ ap₂ (λ (x y : ℕ). after x (open_runs y (images_in (drop (get_or ns i 0) rest) (drop (suc i) ns)))) (sym m) p
              ∙ ap₂ (λ (u : Bytes) (y : ℕ). after c (open_runs (i + 1 + 1) (images_in u (drop y ns)))) (sym b) q;
        }

-- ---- the sum of the lengths
pub images-length : (s : Bytes) (ns : List ℕ) → length (images_in s ns) ≡ length ns
unfolding images_in
images-length s [] = refl
images-length s (n ∷ ns) = ap suc (images-length (drop n s) ns)

-- the bytes of i images are counted, and the rest is behind them
pub record Summing (s : Bytes) (ns : List ℕ) (rest : Bytes) (sum i : ℕ) : Type 0 where
  pub small : sum + length rest ≤ length s
  pub same : total length (images_in s ns) ≡ sum + total length (images_in rest (drop i ns))

-- a cut image has no bytes, and nothing follows it
image-short : (s : Bytes) (n : ℕ) → length (image_in s n) + length (drop n s) ≤ length s
image-short s n = go (leb n (length s)) refl
  where
    go : (b : Bool) → leb n (length s) ≡ b → length (cond b (take n s) []) + length (drop n s) ≤ length s
    go true e = omega (arith, length-take n s, length-drop n s, leb-true n (length s) e)
    go false e = omega (arith, length-drop n s)

module _ (s : Bytes) (ns : List ℕ) (rest : Bytes) (sum i : ℕ) (so : Summing s ns rest sum i) where
  pub sum_done : length ns ≤ i → Total s ns sum
  unfolding images_in total
  sum_done h =
      let z : sum + 0 ≡ sum = omega arith in
      record {
        sum = sym (so.same ∙ ap (λ (l : List ℕ). sum + total length (images_in rest l)) (drop_of_length-le ns {i = i} h) ∙ z);
        small = omega (arith, so.small);
      }

  module _ (l : i < length ns) (image : Bytes) (e : image ≡ image_in rest (get_or ns i 0)) (behind : Bytes) (b : behind ≡ drop (get_or ns i 0) rest) where
    short : length image + length behind ≤ length rest
    short = omega (arith, image-short rest (get_or ns i 0), ap (λ (x : Bytes). length x) e, ap (λ (x : Bytes). length x) b)

    pub sum-next : Summing s ns behind (sum + length image) (i + 1)
    unfolding total
    sum-next =
        let q : suc i ≡ i + 1 = sym (add-one i) in
        let v = so.same ∙ ap (λ (xs : List Bytes). sum + total length xs) (images-on rest ns i (get_or ns i 0) l refl) in
        let z = ap₂ (λ (u : Bytes) (j : ℕ). total length (images_in u (drop j ns))) (sym b) q in
        record { small = omega (arith, so.small, short); same = v ∙ omega (arith, ap (λ (x : Bytes). length x) e, z) }

module _ (s : Bytes) (ns : List ℕ) (area : ℕ) where
  pub fit-many : 16 < length ns → FitTold s ns area (leb (length ns) 16)
  fit-many h = λ st w. lt-leb (length ns) 16 h ∙ sym (ap (λ (b : Bool). b && leb (total length (images_in s ns)) st.area_bytes) (lt-leb (length (images_in s ns)) most_runs (omega (arith, images-length s ns))))

  pub fit-total : length ns ≤ 16 → (t : ℕ) → t ≡ total length (images_in s ns) → FitTold s ns area (leb t area)
  fit-total h t e =
      λ st w.
      ap₂ leb e (sym w)
      ∙ sym (ap (λ (b : Bool). b && leb (total length (images_in s ns)) st.area_bytes) (le-leb (length (images_in s ns)) most_runs (omega (arith, images-length s ns))))

-- ---- what the answers say to an opening
module _ (s : Bytes) (ns : List ℕ) where
  -- the runs, and their clock
  pub opened-good : (clock : ℕ) → go clock ≡ clock_of (open_runs 1 (images_in s ns)) → (open_runs 1 (images_in s ns) ≡ go (runs_in s ns)) × (good_images s ns ≡ true) × (clock ≡ latest_of (runs_in s ns))
  unfolding clock_of ◌>>=◌ runs_in good_images
  opened-good clock = with_all (open_runs 1 (images_in s ns))
    where
      with_all : (m : Try (List Run)) → go clock ≡ clock_of m → (m ≡ go (runs_or m)) × (passes m ≡ true) × (clock ≡ latest_of (runs_or m))
      with_all (stop r) e = cc
      with_all (go rs) e = (refl, refl, cc)

  pub opened-bad : (r : Refusal) → stop r ≡ clock_of (open_runs 1 (images_in s ns)) → open_runs 1 (images_in s ns) ≡ stop r
  unfolding clock_of ◌>>=◌
  opened-bad r = with_all (open_runs 1 (images_in s ns))
    where
      with_all : (m : Try (List Run)) → stop r ≡ clock_of m → m ≡ stop r
      with_all (stop q) e = cc
      with_all (go rs) e = cc
