-- The run area's part of a state: its images one after the other, and what they and their number decide.
-- Assumes nothing.
use native.Mathlib.Omega.{arith}
use Rattle.std.specs.Prelude as std
use Rattle.std.specs.Prelude.{Some, None}
use Rattle.std.specs.Bool.{then_some}
use Rattle.std.specs.Option.{option_partial_cmp}
use Rattle.std.specs.Ordering.{nat_cmp, partial_lt, as_partial_cmp}
use mathlib.Core.Path.{◌≡◌, refl, sym, ap, ◌∙◌, subst}
use mathlib.Core.Bool.{Bool, true, false, not, cond, ◌&&◌}
use mathlib.Core.Option.{Option, none, some}
use mathlib.Core.List.{List, [], ◌∷◌, reverse, reverse_aux, reverse-reverse}
use Prim.Native.Nat.{ℕ, ◌+◌, ◌*◌, ◌-◌, ◌≤◌, ◌<◌}
use lib.ListN.{length}
use lib.Dec.{leb, ltb, eqb, lit<}
use borrow.Author.Tests.{le-leb, lt-leb, leb-true, leb-false, lt-ltb, le-ltb, eqb-true, eqb-false}
use Rattle.paper.specs.Lists.{all, is_empty, join}
use Rattle.paper.specs.Keys.{Bytes, octets}
use Rattle.paper.specs.Runs.{Run}
use Rattle.paper.specs.Image.{big_endian, records_bytes, image_of}
use Rattle.paper.specs.Settings.{Settings, most_runs}
use Rattle.paper.specs.Store.{area_size, latest, latest_of}
use Rattle.paper.specs.Sound.{sound_run}
use Rattle.paper.specs.Room.{runs_fit}
use Rattle.paper.proofs.ImageBack.{verdict-read, octets-left, octets-right}
use Rattle.raw.proofs.Octets.{octets-part, octets-drop}
use Rattle.layout.specs.Codec.{put_all, many, sized, plain, whole_via, map_option, cons_of, first_of, room}
use Rattle.layout.specs.Offsets.{width_area}
use Rattle.layout.specs.Layout.{image, images_whole, frozen_slot}
use Rattle.layout.proofs.Streams.{StreamLaws, WholeLaws, Formed, All, sized-laws, many-laws, whole_via-laws}
use Rattle.layout.proofs.Images.{OkImage, image-laws}
use Rattle.layout.proofs.LayoutLaws.{OkSized}
use Rattle.layout.proofs.Sizes.{sized-put, images-form}
use Rattle.settings.specs.Parts.{holds_of, or_empty, area_ok}
use Rattle.run.specs.Writing.{head_bytes}
use Rattle.run.proofs.Writing.{image-parts}
use Rattle.area.specs.Told.{Split, latest_in, others_of, with_run, area_told, images_told}
use Rattle.area.specs.declared.check.Others.{Others}
use Rattle.layout.proofs.Many.{many-end, many-step, many-cut}
use Rattle.area.proofs.Sizing.{first-lift, sized-none, sized-some}
use Rattle.area.proofs.Imaging.{Imaged}
use Rattle.area.proofs.Newer.{less-is}
use Rattle.area.proofs.RunsSound.{Sturdy, runs-in-time}
use Rattle.area.proofs.Known.{run_latest, latest-join, beyond, beyond-none, beyond-on, all-beyond, others-reverse}

-- ---- the images, as they lie and in run order
pub sized-image : StreamLaws (sized 8 image) OkSized
sized-image = sized-laws 8 (lit< tt) image-laws

pub whole-images : WholeLaws images_whole (λ rs. All OkSized (reverse rs))
unfolding images_whole
whole-images = whole_via-laws (many-laws sized-image) reverse reverse reverse-reverse reverse-reverse

-- as they lie
abbrev pub lying : Bytes → Option (List Run)
lying x = (many (sized 8 image)).parse x

-- what is told of those that follow runs that are known
abbrev pub beyond_told : Others → Option (List Run) → std.Option Others
beyond_told o none = None
beyond_told o (some rs) = Some (beyond o rs)

told-lying : (x : Bytes) → images_told (images_whole.parse x) ≡ beyond_told (others_of []) (lying x)
unfolding images_whole whole_via
told-lying x = go (lying x)
  where
    go : (o : Option (List Run)) → images_told (map_option reverse o) ≡ beyond_told (others_of []) o
    go none = refl
    go (some rs) = ap Some (others-reverse rs ∙ sym (all-beyond rs))

told-on : (o : Others) (r : Run) (q : Option (List Run)) → beyond_told o (cons_of (some r) q) ≡ beyond_told (with_run o (run_latest r)) q
told-on o r none = refl
told-on o r (some rs) = ap Some (beyond-on o r rs)

-- ---- the loop: what is told of all images is what is told of those that are left, the ones before them being known
pub record Passing (images : Bytes) (known : Others) (rest : Bytes) : Type 0 where
  pub bytes : octets rest ≡ true
  pub few : known.count + length rest ≤ length images
  pub same : images_told (images_whole.parse images) ≡ beyond_told known (lying rest)

pub pass-start : (images : Bytes) (known : Others) → octets images ≡ true → known ≡ others_of [] → Passing images known images
unfolding others_of
pass-start images known o e =
    record {
      bytes = o;
      few = omega (arith, ap (λ (k : Others). k.count) e);
      same = told-lying images ∙ ap (λ (k : Others). beyond_told k (lying images)) (sym e);
    }

module _ (images : Bytes) (known : Others) (rest : Bytes) (so : Passing images known rest) where
  pub pass-done : eqb (length rest) 0 ≡ true → Some known ≡ images_told (images_whole.parse images)
  pass-done h = sym (so.same ∙ ap (beyond_told known) (many-end sized-image rest (eqb-true (length rest) 0 h)) ∙ ap Some (beyond-none known))

  module _ (some-left : eqb (length rest) 0 ≡ false) where
    l : 0 < length rest
    l = let n = eqb-false (length rest) 0 some-left in omega arith

    pub pass-wrong : (sized 8 image).get rest ≡ none → None ≡ images_told (images_whole.parse images)
    pass-wrong e = sym (so.same ∙ ap (beyond_told known) (many-cut sized-image rest l e))

    module _ (image behind : Bytes) (s : Split rest image behind) (time : std.Option ℕ) (read : Imaged rest behind time) where
      pub pass-next : (k : Others) → k ≡ with_run known time → Passing images k behind
      pass-next k e =
          record {
            bytes = ap octets s.behind ∙ octets-drop (8 + length image) rest so.bytes;
            few = omega (arith, so.few, s.size, ap (λ (x : Others). x.count) e);
            same =
                so.same ∙ ap (beyond_told known) (many-step sized-image rest read.run behind so.bytes l read.read) ∙ told-on known read.run (lying behind)
                ∙ ap (λ (t : std.Option ℕ). beyond_told (with_run known t) (lying behind)) (sym read.last)
                ∙ ap (λ (x : Others). beyond_told x (lying behind)) (sym e);
          }

-- ---- runs that were read are as bytes hold them
sturdy : (r : Run) → OkImage r → octets (image_of r) ≡ true → Sturdy r
sturdy r k o =
    let w = verdict-read (image_of r) r o k in
    record {
      whole = w.1;
      fits = w.2;
      bytes = octets-right (head_bytes (length r)) (records_bytes r) (ap octets (sym (image-parts r)) ∙ o);
    }

all-sturdy : (rs : List Run) → All OkSized rs → octets (put_all (sized 8 image) rs) ≡ true → All Sturdy rs
unfolding put_all image
all-sturdy [] k o = tt
all-sturdy (r ∷ rs) k o =
    let p : octets ((sized 8 image).put r) ≡ true = octets-left ((sized 8 image).put r) (put_all (sized 8 image) rs) o in (
      sturdy r k.0.0 (octets-right (big_endian 8 (length (image.form r))) (image.form r) (ap octets (sym (sized-put image 8 r)) ∙ p)),
      all-sturdy rs k.1 (octets-right ((sized 8 image).put r) (put_all (sized 8 image) rs) o),
    )

pub all-turned : {A : Type 0} (P : A → Type 0) (xs ys : List A) → All P xs → All P ys → All P (reverse_aux xs ys)
all-turned P [] ys p q = q
all-turned P (x ∷ xs) ys p q = all-turned P xs (x ∷ ys) p.1 (p.0, q)

module _ (x : Bytes) (o : octets x ≡ true) where
  -- as many bytes as their sizes and their lengths take
  record Formed-of (fs : List Run) : Type 0 where
    holds : All Sturdy fs
    size : 8 * length fs + area_size fs ≡ length x

  formed : (q : Option (List Run)) → Formed images_whole.form (λ rs. All OkSized (reverse rs)) x q → (fs : List Run) → q ≡ some fs → Formed-of fs
  unfolding images_whole whole_via many
  formed none f fs e = cc
  formed (some rs) f fs e =
      let g : rs ≡ fs = cc in
      subst Formed-of g
      (record {
        holds = subst (All Sturdy) (reverse-reverse rs) (all-turned Sturdy (reverse rs) [] (all-sturdy (reverse rs) f.1 (ap octets (sym f.0) ∙ o)) tt);
        size = sym (ap (λ (b : Bytes). length b) f.0 ∙ images-form rs);
      })

  read-formed : (fs : List Run) → images_whole.parse x ≡ some fs → Formed-of fs
  read-formed fs e = formed (images_whole.parse x) (whole-images.again x o) fs e

-- what the check of the images says of them
abbrev pub Says : Bytes → std.Option Others → Type 0
Says x (Some k) = (fs : List Run) × (images_whole.parse x ≡ some fs) × (k ≡ others_of fs)
Says x None = images_whole.parse x ≡ none

pub says : (x : Bytes) (r : std.Option Others) → r ≡ images_told (images_whole.parse x) → Says x r
says x r e = go (images_whole.parse x) refl r e
  where
    go : (q : Option (List Run)) → images_whole.parse x ≡ q → (r : std.Option Others) → r ≡ images_told q → Says x r
    go none h (Some k) e = cc
    go none h None e = h
    go (some fs) h (Some k) e = (fs, h, cc)
    go (some fs) h None e = cc

-- ---- the part
-- not after the clock, as nothing is
abbrev pub in_time : std.Option ℕ → ℕ → Bool
in_time None clock = true
in_time (Some t) clock = leb t clock

-- the code's test that the clock is before the latest
late-test : (clock : ℕ) (t : std.Option ℕ) → partial_lt (option_partial_cmp (as_partial_cmp nat_cmp)) (Some clock) t ≡ not (in_time t clock)
late-test clock None = refl
late-test clock (Some t) = less-is clock t ∙ go (leb t clock) refl
  where
    go : (b : Bool) → leb t clock ≡ b → ltb clock t ≡ not b
    go true e = le-ltb clock t (leb-true t clock e)
    go false e = lt-ltb clock t (leb-false t clock e)

pub late-is : (clock : ℕ) (t : std.Option ℕ) (b : Bool) → b ≡ partial_lt (option_partial_cmp (as_partial_cmp nat_cmp)) (Some clock) t → in_time t clock ≡ not b
late-is clock t b e = go (in_time t clock) b (e ∙ late-test clock t)
  where
    go : (p b : Bool) → b ≡ not p → p ≡ not b
    go true true h = cc
    go true false h = refl
    go false true h = refl
    go false false h = cc

latest-in-time : (rs : List Run) (clock : ℕ) → leb (latest_of rs) clock ≡ in_time (latest_in rs) clock
unfolding latest
latest-in-time rs clock = go (join rs) (latest-join rs)
  where
    go : (ws : Run) → latest_of rs ≡ latest ws → leb (latest_of rs) clock ≡ in_time (then_some (not (is_empty ws)) (latest_of rs)) clock
    go [] e = le-leb (latest_of rs) clock (omega (arith, e))
    go (w ∷ ws) e = refl

module _ (q : Bytes) (clock : ℕ) (o : octets q ≡ true) (wide : 136 ≤ length q) (st : Settings) (w : width_area st ≡ length q) where
  test : List Run → Bool
  test rs = all (sound_run clock) rs && runs_fit st rs

  told-as : (t : Bool) → area_ok st clock q ≡ t → area_told st clock q ≡ cond t (Some (others_of (or_empty ((frozen_slot st).read q)))) None
  unfolding area_told
  told-as t h = ap (λ (b : Bool). cond b (Some (others_of (or_empty ((frozen_slot st).read q)))) None) h

  ok-as : (p : Option (List Run)) → (frozen_slot st).read q ≡ p → area_ok st clock q ≡ holds_of p test
  unfolding area_ok test
  ok-as p f = ap (λ (r : Option (List Run)). holds_of r (λ rs. all (sound_run clock) rs && runs_fit st rs)) f

  -- more bytes are in use than there are
  pub area-cut : (sized 8 plain).get q ≡ none → None ≡ area_told st clock q
  unfolding frozen_slot room
  area-cut e = sym (told-as false (ok-as none (ap first_of (sized-none images_whole q e))))

  module _ (x r : Bytes) (s : Split q x r) where
    read_is : (frozen_slot st).read q ≡ images_whole.parse x
    unfolding frozen_slot room
    read_is = ap first_of (sized-some images_whole q x r s.read) ∙ first-lift (images_whole.parse x) r

    bytes-there : octets x ≡ true
    bytes-there = ap octets s.here ∙ octets-part q 8 (length x) o

    pub area-broken : images_whole.parse x ≡ none → None ≡ area_told st clock q
    area-broken h = sym (told-as false (ok-as none (read_is ∙ h)))

    module _ (k : Others) (read : Says x (Some k)) where
      fs : List Run
      fs = read.0

      known : k ≡ others_of fs
      unfolding fs
      known = read.2

      count : k.count ≡ length fs
      unfolding others_of
      count = ap (λ (u : Others). u.count) known

      size : 8 * length fs + area_size fs ≡ length x
      unfolding fs
      size = (read-formed x bytes-there read.0 read.1).size

      ok-is : area_ok st clock q ≡ in_time k.latest clock && (leb (length fs) most_runs && leb (area_size fs) st.area_bytes)
      unfolding test fs others_of
      ok-is =
          ok-as (some fs) (read_is ∙ read.1)
          ∙ ap (λ (b : Bool). b && runs_fit st fs) (runs-in-time clock fs (read-formed x bytes-there read.0 read.1).holds ∙ latest-in-time fs clock ∙ sym (ap (λ (u : Others). in_time u.latest clock) known))

      -- a version is later than the clock
      pub area-late : in_time k.latest clock ≡ false → None ≡ area_told st clock q
      area-late m = sym (told-as false (ok-is ∙ ap (λ (b : Bool). b && (leb (length fs) most_runs && leb (area_size fs) st.area_bytes)) m))

      module _ (t : in_time k.latest clock ≡ true) where
        ok-then : area_ok st clock q ≡ leb (length fs) most_runs && leb (area_size fs) st.area_bytes
        ok-then = ok-is ∙ ap (λ (b : Bool). b && (leb (length fs) most_runs && leb (area_size fs) st.area_bytes)) t

        -- 'a 17th run'
        pub area-many : 16 < k.count → None ≡ area_told st clock q
        area-many m = sym (told-as false (ok-then ∙ ap (λ (b : Bool). b && leb (area_size fs) st.area_bytes) (lt-leb (length fs) most_runs (omega (arith, count)))))

        module _ (m : k.count ≤ 16) where
          ok-last : area_ok st clock q ≡ leb (area_size fs) st.area_bytes
          ok-last = ok-then ∙ ap (λ (b : Bool). b && leb (area_size fs) st.area_bytes) (le-leb (length fs) most_runs (omega (arith, count)))

          -- 'run area (whole images) too small'
          pub area-full : length q - 136 + 8 * k.count < length x → None ≡ area_told st clock q
          area-full h = sym (told-as false (ok-last ∙ lt-leb (area_size fs) st.area_bytes (omega (arith, count, size))))

          pub area-good : length x ≤ length q - 136 + 8 * k.count → Some k ≡ area_told st clock q
          unfolding fs
          area-good h =
              let f : k ≡ others_of (or_empty ((frozen_slot st).read q)) = known ∙ sym (ap (λ (p : Option (List Run)). others_of (or_empty p)) (read_is ∙ read.1)) in
              ap Some f ∙ sym (told-as true (ok-last ∙ le-leb (area_size fs) st.area_bytes (omega (arith, count, size))))
