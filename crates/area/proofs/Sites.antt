-- Where the runs of a sound state lie in its bytes: the active run's records, and the images of the others.
-- Assumes nothing.
use native.Mathlib.Omega.{arith}
use mathlib.Core.Path.{◌≡◌, sym, ap, ◌∙◌, subst}
use mathlib.Core.Bool.{Bool, true}
use mathlib.Core.Option.{some}
use mathlib.Core.List.{List, ◌++◌, append_assoc, reverse}
use Prim.Native.Nat.{ℕ, ◌+◌, ◌-◌, ◌≤◌}
use lib.ListN.{length, take, drop}
use lib.Seq.{take_at}
use borrow.Author.Tests.{leb-true}
use Rattle.paper.specs.Lists.{all}
use Rattle.paper.specs.Keys.{Bytes, octets}
use Rattle.paper.specs.Runs.{Run}
use Rattle.paper.specs.Image.{big_endian, records_bytes, number_from, storable, is_whole}
use Rattle.paper.specs.Settings.{Settings, most_runs}
use Rattle.paper.specs.Store.{Store, frozen_of}
use Rattle.paper.specs.Sound.{run_rules}
use Rattle.paper.proofs.Alls.{rule}
use Rattle.paper.proofs.SoundLaws.{rules}
use Rattle.paper.proofs.ImageLaws.{length-big_endian}
use Rattle.raw.specs.Bytes.{part}
use Rattle.raw.proofs.Parts.{take_part}
use Rattle.key.specs.Versions.{versions, packed}
use Rattle.key.proofs.Packed.{versions-records}
use Rattle.layout.specs.Codec.{Whole, many, sized, room}
use Rattle.layout.specs.Offsets.{start_active, width_active, start_area, width_area}
use Rattle.layout.specs.Layout.{version_stream, images_whole, active_slot, frozen_slot, store_in, sound_state}
use Rattle.layout.proofs.Streams.{Below, All}
use Rattle.layout.proofs.LayoutLaws.{OkSized, Fits}
use Rattle.layout.proofs.Sizes.{sized-long}
use Rattle.layout.proofs.Sides.{Has, room-put, room-form}
use Rattle.layout.proofs.Lies.{Laid, laid}
use Rattle.layout.proofs.Places.{number_of}
use Rattle.layout.proofs.Changes.{places-end}
use Rattle.layout.proofs.StoreLaws.{read_fits}
use Rattle.layout.proofs.SoundState.{sound-read, sound-in}
use Rattle.settings.specs.declared.Shape.{Shape}
use Rattle.settings.proofs.Shapes.{Shaped}
use Rattle.settings.proofs.Reading.{Ready, sound-ready}
use Rattle.run.proofs.Judging.{whole_is, is-whole}
use Rattle.area.specs.Spread.{Sited}
use Rattle.area.proofs.RunsSound.{sound-whole}
use Rattle.area.proofs.ActiveLaws.{put-records, all-storable}
use Rattle.area.proofs.AreaLaws.{whole-images}

-- a value with the number of its bytes in front of it, at an offset
pub record Stands {A : Type 0} (W : Whole A) (s : Bytes) (at : ℕ) (a : A) : Type 0 where
  pub size : number_from 0 (part s at 8) ≡ length (W.form a)
  pub bytes : part s (at + 8) (length (W.form a)) ≡ W.form a

stands : {A : Type 0} (w : ℕ) (W : Whole A) (s : Bytes) (at : ℕ) (a : A) → Has (room w (sized 8 W)) (part s at w) a → Below 8 (length (W.form a)) → length ((sized 8 W).put a) ≤ w → Stands W s at a
unfolding sized
stands w W s at a h k l =
    let n : Bytes = big_endian 8 (length (W.form a)) in
    let f : Bytes = W.form a in
    let r : Bytes = drop (length (n ++ f)) (part s at w) in
    let m : 8 + length f ≤ w = subst (λ (i : ℕ). i ≤ w) (sized-long W 8 a) l in
    let e : part s at w ≡ n ++ (f ++ r) = room-put w (sized 8 W) (part s at w) a h ∙ append_assoc n f r in
    record {
      size = ap (number_from 0) (sym (take_part s at w 8 (omega arith)) ∙ ap (take 8) e ∙ take_at n (f ++ r) 8 (length-big_endian 8 (length f))) ∙ number_of (length f) k;
      bytes = room-form w W s at a h m;
    }

-- the active run a from `active` on, and the frozen and opening runs fs from `area` on, which is behind it
pub record Sites (s : Bytes) (active area : ℕ) (a : Run) (fs : List Run) : Type 0 where
  pub run : Stands (many version_stream) s active a
  pub before : active + 8 + length (records_bytes a) ≤ area
  pub rising : is_whole a ≡ true
  pub storables : all storable a ≡ true
  pub whole : packed (records_bytes a) ≡ true
  pub read : versions (records_bytes a) ≡ a
  pub images : Stands images_whole s area fs
  pub ends : area + 8 + length (images_whole.form fs) ≤ length s
  pub good : All OkSized (reverse fs)
  pub few : length fs ≤ 16

module _ (b : Bytes) (o : octets b ≡ true) (h : sound_state b ≡ true) where
  s : Store
  s = store_in b

  at-offsets : Sites b (start_active (store_in b).settings) (start_area (store_in b).settings) (store_in b).active (frozen_of (store_in b))
  unfolding s active_slot frozen_slot run_rules
  at-offsets =
      let st : Settings = s.settings in
      let e = sound-read b h in
      let l : Laid b s = laid b s o e in
      let f : Fits s = read_fits b s o e in
      let r = (rules s (sound-in b h)).runs in
      let u : List Bool = run_rules st s.clock s.active (frozen_of s) in
      let z = places-end st in
      let en = l.enough in
      let ns : all storable s.active ≡ true = all-storable s.active f.active.0.0 in
      let i = sound-whole s.clock s.active (rule 0 u r) in
      let w = is-whole s.active i ns in
      let n : length (records_bytes s.active) + 8 ≤ width_active st = omega (arith, f.active.1, sized-long (many version_stream) 8 s.active, ap (λ (x : Bytes). length x) (put-records s.active)) in
      let m : length (images_whole.form (frozen_of s)) + 8 ≤ width_area st = omega (arith, f.frozen.1, sized-long images_whole 8 (frozen_of s)) in
      record {
        run = stands (width_active st) (many version_stream) b (start_active st) s.active l.active f.active.0.1 f.active.1;
        before = omega arith;
        rising = i;
        storables = ns;
        whole = (whole_is (records_bytes s.active) w).0;
        read = versions-records s.active ns;
        images = stands (width_area st) images_whole b (start_area st) (frozen_of s) l.frozen f.frozen.0.1 f.frozen.1;
        ends = omega arith;
        good = f.frozen.0.0;
        few = leb-true (length (frozen_of s)) most_runs (rule 4 u r);
      }

  pub sites : (active area : ℕ) → Sited b active area → Sites b active area (store_in b).active (frozen_of (store_in b))
  sites active area g =
      subst (λ (i : ℕ). Sites b i area (store_in b).active (frozen_of (store_in b))) (sym g.active-at)
      (subst (λ (i : ℕ). Sites b (start_active (store_in b).settings) i (store_in b).active (frozen_of (store_in b))) (sym g.area-at) at-offsets)

-- ---- the images read as they were written
module _ (s : Bytes) (active area : ℕ) (a : Run) (fs : List Run) (there : Sites s active area a fs) (n : ℕ) (e : n ≡ number_from 0 (part s area 8)) where
  pub area-used : n ≡ length (images_whole.form fs)
  area-used = e ∙ there.images.size

  pub area-read : images_whole.parse (part s (area + 8) (area + 8 + n - (area + 8))) ≡ some fs
  area-read =
      let z : area + 8 + n - (area + 8) ≡ length (images_whole.form fs) = omega (arith, area-used) in
      ap images_whole.parse (ap (part s (area + 8)) z ∙ there.images.bytes) ∙ whole-images.back fs there.good

-- ---- from what the check of the settings and their shape say
pub ready-sited : (b : Bytes) (st : Settings) (z : Shape) → sound_state b ≡ true → Ready b st → Shaped st z → Sited b z.active z.area
ready-sited b st z h r w =
    let e : some (store_in b).settings ≡ some st = sym (sound-ready b h).read ∙ r.read in
    let f : st ≡ (store_in b).settings = cc in
    record { sound = h; active-at = w.active ∙ ap start_active f; area-at = w.area ∙ ap start_area f }
