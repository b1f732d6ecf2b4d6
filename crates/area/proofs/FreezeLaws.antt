-- The active run frozen: whether there is room, and the bytes that are written.
-- Assumes nothing.
use native.Mathlib.Omega.{arith}
use mathlib.Core.Path.{◌≡◌, refl, sym, ap, ap₂, ◌∙◌, subst}
use mathlib.Core.Bool.{Bool, true, ◌&&◌}
use mathlib.Core.List.{List, [], ◌∷◌, ◌++◌, reverse, reverse-reverse}
use Prim.Native.Nat.{ℕ, suc, ◌+◌, ◌*◌, ◌-◌, ◌≤◌, ◌<◌}
use lib.ListN.{length, length-append}
use lib.Dec.{leb, ltb, eqb}
use borrow.Author.Tests.{le-leb, lt-leb, le-ltb, leb-true, ne_eqb}
use Rattle.paper.specs.Lists.{total, is_empty, is_some}
use mathlib.Core.Option.{Option, some}
use Rattle.paper.specs.Keys.{Bytes, octets}
use Rattle.paper.specs.Runs.{Run, version_size, run_size}
use Rattle.paper.specs.Image.{big_endian, image_of, number_from}
use Rattle.paper.specs.Settings.{Settings, most_runs}
use Rattle.paper.specs.Store.{Store, frozen_of, runs_of, image_size, area_size, with_frozen}
use Rattle.paper.specs.Room.{runs_fit}
use Rattle.paper.specs.Calls.{frozen_store}
use Rattle.paper.proofs.Bools.{and_left, and_right}
use Rattle.paper.proofs.ImageLaws.{verdict-image, length-big_endian}
use Rattle.raw.specs.Bytes.{part, over}
use Rattle.raw.proofs.Over.{over-before, over-swap}
use Rattle.key.specs.Versions.{versions, packed}
use Rattle.layout.specs.Codec.{sized}
use Rattle.layout.specs.Offsets.{start_active, start_area}
use Rattle.layout.specs.Layout.{version_stream, image, images_whole, store_in, write_store}
use Rattle.layout.proofs.Streams.{All}
use Rattle.layout.proofs.LayoutLaws.{OkSized, OkActive, OkFrozen, Fits}
use Rattle.layout.proofs.Sizes.{run-form, run_long, image-long, images-form, images-long, images-cons, sized-long, sized-put, listed-none}
use Rattle.layout.proofs.Lies.{laid}
use Rattle.layout.proofs.Changes.{places-end, write-active, fits-frozen}
use Rattle.layout.proofs.Inside.{change-freeze}
use Rattle.layout.proofs.StoreLaws.{read_fits}
use Rattle.layout.proofs.SoundFits.{sound-ranged}
use Rattle.layout.proofs.SoundState.{sound-read, sound-in, sound-enough}
use Rattle.area.specs.Spread.{Sited}
use Rattle.area.proofs.ActiveLaws.{put-records}
use Rattle.area.proofs.AreaLaws.{all-turned}
use Rattle.area.proofs.Sites.{Sites, sites, area-used, area-read}
use Rattle.settings.specs.Parts.{or_empty}
use Rattle.area.proofs.Placing.{records-are, used-is}

few-versions : (r : Run) → 12 * length r ≤ run_size r
unfolding run_size total version_size
few-versions [] = omega arith
few-versions (v ∷ r) = let h = few-versions r in omega arith

-- an empty active run
none-ok : (st : Settings) → OkActive st []
unfolding run_size total
none-ok st = ((tt, omega (arith, run-form [])), omega (arith, run_long []))

module _ (b : Bytes) (o : octets b ≡ true) (active area : ℕ) (g : Sited b active area) where
  s : Store
  s = store_in b

  st : Settings
  st = (store_in b).settings

  a : Run
  a = (store_in b).active

  fs : List Run
  fs = frozen_of (store_in b)

  pub there : Sites b active area (store_in b).active (frozen_of (store_in b))
  there = sites b o g.sound active area g

  module _ (u : ℕ) (e : u ≡ number_from 0 (part b active 8)) where
    used : u ≡ run_size a
    unfolding a
    used = used-is b active area there u e ∙ sym (ap (λ (x : Bytes). length x) (put-records (store_in b).active)) ∙ run-form (store_in b).active

    -- no bytes, no version
    pub empty-is : eqb u 0 ≡ is_empty (store_in b).active
    unfolding a run_size total version_size
    empty-is = ap (λ (n : ℕ). eqb n 0) used ∙ go (store_in b).active
      where
        go : (r : Run) → eqb (run_size r) 0 ≡ is_empty r
        go [] = refl
        go (v ∷ vs) = ne_eqb (version_size v + total version_size vs) 0 (λ z. omega arith)

    pub run-packed : packed (part b (active + 8) (active + 8 + u - (active + 8))) ≡ true
    run-packed = ap packed (records-are b active area there u e) ∙ there.whole

    pub run_inside : active + 8 + u ≤ area
    run_inside = omega (arith, used-is b active area there u e, there.before)

    module _ (m : ℕ) (f : m ≡ number_from 0 (part b area 8)) where
      filled : m ≡ 8 * length fs + area_size fs
      unfolding fs
      filled = area-used b active area (store_in b).active (frozen_of (store_in b)) there m f ∙ images-form (frozen_of (store_in b))

      pub area-inside : area + 8 + m ≤ length b
      area-inside = omega (arith, area-used b active area (store_in b).active (frozen_of (store_in b)) there m f, there.ends)

      -- the images of the used bytes
      pub area-reads : images_whole.parse (part b (area + 8) (area + 8 + m - (area + 8))) ≡ some (frozen_of (store_in b))
      area-reads = area-read b active area (store_in b).active (frozen_of (store_in b)) there m f

      pub area-counts : is_some (images_whole.parse (part b (area + 8) (area + 8 + m - (area + 8)))) ≡ true
      area-counts = ap is_some area-reads

      pub counted-all : (c : ℕ) → c ≡ length (or_empty (images_whole.parse (part b (area + 8) (area + 8 + m - (area + 8))))) → c ≡ length (frozen_of (store_in b))
      counted-all c k = k ∙ ap (λ (o : Option (List Run)). length (or_empty o)) area-reads

      pub counted-few : (c : ℕ) → c ≡ length (or_empty (images_whole.parse (part b (area + 8) (area + 8 + m - (area + 8))))) → c ≤ 16
      counted-few c k = omega (arith, counted-all c k, there.few)

      -- ---- the room
      module _ (c : ℕ) (k : c ≡ length (frozen_of (store_in b))) where
        pub counted-inside : 8 * c ≤ m
        unfolding fs
        counted-inside = omega (arith, filled)

        -- 'a 17th run'
        pub fit-seventeen : 16 ≤ c → ltb c 16 ≡ runs_fit (store_in b).settings (runs_of (store_in b))
        fit-seventeen h = le-ltb c 16 h ∙ sym (ap (λ (t : Bool). t && leb (area_size (runs_of (store_in b))) (store_in b).settings.area_bytes) (lt-leb (length (runs_of (store_in b))) most_runs (omega arith)))

        -- 'run area (whole images) too small'
        pub fit-room : c < 16 → (room : ℕ) → room ≡ (store_in b).settings.area_bytes → leb (9 + u + (area + 8 + m - (area + 8) - 8 * c)) room ≡ runs_fit (store_in b).settings (runs_of (store_in b))
        unfolding a fs area_size total image_size
        fit-room h room w =
            let z : 9 + u + (area + 8 + m - (area + 8) - 8 * c) ≡ area_size (runs_of (store_in b)) = omega (arith, used, filled) in
            ap₂ leb z w
            ∙ sym (ap (λ (t : Bool). t && leb (area_size (runs_of (store_in b))) (store_in b).settings.area_bytes) (le-leb (length (runs_of (store_in b))) most_runs (omega arith)))

      -- ---- what is written
      module _ (h : runs_fit (store_in b).settings (runs_of (store_in b)) ≡ true) where
        count_fits : suc (length fs) ≤ 16
        unfolding fs
        count_fits = leb-true (length (runs_of (store_in b))) most_runs (and_left (leb (length (runs_of (store_in b))) most_runs) (leb (area_size (runs_of (store_in b))) (store_in b).settings.area_bytes) h)

        large : image_size a + area_size fs ≤ st.area_bytes
        unfolding a fs st area_size total
        large = leb-true (area_size (runs_of (store_in b))) (store_in b).settings.area_bytes (and_right (leb (length (runs_of (store_in b))) most_runs) (leb (area_size (runs_of (store_in b))) (store_in b).settings.area_bytes) h)

        limit : st.area_bytes ≤ 16_777_216
        unfolding st
        limit = (sound-ranged (store_in b) (sound-in b g.sound)).area_bytes.1

        -- the image lies in the run area
        pub image-inside : area + 8 + m + (17 + u) ≤ length b
        unfolding a st image_size
        image-inside = omega (arith, used, filled, count_fits, large, places-end (store_in b).settings, sound-enough b g.sound, g.area-at)

        image-ok : OkSized (store_in b).active
        unfolding a st image_size
        image-ok = (
          verdict-image (store_in b).active there.rising there.storables (omega (arith, few-versions (store_in b).active, large, limit)),
          omega (arith, image-long (store_in b).active, large, limit),
        )

        frozen-ok : OkFrozen (store_in b).settings (runs_of (store_in b))
        unfolding a fs st area_size total
        frozen-ok =
            let all_of : All OkSized (frozen_of (store_in b)) = subst (All OkSized) (reverse-reverse (frozen_of (store_in b))) (all-turned OkSized (reverse (frozen_of (store_in b))) [] there.good tt) in
            let n = images-form (runs_of (store_in b)) in
            let k = images-long (runs_of (store_in b)) in
            ((all-turned OkSized (frozen_of (store_in b)) ((store_in b).active ∷ []) all_of (image-ok, tt), omega (arith, count_fits, large, limit)), omega (arith, count_fits, large))

        -- the store with the run frozen, part by part
        written : write_store (frozen_store (store_in b)) b
            ≡ over (over (over b (start_area (store_in b).settings) (big_endian 8 (length (images_whole.form (runs_of (store_in b)))))) (start_area (store_in b).settings + (8 + length (images_whole.form (frozen_of (store_in b))))) ((sized 8 image).put (store_in b).active)) (start_active (store_in b).settings) (big_endian 8 0)
        unfolding frozen_store
        written =
            let x : Store = store_in b in
            let r = sound-read b g.sound in
            let l = sound-enough b g.sound in
            let y : Store = with_frozen (runs_of x) x in
            let f : Fits y = fits-frozen x b l (read_fits b x o r) (runs_of x) frozen-ok in
            write-active y b l f (laid b x o r).active [] (none-ok x.settings)
            ∙ ap₂ (λ (p q : Bytes). over p (start_active x.settings) q) (change-freeze b x o r x.active frozen-ok) (listed-none version_stream)

        image-size : length (image_of (store_in b).active) ≡ 9 + u
        unfolding a image image_size
        image-size = image-long (store_in b).active ∙ omega (arith, used)

        put_is : big_endian 8 (9 + u) ++ image_of (store_in b).active ≡ (sized 8 image).put (store_in b).active
        unfolding image
        put_is = ap (λ (n : ℕ). big_endian 8 n ++ image_of (store_in b).active) (sym image-size) ∙ sym (sized-put image 8 (store_in b).active)

        counted : m + 17 + u ≡ length (images_whole.form (runs_of (store_in b)))
        unfolding image
        counted =
            let l : Bytes = images_whole.form (frozen_of (store_in b)) in
            omega (arith, ap (λ (x : Bytes). length x) (images-cons (store_in b).active (frozen_of (store_in b))), length-append l ((sized 8 image).put (store_in b).active), sized-long image 8 (store_in b).active, image-size, area-used b active area (store_in b).active (frozen_of (store_in b)) there m f)

        -- the same in the order in which the code writes
        pub frozen-written : (b₁ b₂ b₃ b₄ : Bytes) → b₁ ≡ over b (area + 8 + m + 8) (image_of (versions (part b (active + 8) (active + 8 + u - (active + 8))))) → b₂ ≡ over b₁ (area + 8 + m) (big_endian 8 (9 + u))
            → b₃ ≡ over b₂ area (big_endian 8 (m + 17 + u)) → b₄ ≡ over b₃ active (big_endian 8 0) → b₄ ≡ write_store (frozen_store (store_in b)) b
        frozen-written b₁ b₂ b₃ b₄ f₁ f₂ f₃ f₄ =
            let i : Bytes = image_of (store_in b).active in
            let y : Bytes = (sized 8 image).put (store_in b).active in
            let n : Bytes = big_endian 8 (m + 17 + u) in
            let to : ℕ = area + 8 + m in
            let z = area-inside in
            let e₁ : b₁ ≡ over b (to + 8) i = f₁ ∙ ap (λ (x : Run). over b (to + 8) (image_of x)) (ap versions (records-are b active area there u e) ∙ there.read) in
            let e₂ : b₂ ≡ over b to y =
            f₂ ∙ ap (λ (x : Bytes). over x to (big_endian 8 (9 + u))) e₁
            ∙ over-before b (to + 8) i (omega (arith, image-inside)) to (big_endian 8 (9 + u)) (ap (λ (k : ℕ). to + k) (length-big_endian 8 (9 + u))) ∙ ap (over b to) put_is in
            let e₃ : b₃ ≡ over (over b area n) to y = f₃ ∙ ap (λ (x : Bytes). over x area n) e₂ ∙ sym (over-swap b area n to y (omega (arith, length-big_endian 8 (m + 17 + u))) z) in
            let e₄ : to ≡ start_area (store_in b).settings + (8 + length (images_whole.form (frozen_of (store_in b)))) = omega (arith, g.area-at, area-used b active area (store_in b).active (frozen_of (store_in b)) there m f) in
            f₄ ∙ ap (λ (x : Bytes). over x active (big_endian 8 0)) e₃
            ∙ ap₂ (λ (j k : ℕ). over (over (over b j n) k y) active (big_endian 8 0)) g.area-at e₄
            ∙ ap₂ (λ (j k : ℕ). over (over (over b (start_area (store_in b).settings) (big_endian 8 j)) (start_area (store_in b).settings + (8 + length (images_whole.form (frozen_of (store_in b))))) y) k (big_endian 8 0)) counted g.active-at
            ∙ sym written
