-- An opening that nothing refuses: the room for what is written, and the bytes of the opened store.
-- Assumes nothing.
use Prim.Native.Nat.{ℕ, ◌+◌, ◌*◌, ◌≤◌}
use native.Mathlib.Omega.{arith}
use mathlib.Core.Path.{◌≡◌, refl, sym, ap, ap₂, ◌∙◌}
use mathlib.Core.Bool.{true}
use mathlib.Core.List.{List, []}
use lib.ListN.{length}
use lib.Dec.{leb}
use borrow.Author.Tests.{leb-true}
use Rattle.paper.specs.Lists.{total}
use Rattle.paper.specs.Keys.{Bytes, octets}
use Rattle.paper.specs.Runs.{Run}
use Rattle.paper.specs.Image.{big_endian}
use Rattle.paper.specs.Settings.{Settings, state_length, most_runs}
use Rattle.paper.specs.Store.{Store, latest_of}
use Rattle.paper.specs.Sound.{sound}
use Rattle.paper.specs.Refusals.{Try, stop, go, must, ◌>>◌, ◌>>=◌}
use Rattle.paper.specs.Calls.{open_runs, images_in, opened, open_store}
use Rattle.paper.proofs.Bools.{and_left, and_right}
use Rattle.paper.proofs.OpenSound.{opened-sound}
use Rattle.paper.proofs.CallSound.{images-octets}
use Rattle.raw.specs.Bytes.{over}
use Rattle.layout.specs.Offsets.{start_clock, start_counter, start_rows, start_history, start_active, start_area, freed}
use Rattle.layout.specs.Layout.{settings_stream, listed, row_stream, commit_stream, version_stream, images_stream, write_store}
use Rattle.layout.proofs.Sizes.{listed-none}
use Rattle.layout.proofs.Changes.{places-end}
use Rattle.layout.proofs.SoundFits.{sound-fits}
use Rattle.layout.proofs.Whole.{write-free-places}
use Rattle.area.specs.Opening.{passes, good_images, runs_or, runs_in}
use Rattle.area.proofs.OpeningLaws.{images-length}
use Rattle.opening.specs.Opening.{emptied, Passed}

-- good images have runs
good-runs : (images : Bytes) (lengths : List ℕ) → good_images images lengths ≡ true → open_runs 1 (images_in images lengths) ≡ go (runs_in images lengths)
unfolding good_images runs_in
good-runs images lengths = here (open_runs 1 (images_in images lengths))
  where
    here : (m : Try (List Run)) → passes m ≡ true → m ≡ go (runs_or m)
    here (stop r) e = let z : ◌≡◌ {A = ℕ} 0 1 = cc in absurd (omega arith)
    here (go rs) e = refl

module _ (st : Settings) (images : Bytes) (lengths : List ℕ) (room clock : ℕ) (p : Passed st images lengths room clock) where
  -- no check refuses
  pub passed-opens : open_store st (images_in images lengths) room ≡ go (opened st (runs_in images lengths))
  unfolding open_store must ◌>>◌ ◌>>=◌
  passed-opens = simp (p.ranges, good-runs images lengths p.good, p.area, p.buffer)

  pub passed-long : state_length st ≤ room
  passed-long = leb-true (state_length st) room p.buffer

  pub settings-inside : start_clock ≤ room
  settings-inside = omega (arith, places-end st, passed-long)

  -- the images lie in the run area
  pub images-inside : start_area st + (8 + (8 * length lengths + total length (images_in images lengths))) ≤ room
  images-inside =
      let is : List Bytes = images_in images lengths in
      let n = leb-true (length is) most_runs (and_left (leb (length is) most_runs) (leb (total length is) st.area_bytes) p.area) in
      let t = leb-true (total length is) st.area_bytes (and_right (leb (length is) most_runs) (leb (total length is) st.area_bytes) p.area) in
      omega (arith, images-length images lengths, places-end st, passed-long)

  pub passed-sound : octets images ≡ true → sound (opened st (runs_in images lengths)) ≡ true
  passed-sound o = opened-sound st (images_in images lengths) room (opened st (runs_in images lengths)) (images-octets images lengths o) passed-opens

-- settings, then clock, counter and empty lists, then the images, then the places
module _ (st : Settings) (images : Bytes) (lengths : List ℕ) (clock : ℕ) (b : Bytes) (o : octets images ≡ true) (p : Passed st images lengths (length b) clock) where
  -- the three lists, as bytes
  abbrev lists : Bytes → Bytes → Bytes → Bytes → Bytes
  lists u x y z = over (over (over u start_rows x) (start_history st) y) (start_active st) z

  lists-empty : (u : Bytes) → lists u (big_endian 8 0) (big_endian 8 0) (big_endian 8 0) ≡ lists u ((listed row_stream).put []) ((listed commit_stream).put []) ((listed version_stream).put [])
  lists-empty u =
      let n : Bytes = big_endian 8 0 in
      ap (λ (x : Bytes). lists u x n n) (sym (listed-none row_stream))
      ∙ ap₂ (λ (y z : Bytes). lists u ((listed row_stream).put []) y z) (sym (listed-none commit_stream)) (sym (listed-none version_stream))

  pub opened-written : (b₁ b₂ b₃ b₄ : Bytes) (area : ℕ) → area ≡ start_area st
      → b₁ ≡ over b 0 (settings_stream.put st)
      → b₂ ≡ emptied st clock b₁
      → b₃ ≡ over b₂ area (images_stream.put (runs_in images lengths))
      → b₄ ≡ freed st st.transactions b₃
      → b₄ ≡ write_store (opened st (runs_in images lengths)) b
  unfolding emptied opened
  opened-written b₁ b₂ b₃ b₄ area a f₁ f₂ f₃ f₄ =
      let rs : List Run = runs_in images lengths in
      let s : Store = opened st rs in
      let v : Bytes = over b 0 (settings_stream.put st) in
      let g : b₂ ≡ emptied st (latest_of rs) v = f₂ ∙ ap₂ (emptied st) p.time f₁ in
      let e = lists-empty (over (over v start_clock (big_endian 8 (latest_of rs))) start_counter (big_endian 8 0)) in
      f₄
      ∙ ap (freed st st.transactions) (f₃ ∙ ap₂ (λ (u : Bytes) (k : ℕ). over u k (images_stream.put rs)) (g ∙ e) a)
      ∙ sym (write-free-places s b (passed-long st images lengths (length b) clock p) (sound-fits s (passed-sound st images lengths (length b) clock p o)) refl)
