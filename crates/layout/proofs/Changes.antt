-- A store with one part changed is written by that part's bytes alone. The laws go step by step: s is a store that is written over b already, in parts
-- or not at all, and of which the part that changes next is still as in b.
-- Assumes nothing.
use Prim.Native.Nat.{ℕ, ◌+◌, ◌*◌, ◌<◌, ◌≤◌}
use native.Mathlib.Omega.{arith}
use native.Mathlib.Nat.{suc-mul, mul-le-mul_right}
use mathlib.Core.Path.{◌≡◌, sym, ap, ap₂, ◌∙◌, subst}
use mathlib.Core.Bool.{false}
use mathlib.Core.List.{List, []}
use mathlib.Core.Option.{Option, none, some}
use lib.ListN.{length, take, get_or, set}
use lib.Dec.{lit<}
use Rattle.paper.specs.Keys.{Bytes, Pair}
use Rattle.paper.specs.Lists.{join}
use Rattle.paper.specs.Runs.{Run}
use Rattle.paper.specs.Readers.{Row}
use Rattle.paper.specs.History.{Commit}
use Rattle.paper.specs.Image.{big_endian}
use Rattle.paper.specs.Settings.{Settings, state_length}
use Rattle.paper.specs.Store.{Txn, Store, frozen_of, with_clock, with_counter, with_places, with_readers, with_history, with_active, with_frozen, with_reads, with_writes, closed}
use Rattle.paper.proofs.ImageLaws.{length-big_endian}
use Rattle.raw.specs.Bytes.{part, over}
use Rattle.raw.proofs.Parts.{length_part, part-part}
use Rattle.raw.proofs.Over.{length_over, over-part}
use Rattle.raw.proofs.Pieces.{start, lay-in, part_in}
use Rattle.layout.specs.Codec.{flag_number, num, room, rows, write_rows}
use Rattle.layout.specs.Offsets.{start_clock, start_counter, start_rows, width_rows, start_history, width_history, start_active, width_active, start_area, width_area, start_places, stride, place_at, place_read, place_mark, place_overlay, place_reads, place_writes, clock_part, counter_part, rows_part, history_part, active_part, area_part, places_part, place_part}
use Rattle.layout.specs.Layout.{listed, row_stream, hashes_stream, pair_stream, commit_stream, version_stream, images_stream, settings_slot, number_slot, rows_slot, history_slot, active_slot, frozen_slot, place_slot, places_slot, write_store}
use Rattle.layout.proofs.LayoutLaws.{OkNumber, OkRows, OkHistory, OkActive, OkFrozen, OkOverlay, OkReads, OkWrites, OkPlace, OkPlaces, Fits, settings-slot, number-slot, rows-slot, history-slot, active-slot, frozen-slot, place-laws, places-slot, settings-width, number-width, rows-width, history-width, active-width, frozen-width, place-width, places-width, parts-width, width_is}
use Rattle.layout.proofs.Sizes.{n8-long, head-long}
use Rattle.layout.proofs.StoreLaws.{settings-long, fits-length}
use Rattle.layout.proofs.Sides.{piece-laid, over-inner, Has, RowOf, row_of}
use Rattle.layout.proofs.Lies.{written, written-join}
use Rattle.layout.proofs.Places.{place-free, place-seat, place-fits, place-closed, place-reads, place-writes}

-- the parts end with the state
pub places-end : (st : Settings) → start_places st + st.transactions * stride st ≡ state_length st
places-end st = sym (parts-width st) ∙ width_is st

-- ---- a place is one of the places
module _ (st : Settings) (i : ℕ) (l : i < st.transactions) where
  pub place_inside : i * stride st + stride st ≤ st.transactions * stride st
  place_inside = omega (arith, suc-mul i (stride st), mul-le-mul_right (stride st) l)

  pub place_end : place_at st i + stride st ≤ state_length st
  place_end = omega (arith, place_inside, places-end st)

  module _ (b : Bytes) (ps : List (Option Txn)) (h : Has (places_slot st) (places_part st b) ps) where
    of_places : RowOf (place_slot st) (places_part st b) ps i none
    unfolding places_slot rows
    of_places = row_of (place-laws st) none st.transactions (places_part st b) ps h.bytes h.long h.read i l

    place_here : part (places_part st b) (i * stride st) (stride st) ≡ place_part st b i
    place_here = part-part b (start_places st) (st.transactions * stride st) (i * stride st) (stride st) place_inside

    -- place i holds transaction i, or none
    pub has-place : Has (place_slot st) (place_part st b i) (get_or ps i none)
    has-place =
        subst (λ (q : Bytes). Has (place_slot st) q (get_or ps i none)) place_here
        (subst (λ (w : ℕ). Has (place_slot st) (part (places_part st b) (i * w) w) (get_or ps i none)) (place-width st) of_places.has-row)

    place-long : (p : Option Txn) → OkPlace st p → length ((place_slot st).write p (place_part st b i)) ≡ stride st
    place-long p o = (place-laws st).long (place_part st b i) p has-place.long o ∙ place-width st

    -- the places with one of them anew
    places-laid : (p : Option Txn) → OkPlace st p → (places_slot st).write (set ps i p) (places_part st b) ≡ over (places_part st b) (i * stride st) ((place_slot st).write p (place_part st b i))
    unfolding places_slot rows
    places-laid p o =
        let q : Bytes = places_part st b in
        let r = subst (λ (w : ℕ). length ((place_slot st).write p (part q (i * w) w)) ≡ w → write_rows (place_slot st) (set ps i p) q ≡ over q (i * w) ((place_slot st).write p (part q (i * w) w))) (place-width st) (of_places.lay-row p) in
        subst (λ (u : Bytes). length ((place_slot st).write p u) ≡ stride st → write_rows (place_slot st) (set ps i p) q ≡ over q (i * stride st) ((place_slot st).write p u)) place_here r (place-long p o)

module _ (s : Store) (b : Bytes) (l : state_length s.settings ≤ length b) (f : Fits s) where
  -- ---- the lengths of the pieces written
  pub record Lengths : Type 0 where
    pub settings : length (settings_slot.write s.settings (take start_clock b)) ≡ start_clock
    pub clock : length (number_slot.write s.clock (clock_part b)) ≡ 8
    pub counter : length (number_slot.write s.counter (counter_part b)) ≡ 8
    pub readers : length ((rows_slot s.settings).write s.readers (rows_part s.settings b)) ≡ width_rows s.settings
    pub history : length ((history_slot s.settings).write s.history (history_part s.settings b)) ≡ width_history s.settings
    pub active : length ((active_slot s.settings).write s.active (active_part s.settings b)) ≡ width_active s.settings
    pub frozen : length ((frozen_slot s.settings).write (frozen_of s) (area_part s.settings b)) ≡ width_area s.settings
    pub places : length ((places_slot s.settings).write s.places (places_part s.settings b)) ≡ s.settings.transactions * stride s.settings

  pub lengths : Lengths
  lengths =
      let st : Settings = s.settings in
      let e = places-end s.settings in
      record {
        settings = settings-slot.long (take start_clock b) s.settings (settings-long st b l) f.settings ∙ settings-width;
        clock = number-slot.long (clock_part b) s.clock (length_part b start_clock 8 (omega arith) ∙ sym number-width) f.clock ∙ number-width;
        counter = number-slot.long (counter_part b) s.counter (length_part b start_counter 8 (omega arith) ∙ sym number-width) f.counter ∙ number-width;
        readers = (rows-slot st).long (rows_part st b) s.readers (length_part b start_rows (width_rows st) (omega arith) ∙ sym (rows-width st)) f.readers ∙ rows-width st;
        history = (history-slot st).long (history_part st b) s.history (length_part b (start_history st) (width_history st) (omega arith) ∙ sym (history-width st)) f.history ∙ history-width st;
        active = (active-slot st).long (active_part st b) s.active (length_part b (start_active st) (width_active st) (omega arith) ∙ sym (active-width st)) f.active ∙ active-width st;
        frozen = (frozen-slot st).long (area_part st b) (frozen_of s) (length_part b (start_area st) (width_area st) (omega arith) ∙ sym (frozen-width st)) f.frozen ∙ frozen-width st;
        places = (places-slot st).long (places_part st b) s.places (length_part b (start_places st) (st.transactions * stride st) (omega arith) ∙ sym (places-width st)) f.places ∙ places-width st;
      }

  -- ---- one part anew
  pub write-clock : Has number_slot (clock_part b) s.clock → (n : ℕ) → write_store (with_clock n s) b ≡ over (write_store s b) start_clock (big_endian 8 n)
  unfolding number_slot room num
  write-clock h n =
      let g = lengths in
      written-join (with_clock n s) b
      ∙ piece-laid (written s b) 1 start_clock (big_endian 8 n) (clock_part b) (lit< tt) h.kept (omega (arith, n8-long n, h.long)) (omega (arith, g.settings))
      ∙ ap (λ (u : Bytes). over u start_clock (big_endian 8 n)) (sym (written-join s b))

  pub write-counter : Has number_slot (counter_part b) s.counter → (n : ℕ) → write_store (with_counter n s) b ≡ over (write_store s b) start_counter (big_endian 8 n)
  unfolding number_slot room num
  write-counter h n =
      let g = lengths in
      written-join (with_counter n s) b
      ∙ piece-laid (written s b) 2 start_counter (big_endian 8 n) (counter_part b) (lit< tt) h.kept (omega (arith, n8-long n, h.long)) (omega (arith, g.settings, g.clock))
      ∙ ap (λ (u : Bytes). over u start_counter (big_endian 8 n)) (sym (written-join s b))

  pub write-readers : Has (rows_slot s.settings) (rows_part s.settings b) s.readers → (rs : List Row) → OkRows s.settings rs
      → write_store (with_readers rs s) b ≡ over (write_store s b) start_rows ((listed row_stream).put rs)
  unfolding rows_slot room
  write-readers h rs o =
      let g = lengths in
      let x : Bytes = (listed row_stream).put rs in
      written-join (with_readers rs s) b
      ∙ piece-laid (written s b) 3 start_rows x (rows_part s.settings b) (lit< tt) h.kept (omega (arith, o.1, h.long)) (omega (arith, g.settings, g.clock, g.counter))
      ∙ ap (λ (u : Bytes). over u start_rows x) (sym (written-join s b))

  pub write-history : Has (history_slot s.settings) (history_part s.settings b) s.history → (cs : List Commit) → OkHistory s.settings cs
      → write_store (with_history cs s) b ≡ over (write_store s b) (start_history s.settings) ((listed commit_stream).put cs)
  unfolding history_slot room
  write-history h cs o =
      let g = lengths in
      let x : Bytes = (listed commit_stream).put cs in
      written-join (with_history cs s) b
      ∙ piece-laid (written s b) 4 (start_history s.settings) x (history_part s.settings b) (lit< tt) h.kept (omega (arith, o.1, h.long)) (omega (arith, g.settings, g.clock, g.counter, g.readers))
      ∙ ap (λ (u : Bytes). over u (start_history s.settings) x) (sym (written-join s b))

  pub write-active : Has (active_slot s.settings) (active_part s.settings b) s.active → (r : Run) → OkActive s.settings r
      → write_store (with_active r s) b ≡ over (write_store s b) (start_active s.settings) ((listed version_stream).put r)
  unfolding active_slot room
  write-active h r o =
      let g = lengths in
      let x : Bytes = (listed version_stream).put r in
      written-join (with_active r s) b
      ∙ piece-laid (written s b) 5 (start_active s.settings) x (active_part s.settings b) (lit< tt) h.kept (omega (arith, o.1, h.long)) (omega (arith, g.settings, g.clock, g.counter, g.readers, g.history))
      ∙ ap (λ (u : Bytes). over u (start_active s.settings) x) (sym (written-join s b))

  pub write-frozen : Has (frozen_slot s.settings) (area_part s.settings b) (frozen_of s) → (rs : List Run) → OkFrozen s.settings rs
      → write_store (with_frozen rs s) b ≡ over (write_store s b) (start_area s.settings) (images_stream.put rs)
  unfolding frozen_slot room
  write-frozen h rs o =
      let g = lengths in
      let x : Bytes = images_stream.put rs in
      written-join (with_frozen rs s) b
      ∙ piece-laid (written s b) 6 (start_area s.settings) x (area_part s.settings b) (lit< tt) h.kept (omega (arith, o.1, h.long)) (omega (arith, g.settings, g.clock, g.counter, g.readers, g.history, g.active))
      ∙ ap (λ (u : Bytes). over u (start_area s.settings) x) (sym (written-join s b))

  -- one place
  pub write-place : Has (places_slot s.settings) (places_part s.settings b) s.places → (i : ℕ) → i < s.settings.transactions → (p : Option Txn) → OkPlace s.settings p
      → write_store (with_places (set s.places i p) s) b ≡ over (write_store s b) (place_at s.settings i) ((place_slot s.settings).write p (place_part s.settings b i))
  write-place h i k p o =
      let st : Settings = s.settings in
      let g = lengths in
      let x : Bytes = (place_slot st).write p (place_part st b i) in
      let xs : List Bytes = written s b in
      let n : length x ≡ stride st = place-long st i k b s.places h p o in
      let m = place_inside st i k in
      let q : get_or xs 7 [] ≡ places_part st b = h.kept in
      let e : place_at st i ≡ start xs 7 + i * stride st = omega (arith, g.settings, g.clock, g.counter, g.readers, g.history, g.active, g.frozen) in
      written-join (with_places (set s.places i p) s) b
      ∙ ap (λ (u : Bytes). join (set xs 7 u)) (places-laid st i k b s.places h p o ∙ ap (λ (u : Bytes). over u (i * stride st) x) (sym q))
      ∙ sym (lay-in xs 7 (i * stride st) x (lit< tt) (omega (arith, g.places)))
      ∙ ap₂ (λ (u : Bytes) (j : ℕ). over u j x) (sym (written-join s b)) (sym e)

  -- ---- within one place
  module _ (h : Has (places_slot s.settings) (places_part s.settings b) s.places) (i : ℕ) (k : i < s.settings.transactions) where
    abbrev st : Settings
    st = s.settings

    abbrev at : ℕ
    at = place_at s.settings i

    W : Bytes
    W = write_store s b

    abbrev q : Bytes
    q = place_part s.settings b i

    place-wide : length (place_part s.settings b i) ≡ stride s.settings
    place-wide = (has-place s.settings i k b s.places h).long ∙ place-width s.settings

    -- the place is still as it was
    place_still : part W at (stride st) ≡ q
    unfolding W
    place_still =
        let g = lengths in
        let xs : List Bytes = written s b in
        let m = place_inside st i k in
        let e : at ≡ start xs 7 + i * stride st = omega (arith, g.settings, g.clock, g.counter, g.readers, g.history, g.active, g.frozen) in
        ap₂ (λ (u : Bytes) (j : ℕ). part u j (stride st)) (written-join s b) e
        ∙ part_in xs 7 (i * stride st) (stride st) (lit< tt) (omega (arith, g.places))
        ∙ ap (λ (u : Bytes). part u (i * stride st) (stride st)) h.kept
        ∙ part-part b (start_places st) (st.transactions * stride st) (i * stride st) (stride st) m

    place-room : at + stride st ≤ length W
    unfolding W
    place-room = omega (arith, place_end st i k, l, fits-length s b l f)

    -- nothing written in it
    none-laid : over W at q ≡ W
    none-laid = ap (over W at) (sym place_still) ∙ over-part W at (stride st) place-room

    -- what is written in the place is written in the whole
    laid_in : (p x : Bytes) (j : ℕ) → length p ≡ stride st → j + length x ≤ stride st → over W at (over p j x) ≡ over (over W at p) (at + j) x
    laid_in p x j m n = over-inner W p x at j (omega (arith, place-room)) (omega arith)

    one-laid : (x : Bytes) (j : ℕ) → j + length x ≤ stride st → over W at (over q j x) ≡ over W (at + j) x
    one-laid x j n = laid_in q x j place-wide n ∙ ap (λ (u : Bytes). over u (at + j) x) none-laid

    pub write-free : write_store (with_places (set s.places i none) s) b ≡ over (write_store s b) (place_at s.settings i) (big_endian 8 0)
    unfolding W
    write-free =
        let z : at + 0 ≡ at = omega arith in
        write-place h i k none tt
        ∙ ap (over W at) (place-free st q place-wide) ∙ one-laid (big_endian 8 0) 0 (omega (arith, length-big_endian 8 0))
        ∙ ap (λ (n : ℕ). over W n (big_endian 8 0)) z

    -- a transaction seated, whatever stood there
    pub write-seat : (t : Txn) → OkPlace s.settings (some t)
        → write_store (with_places (set s.places i (some t)) s) b
        ≡ over (over (over (over (over (over (write_store s b) (place_at s.settings i) (big_endian 8 t.handle)) (place_at s.settings i + place_read) (big_endian 8 t.read)) (place_at s.settings i + place_mark) (big_endian 8 (flag_number t.open?))) (place_at s.settings i + place_overlay) ((listed pair_stream).put t.own)) (place_at s.settings i + place_reads s.settings) (hashes_stream.put t.reads)) (place_at s.settings i + place_writes s.settings) (hashes_stream.put t.writes)
    unfolding W
    write-seat t o =
        let h₀ : Bytes = big_endian 8 t.handle in
        let h₁ : Bytes = big_endian 8 t.read in
        let h₂ : Bytes = big_endian 8 (flag_number t.open?) in
        let h₃ : Bytes = (listed pair_stream).put t.own in
        let h₄ : Bytes = hashes_stream.put t.reads in
        let h₅ : Bytes = hashes_stream.put t.writes in
        let m₀ : 0 + length h₀ ≤ stride st = omega (arith, length-big_endian 8 t.handle) in
        let m₁ : place_read + length h₁ ≤ stride st = omega (arith, length-big_endian 8 t.read) in
        let m₂ : place_mark + length h₂ ≤ stride st = omega (arith, length-big_endian 8 (flag_number t.open?)) in
        let m₃ : place_overlay + length h₃ ≤ stride st = omega (arith, o.2.1.0.1) in
        let m₄ : place_reads st + length h₄ ≤ stride st = omega (arith, o.2.1.1.0.1) in
        let m₅ : place_writes st + length h₅ ≤ stride st = omega (arith, o.2.1.1.1.1) in
        let q₀ : Bytes = over q 0 h₀ in
        let q₁ : Bytes = over q₀ place_read h₁ in
        let q₂ : Bytes = over q₁ place_mark h₂ in
        let q₃ : Bytes = over q₂ place_overlay h₃ in
        let q₄ : Bytes = over q₃ (place_reads st) h₄ in
        let w₀ : length q₀ ≡ stride st = length_over q 0 h₀ (omega (arith, place-wide)) ∙ place-wide in
        let w₁ : length q₁ ≡ stride st = length_over q₀ place_read h₁ (omega arith) ∙ w₀ in
        let w₂ : length q₂ ≡ stride st = length_over q₁ place_mark h₂ (omega arith) ∙ w₁ in
        let w₃ : length q₃ ≡ stride st = length_over q₂ place_overlay h₃ (omega arith) ∙ w₂ in
        let w₄ : length q₄ ≡ stride st = length_over q₃ (place_reads st) h₄ (omega arith) ∙ w₃ in
        let z : at + 0 ≡ at = omega arith in
        let s₀ : over W at q₀ ≡ over W at h₀ = one-laid h₀ 0 m₀ ∙ ap (λ (n : ℕ). over W n h₀) z in
        let s₁ = laid_in q₀ h₁ place_read w₀ m₁ ∙ ap (λ (u : Bytes). over u (at + place_read) h₁) s₀ in
        let s₂ = laid_in q₁ h₂ place_mark w₁ m₂ ∙ ap (λ (u : Bytes). over u (at + place_mark) h₂) s₁ in
        let s₃ = laid_in q₂ h₃ place_overlay w₂ m₃ ∙ ap (λ (u : Bytes). over u (at + place_overlay) h₃) s₂ in
        let s₄ = laid_in q₃ h₄ (place_reads st) w₃ m₄ ∙ ap (λ (u : Bytes). over u (at + place_reads st) h₄) s₃ in
        write-place h i k (some t) o
        ∙ ap (over W at) (place-seat st q place-wide t o.2.1.0 o.2.1.1.0 o.2.1.1.1)
        ∙ laid_in q₄ h₅ (place_writes st) w₄ m₅ ∙ ap (λ (u : Bytes). over u (at + place_writes st) h₅) s₄

    module _ (t : Txn) (e : get_or s.places i none ≡ some t) where
      there : Has (place_slot st) q (some t)
      there = subst (Has (place_slot st) q) e (has-place st i k b s.places h)

      fit : OkPlace st (some t)
      fit = place-fits st q (some t) there

      pub write-closed : write_store (with_places (set s.places i (some (closed t))) s) b ≡ over (write_store s b) (place_at s.settings i + place_mark) (big_endian 8 0)
      unfolding W closed
      write-closed =
          let o = fit in
          write-place h i k (some (closed t)) (o.0, o.1, (((o.2.0.0.0, tt), omega (arith, head-long t.read false)), o.2.1))
          ∙ ap (over W at) (place-closed st q t there) ∙ one-laid (big_endian 8 0) place_mark (omega (arith, length-big_endian 8 0))

      pub write-reads : (rs : List ℕ) → OkReads s.settings rs
          → write_store (with_places (set s.places i (some (with_reads rs t))) s) b ≡ over (write_store s b) (place_at s.settings i + place_reads s.settings) (hashes_stream.put rs)
      unfolding W with_reads
      write-reads rs r =
          let o = fit in
          write-place h i k (some (with_reads rs t)) (o.0, o.1, (o.2.0, (o.2.1.0, (r, o.2.1.1.1))))
          ∙ ap (over W at) (place-reads st q t there rs r) ∙ one-laid (hashes_stream.put rs) (place_reads st) (omega (arith, r.1))

      pub write-writes : (own : List Pair) (ws : List ℕ) → OkOverlay s.settings own → OkWrites s.settings ws
          → write_store (with_places (set s.places i (some (with_writes own ws t))) s) b
          ≡ over (over (write_store s b) (place_at s.settings i + place_overlay) ((listed pair_stream).put own)) (place_at s.settings i + place_writes s.settings) (hashes_stream.put ws)
      unfolding W with_writes
      write-writes own ws r w =
          let o = fit in
          let x : Bytes = (listed pair_stream).put own in
          let y : Bytes = hashes_stream.put ws in
          write-place h i k (some (with_writes own ws t)) (o.0, o.1, (o.2.0, (r, (o.2.1.1.0, w))))
          ∙ ap (over W at) (place-writes st q t there own ws r w)
          ∙ laid_in (over q place_overlay x) y (place_writes st) (length_over q place_overlay x (omega (arith, place-wide, r.1)) ∙ place-wide) (omega (arith, w.1))
          ∙ ap (λ (u : Bytes). over u (at + place_writes st) y) (one-laid x place_overlay (omega (arith, r.1)))

  -- ---- and the store with it fits still
  pub fits-clock : (n : ℕ) → OkNumber n → Fits (with_clock n s)
  fits-clock n o = record { settings = f.settings; clock = o; counter = f.counter; readers = f.readers; history = f.history; active = f.active; frozen = f.frozen; places = f.places }

  pub fits-counter : (n : ℕ) → OkNumber n → Fits (with_counter n s)
  fits-counter n o = record { settings = f.settings; clock = f.clock; counter = o; readers = f.readers; history = f.history; active = f.active; frozen = f.frozen; places = f.places }

  pub fits-readers : (rs : List Row) → OkRows s.settings rs → Fits (with_readers rs s)
  fits-readers rs o = record { settings = f.settings; clock = f.clock; counter = f.counter; readers = o; history = f.history; active = f.active; frozen = f.frozen; places = f.places }

  pub fits-history : (cs : List Commit) → OkHistory s.settings cs → Fits (with_history cs s)
  fits-history cs o = record { settings = f.settings; clock = f.clock; counter = f.counter; readers = f.readers; history = o; active = f.active; frozen = f.frozen; places = f.places }

  pub fits-active : (r : Run) → OkActive s.settings r → Fits (with_active r s)
  fits-active r o = record { settings = f.settings; clock = f.clock; counter = f.counter; readers = f.readers; history = f.history; active = o; frozen = f.frozen; places = f.places }

  pub fits-frozen : (rs : List Run) → OkFrozen s.settings rs → Fits (with_frozen rs s)
  fits-frozen rs o = record { settings = f.settings; clock = f.clock; counter = f.counter; readers = f.readers; history = f.history; active = f.active; frozen = o; places = f.places }

  pub fits-places : (ps : List (Option Txn)) → OkPlaces s.settings ps → Fits (with_places ps s)
  fits-places ps o = record { settings = f.settings; clock = f.clock; counter = f.counter; readers = f.readers; history = f.history; active = f.active; frozen = f.frozen; places = o }
