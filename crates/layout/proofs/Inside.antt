-- The bytes of a state that holds a store, as code finds and changes them: each number where it stands, each list where it begins, and each change of one
-- part as the bytes that are written.
-- Assumes nothing.
use Prim.Native.Nat.{ℕ, zero, suc, ◌+◌, ◌<◌, ◌≤◌}
use native.Mathlib.Omega.{arith}
use native.Mathlib.Nat.{not-suc-le-zero}
use mathlib.Core.Path.{◌≡◌, sym, ap, ◌∙◌, subst}
use mathlib.Core.Bool.{true}
use mathlib.Core.List.{List, ◌∷◌, [], ◌++◌, append-nil}
use mathlib.Core.Option.{Option, none, some}
use lib.ListN.{length, take, drop, get_or, set}
use Rattle.paper.specs.Keys.{Bytes, Pair, octets}
use Rattle.paper.specs.Runs.{Run}
use Rattle.paper.specs.Readers.{Row}
use Rattle.paper.specs.History.{Commit}
use Rattle.paper.specs.Image.{big_endian, number_from}
use Rattle.paper.specs.Settings.{Settings, state_length}
use Rattle.paper.specs.Store.{Txn, Store, frozen_of, with_clock, with_counter, with_places, with_readers, with_history, with_active, with_frozen, with_reads, with_writes, closed}
use Rattle.paper.proofs.ImageLaws.{length-big_endian}
use Rattle.raw.specs.Bytes.{part, over}
use Rattle.raw.proofs.Parts.{part-part, part-take}
use Rattle.layout.specs.Codec.{flag_number, flag, num, both, via, sized, room, put_all}
use Rattle.layout.specs.Offsets.{setting_at, start_clock, start_counter, start_rows, start_history, start_active, start_area, width_area, stride, place_at, place_read, place_mark, place_overlay, width_overlay, place_reads, width_reads, place_writes, width_writes, clock_part, counter_part, place_part}
use Rattle.layout.specs.Layout.{n8, settings_stream, setting_numbers, listed, row_stream, hashes_stream, commit_stream, pair_stream, version_stream, image, images_whole, images_stream, frozen_slot, overlay_slot, reads_slot, writes_slot, tag_of, place_slot, settings_slot, number_slot, read_store, write_store}
use Rattle.layout.proofs.Streams.{Below, All}
use Rattle.layout.proofs.LayoutLaws.{OkRows, OkHistory, OkActive, OkFrozen, OkOverlay, OkReads, OkWrites, OkPlace, OkSettings, Fits}
use Rattle.layout.proofs.Sizes.{n8-long, put-at, sized-put, sized-long, images-cons}
use Rattle.layout.proofs.StoreLaws.{held, write_read, read_fits}
use Rattle.layout.proofs.Sides.{Has, room-put, room_whole, room-form, grown}
use Rattle.layout.proofs.Lies.{Laid, laid}
use Rattle.layout.proofs.Changes.{places-end, place_end, has-place, write-clock, write-counter, write-readers, write-history, write-active, write-frozen, write-place, write-free, write-seat, write-closed, write-reads, write-writes}
use Rattle.layout.proofs.Places.{number_of, flag-below, Seated, seated, place-tag}

-- ---- numbers
number-here : (q : Bytes) (n : ℕ) → Has number_slot q n → Below 8 n → number_from 0 q ≡ n
unfolding number_slot num room
number-here q n h k = ap (number_from 0) (sym h.kept ∙ room_whole 8 n8 q n (omega (arith, h.long, n8-long n))) ∙ number_of n k

-- the settings as the nine numbers that they are
settings-put : (s : Settings) → settings_stream.put s ≡ put_all n8 (setting_numbers s)
unfolding settings_stream via both flag put_all num
settings-put s = simp append-nil

settings-below : (s : Settings) → OkSettings s → All (Below 8) (setting_numbers s)
settings-below s o =
    (flag-below s.serializable, (o.1.0, (o.1.1.0, (o.1.1.1.0, (o.1.1.1.1.0, (o.1.1.1.1.1.0, (o.1.1.1.1.1.1.0, (o.1.1.1.1.1.1.1.0, (o.1.1.1.1.1.1.1.1, tt)))))))))

pub all-at : {A : Type 0} (P : A → Type 0) (xs : List A) → All P xs → (k : ℕ) (d : A) → k < length xs → P (get_or xs k d)
all-at P [] a k d h = absurd (not-suc-le-zero h)
all-at P (x ∷ xs) a zero d h = a.0
all-at P (x ∷ xs) a (suc k) d h = all-at P xs a.1 k d (omega arith)

module _ (b : Bytes) (s : Store) (o : octets b ≡ true) (e : read_store b ≡ some s) where
  abbrev st : Settings
  st = s.settings

  pub lies : Laid b s
  lies = laid b s o e

  fits : Fits s
  fits = read_fits b s o e

  again : write_store s b ≡ b
  again = write_read b s o e

  pub enough : state_length s.settings ≤ length b
  enough = (held b s e).enough

  pub setting-at : (k : ℕ) → k < 9 → number_from 0 (part b (setting_at k) 8) ≡ get_or (setting_numbers s.settings) k 0
  unfolding settings_slot num
  setting-at k l =
      let q : Bytes = take start_clock b in
      let xs : List ℕ = setting_numbers st in
      let f : q ≡ put_all n8 xs ++ drop (length (settings_stream.put st)) q = room-put start_clock settings_stream q st lies.settings ∙ ap (λ (u : Bytes). u ++ drop (length (settings_stream.put st)) q) (settings-put st) in
      ap (number_from 0) (sym (part-take b start_clock (setting_at k) 8 (omega arith)) ∙ ap (λ (u : Bytes). part u (setting_at k) 8) f ∙ put-at n8 8 n8-long xs k 0 (drop (length (settings_stream.put st)) q) l)
      ∙ number_of (get_or xs k 0) (all-at (Below 8) xs (settings-below st fits.settings.0) k 0 l)

  pub clock-at : number_from 0 (clock_part b) ≡ s.clock
  clock-at = number-here (clock_part b) s.clock lies.clock fits.clock.0

  pub counter_at : number_from 0 (counter_part b) ≡ s.counter
  counter_at = number-here (counter_part b) s.counter lies.counter fits.counter.0

  -- ---- one part changed
  pub change-clock : (n : ℕ) → write_store (with_clock n s) b ≡ over b start_clock (big_endian 8 n)
  change-clock n = write-clock s b enough fits lies.clock n ∙ ap (λ (u : Bytes). over u start_clock (big_endian 8 n)) again

  pub change-counter : (n : ℕ) → write_store (with_counter n s) b ≡ over b start_counter (big_endian 8 n)
  change-counter n = write-counter s b enough fits lies.counter n ∙ ap (λ (u : Bytes). over u start_counter (big_endian 8 n)) again

  pub change-readers : (rs : List Row) → OkRows s.settings rs → write_store (with_readers rs s) b ≡ over b start_rows ((listed row_stream).put rs)
  change-readers rs k = write-readers s b enough fits lies.readers rs k ∙ ap (λ (u : Bytes). over u start_rows ((listed row_stream).put rs)) again

  pub change-history : (cs : List Commit) → OkHistory s.settings cs → write_store (with_history cs s) b ≡ over b (start_history s.settings) ((listed commit_stream).put cs)
  change-history cs k = write-history s b enough fits lies.history cs k ∙ ap (λ (u : Bytes). over u (start_history st) ((listed commit_stream).put cs)) again

  pub change-active : (r : Run) → OkActive s.settings r → write_store (with_active r s) b ≡ over b (start_active s.settings) ((listed version_stream).put r)
  change-active r k = write-active s b enough fits lies.active r k ∙ ap (λ (u : Bytes). over u (start_active st) ((listed version_stream).put r)) again

  pub change-frozen : (rs : List Run) → OkFrozen s.settings rs → write_store (with_frozen rs s) b ≡ over b (start_area s.settings) (images_stream.put rs)
  change-frozen rs k = write-frozen s b enough fits lies.frozen rs k ∙ ap (λ (u : Bytes). over u (start_area st) (images_stream.put rs)) again

  -- a run frozen: its image goes behind the others, none of which moves
  pub change-freeze : (r : Run) → OkFrozen s.settings (r ∷ frozen_of s)
      → write_store (with_frozen (r ∷ frozen_of s) s) b
      ≡ over (over b (start_area s.settings) (big_endian 8 (length (images_whole.form (r ∷ frozen_of s))))) (start_area s.settings + (8 + length (images_whole.form (frozen_of s)))) ((sized 8 image).put r)
  unfolding frozen_slot
  change-freeze r k =
      let n : Bytes = big_endian 8 (length (images_whole.form (r ∷ frozen_of s))) in
      let w : 8 + length (images_whole.form (frozen_of s)) ≤ width_area st = subst (λ (m : ℕ). m ≤ width_area st) (sized-long images_whole 8 (frozen_of s)) fits.frozen.1 in
      let p : part b (start_area st + 8) (length (images_whole.form (frozen_of s))) ≡ images_whole.form (frozen_of s) = room-form (width_area st) images_whole b (start_area st) (frozen_of s) lies.frozen w in
      change-frozen (r ∷ frozen_of s) k
      ∙ ap (over b (start_area st)) (sized-put images_whole 8 (r ∷ frozen_of s) ∙ ap (λ (u : Bytes). n ++ u) (images-cons r (frozen_of s)))
      ∙ grown b (start_area st) n (images_whole.form (frozen_of s)) ((sized 8 image).put r) (length-big_endian 8 (length (images_whole.form (r ∷ frozen_of s)))) p (omega (arith, places-end st, enough))

  -- ---- place i
  module _ (i : ℕ) (l : i < s.settings.transactions) where
    pub place_at_lem : Has (place_slot s.settings) (place_part s.settings b i) (get_or s.places i none)
    place_at_lem = has-place st i l b s.places lies.places

    inside : place_at st i + stride st ≤ length b
    inside = omega (arith, place_end st i l, enough)

    place_of : (t : Txn) → get_or s.places i none ≡ some t → Has (place_slot st) (place_part st b i) (some t)
    place_of t f = subst (Has (place_slot st) (place_part st b i)) f place_at_lem

    -- the bytes at an offset of the place
    pub in_place : (j n : ℕ) → j + n ≤ stride s.settings → part b (place_at s.settings i + j) n ≡ part (place_part s.settings b i) j n
    in_place j n k = sym (part-part b (place_at st i) (stride st) j n k)

    pub tag_at : number_from 0 (part b (place_at s.settings i) 8) ≡ tag_of (get_or s.places i none)
    tag_at =
        let z : place_at st i ≡ place_at st i + 0 = omega arith in
        ap (λ (n : ℕ). number_from 0 (part b n 8)) z ∙ ap (number_from 0) (in_place 0 8 (omega arith)) ∙ place-tag st (place_part st b i) (get_or s.places i none) place_at_lem

    pub seated-at : (t : Txn) → get_or s.places i none ≡ some t → Seated s.settings (place_part s.settings b i) t
    seated-at t f = seated st (place_part st b i) t (place_of t f)

    pub read_at : (t : Txn) → get_or s.places i none ≡ some t → number_from 0 (part b (place_at s.settings i + place_read) 8) ≡ t.read
    read_at t f = ap (number_from 0) (in_place place_read 8 (omega arith)) ∙ (seated-at t f).read

    pub mark-at : (t : Txn) → get_or s.places i none ≡ some t → number_from 0 (part b (place_at s.settings i + place_mark) 8) ≡ flag_number t.open?
    mark-at t f = ap (number_from 0) (in_place place_mark 8 (omega arith)) ∙ (seated-at t f).mark

    pub own_at : (t : Txn) → get_or s.places i none ≡ some t → Has (overlay_slot s.settings) (part b (place_at s.settings i + place_overlay) (width_overlay s.settings)) t.own
    own_at t f = subst (λ (q : Bytes). Has (overlay_slot st) q t.own) (sym (in_place place_overlay (width_overlay st) (omega arith))) (seated-at t f).own

    pub reads_at : (t : Txn) → get_or s.places i none ≡ some t → Has (reads_slot s.settings) (part b (place_at s.settings i + place_reads s.settings) (width_reads s.settings)) t.reads
    reads_at t f = subst (λ (q : Bytes). Has (reads_slot st) q t.reads) (sym (in_place (place_reads st) (width_reads st) (omega arith))) (seated-at t f).reads

    pub writes-at : (t : Txn) → get_or s.places i none ≡ some t → Has (writes_slot s.settings) (part b (place_at s.settings i + place_writes s.settings) (width_writes s.settings)) t.writes
    writes-at t f = subst (λ (q : Bytes). Has (writes_slot st) q t.writes) (sym (in_place (place_writes st) (width_writes st) (omega arith))) (seated-at t f).writes

    -- ---- a change of the place
    pub change-place : (p : Option Txn) → OkPlace s.settings p
        → write_store (with_places (set s.places i p) s) b ≡ over b (place_at s.settings i) ((place_slot s.settings).write p (place_part s.settings b i))
    change-place p k = write-place s b enough fits lies.places i l p k ∙ ap (λ (u : Bytes). over u (place_at st i) ((place_slot st).write p (place_part st b i))) again

    pub change-free : write_store (with_places (set s.places i none) s) b ≡ over b (place_at s.settings i) (big_endian 8 0)
    change-free = write-free s b enough fits lies.places i l ∙ ap (λ (u : Bytes). over u (place_at st i) (big_endian 8 0)) again

    pub change-seat : (t : Txn) → OkPlace s.settings (some t)
        → write_store (with_places (set s.places i (some t)) s) b
        ≡ over (over (over (over (over (over b (place_at s.settings i) (big_endian 8 t.handle)) (place_at s.settings i + place_read) (big_endian 8 t.read)) (place_at s.settings i + place_mark) (big_endian 8 (flag_number t.open?))) (place_at s.settings i + place_overlay) ((listed pair_stream).put t.own)) (place_at s.settings i + place_reads s.settings) (hashes_stream.put t.reads)) (place_at s.settings i + place_writes s.settings) (hashes_stream.put t.writes)
    change-seat t k =
        write-seat s b enough fits lies.places i l t k
        ∙ ap (λ (u : Bytes). over (over (over (over (over (over u (place_at st i) (big_endian 8 t.handle)) (place_at st i + place_read) (big_endian 8 t.read)) (place_at st i + place_mark) (big_endian 8 (flag_number t.open?))) (place_at st i + place_overlay) ((listed pair_stream).put t.own)) (place_at st i + place_reads st) (hashes_stream.put t.reads)) (place_at st i + place_writes st) (hashes_stream.put t.writes)) again

    pub change-closed : (t : Txn) → get_or s.places i none ≡ some t → write_store (with_places (set s.places i (some (closed t))) s) b ≡ over b (place_at s.settings i + place_mark) (big_endian 8 0)
    change-closed t f = write-closed s b enough fits lies.places i l t f ∙ ap (λ (u : Bytes). over u (place_at st i + place_mark) (big_endian 8 0)) again

    pub change-reads : (t : Txn) → get_or s.places i none ≡ some t → (rs : List ℕ) → OkReads s.settings rs
        → write_store (with_places (set s.places i (some (with_reads rs t))) s) b ≡ over b (place_at s.settings i + place_reads s.settings) (hashes_stream.put rs)
    change-reads t f rs k = write-reads s b enough fits lies.places i l t f rs k ∙ ap (λ (u : Bytes). over u (place_at st i + place_reads st) (hashes_stream.put rs)) again

    pub change-writes : (t : Txn) → get_or s.places i none ≡ some t → (own : List Pair) (ws : List ℕ) → OkOverlay s.settings own → OkWrites s.settings ws
        → write_store (with_places (set s.places i (some (with_writes own ws t))) s) b
        ≡ over (over b (place_at s.settings i + place_overlay) ((listed pair_stream).put own)) (place_at s.settings i + place_writes s.settings) (hashes_stream.put ws)
    change-writes t f own ws k m =
        write-writes s b enough fits lies.places i l t f own ws k m
        ∙ ap (λ (u : Bytes). over (over u (place_at st i + place_overlay) ((listed pair_stream).put own)) (place_at st i + place_writes st) (hashes_stream.put ws)) again
