-- How a begin ends, and the bytes that it writes.
-- Assumes nothing.
use Rattle.std.specs.Prelude.{Option as Found, SomeIff, None, Some, Result, Ok, Err}
use Prim.Native.Nat.{ℕ, ◌+◌, ◌-◌, ◌*◌, ◌/◌, ◌<◌, ◌≤◌}
use native.Mathlib.Omega.{arith}
use mathlib.Core.Path.{◌≡◌, refl, sym, ap, ap₂, ◌∙◌, subst}
use mathlib.Core.Bool.{Bool, true, false}
use mathlib.Core.List.{List, [], ◌++◌}
use mathlib.Core.Option.{Option, none, some}
use lib.ListN.{length, set, length-set, take, drop}
use lib.Seq.{get_or-set_same}
use lib.Dec.{ltb}
use borrow.Author.Tests.{lt-ltb, le-ltb}
use Rattle.paper.specs.Keys.{Bytes, octets}
use Rattle.paper.specs.Image.{big_endian, number_from}
use Rattle.paper.specs.Readers.{Row, readers_at, add_reader}
use Rattle.paper.specs.Refusals.{Refusal, no_room, counter_full, places, reader_table, stop, go, must, ◌>>◌}
use Rattle.paper.specs.Room.{place_free, table_fits}
use Rattle.paper.specs.Settings.{Settings, most_number, state_length}
use Rattle.paper.specs.Sound.{sound}
use Rattle.paper.specs.Store.{Txn, make_txn, Store, with_counter, with_places, with_readers, seat, txns_of}
use Rattle.paper.specs.Calls.{began, outcome, new_txn, begun, try_begin, Call, tried, of_bytes}
use Rattle.paper.proofs.ImageLaws.{length-big_endian}
use Rattle.raw.specs.Bytes.{part, over}
use Rattle.raw.proofs.Parts.{length_part}
use Rattle.raw.proofs.Over.{length_over, part-over-before, part-over-after, over-lent}
use Rattle.layout.specs.Codec.{Slot}
use Rattle.layout.specs.Offsets.{start_rows, width_rows, stride, place_at, place_part, rows_part}
use Rattle.layout.specs.Layout.{read_store, store_in, sound_state, write_store, listed, row_stream, place_slot}
use Rattle.layout.proofs.LayoutLaws.{OkPlace, Fits, place-laws, place-width}
use Rattle.layout.proofs.SoundState.{sound-read, sound-enough, sound-in}
use Rattle.layout.proofs.SoundFits.{sound-fits}
use Rattle.layout.proofs.Inside as inside
use Rattle.layout.proofs.Changes.{place_end, write-readers, write-place, fits-counter, fits-places}
use Rattle.settings.specs.declared.Shape.{Shape}
use Rattle.settings.specs.Shapes.{shape_of}
use Rattle.settings.proofs.Shapes.{Shaped}
use Rattle.table.specs.Rows.{Rowed, judged, checked, rows_in, lay_rows}
use Rattle.table.specs.Places.{found_in}
use Rattle.table.specs.declared.RowRefusal.{RowRefusal}
use Rattle.table.specs.declared.RowRefusal.TheVariants.{Full, Most}
use Rattle.table.proofs.RowsLie.{part-rows, part-checked, rows-laid, sound-rowed}
use Rattle.table.proofs.RowsAnew.{lay-over}
use Rattle.table.proofs.PlacesLie as lie
use Rattle.txn.specs.declared.Rooms.{Rooms}
use Rattle.txn.specs.Place.{rooms_in, rooms_of, place_of, stride_of}
use Rattle.txn.proofs.Callers.{slot_same}
use Rattle.reply.specs.Told.{Told, told, why, handle}
use Rattle.reply.specs.OnBytes.{told_on}
use Rattle.reply.proofs.Ends.{refused-told, done-told, done-fits}
use Rattle.seat.proofs.Finding.{shape-fits, places-lent}
use Rattle.sessions.specs.Sessions.{row_refusal, MayBegin}

-- ---- the checks, in their order
module _ (s : Store) (h : sound s ≡ true) where
  pub begin-full : length (txns_of s.places) ≡ s.settings.transactions → try_begin s ≡ stop (no_room places)
  unfolding try_begin must ◌>>◌
  begin-full e = let l : s.settings.transactions ≤ length (txns_of s.places) = omega (arith, e) in let f : place_free s ≡ false = le-ltb _ _ l in rw h (rw f refl)

  module _ (p : length (txns_of s.places) < s.settings.transactions) where
    free : place_free s ≡ true
    free = lt-ltb _ _ p

    pub begin-table : table_fits s.settings.transactions s.readers s.clock ≡ false → try_begin s ≡ stop (no_room reader_table)
    unfolding try_begin must ◌>>◌
    begin-table e = rw h (rw free (rw e refl))

    module _ (t : table_fits s.settings.transactions s.readers s.clock ≡ true) where
      -- 'the handle counter there'
      pub begin-counter : most_number ≤ s.counter → try_begin s ≡ stop counter_full
      unfolding try_begin must ◌>>◌
      begin-counter l = let f : ltb s.counter most_number ≡ false = le-ltb _ _ l in rw h (rw free (rw t (rw f refl)))

      -- 'a reader's count there'
      pub begin-most : ltb (readers_at s.clock s.readers) most_number ≡ false → try_begin s ≡ stop counter_full
      unfolding try_begin must ◌>>◌
      begin-most e = rw h (rw free (rw t (go (ltb s.counter most_number))))
        where
          go : (x : Bool) → (must x counter_full >> (must (ltb (readers_at s.clock s.readers) most_number) counter_full >> outcome (began (s.counter + 1) s.clock) (begun s))) ≡ stop counter_full
          go true = rw e refl
          go false = refl

      pub begin-done : ltb (readers_at s.clock s.readers) most_number ≡ true → s.counter < most_number
          → try_begin s ≡ go (record { reply = began (s.counter + 1) s.clock; store = begun s })
      unfolding try_begin must ◌>>◌
      begin-done e l = let f : ltb s.counter most_number ≡ true = lt-ltb _ _ l in rw h (rw free (rw t (rw f (rw e refl))))

-- ---- what a sound state says of its head and its rows
module _ (b : Bytes) (o : octets b ≡ true) (h : sound_state b ≡ true) (z : Shape) (e : z ≡ shape_of (store_in b).settings) where
  abbrev s : Store
  s = store_in b

  abbrev st : Settings
  st = s.settings

  here : read_store b ≡ some s
  here = sound-read b h

  shape : Shaped st z
  shape = shape-fits b o h z e

  -- the rows' part, as code lends it
  pub rows-lent : (a : Bytes) → part a start_rows (z.history - start_rows) ≡ rows_part st a
  rows-lent a = let w : z.history - start_rows ≡ width_rows st = omega (arith, shape.rows-wide) in ap (part a start_rows) w

  pub clock-is : number_from 0 (part b 72 8) ≡ s.clock
  clock-is = inside.clock-at b s o here

  pub counter-is : number_from 0 (part b 80 8) ≡ s.counter
  counter-is = inside.counter_at b s o here

  pub rows_inside : (start_rows ≤ z.history) × (z.history ≤ length b)
  rows_inside = (omega (arith, shape.rows-wide), omega (arith, shape.rows-wide, shape.history-wide, shape.active-wide, shape.area-wide, shape.places-wide, sound-enough b h))

  pub head-inside : 88 ≤ length b
  head-inside = omega (arith, rows_inside)

  pub rowed : Rowed (part b start_rows (z.history - start_rows))
  rowed = subst Rowed (sym (rows-lent b)) (sound-rowed b s (inside.lies b s o here) (sound-in b h))

  pub checks : (r : Result (Unit {0}) RowRefusal) (clock : ℕ) → clock ≡ number_from 0 (part b 72 8) → r ≡ checked (part b start_rows (z.history - start_rows)) clock
      → r ≡ judged (table_fits st.transactions s.readers s.clock) (ltb (readers_at s.clock s.readers) most_number)
  checks r clock c k =
      k ∙ ap₂ (λ (q : Bytes) (n : ℕ). checked q n) (rows-lent b) (c ∙ clock-is) ∙ part-checked st (rows_part st b) s.readers (inside.lies b s o here).readers s.clock

-- ---- the bytes
module _ (b : Bytes) (o : octets b ≡ true) (z : Shape) (start handle clock : ℕ) (m : MayBegin b z start handle clock) where
  h : sound_state b ≡ true
  h = m.sound

  S : Shaped (store_in b).settings z
  S = shape-fits b o h z m.shape

  abbrev s₀ : Store
  s₀ = store_in b

  abbrev st₀ : Settings
  st₀ = (store_in b).settings

  abbrev t₀ : Txn
  t₀ = make_txn handle clock true [] [] []

  among : m.index < st₀.transactions
  among = omega (arith, m.free.inside, lie.count-is st₀ b s₀.places (inside.lies b s₀ o (sound-read b h)).places)

  -- the place lies behind the rows, and in the state
  pub place_inside : (88 ≤ z.history) × ((z.history ≤ start) × ((start + z.stride ≤ length b) × (start + z.stride < 134217728)))
  place_inside =
      let e = place_end st₀ m.index among in
      (omega (arith, S.rows-wide), (omega (arith, m.place, S.rows-wide, S.history-wide, S.active-wide, S.area-wide, S.places), (omega (arith, m.place, S.stride, e, sound-enough b h), omega (arith, m.place, S.stride, e, S.small))))

  -- the counter written
  abbrev b₁ : Bytes
  b₁ = over b 80 (big_endian 8 handle)

  long₁ : length b₁ ≡ length b
  long₁ = length_over b 80 (big_endian 8 handle) (omega (arith, length-big_endian 8 handle, place_inside))

  place₁ : part b₁ start (start + z.stride - start) ≡ place_part st₀ b m.index
  place₁ =
      let w : start + z.stride - start ≡ stride st₀ = omega (arith, S.stride) in
      part-over-after b 80 (big_endian 8 handle) (omega (arith, place_inside)) start (start + z.stride - start) (omega (arith, length-big_endian 8 handle, place_inside))
      ∙ ap₂ (λ (a n : ℕ). part b a n) m.place w

  abbrev y₁ : Bytes
  y₁ = (place_of (rooms_of (store_in b).settings)).write (some (make_txn handle clock true [] [] [])) (part b₁ start (start + z.stride - start))

  y-is : y₁ ≡ (place_slot st₀).write (some t₀) (place_part st₀ b m.index)
  y-is = ap₂ (λ (S : Slot (Option Txn)) (q : Bytes). S.write (some t₀) q) (sym (slot_same st₀)) place₁

  pub place-long : length (part b₁ start (start + z.stride - start)) ≡ stride (store_in b).settings
  place-long = ap length place₁ ∙ length_part b (place_at st₀ m.index) (stride st₀) (omega (arith, place_end st₀ m.index among, sound-enough b h))

  -- the store that a begin leaves fits its layout
  fits : Fits (begun s₀)
  unfolding tried of_bytes
  fits = done-fits Call.begin b (record { reply = began handle clock; store = begun s₀ }) m.begins refl

  seats : seat (new_txn s₀) s₀.places ≡ set s₀.places m.index (some t₀)
  unfolding new_txn
  seats = m.free.seated (new_txn s₀) ∙ ap₂ (λ (n c : ℕ). set s₀.places m.index (some (make_txn n c true [] [] []))) (sym m.next) (sym m.reads)

  -- one part after the other
  abbrev s₁ : Store
  s₁ = with_counter handle s₀

  abbrev s₂ : Store
  s₂ = with_places (set s₀.places m.index (some t₀)) s₁

  abbrev rs₀ : List Row
  rs₀ = add_reader clock s₀.readers

  begun-is : begun s₀ ≡ with_readers rs₀ s₂
  unfolding begun
  begun-is =
      ap₂ (λ (c : ℕ) (ps : List (Option Txn)). with_readers (add_reader c s₀.readers) (with_places ps (with_counter (s₀.counter + 1) s₀))) (sym m.reads) seats
      ∙ ap (λ (n : ℕ). with_readers rs₀ (with_places (set s₀.places m.index (some t₀)) (with_counter n s₀))) (sym m.next)

  fits₃ : Fits (with_readers rs₀ s₂)
  fits₃ = subst Fits begun-is fits

  seat-fits : OkPlace st₀ (some t₀)
  seat-fits = subst (OkPlace st₀) (get_or-set_same s₀.places m.index (some t₀) none m.free.inside) (inside.all-at (OkPlace st₀) (set s₀.places m.index (some t₀)) fits₃.places.0 m.index none (rw length-set m.free.inside))

  abbrev enough : state_length st₀ ≤ length b
  enough = sound-enough b h

  fits₁ : Fits s₁
  fits₁ = fits-counter s₀ b enough (sound-fits s₀ (sound-in b h)) handle fits₃.counter

  fits₂ : Fits s₂
  fits₂ = fits-places s₁ b enough fits₁ (set s₀.places m.index (some t₀)) fits₃.places

  -- the place written
  abbrev b₂ : Bytes
  b₂ = over b₁ start y₁

  written₂ : b₂ ≡ write_store s₂ b
  written₂ =
      ap₂ (λ (a : ℕ) (y : Bytes). over b₁ a y) m.place y-is
      ∙ ap (λ (u : Bytes). over u (place_at st₀ m.index) ((place_slot st₀).write (some t₀) (place_part st₀ b m.index))) (sym (inside.change-counter b s₀ o (sound-read b h) handle))
      ∙ sym (write-place s₁ b enough fits₁ (inside.lies b s₀ o (sound-read b h)).places m.index among (some t₀) seat-fits)

  y-long : length y₁ ≡ stride st₀
  y-long = ap length y-is ∙ (place-laws st₀).long (place_part st₀ b m.index) (some t₀) (inside.place_at_lem b s₀ o (sound-read b h) m.index among).long seat-fits ∙ place-width st₀

  -- the rows are still as they were
  rows₂ : part b₂ start_rows (z.history - start_rows) ≡ rows_part st₀ b
  rows₂ =
      part-over-before b₁ start y₁ (omega (arith, long₁, place_inside)) start_rows (z.history - start_rows) (omega (arith, place_inside))
      ∙ part-over-after b 80 (big_endian 8 handle) (omega (arith, place_inside)) start_rows (z.history - start_rows) (omega (arith, length-big_endian 8 handle))
      ∙ rows-lent b o h z m.shape b

  rows-still : rows_in (part b₂ start_rows (z.history - start_rows)) ≡ s₀.readers
  rows-still = ap rows_in rows₂ ∙ part-rows st₀ (rows_part st₀ b) s₀.readers (inside.lies b s₀ o (sound-read b h)).readers

  pub rowed₂ : Rowed (part b₂ start_rows (z.history - start_rows))
  rowed₂ = subst Rowed (sym rows₂) (sound-rowed b s₀ (inside.lies b s₀ o (sound-read b h)) (sound-in b h))

  pub fine₂ : checked (part b₂ start_rows (z.history - start_rows)) clock ≡ Ok tt
  fine₂ = ap (λ (q : Bytes). checked q clock) rows₂ ∙ m.row

  long₂ : length b₂ ≡ length b
  long₂ = length_over b₁ start y₁ (omega (arith, y-long, S.stride, long₁, place_inside)) ∙ long₁

  -- and then the rows
  pub entered : over b₂ start_rows (lay_rows (add_reader clock (rows_in (part b₂ start_rows (z.history - start_rows)))) (part b₂ start_rows (z.history - start_rows))) ≡ write_store (begun (store_in b)) b
  entered =
      ap₂ (λ (rs : List Row) (q : Bytes). over b₂ start_rows (lay_rows (add_reader clock rs) q)) rows-still (rows-lent b o h z m.shape b₂)
      ∙ rows-laid st₀ b₂ rs₀ fits₃.readers (omega (arith, long₂, S.rows-wide, place_inside))
      ∙ ap (λ (u : Bytes). over u start_rows ((listed row_stream).put rs₀)) written₂
      ∙ sym (write-readers s₂ b enough fits₂ (inside.lies b s₀ o (sound-read b h)).readers rs₀ fits₃.readers)
      ∙ ap (λ (x : Store). write_store x b) (sym begun-is)

  rooms-are : rooms_in z ≡ rooms_of st₀
  rooms-are = let e = S.own in let f = S.reads in let g = S.writes in let h = S.serializable in cc

  -- ---- the same as code has it: each part lent, and what it came back as
  module _ (c₁ : Bytes) (e₁ : c₁ ≡ over b 80 (big_endian 8 handle)) where
    pub lent-long : length (part c₁ start (start + z.stride - start)) ≡ stride_of (rooms_in z)
    lent-long = ap (λ (u : Bytes). length (part u start (start + z.stride - start))) e₁ ∙ place-long ∙ ap stride_of (sym rooms-are)

    pub lent-inside : length c₁ ≡ length b
    lent-inside = ap length e₁ ∙ long₁

    module _ (y : Bytes) (e₂ : y ≡ (place_of (rooms_in z)).write (some (make_txn handle clock true [] [] [])) (part c₁ start (start + z.stride - start))) where
      abbrev c₂ : Bytes
      c₂ = take start c₁ ++ (y ++ drop (start + z.stride - start) (drop start c₁))

      y-same : y ≡ y₁
      y-same = e₂ ∙ ap₂ (λ (r : Rooms) (u : Bytes). (place_of r).write (some t₀) (part u start (start + z.stride - start))) rooms-are e₁

      same₂ : c₂ ≡ b₂
      same₂ = over-lent c₁ y start (start + z.stride - start) (ap length y-same ∙ y-long ∙ sym S.stride ∙ sym-width) ∙ ap₂ (λ (u v : Bytes). over u start v) e₁ y-same
        where
          sym-width : z.stride ≡ start + z.stride - start
          sym-width = omega arith

      pub lent-inside₂ : length c₂ ≡ length b
      lent-inside₂ = ap length same₂ ∙ long₂

      pub lent-rowed : Rowed (part c₂ start_rows (z.history - start_rows)) × (checked (part c₂ start_rows (z.history - start_rows)) clock ≡ Ok tt)
      lent-rowed = (subst (λ (u : Bytes). Rowed (part u start_rows (z.history - start_rows))) (sym same₂) rowed₂, ap (λ (u : Bytes). checked (part u start_rows (z.history - start_rows)) clock) same₂ ∙ fine₂)

      pub lent-entered : (x : Bytes) → x ≡ lay_rows (add_reader clock (rows_in (part c₂ start_rows (z.history - start_rows)))) (part c₂ start_rows (z.history - start_rows))
          → take start_rows c₂ ++ (x ++ drop (z.history - start_rows) (drop start_rows c₂)) ≡ write_store (begun (store_in b)) b
      lent-entered x e₃ =
          let q : Bytes = part c₂ start_rows (z.history - start_rows) in
          let l : length q ≡ z.history - start_rows = length_part c₂ start_rows (z.history - start_rows) (omega (arith, lent-inside₂, place_inside)) in
          let e : rows_in q ≡ s₀.readers = ap (λ (u : Bytes). rows_in (part u start_rows (z.history - start_rows))) same₂ ∙ rows-still in
          let n : length x ≡ z.history - start_rows = ap length (e₃ ∙ ap (λ (rs : List Row). lay_rows (add_reader clock rs) q) e ∙ lay-over rs₀ q) ∙ length_over q 0 ((listed row_stream).put rs₀) (omega (arith, fits₃.readers.1, l, S.rows-wide)) ∙ l in
          over-lent c₂ x start_rows (z.history - start_rows) n
          ∙ ap (over c₂ start_rows) e₃
          ∙ ap (λ (u : Bytes). over u start_rows (lay_rows (add_reader clock (rows_in (part u start_rows (z.history - start_rows)))) (part u start_rows (z.history - start_rows)))) same₂
          ∙ entered

-- ---- what the answer of the rows' check means
module _ (x y : Bool) where
  of-full : Err Full ≡ judged x y → x ≡ false
  of-full = go x y
    where
      go : (x y : Bool) → Err Full ≡ judged x y → x ≡ false
      go true true e = absurd (let z : ◌≡◌ {A = ℕ} 0 1 = cc in omega arith)
      go true false e = absurd (let z : ◌≡◌ {A = ℕ} 0 1 = cc in omega arith)
      go false y e = refl

  of-most : Err Most ≡ judged x y → (x ≡ true) × (y ≡ false)
  of-most = go x y
    where
      go : (x y : Bool) → Err Most ≡ judged x y → (x ≡ true) × (y ≡ false)
      go true true e = absurd (let z : ◌≡◌ {A = ℕ} 0 1 = cc in omega arith)
      go true false e = (refl, refl)
      go false y e = absurd (let z : ◌≡◌ {A = ℕ} 0 1 = cc in omega arith)

  of-fine : Ok tt ≡ judged x y → (x ≡ true) × (y ≡ true)
  of-fine = go x y
    where
      go : (x y : Bool) → Ok tt ≡ judged x y → (x ≡ true) × (y ≡ true)
      go true true e = (refl, refl)
      go true false e = absurd (let z : ◌≡◌ {A = ℕ} 0 1 = cc in omega arith)
      go false y e = absurd (let z : ◌≡◌ {A = ℕ} 0 1 = cc in omega arith)

-- ---- each return of `begin`
module _ (b : Bytes) (o : octets b ≡ true) (h : sound_state b ≡ true) (z : Shape) (e : z ≡ shape_of (store_in b).settings) where
  module _ (q : Bytes) (lent : q ≡ part b z.places (z.count * z.stride)) where
    sought : (r : Found ℕ) → r ≡ found_in q 0 z.stride (length q / z.stride) 0 → lie.FreeFound (store_in b).settings b (store_in b).places (inside.lies b (store_in b) o (sound-read b h)).places r
    sought r f =
        let S : Shaped (store_in b).settings z = shape-fits b o h z e in
        lie.free-found (store_in b).settings b (store_in b).places (inside.lies b (store_in b) o (sound-read b h)).places r
        (f ∙ ap₂ (λ (u : Bytes) (w : ℕ). found_in u 0 w (length u / w) 0) (lent ∙ places-lent b o h z e) S.stride)

    pub no_place : None ≡ found_in q 0 z.stride (length q / z.stride) 0 → ◌≡◌ {A = Told × Bytes} (why (no_room places), b) (told_on Call.begin b)
    unfolding tried
    no_place f = sym (refused-told Call.begin b (no_room places) (begin-full (store_in b) (sound-in b h) (sought None f)))

    module _ (i : ℕ) (f : Some i ≡ found_in q 0 z.stride (length q / z.stride) 0) where
      free-there : lie.FreeAt (store_in b).places i
      free-there = sought (Some i) f

      nearby : z.places + i * z.stride ≡ place_at (store_in b).settings i
      nearby = let S = shape-fits b o h z e in ap₂ (λ (n w : ℕ). n + i * w) S.places S.stride

      pub begin-small : z.places + i * z.stride < 134217728
      begin-small =
          let S = shape-fits b o h z e in
          omega (arith, nearby, place_end (store_in b).settings i (omega (arith, free-there.inside, lie.count-is (store_in b).settings b (store_in b).places (inside.lies b (store_in b) o (sound-read b h)).places)), S.small)

  tells : (r : Refusal) → try_begin (store_in b) ≡ stop r → (why r, b) ≡ told_on Call.begin b
  unfolding tried
  tells r f = sym (refused-told Call.begin b r f)

  module _ (q : Bytes) (lent : q ≡ part b z.places (z.count * z.stride)) (i : ℕ) (f : Some i ≡ found_in q 0 z.stride (length q / z.stride) 0) (start : ℕ) (a : start ≡ z.places + i * z.stride) where
    here-free : (start ≡ place_at (store_in b).settings i) × lie.FreeAt (store_in b).places i
    here-free = (a ∙ nearby q lent i f, free-there q lent i f)

    few : length (txns_of (store_in b).places) < (store_in b).settings.transactions
    few = omega (arith, here-free.1.few, lie.count-is (store_in b).settings b (store_in b).places (inside.lies b (store_in b) o (sound-read b h)).places)

    module _ (clock : ℕ) (c : clock ≡ number_from 0 (part b 72 8)) where
      abbrev fits? : Bool
      fits? = table_fits (store_in b).settings.transactions (store_in b).readers (store_in b).clock

      abbrev below? : Bool
      below? = ltb (readers_at (store_in b).clock (store_in b).readers) most_number

      no_row : Err Full ≡ checked (part b start_rows (z.history - start_rows)) clock → ◌≡◌ {A = Told × Bytes} (why (no_room reader_table), b) (told_on Call.begin b)
      no_row q = tells (no_room reader_table) (begin-table (store_in b) (sound-in b h) few (of-full fits? below? (checks b o h z e (Err Full) clock c q)))

      most-readers : Err Most ≡ checked (part b start_rows (z.history - start_rows)) clock → ◌≡◌ {A = Told × Bytes} (why counter_full, b) (told_on Call.begin b)
      most-readers q = let w = of-most fits? below? (checks b o h z e (Err Most) clock c q) in tells counter_full (begin-most (store_in b) (sound-in b h) few w.0 w.1)

      pub row-refused : (w : RowRefusal) → Err w ≡ checked (part b start_rows (z.history - start_rows)) clock → ◌≡◌ {A = Told × Bytes} (why (row_refusal w), b) (told_on Call.begin b)
      row-refused Full q = no_row q
      row-refused Most q = most-readers q

      module _ (kept : Ok tt ≡ checked (part b start_rows (z.history - start_rows)) clock) (counter : ℕ) (n : counter ≡ number_from 0 (part b 80 8)) where
        fine : (fits? ≡ true) × (below? ≡ true)
        fine = of-fine fits? below? (checks b o h z e (Ok tt) clock c kept)

        count-is : counter ≡ (store_in b).counter
        count-is = n ∙ counter-is b o h z e

        pub most-handles : ¬ (counter + 1 < 18446744073709551616) → ◌≡◌ {A = Told × Bytes} (why counter_full, b) (told_on Call.begin b)
        most-handles l = let m : 18446744073709551615 ≤ (store_in b).counter = omega (arith, l, count-is) in tells counter_full (begin-counter (store_in b) (sound-in b h) few fine.0 m)

        -- the next handle is the counter and one
        module _ (new : ℕ) (k : SomeIff (Some new) (counter + 1 < 18446744073709551616) (counter + 1)) where
          begins : try_begin (store_in b) ≡ go (record { reply = began new clock; store = begun (store_in b) })
          begins =
              begin-done (store_in b) (sound-in b h) few fine.0 fine.1 (omega (arith, k.0, count-is))
              ∙ ap₂ (λ (x y : ℕ). go (record { reply = began x y; store = begun (store_in b) })) (ap (λ (x : ℕ). x + 1) (sym count-is) ∙ sym k.1) (sym (c ∙ clock-is b o h z e))

          pub may-begin : MayBegin b z start new clock
          may-begin =
              record {
                sound = h;
                shape = e;
                index = i;
                free = here-free.1;
                place = here-free.0;
                row = ap (λ (u : Bytes). checked u clock) (sym (rows-lent b o h z e b)) ∙ sym kept;
                next = k.1 ∙ ap (λ (x : ℕ). x + 1) count-is;
                reads = c ∙ clock-is b o h z e;
                begins = begins;
              }

          pub begins-told : (a : Bytes) → a ≡ write_store (begun (store_in b)) b → ◌≡◌ {A = Told × Bytes} (handle new clock, a) (told_on Call.begin b)
          unfolding tried told
          begins-told a w = ap (λ (u : Bytes). (handle new clock, u)) w ∙ sym (done-told Call.begin b (record { reply = began new clock; store = begun (store_in b) }) begins)
