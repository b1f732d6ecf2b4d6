-- A put on a sound state, return by return: from what the code found to what the paper's put tells, and the state's bytes after it.
-- Assumes nothing.
use Rattle.std.specs.Prelude.{Result, Ok, Err, ⊤}
use Prim.Native.Nat.{ℕ, ◌+◌, ◌-◌, ◌≤◌, ◌<◌}
use native.Mathlib.Omega.{arith}
use mathlib.Core.Path.{◌≡◌, sym, ap, ap₂, ◌∙◌, subst}
use mathlib.Core.Bool.{true}
use mathlib.Core.List.{List, [], ◌++◌}
use mathlib.Core.Option.{Option, none, some}
use lib.ListN.{length, take, drop, set, length-set}
use lib.Seq.{get_or-set_same}
use Rattle.paper.specs.Keys.{Bytes, octets}
use Rattle.paper.specs.Hash.{hash_of}
use Rattle.paper.specs.Refusals.{Refusal, Try, stop, go}
use Rattle.paper.specs.Settings.{Settings, longest}
use Rattle.paper.specs.Store.{Txn, Store, put_txn, with_writes, with_places, with_txn}
use Rattle.paper.specs.Sound.{sound, sound_txn}
use Rattle.paper.specs.Calls.{done, Outcome, in_open_txn, good_key_value, Call, tried, of_bytes}
use Rattle.paper.proofs.Bools.{and_intro}
use Rattle.paper.proofs.PlaceLaws.{found_all}
use Rattle.paper.proofs.SoundLaws.{rules}
use Rattle.raw.specs.Bytes.{part, over}
use Rattle.raw.proofs.Parts.{length_part}
use Rattle.raw.proofs.Over.{over-lent, over-part}
use Rattle.layout.specs.Codec.{Slot}
use Rattle.layout.specs.Offsets.{stride, place_part}
use Rattle.layout.specs.Layout.{place_slot, write_store, store_in, sound_state, on_bytes}
use Rattle.layout.proofs.LayoutLaws.{OkPlace, Fits, place-laws, place-width}
use Rattle.layout.proofs.Sides.{Has}
use Rattle.layout.proofs.SoundState.{sound-read, sound-enough, sound-in}
use Rattle.layout.proofs.SoundFits.{sound-places}
use Rattle.layout.proofs.Changes.{place_end}
use Rattle.layout.proofs.Inside as inside
use Rattle.settings.specs.declared.Shape.{Shape}
use Rattle.settings.specs.Shapes.{shape_of}
use Rattle.settings.proofs.Shapes.{Shaped}
use Rattle.txn.specs.declared.Rooms.{Rooms}
use Rattle.txn.specs.Place.{rooms_of, rooms_in, stride_of, orderly}
use Rattle.txn.proofs.Callers.{slot_same, place-long, steady, txn-is}
use Rattle.seat.specs.Seats.{Seated}
use Rattle.seat.proofs.Finding.{shape-fits}
use Rattle.reply.specs.Told.{Told, told, why, nothing, refusal_of, told_settled, try_of}
use Rattle.reply.specs.OnBytes.{told_on}
use Rattle.reply.specs.declared.Refusal as reasons
use Rattle.reply.proofs.Ends.{refused-told, done-told, done-fits}
use Rattle.writing.specs.Writes.{written, room_for, write_on}
use Rattle.writing.proofs.Checks.{lengths-held}
use Rattle.writing.proofs.Putting.{put_unentered, put-bad, put_full, put-done}
use Rattle.writing.proofs.Placing.{written_as, room-is, left_is, as-txn}

-- the rooms that a shape grants are the settings'
rooms-are : (st : Settings) (z : Shape) → Shaped st z → rooms_in z ≡ rooms_of st
rooms-are st z S = let e = S.own in let f = S.reads in let g = S.writes in let h = S.serializable in cc

-- the place that begins at an index, as it is lent
abbrev pub place_in : Shape → Bytes → ℕ → Bytes
place_in z b at = part b at (at + z.stride - at)

-- and the bytes after it came back as x
abbrev pub placed_in : Shape → Bytes → ℕ → Bytes → Bytes
placed_in z b at x = take at b ++ (x ++ drop (at + z.stride - at) (drop at b))

module _ (b : Bytes) (o : octets b ≡ true) (h : sound_state b ≡ true) (handle : ℕ) (k v : Bytes) where
  abbrev s : Store
  s = store_in b

  abbrev st : Settings
  st = (store_in b).settings

  abbrev call : Call
  call = Call.put handle k v

  good : sound (store_in b) ≡ true
  good = sound-in b h

  -- 3, 4
  pub told_unentered : (w : reasons.Refusal) → in_open_txn (store_in b) handle ≡ stop (refusal_of w) → ◌≡◌ {A = Told × Bytes} (why (refusal_of w), b) (told_on (Call.put handle k v) b)
  told_unentered w f = sym (refused-told call b (refusal_of w) (put_unentered s handle k v good (refusal_of w) f))

  module _ (at read : ℕ) (here : Seated (store_in b) handle at read true) where
    abbrev t : Txn
    t = here.txn

    abbrev i : ℕ
    i = here.index

    -- 1, 2
    pub told-bad : (w : reasons.Refusal) → stop (refusal_of w) ≡ good_key_value k v → ◌≡◌ {A = Told × Bytes} (why (refusal_of w), b) (told_on (Call.put handle k v) b)
    told-bad w p = sym (refused-told call b (refusal_of w) (put-bad s handle k v good here.txn here.found here.marked (refusal_of w) (sym p)))

    -- the transaction in its place
    seated-here : Has (place_slot (store_in b).settings) (place_part (store_in b).settings b here.index) (some here.txn)
    seated-here = subst (Has (place_slot st) (place_part st b i)) here.here (inside.place_at_lem b s o (sound-read b h) i here.inside)

    txn-sound : sound_txn (store_in b).settings (store_in b).counter (store_in b).clock here.txn ≡ true
    txn-sound = found_all (sound_txn st s.counter s.clock) handle t s.places here.found (rules s good).txns

    module _ (z : Shape) (e : z ≡ shape_of (store_in b).settings) where
      Z : Shaped (store_in b).settings z
      Z = shape-fits b o h z e

      abbrev n : ℕ
      n = at + z.stride - at

      -- the place lies in the state
      pub place_inside : (at + z.stride ≤ length b) × (at + z.stride < 134217728)
      place_inside =
          let l = place_end st i here.inside in
          (omega (arith, l, here.start, Z.stride, sound-enough b h), omega (arith, l, here.start, Z.stride, Z.small))

      wide : n ≡ stride (store_in b).settings
      wide = omega (arith, Z.stride)

      -- and is the transaction's
      place_is : part b at n ≡ place_part (store_in b).settings b here.index
      place_is = ap₂ (λ (a w : ℕ). part b a w) here.start wide

      pub place-ready : (length (place_in z b at) ≡ stride_of (rooms_in z)) × (orderly (rooms_in z) (place_in z b at) ≡ true)
      place-ready =
          let y : rooms_in z ≡ rooms_of st = rooms-are st z Z in (
            ap length place_is ∙ place-long st (place_part st b i) t seated-here ∙ ap stride_of (sym y),
            ap₂ (λ (a : Rooms) (q : Bytes). orderly a q) y place_is ∙ steady st (place_part st b i) t seated-here s.counter s.clock txn-sound,
          )

      module _ (p : go tt ≡ good_key_value k v) where
        fine : good_key_value k v ≡ go tt
        fine = sym p

        pub write-ready : (length (place_in z b at) ≡ stride_of (rooms_in z)) × (orderly (rooms_in z) (place_in z b at) ≡ true) × (length k ≤ longest) × (length v ≤ longest)
        write-ready = let l = lengths-held k v fine in (place-ready.0, place-ready.1, l.0, l.1)

        -- the transaction after the write, and the place before it
        abbrev u : Txn
        u = written (store_in b).settings.serializable k v (hash_of k) here.txn

        abbrev q : Bytes
        q = place_part (store_in b).settings b here.index

        -- ---- 5
        module _ (w : Refusal) (r : room_for (rooms_of (store_in b).settings) u ≡ stop w) where
          told-full : told_on (Call.put handle k v) b ≡ (why w, b)
          told-full = refused-told call b w (put_full s handle k v good t here.found here.marked fine w r)

        -- ---- done
        module _ (ok : octets k ≡ true) (ov : octets v ≡ true) (r : room_for (rooms_of (store_in b).settings) u ≡ go tt) where
          abbrev after : Outcome
          after = record { reply = done; store = with_txn u (store_in b) }

          ends : tried (store_in b) call ≡ go after
          ends = put-done s handle k v good t here.found here.marked fine r

          store_is : with_txn u (store_in b) ≡ with_places (set (store_in b).places i (some u)) (store_in b)
          unfolding with_txn with_writes
          store_is = ap (λ (ps : List (Option Txn)). with_places ps s) (ap (λ (j : ℕ). put_txn j (some u) s.places) here.handle ∙ here.put (some u))

          fits-there : Fits (with_places (set (store_in b).places i (some u)) (store_in b))
          unfolding of_bytes
          fits-there = subst Fits store_is (done-fits call b after ends (and_intro ok ov))

          ok-place : OkPlace (store_in b).settings (some u)
          ok-place =
              let l : i < length s.places = omega (arith, here.inside, sound-places s good) in
              subst (OkPlace st) (get_or-set_same s.places i (some u) none l) (inside.all-at (OkPlace st) (set s.places i (some u)) fits-there.places.0 i none (rw length-set l))

          -- the place alone is written
          change : write_store (with_txn u (store_in b)) b ≡ over b at ((place_slot (store_in b).settings).write (some u) q)
          change =
              ap (λ (y : Store). write_store y b) store_is ∙ inside.change-place b s o (sound-read b h) i here.inside (some u) ok-place
              ∙ ap (λ (j : ℕ). over b j ((place_slot st).write (some u) q)) (sym here.start)

          new-long : length ((place_slot (store_in b).settings).write (some u) q) ≡ n
          new-long = (place-laws st).long q (some u) seated-here.long ok-place ∙ place-width st ∙ sym wide

          told-done : told_on (Call.put handle k v) b ≡ (nothing, over b at ((place_slot (store_in b).settings).write (some u) q))
          unfolding told
          told-done = done-told call b after ends ∙ ap {B = Told × Bytes} (λ y. (nothing, y)) change

        -- ---- as the code returns
        module _ (ok : octets k ≡ true) (ov : octets v ≡ true) (x : Bytes) where
          by_answer : (r : Result ⊤ reasons.Refusal) → ◌≡◌ {A = Try (Unit {0}) × Bytes} (try_of r, x) (written_as (rooms_of (store_in b).settings) q k v here.txn)
              → ◌≡◌ {A = Told × Bytes} (told_settled r, placed_in z b at x) (told_on (Call.put handle k v) b)
          by_answer (Ok _) e =
              let w : room_for (rooms_of st) u ≡ go tt = room-is (rooms_of st) q k v t x (go tt) e in
              let y : x ≡ (place_slot st).write (some u) q = left_is (rooms_of st) q k v t x (go tt) e ∙ ap (λ (S : Slot (Option Txn)). S.write (some u) q) (sym (slot_same st)) in
              let c : placed_in z b at x ≡ over b at ((place_slot st).write (some u) q) = over-lent b x at n (ap length y ∙ new-long ok ov w) ∙ ap (over b at) y in
              ap {B = Told × Bytes} (λ l. (nothing, l)) c ∙ sym (told-done ok ov w)
          by_answer (Err why-not) e =
              let w : room_for (rooms_of st) u ≡ stop (refusal_of why-not) = room-is (rooms_of st) q k v t x (stop (refusal_of why-not)) e in
              let y : x ≡ part b at n = left_is (rooms_of st) q k v t x (stop (refusal_of why-not)) e ∙ sym place_is in
              let l : at + n ≤ length b = omega (arith, place_inside) in
              let c : placed_in z b at x ≡ b = over-lent b x at n (ap length y ∙ length_part b at n l) ∙ ap (over b at) y ∙ over-part b at n l in
              ap {B = Told × Bytes} (λ j. (why (refusal_of why-not), j)) c ∙ sym (told-full (refusal_of why-not) w)

          pub told-written : (r : Result ⊤ reasons.Refusal) → ◌≡◌ {A = Try (Unit {0}) × Bytes} (try_of r, x) (write_on (rooms_in z) (place_in z b at) k v)
              → ◌≡◌ {A = Told × Bytes} (told_settled r, placed_in z b at x) (told_on (Call.put handle k v) b)
          told-written r e =
              by_answer r
              (e ∙ ap₂ (λ (a : Rooms) (y : Bytes). write_on a y k v) (rooms-are st z Z) place_is
              ∙ as-txn (rooms_of st) q k v t (txn-is st q t seated-here s.counter s.clock txn-sound))

-- 'An empty value is a deletion'
pub told-deleted : (b : Bytes) (handle : ℕ) (k : Bytes) (r : Result ⊤ reasons.Refusal) (x : Bytes) → ◌≡◌ {A = Told × Bytes} (told_settled r, x) (told_on (Call.put handle k []) b) → ◌≡◌ {A = Told × Bytes} (told_settled r, x) (told_on (Call.delete handle k) b)
unfolding told_on on_bytes tried
told-deleted b handle k r x e = e
