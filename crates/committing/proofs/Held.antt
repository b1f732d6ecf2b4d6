-- The transaction at a place is the store's: where its place lies, and what stands there.
-- Assumes nothing.
use Prim.Native.Nat.{ℕ, zero, suc, ◌+◌, ◌*◌, ◌-◌, ◌<◌, ◌≤◌, compare}
use native.Mathlib.Omega.{arith}
use mathlib.Core.Path.{◌≡◌, refl, sym, ap, ap₂, ◌∙◌, subst}
use mathlib.Core.Bool.{Bool, true, false, ◌&&◌, cond}
use mathlib.Core.List.{List, [], ◌∷◌}
use mathlib.Core.Option.{Option, none, some, none-ne-some, some-injective}
use lib.ListN.{length, get_or}
use lib.Dec.{leb}
use Rattle.paper.specs.Lists.{all, total, rises, is_empty}
use Rattle.paper.specs.Keys.{Bytes, Pair, octets, cmp_pair}
use Rattle.paper.specs.Image.{number_from}
use Rattle.paper.specs.Settings.{Settings}
use Rattle.paper.specs.Store.{Txn, Store, txns_of, pair_size, own_size}
use Rattle.paper.specs.Sound.{is_set, is_hash, sound_pair, sound_set, txn_rules, sound_txn}
use Rattle.paper.proofs.Bools.{and_left, and_intro}
use Rattle.paper.proofs.Alls.{rule, all_head, all_tail}
use Rattle.paper.proofs.SoundLaws.{rules}
use Rattle.raw.specs.Bytes.{part}
use Rattle.raw.proofs.Parts.{length_part}
use Rattle.raw.proofs.Octets.{octets-part}
use Rattle.layout.specs.Codec.{flag_number, sized, many, room}
use Rattle.layout.specs.Offsets.{stride, place_at, place_part, place_reads, place_writes}
use Rattle.layout.specs.Layout.{read_store, store_in, place_slot, pair_stream, hashes_stream}
use Rattle.layout.proofs.SoundState.{sound-read, sound-enough, sound-in}
use Rattle.layout.proofs.Sides.{Has}
use Rattle.layout.proofs.Changes.{place_end}
use Rattle.layout.proofs.Inside as inside
use Rattle.settings.specs.declared.Shape.{Shape}
use Rattle.settings.proofs.Shapes.{Shaped, shaped}
use Rattle.overlay.specs.Overlay.{own_in, overlay_in, pairs_in, is_overlay}
use Rattle.overlay.proofs.Pairs.{overlay-of, overlay-packed, length-own}
use Rattle.txn.specs.Place.{used_at}
use Rattle.txn.proofs.Reading.{room-holds, SetAt, set_there}
use Rattle.txn.proofs.Callers as callers
use Rattle.committing.specs.Held.{Placed, held_at}

-- what holds of every transaction holds of the one at a place
pub at_all : (q : Txn → Bool) (t : Txn) (ps : List (Option Txn)) (i : ℕ) → get_or ps i none ≡ some t → all q (txns_of ps) ≡ true → q t ≡ true
unfolding txns_of
at_all q t [] i e a = absurd (none-ne-some t e)
at_all q t (none ∷ ps) zero e a = absurd (none-ne-some t e)
at_all q t (none ∷ ps) (suc i) e a = at_all q t ps i e a
at_all q t (some u ∷ ps) zero e a = ap q (sym (some-injective u t e)) ∙ all_head q u (txns_of ps) a
at_all q t (some u ∷ ps) (suc i) e a = at_all q t ps i e (all_tail q u (txns_of ps) a)

-- own writes take bytes
own-empty : (own : List Pair) → own_size own ≡ 0 → is_empty own ≡ true
unfolding own_size total pair_size
own-empty [] e = refl
own-empty (p ∷ ps) e = absurd (omega (arith, e))

own-full : (own : List Pair) → (own_size own ≡ 0 → ⊥) → is_empty own ≡ false
unfolding own_size total
own-full [] e = absurd (e refl)
own-full (p ∷ ps) e = refl

-- a sound set is one
sound-set : (m : Bool) (count : ℕ) (hs : List ℕ) → sound_set m count hs ≡ true → is_set hs ≡ true
unfolding sound_set
sound-set m count hs h = and_left (is_set hs) (leb (length hs) (cond m count 0)) h

-- a set rises
pub set-rises : (hs : List ℕ) → is_set hs ≡ true → rises compare hs ≡ true
unfolding is_set
set-rises hs h = and_left (rises compare hs) (all is_hash hs) h

-- where the history, the active run, the run area and a place lie: one after the other, in the first 128 MiB of the state
pub record Lying (b : Bytes) (z : Shape) (place : ℕ) : Type 0 where
  pub rows : 88 + (8 + 16 * z.count) ≡ z.history
  pub history : z.history + (8 + 16 * z.entries + 4 * z.hashes) ≡ z.active
  pub active : z.active + 8 ≤ z.area
  pub area : z.area + 136 ≤ z.places
  pub places : z.places ≤ place
  pub wide : z.stride ≡ 48 + z.own + 4 * z.reads + 4 * z.writes
  pub inside : place + z.stride ≤ length b
  pub small : place + z.stride < 134217728

-- a place that is a transaction's lies where its shape puts it
pub held_shape : {b : Bytes} {z : Shape} {place : ℕ} → Placed b z place → Shaped (store_in b).settings z
held_shape {b} {z} p = shaped (store_in b).settings (rules (store_in b) (sound-in b p.sound)).ranges z p.shape

pub held_lies : {b : Bytes} {z : Shape} {place : ℕ} → Placed b z place → Lying b z place
held_lies {b} p =
    let S = held_shape p in
    let e = place_end (store_in b).settings p.index p.inside in
    record {
      rows = omega (arith, S.rows-wide, S.count);
      history = omega (arith, S.history-wide, S.entries, S.hashes);
      active = omega (arith, S.active-wide);
      area = omega (arith, S.area-wide);
      places = omega (arith, S.places, p.start);
      wide = omega (arith, S.place-wide, S.own, S.reads, S.writes);
      inside = omega (arith, S.stride, p.start, e, sound-enough b p.sound);
      small = omega (arith, S.stride, p.start, e, S.small);
    }

module _ (b : Bytes) (o : octets b ≡ true) (z : Shape) (place : ℕ) (p : Placed b z place) where
  abbrev s : Store
  s = store_in b

  abbrev st : Settings
  st = (store_in b).settings

  abbrev t : Txn
  t = p.txn

  abbrev i : ℕ
  i = p.index

  reads_as : read_store b ≡ some s
  reads_as = sound-read b p.sound

  -- 'overlays strictly rising ..; sets without repeats ..': its transaction keeps the rules of one
  pub held-rules : sound_txn (store_in b).settings (store_in b).counter (store_in b).clock p.txn ≡ true
  held-rules = at_all (sound_txn st s.counter s.clock) t s.places i p.here (rules s (sound-in b p.sound)).txns

  -- the bytes of the place
  place_same : part b place (stride st) ≡ place_part st b i
  place_same = ap (λ (n : ℕ). part b n (stride st)) p.start

  pub held_place : Has (place_slot (store_in b).settings) (part b place (stride (store_in b).settings)) (some p.txn)
  held_place = subst (λ (q : Bytes). Has (place_slot st) q (some t)) (sym place_same) (subst (Has (place_slot st) (place_part st b i)) p.here (inside.place_at_lem b s o reads_as i p.inside))

  -- the transaction that stands there
  pub held-is : held_at b place ≡ p.txn
  unfolding held_at
  held-is = callers.txn-is st (part b place (stride st)) t held_place s.counter s.clock held-rules

  pub held-sound : sound_txn (store_in b).settings (store_in b).counter (store_in b).clock (held_at b place) ≡ true
  held-sound = ap (sound_txn st s.counter s.clock) held-is ∙ held-rules

  pub held-here : get_or (store_in b).places p.index none ≡ some (held_at b place)
  held-here = p.here ∙ ap some (sym held-is)

  -- ---- its read number and its mark
  pub held-read : number_from 0 (part b (place + 8) 8) ≡ (held_at b place).read
  held-read = ap (λ (n : ℕ). number_from 0 (part b (n + 8) 8)) p.start ∙ inside.read_at b s o reads_as i p.inside t p.here ∙ ap (λ (u : Txn). u.read) (sym held-is)

  pub held-mark : number_from 0 (part b (place + 16) 8) ≡ flag_number (held_at b place).open?
  held-mark = ap (λ (n : ℕ). number_from 0 (part b (n + 16) 8)) p.start ∙ inside.mark-at b s o reads_as i p.inside t p.here ∙ ap (λ (u : Txn). flag_number u.open?) (sym held-is)

  -- ---- its own writes: the number of their bytes at 24 of the place, and the entries behind it
  pub held-own-rises : rises cmp_pair (held_at b place).own ≡ true
  unfolding sound_txn txn_rules
  held-own-rises = rule 3 (txn_rules st s.counter s.clock (held_at b place)) held-sound

  pub held-own-sound : all sound_pair (held_at b place).own ≡ true
  unfolding sound_txn txn_rules
  held-own-sound = rule 4 (txn_rules st s.counter s.clock (held_at b place)) held-sound

  own_read : (used_at b (place + 24) ≤ st.overlay_bytes) × ((many pair_stream).parse (part b (place + 24 + 8) (used_at b (place + 24))) ≡ some t.own)
  own_read =
      let L = held_lies p in
      let S = held_shape p in
      let h : (room (8 + st.overlay_bytes) (sized 8 (many pair_stream))).read (part b (place + 24) (8 + st.overlay_bytes)) ≡ some t.own =
      ap (λ (n : ℕ). (room (8 + st.overlay_bytes) (sized 8 (many pair_stream))).read (part b (n + 24) (8 + st.overlay_bytes))) p.start ∙ (inside.own_at b s o reads_as i p.inside t p.here).read in
      room-holds (many pair_stream) b (place + 24) st.overlay_bytes (omega (arith, L.inside, L.wide, S.own)) t.own h

  pub held-own-used : used_at b (place + 24) ≤ z.own
  held-own-used = omega (arith, own_read.0, (held_shape p).own)

  own-span : part b (place + 32) (place + 32 + used_at b (place + 24) - (place + 32)) ≡ part b (place + 24 + 8) (used_at b (place + 24))
  own-span =
      let e : place + 32 + used_at b (place + 24) - (place + 32) ≡ used_at b (place + 24) = omega arith in
      let f : place + 32 ≡ place + 24 + 8 = omega arith in
      ap₂ (part b) f e

  pub held-own-is : own_in b (place + 32) (place + 32 + used_at b (place + 24)) ≡ (held_at b place).own
  held-own-is = ap pairs_in own-span ∙ (overlay-of (part b (place + 24 + 8) (used_at b (place + 24))) t.own own_read.1).1 ∙ ap (λ (u : Txn). u.own) (sym held-is)

  pub held-own-in : overlay_in b (place + 32) (place + 32 + used_at b (place + 24)) ≡ true
  held-own-in =
      ap is_overlay own-span
      ∙ (overlay-of (part b (place + 24 + 8) (used_at b (place + 24))) t.own own_read.1).0
      ∙ ap (λ (u : Txn). rises cmp_pair u.own && all sound_pair u.own) (sym held-is)
      ∙ and_intro held-own-rises held-own-sound

  -- '4 bytes plus key and value for each entry'
  pub held-own-size : used_at b (place + 24) ≡ own_size (held_at b place).own
  held-own-size =
      let L = held_lies p in
      let u = held-own-used in
      let q : Bytes = part b (place + 32) (place + 32 + used_at b (place + 24) - (place + 32)) in
      let e : place + 32 + used_at b (place + 24) - (place + 32) ≡ used_at b (place + 24) = omega arith in
      sym (length_part b (place + 32) (place + 32 + used_at b (place + 24) - (place + 32)) (omega (arith, L.inside, L.wide)) ∙ e)
      ∙ ap length (sym (overlay-packed q (octets-part b (place + 32) (place + 32 + used_at b (place + 24) - (place + 32)) o) held-own-in))
      ∙ length-own (pairs_in q) ∙ ap own_size held-own-is

  -- there are writes exactly where these bytes are some
  pub held-own-none : used_at b (place + 24) ≡ 0 → is_empty (held_at b place).own ≡ true
  held-own-none e = own-empty (held_at b place).own (sym held-own-size ∙ e)

  pub held-own-some : (used_at b (place + 24) ≡ 0 → ⊥) → is_empty (held_at b place).own ≡ false
  held-own-some e = own-full (held_at b place).own (λ q. e (held-own-size ∙ q))

  -- ---- its sets: the number of their bytes, and the hashes behind it
  pub held_reads : SetAt b (place + 32 + z.own) z.reads (held_at b place).reads
  held_reads =
      let L = held_lies p in
      let S = held_shape p in
      let e : place_at st i + place_reads st ≡ place + 32 + z.own = omega (arith, p.start, S.own) in
      let r : (room (8 + 4 * z.reads) hashes_stream).read (part b (place + 32 + z.own) (8 + 4 * z.reads)) ≡ some (held_at b place).reads =
      ap₂ (λ (n m : ℕ). (room (8 + 4 * m) hashes_stream).read (part b n (8 + 4 * m))) (sym e) S.reads ∙ (inside.reads_at b s o reads_as i p.inside t p.here).read ∙ ap (λ (u : Txn). some u.reads) (sym held-is) in
      set_there b (place + 32 + z.own) z.reads (omega (arith, L.inside, L.wide)) (held_at b place).reads r

  pub held_writes : SetAt b (place + 32 + z.own + 8 + 4 * z.reads) z.writes (held_at b place).writes
  held_writes =
      let L = held_lies p in
      let S = held_shape p in
      let at : ℕ = place + 32 + z.own + 8 + 4 * z.reads in
      let e : place_at st i + place_writes st ≡ at = omega (arith, p.start, S.own, S.reads) in
      let r : (room (8 + 4 * z.writes) hashes_stream).read (part b at (8 + 4 * z.writes)) ≡ some (held_at b place).writes =
      ap₂ (λ (n m : ℕ). (room (8 + 4 * m) hashes_stream).read (part b n (8 + 4 * m))) (sym e) S.writes ∙ (inside.writes-at b s o reads_as i p.inside t p.here).read ∙ ap (λ (u : Txn). some u.writes) (sym held-is) in
      set_there b at z.writes (omega (arith, L.inside, L.wide)) (held_at b place).writes r

  -- 'sets without repeats', 'in the other mode sets .. are empty'
  pub held-reads-sound : sound_set (store_in b).settings.serializable (store_in b).settings.read_hashes (held_at b place).reads ≡ true
  unfolding sound_txn txn_rules
  held-reads-sound = rule 6 (txn_rules st s.counter s.clock (held_at b place)) held-sound

  pub held-writes-sound : sound_set (store_in b).settings.serializable (store_in b).settings.write_hashes (held_at b place).writes ≡ true
  unfolding sound_txn txn_rules
  held-writes-sound = rule 7 (txn_rules st s.counter s.clock (held_at b place)) held-sound

  pub held-reads-set : is_set (held_at b place).reads ≡ true
  held-reads-set = sound-set st.serializable st.read_hashes (held_at b place).reads held-reads-sound

  pub held-writes-set : is_set (held_at b place).writes ≡ true
  held-writes-set = sound-set st.serializable st.write_hashes (held_at b place).writes held-writes-sound
