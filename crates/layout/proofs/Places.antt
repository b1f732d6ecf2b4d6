-- Inside a transaction's place: where its parts lie, and what a change of them writes.
-- Assumes nothing.
use Prim.Native.Nat.{ℕ, ◌+◌, ◌<◌}
use native.Mathlib.Omega.{arith}
use native.Mathlib.Nat.{mod-eq_of_lt}
use mathlib.Core.Path.{◌≡◌, refl, sym, ap, ap₂, ◌∙◌}
use mathlib.Core.Bool.{Bool, true, false, cond}
use mathlib.Core.List.{List, ◌∷◌, [], ◌++◌, append_assoc, append-nil}
use mathlib.Core.Option.{Option, none, some, none-ne-some, some-injective}
use lib.ListN.{length, take, drop, get_or, set, length-drop}
use lib.Seq.{take_all, take_at}
use lib.Dec.{eqb, lit<}
use Rattle.paper.specs.Keys.{Bytes, Pair}
use Rattle.paper.specs.Lists.{join}
use Rattle.paper.specs.Image.{big_endian, number, number_from}
use Rattle.paper.specs.Settings.{Settings}
use Rattle.paper.specs.Store.{Txn, make_txn, with_reads, with_writes, closed}
use Rattle.paper.proofs.ImageLaws.{length-big_endian, number-big_endian}
use Rattle.raw.specs.Bytes.{part, over}
use Rattle.raw.proofs.Parts.{length_part, part-drop, part-all}
use Rattle.raw.proofs.Over.{over-front}
use Rattle.raw.proofs.Octets.{octets-part}
use Rattle.raw.proofs.Pieces.{start, lay-whole, part_in}
use Rattle.layout.specs.Codec.{Slot, flag_number, flag, num, both, room, beside, map_option, named, taken, write_named, optional, slot_via}
use Rattle.layout.specs.Offsets.{place_read, place_mark, place_overlay, width_overlay, place_reads, width_reads, place_writes, width_writes, stride}
use Rattle.layout.specs.Layout.{n8, listed, pair_stream, hashes_stream, head_slot, overlay_slot, reads_slot, writes_slot, TxnParts, txn_slot, to_txn, tag_of, place_slot}
use Rattle.layout.proofs.Streams.{Below}
use Rattle.layout.proofs.Slots.{kept-as}
use Rattle.layout.proofs.LayoutLaws.{OkOverlay, OkReads, OkWrites, OkPlace, head-laws, overlay-laws, reads-laws, writes-laws, place-laws, place-width}
use Rattle.layout.proofs.Sizes.{head-long}
use Rattle.layout.proofs.Sides.{piece-laid, Has, has, room_whole, beside-write, has_both}

-- a number in 8 bytes is read as it was written
pub number_of : (n : ℕ) → Below 8 n → number_from 0 (big_endian 8 n) ≡ n
number_of n h = number-big_endian 8 0 n ∙ omega (arith, mod-eq_of_lt h)

-- ---- the place's pieces
module _ (st : Settings) where
  abbrev sets : Slot (List ℕ × List ℕ)
  sets = beside (reads_slot st) (writes_slot st)

  abbrev work : Slot (List Pair × (List ℕ × List ℕ))
  work = beside (overlay_slot st) sets

  -- the pieces of a transaction that is written over the bytes q of a place
  abbrev pub seated_in : Txn → Bytes → List Bytes
  seated_in t q =
      big_endian 8 t.handle
      ∷ big_endian 8 t.read
      ∷ big_endian 8 (flag_number t.open?)
      ∷ (overlay_slot st).write t.own (part q place_overlay (width_overlay st))
      ∷ (reads_slot st).write t.reads (part q (place_reads st) (width_reads st))
      ∷ (writes_slot st).write t.writes (part q (place_writes st) (width_writes st))
      ∷ []

  head-written : (read : ℕ) (open? : Bool) (p : Bytes) → length p ≡ 16 → head_slot.write (read, open?) p ≡ big_endian 8 read ++ big_endian 8 (flag_number open?)
  unfolding both num flag
  head-written read open? p l = room_whole 16 (both n8 (flag 8)) p (read, open?) (omega (arith, head-long read open?))

  module _ (q : Bytes) (l : length q ≡ stride st) where
    pub place-pieces : (t : Txn) → (place_slot st).write (some t) q ≡ join (seated_in t q)
    unfolding place_slot slot_via optional write_named txn_slot beside room join
    place-pieces t =
        let h : Bytes = big_endian 8 t.handle in
        let x : Bytes = (overlay_slot st).write t.own (part q place_overlay (width_overlay st)) in
        let y : Bytes = (reads_slot st).write t.reads (part q (place_reads st) (width_reads st)) in
        let z : Bytes = (writes_slot st).write t.writes (part q (place_writes st) (width_writes st)) in
        let d : drop 8 q ≡ part q 8 (txn_slot st).width = sym (take_all (txn_slot st).width (drop 8 q) (rw length-drop (omega arith))) in
        ap (λ (u : Bytes). h ++ (txn_slot st).write ((t.read, t.open?), (t.own, (t.reads, t.writes))) u) d
        ∙ ap (λ (u : Bytes). h ++ u)
        (beside-write head_slot work q 8 (t.read, t.open?) (t.own, (t.reads, t.writes))
        ∙ ap₂ (λ (u v : Bytes). u ++ v) (head-written t.read t.open? (part q 8 16) (length_part q 8 16 (omega arith)))
        (beside-write (overlay_slot st) sets q place_overlay t.own (t.reads, t.writes)
        ∙ ap (λ (u : Bytes). x ++ u) (beside-write (reads_slot st) (writes_slot st) q (place_reads st) t.reads t.writes))
        ∙ append_assoc (big_endian 8 t.read) (big_endian 8 (flag_number t.open?)) (x ++ (y ++ z)))
        ∙ ap (λ (u : Bytes). h ++ (big_endian 8 t.read ++ (big_endian 8 (flag_number t.open?) ++ (x ++ (y ++ u))))) (sym (append-nil z))

    -- a place that is freed
    pub place-free : (place_slot st).write none q ≡ over q 0 (big_endian 8 0)
    unfolding place_slot slot_via optional write_named
    place-free = ap (λ (n : ℕ). big_endian 8 0 ++ drop n q) (sym (length-big_endian 8 0)) ∙ sym (over-front q (big_endian 8 0))

-- ---- what is read in a place
named-read : (o : Option TxnParts) (n : Option (ℕ × Bytes)) (t : Txn) → map_option to_txn (taken o n) ≡ some (some t) → o ≡ some ((t.read, t.open?), (t.own, (t.reads, t.writes)))
named-read o none t e = absurd (none-ne-some (some t) e)
named-read o (some p) t e = go (eqb p.0 0) o e
  where
    go : (z : Bool) (o : Option TxnParts) → map_option to_txn (cond z (some none) (named p.0 o)) ≡ some (some t) → o ≡ some ((t.read, t.open?), (t.own, (t.reads, t.writes)))
    go true o e = absurd (none-ne-some t (some-injective none (some t) e))
    go false none e = absurd (none-ne-some (some t) e)
    go false (some a) e =
        let u : Txn = make_txn p.0 a.0.0 a.0.1 a.1.0 a.1.1.0 a.1.1.1 in
        let f : u ≡ t = some-injective u t (some-injective (some u) (some t) e) in
        ap (λ (v : Txn). some ((v.read, v.open?), (v.own, (v.reads, v.writes)))) f

-- the bytes q of a place hold the transaction t
pub record Seated (st : Settings) (q : Bytes) (t : Txn) : Type 0 where
  pub handle : number_from 0 (part q 0 8) ≡ t.handle
  pub read : number_from 0 (part q place_read 8) ≡ t.read
  pub mark : number_from 0 (part q place_mark 8) ≡ flag_number t.open?
  pub own : Has (overlay_slot st) (part q place_overlay (width_overlay st)) t.own
  pub reads : Has (reads_slot st) (part q (place_reads st) (width_reads st)) t.reads
  pub writes : Has (writes_slot st) (part q (place_writes st) (width_writes st)) t.writes

pub flag-below : (b : Bool) → Below 8 (flag_number b)
flag-below true = lit< tt
flag-below false = lit< tt

module _ (st : Settings) (q : Bytes) where
  pub place-fits : (p : Option Txn) → Has (place_slot st) q p → OkPlace st p
  place-fits p h = (kept-as (place-laws st) q p h.bytes h.long h.read).1

  module _ (t : Txn) (h : Has (place_slot st) q (some t)) where
    pub place-long : length q ≡ stride st
    place-long = h.long ∙ place-width st

    seated-join : join (seated_in st t q) ≡ q
    seated-join = sym (place-pieces st q place-long t) ∙ h.kept

    parts-read : (txn_slot st).read (part q 8 (txn_slot st).width) ≡ some ((t.read, t.open?), (t.own, (t.reads, t.writes)))
    unfolding place_slot slot_via optional txn_slot beside room
    parts-read =
        let d : part q 8 (txn_slot st).width ≡ drop 8 q = take_all (txn_slot st).width (drop 8 q) (rw length-drop (omega (arith, place-long))) in
        ap (λ (u : Bytes). (txn_slot st).read u) d ∙ named-read ((txn_slot st).read (drop 8 q)) (number 8 q) t h.read

    number_in : (i n at : ℕ) → i < 6 → get_or (seated_in st t q) i [] ≡ big_endian 8 n → at ≡ start (seated_in st t q) i → Below 8 n → number_from 0 (part q at 8) ≡ n
    number_in i n at l e a k =
        let xs : List Bytes = seated_in st t q in
        let m : length (get_or xs i []) ≡ 8 = ap length e ∙ length-big_endian 8 n in
        let z : at ≡ start xs i + 0 = omega arith in
        ap₂ (λ (u : Bytes) (j : ℕ). number_from 0 (part u j 8)) (sym seated-join) z
        ∙ ap (number_from 0) (part_in xs i 0 8 l (omega arith) ∙ part-all (get_or xs i []) 8 m ∙ e)
        ∙ number_of n k

    pub seated : Seated st q t
    unfolding txn_slot beside room
    seated =
        let l = place-long in
        let o = place-fits (some t) h in
        let p₁ = has_both (work st) head-laws q 8 (t.read, t.open?) (t.own, (t.reads, t.writes)) h.bytes (omega arith) parts-read in
        let p₂ = has_both (sets st) (overlay-laws st) q place_overlay t.own (t.reads, t.writes) h.bytes (omega arith) p₁.1 in
        let p₃ = has_both (writes_slot st) (reads-laws st) q (place_reads st) t.reads t.writes h.bytes (omega arith) p₂.1 in
        let n : length (part q (place_writes st) (width_writes st)) ≡ width_writes st = length_part q (place_writes st) (width_writes st) (omega arith) in
        record {
          handle = number_in 0 t.handle 0 (lit< tt) refl refl o.1;
          read = number_in 1 t.read place_read (lit< tt) refl (omega (arith, length-big_endian 8 t.handle)) o.2.0.0.0;
          mark = number_in 2 (flag_number t.open?) place_mark (lit< tt) refl (omega (arith, length-big_endian 8 t.handle, length-big_endian 8 t.read)) (flag-below t.open?);
          own = p₂.0;
          reads = p₃.0;
          writes = has (writes-laws st) (part q (place_writes st) (width_writes st)) t.writes (octets-part q (place_writes st) (width_writes st) h.bytes) n p₃.1;
        }

    -- ---- changes of a transaction in its place
    -- lengths of the pieces
    handle-eight : length (big_endian 8 t.handle) ≡ 8
    handle-eight = length-big_endian 8 t.handle

    read-eight : length (big_endian 8 t.read) ≡ 8
    read-eight = length-big_endian 8 t.read

    mark-eight : length (big_endian 8 (flag_number t.open?)) ≡ 8
    mark-eight = length-big_endian 8 (flag_number t.open?)

    own-width : length ((overlay_slot st).write t.own (part q place_overlay (width_overlay st))) ≡ width_overlay st
    unfolding room
    own-width = ap length seated.own.kept ∙ seated.own.long

    reads-width : length ((reads_slot st).write t.reads (part q (place_reads st) (width_reads st))) ≡ width_reads st
    unfolding room
    reads-width = ap length seated.reads.kept ∙ seated.reads.long

    -- 'closed by an accepted commit or a conflict'
    pub place-closed : (place_slot st).write (some (closed t)) q ≡ over q place_mark (big_endian 8 0)
    unfolding closed
    place-closed =
        place-pieces st q place-long (closed t)
        ∙ sym (lay-whole (seated_in st t q) 2 place_mark (big_endian 8 0) (lit< tt) (length-big_endian 8 0 ∙ sym mark-eight) (omega (arith, handle-eight, read-eight)))
        ∙ ap (λ (u : Bytes). over u place_mark (big_endian 8 0)) seated-join

    -- another read set
    pub place-reads : (rs : List ℕ) → OkReads st rs → (place_slot st).write (some (with_reads rs t)) q ≡ over q (place_reads st) (hashes_stream.put rs)
    unfolding with_reads room
    place-reads rs o =
        place-pieces st q place-long (with_reads rs t)
        ∙ piece-laid (seated_in st t q) 4 (place_reads st) (hashes_stream.put rs) (part q (place_reads st) (width_reads st)) (lit< tt) seated.reads.kept (omega (arith, o.1, seated.reads.long)) (omega (arith, handle-eight, read-eight, mark-eight, own-width))
        ∙ ap (λ (u : Bytes). over u (place_reads st) (hashes_stream.put rs)) seated-join

    -- another overlay
    own-laid : (own : List Pair) → OkOverlay st own → join (seated_in st (with_writes own t.writes t) q) ≡ over q place_overlay ((listed pair_stream).put own)
    unfolding with_writes room
    own-laid own o =
        piece-laid (seated_in st t q) 3 place_overlay ((listed pair_stream).put own) (part q place_overlay (width_overlay st)) (lit< tt) seated.own.kept (omega (arith, o.1, seated.own.long)) (omega (arith, handle-eight, read-eight, mark-eight))
        ∙ ap (λ (u : Bytes). over u place_overlay ((listed pair_stream).put own)) seated-join

    -- and another write set with it
    pub place-writes : (own : List Pair) (ws : List ℕ) → OkOverlay st own → OkWrites st ws
        → (place_slot st).write (some (with_writes own ws t)) q ≡ over (over q place_overlay ((listed pair_stream).put own)) (place_writes st) (hashes_stream.put ws)
    unfolding with_writes room
    place-writes own ws o w =
        let p : Bytes = part q place_overlay (width_overlay st) in
        let n : length ((overlay_slot st).write own p) ≡ width_overlay st = (overlay-laws st).long p own seated.own.long o in
        place-pieces st q place-long (with_writes own ws t)
        ∙ piece-laid (seated_in st (with_writes own t.writes t) q) 5 (place_writes st) (hashes_stream.put ws) (part q (place_writes st) (width_writes st)) (lit< tt) seated.writes.kept (omega (arith, w.1, seated.writes.long)) (omega (arith, handle-eight, read-eight, mark-eight, reads-width))
        ∙ ap (λ (u : Bytes). over u (place_writes st) (hashes_stream.put ws)) (own-laid own o)

  -- what stands in front of any place
  pub place-tag : (p : Option Txn) → Has (place_slot st) q p → number_from 0 (part q 0 8) ≡ tag_of p
  unfolding place_slot slot_via optional write_named
  place-tag none h =
      ap (λ (u : Bytes). number_from 0 (take 8 u)) (sym h.kept) ∙ ap (number_from 0) (take_at (big_endian 8 0) (drop 8 q) 8 (length-big_endian 8 0)) ∙ number_of 0 (lit< tt)
  place-tag (some t) h = (seated t h).handle

-- ---- a transaction put in a place, whatever stood there
module _ (st : Settings) (q : Bytes) (l : length q ≡ stride st) where
  p₀ : Bytes
  p₀ = part q 0 8

  p₁ : Bytes
  p₁ = part q place_read 8

  p₂ : Bytes
  p₂ = part q place_mark 8

  p₃ : Bytes
  p₃ = part q place_overlay (width_overlay st)

  p₄ : Bytes
  p₄ = part q (place_reads st) (width_reads st)

  p₅ : Bytes
  p₅ = part q (place_writes st) (width_writes st)

  pieces-join : join (p₀ ∷ p₁ ∷ p₂ ∷ p₃ ∷ p₄ ∷ p₅ ∷ []) ≡ q
  unfolding join p₀ p₁ p₂ p₃ p₄ p₅
  pieces-join =
      let last : part q (place_writes st) (width_writes st) ++ [] ≡ drop (place_writes st) q = append-nil _ ∙ take_all (width_writes st) (drop (place_writes st) q) (rw length-drop (omega arith)) in
      ap (λ (u : Bytes). part q 0 8 ++ (part q place_read 8 ++ (part q place_mark 8 ++ (part q place_overlay (width_overlay st) ++ (part q (place_reads st) (width_reads st) ++ u))))) last
      ∙ ap (λ (u : Bytes). part q 0 8 ++ (part q place_read 8 ++ (part q place_mark 8 ++ (part q place_overlay (width_overlay st) ++ u)))) (part-drop q (place_reads st) (width_reads st))
      ∙ ap (λ (u : Bytes). part q 0 8 ++ (part q place_read 8 ++ (part q place_mark 8 ++ u))) (part-drop q place_overlay (width_overlay st))
      ∙ ap (λ (u : Bytes). part q 0 8 ++ (part q place_read 8 ++ u)) (part-drop q place_mark 8)
      ∙ ap (λ (u : Bytes). part q 0 8 ++ u) (part-drop q place_read 8)
      ∙ part-drop q 0 8

  -- handle, read number, mark, overlay and the two sets, one after the other
  pub place-seat : (t : Txn) → OkOverlay st t.own → OkReads st t.reads → OkWrites st t.writes
      → (place_slot st).write (some t) q
      ≡ over (over (over (over (over (over q 0 (big_endian 8 t.handle)) place_read (big_endian 8 t.read)) place_mark (big_endian 8 (flag_number t.open?))) place_overlay ((listed pair_stream).put t.own)) (place_reads st) (hashes_stream.put t.reads)) (place_writes st) (hashes_stream.put t.writes)
  unfolding room p₀ p₁ p₂ p₃ p₄ p₅
  place-seat t o r w =
      let h : Bytes = big_endian 8 t.handle in
      let n : Bytes = big_endian 8 t.read in
      let m : Bytes = big_endian 8 (flag_number t.open?) in
      let x : Bytes = (overlay_slot st).write t.own p₃ in
      let y : Bytes = (reads_slot st).write t.reads p₄ in
      let z : Bytes = (writes_slot st).write t.writes p₅ in
      let l₀ : length p₀ ≡ 8 = length_part q 0 8 (omega arith) in
      let l₁ : length p₁ ≡ 8 = length_part q place_read 8 (omega arith) in
      let l₂ : length p₂ ≡ 8 = length_part q place_mark 8 (omega arith) in
      let l₃ : length p₃ ≡ width_overlay st = length_part q place_overlay (width_overlay st) (omega arith) in
      let l₄ : length p₄ ≡ width_reads st = length_part q (place_reads st) (width_reads st) (omega arith) in
      let l₅ : length p₅ ≡ width_writes st = length_part q (place_writes st) (width_writes st) (omega arith) in
      let a : length h ≡ 8 = length-big_endian 8 t.handle in
      let b : length n ≡ 8 = length-big_endian 8 t.read in
      let c : length m ≡ 8 = length-big_endian 8 (flag_number t.open?) in
      let d : length x ≡ width_overlay st = (overlay-laws st).long p₃ t.own l₃ o in
      let e : length y ≡ width_reads st = (reads-laws st).long p₄ t.reads l₄ r in
      let s₁ : over q 0 h ≡ join (h ∷ p₁ ∷ p₂ ∷ p₃ ∷ p₄ ∷ p₅ ∷ []) =
      ap (λ (u : Bytes). over u 0 h) (sym pieces-join) ∙ lay-whole (p₀ ∷ p₁ ∷ p₂ ∷ p₃ ∷ p₄ ∷ p₅ ∷ []) 0 0 h (lit< tt) (a ∙ sym l₀) refl in
      let s₂ : over (over q 0 h) place_read n ≡ join (h ∷ n ∷ p₂ ∷ p₃ ∷ p₄ ∷ p₅ ∷ []) =
      ap (λ (u : Bytes). over u place_read n) s₁ ∙ lay-whole (h ∷ p₁ ∷ p₂ ∷ p₃ ∷ p₄ ∷ p₅ ∷ []) 1 place_read n (lit< tt) (b ∙ sym l₁) (omega arith) in
      let s₃ : over (over (over q 0 h) place_read n) place_mark m ≡ join (h ∷ n ∷ m ∷ p₃ ∷ p₄ ∷ p₅ ∷ []) =
      ap (λ (u : Bytes). over u place_mark m) s₂ ∙ lay-whole (h ∷ n ∷ p₂ ∷ p₃ ∷ p₄ ∷ p₅ ∷ []) 2 place_mark m (lit< tt) (c ∙ sym l₂) (omega arith) in
      let s₄ : over (over (over (over q 0 h) place_read n) place_mark m) place_overlay ((listed pair_stream).put t.own) ≡ join (h ∷ n ∷ m ∷ x ∷ p₄ ∷ p₅ ∷ []) =
      ap (λ (u : Bytes). over u place_overlay ((listed pair_stream).put t.own)) s₃
      ∙ sym (piece-laid (h ∷ n ∷ m ∷ p₃ ∷ p₄ ∷ p₅ ∷ []) 3 place_overlay ((listed pair_stream).put t.own) p₃ (lit< tt) refl (omega (arith, o.1)) (omega arith)) in
      let s₅ : over (over (over (over (over q 0 h) place_read n) place_mark m) place_overlay ((listed pair_stream).put t.own)) (place_reads st) (hashes_stream.put t.reads) ≡ join (h ∷ n ∷ m ∷ x ∷ y ∷ p₅ ∷ []) =
      ap (λ (u : Bytes). over u (place_reads st) (hashes_stream.put t.reads)) s₄
      ∙ sym (piece-laid (h ∷ n ∷ m ∷ x ∷ p₄ ∷ p₅ ∷ []) 4 (place_reads st) (hashes_stream.put t.reads) p₄ (lit< tt) refl (omega (arith, r.1)) (omega arith)) in
      place-pieces st q l t
      ∙ piece-laid (h ∷ n ∷ m ∷ x ∷ y ∷ p₅ ∷ []) 5 (place_writes st) (hashes_stream.put t.writes) p₅ (lit< tt) refl (omega (arith, w.1)) (omega arith)
      ∙ ap (λ (u : Bytes). over u (place_writes st) (hashes_stream.put t.writes)) (sym s₅)
