-- Changes of a transaction in its place: what the code writes is the place with the transaction changed.
-- Assumes nothing.
use native.Mathlib.Omega.{arith}
use mathlib.Core.Path.{◌≡◌, refl, sym, ap, ap₂, ◌∙◌, subst}
use mathlib.Core.Bool.{Bool, true, false, not, cond, ◌||◌}
use mathlib.Core.Option.{some}
use mathlib.Core.List.{List, [], ◌∷◌, append-nil}
use Prim.Native.Nat.{ℕ, suc, ◌+◌, ◌*◌, ◌/◌, ◌^◌, ◌≤◌, ◌<◌, compare, Ordering}
use borrow.Author.Tests.{le-leb, lt-leb, leb-true, ltb-true, ltb-false}
use lib.Dec.{leb, ltb, lit<}
use lib.ListN.{length, take, drop}
use Rattle.paper.specs.Lists.{total, place, insert, rises, among}
use Rattle.paper.specs.Keys.{Bytes, Pair, octets, cmp_pair}
use Rattle.paper.specs.Image.{big_endian, number_from}
use Rattle.paper.specs.Store.{make_txn, own_size, set_add, with_reads, with_writes}
use Rattle.paper.specs.Room.{overlay_fits, set_fits}
use Rattle.paper.proofs.Bools.{and_intro}
use Rattle.paper.proofs.RoomLaws.{insert-length}
use Rattle.raw.specs.Bytes.{part, over}
use Rattle.raw.proofs.Parts.{take_part}
use Rattle.raw.proofs.Over.{over-part, drop-over, length_over}
use Rattle.layout.specs.Codec.{Stream, num, sized, many, put_all}
use Rattle.layout.specs.Offsets.{place_overlay, width_writes, width_reads}
use Rattle.layout.specs.Layout.{listed, pair_stream, hashes_stream}
use Rattle.layout.proofs.Streams.{All, Below}
use Rattle.layout.proofs.LayoutLaws.{OkPair, OkHashes, OkOverlay}
use Rattle.layout.proofs.Sizes.{overlay-form, overlay-long, hashes-form, hashes-long}
use Rattle.layout.proofs.Sides.{room-front}
use Rattle.layout.proofs.Places.{place-fits, place-reads, place-writes, place-seat}
use Rattle.overlay.specs.Overlay.{pair}
use Rattle.overlay.proofs.Pairs.{all_fit}
use Rattle.sets.specs.Sets.{hashes_of}
use Rattle.txn.specs.declared.Rooms.{Rooms}
use Rattle.txn.specs.Place.{settings_of, place_of, stride_of, reads_at, writes_at, txn_in, used_at, own_start, own_of, set_of, set_held}
use Rattle.txn.proofs.Holding.{Held, lies, own_is, writes-there, reads-there}

-- ---- what fits its fields
all_insert : {A : Type 0} (Ok : A → Type 0) (cmp : A → A → Ordering) (x : A) (xs : List A) → Ok x → All Ok xs → All Ok (insert cmp x xs)
unfolding insert
all_insert Ok cmp x [] h a = (h, tt)
all_insert Ok cmp x (y ∷ ys) h a = go (all_insert Ok cmp x ys h a.1) (cmp x y)
  where
    go : All Ok (insert cmp x ys) → (o : Ordering) → All Ok (place o x y ys (insert cmp x ys))
    go ih Ordering.lt = (h, a)
    go ih Ordering.eq = (h, a.1)
    go ih Ordering.gt = (a.0, ih)

-- ---- 'hash new and set full'
module _ (count hash : ℕ) (set : List ℕ) (h : length set ≤ count) where
  pub fits-other : true ≡ set_fits count (set_add false hash set)
  unfolding set_add
  fits-other = sym (le-leb (length set) count h)

  module _ (r : rises compare set ≡ true) where
    fits_by : (b : Bool) → among hash set ≡ b → length (insert compare hash set) ≡ cond b (length set) (suc (length set))
    fits_by b e = insert-length hash set r ∙ ap (λ (c : Bool). cond c (length set) (suc (length set))) e

    pub fits-room : length set < count → true ≡ set_fits count (set_add true hash set)
    unfolding set_add
    fits-room l = go (among hash set) refl
      where
        go : (b : Bool) → among hash set ≡ b → true ≡ leb (length (insert compare hash set)) count
        go true e = sym (le-leb (length (insert compare hash set)) count (omega (arith, fits_by true e)))
        go false e = sym (le-leb (length (insert compare hash set)) count (omega (arith, fits_by false e)))

    pub fits-full : count ≤ length set → among hash set ≡ set_fits count (set_add true hash set)
    unfolding set_add
    fits-full l = go (among hash set) refl
      where
        go : (b : Bool) → among hash set ≡ b → among hash set ≡ leb (length (insert compare hash set)) count
        go true e = e ∙ sym (le-leb (length (insert compare hash set)) count (omega (arith, fits_by true e)))
        go false e = e ∙ sym (lt-leb (length (insert compare hash set)) count (omega (arith, fits_by false e)))

    -- each test, one after the other
    pub fits_verdict : (b : Bool) (n : ℕ) → n ≡ length set → set_fits count (set_add b hash set) ≡ (not b || ltb n count) || among hash set
    fits_verdict false n e = sym fits-other
    fits_verdict true n e = go (ltb n count) refl
      where
        go : (b : Bool) → ltb n count ≡ b → set_fits count (set_add true hash set) ≡ b || among hash set
        go true f = sym (fits-room (let l = ltb-true n count f in omega arith))
        go false f = sym (fits-full (let l = ltb-false n count f in omega arith))

-- ---- what is written in front changes nothing behind it
pub set-behind : (q : Bytes) (a : ℕ) (x : Bytes) (at : ℕ) → a ≤ length q → a + length x ≤ at
    → (used_at (over q a x) at ≡ used_at q at) × (set_of (over q a x) at ≡ set_of q at)
set-behind q a x at h l =
    let d : drop at (over q a x) ≡ drop at q = drop-over q a x h at l in
    let e : drop (at + 8) (over q a x) ≡ drop (at + 8) q = drop-over q a x h (at + 8) (omega arith) in
    let u : used_at (over q a x) at ≡ used_at q at = ap (λ (t : Bytes). number_from 0 (take 8 t)) d in
    (u, ap₂ (λ (n : ℕ) (t : Bytes). hashes_of (n / 4) t) u e)

-- ---- a new transaction
empty-own : (r : Rooms) → OkOverlay (settings_of false r) []
unfolding sized many put_all own_size total
empty-own r = ((tt, lit< tt), omega (arith, overlay-long []))

empty-set : (w : ℕ) → 8 ≤ w → OkHashes [] × (length (hashes_stream.put []) ≤ w)
unfolding many put_all
empty-set w h = ((tt, lit< tt), omega (arith, hashes-long []))

-- an empty list is the number 0
none-listed : {A : Type 0} (S : Stream A) → big_endian 8 0 ≡ (listed S).put []
unfolding sized many put_all
none-listed S = sym (append-nil (big_endian 8 0))

pub new_is : (r : Rooms) (q : Bytes) (handle read : ℕ) → length q ≡ stride_of r
    → over (over (over (over (over (over q 0 (big_endian 8 handle)) 8 (big_endian 8 read)) 16 (big_endian 8 1)) place_overlay (big_endian 8 0)) (reads_at r) (big_endian 8 0)) (writes_at r) (big_endian 8 0)
    ≡ (place_of r).write (some (make_txn handle read true [] [] [])) q
new_is r q handle read l =
    let x : Bytes = over (over (over q 0 (big_endian 8 handle)) 8 (big_endian 8 read)) 16 (big_endian 8 1) in
    ap (λ (z : Bytes). over (over (over x place_overlay z) (reads_at r) (big_endian 8 0)) (writes_at r) (big_endian 8 0)) (none-listed pair_stream)
    ∙ ap (λ (z : Bytes). over (over (over x place_overlay ((listed pair_stream).put [])) (reads_at r) z) (writes_at r) z) (none-listed (num 4))
    ∙ sym (place-seat (settings_of false r) q l (make_txn handle read true [] [] []) (empty-own r) (empty-set (width_reads (settings_of false r)) (omega arith)) (empty-set (width_writes (settings_of false r)) (omega arith)))

-- ---- what was read and written
add-below : (b : Bool) (hash : ℕ) (set : List ℕ) → hash < 4294967296 → All (Below 4) set → All (Below 4) (set_add b hash set)
unfolding set_add
add-below true hash set h a = all_insert (Below 4) compare hash set h a
add-below false hash set h a = a

ok-set : (count : ℕ) (set : List ℕ) → All (Below 4) set → length set ≤ count → 4 * count < 2 ^ 64 → OkHashes set × (length (hashes_stream.put set) ≤ 8 + 4 * count)
ok-set count set a h k = ((a, omega (arith, hashes-form set)), omega (arith, hashes-long set))

module _ (r : Rooms) (q : Bytes) (y : octets q ≡ true) (l : length q ≡ stride_of r) (small : length q < 2 ^ 64) (H : Held r q) where
  reads-below : All (Below 4) (txn_in r q).reads
  reads-below = (place-fits (settings_of false r) q (some (txn_in r q)) H.has-txn).2.1.1.0.0.0

  writes_below : All (Below 4) (txn_in r q).writes
  writes_below = (place-fits (settings_of false r) q (some (txn_in r q)) H.has-txn).2.1.1.1.0.0

  module _ (hash : ℕ) (k : hash < 4294967296) where
    pub read-added : set_fits r.reads (set_add true hash (txn_in r q).reads) ≡ true
        → over q (reads_at r) (hashes_stream.put (insert compare hash (set_of q (reads_at r)))) ≡ (place_of r).write (some (with_reads (set_add true hash (txn_in r q).reads) (txn_in r q))) q
    unfolding set_add
    read-added f =
        let set : List ℕ = insert compare hash (txn_in r q).reads in
        ap (λ (s : List ℕ). over q (reads_at r) (hashes_stream.put (insert compare hash s))) (reads-there r q l H).set
        ∙ sym (place-reads (settings_of false r) q (txn_in r q) H.has-txn set (ok-set r.reads set (all_insert (Below 4) compare hash (txn_in r q).reads k reads-below) (leb-true (length set) r.reads f) (omega arith)))

    pub read_kept : q ≡ (place_of r).write (some (with_reads (set_add false hash (txn_in r q).reads) (txn_in r q))) q
    unfolding set_add with_reads
    read_kept = sym H.has-txn.kept

    -- room for the hash
    pub read-room : set_fits r.reads (set_add true hash (txn_in r q).reads) ≡ true → reads_at r + 8 + 4 * length (insert compare hash (set_of q (reads_at r))) ≤ length q
    unfolding set_add
    read-room f =
        let n = leb-true (length (insert compare hash (txn_in r q).reads)) r.reads f in
        let e : length (insert compare hash (set_of q (reads_at r))) ≡ length (insert compare hash (txn_in r q).reads) = ap (λ (s : List ℕ). length (insert compare hash s)) (reads-there r q l H).set in
        omega arith

  -- ---- a write
  module _ (k v : Bytes) (kl : length k ≤ 65535) (vl : length v ≤ 65535) (fits : overlay_fits (settings_of false r) (insert cmp_pair (pair k v) (txn_in r q).own) ≡ true) where
    size : own_size (insert cmp_pair (pair k v) (txn_in r q).own) ≤ r.own
    size = leb-true (own_size (insert cmp_pair (pair k v) (txn_in r q).own)) r.own fits

    pub own_room : own_start + own_size (insert cmp_pair (pair k v) (own_of q)) ≤ length q
    own_room =
        let e : own_size (insert cmp_pair (pair k v) (own_of q)) ≡ own_size (insert cmp_pair (pair k v) (txn_in r q).own) = ap (λ (o : List Pair). own_size (insert cmp_pair (pair k v) o)) (own_is r q l H) in
        omega (arith, size)

    ok-own : OkOverlay (settings_of false r) (insert cmp_pair (pair k v) (txn_in r q).own)
    ok-own =
        let a : All OkPair (insert cmp_pair (pair k v) (txn_in r q).own) = all_insert OkPair cmp_pair (pair k v) (txn_in r q).own ((tt, omega arith), (tt, omega arith)) (all_fit (txn_in r q).own H.own-sound) in
        ((a, omega (arith, size, overlay-form (insert cmp_pair (pair k v) (txn_in r q).own))), omega (arith, size, overlay-long (insert cmp_pair (pair k v) (txn_in r q).own)))

    -- the place after the overlay was written
    module _ (x : Bytes) (e : x ≡ over q place_overlay ((listed pair_stream).put (insert cmp_pair (pair k v) (own_of q)))) where
      own-laid : x ≡ over q place_overlay ((listed pair_stream).put (insert cmp_pair (pair k v) (txn_in r q).own))
      own-laid = e ∙ ap (λ (o : List Pair). over q place_overlay ((listed pair_stream).put (insert cmp_pair (pair k v) o))) (own_is r q l H)

      long : place_overlay + length ((listed pair_stream).put (insert cmp_pair (pair k v) (txn_in r q).own)) ≤ reads_at r
      long = omega (arith, size, overlay-long (insert cmp_pair (pair k v) (txn_in r q).own))

      pub same-long : length x ≡ length q
      same-long = ap length own-laid ∙ length_over q place_overlay ((listed pair_stream).put (insert cmp_pair (pair k v) (txn_in r q).own)) (omega (arith, long))

      behind : (used_at x (writes_at r) ≡ used_at q (writes_at r)) × (set_of x (writes_at r) ≡ set_of q (writes_at r))
      behind =
          subst (λ (z : Bytes). (used_at z (writes_at r) ≡ used_at q (writes_at r)) × (set_of z (writes_at r) ≡ set_of q (writes_at r))) (sym own-laid)
          (set-behind q place_overlay ((listed pair_stream).put (insert cmp_pair (pair k v) (txn_in r q).own)) (writes_at r) (omega arith) (omega (arith, long)))

      writes-set : set_of x (writes_at r) ≡ (txn_in r q).writes
      writes-set = behind.1 ∙ (writes-there r q l H).set

      pub write-held : set_held x (writes_at r) ≡ true
      unfolding set_held
      write-held =
          let u = (writes-there r q l H).used in
          let c = (writes-there r q l H).count in
          and_intro (le-leb (writes_at r + 8 + used_at x (writes_at r)) (length x) (omega (arith, behind.0, same-long))) (ap (rises compare) writes-set ∙ H.writes-rise)

      module _ (hash : ℕ) (hl : hash < 4294967296) where
        pub write-room : set_fits r.writes (set_add true hash (txn_in r q).writes) ≡ true → writes_at r + 8 + 4 * length (insert compare hash (set_of x (writes_at r))) ≤ length x
        unfolding set_add
        write-room f =
            let n = leb-true (length (insert compare hash (txn_in r q).writes)) r.writes f in
            let m : length (insert compare hash (set_of x (writes_at r))) ≡ length (insert compare hash (txn_in r q).writes) = ap (λ (s : List ℕ). length (insert compare hash s)) writes-set in
            omega (arith, same-long)

        pub put-added : set_fits r.writes (set_add true hash (txn_in r q).writes) ≡ true
            → over x (writes_at r) (hashes_stream.put (insert compare hash (set_of x (writes_at r))))
            ≡ (place_of r).write (some (with_writes (insert cmp_pair (pair k v) (txn_in r q).own) (set_add true hash (txn_in r q).writes) (txn_in r q))) q
        unfolding set_add
        put-added f =
            let set : List ℕ = insert compare hash (txn_in r q).writes in
            ap₂ (λ (z : Bytes) (s : List ℕ). over z (writes_at r) (hashes_stream.put (insert compare hash s))) own-laid writes-set
            ∙ sym (place-writes (settings_of false r) q (txn_in r q) H.has-txn (insert cmp_pair (pair k v) (txn_in r q).own) set ok-own
            (ok-set r.writes set (all_insert (Below 4) compare hash (txn_in r q).writes hl writes_below) (leb-true (length set) r.writes f) (omega arith)))

        -- the write set stands there already
        stands : over x (writes_at r) (hashes_stream.put (txn_in r q).writes) ≡ x
        stands =
            let n : ℕ = length (hashes_stream.put (txn_in r q).writes) in
            let c = (writes-there r q l H).count in
            let z : n ≤ width_writes (settings_of false r) = omega (arith, hashes-long (txn_in r q).writes) in
            let p : part q (writes_at r) n ≡ hashes_stream.put (txn_in r q).writes =
            sym (take_part q (writes_at r) (width_writes (settings_of false r)) n z) ∙ room-front (width_writes (settings_of false r)) hashes_stream (part q (writes_at r) (width_writes (settings_of false r))) (txn_in r q).writes (lies r q l H).writes in
            let d : part x (writes_at r) n ≡ part q (writes_at r) n =
            ap (λ (w : Bytes). part w (writes_at r) n) own-laid ∙ ap (take n) (drop-over q place_overlay ((listed pair_stream).put (insert cmp_pair (pair k v) (txn_in r q).own)) (omega arith) (writes_at r) (omega (arith, long))) in
            ap (over x (writes_at r)) (sym (d ∙ p)) ∙ over-part x (writes_at r) n (omega (arith, same-long))

        pub put-kept : x ≡ (place_of r).write (some (with_writes (insert cmp_pair (pair k v) (txn_in r q).own) (set_add false hash (txn_in r q).writes) (txn_in r q))) q
        unfolding set_add
        put-kept =
            sym stands ∙ ap (λ (z : Bytes). over z (writes_at r) (hashes_stream.put (txn_in r q).writes)) own-laid
            ∙ sym (place-writes (settings_of false r) q (txn_in r q) H.has-txn (insert cmp_pair (pair k v) (txn_in r q).own) (txn_in r q).writes ok-own
            (ok-set r.writes (txn_in r q).writes writes_below (writes-there r q l H).count (omega arith)))
