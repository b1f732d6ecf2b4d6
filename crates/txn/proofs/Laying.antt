-- The own writes and the sets in a place: the bytes that are lent to read them and to write among them, and what a write there makes of the place.
-- Assumes nothing.
use native.Mathlib.Omega.{arith}
use mathlib.Core.Path.{◌≡◌, refl, sym, ap, ◌∙◌}
use mathlib.Core.Bool.{true}
use mathlib.Core.List.{List, ◌++◌}
use Prim.Native.Nat.{ℕ, ◌+◌, ◌-◌, ◌/◌, ◌≤◌, compare}
use lib.ListN.{length, take, drop}
use Rattle.paper.specs.Lists.{insert, rises}
use Rattle.paper.specs.Keys.{Bytes, Pair, cmp_pair}
use Rattle.paper.specs.Image.{big_endian}
use Rattle.paper.specs.Store.{own_size}
use Rattle.raw.specs.Bytes.{part, over}
use Rattle.raw.proofs.Parts.{length_part, take_part}
use Rattle.raw.proofs.Over.{length_over, over-lent, over-within}
use Rattle.layout.specs.Codec.{many, put_all}
use Rattle.layout.specs.Offsets.{place_overlay}
use Rattle.layout.specs.Layout.{listed, pair_stream}
use Rattle.layout.proofs.Sizes.{overlay-form}
use Rattle.overlay.specs.Overlay.{pair, pairs_in, is_overlay}
use Rattle.sets.specs.Sets.{set_hashes, hashes_in}
use Rattle.sets.proofs.Hashes.{length-hashes}
use Rattle.txn.specs.Place.{used_at, own_start, own_end, own_of, own_held, set_count, set_of, set_held}
use Rattle.txn.proofs.Reading.{listed-laid, hashes-lent}
use Rattle.txn.proofs.Holding.{own-parts, set-parts}

module _ (q : Bytes) (h : own_start ≤ length q) (o : own_held q ≡ true) (n : ℕ) (e : n ≡ used_at q place_overlay) where
  pub own-inside : own_start + n ≤ length q
  own-inside = omega (arith, e, (own-parts q o).0)

  -- the bytes from where they start to where they end
  own-bytes : (m : ℕ) → m ≡ own_start + n - own_start → part q own_start m ≡ part q own_start (own_end q - own_start)
  own-bytes m f = let k : m ≡ own_end q - own_start = omega (arith, e, f) in ap (part q own_start) k

  pub own-whole : is_overlay (part q own_start (own_start + n - own_start)) ≡ true
  own-whole = ap is_overlay (own-bytes (own_start + n - own_start) refl) ∙ (own-parts q o).1

  pub own-part : part q own_start (own_start + n - own_start) ≡ part q own_start (own_end q - own_start)
  own-part = own-bytes (own_start + n - own_start) refl

  pub own-pairs : pairs_in (part q own_start (own_start + n - own_start)) ≡ own_of q
  own-pairs = ap pairs_in own-part

  -- in the room from there to the place's end
  rest : ℕ
  rest = length q - own_start

  room : Bytes
  room = part q own_start rest

  front : take n room ≡ part q own_start (own_end q - own_start)
  unfolding room rest
  front = take_part q own_start rest n (omega (arith, own-inside)) ∙ own-bytes n (omega arith)

  room-long : length room ≡ rest
  unfolding room rest
  room-long = length_part q own_start rest (omega arith)

  module _ (k v : Bytes) where
    new-own : List Pair
    new-own = insert cmp_pair (pair k v) (own_of q)

    same-own : insert cmp_pair (pair k v) (pairs_in (take n (part q own_start (length q - own_start)))) ≡ insert cmp_pair (pair k v) (own_of q)
    unfolding room rest
    same-own = ap (λ (t : Bytes). insert cmp_pair (pair k v) (pairs_in t)) front

    pub put-asked : own_start + own_size (insert cmp_pair (pair k v) (own_of q)) ≤ length q
        → (n ≤ length (part q own_start (length q - own_start)))
        × (is_overlay (take n (part q own_start (length q - own_start))) ≡ true)
        × (own_size (insert cmp_pair (pair k v) (pairs_in (take n (part q own_start (length q - own_start))))) ≤ length (part q own_start (length q - own_start)))
    unfolding room rest
    put-asked l =
        (omega (arith, room-long, own-inside), ap is_overlay front ∙ (own-parts q o).1, omega (arith, room-long, ap own_size same-own))

    -- the entries go behind the number of their bytes
    pub put-laid : own_start + own_size (insert cmp_pair (pair k v) (own_of q)) ≤ length q → (size : ℕ) (x : Bytes)
        → size ≡ own_size (insert cmp_pair (pair k v) (pairs_in (take n (part q own_start (length q - own_start)))))
        → x ≡ over (part q own_start (length q - own_start)) 0 (put_all pair_stream (insert cmp_pair (pair k v) (pairs_in (take n (part q own_start (length q - own_start))))))
        → over (take own_start q ++ (x ++ drop (length q - own_start) (drop own_start q))) place_overlay (big_endian 8 size) ≡ over q place_overlay ((listed pair_stream).put (insert cmp_pair (pair k v) (own_of q)))
    unfolding many room rest
    put-laid l size x a b =
        let own : List Pair = insert cmp_pair (pair k v) (own_of q) in
        let form : Bytes = put_all pair_stream own in
        let c : x ≡ over room 0 form = b ∙ ap (λ (s : List Pair). over room 0 (put_all pair_stream s)) same-own in
        let long : length form ≡ own_size own = overlay-form own in
        let d : length x ≡ rest = ap length c ∙ length_over room 0 form (omega (arith, room-long, long)) ∙ room-long in
        ap (λ (t : Bytes). over t place_overlay (big_endian 8 size)) (over-lent q x own_start rest d ∙ ap (over q own_start) c ∙ over-within q own_start rest 0 form (omega arith) (omega (arith, long)))
        ∙ listed-laid (many pair_stream) own q place_overlay size (omega arith) (a ∙ ap own_size same-own ∙ sym long)

-- ---- sets
-- the set at an index, from where it starts to where it ends
module _ (q : Bytes) (at : ℕ) (o : set_held q at ≡ true) (n : ℕ) (e : n ≡ used_at q at) where
  pub set_inside : at + 8 + n ≤ length q
  set_inside = omega (arith, e, (set-parts q at o).0)

  pub set-lent : (set_hashes (part q (at + 8) (at + 8 + n - (at + 8))) ≡ set_of q at) × (length (part q (at + 8) (at + 8 + n - (at + 8))) ≡ used_at q at)
  set-lent =
      (hashes-lent q (at + 8) n set_inside ∙ ap (λ (j : ℕ). hashes_in q (at + 8) (j / 4)) e, length_part q (at + 8) (at + 8 + n - (at + 8)) (omega (arith, set_inside)) ∙ omega (arith, e))

  -- it rises, and has as many hashes as its bytes hold
  pub set-rising : rises compare (set_of q at) ≡ true
  set-rising = (set-parts q at o).1

  pub set-counted : n / 4 ≡ length (set_of q at)
  set-counted = ap (λ (j : ℕ). j / 4) e ∙ sym (length-hashes (set_count q at) (drop (at + 8) q))
