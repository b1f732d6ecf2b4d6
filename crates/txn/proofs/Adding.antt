-- A set that is held in a place, with the room behind it: what is known of that room, and the place once a hash has come into the set.
-- Assumes nothing.
use native.Mathlib.Omega.{arith}
use lib.ListN.{length, take, drop}
use Prim.Native.Nat.{ℕ, ◌+◌, ◌*◌, ◌-◌, ◌/◌, ◌≤◌, compare}
use mathlib.Core.Bool.{true}
use mathlib.Core.List.{List, ◌++◌}
use mathlib.Core.Path.{◌≡◌, sym, ap, ◌∙◌}
use Rattle.paper.specs.Image.{big_endian}
use Rattle.paper.specs.Keys.{Bytes}
use Rattle.paper.specs.Lists.{insert, rises}
use Rattle.raw.specs.Bytes.{part, over}
use Rattle.raw.proofs.Parts.{length_part}
use Rattle.raw.proofs.Over.{length_over, over-lent, over-within}
use Rattle.layout.proofs.Sizes.{hashes-form}
use Rattle.layout.specs.Codec.{num, many}
use Rattle.layout.specs.Layout.{hashes_stream}
use Rattle.sets.specs.Sets.{hashes_of}
use Rattle.sets.proofs.Hashes.{front-hashes}
use Rattle.txn.specs.Place.{used_at, set_of, set_held}
use Rattle.txn.proofs.Reading.{listed-laid}
use Rattle.txn.proofs.Holding.{set-parts}

module _ (s : Bytes) (at used hash : ℕ) (u : used ≡ used_at s at) (k : at + 8 ≤ length s) (h : set_held s at ≡ true) where
  -- the room behind the number
  abbrev pub behind : Bytes
  behind = part s (at + 8) (length s - (at + 8))

  pub room-long : length behind ≡ length s - (at + 8)
  room-long = length_part s (at + 8) (length s - (at + 8)) (omega arith)

  pub room-set : hashes_of (used / 4) behind ≡ set_of s at
  room-set =
      let p = set-parts s at h in
      front-hashes (used / 4) (drop (at + 8) s) (length s - (at + 8)) (omega (arith, p.0)) ∙ ap (λ (n : ℕ). hashes_of (n / 4) (drop (at + 8) s)) u

  pub room-grown : length (insert compare hash (hashes_of (used / 4) behind)) ≡ length (insert compare hash (set_of s at))
  room-grown = ap (λ (hs : List ℕ). length (insert compare hash hs)) room-set

  module _ (l : at + 8 + 4 * length (insert compare hash (set_of s at)) ≤ length s) where
    pub room-enough : (4 * (used / 4) ≤ length behind) × (rises compare (hashes_of (used / 4) behind) ≡ true) × (4 * length (insert compare hash (hashes_of (used / 4) behind)) ≤ length behind)
    room-enough =
        let p = set-parts s at h in
        let e = room-long in
        let g = room-grown in
        (omega (arith, p.0), ap (rises compare) room-set ∙ p.1, omega arith)

    pub set-added : (count : ℕ) (room : Bytes) → count ≡ length (insert compare hash (hashes_of (used / 4) behind)) → room ≡ over behind 0 ((many (num 4)).form (insert compare hash (hashes_of (used / 4) behind)))
        → over (take (at + 8) s ++ (room ++ drop (length s - (at + 8)) (drop (at + 8) s))) at (big_endian 8 (4 * count)) ≡ over s at (hashes_stream.put (insert compare hash (set_of s at)))
    set-added count room e r =
        let set : List ℕ = insert compare hash (set_of s at) in
        let x : Bytes = (many (num 4)).form set in
        let xl : length x ≡ 4 * length set = hashes-form set in
        let m : ℕ = length s - (at + 8) in
        let q : room ≡ over behind 0 x = r ∙ ap (λ (hs : List ℕ). over behind 0 ((many (num 4)).form (insert compare hash hs))) room-set in
        let f = room-long in
        let n : length room ≡ m = ap length q ∙ length_over behind 0 x (omega arith) ∙ room-long in
        let i : at + 8 + 0 ≡ at + 8 = omega arith in
        let c : 4 * count ≡ length x = ap (λ (j : ℕ). 4 * j) (e ∙ room-grown) ∙ sym xl in
        ap (λ (t : Bytes). over t at (big_endian 8 (4 * count)))
        (over-lent s room (at + 8) m n ∙ ap (over s (at + 8)) q ∙ over-within s (at + 8) m 0 x (omega arith) (omega arith) ∙ ap (λ (j : ℕ). over s j x) i)
        ∙ listed-laid (many (num 4)) set s at (4 * count) k c
