-- The bytes of a history into which an entry has come: what stays moved to its start, and behind it number, size and hashes of the new one.
-- Assumes nothing.
use Prim.Native.Nat.{ℕ, ◌+◌, ◌*◌, ◌/◌, ◌%◌, ◌≤◌}
use native.Mathlib.Omega.{arith}
use mathlib.Core.Path.{◌≡◌, sym, ap, ap₂, ◌∙◌}
use mathlib.Core.Bool.{true}
use mathlib.Core.List.{[], ◌∷◌, ◌++◌, append_assoc}
use lib.ListN.{length, length-append}
use lib.Seq.{take_all}
use Rattle.paper.specs.Lists.{is_some}
use Rattle.paper.specs.Keys.{Bytes, octets}
use Rattle.paper.specs.Image.{big_endian}
use Rattle.paper.specs.History.{make_commit}
use Rattle.paper.proofs.ImageLaws.{length-big_endian}
use Rattle.raw.specs.Bytes.{part, over}
use Rattle.raw.proofs.Parts.{length_part}
use Rattle.raw.proofs.Over.{over-after, part-over-after}
use Rattle.layout.specs.Layout.{hashes}
use Rattle.sets.specs.Sets.{set_hashes}
use Rattle.sets.proofs.Hashes.{form-hashes}
use Rattle.mvcc.specs.Histories.{history_read, history_in, history_bytes}
use Rattle.mvcc.proofs.Commits.{commit-put, history-last}
use Rattle.mvcc.proofs.Reading.{bytes-of}

-- how long three pieces are together
three-long : (x y z : Bytes) → length (x ++ (y ++ z)) ≡ length x + length y + length z
three-long x y z = simp length-append (omega arith)

-- three writes side by side, from the start on
three-writes : (l x y z : Bytes) → length x + length y + length z ≤ length l → over (over (over l 0 x) (length x) y) (length x + length y) z ≡ over l 0 (x ++ (y ++ z))
three-writes l x y z h =
    let i : length x ≡ 0 + length x = omega arith in
    let j : length x + length y ≡ 0 + length (x ++ y) = omega (arith, length-append x y) in
    ap (λ (t : Bytes). over t (length x + length y) z) (over-after l 0 x (omega arith) (length x) y i)
    ∙ over-after l 0 (x ++ y) (omega arith) (length x + length y) z j
    ∙ ap (over l 0) (append_assoc x y z)

-- and a fourth behind them
four-writes : (l x y z w : Bytes) → length x + length y + length z + length w ≤ length l
    → over (over (over (over l 0 x) (length x) y) (length x + length y) z) (length x + length y + length z) w ≡ over l 0 (x ++ (y ++ (z ++ w)))
four-writes l x y z w h =
    let i : length x + length y + length z ≡ 0 + length (x ++ (y ++ z)) = omega (arith, three-long x y z) in
    ap (λ (t : Bytes). over t (length x + length y + length z) w) (three-writes l x y z (omega arith))
    ∙ over-after l 0 (x ++ (y ++ z)) (omega arith) (length x + length y + length z) w i
    ∙ ap (over l 0) (append_assoc x (y ++ z) w ∙ ap (λ (t : Bytes). x ++ t) (append_assoc y z w))

-- or a copy of bytes that stand further on: they stand where they stood
writes-from : (l x y z : Bytes) (from n : ℕ) → length x + length y + length z + n ≤ from → from + n ≤ length l
    → over (over (over (over l 0 x) (length x) y) (length x + length y) z) (length x + length y + length z) (part (over (over (over l 0 x) (length x) y) (length x + length y) z) from n)
    ≡ over l 0 (x ++ (y ++ (z ++ part l from n)))
writes-from l x y z from n h k =
    let three : Bytes = over (over (over l 0 x) (length x) y) (length x + length y) z in
    let q : part three from n ≡ part l from n = ap (λ (t : Bytes). part t from n) (three-writes l x y z (omega arith)) ∙ part-over-after l 0 (x ++ (y ++ z)) (omega (arith, three-long x y z)) from n (omega (arith, three-long x y z)) in
    ap (over three (length x + length y + length z)) q ∙ four-writes l x y z (part l from n) (omega (arith, length_part l from n k))

-- the bytes of what stays, which are some bytes that read, and of the new entry
module _ (stays : Bytes) (o : octets stays ≡ true) (reads : is_some (history_read stays) ≡ true) (number : ℕ) (hs : Bytes) (p : octets hs ≡ true) (whole : length hs % 4 ≡ 0) where
  abbrev pub after : Bytes
  after = history_bytes (history_in stays ++ (make_commit number (set_hashes hs) ∷ []))

  pub after_is : after ≡ stays ++ (big_endian 8 number ++ (big_endian 8 (length hs) ++ hs))
  after_is =
      let m : 4 * (length hs / 4) ≡ length hs = omega arith in
      let f : hashes.form (set_hashes hs) ≡ hs = form-hashes (length hs / 4) hs p (omega arith) ∙ take_all (4 * (length hs / 4)) hs (omega arith) in
      history-last (history_in stays) (make_commit number (set_hashes hs))
      ∙ ap₂ (λ (t u : Bytes). t ++ u) (sym (bytes-of stays o reads))
      (commit-put number (set_hashes hs) ∙ ap₂ (λ (n : ℕ) (u : Bytes). big_endian 8 number ++ (big_endian 8 n ++ u)) (ap length f) f)

  pub after-long : length after ≡ length stays + 16 + length hs
  after-long = ap length after_is ∙ simp (length-append, length-big_endian) (omega arith)

  pub entering : (room : Bytes) (kept : ℕ) → kept ≡ length stays → kept + 16 + length hs ≤ length room
      → over (over (over (over room 0 stays) kept (big_endian 8 number)) (kept + 8) (big_endian 8 (length hs))) (kept + 16) hs ≡ over room 0 after
  entering room kept e h = placed (big_endian 8 number) (big_endian 8 (length hs)) (length-big_endian 8 number) (length-big_endian 8 (length hs)) ∙ ap (over room 0) (sym after_is)
    where
      placed : (y z : Bytes) → length y ≡ 8 → length z ≡ 8 → over (over (over (over room 0 stays) kept y) (kept + 8) z) (kept + 16) hs ≡ over room 0 (stays ++ (y ++ (z ++ hs)))
      placed y z ly lz =
          let i : kept + 8 ≡ length stays + length y = omega arith in
          let j : kept + 16 ≡ length stays + length y + length z = omega arith in
          rw (j, i, e) (four-writes room stays y z hs (omega arith))

  -- the same, with the hashes in the room itself
  pub entering-from : (room : Bytes) (kept from size : ℕ) → kept ≡ length stays → size ≡ length hs → kept + 16 + size ≤ from → from + size ≤ length room → part room from size ≡ hs
      → over (over (over (over room 0 stays) kept (big_endian 8 number)) (kept + 8) (big_endian 8 size)) (kept + 16) (part (over (over (over room 0 stays) kept (big_endian 8 number)) (kept + 8) (big_endian 8 size)) from size)
      ≡ over room 0 after
  entering-from room kept from size e f h k q =
      placed (big_endian 8 number) (big_endian 8 size) (length-big_endian 8 number) (length-big_endian 8 size)
      ∙ ap₂ (λ (n : ℕ) (u : Bytes). over room 0 (stays ++ (big_endian 8 number ++ (big_endian 8 n ++ u)))) f q
      ∙ ap (over room 0) (sym after_is)
    where
      placed : (y z : Bytes) → length y ≡ 8 → length z ≡ 8
          → over (over (over (over room 0 stays) kept y) (kept + 8) z) (kept + 16) (part (over (over (over room 0 stays) kept y) (kept + 8) z) from size) ≡ over room 0 (stays ++ (y ++ (z ++ part room from size)))
      placed y z ly lz =
          let i : kept + 8 ≡ length stays + length y = omega arith in
          let j : kept + 16 ≡ length stays + length y + length z = omega arith in
          rw (j, i, e) (writes-from room stays y z from size (omega arith) k)
