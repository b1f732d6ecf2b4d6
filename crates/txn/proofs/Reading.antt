-- A list in its room: what is read there, in terms of the number of bytes in front and of the bytes behind it.
-- Assumes nothing.
use native.Mathlib.Omega.{arith}
use mathlib.Core.Path.{◌≡◌, refl, sym, ap, ◌∙◌}
use mathlib.Core.Bool.{Bool, true, false, cond}
use mathlib.Core.Option.{Option, none, some, some-injective}
use mathlib.Core.List.{List}
use Prim.Native.Nat.{ℕ, ◌+◌, ◌*◌, ◌-◌, ◌/◌, ◌%◌, ◌≤◌, ◌<◌, compare}
use borrow.Author.Tests.{leb-true, leb-false, le-leb, lt-leb, eqb-true, eqb-false}
use lib.Dec.{leb, eqb}
use lib.ListN.{length, drop, length-take}
use Rattle.paper.specs.Lists.{rises}
use Rattle.paper.specs.Keys.{Bytes}
use Rattle.paper.specs.Image.{big_endian, number_from, number, bytes}
use Rattle.paper.proofs.ImageLaws.{length-big_endian}
use Rattle.paper.proofs.Bools.{and_intro}
use Rattle.raw.specs.Bytes.{part, over}
use Rattle.raw.proofs.Parts.{length_part, take_part, drop-part}
use Rattle.raw.proofs.Over.{over-before}
use Rattle.layout.specs.Codec.{Whole, num, sized, many, room, first_of, lift}
use Rattle.layout.specs.Layout.{hashes_stream}
use Rattle.overlay.specs.Entries.{span}
use Rattle.sets.specs.Sets.{hashes_of, set_hashes, hashes_in}
use Rattle.sets.proofs.Hashes.{length-hashes, parse-hashes, parse-odd, front-hashes}
use Rattle.txn.specs.Place.{used_at, set_count, set_of, set_held}

-- ---- bytes and numbers off the front of a span
module _ (s : Bytes) (at end w : ℕ) where
  bytes-there : at + w ≤ end → end ≤ length s → bytes w (span s at end) ≡ some (part s at w, span s (at + w) end)
  unfolding bytes
  bytes-there h k =
      let n : end - at - w ≡ end - (at + w) = omega arith in
      let f : leb w (length (span s at end)) ≡ true = le-leb w (length (span s at end)) (rw (length_part s at (end - at) (omega arith)) (omega arith)) in
      simp (f, take_part s at (end - at) w (omega arith), drop-part s at (end - at) w, n)

  bytes-short : end - at < w → bytes w (span s at end) ≡ none
  unfolding bytes
  bytes-short h =
      let f : leb w (length (span s at end)) ≡ _ = lt-leb w (length (span s at end)) (rw length-take (omega arith)) in
      simp f

  pub number-there : at + w ≤ end → end ≤ length s → number w (span s at end) ≡ some (number_from 0 (part s at w), span s (at + w) end)
  unfolding number
  number-there h k = rw (bytes-there h k)

-- ---- a list in its room
-- what was read, where the number in front is within the room
abbrev pub within : {A : Type 0} → ℕ → ℕ → Option A → Option A
within n m o = cond (leb n m) o none

first-lift : {A : Type 0} (o : Option A) (s : Bytes) → first_of (lift o s) ≡ o
first-lift none s = refl
first-lift (some a) s = refl

module _ {A : Type 0} (W : Whole A) (q : Bytes) (at m : ℕ) (h : at + (8 + m) ≤ length q) where
  n : ℕ
  n = used_at q at

  -- the room as a span
  as-span : part q at (8 + m) ≡ span q at (at + (8 + m))
  as-span = let e : 8 + m ≡ at + (8 + m) - at = omega arith in ap (part q at) e

  pub room-read : (room (8 + m) (sized 8 W)).read (part q at (8 + m)) ≡ within (used_at q at) m (W.parse (part q (at + 8) (used_at q at)))
  unfolding room sized
  room-read = go (leb (used_at q at) m) refl
    where
      front : number 8 (part q at (8 + m)) ≡ some (used_at q at, span q (at + 8) (at + (8 + m)))
      front = ap (number 8) as-span ∙ number-there q at (at + (8 + m)) 8 (omega arith) h

      go : (b : Bool) → leb (used_at q at) m ≡ b → (room (8 + m) (sized 8 W)).read (part q at (8 + m)) ≡ cond b (W.parse (part q (at + 8) (used_at q at))) none
      go true e =
          let l = leb-true (used_at q at) m e in
          simp (front, bytes-there q (at + 8) (at + (8 + m)) (used_at q at) (omega arith) h) (first-lift (W.parse (part q (at + 8) (used_at q at))) (span q (at + 8 + used_at q at) (at + (8 + m))))
      go false e =
          let l = leb-false (used_at q at) m e in
          simp (front, bytes-short q (at + 8) (at + (8 + m)) (used_at q at) (omega arith))

  -- a list that was read
  pub room-holds : (a : A) → (room (8 + m) (sized 8 W)).read (part q at (8 + m)) ≡ some a → (used_at q at ≤ m) × (W.parse (part q (at + 8) (used_at q at)) ≡ some a)
  room-holds a e = go (leb (used_at q at) m) refl (sym room-read ∙ e)
    where
      go : (b : Bool) → leb (used_at q at) m ≡ b → cond b (W.parse (part q (at + 8) (used_at q at))) none ≡ some a
          → (used_at q at ≤ m) × (W.parse (part q (at + 8) (used_at q at)) ≡ some a)
      go true f g = (leb-true (used_at q at) m f, g)
      go false f g = absurd (let z : ◌≡◌ {A = ℕ} 0 1 = cc in omega arith)

-- a list written behind the number of its bytes
pub listed-laid : {A : Type 0} (W : Whole A) (a : A) (q : Bytes) (at n : ℕ) → at + 8 ≤ length q → n ≡ length (W.form a)
    → over (over q (at + 8) (W.form a)) at (big_endian 8 n) ≡ over q at ((sized 8 W).put a)
unfolding sized
listed-laid W a q at n h e =
    ap (λ (k : ℕ). over (over q (at + 8) (W.form a)) at (big_endian 8 k)) e
    ∙ over-before q (at + 8) (W.form a) h at (big_endian 8 (length (W.form a))) (omega (arith, length-big_endian 8 (length (W.form a))))

-- ---- sets
-- the hashes of a set that is lent from where it starts to where it ends
pub hashes-lent : (q : Bytes) (start n : ℕ) → start + n ≤ length q → set_hashes (part q start (start + n - start)) ≡ hashes_in q start (n / 4)
hashes-lent q start n h =
    let m : ℕ = start + n - start in
    let k : m ≡ n = omega arith in
    ap (λ (j : ℕ). hashes_of (j / 4) (part q start m)) (length_part q start m (omega arith)) ∙ front-hashes (m / 4) (drop start q) m (omega arith) ∙ ap (λ (j : ℕ). hashes_in q start (j / 4)) k

-- a set that was read
pub record SetAt (q : Bytes) (at m : ℕ) (hs : List ℕ) : Type 0 where
  pub used : used_at q at ≡ 4 * length hs
  pub count : length hs ≤ m
  pub set : set_of q at ≡ hs

module _ (q : Bytes) (at m : ℕ) (h : at + (8 + 4 * m) ≤ length q) where
  -- bytes that are whole hashes are a set
  set-parsed : used_at q at ≤ 4 * m → used_at q at % 4 ≡ 0 → (many (num 4)).parse (part q (at + 8) (used_at q at)) ≡ some (set_of q at)
  set-parsed l e =
      let c : used_at q at ≡ 4 * set_count q at = omega arith in
      parse-hashes (set_count q at) (part q (at + 8) (used_at q at)) (length_part q (at + 8) (used_at q at) (omega arith) ∙ c)
      ∙ ap some (front-hashes (set_count q at) (drop (at + 8) q) (used_at q at) (omega arith))

  set-odd : used_at q at ≤ 4 * m → (used_at q at % 4 ≡ 0 → ⊥) → (many (num 4)).parse (part q (at + 8) (used_at q at)) ≡ none
  set-odd l e = parse-odd (part q (at + 8) (used_at q at)) (λ z. e (ap (λ (k : ℕ). k % 4) (sym (length_part q (at + 8) (used_at q at) (omega arith))) ∙ z))

  -- what is read of a set
  pub set-read : (used_at q at ≤ 4 * m → ⊥) → (room (8 + 4 * m) hashes_stream).read (part q at (8 + 4 * m)) ≡ none
  set-read l = room-read (many (num 4)) q at (4 * m) h ∙ go (leb (used_at q at) (4 * m)) refl
    where
      go : (b : Bool) → leb (used_at q at) (4 * m) ≡ b → cond b ((many (num 4)).parse (part q (at + 8) (used_at q at))) none ≡ none
      go true e = absurd (l (leb-true (used_at q at) (4 * m) e))
      go false e = refl

  in-room : used_at q at ≤ 4 * m → (room (8 + 4 * m) hashes_stream).read (part q at (8 + 4 * m)) ≡ (many (num 4)).parse (part q (at + 8) (used_at q at))
  in-room l = room-read (many (num 4)) q at (4 * m) h ∙ ap (λ (b : Bool). cond b ((many (num 4)).parse (part q (at + 8) (used_at q at))) none) (le-leb (used_at q at) (4 * m) l)

  pub set-read-odd : used_at q at ≤ 4 * m → (used_at q at % 4 ≡ 0 → ⊥) → (room (8 + 4 * m) hashes_stream).read (part q at (8 + 4 * m)) ≡ none
  set-read-odd l e = in-room l ∙ set-odd l e

  pub set-read-some : used_at q at ≤ 4 * m → used_at q at % 4 ≡ 0 → (room (8 + 4 * m) hashes_stream).read (part q at (8 + 4 * m)) ≡ some (set_of q at)
  set-read-some l e = in-room l ∙ set-parsed l e

  pub set_there : (hs : List ℕ) → (room (8 + 4 * m) hashes_stream).read (part q at (8 + 4 * m)) ≡ some hs → SetAt q at m hs
  set_there hs e = go (eqb (used_at q at % 4) 0) refl
    where
      r : (used_at q at ≤ 4 * m) × ((many (num 4)).parse (part q (at + 8) (used_at q at)) ≡ some hs)
      r = room-holds (many (num 4)) q at (4 * m) h hs e

      go : (b : Bool) → eqb (used_at q at % 4) 0 ≡ b → SetAt q at m hs
      go true f =
          let z : used_at q at % 4 ≡ 0 = eqb-true (used_at q at % 4) 0 f in
          let s : set_of q at ≡ hs = some-injective (set_of q at) hs (sym (set-parsed r.0 z) ∙ r.1) in
          let l : length hs ≡ set_count q at = ap length (sym s) ∙ length-hashes (set_count q at) (drop (at + 8) q) in
          let u = r.0 in
          record { used = omega arith; count = omega arith; set = s }
      go false f = absurd (let g = sym (set-odd r.0 (eqb-false (used_at q at % 4) 0 f)) ∙ r.1 in let z : ◌≡◌ {A = ℕ} 0 1 = cc in omega arith)

  pub set-held : (hs : List ℕ) → SetAt q at m hs → rises compare hs ≡ true → set_held q at ≡ true
  unfolding set_held
  set-held hs s r =
      let u = s.used in
      let c = s.count in
      and_intro (le-leb (at + 8 + used_at q at) (length q) (omega arith)) (ap (rises compare) s.set ∙ r)
