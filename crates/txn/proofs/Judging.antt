-- The verdict on a place, from the verdicts on its parts.
-- Assumes nothing.
use native.Mathlib.Omega.{arith}
use mathlib.Core.Path.{◌≡◌, refl, sym, ap, ap₂, ◌∙◌, subst}
use mathlib.Core.Bool.{Bool, true, false, not, cond, ◌&&◌, ◌||◌, false≢true}
use mathlib.Core.Option.{Option, none, some}
use mathlib.Core.List.{List}
use Prim.Native.Nat.{ℕ, zero, suc, ◌+◌, ◌*◌, ◌-◌, ◌/◌, ◌%◌, ◌≤◌, ◌<◌, compare}
use borrow.Author.Tests.{leb-true, leb-false, le-leb, lt-leb, eq-eqb, ne_eqb, eqb-true, eqb-false}
use lib.Dec.{leb, eqb}
use lib.ListN.{length, drop}
use Rattle.paper.specs.Lists.{all, rises, hold_all}
use Rattle.paper.specs.Keys.{Bytes, Pair, octets, cmp_pair}
use Rattle.paper.specs.Image.{after}
use Rattle.paper.specs.Settings.{Settings}
use Rattle.paper.specs.Store.{own_size}
use Rattle.paper.specs.Sound.{own_hashes, same_numbers, sound_pair, sound_set, sound_writes, txn_rules, sound_txn}
use Rattle.paper.proofs.Bools.{and_left, and_right, and_intro}
use Rattle.raw.specs.Bytes.{part}
use Rattle.raw.proofs.Parts.{length_part}
use Rattle.raw.proofs.Octets.{octets-part}
use Rattle.layout.specs.Codec.{num, both, flag, flag_of, many, put_all, first_of, pair_of, room, named, map_option}
use Rattle.layout.specs.Offsets.{place_read, place_mark, place_overlay, width_overlay, place_reads, width_reads, place_writes, width_writes}
use Rattle.layout.specs.Layout.{pair_stream, hashes_stream, head_slot, overlay_slot, reads_slot, writes_slot, to_txn}
use Rattle.layout.proofs.Streams.{Formed, All, many-laws}
use Rattle.layout.proofs.LayoutLaws.{OkPair, pair-laws}
use Rattle.layout.proofs.Sizes.{overlay-form}
use Rattle.layout.proofs.Reading.{place-read-as}
use Rattle.overlay.specs.Overlay.{orderly, is_overlay, overlay_in}
use Rattle.overlay.specs.Entries.{span}
use Rattle.overlay.proofs.Pairs.{overlay-is}
use Rattle.sets.specs.Sets.{set_hashes, hashes_in}
use Rattle.sets.proofs.Hashes.{length-hashes, set-in}
use Rattle.sets.proofs.Risings.{none-rise}
use Rattle.txn.specs.declared.Rooms.{Rooms}
use Rattle.txn.specs.Place.{settings_of, stride_of, reads_at, writes_at, used_at, own_start, own_end, own_of, own_held, set_count, set_of, set_held}
use Rattle.txn.specs.Checks.{passes, place_passes, place_sound, head_sound, own_sound, set_sound, parts_sound}
use Rattle.txn.proofs.Reading.{number-there, hashes-lent, within, room-read, set-read, set-read-odd, set-read-some}

-- ---- tests in a row
and_assoc : (a b c : Bool) → (a && b) && c ≡ a && (b && c)
and_assoc true b c = refl
and_assoc false b c = refl

and-true : (a : Bool) → a && true ≡ a
and-true true = refl
and-true false = refl

and-false : (a : Bool) → a && false ≡ false
and-false true = refl
and-false false = refl

-- ---- the whole, from what is read of its parts
module _ (st : Settings) (counter clock handle : ℕ) where
  head_test : ℕ × Bool → Bool
  head_test p = leb 1 handle && (leb handle counter && leb p.0 clock)

  own_test : List Pair → Bool
  own_test own = rises cmp_pair own && (all sound_pair own && leb (own_size own) st.overlay_bytes)

  -- the rule that looks at several parts
  abbrev matches : Option (ℕ × Bool) → Option (List Pair) → Option (List ℕ) → Bool
  matches none o w = true
  matches (some p) none w = true
  matches (some p) (some own) none = true
  matches (some p) (some own) (some ws) = cond (st.serializable && p.1) (same_numbers ws (own_hashes own)) true

  judge : (h : Option (ℕ × Bool)) (o : Option (List Pair)) (r w : Option (List ℕ))
      → passes (place_passes st counter clock) (map_option to_txn (named handle (pair_of h (pair_of o (pair_of r w)))))
      ≡ (passes head_test h && (passes own_test o && (passes (sound_set st.serializable st.read_hashes) r && passes (sound_set st.serializable st.write_hashes) w))) && matches h o w
  unfolding head_test own_test sound_txn txn_rules hold_all sound_writes
  judge none o r w = refl
  judge (some p) none r w = sym (ap (λ (b : Bool). b && true) (and-false (head_test p)))
  judge (some p) (some own) none w =
      sym (ap (λ (b : Bool). (head_test p && b) && matches (some p) (some own) w) (and-false (own_test own)) ∙ ap (λ (b : Bool). b && matches (some p) (some own) w) (and-false (head_test p)))
  judge (some p) (some own) (some rs) none =
      sym (ap (λ (b : Bool). (head_test p && (own_test own && b)) && true) (and-false (sound_set st.serializable st.read_hashes rs))
      ∙ ap (λ (b : Bool). (head_test p && b) && true) (and-false (own_test own)) ∙ ap (λ (b : Bool). b && true) (and-false (head_test p)))
  judge (some p) (some own) (some rs) (some ws) = simp (and_assoc, and-true)

  -- in the other mode, and of a closed transaction, it says nothing
  matches-other : (h : Option (ℕ × Bool)) (o : Option (List Pair)) (w : Option (List ℕ)) → st.serializable ≡ false → matches h o w ≡ true
  matches-other none o w e = refl
  matches-other (some p) none w e = refl
  matches-other (some p) (some own) none e = refl
  matches-other (some p) (some own) (some ws) e = ap (λ (b : Bool). cond (b && p.1) (same_numbers ws (own_hashes own)) true) e

  matches-closed : (n : ℕ) (o : Option (List Pair)) (w : Option (List ℕ)) → matches (some (n, false)) o w ≡ true
  matches-closed n none w = refl
  matches-closed n (some own) none = refl
  matches-closed n (some own) (some ws) = ap (λ (b : Bool). cond b (same_numbers ws (own_hashes own)) true) (and-false st.serializable)

-- ---- handle, read number and mark
one : (m : ℕ) → m ≤ 1 → (m ≡ 0 → ⊥) → m ≡ 1
one zero h n = absurd (n refl)
one (suc zero) h n = refl
one (suc (suc m)) h n = absurd (omega arith)

abbrev flagged : ℕ → ℕ → Option (ℕ × Bool)
flagged read mark = cond (eqb mark 0) (some (read, false)) (cond (eqb mark 1) (some (read, true)) none)

-- what is read of a mark, behind a read number
abbrev behind : ℕ → Bool → Bytes → Option ((ℕ × Bool) × Bytes)
behind n b s = some ((n, b), s)

flag-first : (n mark : ℕ) (s : Bytes) → first_of {A = ℕ × Bool} (after (flag_of mark s) (behind n)) ≡ flagged n mark
unfolding flag_of
flag-first n mark s = go (eqb mark 0) (eqb mark 1)
  where
    go : (a b : Bool) → first_of {A = ℕ × Bool} (after {A = Bool} (cond a (some (false, s)) (cond b (some (true, s)) none)) (behind n)) ≡ cond a (some (n, false)) (cond b (some (n, true)) none)
    go true b = refl
    go false true = refl
    go false false = refl

module _ (q : Bytes) (l : 24 ≤ length q) where
  head_read : head_slot.read (part q place_read 16) ≡ flagged (used_at q place_read) (used_at q place_mark)
  unfolding room both num flag
  head_read = simp (number-there q 8 24 8 (omega arith) l, number-there q 16 24 8 (omega arith) l) (flag-first (used_at q place_read) (used_at q place_mark) (span q 24 24))

  module _ (handle counter clock : ℕ) where
    head-passes : (o : Option (ℕ × Bool)) → flagged (used_at q place_read) (used_at q place_mark) ≡ o
        → head_sound handle counter clock q ≡ passes (λ p. leb 1 handle && (leb handle counter && leb p.0 clock)) o
    unfolding head_sound
    head-passes o e = ap (passes (λ p. leb 1 handle && (leb handle counter && leb p.0 clock))) (head_read ∙ e)

    pub head-bad : 1 < used_at q place_mark → false ≡ head_sound handle counter clock q
    head-bad h =
        sym (head-passes none
        (ap₂ (λ (a b : Bool). cond a (some (used_at q place_read, false)) (cond b (some (used_at q place_read, true)) none)) (ne_eqb (used_at q place_mark) 0 (λ e. omega arith)) (ne_eqb (used_at q place_mark) 1 (λ e. omega arith))))

    -- closed, or open
    head-closed : used_at q place_mark ≡ 0 → flagged (used_at q place_read) (used_at q place_mark) ≡ some (used_at q place_read, false)
    head-closed e = ap (flagged (used_at q place_read)) e

    head-open : used_at q place_mark ≡ 1 → flagged (used_at q place_read) (used_at q place_mark) ≡ some (used_at q place_read, true)
    head-open e = ap (flagged (used_at q place_read)) e

    pub head-good : used_at q place_mark ≤ 1 → head_sound handle counter clock q ≡ leb 1 handle && (leb handle counter && leb (used_at q place_read) clock)
    head-good h = go (eqb (used_at q place_mark) 0) refl
      where
        go : (b : Bool) → eqb (used_at q place_mark) 0 ≡ b → head_sound handle counter clock q ≡ leb 1 handle && (leb handle counter && leb (used_at q place_read) clock)
        go true e = head-passes (some (used_at q place_read, false)) (head-closed (eqb-true (used_at q place_mark) 0 e))
        go false e = head-passes (some (used_at q place_read, true)) (head-open (one (used_at q place_mark) h (eqb-false (used_at q place_mark) 0 e)))

    -- each test, one after the other
    pub head_is : head_sound handle counter clock q ≡ leb (used_at q place_mark) 1 && (leb 1 handle && (leb handle counter && leb (used_at q place_read) clock))
    head_is = go (leb (used_at q place_mark) 1) refl
      where
        go : (b : Bool) → leb (used_at q place_mark) 1 ≡ b → head_sound handle counter clock q ≡ leb (used_at q place_mark) 1 && (leb 1 handle && (leb handle counter && leb (used_at q place_read) clock))
        go true e = head-good (leb-true (used_at q place_mark) 1 e) ∙ sym (ap (λ (b : Bool). b && (leb 1 handle && (leb handle counter && leb (used_at q place_read) clock))) e)
        go false e = sym (head-bad (leb-false (used_at q place_mark) 1 e)) ∙ sym (ap (λ (b : Bool). b && (leb 1 handle && (leb handle counter && leb (used_at q place_read) clock))) e)

    pub head-mark : head_sound handle counter clock q ≡ true → used_at q place_mark ≤ 1
    head-mark h = go (leb (used_at q place_mark) 1) refl
      where
        go : (b : Bool) → leb (used_at q place_mark) 1 ≡ b → used_at q place_mark ≤ 1
        go true e = leb-true (used_at q place_mark) 1 e
        go false e = absurd (false≢true (head-bad (leb-false (used_at q place_mark) 1 e) ∙ h))

-- ---- the overlay
module _ (r : Rooms) (q : Bytes) (y : octets q ≡ true) (l : length q ≡ stride_of r) where
  own_read : (overlay_slot (settings_of false r)).read (part q place_overlay (width_overlay (settings_of false r))) ≡ within (used_at q place_overlay) r.own ((many pair_stream).parse (part q own_start (used_at q place_overlay)))
  own_read = room-read (many pair_stream) q place_overlay r.own (omega arith)

  own_test' : List Pair → Bool
  own_test' own = rises cmp_pair own && (all sound_pair own && leb (own_size own) r.own)

  own-passes : (o : Option (List Pair)) → within (used_at q place_overlay) r.own ((many pair_stream).parse (part q own_start (used_at q place_overlay))) ≡ o
      → own_sound (settings_of false r) q ≡ passes own_test' o
  unfolding own_sound own_test'
  own-passes o e = ap (passes own_test') (own_read ∙ e)

  pub own-big : r.own < used_at q place_overlay → false ≡ own_sound (settings_of false r) q
  own-big h = sym (own-passes none (ap (λ (b : Bool). cond b ((many pair_stream).parse (part q own_start (used_at q place_overlay))) none) (lt-leb (used_at q place_overlay) r.own h)))

  module _ (h : used_at q place_overlay ≤ r.own) where
    in-room : within (used_at q place_overlay) r.own ((many pair_stream).parse (part q own_start (used_at q place_overlay))) ≡ (many pair_stream).parse (part q own_start (used_at q place_overlay))
    in-room = ap (λ (b : Bool). cond b ((many pair_stream).parse (part q own_start (used_at q place_overlay))) none) (le-leb (used_at q place_overlay) r.own h)

    -- entries that were read take the bytes that they were read from
    sized-own : (o : Option (List Pair)) → (many pair_stream).parse (part q own_start (used_at q place_overlay)) ≡ o → passes own_test' o ≡ orderly o
    unfolding own_test' many
    sized-own none e = refl
    sized-own (some own) e =
        let g = subst (Formed (put_all pair_stream) (All OkPair) (part q own_start (used_at q place_overlay))) e ((many-laws pair-laws).again (part q own_start (used_at q place_overlay)) (octets-part q own_start (used_at q place_overlay) y)) in
        let n : own_size own ≡ used_at q place_overlay = sym (overlay-form own) ∙ ap length (sym g.0) ∙ length_part q own_start (used_at q place_overlay) (omega arith) in
        ap (λ (b : Bool). rises cmp_pair own && (all sound_pair own && b)) (le-leb (own_size own) r.own (omega arith)) ∙ ap (λ (b : Bool). rises cmp_pair own && b) (and-true (all sound_pair own))

    as-span : part q own_start (used_at q place_overlay) ≡ part q own_start (own_end q - own_start)
    as-span = let e : used_at q place_overlay ≡ own_end q - own_start = omega arith in ap (part q own_start) e

    pub own-small : overlay_in q own_start (own_end q) ≡ own_sound (settings_of false r) q
    unfolding is_overlay
    own-small =
        ap is_overlay (sym as-span)
        ∙ sym (own-passes ((many pair_stream).parse (part q own_start (used_at q place_overlay))) in-room ∙ sized-own ((many pair_stream).parse (part q own_start (used_at q place_overlay))) refl)

    -- a sound overlay is read
    pub own-there : overlay_in q own_start (own_end q) ≡ true → (overlay_slot (settings_of false r)).read (part q place_overlay (width_overlay (settings_of false r))) ≡ some (own_of q)
    own-there e = own_read ∙ in-room ∙ ap (λ (x : Bytes). (many pair_stream).parse x) as-span ∙ (overlay-is (part q own_start (own_end q - own_start)) e).read

  -- each test, one after the other
  pub own_verdict : (n : ℕ) → n ≡ used_at q place_overlay → own_sound (settings_of false r) q ≡ leb n r.own && is_overlay (part q own_start (own_start + n - own_start))
  own_verdict n e = go (leb (used_at q place_overlay) r.own) refl ∙ ap (λ (a : ℕ). leb a r.own && is_overlay (part q own_start (own_start + a - own_start))) (sym e)
    where
      go : (b : Bool) → leb (used_at q place_overlay) r.own ≡ b → own_sound (settings_of false r) q ≡ leb (used_at q place_overlay) r.own && overlay_in q own_start (own_end q)
      go true f = sym (own-small (leb-true (used_at q place_overlay) r.own f)) ∙ sym (ap (λ (b : Bool). b && overlay_in q own_start (own_end q)) f)
      go false f = sym (own-big (leb-false (used_at q place_overlay) r.own f)) ∙ sym (ap (λ (b : Bool). b && overlay_in q own_start (own_end q)) f)

  pub own-within : own_sound (settings_of false r) q ≡ true → (used_at q place_overlay ≤ r.own) × (overlay_in q own_start (own_end q) ≡ true)
  own-within h = go (leb (used_at q place_overlay) r.own) refl
    where
      go : (b : Bool) → leb (used_at q place_overlay) r.own ≡ b → (used_at q place_overlay ≤ r.own) × (overlay_in q own_start (own_end q) ≡ true)
      go true e = let n = leb-true (used_at q place_overlay) r.own e in (n, own-small n ∙ h)
      go false e = absurd (false≢true (own-big (leb-false (used_at q place_overlay) r.own e) ∙ h))

-- ---- a set
more : (n : ℕ) → n % 4 ≡ 0 → (n ≡ 0 → ⊥) → 0 < n / 4
more zero e z = absurd (z refl)
more (suc n) e z = omega arith

module _ (q : Bytes) (y : octets q ≡ true) (at count : ℕ) (l : at + (8 + 4 * count) ≤ length q) (ser : Bool) where
  set-passes : (o : Option (List ℕ)) → (room (8 + 4 * count) hashes_stream).read (part q at (8 + 4 * count)) ≡ o → set_sound ser count at q ≡ passes (sound_set ser count) o
  unfolding set_sound
  set-passes o e = ap (passes (sound_set ser count)) e

  pub set-big : 4 * count < used_at q at → false ≡ set_sound ser count at q
  set-big h = sym (set-passes none (set-read q at count l (λ e. omega arith)))

  pub set-uneven : used_at q at ≤ 4 * count → (used_at q at % 4 ≡ 0 → ⊥) → false ≡ set_sound ser count at q
  set-uneven h e = sym (set-passes none (set-read-odd q at count l h e))

  module _ (h : used_at q at ≤ 4 * count) (e : used_at q at % 4 ≡ 0) where
    pub set-some : (room (8 + 4 * count) hashes_stream).read (part q at (8 + 4 * count)) ≡ some (set_of q at)
    set-some = set-read-some q at count l h e

    n-is : length (set_of q at) ≡ set_count q at
    n-is = length-hashes (set_count q at) (drop (at + 8) q)

    sound-is : set_sound ser count at q ≡ rises compare (set_of q at) && leb (set_count q at) (cond ser count 0)
    unfolding sound_set
    sound-is =
        set-passes (some (set_of q at)) set-some
        ∙ ap₂ (λ (b : Bool) (n : ℕ). b && leb n (cond ser count 0)) (set-in q (at + 8) (set_count q at) y (omega arith)) n-is

    pub set-serial : ser ≡ true → rises compare (set_of q at) ≡ set_sound ser count at q
    set-serial s =
        sym (sound-is ∙ ap (λ (b : Bool). rises compare (set_of q at) && leb (set_count q at) (cond b count 0)) s
        ∙ ap (λ (b : Bool). rises compare (set_of q at) && b) (le-leb (set_count q at) count (omega arith)) ∙ and-true (rises compare (set_of q at)))

    pub set_other : ser ≡ false → eqb (used_at q at) 0 ≡ set_sound ser count at q
    set_other s = go (eqb (used_at q at) 0) refl
      where
        as_is : set_sound ser count at q ≡ rises compare (set_of q at) && leb (set_count q at) 0
        as_is = sound-is ∙ ap (λ (b : Bool). rises compare (set_of q at) && leb (set_count q at) (cond b count 0)) s

        go : (b : Bool) → eqb (used_at q at) 0 ≡ b → eqb (used_at q at) 0 ≡ set_sound ser count at q
        go true f =
            let z : used_at q at ≡ 0 = eqb-true (used_at q at) 0 f in
            f ∙ sym (as_is ∙ ap₂ (λ (a b : Bool). a && b) (sym (none-rise q (at + 8) (set_count q at) (omega arith))) (le-leb (set_count q at) 0 (omega arith)))
        go false f =
            let z = eqb-false (used_at q at) 0 f in
            f ∙ sym (as_is ∙ ap (λ (b : Bool). rises compare (set_of q at) && b) (lt-leb (set_count q at) 0 (more (used_at q at) e z)) ∙ and-false (rises compare (set_of q at)))

  -- each test, one after the other
  pub set_verdict : (n : ℕ) → n ≡ used_at q at → set_sound ser count at q ≡ leb n (4 * count) && (eqb (n % 4) 0 && ((ser || eqb n 0) && rises compare (set_hashes (part q (at + 8) (at + 8 + n - (at + 8))))))
  set_verdict n e = room_test (leb n (4 * count)) refl
    where
      hashes : n ≤ 4 * count → set_hashes (part q (at + 8) (at + 8 + n - (at + 8))) ≡ set_of q at
      hashes h = hashes-lent q (at + 8) n (omega arith) ∙ ap (λ (m : ℕ). hashes_in q (at + 8) (m / 4)) e

      last : n ≤ 4 * count → n % 4 ≡ 0 → (b : Bool) → ser ≡ b → set_sound ser count at q ≡ (ser || eqb n 0) && rises compare (set_hashes (part q (at + 8) (at + 8 + n - (at + 8))))
      last h f true g =
          sym (ap (λ (b : Bool). (b || eqb n 0) && rises compare (set_hashes (part q (at + 8) (at + 8 + n - (at + 8))))) g ∙ ap (rises compare) (hashes h) ∙ set-serial (omega arith) (rw (← e) f) g)
      last h f false g =
          sym (ap (λ (b : Bool). (b || eqb n 0) && rises compare (set_hashes (part q (at + 8) (at + 8 + n - (at + 8))))) g ∙ empty_test (eqb n 0) refl ∙ ap (λ (m : ℕ). eqb m 0) e ∙ set_other (omega arith) (rw (← e) f) g)
        where
          empty_test : (b : Bool) → eqb n 0 ≡ b → eqb n 0 && rises compare (set_hashes (part q (at + 8) (at + 8 + n - (at + 8)))) ≡ eqb n 0
          empty_test true z =
              let m : n ≡ 0 = eqb-true n 0 z in
              ap (λ (b : Bool). b && rises compare (set_hashes (part q (at + 8) (at + 8 + n - (at + 8))))) z
              ∙ ap (rises compare) (hashes h) ∙ sym (none-rise q (at + 8) (set_count q at) (omega arith)) ∙ sym z
          empty_test false z = ap (λ (b : Bool). b && rises compare (set_hashes (part q (at + 8) (at + 8 + n - (at + 8))))) z ∙ sym z

      even_test : n ≤ 4 * count → (b : Bool) → eqb (n % 4) 0 ≡ b → set_sound ser count at q ≡ eqb (n % 4) 0 && ((ser || eqb n 0) && rises compare (set_hashes (part q (at + 8) (at + 8 + n - (at + 8)))))
      even_test h true f =
          last h (eqb-true (n % 4) 0 f) ser refl ∙ sym (ap (λ (b : Bool). b && ((ser || eqb n 0) && rises compare (set_hashes (part q (at + 8) (at + 8 + n - (at + 8)))))) f)
      even_test h false f =
          sym (set-uneven (omega arith) (λ z. eqb-false (n % 4) 0 f (ap (λ (m : ℕ). m % 4) e ∙ z)))
          ∙ sym (ap (λ (b : Bool). b && ((ser || eqb n 0) && rises compare (set_hashes (part q (at + 8) (at + 8 + n - (at + 8)))))) f)

      room_test : (b : Bool) → leb n (4 * count) ≡ b
          → set_sound ser count at q ≡ leb n (4 * count) && (eqb (n % 4) 0 && ((ser || eqb n 0) && rises compare (set_hashes (part q (at + 8) (at + 8 + n - (at + 8))))))
      room_test true f =
          even_test (leb-true n (4 * count) f) (eqb (n % 4) 0) refl
          ∙ sym (ap (λ (b : Bool). b && (eqb (n % 4) 0 && ((ser || eqb n 0) && rises compare (set_hashes (part q (at + 8) (at + 8 + n - (at + 8))))))) f)
      room_test false f =
          sym (set-big (let l = leb-false n (4 * count) f in omega arith))
          ∙ sym (ap (λ (b : Bool). b && (eqb (n % 4) 0 && ((ser || eqb n 0) && rises compare (set_hashes (part q (at + 8) (at + 8 + n - (at + 8))))))) f)

  -- a sound set is read, and rises
  pub set-within : set_sound ser count at q ≡ true → (used_at q at ≤ 4 * count) × ((room (8 + 4 * count) hashes_stream).read (part q at (8 + 4 * count)) ≡ some (set_of q at)) × (rises compare (set_of q at) ≡ true)
  set-within h = first (leb (used_at q at) (4 * count)) refl
    where
      second : used_at q at ≤ 4 * count → (b : Bool) → eqb (used_at q at % 4) 0 ≡ b
          → (used_at q at ≤ 4 * count) × ((room (8 + 4 * count) hashes_stream).read (part q at (8 + 4 * count)) ≡ some (set_of q at)) × (rises compare (set_of q at) ≡ true)
      second n true f =
          let e : used_at q at % 4 ≡ 0 = eqb-true (used_at q at % 4) 0 f in
          (n, set-some n e, and_left (rises compare (set_of q at)) (leb (set_count q at) (cond ser count 0)) (sym (sound-is n e) ∙ h))
      second n false f = absurd (false≢true (set-uneven n (eqb-false (used_at q at % 4) 0 f) ∙ h))

      first : (b : Bool) → leb (used_at q at) (4 * count) ≡ b
          → (used_at q at ≤ 4 * count) × ((room (8 + 4 * count) hashes_stream).read (part q at (8 + 4 * count)) ≡ some (set_of q at)) × (rises compare (set_of q at) ≡ true)
      first true f = second (leb-true (used_at q at) (4 * count) f) (eqb (used_at q at % 4) 0) refl
      first false f = absurd (false≢true (set-big (leb-false (used_at q at) (4 * count) f) ∙ h))

-- ---- the place
module _ (r : Rooms) (ser : Bool) (counter clock : ℕ) (q : Bytes) (y : octets q ≡ true) (l : length q ≡ stride_of r) where
  abbrev head : Option (ℕ × Bool)
  head = head_slot.read (part q place_read 16)

  abbrev own : Option (List Pair)
  own = (overlay_slot (settings_of ser r)).read (part q place_overlay (width_overlay (settings_of ser r)))

  abbrev writes : Option (List ℕ)
  writes = (writes_slot (settings_of ser r)).read (part q (place_writes (settings_of ser r)) (width_writes (settings_of ser r)))

  read_by : (b : Bool) → eqb (used_at q 0) 0 ≡ b → place_sound (settings_of ser r) counter clock q
      ≡ passes (place_passes (settings_of ser r) counter clock) (map_option to_txn (cond b (some none) (named (used_at q 0) (pair_of head (pair_of own (pair_of ((reads_slot (settings_of ser r)).read (part q (place_reads (settings_of ser r)) (width_reads (settings_of ser r)))) writes))))))
  unfolding place_sound
  read_by b e =
      ap (passes (place_passes (settings_of ser r) counter clock)) (place-read-as (settings_of ser r) q l
      ∙ ap (λ (c : Bool). map_option to_txn (cond c (some none) (named (used_at q 0) (pair_of head (pair_of own (pair_of ((reads_slot (settings_of ser r)).read (part q (place_reads (settings_of ser r)) (width_reads (settings_of ser r)))) writes)))))) e)

  -- a free place
  pub free-sound : used_at q 0 ≡ 0 → true ≡ place_sound (settings_of ser r) counter clock q
  free-sound z = sym (read_by true (eq-eqb (used_at q 0) 0 z))

  module _ (z : used_at q 0 ≡ 0 → ⊥) where
    taken-sound : place_sound (settings_of ser r) counter clock q ≡ parts_sound (settings_of ser r) (used_at q 0) counter clock q && matches (settings_of ser r) counter clock (used_at q 0) head own writes
    unfolding parts_sound head_sound own_sound set_sound head_test own_test
    taken-sound =
        read_by false (ne_eqb (used_at q 0) 0 z)
        ∙ judge (settings_of ser r) counter clock (used_at q 0) head own ((reads_slot (settings_of ser r)).read (part q (place_reads (settings_of ser r)) (width_reads (settings_of ser r)))) writes

    pub parts-fail : parts_sound (settings_of ser r) (used_at q 0) counter clock q ≡ false → false ≡ place_sound (settings_of ser r) counter clock q
    parts-fail e = sym (taken-sound ∙ ap (λ (b : Bool). b && matches (settings_of ser r) counter clock (used_at q 0) head own writes) e)

    module _ (p : parts_sound (settings_of ser r) (used_at q 0) counter clock q ≡ true) where
      matched : place_sound (settings_of ser r) counter clock q ≡ matches (settings_of ser r) counter clock (used_at q 0) head own writes
      matched = taken-sound ∙ ap (λ (b : Bool). b && matches (settings_of ser r) counter clock (used_at q 0) head own writes) p

      pub other-sound : ser ≡ false → true ≡ place_sound (settings_of ser r) counter clock q
      other-sound s = sym (matched ∙ matches-other (settings_of ser r) counter clock (used_at q 0) head own writes s)

      pub closed-sound : used_at q place_mark ≡ 0 → true ≡ place_sound (settings_of ser r) counter clock q
      closed-sound m =
          sym (matched ∙ ap (λ (h : Option (ℕ × Bool)). matches (settings_of ser r) counter clock (used_at q 0) h own writes) (head_read q (omega arith) ∙ ap (flagged (used_at q place_read)) m)
          ∙ matches-closed (settings_of ser r) counter clock (used_at q 0) (used_at q place_read) own writes)

      -- what the parts' rules say
      head-holds : head_sound (used_at q 0) counter clock q ≡ true
      unfolding parts_sound
      head-holds = and_left (head_sound (used_at q 0) counter clock q) _ p

      own-holds : own_sound (settings_of false r) q ≡ true
      unfolding parts_sound own_sound
      own-holds = and_left (own_sound (settings_of ser r) q) _ (and_right (head_sound (used_at q 0) counter clock q) _ p)

      writes-hold : set_sound ser r.writes (writes_at r) q ≡ true
      unfolding parts_sound
      writes-hold =
          and_right (set_sound ser r.reads (reads_at r) q) _ (and_right (own_sound (settings_of ser r) q) _ (and_right (head_sound (used_at q 0) counter clock q) _ p))

      -- what the write set's rule is asked of
      pub to-match : (used_at q place_overlay ≤ r.own) × (overlay_in q own_start (own_end q) ≡ true) × (used_at q (writes_at r) ≤ 4 * r.writes) × (rises compare (set_of q (writes_at r)) ≡ true)
      to-match =
          let o = own-within r q y l own-holds in
          let w = set-within q y (writes_at r) r.writes (omega arith) ser writes-hold in
          (o.0, o.1, w.0, w.2)

      pub open-sound : ser ≡ true → (used_at q place_mark ≡ 0 → ⊥) → same_numbers (set_of q (writes_at r)) (own_hashes (own_of q)) ≡ place_sound (settings_of ser r) counter clock q
      open-sound s m =
          let o = own-within r q y l own-holds in
          let w = set-within q y (writes_at r) r.writes (omega arith) ser writes-hold in
          let k : used_at q place_mark ≡ 1 = one (used_at q place_mark) (head-mark q (omega arith) (used_at q 0) counter clock head-holds) m in
          sym (matched
          ∙ ap (λ (h : Option (ℕ × Bool)). matches (settings_of ser r) counter clock (used_at q 0) h own writes) (head_read q (omega arith) ∙ ap (flagged (used_at q place_read)) k)
          ∙ ap (λ (t : Option (List Pair)). matches (settings_of ser r) counter clock (used_at q 0) (some (used_at q place_read, true)) t writes) (own-there r q y l o.0 o.1)
          ∙ ap (λ (t : Option (List ℕ)). matches (settings_of ser r) counter clock (used_at q 0) (some (used_at q place_read, true)) (some (own_of q)) t) w.1
          ∙ ap (λ (b : Bool). cond (b && true) (same_numbers (set_of q (writes_at r)) (own_hashes (own_of q))) true) s)

  -- the own writes and the write set of a place whose parts are sound can be looked at
  pub match-ready : (handle : ℕ) → handle ≡ used_at q 0 → parts_sound (settings_of ser r) handle counter clock q ≡ true
      → (own_start ≤ length q) × (own_held q ≡ true) × (writes_at r + 8 ≤ length q) × (set_held q (writes_at r) ≡ true) × (used_at q (writes_at r) ≤ 4 * r.writes)
  unfolding own_held set_held parts_sound own_sound
  match-ready handle e p =
      let o = own-within r q y l (and_left (own_sound (settings_of ser r) q) _ (and_right (head_sound handle counter clock q) _ p)) in
      let w = set-within q y (writes_at r) r.writes (omega arith) ser (and_right (set_sound ser r.reads (reads_at r) q) _ (and_right (own_sound (settings_of ser r) q) _ (and_right (head_sound handle counter clock q) _ p))) in (
        omega arith,
        and_intro (le-leb (own_end q) (length q) (omega (arith, o.0))) o.1,
        omega arith,
        and_intro (le-leb (writes_at r + 8 + used_at q (writes_at r)) (length q) (omega (arith, w.0))) w.2,
        w.0,
      )

  -- each test, one after the other
  pub place_verdict : place_sound (settings_of ser r) counter clock q
      ≡ eqb (used_at q 0) 0
      || (parts_sound (settings_of ser r) (used_at q 0) counter clock q && ((not ser || eqb (used_at q place_mark) 0) || same_numbers (set_of q (writes_at r)) (own_hashes (own_of q))))
  place_verdict = free_test (eqb (used_at q 0) 0) refl
    where
      open_test : (z : used_at q 0 ≡ 0 → ⊥) → parts_sound (settings_of ser r) (used_at q 0) counter clock q ≡ true → (b c : Bool) → ser ≡ b → eqb (used_at q place_mark) 0 ≡ c
          → place_sound (settings_of ser r) counter clock q ≡ (not b || c) || same_numbers (set_of q (writes_at r)) (own_hashes (own_of q))
      open_test z p false c e f = sym (other-sound z p e)
      open_test z p true true e f = sym (closed-sound z p (eqb-true (used_at q place_mark) 0 f))
      open_test z p true false e f = sym (open-sound z p e (eqb-false (used_at q place_mark) 0 f))

      parts_test : (z : used_at q 0 ≡ 0 → ⊥) → (b : Bool) → parts_sound (settings_of ser r) (used_at q 0) counter clock q ≡ b → place_sound (settings_of ser r) counter clock q ≡ b && ((not ser || eqb (used_at q place_mark) 0) || same_numbers (set_of q (writes_at r)) (own_hashes (own_of q)))
      parts_test z true p = open_test z p ser (eqb (used_at q place_mark) 0) refl refl
      parts_test z false p = sym (parts-fail z p)

      free_test : (b : Bool) → eqb (used_at q 0) 0 ≡ b → place_sound (settings_of ser r) counter clock q ≡ b || (parts_sound (settings_of ser r) (used_at q 0) counter clock q && ((not ser || eqb (used_at q place_mark) 0) || same_numbers (set_of q (writes_at r)) (own_hashes (own_of q))))
      free_test true e = sym (free-sound (eqb-true (used_at q 0) 0 e))
      free_test false e = parts_test (eqb-false (used_at q 0) 0 e) (parts_sound (settings_of ser r) (used_at q 0) counter clock q) refl
