-- A transaction's place passes its test exactly if it is free or every test of its own parts passes.
-- Assumes nothing.
use Prim.Native.Nat.{ℕ, ◌+◌, ◌≤◌}
use native.Mathlib.Omega.{arith}
use mathlib.Core.Path.{◌≡◌, refl, sym, ap, ◌∙◌}
use mathlib.Core.Bool.{Bool, true, false, ◌&&◌, cond}
use mathlib.Core.List.{List, [], ◌∷◌}
use mathlib.Core.Option.{Option, none, some}
use lib.ListN.{length, drop, get_or, length-drop}
use lib.Seq.{take_all}
use lib.Dec.{leb, eqb, lit<}
use borrow.Author.Tests.{leb-true, leb-false, le-leb, eqb-false}
use Rattle.paper.specs.Lists.{all, rises, hold_all}
use Rattle.paper.specs.Keys.{Bytes, Pair, cmp_pair}
use Rattle.paper.specs.Image.{number_from, number}
use Rattle.paper.specs.Settings.{Settings}
use Rattle.paper.specs.Store.{Txn, make_txn}
use Rattle.paper.specs.Room.{overlay_fits}
use Rattle.paper.specs.Sound.{own_hashes, same_numbers, sound_set, sound_pair, sound_writes, txn_rules, sound_txn}
use Rattle.paper.proofs.Bools.{and_left, and_right, and_intro}
use Rattle.paper.proofs.Alls.{rule}
use Rattle.raw.specs.Bytes.{part}
use Rattle.raw.proofs.Parts.{length_part, part-part}
use Rattle.layout.specs.Codec.{num, flag, both, map_option, room, pair_of, beside, named, taken, optional, slot_via}
use Rattle.layout.specs.Offsets.{place_read, place_overlay, width_overlay, place_reads, width_reads, place_writes, width_writes, stride}
use Rattle.layout.specs.Layout.{TxnParts, head_slot, overlay_slot, reads_slot, writes_slot, txn_slot, to_txn, place_slot}
use Rattle.layout.proofs.Sides.{beside-read}
use Rattle.settings.specs.Parts.{holds_of, or_empty, place_sound, place_ok, tag_in, read_in, mark_in, overlay_ok, reads_ok, writes_ok, own_in, writes_in, seat_rules}
use Rattle.settings.proofs.Reading.{number-here, flag-here, flag-none}
use Rattle.settings.proofs.SoundParts.{same_truth, rule-fails}

-- ---- the rules of what was read
module _ (st : Settings) (counter clock tag read mark : ℕ) (z : eqb tag 0 ≡ false) where
  -- ok: the mark is one
  module _ (ok : Bool) (o_o : Option (List Pair)) (o_r o_w : Option (List ℕ)) where
    abbrev seat_of : Option (Option Txn)
    seat_of = map_option to_txn (named tag (pair_of (cond ok (some (read, eqb mark 1)) none) (pair_of o_o (pair_of o_r o_w))))

    abbrev tests : List Bool
    tests =
        leb tag counter
        ∷ leb read clock
        ∷ ok
        ∷ holds_of o_o (λ own. rises cmp_pair own && (all sound_pair own && overlay_fits st own))
        ∷ holds_of o_r (sound_set st.serializable st.read_hashes)
        ∷ holds_of o_w (sound_set st.serializable st.write_hashes)
        ∷ cond (st.serializable && eqb mark 1) (same_numbers (or_empty o_w) (own_hashes (or_empty o_o))) true
        ∷ []

  no-seat : (x : List Bool) (n : ℕ) → get_or x n true ≡ false → false ≡ hold_all x
  no-seat x n e = sym (rule-fails n x e)

  module _ (own : List Pair) (rs ws : List ℕ) where
    t : Txn
    t = make_txn tag read (eqb mark 1) own rs ws

    L : List Bool
    L = tests true (some own) (some rs) (some ws)

    apart : sound_txn st counter clock t ≡ true → hold_all L ≡ true
    unfolding t L hold_all sound_txn txn_rules sound_writes
    apart e =
        let l = txn_rules st counter clock t in
        and_intro (rule 1 l e)
        (and_intro (rule 2 l e)
        (and_intro refl
        (and_intro (and_intro (rule 3 l e) (and_intro (rule 4 l e) (rule 5 l e))) (and_intro (rule 6 l e) (and_intro (rule 7 l e) (and_intro (rule 8 l e) refl))))))

    together : hold_all L ≡ true → sound_txn st counter clock t ≡ true
    unfolding t L hold_all sound_txn txn_rules sound_writes
    together e =
        let x = rule 3 L e in
        let y = and_right (rises cmp_pair own) (all sound_pair own && overlay_fits st own) x in
        and_intro (le-leb 1 tag (omega (arith, eqb-false tag 0 z)))
        (and_intro (rule 0 L e)
        (and_intro (rule 1 L e)
        (and_intro (and_left (rises cmp_pair own) (all sound_pair own && overlay_fits st own) x)
        (and_intro (and_left (all sound_pair own) (overlay_fits st own) y)
        (and_intro (and_right (all sound_pair own) (overlay_fits st own) y)
        (and_intro (rule 4 L e) (and_intro (rule 5 L e) (and_intro (rule 6 L e) refl))))))))

    all_read : holds_of (seat_of true (some own) (some rs) (some ws)) (place_sound st counter clock) ≡ hold_all (tests true (some own) (some rs) (some ws))
    unfolding t L
    all_read = same_truth (sound_txn st counter clock t) (hold_all L) apart together

  judged : (ok : Bool) (o_o : Option (List Pair)) (o_r o_w : Option (List ℕ)) → holds_of (seat_of ok o_o o_r o_w) (place_sound st counter clock) ≡ hold_all (tests ok o_o o_r o_w)
  judged false o_o o_r o_w = no-seat (tests false o_o o_r o_w) 2 refl
  judged true none o_r o_w = no-seat (tests true none o_r o_w) 3 refl
  judged true (some own) none o_w = no-seat (tests true (some own) none o_w) 4 refl
  judged true (some own) (some rs) none = no-seat (tests true (some own) (some rs) none) 5 refl
  judged true (some own) (some rs) (some ws) = all_read own rs ws

-- ---- the bytes of a place
module _ (st : Settings) (q : Bytes) where
  abbrev o_o : Option (List Pair)
  o_o = (overlay_slot st).read (part q place_overlay (width_overlay st))

  abbrev o_r : Option (List ℕ)
  o_r = (reads_slot st).read (part q (place_reads st) (width_reads st))

  abbrev o_w : Option (List ℕ)
  o_w = (writes_slot st).read (part q (place_writes st) (width_writes st))

module _ (st : Settings) (q : Bytes) (l : length q ≡ stride st) where
  head : Bytes
  head = part q place_read 16

  head-number : (j : ℕ) → j + 8 ≤ 16 → number 8 (drop j head) ≡ some (number_from 0 (part q (place_read + j) 8), drop (j + 8) head)
  unfolding head
  head-number j k =
      number-here head j (omega (arith, length_part q place_read 16 (omega arith)))
      ∙ ap {B = Option (ℕ × Bytes)} (λ n. some (n, drop (j + 8) head)) (ap (number_from 0) (part-part q place_read 16 j 8 k))

  head_read : head_slot.read (part q place_read 16) ≡ cond (leb (mark_in q) 1) (some (read_in q, eqb (mark_in q) 1)) none
  unfolding head room both num flag
  head_read = go (leb (mark_in q) 1) refl
    where
      go : (b : Bool) → leb (mark_in q) 1 ≡ b → head_slot.read (part q place_read 16) ≡ cond b (some (read_in q, eqb (mark_in q) 1)) none
      go true e = simp (head-number 0 (lit< tt), head-number 8 (lit< tt), flag-here (mark_in q) (drop 16 head) (leb-true (mark_in q) 1 e))
      go false e = simp (head-number 0 (lit< tt), head-number 8 (lit< tt), flag-none (mark_in q) (drop 16 head) (leb-false (mark_in q) 1 e))

  txn-read : (txn_slot st).read (drop 8 q)
      ≡ pair_of (head_slot.read (part q place_read 16))
      (pair_of (o_o st q)
      (pair_of (o_r st q) (o_w st q)))
  unfolding txn_slot beside room
  txn-read =
      let two = beside (reads_slot st) (writes_slot st) in
      let three = beside (overlay_slot st) two in
      let w : ℕ = 16 + (width_overlay st + (width_reads st + width_writes st)) in
      let e : drop 8 q ≡ part q 8 w = sym (take_all w (drop 8 q) (rw length-drop (omega arith))) in
      ap (txn_slot st).read e
      ∙ beside-read head_slot three q place_read
      ∙ ap (pair_of (head_slot.read (part q place_read 16)))
      (beside-read (overlay_slot st) two q place_overlay
      ∙ ap (pair_of (o_o st q)) (beside-read (reads_slot st) (writes_slot st) q (place_reads st)))

  pub place-parts : (counter clock : ℕ) → place_ok st counter clock q ≡ cond (eqb (tag_in q) 0) true (hold_all (seat_rules st counter clock q))
  unfolding place_ok place_slot slot_via optional seat_rules overlay_ok reads_ok writes_ok own_in writes_in
  place-parts counter clock = go (eqb (tag_in q) 0) refl
    where
      n : number 8 q ≡ some (tag_in q, drop 8 q)
      n = number-here q 0 (omega arith)

      go : (b : Bool) → eqb (tag_in q) 0 ≡ b → place_ok st counter clock q ≡ cond b true (hold_all (seat_rules st counter clock q))
      go true e = ap (λ (x : Option (ℕ × Bytes)). holds_of (map_option to_txn (taken ((txn_slot st).read (drop 8 q)) x)) (place_sound st counter clock)) n ∙ simp e
      go false e =
          ap (λ (x : Option (ℕ × Bytes)). holds_of (map_option to_txn (taken ((txn_slot st).read (drop 8 q)) x)) (place_sound st counter clock)) n
          ∙ ap (λ b. holds_of (map_option to_txn (cond b (some none) (named (tag_in q) ((txn_slot st).read (drop 8 q))))) (place_sound st counter clock)) e
          ∙ ap (λ (x : Option TxnParts). holds_of (map_option to_txn (named (tag_in q) x)) (place_sound st counter clock)) (txn-read ∙ ap (λ (y : Option (ℕ × Bool)). pair_of y (pair_of (o_o st q) (pair_of (o_r st q) (o_w st q)))) head_read)
          ∙ judged st counter clock (tag_in q) (read_in q) (mark_in q) e (leb (mark_in q) 1) (o_o st q) (o_r st q) (o_w st q)
