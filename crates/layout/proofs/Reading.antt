-- What any bytes read as, part by part where each part begins: for a check that does not know yet whether they hold a store.
-- Assumes nothing.
use Prim.Native.Nat.{ℕ, suc, ◌+◌, ◌*◌, ◌<◌, ◌≤◌}
use native.Mathlib.Omega.{arith}
use native.Mathlib.Nat.{suc-mul, le-add_right, add-sub_cancel_left}
use mathlib.Core.Path.{◌≡◌, refl, sym, ap, ap₂, ◌∙◌}
use mathlib.Core.Bool.{cond}
use mathlib.Core.Option.{Option, none, some}
use lib.ListN.{length, take, drop, length-drop}
use lib.Seq.{take_all}
use lib.Dec.{eqb}
use borrow.Author.Tests.{le-leb, lt-leb}
use Rattle.paper.specs.Keys.{Bytes}
use Rattle.paper.specs.Image.{bytes, number, number_from}
use Rattle.paper.specs.Settings.{Settings, state_length}
use Rattle.raw.specs.Bytes.{part}
use Rattle.raw.proofs.Parts.{take_part, drop-part}
use Rattle.layout.specs.Codec.{first_of, num, room, pair_of, beside, cons_of, read_rows, rows, named, taken, optional, map_option, slot_via}
use Rattle.layout.specs.Offsets.{start_clock, start_counter, start_rows, start_history, start_active, start_area, start_places, stride, place_overlay, width_overlay, place_reads, width_reads, place_writes, width_writes, clock_part, counter_part, rows_part, history_part, active_part, area_part, places_part}
use Rattle.layout.specs.Layout.{head_slot, overlay_slot, reads_slot, writes_slot, txn_slot, to_txn, place_slot, number_slot, rows_slot, history_slot, active_slot, frozen_slot, places_slot, Parts, parts_slot, to_store, parts_in, with_settings, settings_in, read_store}
use Rattle.layout.proofs.LayoutLaws.{place-width, places-width}
use Rattle.layout.proofs.Sides.{beside-read}

-- ---- the settings decide first
pub read-no-settings : (b : Bytes) → settings_in b ≡ none → read_store b ≡ none
unfolding read_store
read-no-settings b e = ap (with_settings b) e

pub read_short : (b : Bytes) (st : Settings) → settings_in b ≡ some st → length b < state_length st → read_store b ≡ none
unfolding read_store
read_short b st e l = ap (with_settings b) e ∙ rw (lt-leb (state_length st) (length b) l)

-- ---- then each part, where it begins
abbrev pub parts_at : Settings → Bytes → Option Parts
parts_at st b =
    pair_of (number_slot.read (clock_part b))
    (pair_of (number_slot.read (counter_part b))
    (pair_of ((rows_slot st).read (rows_part st b))
    (pair_of ((history_slot st).read (history_part st b))
    (pair_of ((active_slot st).read (active_part st b)) (pair_of ((frozen_slot st).read (area_part st b)) ((places_slot st).read (places_part st b)))))))

parts-read : (st : Settings) (b : Bytes) → (parts_slot st).read (parts_in st b) ≡ parts_at st b
unfolding parts_slot beside number_slot rows_slot history_slot active_slot frozen_slot room
parts-read st b =
    beside-read number_slot (beside number_slot (beside (rows_slot st) (beside (history_slot st) (beside (active_slot st) (beside (frozen_slot st) (places_slot st)))))) b start_clock
    ∙ ap (pair_of (number_slot.read (clock_part b)))
    (beside-read number_slot (beside (rows_slot st) (beside (history_slot st) (beside (active_slot st) (beside (frozen_slot st) (places_slot st))))) b start_counter
    ∙ ap (pair_of (number_slot.read (counter_part b)))
    (beside-read (rows_slot st) (beside (history_slot st) (beside (active_slot st) (beside (frozen_slot st) (places_slot st)))) b start_rows
    ∙ ap (pair_of ((rows_slot st).read (rows_part st b)))
    (beside-read (history_slot st) (beside (active_slot st) (beside (frozen_slot st) (places_slot st))) b (start_history st)
    ∙ ap (pair_of ((history_slot st).read (history_part st b)))
    (beside-read (active_slot st) (beside (frozen_slot st) (places_slot st)) b (start_active st)
    ∙ ap (pair_of ((active_slot st).read (active_part st b)))
    (beside-read (frozen_slot st) (places_slot st) b (start_area st)
    ∙ ap (λ (n : ℕ). pair_of ((frozen_slot st).read (area_part st b)) ((places_slot st).read (part b (start_places st) n))) (places-width st))))))

pub read-parts : (b : Bytes) (st : Settings) → settings_in b ≡ some st → state_length st ≤ length b → read_store b ≡ map_option (to_store st) (parts_at st b)
unfolding read_store
read-parts b st e l = ap (with_settings b) e ∙ rw (le-leb (state_length st) (length b) l) (ap (map_option (to_store st)) (parts-read st b))

-- ---- the places, from the first
pub places-read : (st : Settings) (b : Bytes) → (places_slot st).read (places_part st b) ≡ read_rows (place_slot st) st.transactions (places_part st b)
unfolding places_slot rows
places-read st b = refl

-- one place, and those behind it
pub places-more : (st : Settings) (b : Bytes) (at n : ℕ)
    → read_rows (place_slot st) (suc n) (part b at (suc n * stride st)) ≡ cons_of ((place_slot st).read (part b at (stride st))) (read_rows (place_slot st) n (part b (at + stride st) (n * stride st)))
unfolding read_rows
places-more st b at n =
    let w : ℕ = stride st in
    let m : suc n * w ≡ w + n * w = omega (arith, suc-mul n w) in
    let q : Bytes = part b at (suc n * w) in
    let f : take (place_slot st).width q ≡ part b at w = ap₂ (λ (i j : ℕ). take i (part b at j)) (place-width st) m ∙ take_part b at (w + n * w) w (le-add_right w (n * w)) in
    let g : drop (place_slot st).width q ≡ part b (at + w) (n * w) =
    ap₂ (λ (i j : ℕ). drop i (part b at j)) (place-width st) m ∙ drop-part b at (w + n * w) w ∙ ap (part b (at + w)) (add-sub_cancel_left w (n * w)) in
    ap₂ (λ (u v : Bytes). cons_of ((place_slot st).read u) (read_rows (place_slot st) n v)) f g

-- ---- a number
pub number-taken : (q : Bytes) (w : ℕ) → w ≤ length q → number w q ≡ some (number_from 0 (take w q), drop w q)
unfolding number bytes
number-taken q w l = rw (le-leb w (length q) l)

pub number-read-as : (q : Bytes) → length q ≡ 8 → number_slot.read q ≡ some (number_from 0 q)
unfolding number_slot room num
number-read-as q l = ap first_of (number-taken q 8 (omega arith)) ∙ ap (λ (u : Bytes). some (number_from 0 u)) (take_all 8 q (omega arith))

-- ---- a place: free where its first number is 0, else a transaction of that handle where its parts read
module _ (st : Settings) (q : Bytes) (l : length q ≡ stride st) where
  txn-read : (txn_slot st).read (drop 8 q) ≡ pair_of (head_slot.read (part q 8 16)) (pair_of ((overlay_slot st).read (part q place_overlay (width_overlay st))) (pair_of ((reads_slot st).read (part q (place_reads st) (width_reads st))) ((writes_slot st).read (part q (place_writes st) (width_writes st)))))
  unfolding txn_slot beside room
  txn-read =
      let d : drop 8 q ≡ part q 8 (txn_slot st).width = sym (take_all (txn_slot st).width (drop 8 q) (rw length-drop (omega arith))) in
      ap (λ (u : Bytes). (txn_slot st).read u) d
      ∙ beside-read head_slot (beside (overlay_slot st) (beside (reads_slot st) (writes_slot st))) q 8
      ∙ ap (pair_of (head_slot.read (part q 8 16)))
      (beside-read (overlay_slot st) (beside (reads_slot st) (writes_slot st)) q place_overlay
      ∙ ap (pair_of ((overlay_slot st).read (part q place_overlay (width_overlay st)))) (beside-read (reads_slot st) (writes_slot st) q (place_reads st)))

  pub place-read-as : (place_slot st).read q
      ≡ map_option to_txn (cond (eqb (number_from 0 (part q 0 8)) 0) (some none) (named (number_from 0 (part q 0 8)) (pair_of (head_slot.read (part q 8 16)) (pair_of ((overlay_slot st).read (part q place_overlay (width_overlay st))) (pair_of ((reads_slot st).read (part q (place_reads st) (width_reads st))) ((writes_slot st).read (part q (place_writes st) (width_writes st))))))))
  unfolding place_slot slot_via optional
  place-read-as = ap (map_option to_txn) (ap₂ taken txn-read (number-taken q 8 (omega arith)))
