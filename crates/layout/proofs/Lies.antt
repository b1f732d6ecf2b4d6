-- Where each part of a store lies in the bytes of its state.
-- Assumes nothing.
use Prim.Native.Nat.{ℕ, ◌≤◌}
use native.Mathlib.Omega.{arith}
use mathlib.Core.Path.{◌≡◌, ap, ap₂, ◌∙◌, subst}
use mathlib.Core.Bool.{true}
use mathlib.Core.List.{List, ◌∷◌, [], ◌++◌, append_assoc, append-nil}
use mathlib.Core.Option.{Option, some}
use lib.ListN.{length, take, drop}
use lib.Seq.{drop-drop}
use Rattle.paper.specs.Keys.{Bytes, octets}
use Rattle.paper.specs.Lists.{join}
use Rattle.paper.specs.Runs.{Run}
use Rattle.paper.specs.Readers.{Row}
use Rattle.paper.specs.History.{Commit}
use Rattle.paper.specs.Settings.{Settings, state_length}
use Rattle.paper.specs.Store.{Txn, Store, frozen_of}
use Rattle.raw.specs.Bytes.{part}
use Rattle.raw.proofs.Parts.{length_part}
use Rattle.raw.proofs.Octets.{octets-take, octets-part}
use Rattle.layout.specs.Codec.{Slot, room, beside}
use Rattle.layout.specs.Offsets.{start_clock, start_counter, start_rows, start_history, start_active, start_area, start_places, clock_part, counter_part, rows_part, history_part, active_part, area_part, places_part}
use Rattle.layout.specs.Layout.{settings_slot, number_slot, rows_slot, history_slot, active_slot, frozen_slot, places_slot, parts_slot, parts_of, parts_in, behind, settings_in, read_store, write_store}
use Rattle.layout.proofs.LayoutLaws.{settings-slot, number-slot, rows-slot, history-slot, active-slot, frozen-slot, places-slot, places-width, width_is}
use Rattle.layout.proofs.StoreLaws.{held, settings-long}
use Rattle.layout.proofs.Sides.{Has, has, beside-write, has_both}

-- the slots behind each part
module _ (s : Settings) where
  abbrev behind₆ : Slot (List Run × List (Option Txn))
  behind₆ = beside (frozen_slot s) (places_slot s)

  abbrev behind₅ : Slot (Run × (List Run × List (Option Txn)))
  behind₅ = beside (active_slot s) behind₆

  abbrev behind₄ : Slot (List Commit × (Run × (List Run × List (Option Txn))))
  behind₄ = beside (history_slot s) behind₅

  abbrev behind₃ : Slot (List Row × (List Commit × (Run × (List Run × List (Option Txn)))))
  behind₃ = beside (rows_slot s) behind₄

  abbrev behind₂ : Slot (ℕ × (List Row × (List Commit × (Run × (List Run × List (Option Txn))))))
  behind₂ = beside number_slot behind₃

-- ---- reading
-- the store s lies in the bytes b: each of its parts is read where it begins
pub record Laid (b : Bytes) (s : Store) : Type 0 where
  pub enough : state_length s.settings ≤ length b
  pub settings : Has settings_slot (take start_clock b) s.settings
  pub clock : Has number_slot (clock_part b) s.clock
  pub counter : Has number_slot (counter_part b) s.counter
  pub readers : Has (rows_slot s.settings) (rows_part s.settings b) s.readers
  pub history : Has (history_slot s.settings) (history_part s.settings b) s.history
  pub active : Has (active_slot s.settings) (active_part s.settings b) s.active
  pub frozen : Has (frozen_slot s.settings) (area_part s.settings b) (frozen_of s)
  pub places : Has (places_slot s.settings) (places_part s.settings b) s.places

pub laid : (b : Bytes) (s : Store) → octets b ≡ true → read_store b ≡ some s → Laid b s
unfolding parts_slot beside number_slot rows_slot history_slot active_slot frozen_slot room settings_in
laid b s y e =
    let h = held b s e in
    let st : Settings = s.settings in
    let w = width_is st in
    let n = h.enough in
    let p₁ = has_both (behind₂ st) number-slot b start_clock s.clock _ y (omega arith) h.parts in
    let p₂ = has_both (behind₃ st) number-slot b start_counter s.counter _ y (omega arith) p₁.1 in
    let p₃ = has_both (behind₄ st) (rows-slot st) b start_rows s.readers _ y (omega arith) p₂.1 in
    let p₄ = has_both (behind₅ st) (history-slot st) b (start_history st) s.history _ y (omega arith) p₃.1 in
    let p₅ = has_both (behind₆ st) (active-slot st) b (start_active st) s.active _ y (omega arith) p₄.1 in
    let p₆ = has_both (places_slot st) (frozen-slot st) b (start_area st) (frozen_of s) s.places y (omega arith) p₅.1 in
    let m : ℕ = (places_slot st).width in
    record {
      enough = n;
      settings = has settings-slot (take start_clock b) st (octets-take start_clock b y) (settings-long st b n) h.settings;
      clock = p₁.0;
      counter = p₂.0;
      readers = p₃.0;
      history = p₄.0;
      active = p₅.0;
      frozen = p₆.0;
      places =
          subst (λ (k : ℕ). Has (places_slot st) (part b (start_places st) k) s.places) (places-width st)
          (has (places-slot st) (part b (start_places st) m) s.places (octets-part b (start_places st) m y) (length_part b (start_places st) m (omega arith)) p₆.1);
    }

-- ---- writing
-- the pieces of a store that is written over b
abbrev pub written : Store → Bytes → List Bytes
written s b =
    settings_slot.write s.settings (take start_clock b)
    ∷ number_slot.write s.clock (clock_part b)
    ∷ number_slot.write s.counter (counter_part b)
    ∷ (rows_slot s.settings).write s.readers (rows_part s.settings b)
    ∷ (history_slot s.settings).write s.history (history_part s.settings b)
    ∷ (active_slot s.settings).write s.active (active_part s.settings b)
    ∷ (frozen_slot s.settings).write (frozen_of s) (area_part s.settings b)
    ∷ (places_slot s.settings).write s.places (places_part s.settings b)
    ∷ drop (state_length s.settings) b
    ∷ []

parts-written : (s : Store) (b : Bytes) → (parts_slot s.settings).write (parts_of s) (parts_in s.settings b)
    ≡ number_slot.write s.clock (clock_part b)
    ++ (number_slot.write s.counter (counter_part b)
    ++ ((rows_slot s.settings).write s.readers (rows_part s.settings b)
    ++ ((history_slot s.settings).write s.history (history_part s.settings b)
    ++ ((active_slot s.settings).write s.active (active_part s.settings b)
    ++ ((frozen_slot s.settings).write (frozen_of s) (area_part s.settings b) ++ (places_slot s.settings).write s.places (places_part s.settings b))))))
unfolding parts_slot beside number_slot rows_slot history_slot active_slot frozen_slot room
parts-written s b =
    let st : Settings = s.settings in
    beside-write number_slot (behind₂ st) b start_clock s.clock _
    ∙ ap (λ (u : Bytes). number_slot.write s.clock (clock_part b) ++ u)
    (beside-write number_slot (behind₃ st) b start_counter s.counter _
    ∙ ap (λ (u : Bytes). number_slot.write s.counter (counter_part b) ++ u)
    (beside-write (rows_slot st) (behind₄ st) b start_rows s.readers _
    ∙ ap (λ (u : Bytes). (rows_slot st).write s.readers (rows_part st b) ++ u)
    (beside-write (history_slot st) (behind₅ st) b (start_history st) s.history _
    ∙ ap (λ (u : Bytes). (history_slot st).write s.history (history_part st b) ++ u)
    (beside-write (active_slot st) (behind₆ st) b (start_active st) s.active _
    ∙ ap (λ (u : Bytes). (active_slot st).write s.active (active_part st b) ++ u)
    (beside-write (frozen_slot st) (places_slot st) b (start_area st) (frozen_of s) s.places
    ∙ ap (λ (k : ℕ). (frozen_slot st).write (frozen_of s) (area_part st b) ++ (places_slot st).write s.places (part b (start_places st) k)) (places-width st))))))

pub written-join : (s : Store) (b : Bytes) → write_store s b ≡ join (written s b)
unfolding write_store join
written-join s b =
    let w : ℕ = (parts_slot s.settings).width in
    let d : behind s.settings b ≡ drop (state_length s.settings) b = drop-drop w start_clock b ∙ ap (λ (n : ℕ). drop n b) (width_is s.settings) in
    ap₂ (λ (u v : Bytes). settings_slot.write s.settings (take start_clock b) ++ (u ++ v)) (parts-written s b) d
    ∙ simp (append_assoc, append-nil)
