-- The state rules taken apart: a test for each part of a state, on the bytes of that part alone, and the rules that tie parts together.
-- Assumes nothing.
use Rattle.std.specs.Prelude.{ℕ, zero, suc, Bool, true, false, cond, ◌&&◌, List, [], ◌∷◌, leb, eqb}
use Rattle.std.proofs.Math.Option.{Option, none, some}
use Rattle.paper.specs.Lists.{all, is_some, rises, hold_all}
use Rattle.paper.specs.Keys.{Bytes, Pair, cmp_pair}
use Rattle.paper.specs.Runs.{Run}
use Rattle.paper.specs.Readers.{Row}
use Rattle.paper.specs.Image.{number_from}
use Rattle.paper.specs.Settings.{Settings}
use Rattle.paper.specs.Store.{Txn, handles_of, read_numbers_of, rows_of}
use Rattle.paper.specs.Room.{overlay_fits, active_fits, runs_fit}
use Rattle.paper.specs.Sound.{own_hashes, same_numbers, sound_set, sound_pair, sound_txn, distinct, same_rows, history_rules, sound_run, newer_than}
use Rattle.raw.specs.Bytes.{part}
use Rattle.layout.specs.Offsets.{place_read, place_mark, place_overlay, width_overlay, place_reads, width_reads, place_writes, width_writes, clock_part, counter_part, rows_part, history_part, active_part, area_part, places_part, place_part}
use Rattle.layout.specs.Layout.{overlay_slot, reads_slot, writes_slot, rows_slot, history_slot, active_slot, frozen_slot, place_slot, places_slot}

-- a test of what was found; false where nothing was
abbrev pub holds_of : {A : Type 0} → Option A → (A → Bool) → Bool
holds_of none test = false
holds_of (some a) test = test a

-- the list that was found; empty where none was
abbrev pub or_empty : {A : Type 0} → Option (List A) → List A
or_empty none = []
or_empty (some l) = l

-- the test passes at every number below n
unfoldable pub every : (ℕ → Bool) → ℕ → Bool
every test zero = true
every test (suc n) = every test n && test n

-- ---- the two numbers
abbrev pub clock_in : Bytes → ℕ
clock_in b = number_from 0 (clock_part b)

abbrev pub counter_in : Bytes → ℕ
counter_in b = number_from 0 (counter_part b)

-- ---- a part, on its own bytes q
module _ (st : Settings) where
  unfoldable pub rows_ok : Bytes → Bool
  rows_ok q = is_some ((rows_slot st).read q)

  -- 'history strictly rising; every commit number .. at or below the clock', within its room, and 'in the other mode .. empty'
  unfoldable pub history_ok : ℕ → Bytes → Bool
  history_ok clock q = holds_of ((history_slot st).read q) (λ cs. hold_all (history_rules st clock cs))

  -- 'every .. version at or below the clock; runs sound', within their room
  unfoldable pub active_ok : ℕ → Bytes → Bool
  active_ok clock q = holds_of ((active_slot st).read q) (λ r. sound_run clock r && active_fits st r)

  unfoldable pub area_ok : ℕ → Bytes → Bool
  area_ok clock q = holds_of ((frozen_slot st).read q) (λ rs. all (sound_run clock) rs && runs_fit st rs)

  -- a place is free, or its transaction keeps the rules of one
  abbrev pub place_sound : ℕ → ℕ → Option Txn → Bool
  place_sound counter clock none = true
  place_sound counter clock (some t) = sound_txn st counter clock t

  unfoldable pub place_ok : ℕ → ℕ → Bytes → Bool
  place_ok counter clock q = holds_of ((place_slot st).read q) (place_sound counter clock)

-- ---- the place of a transaction, on its own bytes q: its handle, 0 where the place is free; its read number; its mark, 1 where it is open
abbrev pub tag_in : Bytes → ℕ
tag_in q = number_from 0 (part q 0 8)

abbrev pub read_in : Bytes → ℕ
read_in q = number_from 0 (part q place_read 8)

abbrev pub mark_in : Bytes → ℕ
mark_in q = number_from 0 (part q place_mark 8)

module _ (st : Settings) where
  -- 'overlays strictly rising and within room'
  unfoldable pub overlay_ok : Bytes → Bool
  overlay_ok q = holds_of ((overlay_slot st).read q) (λ own. rises cmp_pair own && (all sound_pair own && overlay_fits st own))

  -- 'sets without repeats', within their room; 'in the other mode sets .. are empty'
  unfoldable pub reads_ok : Bytes → Bool
  reads_ok q = holds_of ((reads_slot st).read q) (sound_set st.serializable st.read_hashes)

  unfoldable pub writes_ok : Bytes → Bool
  writes_ok q = holds_of ((writes_slot st).read q) (sound_set st.serializable st.write_hashes)

  unfoldable pub own_in : Bytes → List Pair
  own_in q = or_empty ((overlay_slot st).read (part q place_overlay (width_overlay st)))

  unfoldable pub writes_in : Bytes → List ℕ
  writes_in q = or_empty ((writes_slot st).read (part q (place_writes st) (width_writes st)))

  -- of a place that is not free
  unfoldable pub seat_rules : ℕ → ℕ → Bytes → List Bool
  seat_rules counter clock q =
      leb (tag_in q) counter
      ∷ leb (read_in q) clock
      ∷ leb (mark_in q) 1
      ∷ overlay_ok (part q place_overlay (width_overlay st))
      ∷ reads_ok (part q (place_reads st) (width_reads st))
      ∷ writes_ok (part q (place_writes st) (width_writes st))
      -- 'in serializable mode an open transaction's write set holds exactly its overlay keys' hashes'
      ∷ cond (st.serializable && eqb (mark_in q) 1) (same_numbers (writes_in q) (own_hashes (own_in q))) true
      ∷ []

-- ---- the parts of a state b
module _ (st : Settings) (b : Bytes) where
  -- what they read as
  unfoldable pub rows_in : List Row
  rows_in = or_empty ((rows_slot st).read (rows_part st b))

  unfoldable pub active_in : Run
  active_in = or_empty ((active_slot st).read (active_part st b))

  unfoldable pub frozen_in : List Run
  frozen_in = or_empty ((frozen_slot st).read (area_part st b))

  unfoldable pub places_in : List (Option Txn)
  places_in = or_empty ((places_slot st).read (places_part st b))

  unfoldable pub places_ok : Bool
  places_ok = every (λ i. place_ok st (counter_in b) (clock_in b) (place_part st b i)) st.transactions

  unfoldable pub part_rules : List Bool
  part_rules =
      rows_ok st (rows_part st b)
      ∷ history_ok st (clock_in b) (history_part st b)
      ∷ active_ok st (clock_in b) (active_part st b)
      ∷ area_ok st (clock_in b) (area_part st b)
      ∷ places_ok
      ∷ []

  -- where every part is as it should be: what one says of another
  unfoldable pub tie_rules : List Bool
  tie_rules =
      -- 'handles distinct'
      distinct (handles_of places_in)
      -- 'reader rows rise strictly and count exactly the transactions'
      ∷ same_rows rows_in (rows_of (read_numbers_of places_in))
      -- 'active versions newer than all in other runs'
      ∷ all (newer_than frozen_in) active_in
      ∷ []

  -- behind settings that are in range and for which the bytes are enough: every other rule holds
  unfoldable pub parts_sound : Bool
  parts_sound = hold_all part_rules && hold_all tie_rules
