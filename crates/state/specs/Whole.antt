-- What the functions of the state check answer, in the words of settings' rules: b is a state, and st the settings in front of it.
-- Assumes nothing.
use Rattle.std.specs.Prelude.{Bool, List, [], ◌∷◌, ℕ}
use Rattle.paper.specs.Lists.{all}
use Rattle.paper.specs.Keys.{Bytes}
use Rattle.paper.specs.Settings.{Settings}
use Rattle.paper.specs.Store.{handles_of, read_numbers_of, rows_of}
use Rattle.paper.specs.Sound.{distinct, same_rows, newer_than}
use Rattle.layout.specs.Offsets.{active_part, area_part, place_part}
use Rattle.settings.specs.Parts.{every, active_ok, area_ok, place_ok, rows_in, active_in, frozen_in, places_in}

module _ (st : Settings) where
  -- the runs' two parts, and 'active versions newer than all in other runs'
  unfoldable pub run_rules : ℕ → Bytes → List Bool
  run_rules clock b = active_ok st clock (active_part st b) ∷ area_ok st clock (area_part st b) ∷ all (newer_than (frozen_in st b)) (active_in st b) ∷ []

  -- every place is free, or its transaction keeps the rules of one
  unfoldable pub seats_ok : ℕ → ℕ → Bytes → Bool
  seats_ok counter clock b = every (λ i. place_ok st counter clock (place_part st b i)) st.transactions

  -- 'handles distinct', and 'reader rows rise strictly and count exactly the transactions'
  unfoldable pub table_rules : Bytes → List Bool
  table_rules b = distinct (handles_of (places_in st b)) ∷ same_rows (rows_in st b) (rows_of (read_numbers_of (places_in st b))) ∷ []
