-- The two tests of the state check are the paper's state rules.
-- Assumes nothing.
use Prim.Native.Nat.{ℕ, ◌/◌}
use lib.ListN.{length}
use mathlib.Core.Path.{◌≡◌, ap, ◌∙◌}
use mathlib.Core.Bool.{true}
use mathlib.Core.List.{List}
use mathlib.Core.Option.{Option, none, some}
use Rattle.paper.specs.Keys.{Bytes}
use Rattle.paper.specs.Readers.{Row}
use Rattle.paper.specs.Settings.{Settings}
use Rattle.paper.specs.Store.{Txn, handles_of, read_numbers_of, rows_of}
use Rattle.paper.specs.Sound.{distinct, same_rows}
use Rattle.paper.proofs.PlaceLaws.{same_rows-eq}
use Rattle.layout.specs.Offsets.{stride, rows_part, places_part}
use Rattle.layout.specs.Layout.{rows_slot, places_slot}
use Rattle.layout.proofs.Sides.{Has}
use Rattle.table.specs.Rows.{read_in, are_rows}
use Rattle.table.specs.Places.{handles_in, reads_in}
use Rattle.table.proofs.RowsLie.{slot-reads, part-reads}
use Rattle.table.proofs.PlacesLie.{handles-are, reads-are}

-- a region of which the test is true reads as the rows made
made-read : (o : Option (List Row)) (made : List Row) → are_rows o made ≡ true → o ≡ some made
made-read none made h = cc
made-read (some rs) made h = ap some (same_rows-eq rs made h)

pub match-reads : (s : Settings) (q : Bytes) (made : List Row) → are_rows (read_in q) made ≡ true → (rows_slot s).read q ≡ some made
match-reads s q made h = slot-reads s q ∙ made-read (read_in q) made h

module _ (s : Settings) (b : Bytes) (ps : List (Option Txn)) (h : Has (places_slot s) (places_part s b) ps) where
  -- 'reader rows rise strictly and count exactly the transactions'
  pub match_is : (rs : List Row) → Has (rows_slot s) (rows_part s b) rs
      → are_rows (read_in (rows_part s b)) (rows_of (reads_in (places_part s b) 0 (stride s) (length (places_part s b) / stride s))) ≡ same_rows rs (rows_of (read_numbers_of ps))
  match_is rs k =
      ap (λ (o : Option (List Row)). are_rows o (rows_of (reads_in (places_part s b) 0 (stride s) (length (places_part s b) / stride s)))) (part-reads s (rows_part s b) rs k)
      ∙ ap (λ (ns : List ℕ). same_rows rs (rows_of ns)) (reads-are s b ps h)

  -- 'handles distinct'
  pub distinct-is : distinct (handles_in (places_part s b) 0 (stride s) (length (places_part s b) / stride s)) ≡ distinct (handles_of ps)
  distinct-is = ap distinct (handles-are s b ps h)
