-- The packed bytes of five runs and own writes, and three views of them. Written by oracle/fixed_list.py.
-- Assumes nothing.
use Rattle.std.specs.Prelude.{ℕ, [], ◌∷◌}
use Rattle.paper.specs.Keys.{Bytes}
use Rattle.merge.specs.Cursors.{nowhere}
use Rattle.merge.specs.declared.heap.Cursor.{Cursor}
use Rattle.lsm.specs.declared.view.View.{View}

-- the runs one after the other, then the own writes
unfoldable pub list_bytes : Bytes
list_bytes = 0 ∷ 2 ∷ 97 ∷ 98 ∷ 0 ∷ 0 ∷ 0 ∷ 0 ∷ 0 ∷ 0 ∷ 0 ∷ 2 ∷ 0 ∷ 1 ∷ 113 ∷ 0 ∷ 1 ∷ 98 ∷ 0 ∷ 0 ∷ 0 ∷ 0 ∷ 0 ∷ 0 ∷ 0 ∷ 2 ∷ 0 ∷ 1 ∷ 112 ∷ 0 ∷ 4 ∷ 102 ∷ 105 ∷ 114 ∷ 101 ∷ 0 ∷ 0 ∷ 0 ∷ 0 ∷ 0 ∷ 0 ∷ 0 ∷ 4 ∷ 0 ∷ 0 ∷ 0 ∷ 4 ∷ 102 ∷ 105 ∷ 114 ∷ 101 ∷ 0 ∷ 0 ∷ 0 ∷ 0 ∷ 0 ∷ 0 ∷ 0 ∷ 1 ∷ 0 ∷ 2 ∷ 120 ∷ 121 ∷ 0 ∷ 3 ∷ 102 ∷ 105 ∷ 114 ∷ 0 ∷ 0 ∷ 0 ∷ 0 ∷ 0 ∷ 0 ∷ 0 ∷ 2 ∷ 0 ∷ 1 ∷ 112 ∷ 0 ∷ 3 ∷ 111 ∷ 97 ∷ 107 ∷ 0 ∷ 0 ∷ 0 ∷ 0 ∷ 0 ∷ 0 ∷ 0 ∷ 4 ∷ 0 ∷ 2 ∷ 120 ∷ 121 ∷ 0 ∷ 3 ∷ 111 ∷ 97 ∷ 107 ∷ 0 ∷ 0 ∷ 0 ∷ 0 ∷ 0 ∷ 0 ∷ 0 ∷ 2 ∷ 0 ∷ 2 ∷ 120 ∷ 121 ∷ 0 ∷ 3 ∷ 111 ∷ 97 ∷ 107 ∷ 0 ∷ 0 ∷ 0 ∷ 0 ∷ 0 ∷ 0 ∷ 0 ∷ 1 ∷ 0 ∷ 0 ∷ 0 ∷ 1 ∷ 97 ∷ 0 ∷ 0 ∷ 0 ∷ 0 ∷ 0 ∷ 0 ∷ 0 ∷ 3 ∷ 0 ∷ 2 ∷ 120 ∷ 121 ∷ 0 ∷ 2 ∷ 97 ∷ 98 ∷ 0 ∷ 0 ∷ 0 ∷ 0 ∷ 0 ∷ 0 ∷ 0 ∷ 1 ∷ 0 ∷ 1 ∷ 113 ∷ 0 ∷ 3 ∷ 102 ∷ 105 ∷ 114 ∷ 0 ∷ 0 ∷ 0 ∷ 0 ∷ 0 ∷ 0 ∷ 0 ∷ 4 ∷ 0 ∷ 1 ∷ 112 ∷ 0 ∷ 4 ∷ 102 ∷ 105 ∷ 114 ∷ 101 ∷ 0 ∷ 0 ∷ 0 ∷ 0 ∷ 0 ∷ 0 ∷ 0 ∷ 4 ∷ 0 ∷ 2 ∷ 120 ∷ 121 ∷ 0 ∷ 2 ∷ 97 ∷ 98 ∷ 0 ∷ 0 ∷ 0 ∷ 0 ∷ 0 ∷ 0 ∷ 0 ∷ 4 ∷ 0 ∷ 1 ∷ 112 ∷ 0 ∷ 1 ∷ 98 ∷ 0 ∷ 0 ∷ 0 ∷ 0 ∷ 0 ∷ 0 ∷ 0 ∷ 4 ∷ 0 ∷ 1 ∷ 113 ∷ 0 ∷ 1 ∷ 98 ∷ 0 ∷ 0 ∷ 0 ∷ 0 ∷ 0 ∷ 0 ∷ 0 ∷ 1 ∷ 0 ∷ 0 ∷ 0 ∷ 3 ∷ 102 ∷ 105 ∷ 114 ∷ 0 ∷ 0 ∷ 0 ∷ 0 ∷ 0 ∷ 0 ∷ 0 ∷ 4 ∷ 0 ∷ 1 ∷ 113 ∷ 0 ∷ 1 ∷ 98 ∷ 0 ∷ 0 ∷ 0 ∷ 0 ∷ 0 ∷ 0 ∷ 0 ∷ 1 ∷ 0 ∷ 1 ∷ 113 ∷ 0 ∷ 4 ∷ 102 ∷ 105 ∷ 114 ∷ 101 ∷ 0 ∷ 0 ∷ 0 ∷ 0 ∷ 0 ∷ 0 ∷ 0 ∷ 4 ∷ 0 ∷ 1 ∷ 112 ∷ 0 ∷ 4 ∷ 102 ∷ 105 ∷ 114 ∷ 101 ∷ 0 ∷ 0 ∷ 0 ∷ 0 ∷ 0 ∷ 0 ∷ 0 ∷ 2 ∷ 0 ∷ 1 ∷ 113 ∷ 0 ∷ 4 ∷ 102 ∷ 105 ∷ 114 ∷ 101 ∷ 0 ∷ 0 ∷ 0 ∷ 0 ∷ 0 ∷ 0 ∷ 0 ∷ 1 ∷ 0 ∷ 1 ∷ 112 ∷ 0 ∷ 1 ∷ 97 ∷ 0 ∷ 2 ∷ 120 ∷ 121 ∷ 0 ∷ 1 ∷ 98 ∷ 0 ∷ 0 ∷ 0 ∷ 3 ∷ 111 ∷ 97 ∷ 107 ∷ 0 ∷ 2 ∷ 120 ∷ 121 ∷ []

-- five runs, own writes, a read number
abbrev pub view_of : Cursor → Cursor → Cursor → Cursor → Cursor → ℕ → ℕ → ℕ → View
view_of a b c d e own stop read =
    record {
      cursors = a ∷ b ∷ c ∷ d ∷ e ∷ nowhere ∷ nowhere ∷ nowhere ∷ nowhere ∷ nowhere ∷ nowhere ∷ nowhere ∷ nowhere ∷ nowhere ∷ nowhere ∷ nowhere ∷ nowhere ∷ [];
      runs = 5;
      own = own;
      stop = stop;
      read = read;
    }

abbrev pub plain_view : ℕ → View
plain_view read = view_of (record { at = 0; end = 63; run = 0 }) (record { at = 63; end = 128; run = 1 }) (record { at = 128; end = 192; run = 2 }) (record { at = 192; end = 250; run = 3 }) (record { at = 250; end = 315; run = 4 }) 315 315 read

abbrev pub topped_view : ℕ → View
topped_view read = view_of (record { at = 0; end = 63; run = 0 }) (record { at = 63; end = 128; run = 1 }) (record { at = 128; end = 192; run = 2 }) (record { at = 192; end = 250; run = 3 }) (record { at = 250; end = 315; run = 4 }) 315 336 read

abbrev pub turned_view : ℕ → View
turned_view read = view_of (record { at = 250; end = 315; run = 0 }) (record { at = 192; end = 250; run = 1 }) (record { at = 128; end = 192; run = 2 }) (record { at = 63; end = 128; run = 3 }) (record { at = 0; end = 63; run = 4 }) 315 336 read
