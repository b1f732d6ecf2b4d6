-- What a caller asks by numbers.
-- Assumes nothing.
use Rattle.std.specs.Prelude.{ℕ, zero, suc, ◌+◌, List, [], ◌∷◌, ◌++◌, get_or}
use Rattle.merge.specs.declared.heap.Cursor.{Cursor}
use Rattle.lsm.specs.declared.view.View.{View}

-- the cursor of run i
abbrev pub cursor_at : List ℕ → ℕ → Cursor
cursor_at ps i = record { at = get_or ps (i + i) 0; end = get_or ps (i + i + 1) 0; run = i }

-- the cursors of the first n runs, in run order
unfoldable pub placed : List ℕ → ℕ → List Cursor
placed ps zero = []
placed ps (suc n) = placed ps n ++ (cursor_at ps n ∷ [])

-- what is read
abbrev pub view_of : List ℕ → ℕ → ℕ → ℕ → ℕ → View
view_of ps runs own stop read = record { cursors = placed ps 17; runs = runs; own = own; stop = stop; read = read }
