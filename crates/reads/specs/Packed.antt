-- The sheet's runs and own writes as packed bytes, and a view of two runs.
-- Assumes nothing.
use Rattle.std.specs.Prelude.{ℕ, List, [], ◌∷◌, ◌++◌, map}
use Rattle.paper.specs.Lists.{join}
use Rattle.paper.specs.Keys.{Bytes, Pair}
use Rattle.paper.specs.Image.{records_bytes}
use Rattle.paper.specs.Sheet.{sheet_runs, other_runs}
use Rattle.merge.specs.Cursors.{nowhere}
use Rattle.lsm.specs.Pairs.{pairs_bytes}
use Rattle.lsm.specs.declared.view.View.{View}

-- 'own put fir q, own delete oak'
abbrev pub own_writes : List Pair
own_writes = record { key = 102 ∷ 105 ∷ 114 ∷ []; value = 113 ∷ [] } ∷ record { key = 111 ∷ 97 ∷ 107 ∷ []; value = [] } ∷ []

-- the two runs, the own writes, and the two other runs, one after the other
unfoldable pub sheet_bytes : Bytes
sheet_bytes = join (map records_bytes sheet_runs) ++ (pairs_bytes own_writes ++ join (map records_bytes other_runs))

-- two runs, own writes, a read number
abbrev pub view_of : ℕ → ℕ → ℕ → ℕ → ℕ → ℕ → View
view_of at mid end own stop read =
    record {
      cursors =
          record { at = at; end = mid; run = 0 } ∷ record { at = mid; end = end; run = 1 } ∷ nowhere ∷ nowhere ∷ nowhere ∷ nowhere ∷ nowhere ∷ nowhere ∷ nowhere ∷ nowhere
          ∷ nowhere ∷ nowhere ∷ nowhere ∷ nowhere ∷ nowhere ∷ nowhere ∷ nowhere ∷ [];
      runs = 2;
      own = own;
      stop = stop;
      read = read;
    }
