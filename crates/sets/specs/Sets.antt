-- Sets of hashes in lent bytes: 4 bytes a hash, big-endian, strictly rising; what a search in one finds, and what two of them share.
-- Assumes nothing.
use Rattle.std.specs.Prelude.{ℕ, zero, suc, ◌/◌, Bool, true, false, List, [], ◌∷◌, length, take, drop, ltb, Result, Ok, Err}
use Rattle.paper.specs.Lists.{keep, among}
use Rattle.paper.specs.Keys.{Bytes}
use Rattle.paper.specs.Image.{number_from}

-- the n hashes in front of some bytes
unfoldable pub hashes_of : ℕ → Bytes → List ℕ
hashes_of zero b = []
hashes_of (suc n) b = number_from 0 (take 4 b) ∷ hashes_of n (drop 4 b)

-- the hashes that some bytes are, as a set
abbrev pub set_hashes : Bytes → List ℕ
set_hashes b = hashes_of (length b / 4) b

-- the n hashes from index at
abbrev pub hashes_in : Bytes → ℕ → ℕ → List ℕ
hashes_in s at n = hashes_of n (drop at s)

-- how many hashes are below h: in a rising set the place at which h stands, or would stand
unfoldable pub rank : ℕ → List ℕ → ℕ
rank h hs = length (keep (λ x. ltb x h) hs)

abbrev pub found : Bool → ℕ → Result ℕ ℕ
found true i = Ok i
found false i = Err i

-- what a search for h finds: its place, or the place before which it would stand
unfoldable pub found_in : ℕ → List ℕ → Result ℕ ℕ
found_in h hs = found (among h hs) (rank h hs)
