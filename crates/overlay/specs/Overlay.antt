-- The overlay of a transaction as packed bytes: the entries that they hold, and where the own write of a key stands or would stand.
-- Assumes nothing.
use Prim.Native.Nat.{ℕ, ◌+◌, ◌-◌, ◌≤◌, Ordering}
use Rattle.std.specs.Prelude as std
use Rattle.std.specs.Prelude.{◌≡◌, Bool, false, ◌&&◌, List, [], ◌∷◌, length, Some, None, Result, Ok, Err}
use Rattle.std.specs.Borrow.{Bor}
use Rattle.std.proofs.Math.Option.{Option, none, some}
use Rattle.paper.specs.Lists.{all, rises}
use Rattle.paper.specs.Keys.{Bytes, Pair, cmp_key, cmp_pair}
use Rattle.paper.specs.Store.{pair_size}
use Rattle.paper.specs.Seen.{own_write}
use Rattle.paper.specs.Sound.{sound_pair}
use Rattle.raw.specs.Bytes.{part}
use Rattle.layout.specs.Codec.{many}
use Rattle.layout.specs.Layout.{pair_stream}
use Rattle.overlay.specs.declared.Found.{Found}

abbrev pub pair : Bytes → Bytes → Pair
pair k v = record { key = k; value = v }

abbrev pub or_empty : Option (List Pair) → List Pair
or_empty none = []
or_empty (some own) = own

-- the entries that bytes are, one after the other; none where the bytes are something else
unfoldable pub pairs_in : Bytes → List Pair
pairs_in s = or_empty ((many pair_stream).parse s)

-- the entries from one index to another
abbrev pub own_in : Bytes → ℕ → ℕ → List Pair
own_in s at end = pairs_in (part s at (end - at))

abbrev pub orderly : Option (List Pair) → Bool
orderly none = false
orderly (some own) = rises cmp_pair own && all sound_pair own

-- 'overlays strictly rising': the bytes are entries and nothing else, their keys rise, and each has a key and a value within their lengths
unfoldable pub is_overlay : Bytes → Bool
is_overlay s = orderly ((many pair_stream).parse s)

abbrev pub overlay_in : Bytes → ℕ → ℕ → Bool
overlay_in s at end = is_overlay (part s at (end - at))

-- where a key stands beside an entry p that starts at an index: in front of it, in it, or further on
abbrev pub spot : Ordering → ℕ → Pair → Result Found ℕ → Result Found ℕ
spot Ordering.lt at p further = Err at
spot Ordering.eq at p further = Ok (record { start = at; value = at + 4 + length p.key; end = at + pair_size p })
spot Ordering.gt at p further = further

-- where the own write of a key stands among packed entries that start at an index, or the index at which it would stand
unfoldable pub found_at : ℕ → Bytes → List Pair → Result Found ℕ
found_at at k [] = Err at
found_at at k (p ∷ ps) = spot (cmp_key k p.key) at p (found_at (at + pair_size p) k ps)

-- the value that was found: the bytes from where it starts to where it ends
abbrev pub value_at : Bytes → Result Found ℕ → Option Bytes
value_at s (Ok f) = some (part s f.value (f.end - f.value))
value_at s (Err gap) = none

-- it lies between two indices
abbrev pub Between : ℕ → ℕ → Result Found ℕ → Type 0
Between at end (Ok f) = (at ≤ f.value) × (f.value ≤ f.end) × (f.end ≤ end)
Between at end (Err gap) = Unit {0}

-- the bytes of an answer
abbrev pub answered : std.Option (Bor Bytes) → Option Bytes
answered (Some v) = some v.now
answered None = none

-- The answer to what a transaction has written at a key: 'the transaction's own last write of a key'. Its own writes stand in s from one index to another, and the
-- answer is the bytes of s where the search for the key finds the value.
pub record Answered (s : Bytes) (at end : ℕ) (own : List Pair) (k : Bytes) (r : std.Option (Bor Bytes)) : Type 0 where
  pub place : answered r ≡ value_at s (found_at at k own)
  pub value : answered r ≡ own_write k own
  pub inside : Between at end (found_at at k own)
