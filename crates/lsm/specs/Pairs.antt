-- Own writes as bytes: pairs packed one after the other, in key order.
-- Assumes nothing.
use Rattle.std.specs.Prelude.{ℕ, ◌+◌, ◌-◌, ◌≤◌, ◌≡◌, Bool, false, not, ◌&&◌, List, [], ◌∷◌, ◌++◌, leb, length}
use Rattle.paper.specs.Keys.{Bytes, Pair, cmp_pair}
use Rattle.paper.specs.Bounds.{Bound}
use Rattle.paper.specs.Settings.{longest}
use Rattle.paper.specs.Image.{big_endian, Reading, ◌>>=◌, give, bytes, number}
use Rattle.raw.specs.Bytes.{part}
use Rattle.key.specs.Packing.{read_all, pack_all, packed_by}
use Rattle.lsm.specs.Lying.{LiesIn, FromOn}
use Rattle.lsm.specs.Edges.{pair_from}
use Rattle.lsm.specs.declared.answer.Span.{Span}

-- '4 bytes plus key and value for each entry': key length 16 bits, key, value length 16 bits, value
unfoldable pub pair_bytes : Pair → Bytes
pair_bytes p = big_endian 2 (length p.key) ++ (p.key ++ (big_endian 2 (length p.value) ++ p.value))

abbrev pub pairs_bytes : List Pair → Bytes
pairs_bytes ps = pack_all pair_bytes ps

unfoldable pub one_pair : Reading Pair
one_pair = do
  n ← number 2
  k ← bytes n
  m ← number 2
  v ← bytes m
  give (record { key = k; value = v })

-- the pairs of packed bytes
abbrev pub pairs : Bytes → List Pair
pairs s = read_all one_pair s

-- a pair whose parts fit their fields
unfoldable pub fitting : Pair → Bool
fitting p = leb (length p.key) longest && leb (length p.value) longest

-- the bytes are pairs in key order, and nothing else
abbrev pub packed_pairs : Bytes → Bool
packed_pairs s = packed_by pair_bytes one_pair cmp_pair fitting s

-- the pairs that lie from one offset to another
abbrev pub own_in : Bytes → ℕ → ℕ → List Pair
own_in s at end = pairs (part s at (end - at))

abbrev pub OwnAt : Bytes → ℕ → ℕ → Type 0
OwnAt s at end = LiesIn packed_pairs s at end

-- ---- a pair at its place
abbrev pub pair_at : Bytes → Span → Pair
pair_at s p = record { key = part s p.ks (p.ke - p.ks); value = part s p.vs (p.ve - p.vs) }

-- a place in s
pub record InBytes (s : Bytes) (p : Span) : Type 0 where
  pub key : p.ks ≤ p.ke
  pub key_in : p.ke ≤ length s
  pub value : p.vs ≤ p.ve
  pub value_in : p.ve ≤ length s

-- the first pair from an offset has its parts there, one after the other, and the others follow
pub record PairAt (s : Bytes) (at end : ℕ) (p : Span) : Type 0 where
  pub start : p.ks ≡ at + 2
  pub mid : p.vs ≡ p.ke + 2
  pub inside : InBytes s p
  pub first : own_in s at end ≡ pair_at s p ∷ own_in s p.ve end
  pub rest : OwnAt s p.ve end

-- ---- the lower bound
-- the first pair is one that it does not let through
abbrev pub own_low : Bound → List Pair → Bool
own_low lo [] = false
own_low lo (p ∷ ps) = not (pair_from lo p)

-- where those start that it lets through
abbrev pub OwnFrom : Bytes → Bound → ℕ → ℕ → ℕ → Type 0
OwnFrom s lo at end r = FromOn packed_pairs pairs (pair_from lo) s at end r
