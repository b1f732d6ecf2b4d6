-- Every hash has 32 bits.
-- Assumes nothing.
use Prim.Native.Nat.{ℕ, ◌<◌, ◌*◌}
use native.Mathlib.Nat.{mod-lt}
use mathlib.Core.Path.{◌≡◌}
use mathlib.Core.Bool.{true}
use mathlib.Core.List.{[], ◌∷◌}
use lib.Bits.{bit_xor}
use lib.Dec.{lit<}
use borrow.Author.Tests.{lt-ltb}
use Rattle.paper.specs.Keys.{Bytes}
use Rattle.paper.specs.Hash.{fnv_step, fnv_from, hash_of}
use Rattle.paper.specs.Sound.{is_hash}

pub step_fits : (h b : ℕ) → fnv_step h b < 4294967296
unfolding fnv_step
step_fits h b = mod-lt (bit_xor h b * 16777619) (lit< tt)

pub from-fits : (h : ℕ) (k : Bytes) → h < 4294967296 → fnv_from h k < 4294967296
unfolding fnv_from
from-fits h [] l = l
from-fits h (b ∷ bs) l = from-fits (fnv_step h b) bs (step_fits h b)

pub hash-below : (k : Bytes) → hash_of k < 4294967296
unfolding hash_of
hash-below k = from-fits 2166136261 k (lit< tt)

pub hash-fits : (k : Bytes) → is_hash (hash_of k) ≡ true
hash-fits k = lt-ltb (hash_of k) 4294967296 (hash-below k)
