-- The key's hash is a fold of its bytes.
-- Assumes nothing.
use Prim.Native.Nat.{ℕ}
use mathlib.Core.Path.{◌≡◌, refl}
use mathlib.Core.List.{[], ◌∷◌}
use Rattle.std.specs.List.{fold}
use Rattle.paper.specs.Keys.{Bytes}
use Rattle.paper.specs.Hash.{fnv_step, fnv_from, hash_of}

hashing : (h : ℕ) (key : Bytes) → fold fnv_step h key ≡ fnv_from h key
unfolding fnv_from
hashing h [] = refl
hashing h (b ∷ bs) = hashing (fnv_step h b) bs

pub hash-is-fold : (key : Bytes) → fold fnv_step 2166136261 key ≡ hash_of key
unfolding hash_of
hash-is-fold key = hashing 2166136261 key
