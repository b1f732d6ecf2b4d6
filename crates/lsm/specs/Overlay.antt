-- Own writes on top of what a snapshot shows: 'the transaction's own last write of a key hides the snapshot'.
-- Assumes nothing.
use Prim.Native.Nat.{ℕ, Ordering}
use Rattle.std.specs.Prelude.{◌≡◌, Bool, true, cond, not, List, [], ◌∷◌, Option, None, Some}
use Rattle.paper.specs.Lists.{is_lt, rises}
use Rattle.paper.specs.Keys.{Bytes, Pair, cmp_key, same_key, cmp_pair}
use Rattle.paper.specs.Bounds.{Bound}
use Rattle.paper.specs.Seen.{unless_empty, with_value}
use Rattle.lsm.specs.Pairs.{pair_at}
use Rattle.lsm.specs.Answers.{InAnswer}
use Rattle.lsm.specs.Shown.{coming_from}
use Rattle.lsm.specs.declared.answer.Span.{Span}
use Rattle.merge.specs.Unread.{Sound}
use Rattle.merge.specs.declared.heap.Heap.{Heap}

-- an own write in front of pairs, unless it is a deletion
abbrev pub show : Pair → List Pair → List Pair
show o ps = with_value o.key (unless_empty o.value) ps

abbrev pub put_at : Ordering → Pair → Pair → List Pair → List Pair → List Pair
put_at Ordering.lt o p ps further = show o (p ∷ ps)
put_at Ordering.eq o p ps further = show o ps
put_at Ordering.gt o p ps further = p ∷ further

-- an own write put into pairs in key order: it hides the pair of its key
unfoldable pub put : Pair → List Pair → List Pair
put o [] = show o []
put o (p ∷ ps) = put_at (cmp_key o.key p.key) o p ps (put o ps)

unfoldable pub put_all : List Pair → List Pair → List Pair
put_all [] ps = ps
put_all (o ∷ os) ps = put o (put_all os ps)

-- the key is not after the first pair
abbrev pub own_first : Bytes → List Pair → Bool
own_first k [] = true
own_first k (p ∷ ps) = not (is_lt (cmp_key p.key k))

-- the pairs without that of the key, if it is the first
abbrev pub past_key : Bytes → List Pair → List Pair
past_key k [] = []
past_key k (p ∷ ps) = cond (same_key k p.key) ps (p ∷ ps)

-- ---- by the pair that a walk found
-- the key is not after it
abbrev pub own_first_at : Bytes → Option Span → Bytes → Bool
own_first_at s None k = true
own_first_at s (Some p) k = not (is_lt (cmp_key (pair_at s p).key k))

-- a walk stands at the first of the pairs that are still to come
pub record Standing (s : Bytes) (r : ℕ) (hi : Bound) (h : Heap) (found : Option Span) : Type 0 where
  pub sound : Sound s h
  pub inside : InAnswer s found
  pub rising : rises cmp_pair (coming_from s r hi found h) ≡ true
