-- The search for a key among packed entries.
-- Assumes nothing.
use native.Mathlib.Omega.{arith}
use mathlib.Core.Path.{◌≡◌, refl, sym, ap, ◌∙◌}
use mathlib.Core.List.{List, [], ◌∷◌}
use Prim.Native.Nat.{ℕ, ◌+◌, Ordering}
use lib.ListN.{length}
use Rattle.std.specs.Prelude.{Result, Ok, Err}
use Rattle.paper.specs.Keys.{Bytes, Pair, cmp_key}
use Rattle.paper.specs.Store.{pair_size, own_size}
use Rattle.overlay.specs.declared.Found.{Found}
use Rattle.overlay.specs.Overlay.{spot, found_at}
use Rattle.overlay.proofs.Splitting.{own-size-cons}

-- among entries of which the first begins at an index of `size` bytes and the last ends with them, what a search there on finds is the answer
pub record Search (k : Bytes) (r : Result Found ℕ) (at size : ℕ) (ps : List Pair) : Type 0 where
  pub inside : at + own_size ps ≡ size
  pub same : found_at at k ps ≡ r

-- from the first entry on
pub search-start : (k : Bytes) (size : ℕ) (ps : List Pair) → own_size ps ≡ size → Search k (found_at 0 k ps) 0 size ps
search-start k size ps e = record { inside = omega arith; same = refl }

module _ (k : Bytes) (r : Result Found ℕ) (at size : ℕ) (ps : List Pair) (S : Search k r at size ps) where
  pub search-end : ps ≡ [] → Err at ≡ r
  unfolding found_at
  search-end e = sym (ap (found_at at k) e) ∙ S.same

  module _ (p : Pair) (qs : List Pair) (e : ps ≡ p ∷ qs) where
    -- the first entry lies within the bytes
    pub search-inside : at + 4 + length p.key + length p.value + own_size qs ≡ size
    unfolding pair_size
    search-inside = omega (arith, S.inside, ap own_size e, own-size-cons p qs)

    answer : (q : Ordering) → q ≡ cmp_key k p.key → r ≡ spot q at p (found_at (at + pair_size p) k qs)
    unfolding found_at
    answer q f = sym S.same ∙ ap (found_at at k) e ∙ ap (λ (c : Ordering). spot c at p (found_at (at + pair_size p) k qs)) (sym f)

    pub search-gap : Ordering.lt ≡ cmp_key k p.key → Err at ≡ r
    search-gap f = sym (answer Ordering.lt f)

    pub search-hit : Ordering.eq ≡ cmp_key k p.key → ◌≡◌ {A = Result Found ℕ} (Ok (record { start = at; value = at + 4 + length p.key; end = at + 4 + length p.key + length p.value })) r
    unfolding pair_size
    search-hit f =
        let n : at + 4 + length p.key + length p.value ≡ at + (4 + length p.key + length p.value) = omega arith in
        ap (λ (m : ℕ). Ok (record { start = at; value = at + 4 + length p.key; end = m })) n ∙ sym (answer Ordering.eq f)

    pub search-next : Ordering.gt ≡ cmp_key k p.key → Search k r (at + 4 + length p.key + length p.value) size qs
    unfolding pair_size
    search-next f =
        let n : at + 4 + length p.key + length p.value ≡ at + (4 + length p.key + length p.value) = omega arith in
        record { inside = search-inside; same = ap (λ (m : ℕ). found_at m k qs) n ∙ sym (answer Ordering.gt f) }
