-- What is left of each run under a heap of cursors.
-- Assumes nothing.
use native.Mathlib.Omega.{arith}
use mathlib.Core.Path.{◌≡◌, refl, sym, ap, ap₂, ◌∙◌}
use mathlib.Core.Logic.{◌⊎◌, inl, inr}
use mathlib.Core.List.{List, [], ◌∷◌}
use Prim.Native.Nat.{ℕ, zero, suc, ◌+◌, ◌-◌, ◌≤◌, ◌<◌}
use native.Mathlib.Nat.{not-suc-le-zero}
use native.Mathlib.Decide.{ℕ_discrete}
use borrow.Author.Tests.{eq-eqb, ne_eqb}
use lib.ListN.{length, take, get_or}
use lib.Seq.{get_or-take, length-take-le}
use Rattle.paper.specs.Keys.{Bytes}
use Rattle.raw.specs.Bytes.{part}
use Rattle.key.specs.Versions.{versions}
use Rattle.merge.specs.Bag.{weight}
use Rattle.merge.specs.Cursors.{nowhere, left}
use Rattle.merge.specs.Unread.{of_run, rest}
use Rattle.merge.specs.declared.heap.Cursor.{Cursor}
use Rattle.key.proofs.Packed.{versions-nil}

abbrev pub count : ℕ → List Cursor → ℕ
count i cs = weight (of_run i (λ c. 1)) cs

module _ (i : ℕ) (f : Cursor → ℕ) where
  pub of-run : (c : Cursor) → c.run ≡ i → of_run i f c ≡ f c
  of-run c e = simp (eq-eqb c.run i e)

  pub not-of-run : (c : Cursor) → (c.run ≡ i → ⊥) → of_run i f c ≡ 0
  not-of-run c e = simp (ne_eqb c.run i e)

-- with no cursor of run i, its weights are 0
absent : (i : ℕ) (f : Cursor → ℕ) (cs : List Cursor) → count i cs ≡ 0 → weight (of_run i f) cs ≡ 0
unfolding weight
absent i f [] h = refl
absent i f (c ∷ cs) h = go (λ e. absent i f cs e) (ℕ_discrete c.run i)
  where
    go : (count i cs ≡ 0 → weight (of_run i f) cs ≡ 0) → Dec (c.run ≡ i) → of_run i f c + weight (of_run i f) cs ≡ 0
    go ih (yes e) = absurd (omega (arith, of-run i (λ c. 1) c e))
    go ih (no e) = omega (arith, not-of-run i f c e, ih (omega (arith, not-of-run i (λ c. 1) c e)))

-- with at most one, they are those of the one there is
only : (i : ℕ) (f : Cursor → ℕ) (cs : List Cursor) (j : ℕ) → j < length cs → count i cs ≤ 1 → (get_or cs j nowhere).run ≡ i → weight (of_run i f) cs ≡ f (get_or cs j nowhere)
unfolding weight
only i f [] j h a e = absurd (not-suc-le-zero h)
only i f (c ∷ cs) zero h a e = omega (arith, of-run i f c e, of-run i (λ c. 1) c e, absent i f cs (omega (arith, of-run i (λ c. 1) c e)))
only i f (c ∷ cs) (suc j) h a e = go (λ g q. only i g cs j (omega arith) q e) (ℕ_discrete c.run i)
  where
    go : ((g : Cursor → ℕ) → count i cs ≤ 1 → weight (of_run i g) cs ≡ g (get_or cs j nowhere)) → Dec (c.run ≡ i) → of_run i f c + weight (of_run i f) cs ≡ f (get_or cs j nowhere)
    go ih (yes q) = absurd (omega (arith, of-run i (λ c. 1) c q, ih (λ c. 1) (omega arith)))
    go ih (no q) = omega (arith, not-of-run i f c q, ih f (omega arith))

-- a run has no cursor, or one
search-run : (i : ℕ) (cs : List Cursor) → (count i cs ≡ 0) ⊎ ((j : ℕ) × (j < length cs) × ((get_or cs j nowhere).run ≡ i))
unfolding weight
search-run i [] = inl refl
search-run i (c ∷ cs) = go (search-run i cs) (ℕ_discrete c.run i)
  where
    go : (count i cs ≡ 0) ⊎ ((j : ℕ) × (j < length cs) × ((get_or cs j nowhere).run ≡ i)) → Dec (c.run ≡ i)
        → (of_run i (λ c. 1) c + count i cs ≡ 0) ⊎ ((j : ℕ) × (j < suc (length cs)) × ((get_or (c ∷ cs) j nowhere).run ≡ i))
    go ih (yes e) = inr (zero, omega arith, e)
    go (inl h) (no e) = inl (omega (arith, not-of-run i (λ c. 1) c e))
    go (inr (j, l, q)) (no e) = inr (suc j, omega arith, q)

module _ (s : Bytes) where
  -- what is left goes by the weights
  pub rest-same : (cs ds : List Cursor) (i : ℕ) → ((f : Cursor → ℕ) → weight (of_run i f) cs ≡ weight (of_run i f) ds) → rest s cs i ≡ rest s ds i
  unfolding rest
  rest-same cs ds i w = ap₂ (λ (a e : ℕ). versions (part s a (e - a))) (w (λ c. c.at)) (w (λ c. c.end))

  pub rest-is : (cs : List Cursor) (i : ℕ) (c : Cursor) → ((f : Cursor → ℕ) → weight (of_run i f) cs ≡ f c) → rest s cs i ≡ left s c
  unfolding rest
  rest-is cs i c w = ap₂ (λ (a e : ℕ). versions (part s a (e - a))) (w (λ c. c.at)) (w (λ c. c.end))

  pub rest-none : (cs : List Cursor) (i : ℕ) → ((f : Cursor → ℕ) → weight (of_run i f) cs ≡ 0) → rest s cs i ≡ []
  unfolding rest
  rest-none cs i w = ap₂ (λ (a e : ℕ). versions (part s a (e - a))) (w (λ c. c.at)) (w (λ c. c.end)) ∙ versions-nil

  -- of the first n of a list of cursors
  module _ (l : List Cursor) (n : ℕ) (long : n ≤ length l) (apart : (i : ℕ) → count i (take n l) ≤ 1) where
    pub only_at : (j : ℕ) → j < n → (f : Cursor → ℕ) → weight (of_run (get_or l j nowhere).run f) (take n l) ≡ f (get_or l j nowhere)
    only_at j h f =
        only (get_or l j nowhere).run f (take n l) j (rw (length-take-le n l long) h) (apart (get_or l j nowhere).run) (ap (λ (c : Cursor). c.run) (get_or-take n l j nowhere h))
        ∙ ap f (get_or-take n l j nowhere h)

    pub rest_at : (j : ℕ) → j < n → rest s (take n l) (get_or l j nowhere).run ≡ left s (get_or l j nowhere)
    rest_at j h = rest-is (take n l) (get_or l j nowhere).run (get_or l j nowhere) (only_at j h)

    pub rest-where : (i : ℕ) → (rest s (take n l) i ≡ []) ⊎ ((j : ℕ) × (j < n) × ((get_or l j nowhere).run ≡ i))
    rest-where i = go (search-run i (take n l))
      where
        go : (count i (take n l) ≡ 0) ⊎ ((j : ℕ) × (j < length (take n l)) × ((get_or (take n l) j nowhere).run ≡ i)) → (rest s (take n l) i ≡ []) ⊎ ((j : ℕ) × (j < n) × ((get_or l j nowhere).run ≡ i))
        go (inl h) = inl (rest-none (take n l) i (λ f. absent i f (take n l) h))
        go (inr (j, b, q)) =
            let k : j < n = rw (length-take-le n l long) at b in
            inr (j, k, ap (λ (c : Cursor). c.run) (sym (get_or-take n l j nowhere k)) ∙ q)
