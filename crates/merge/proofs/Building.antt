-- A heap built of cursors in run order: what it hands out is the merge of what they have.
-- Assumes nothing.
use native.Mathlib.Omega.{arith}
use native.Mathlib.Decide.{ℕ_discrete}
use mathlib.Core.Path.{◌≡◌, refl, sym, ap, ap₂, ◌∙◌}
use mathlib.Core.Bool.{Bool, true, false, cond}
use mathlib.Core.List.{List, [], ◌∷◌, ◌++◌, map}
use Prim.Native.Nat.{ℕ, zero, suc, ◌+◌, ◌-◌, ◌≤◌, ◌<◌}
use native.Mathlib.Nat.{not-suc-le-zero}
use borrow.Author.Tests.{eqb-true, ltb-true, ltb-false}
use lib.Dec.{eqb}
use lib.ListN.{length, take, get_or, length-take}
use lib.Seq.{length-take-le, take-suc}
use native.Mathlib.Numerals.{add-one}
use Rattle.paper.specs.Lists.{all, keep, insert_all}
use Rattle.paper.specs.Keys.{Bytes, cmp_version}
use Rattle.paper.specs.Runs.{Run, merge}
use Rattle.paper.proofs.Bools.{and_left, and_right, and_intro}
use Rattle.raw.specs.Bytes.{part}
use Rattle.key.specs.Versions.{versions}
use Rattle.merge.specs.Bag.{weight}
use Rattle.merge.specs.Cursors.{nowhere, lawful, live, left, in_order, unfinished}
use Rattle.merge.specs.Unread.{cursors_of, of_run, rest, tab, unread}
use Rattle.merge.specs.Building.{Pushed, Gathered, Ordered, Built}
use Rattle.merge.specs.declared.heap.Cursor.{Cursor}
use Rattle.merge.specs.declared.heap.Heap.{Heap}
use Rattle.key.proofs.Packed.{versions-nil}
use Rattle.merge.proofs.CursorLaws.{is_live, lawful-is}
use Rattle.merge.proofs.KeepLaws.{keep-yes, keep-no, keep_snoc}
use Rattle.merge.proofs.MergeLaws.{tab-same}
use Rattle.merge.proofs.Weights.{all-bag}
use Rattle.merge.proofs.HeapSteps.{length-weight}
use Rattle.merge.proofs.Rests.{count, of-run, not-of-run, rest-same, rest-is, rest-none}

-- ---- keeping the cursors that have versions left
pub all_live : (s : Bytes) (cs : List Cursor) → all (lawful s) cs ≡ true → all (live s) (keep unfinished cs) ≡ true
unfolding all keep
all_live s [] a = refl
all_live s (c ∷ cs) a = go (all_live s cs (and_right (lawful s c) (all (lawful s) cs) a)) (unfinished c) refl
  where
    go : all (live s) (keep unfinished cs) ≡ true → (b : Bool) → unfinished c ≡ b → all (live s) (cond b (c ∷ keep unfinished cs) (keep unfinished cs)) ≡ true
    go ih true e = and_intro (is_live s c (ltb-true c.at c.end e) (lawful-is s c (and_left (lawful s c) (all (lawful s) cs) a))) ih
    go ih false e = ih

module _ (i : ℕ) (f : Cursor → ℕ) where
  kept-other : (c : Cursor) (cs : List Cursor) → (c.run ≡ i → ⊥) → weight (of_run i f) (keep unfinished (c ∷ cs)) ≡ weight (of_run i f) (keep unfinished cs)
  unfolding weight
  kept-other c cs ne = go (unfinished c) refl
    where
      go : (b : Bool) → unfinished c ≡ b → weight (of_run i f) (keep unfinished (c ∷ cs)) ≡ weight (of_run i f) (keep unfinished cs)
      go true e = ap (weight (of_run i f)) (keep-yes unfinished c cs e) ∙ omega (arith, not-of-run i f c ne)
      go false e = ap (weight (of_run i f)) (keep-no unfinished c cs e)

  -- the runs before the first have no cursor
  kept-before : (b : ℕ) (cs : List Cursor) → in_order b cs ≡ true → i < b → weight (of_run i f) (keep unfinished cs) ≡ 0
  unfolding weight keep in_order
  kept-before b [] o l = refl
  kept-before b (c ∷ cs) o l =
      let e : c.run ≡ b = eqb-true c.run b (and_left (eqb c.run b) (in_order (suc b) cs) o) in
      kept-other c cs (λ q. omega arith) ∙ kept-before (suc b) cs (and_right (eqb c.run b) (in_order (suc b) cs) o) (omega arith)

order-head : (b : ℕ) (c : Cursor) (cs : List Cursor) → in_order b (c ∷ cs) ≡ true → c.run ≡ b
unfolding in_order
order-head b c cs o = eqb-true c.run b (and_left (eqb c.run b) (in_order (suc b) cs) o)

order-tail : (b : ℕ) (c : Cursor) (cs : List Cursor) → in_order b (c ∷ cs) ≡ true → in_order (suc b) cs ≡ true
unfolding in_order
order-tail b c cs o = and_right (eqb c.run b) (in_order (suc b) cs) o

pub apart-kept : (i b : ℕ) (cs : List Cursor) → in_order b cs ≡ true → count i (keep unfinished cs) ≤ 1
unfolding weight keep
apart-kept i b [] o = omega arith
apart-kept i b (c ∷ cs) o = go (apart-kept i (suc b) cs (order-tail b c cs o)) (ℕ_discrete c.run i) (unfinished c) refl
  where
    go : count i (keep unfinished cs) ≤ 1 → Dec (c.run ≡ i) → (t : Bool) → unfinished c ≡ t → count i (cond t (c ∷ keep unfinished cs) (keep unfinished cs)) ≤ 1
    go ih (yes e) true u =
        omega (arith, of-run i (λ c. 1) c e, kept-before i (λ c. 1) (suc b) cs (order-tail b c cs o) (omega (arith, order-head b c cs o)))
    go ih (no e) true u = omega (arith, not-of-run i (λ c. 1) c e)
    go ih d false u = ih

module _ (s : Bytes) where
  rest-first : (b : ℕ) (c : Cursor) (cs : List Cursor) → in_order b (c ∷ cs) ≡ true → rest s (keep unfinished (c ∷ cs)) b ≡ left s c
  unfolding weight
  rest-first b c cs o = go (unfinished c) refl
    where
      none : (f : Cursor → ℕ) → weight (of_run b f) (keep unfinished cs) ≡ 0
      none f = kept-before b f (suc b) cs (order-tail b c cs o) (omega arith)

      go : (t : Bool) → unfinished c ≡ t → rest s (keep unfinished (c ∷ cs)) b ≡ left s c
      go true e =
          rest-is s (keep unfinished (c ∷ cs)) b c
          (λ f. ap (weight (of_run b f)) (keep-yes unfinished c cs e) ∙ omega (arith, of-run b f c (order-head b c cs o), none f))
      go false e =
          let z : c.end - c.at ≡ 0 = omega (arith, ltb-false c.at c.end e) in
          ap (λ (l : List Cursor). rest s l b) (keep-no unfinished c cs e) ∙ rest-none s (keep unfinished cs) b none
          ∙ sym (ap (λ (n : ℕ). versions (part s c.at n)) z ∙ versions-nil)

  rest-later : (b i : ℕ) (c : Cursor) (cs : List Cursor) → in_order b (c ∷ cs) ≡ true → b < i → rest s (keep unfinished (c ∷ cs)) i ≡ rest s (keep unfinished cs) i
  rest-later b i c cs o l = rest-same s (keep unfinished (c ∷ cs)) (keep unfinished cs) i (λ f. kept-other i f c cs (λ q. omega (arith, order-head b c cs o)))

  tab-none : (m b : ℕ) → merge (tab (rest s []) m b) ≡ []
  unfolding tab merge insert_all weight
  tab-none zero b = refl
  tab-none (suc m) b = ap (λ (l : Run). insert_all cmp_version l (merge (tab (rest s []) m (suc b)))) (rest-none s [] b (λ f. refl)) ∙ tab-none m (suc b)

  pub merge-kept : (m b : ℕ) (cs : List Cursor) → in_order b cs ≡ true → length cs ≤ m → merge (tab (rest s (keep unfinished cs)) m b) ≡ merge (map (left s) cs)
  unfolding tab merge keep
  merge-kept m b [] o l = tab-none m b
  merge-kept zero b (c ∷ cs) o l = absurd (not-suc-le-zero l)
  merge-kept (suc m) b (c ∷ cs) o l =
      ap₂ (insert_all cmp_version) (rest-first b c cs o)
      (ap merge (tab-same (rest s (keep unfinished (c ∷ cs))) (rest s (keep unfinished cs)) m (suc b) (λ i k. rest-later b i c cs o k))
      ∙ merge-kept m (suc b) cs (order-tail b c cs o) (omega arith))

-- ---- the heap
pub built : (s : Bytes) (cs : List Cursor) (g r : Heap) → length cs ≤ 17 → all (lawful s) cs ≡ true → in_order 0 cs ≡ true → Gathered cs g → Ordered s g r → Built s cs r
unfolding unread
built s cs g r l a o gt od =
    record {
      sound =
          record {
            few = omega (arith, od.same, gt.few);
            long =
                omega (arith, od.bag.weighs (λ c. 1), length-weight (cursors_of g), length-weight (cursors_of r), length-take-le g.len g.cursors gt.long, length-take r.len r.cursors, od.same);
            living = all-bag (live s) od.bag (ap (all (live s)) gt.kept ∙ all_live s cs a);
            apart = λ i. omega (arith, od.bag.weighs (of_run i (λ c. 1)), ap (count i) gt.kept, apart-kept i 0 cs o);
            heap = od.heap;
          };
      all_of = ap merge (tab-same (rest s (cursors_of r)) (rest s (keep unfinished cs)) 17 0 (λ i k. same i)) ∙ merge-kept s 17 0 cs o l;
    }
  where
    same : (i : ℕ) → rest s (cursors_of r) i ≡ rest s (keep unfinished cs) i
    same i = rest-same s (cursors_of r) (cursors_of g) i (λ f. sym (od.bag.weighs (of_run i f))) ∙ ap (λ (l : List Cursor). rest s l i) gt.kept

-- ---- the steps of the code
pub gathered-on : (cs : List Cursor) (i : ℕ) (g r : Heap) → i < length cs → g.len ≤ i → cursors_of g ≡ keep unfinished (take i cs) → Pushed g (get_or cs i nowhere) r
    → (r.len ≤ i + 1) × (r.len ≤ length r.cursors) × (cursors_of r ≡ keep unfinished (take (i + 1) cs))
gathered-on cs i g r h l e p = (
  omega (arith, p.few),
  p.long,
  p.put ∙ ap (λ (k : List Cursor). k ++ cond (unfinished (get_or cs i nowhere)) (get_or cs i nowhere ∷ []) []) e
      ∙ sym (keep_snoc unfinished (take i cs) (get_or cs i nowhere)) ∙ ap (keep unfinished) (sym (take-suc cs i nowhere h)) ∙ ap (λ (k : ℕ). keep unfinished (take k cs)) (sym (add-one i)),
)
