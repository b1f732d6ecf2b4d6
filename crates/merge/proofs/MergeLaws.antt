-- The first version of a merge: handed out by the earliest run that has it, and passed in the later ones.
-- Assumes nothing.
use native.Mathlib.Omega.{arith}
use native.Mathlib.Decide.{ℕ_discrete}
use mathlib.Core.Path.{◌≡◌, refl, sym, ap, ap₂, ◌∙◌, subst}
use mathlib.Core.Bool.{true}
use mathlib.Core.List.{List, [], ◌∷◌}
use Prim.Native.Nat.{Ordering}
use Prim.Native.Nat.{ℕ, zero, suc, ◌+◌, ◌≤◌, ◌<◌}
use Rattle.paper.specs.Lists.{is_lt, place, rises_from, insert, insert_all}
use Rattle.paper.specs.Keys.{Version, cmp_version}
use Rattle.paper.specs.Runs.{Run, merge}
use Rattle.paper.proofs.Bools.{and_left, and_right, is_lt-lt}
use Rattle.paper.proofs.Order.{turned}
use Rattle.paper.proofs.KeyOrder.{version-order}
use Rattle.paper.proofs.Rising.{rises_from-before, insert-rises_from}
use Rattle.merge.specs.Unread.{tab}

-- runs that are the same from run b on
pub tab-same : (r x : ℕ → Run) (m b : ℕ) → ((i : ℕ) → b ≤ i → r i ≡ x i) → tab r m b ≡ tab x m b
unfolding tab
tab-same r x zero b h = refl
tab-same r x (suc m) b h = ap₂ {C = List Run} (λ l ls. l ∷ ls) (h b (omega arith)) (tab-same r x m (suc b) (λ i k. h i (omega arith)))

-- xs is ys, or has a version like v before it
pub data Opens (v : Version) : Run → Run → Type 0 where
  shut : {ys : Run} → Opens v ys ys
  front : {w : Version} {ys : Run} → cmp_version w v ≡ Ordering.eq → Opens v (w ∷ ys) ys

module _ (v : Version) where
  abbrev pub Above : Run → Type 0
  Above xs = rises_from cmp_version v xs ≡ true

  head-above : (x : Version) (xs : Run) → Above (x ∷ xs) → cmp_version v x ≡ Ordering.lt
  unfolding rises_from
  head-above x xs a = is_lt-lt (cmp_version v x) (and_left (is_lt (cmp_version v x)) (rises_from cmp_version x xs) a)

  tail-above : (x : Version) (xs : Run) → Above (x ∷ xs) → Above xs
  unfolding rises_from
  tail-above x xs a =
      rises_from-before cmp_version version-order v x xs (head-above x xs a) (and_right (is_lt (cmp_version v x)) (rises_from cmp_version x xs) a)

  insert_all-above : (xs ys : Run) → Above xs → Above ys → Above (insert_all cmp_version xs ys)
  unfolding insert_all
  insert_all-above [] ys a b = b
  insert_all-above (x ∷ xs) ys a b =
      insert-rises_from cmp_version version-order v x (insert_all cmp_version xs ys) (head-above x xs a) (insert_all-above xs ys (tail-above x xs a) b)

  -- a version like v goes in front of what is above v
  insert-front : (w : Version) (ys : Run) → cmp_version w v ≡ Ordering.eq → Above ys → insert cmp_version w ys ≡ w ∷ ys
  unfolding insert
  insert-front w [] e a = refl
  insert-front w (y ∷ ys) e a = ap (λ o. place o w y ys (insert cmp_version w ys)) (version-order.like w v y e ∙ head-above y ys a)

  insert-over : (w u : Version) (ys : Run) → cmp_version w v ≡ Ordering.eq → cmp_version u v ≡ Ordering.eq → insert cmp_version w (u ∷ ys) ≡ w ∷ ys
  unfolding insert turned
  insert-over w u ys e f =
      ap (λ o. place o w u ys (insert cmp_version w ys)) (version-order.like w v u e ∙ version-order.turn u v ∙ ap turned f)

  -- and stays there when what is above v is put in
  insert_all-past : (w : Version) (xs ys : Run) → cmp_version w v ≡ Ordering.eq → Above xs → insert_all cmp_version xs (w ∷ ys) ≡ w ∷ insert_all cmp_version xs ys
  unfolding insert_all insert turned
  insert_all-past w [] ys e a = refl
  insert_all-past w (x ∷ xs) ys e a =
      let g : cmp_version x w ≡ Ordering.gt = version-order.turn w x ∙ ap turned (version-order.like w v x e ∙ head-above x xs a) in
      ap (insert cmp_version x) (insert_all-past w xs ys e (tail-above x xs a))
      ∙ ap (λ o. place o x w (insert_all cmp_version xs ys) (insert cmp_version x (insert_all cmp_version xs ys))) g

  opens-all : {xs xs' ys ys' : Run} → Opens v xs xs' → Opens v ys ys' → Above xs' → Above ys' → Opens v (insert_all cmp_version xs ys) (insert_all cmp_version xs' ys')
  unfolding insert_all
  opens-all shut shut a b = shut
  opens-all {xs' = xs} shut (front {w = w} {ys = ys} e) a b = subst (λ l. Opens v l (insert_all cmp_version xs ys)) (sym (insert_all-past w xs ys e a)) (front e)
  opens-all {ys' = ys} (front {w = w} {ys = xs} e) shut a b =
      subst (λ l. Opens v l (insert_all cmp_version xs ys)) (sym (insert-front w (insert_all cmp_version xs ys) e (insert_all-above xs ys a b))) (front e)
  opens-all (front {w = w} {ys = xs} e) (front {w = u} {ys = ys} f) a b =
      subst (λ l. Opens v l (insert_all cmp_version xs ys))
      (sym (ap (insert cmp_version w) (insert_all-past u xs ys f a) ∙ insert-over w u (insert_all cmp_version xs ys) e f))
      (front e)

  starts-here : (xs : Run) {ys ys' : Run} → Opens v ys ys' → Above xs → Above ys' → insert_all cmp_version (v ∷ xs) ys ≡ v ∷ insert_all cmp_version xs ys'
  unfolding insert_all
  starts-here xs {ys} shut a b = insert-front v (insert_all cmp_version xs ys) (version-order.same v) (insert_all-above xs ys a b)
  starts-here xs (front {w = u} {ys = ys} f) a b =
      ap (insert cmp_version v) (insert_all-past u xs ys f a) ∙ insert-over v u (insert_all cmp_version xs ys) (version-order.same v) f

  module _ (r x : ℕ → Run) where
    above-all : (n j : ℕ) → ((i : ℕ) → j ≤ i → Above (x i)) → Above (merge (tab x n j))
    unfolding merge tab rises_from
    above-all zero j h = refl
    above-all (suc n) j h = insert_all-above (x j) (merge (tab x n (suc j))) (h j (omega arith)) (above-all n (suc j) (λ i k. h i (omega arith)))

    later : (n j : ℕ) → ((i : ℕ) → j ≤ i → Opens v (r i) (x i)) → ((i : ℕ) → j ≤ i → Above (x i)) → Opens v (merge (tab r n j)) (merge (tab x n j))
    unfolding merge tab
    later zero j h k = shut
    later (suc n) j h k =
        opens-all (h j (omega arith)) (later n (suc j) (λ i l. h i (omega arith)) (λ i l. k i (omega arith))) (k j (omega arith))
        (above-all n (suc j) (λ i l. k i (omega arith)))

    module _ (at : ℕ) (has : r at ≡ v ∷ x at) (above : (i : ℕ) → Above (x i)) (earlier : (i : ℕ) → i < at → r i ≡ x i) (opens : (i : ℕ) → at < i → Opens v (r i) (x i)) where
      -- v, which run `at` has first, comes out first; x is what is left of each run
      pub handed : (n j : ℕ) → j ≤ at → at < j + n → merge (tab r n j) ≡ v ∷ merge (tab x n j)
      unfolding merge tab
      handed zero j h k = absurd (omega arith)
      handed (suc n) j h k = go (λ a b. handed n (suc j) a b) (ℕ_discrete j at)
        where
          go : (suc j ≤ at → at < suc j + n → merge (tab r n (suc j)) ≡ v ∷ merge (tab x n (suc j))) → Dec (j ≡ at)
              → insert_all cmp_version (r j) (merge (tab r n (suc j))) ≡ v ∷ insert_all cmp_version (x j) (merge (tab x n (suc j)))
          go ih (yes e) =
              ap (λ (l : Run). insert_all cmp_version l (merge (tab r n (suc j)))) (ap r e ∙ has ∙ ap {B = Run} (λ i. v ∷ x i) (sym e))
              ∙ starts-here (x j) (later n (suc j) (λ i l. opens i (omega arith)) (λ i l. above i)) (above j) (above-all n (suc j) (λ i l. above i))
          go ih (no e) =
              ap₂ (insert_all cmp_version) (earlier j (omega arith)) (ih (omega arith) (omega arith))
              ∙ insert_all-past v (x j) (merge (tab x n (suc j))) (version-order.same v) (above j)
