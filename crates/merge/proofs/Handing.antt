-- What a heap hands out: its least version first, and nothing where it has no cursor; and what the contracts of this crate leave open changes nothing of it.
-- Assumes nothing.
use native.Mathlib.Omega.{arith}
use mathlib.Core.Path.{◌≡◌, refl, sym, ap, ◌∙◌, subst}
use mathlib.Core.Bool.{Bool, true, false, cond}
use mathlib.Core.List.{List, [], ◌∷◌, head-eq_of_cons-eq, tail-eq_of_cons-eq}
use Prim.Native.Nat.{Ordering}
use Prim.Native.Nat.{ℕ, zero, suc, ◌<◌, compare}
use lib.ListN.{get_or, take}
use Rattle.paper.specs.Lists.{then_by, is_lt, is_same, rises_from, rises, insert_all}
use Rattle.paper.specs.Keys.{Bytes, Version, cmp_version}
use Rattle.paper.specs.Runs.{Run, is_run, merge}
use Rattle.paper.proofs.Bools.{and_left, and_right, and_intro, is_lt-lt, is_same-eq}
use Rattle.paper.proofs.Order.{lt-compare}
use Rattle.paper.proofs.KeyOrder.{version-order}
use Rattle.merge.specs.Cursors.{nowhere, bef}
use Rattle.merge.specs.Unread.{cursors_of, rest, tab, unread, Sound, least, root_run, of_run}
use Rattle.merge.specs.Steps.{Passed}
use Rattle.merge.specs.declared.heap.Heap.{Heap}
use Rattle.merge.proofs.CursorLaws.{live-is}
use Rattle.merge.proofs.MergeLaws.{tab-same, Opens, shut, front, Above, handed}
use Rattle.merge.proofs.HeapSteps.{rest-run, least-head, nothing_left, root_live, root-begins}
use Rattle.merge.proofs.Passing.{not_first, not-like, opens-earlier}
use Rattle.paper.proofs.Rising.{merge-is_run}
use Rattle.merge.specs.Bag.{SameBag}
use Rattle.merge.specs.Shape.{Sifted}
use Rattle.merge.specs.Building.{Built}
use Rattle.merge.specs.declared.heap.Cursor.{Cursor}
use Rattle.merge.proofs.Rests.{rest-same}

-- ---- what a heap hands out first
-- what is left of a run once the version like v is passed
pass : Version → Run → Run
pass v [] = []
pass v (x ∷ xs) = cond (is_same (cmp_version x v)) xs (x ∷ xs)

pass-opens : (v : Version) (l : Run) → Opens v l (pass v l)
unfolding pass
pass-opens v [] = shut
pass-opens v (x ∷ xs) = go (is_same (cmp_version x v)) refl
  where
    go : (b : Bool) → is_same (cmp_version x v) ≡ b → Opens v (x ∷ xs) (cond b xs (x ∷ xs))
    go true e = front (is_same-eq (cmp_version x v) e)
    go false e = shut

rises-past : (v x : Version) (xs : Run) → cmp_version x v ≡ Ordering.eq → rises_from cmp_version x xs ≡ true → Above v xs
unfolding rises_from
rises-past v x [] e r = refl
rises-past v x (y ∷ ys) e r =
    and_intro (ap is_lt (sym (version-order.like x v y e) ∙ is_lt-lt (cmp_version x y) (and_left (is_lt (cmp_version x y)) (rises_from cmp_version y ys) r)))
    (and_right (is_lt (cmp_version x y)) (rises_from cmp_version y ys) r)

pass-above : (v : Version) (l : Run) → is_run l ≡ true → ((x : Version) (xs : Run) → l ≡ x ∷ xs → is_lt (cmp_version x v) ≡ false) → Above v (pass v l)
unfolding pass rises rises_from
pass-above v [] r h = refl
pass-above v (x ∷ xs) r h = go (is_same (cmp_version x v)) refl
  where
    go : (b : Bool) → is_same (cmp_version x v) ≡ b → Above v (cond b xs (x ∷ xs))
    go true e = rises-past v x xs (is_same-eq (cmp_version x v) e) r
    go false e = and_intro (ap is_lt (not-like v x (h x xs refl) e)) r

pass-first : (v : Version) (xs : Run) → pass v (v ∷ xs) ≡ xs
unfolding pass
pass-first v xs = simp (version-order.same v)

merge-nothing : (r : ℕ → Run) (n j : ℕ) → ((i : ℕ) → r i ≡ []) → merge (tab r n j) ≡ []
unfolding merge tab insert_all
merge-nothing r zero j h = refl
merge-nothing r (suc n) j h = ap (λ (l : Run). insert_all cmp_version l (merge (tab r n (suc j)))) (h j) ∙ merge-nothing r n (suc j) h

module _ (s : Bytes) (h : Heap) (ok : Sound s h) where
  pub empty : h.len ≡ 0 → unread s h ≡ []
  unfolding unread
  empty z = merge-nothing (rest s (cursors_of h)) 17 0 (nothing_left s h ok z)

  pub begins : 0 < h.len → (vs : Run) × (unread s h ≡ least s h ∷ vs)
  unfolding unread
  begins n =
      let (xs, e) = root-begins s h ok n in (
        merge (tab (λ i. pass (least s h) (rest s (cursors_of h) i)) 17 0),
        handed (least s h) (rest s (cursors_of h)) (λ i. pass (least s h) (rest s (cursors_of h) i)) (root_run h)
            (e ∙ ap {B = Run} (λ l. least s h ∷ l) (sym (ap (pass (least s h)) e ∙ pass-first (least s h) xs)))
            (λ i. pass-above (least s h) (rest s (cursors_of h) i) (rest-run s h ok i) (λ x l f. not_first (cmp_version x (least s h)) (compare i (root_run h)) (least-head s h ok i x l f)))
            (λ i b. opens-earlier (least s h) (pass-opens (least s h) (rest s (cursors_of h) i)) (λ x l f. ap (λ o. is_lt (then_by (cmp_version x (least s h)) o)) (sym (lt-compare i (root_run h) b)) ∙ least-head s h ok i x l f))
            (λ i b. pass-opens (least s h) (rest s (cursors_of h) i))
            17
            0
            (omega arith)
            (omega (arith, (live-is s (get_or h.cursors 0 nowhere) (root_live s h ok n)).1.run)),
      )

-- what is unread is a run
pub unread-run : (s : Bytes) (h : Heap) → is_run (unread s h) ≡ true
unfolding unread
unread-run s h = merge-is_run (tab (rest s (cursors_of h)) 17 0)

-- ---- replies that a contract allows hand out the same
module _ (s : Bytes) (g h : Heap) where
  -- two heaps of the same cursors
  pub same-cursors : SameBag (cursors_of g) (cursors_of h) → unread s g ≡ unread s h
  unfolding unread
  same-cursors b = ap merge (tab-same (rest s (cursors_of g)) (rest s (cursors_of h)) 17 0 (λ i _. rest-same s (cursors_of g) (cursors_of h) i (λ f. b.weighs (of_run i f))))

  -- two heaps with the same unread stand at the same version
  pub same-least : Sound s g → Sound s h → unread s g ≡ unread s h → 0 < g.len → 0 < h.len → least s g ≡ least s h
  same-least p q e n m = let (vs, b) = begins s g p n in let (ws, c) = begins s h q m in head-eq_of_cons-eq (sym b ∙ e ∙ c)

  -- `next`
  pub passed-same : (f : Heap) → Passed s f g → Passed s f h → unread s g ≡ unread s h
  passed-same f p q = tail-eq_of_cons-eq (sym p.handed ∙ q.handed)

  -- `heap_of`
  pub built-same : (cs : List Cursor) → Built s cs g → Built s cs h → unread s g ≡ unread s h
  built-same cs p q = p.all_of ∙ sym q.all_of

  -- `sift_down`
  pub sifted-same : (f : Heap) (at : ℕ) → g.len ≡ f.len → Sifted (bef s) nowhere f.cursors g.cursors f.len at
      → h.len ≡ f.len → Sifted (bef s) nowhere f.cursors h.cursors f.len at → unread s g ≡ unread s h
  sifted-same f at e p d q =
      let a : SameBag (cursors_of f) (cursors_of g) = subst (λ (n : ℕ). SameBag (take f.len f.cursors) (take n g.cursors)) (sym e) p.bag in
      let b : SameBag (cursors_of f) (cursors_of h) = subst (λ (n : ℕ). SameBag (take f.len f.cursors) (take n h.cursors)) (sym d) q.bag in
      same-cursors (record { weighs = λ w. sym (a.weighs w) ∙ b.weighs w })
