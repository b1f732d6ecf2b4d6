-- Passing the least version of a heap and those like it in later runs.
-- Assumes nothing.
use native.Mathlib.Omega.{arith}
use native.Mathlib.Decide.{ℕ_discrete}
use mathlib.Core.Path.{◌≡◌, refl, sym, ap, ◌∙◌, subst}
use mathlib.Core.Bool.{Bool, true, false, ◌&&◌, true≢false}
use mathlib.Core.List.{[], ◌∷◌}
use Prim.Native.Nat.{ℕ, ◌<◌, compare, Ordering}
use borrow.Author.Tests.{ltb-true, ltb-false}
use lib.Dec.{ltb}
use lib.ListN.{get_or}
use Rattle.paper.specs.Lists.{then_by, is_lt, is_same, rises_from, rises}
use Rattle.paper.specs.Keys.{Bytes, Version, cmp_version}
use Rattle.paper.specs.Runs.{Run, is_run}
use Rattle.paper.proofs.Bools.{and_left, and_right, and_intro, is_lt-lt, is_same-eq}
use Rattle.paper.proofs.Order.{turned, lt-compare, like-right}
use Rattle.paper.proofs.KeyOrder.{version-order}
use Rattle.merge.specs.Cursors.{nowhere}
use Rattle.merge.specs.Unread.{cursors_of, rest, unread, Sound, least, root_run}
use Rattle.merge.specs.Steps.{least_is, Stepped, Passed}
use Rattle.merge.specs.declared.heap.Heap.{Heap}
use Rattle.merge.proofs.CursorLaws.{live-is}
use Rattle.merge.proofs.MergeLaws.{Opens, shut, front, Above, handed}
use Rattle.merge.proofs.HeapSteps.{rest-run, least-head, nothing_left, root_live, root-begins}

-- ---- versions like v, and after it
module _ (v : Version) where
  alike : (u w : Version) → cmp_version u v ≡ Ordering.eq → cmp_version w v ≡ Ordering.eq → cmp_version u w ≡ Ordering.eq
  unfolding turned
  alike u w e f = version-order.like u v w e ∙ version-order.turn w v ∙ ap turned f

  first-lt : (u w : Version) (zs : Run) → is_run (u ∷ (w ∷ zs)) ≡ true → cmp_version u w ≡ Ordering.lt
  unfolding rises rises_from
  first-lt u w zs r = is_lt-lt (cmp_version u w) (and_left (is_lt (cmp_version u w)) (rises_from cmp_version w zs) r)

  -- a run has no two versions like v
  once : (u w : Version) (zs : Run) → is_run (u ∷ (w ∷ zs)) ≡ true → cmp_version u v ≡ Ordering.eq → cmp_version w v ≡ Ordering.eq → ⊥
  once u w zs r e f = let l = first-lt u w zs r in let m = alike u w e f in true≢false (sym (ap is_lt l) ∙ ap is_lt m)

  -- the version like v is passed
  opens-more : {xs ys : Run} → Opens v xs ys → (w : Version) (zs : Run) → ys ≡ w ∷ zs → is_run xs ≡ true → cmp_version w v ≡ Ordering.eq → Opens v xs zs
  opens-more shut w zs e r f = subst (λ l. Opens v l zs) (sym e) (front f)
  opens-more (front {w = u} {ys = ys} g) w zs e r f = absurd (once u w zs (ap {A = Run} (λ l. is_run (u ∷ l)) (sym e) ∙ r) g f)

  pub not-like : (w : Version) → is_lt (cmp_version w v) ≡ false → is_same (cmp_version w v) ≡ false → cmp_version v w ≡ Ordering.lt
  unfolding turned
  not-like w p q = version-order.turn w v ∙ ap turned (go (cmp_version w v) refl)
    where
      go : (o : Ordering) → cmp_version w v ≡ o → cmp_version w v ≡ Ordering.gt
      go Ordering.lt e = absurd (true≢false (sym (ap is_lt e) ∙ p))
      go Ordering.eq e = absurd (true≢false (sym (ap is_same e) ∙ q))
      go Ordering.gt e = e

  -- what comes next, and is not like v, is after v
  opens-after : {xs ys : Run} → Opens v xs ys → (w : Version) (zs : Run) → ys ≡ w ∷ zs → is_run xs ≡ true
      → ((x : Version) (l : Run) → xs ≡ x ∷ l → is_lt (cmp_version x v) ≡ false) → is_same (cmp_version w v) ≡ false → cmp_version v w ≡ Ordering.lt
  opens-after shut w zs e r h q = not-like w (h w zs e) q
  opens-after (front {w = u} {ys = ys} g) w zs e r h q =
      sym (version-order.like u v w g) ∙ first-lt u w zs (ap {A = Run} (λ l. is_run (u ∷ l)) (sym e) ∙ r)

  after-le : (b c : Version) → cmp_version v b ≡ Ordering.lt → is_lt (cmp_version c b) ≡ false → cmp_version v c ≡ Ordering.lt
  unfolding turned
  after-le b c l n = go (cmp_version b c) refl
    where
      go : (o : Ordering) → cmp_version b c ≡ o → cmp_version v c ≡ Ordering.lt
      go Ordering.lt e = version-order.trans v b c l e
      go Ordering.eq e = like-right cmp_version version-order v b c e ∙ l
      go Ordering.gt e = absurd (true≢false (sym (ap is_lt (version-order.turn b c ∙ ap turned e)) ∙ n))

  pub opens-earlier : {xs ys : Run} → Opens v xs ys → ((x : Version) (l : Run) → xs ≡ x ∷ l → is_lt (then_by (cmp_version x v) Ordering.lt) ≡ false) → xs ≡ ys
  opens-earlier shut h = refl
  opens-earlier (front {w = u} {ys = ys} g) h = absurd (true≢false (sym (ap (λ o. is_lt (then_by o Ordering.lt)) g) ∙ h u ys refl))

pub not_first : (o p : Ordering) → is_lt (then_by o p) ≡ false → is_lt o ≡ false
not_first Ordering.lt p h = h
not_first Ordering.eq p h = refl
not_first Ordering.gt p h = refl

-- ---- g is h with the least version passed, and perhaps some like it
pub record Passing (s : Bytes) (h g : Heap) : Type 0 where
  pub sound : Sound s g
  pub opens : (i : ℕ) → Opens (least s h) (rest s (cursors_of h) i) (rest s (cursors_of g) i)
  pub first : rest s (cursors_of h) (root_run h) ≡ least s h ∷ rest s (cursors_of g) (root_run h)

pub passing-start : (s : Bytes) (h g : Heap) → Stepped s h g → Passing s h g
passing-start s h g st = record { sound = st.sound; opens = λ i. go i (ℕ_discrete i (root_run h)); first = st.taken }
  where
    go : (i : ℕ) → Dec (i ≡ root_run h) → Opens (least s h) (rest s (cursors_of h) i) (rest s (cursors_of g) i)
    go i (yes e) =
        subst (λ (k : ℕ). Opens (least s h) (rest s (cursors_of h) k) (rest s (cursors_of g) k)) (sym e)
        (subst (λ (l : Run). Opens (least s h) l (rest s (cursors_of g) (root_run h))) (sym st.taken) (front (version-order.same (least s h))))
    go i (no e) = subst (λ (l : Run). Opens (least s h) l (rest s (cursors_of g) i)) (st.others i e) shut

module _ (s : Bytes) (h g : Heap) (ok : Sound s h) (p : Passing s h g) where
  like-least : least_is s (least s h) g ≡ true → cmp_version (least s g) (least s h) ≡ Ordering.eq
  like-least q = is_same-eq (cmp_version (least s g) (least s h)) (and_right (ltb 0 g.len) (is_same (cmp_version (least s g) (least s h))) q)

  pub has-cursor : least_is s (least s h) g ≡ true → 0 < g.len
  has-cursor q = ltb-true 0 g.len (and_left (ltb 0 g.len) (is_same (cmp_version (least s g) (least s h))) q)

  pub passing-on : (g' : Heap) → least_is s (least s h) g ≡ true → Stepped s g g' → Passing s h g'
  passing-on g' q st = record { sound = st.sound; opens = λ i. go i (ℕ_discrete i (root_run g)); first = first (ℕ_discrete (root_run h) (root_run g)) }
    where
      go : (i : ℕ) → Dec (i ≡ root_run g) → Opens (least s h) (rest s (cursors_of h) i) (rest s (cursors_of g') i)
      go i (yes e) =
          subst (λ (k : ℕ). Opens (least s h) (rest s (cursors_of h) k) (rest s (cursors_of g') k)) (sym e)
          (opens-more (least s h) (p.opens (root_run g)) (least s g) (rest s (cursors_of g') (root_run g)) st.taken (rest-run s h ok (root_run g)) (like-least q))
      go i (no e) = subst (λ (l : Run). Opens (least s h) (rest s (cursors_of h) i) l) (sym (st.others i e)) (p.opens i)

      first : Dec (root_run h ≡ root_run g) → rest s (cursors_of h) (root_run h) ≡ least s h ∷ rest s (cursors_of g') (root_run h)
      first (yes e) =
          let z : rest s (cursors_of h) (root_run h) ≡ least s h ∷ (least s g ∷ rest s (cursors_of g') (root_run g)) =
          p.first ∙ ap {B = Run} (λ l. least s h ∷ l) (ap (rest s (cursors_of g)) e ∙ st.taken) in
          absurd (once (least s h) (least s h) (least s g) (rest s (cursors_of g') (root_run g)) (ap is_run (sym z) ∙ rest-run s h ok (root_run h)) (version-order.same (least s h)) (like-least q))
      first (no e) = p.first ∙ ap {B = Run} (λ l. least s h ∷ l) (sym (st.others (root_run h) e))

  root-after : 0 < g.len → is_same (cmp_version (least s g) (least s h)) ≡ false → cmp_version (least s h) (least s g) ≡ Ordering.lt
  root-after n q =
      let (xs, e) = root-begins s g p.sound n in
      opens-after (least s h) (p.opens (root_run g)) (least s g) xs e (rest-run s h ok (root_run g))
      (λ x l f. not_first (cmp_version x (least s h)) (compare (root_run g) (root_run h)) (least-head s h ok (root_run g) x l f)) q

  above_from : (i : ℕ) → 0 < g.len → is_same (cmp_version (least s g) (least s h)) ≡ false → (l : Run) → rest s (cursors_of g) i ≡ l → Above (least s h) l
  unfolding rises_from rises
  above_from i n q [] e = refl
  above_from i n q (x ∷ xs) e =
      let m : is_lt (cmp_version x (least s g)) ≡ false = not_first (cmp_version x (least s g)) (compare i (root_run g)) (least-head s g p.sound i x xs e) in
      and_intro (ap is_lt (after-le (least s h) (least s g) x (root-after n q) m)) (ap is_run (sym e) ∙ rest-run s g p.sound i)

  above-all : least_is s (least s h) g ≡ false → (i : ℕ) → Above (least s h) (rest s (cursors_of g) i)
  unfolding rises_from
  above-all q i = go (ltb 0 g.len) refl
    where
      go : (b : Bool) → ltb 0 g.len ≡ b → Above (least s h) (rest s (cursors_of g) i)
      go true e = above_from i (ltb-true 0 g.len e) (ap (λ (b : Bool). b && is_same (cmp_version (least s g) (least s h))) (sym e) ∙ q) (rest s (cursors_of g) i) refl
      go false e = ap (rises_from cmp_version (least s h)) (nothing_left s g p.sound (omega (arith, ltb-false 0 g.len e)) i)

  pub passing-end : 0 < h.len → least_is s (least s h) g ≡ false → Passed s h g
  unfolding unread
  passing-end n q =
      record {
        sound = p.sound;
        handed =
            handed (least s h) (rest s (cursors_of h)) (rest s (cursors_of g)) (root_run h) p.first (above-all q) (λ i b. earlier i b) (λ i b. p.opens i) 17 0 (omega arith)
            (omega (arith, (live-is s (get_or h.cursors 0 nowhere) (root_live s h ok n)).1.run));
      }
    where
      earlier : (i : ℕ) → i < root_run h → rest s (cursors_of h) i ≡ rest s (cursors_of g) i
      earlier i b =
          opens-earlier (least s h) (p.opens i)
          (λ x l f. ap (λ o. is_lt (then_by (cmp_version x (least s h)) o)) (sym (lt-compare i (root_run h) b)) ∙ least-head s h ok i x l f)
