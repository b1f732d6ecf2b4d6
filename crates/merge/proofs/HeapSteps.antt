-- Steps of a sound heap: the root is least, its cursor steps on, and the least version comes out of the merge.
-- Assumes nothing.
use native.Mathlib.Omega.{arith}
use mathlib.Core.Path.{◌≡◌, refl, sym, ap, ap₂, ◌∙◌, subst}
use mathlib.Core.Bool.{true, false}
use mathlib.Core.Logic.{◌⊎◌, inl, inr}
use mathlib.Core.List.{List, [], ◌∷◌, head-eq_of_cons-eq}
use Prim.Native.Nat.{ℕ, ◌+◌, ◌-◌, ◌≤◌, ◌<◌, compare}
use lib.ListN.{length, take, get_or, length-take}
use lib.Seq.{length-take-le}
use Rattle.paper.specs.Lists.{then_by, is_lt, rises}
use Rattle.paper.specs.Keys.{Bytes, Version, cmp_version}
use Rattle.paper.specs.Runs.{Run, is_run}
use Rattle.raw.specs.Bytes.{part}
use Rattle.key.specs.Versions.{version_or, version_at, versions}
use Rattle.key.specs.Places.{Placed}
use Rattle.merge.specs.Bag.{weight, SameBag}
use Rattle.merge.specs.Shape.{HeapFrom, HeapBut, Sifted}
use Rattle.merge.specs.Cursors.{nowhere, live, left, bef}
use Rattle.merge.specs.Unread.{cursors_of, of_run, rest, Sound, least, root_run}
use Rattle.merge.specs.Steps.{Advanced, Stepped}
use Rattle.merge.specs.declared.heap.Cursor.{Cursor}
use Rattle.merge.specs.declared.heap.Heap.{Heap}
use Rattle.key.specs.declared.Place.{Place}
use Rattle.merge.proofs.Rank.{le_refl, le_trans}
use Rattle.merge.proofs.HeapLaws.{root, one_more}
use Rattle.merge.proofs.CursorLaws.{foremost, live-is, is_live, is_lawful, onward, onward-order, onward-lawful, left_step, left-run}
use Rattle.key.proofs.Packed.{versions-nil}
use Rattle.merge.proofs.Weights.{all-at, all-bag, bad, not-bad, weightless, all-weightless}
use Rattle.merge.proofs.Rests.{of-run, not-of-run, rest-same, rest-is, rest-none, only_at, rest_at, rest-where}

-- ---- a sound heap
module _ (s : Bytes) (h : Heap) (ok : Sound s h) where
  pub live-cursor : (j : ℕ) → j < h.len → live s (get_or h.cursors j nowhere) ≡ true
  live-cursor j b = all-at (live s) h.cursors h.len j nowhere b ok.long ok.living

  at-cursor : (j : ℕ) → j < h.len → rest s (cursors_of h) (get_or h.cursors j nowhere).run ≡ left s (get_or h.cursors j nowhere)
  at-cursor j b = rest_at s h.cursors h.len ok.long ok.apart j b

  cursor-head : (j : ℕ) → j < h.len → (x : Version) (xs : Run) → left s (get_or h.cursors j nowhere) ≡ x ∷ xs → version_at s (get_or h.cursors j nowhere).at ≡ x
  unfolding version_at
  cursor-head j b x xs e =
      let f = foremost s (get_or h.cursors j nowhere) (live-cursor j b) in
      ap version_or f.reads ∙ head-eq_of_cons-eq (sym f.has ∙ e)

  -- what is left of a run is a run
  pub rest-run : (i : ℕ) → is_run (rest s (cursors_of h) i) ≡ true
  unfolding rises
  rest-run i = go (rest-where s h.cursors h.len ok.long ok.apart i)
    where
      go : (rest s (cursors_of h) i ≡ []) ⊎ ((j : ℕ) × (j < h.len) × ((get_or h.cursors j nowhere).run ≡ i)) → is_run (rest s (cursors_of h) i) ≡ true
      go (inl e) = ap is_run e
      go (inr (j, b, q)) =
          ap (λ (k : ℕ). is_run (rest s (cursors_of h) k)) (sym q) ∙ ap is_run (at-cursor j b)
          ∙ left-run s (get_or h.cursors j nowhere) (is_lawful s (get_or h.cursors j nowhere) (live-is s (get_or h.cursors j nowhere) (live-cursor j b)).1)

  -- no run has a version before the root's: nor a version like it, where the run comes earlier
  pub least-head : (i : ℕ) (x : Version) (xs : Run) → rest s (cursors_of h) i ≡ x ∷ xs → is_lt (then_by (cmp_version x (least s h)) (compare i (root_run h))) ≡ false
  unfolding bef
  least-head i x xs e = go (rest-where s h.cursors h.len ok.long ok.apart i)
    where
      go : (rest s (cursors_of h) i ≡ []) ⊎ ((j : ℕ) × (j < h.len) × ((get_or h.cursors j nowhere).run ≡ i)) → is_lt (then_by (cmp_version x (least s h)) (compare i (root_run h))) ≡ false
      go (inl n) = let z : ◌≡◌ {A = Run} [] (x ∷ xs) = sym n ∙ e in cc
      go (inr (j, b, q)) =
          let a : left s (get_or h.cursors j nowhere) ≡ x ∷ xs = sym (at-cursor j b) ∙ ap (rest s (cursors_of h)) q ∙ e in
          ap₂ (λ (v : Version) (k : ℕ). is_lt (then_by (cmp_version v (least s h)) (compare k (root_run h)))) (sym (cursor-head j b x xs a)) (sym q)
          ∙ root (bef s) nowhere (le_refl s) (le_trans s) h.cursors h.len ok.heap j b

  -- with no cursor, nothing is left of any run
  pub nothing_left : h.len ≡ 0 → (i : ℕ) → rest s (cursors_of h) i ≡ []
  nothing_left z i = go (rest-where s h.cursors h.len ok.long ok.apart i)
    where
      go : (rest s (cursors_of h) i ≡ []) ⊎ ((j : ℕ) × (j < h.len) × ((get_or h.cursors j nowhere).run ≡ i)) → rest s (cursors_of h) i ≡ []
      go (inl e) = e
      go (inr (j, b, q)) = absurd (omega arith)

  module _ (some_left : 0 < h.len) where
    pub root_live : live s (get_or h.cursors 0 nowhere) ≡ true
    root_live = live-cursor 0 some_left

    pub root-begins : (xs : Run) × (rest s (cursors_of h) (root_run h) ≡ least s h ∷ xs)
    root-begins =
        let f = foremost s (get_or h.cursors 0 nowhere) root_live in
        (f.more, at-cursor 0 some_left ∙ f.has ∙ ap {B = Run} (λ v. v ∷ f.more) (sym (cursor-head 0 some_left f.thing f.more f.has)))

    -- a list of cursors that has the root's cursor stepped on, or not at all where nothing is left of it
    module _ (p : Place) (at : Placed s (get_or h.cursors 0 nowhere).at p) where
      abbrev c : Cursor
      c = get_or h.cursors 0 nowhere

      abbrev d : Cursor
      d = onward (get_or h.cursors 0 nowhere) p

      taken-left : rest s (cursors_of h) (root_run h) ≡ least s h ∷ left s d
      taken-left = at-cursor 0 some_left ∙ left_step s c p root_live at

      module _ (g : Heap) (few : g.len ≤ 17) (long : g.len ≤ length g.cursors) (but : HeapBut (bef s) nowhere g.cursors g.len 0 0) where
        pub stays : p.ve < c.end → ((f : Cursor → ℕ) → weight f (cursors_of g) + f c ≡ weight f (cursors_of h) + f d) → Advanced s h g
        stays further w =
            record {
              few = few;
              long = long;
              living = all-weightless (live s) (cursors_of g) (omega (arith, w (bad (live s)), weightless (live s) (cursors_of h) ok.living, not-bad (live s) d (is_live s d further (onward-lawful s c p root_live at))));
              apart = λ i. omega (arith, w (of_run i (λ c. 1)), ok.apart i);
              but = but;
              taken = taken-left ∙ ap {B = Run} (λ l. least s h ∷ l) (sym (rest-is s (cursors_of g) (root_run h) d (λ f. own f)));
              others = λ i ne. rest-same s (cursors_of g) (cursors_of h) i (λ f. omega (arith, w (of_run i f), not-of-run i f c (λ e. ne (sym e)), not-of-run i f d (λ e. ne (sym e))));
              fewer = omega (arith, w (λ c. c.end - c.at), at.start, at.key, at.mid, at.value, onward-order s c p root_live at);
            }
          where
            own : (f : Cursor → ℕ) → weight (of_run (root_run h) f) (cursors_of g) ≡ f d
            own f =
                omega (arith, w (of_run (root_run h) f), of-run (root_run h) f c refl, of-run (root_run h) f d refl, only_at s h.cursors h.len ok.long ok.apart 0 some_left f)

        pub leaves : c.end ≤ p.ve → ((f : Cursor → ℕ) → weight f (cursors_of g) + f c ≡ weight f (cursors_of h)) → Advanced s h g
        leaves ended w =
            record {
              few = few;
              long = long;
              living = all-weightless (live s) (cursors_of g) (omega (arith, w (bad (live s)), weightless (live s) (cursors_of h) ok.living));
              apart = λ i. omega (arith, w (of_run i (λ c. 1)), ok.apart i);
              but = but;
              taken = taken-left ∙ ap {B = Run} (λ l. least s h ∷ l) (nothing ∙ sym (rest-none s (cursors_of g) (root_run h) (λ f. own f)));
              others = λ i ne. rest-same s (cursors_of g) (cursors_of h) i (λ f. omega (arith, w (of_run i f), not-of-run i f c (λ e. ne (sym e))));
              fewer = omega (arith, w (λ c. c.end - c.at), (live-is s c root_live).0);
            }
          where
            own : (f : Cursor → ℕ) → weight (of_run (root_run h) f) (cursors_of g) ≡ 0
            own f = omega (arith, w (of_run (root_run h) f), of-run (root_run h) f c refl, only_at s h.cursors h.len ok.long ok.apart 0 some_left f)

            nothing : left s d ≡ []
            nothing =
                let z : d.end - d.at ≡ 0 = omega arith in
                ap (λ (n : ℕ). versions (part s d.at n)) z ∙ versions-nil

-- ---- the cursors are put in their places
pub length-weight : (cs : List Cursor) → weight (λ c. 1) cs ≡ length cs
unfolding weight
length-weight [] = refl
length-weight (c ∷ cs) = omega (arith, length-weight cs)

pub settled : (s : Bytes) (h g r : Heap) → Advanced s h g → r.len ≡ g.len → Sifted (bef s) nowhere g.cursors r.cursors g.len 0 → Stepped s h r
settled s h g r a e w =
    record {
      sound =
          record {
            few = omega (arith, a.few);
            long = long;
            living = all-bag (live s) bags a.living;
            apart = λ i. omega (arith, bags.weighs (of_run i (λ c. 1)), a.apart i);
            heap = subst (λ (n : ℕ). HeapFrom (bef s) nowhere r.cursors n 0) (sym e) (w.heap 0 a.but);
          };
      taken = a.taken ∙ ap {B = Run} (λ l. least s h ∷ l) (sym (same (root_run h)));
      others = λ i ne. same i ∙ a.others i ne;
      fewer = omega (arith, bags.weighs (λ c. c.end - c.at), a.fewer);
    }
  where
    bags : SameBag (cursors_of g) (cursors_of r)
    bags = subst (λ (n : ℕ). SameBag (take g.len g.cursors) (take n r.cursors)) (sym e) w.bag

    long : r.len ≤ length r.cursors
    long =
        omega (arith, bags.weighs (λ c. 1), length-weight (cursors_of g), length-weight (cursors_of r), length-take-le g.len g.cursors a.long, length-take r.len r.cursors)

    same : (i : ℕ) → rest s (cursors_of r) i ≡ rest s (cursors_of g) i
    same i = rest-same s (cursors_of r) (cursors_of g) i (λ f. sym (bags.weighs (of_run i f)))

-- a heap from k on, whose cursor at k - 1 is sifted down, is one from there on
pub sifted : (s : Bytes) (g r : Heap) (k : ℕ) → 0 < k → r.len ≡ g.len → Sifted (bef s) nowhere g.cursors r.cursors g.len (k - 1) → HeapFrom (bef s) nowhere g.cursors g.len k
    → HeapFrom (bef s) nowhere r.cursors r.len (k - 1) × SameBag (cursors_of g) (cursors_of r)
sifted s g r k p e w hp =
    let q : k ≡ k - 1 + 1 = omega arith in (
      subst (λ (n : ℕ). HeapFrom (bef s) nowhere r.cursors n (k - 1)) (sym e)
          (w.heap (k - 1) (one_more (bef s) nowhere g.cursors g.len (k - 1) (subst (λ (i : ℕ). HeapFrom (bef s) nowhere g.cursors g.len i) q hp))),
      subst (λ (n : ℕ). SameBag (cursors_of g) (take n r.cursors)) (sym e) w.bag,
    )
