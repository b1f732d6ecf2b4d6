-- Sifting down: one step, the end, the elements kept, and the least at the root.
-- Assumes nothing.
use mathlib.Core.Path.{◌≡◌, refl, sym, ap, ◌∙◌, subst}
use mathlib.Core.Bool.{Bool, true, false}
use mathlib.Core.List.{List, [], ◌∷◌}
use Prim.Native.Nat.{ℕ, zero, suc, ◌+◌, ◌-◌, ◌/◌, ◌<◌, ◌≤◌}
use native.Mathlib.Omega.{arith}
use native.Mathlib.Decide.{ℕ_discrete}
use lib.ListN.{length, get_or, set, take, length-set, length-take}
use lib.Seq.{get_or-set_same, get_or-set_other, take-set-lt, get_or-take, lt-length-set}
use Rattle.merge.specs.Bag.{weight, SameBag}
use Rattle.merge.specs.Shape.{Le, LeAt, HeapFrom, HeapBut, Smaller, Next}

module _ {A : Type 0} (z : A) where
  -- the elements at i and j change places
  abbrev pub sw : List A → ℕ → ℕ → List A
  sw l i j = set (set l i (get_or l j z)) j (get_or l i z)

  module _ (l : List A) (i j : ℕ) (apart : j ≡ i → ⊥) (li : i < length l) (lj : j < length l) where
    pub sw-i : get_or (sw l i j) i z ≡ get_or l j z
    sw-i = get_or-set_other (set l i (get_or l j z)) j i (get_or l i z) z (λ e. apart (sym e)) ∙ get_or-set_same l i (get_or l j z) z li

    pub sw-j : get_or (sw l i j) j z ≡ get_or l i z
    sw-j = get_or-set_same (set l i (get_or l j z)) j (get_or l i z) z (lt-length-set l i (get_or l j z) lj)

    pub sw-k : (k : ℕ) → (k ≡ i → ⊥) → (k ≡ j → ⊥) → get_or (sw l i j) k z ≡ get_or l k z
    sw-k k ki kj = get_or-set_other (set l i (get_or l j z)) j k (get_or l i z) z kj ∙ get_or-set_other l i k (get_or l j z) z ki

  pub weight-set : (f : A → ℕ) (l : List A) (i : ℕ) (x : A) → i < length l → weight f (set l i x) + f (get_or l i z) ≡ weight f l + f x
  unfolding weight
  weight-set f [] i x h = omega arith
  weight-set f (a ∷ l) zero x h = omega arith
  weight-set f (a ∷ l) (suc i) x h = let ih = weight-set f l i x (omega arith) in omega arith

  pub bag : (l : List A) (n i j : ℕ) → (j ≡ i → ⊥) → i < n → j < n → n ≤ length l → SameBag (take n l) (take n (sw l i j))
  bag l n i j apart hi hj hn = record { weighs = λ f. go f }
    where
      go : (f : A → ℕ) → weight f (take n l) ≡ weight f (take n (sw l i j))
      go f =
          let m = take n l in
          let x = get_or l j z in
          let y = get_or l i z in
          let e : take n (sw l i j) ≡ set (set m i x) j y = take-set-lt n (set l i x) j y hj ∙ ap (λ (q : List A). set q j y) (take-set-lt n l i x hi) in
          let len : length m ≡ n = length-take n l ∙ omega arith in
          let s1 : weight f (set m i x) + f y ≡ weight f m + f x = ap (λ (v : A). weight f (set m i x) + f v) (sym (get_or-take n l i z hi)) ∙ weight-set f m i x (omega arith) in
          let g : get_or (set m i x) j z ≡ x = get_or-set_other m i j x z apart ∙ get_or-take n l j z hj in
          let s2 : weight f (set (set m i x) j y) + f x ≡ weight f (set m i x) + f y = ap (λ (v : A). weight f (set (set m i x) j y) + f v) (sym g) ∙ weight-set f (set m i x) j y (simp length-set (omega arith)) in
          let s3 : weight f (take n (sw l i j)) ≡ weight f (set (set m i x) j y) = ap (weight f) e in
          omega arith

pub bag-trans : {A : Type 0} {l m k : List A} → SameBag l m → SameBag m k → SameBag l k
bag-trans p q = record { weighs = λ f. p.weighs f ∙ q.weighs f }

pub bag-refl : {A : Type 0} {l : List A} → SameBag l l
bag-refl = record { weighs = λ f. refl }

module _ {A : Type 0} (bf : A → A → Bool) (z : A) where
  module _ (l : List A) (n k at r : ℕ) (hb : HeapBut bf z l n k at) (nx : Next bf z l n at r) where
    pub done : r ≡ at → HeapFrom bf z l n k
    done e = record { ordered = λ j p b f. go j p b f (ℕ_discrete ((j - 1) / 2) at) }
      where
        go : (j : ℕ) → 0 < j → j < n → k ≤ (j - 1) / 2 → Dec ((j - 1) / 2 ≡ at) → LeAt bf z l ((j - 1) / 2) j
        go j p b f (yes q) = subst (λ (i : ℕ). LeAt bf z l i j) (e ∙ sym q) (nx.least j p b q)
        go j p b f (no q) = hb.others j p b f q

    module _ (ne : r ≡ at → ⊥) (ln : n ≤ length l) where
      private-lr : r < length l
      private-lr = omega (arith, nx.child ne)

      private-la : at < length l
      private-la = omega (arith, nx.child ne)

      -- read two elements of the list after the swap
      at-two : (i j i' j' : ℕ) → get_or (sw z l at r) i z ≡ get_or l i' z → get_or (sw z l at r) j z ≡ get_or l j' z → LeAt bf z l i' j' → LeAt bf z (sw z l at r) i j
      at-two i j i' j' p q h = ap (λ (v : A). bf v (get_or (sw z l at r) i z)) q ∙ ap (λ (v : A). bf (get_or l j' z) v) p ∙ h

      on-at : get_or (sw z l at r) at z ≡ get_or l r z
      on-at = sw-i z l at r ne private-la private-lr

      on-r : get_or (sw z l at r) r z ≡ get_or l at z
      on-r = sw-j z l at r ne private-la private-lr

      on-k : (i : ℕ) → (i ≡ at → ⊥) → (i ≡ r → ⊥) → get_or (sw z l at r) i z ≡ get_or l i z
      on-k = sw-k z l at r ne private-la private-lr

      others : (j : ℕ) → 0 < j → j < n → k ≤ (j - 1) / 2 → ((j - 1) / 2 ≡ r → ⊥) → Dec ((j - 1) / 2 ≡ at) → Dec (j ≡ r) → Dec (j ≡ at) → LeAt bf z (sw z l at r) ((j - 1) / 2) j
      others j p b f nr (yes q) (yes w) d = at-two ((j - 1) / 2) j r at (ap (λ (i : ℕ). get_or (sw z l at r) i z) q ∙ on-at) (ap (λ (i : ℕ). get_or (sw z l at r) i z) w ∙ on-r) nx.top
      others j p b f nr (yes q) (no w) d = at-two ((j - 1) / 2) j r j (ap (λ (i : ℕ). get_or (sw z l at r) i z) q ∙ on-at) (on-k j (omega arith) w) (nx.least j p b q)
      others j p b f nr (no q) d (yes v) =
          let c = nx.child ne in
          at-two ((j - 1) / 2) j ((at - 1) / 2) r (on-k ((j - 1) / 2) q nr ∙ ap (λ (i : ℕ). get_or l ((i - 1) / 2) z) v) (ap (λ (i : ℕ). get_or (sw z l at r) i z) v ∙ on-at)
          (hb.past r c.pos c.below c.parent (omega arith) (subst (λ (i : ℕ). k ≤ (i - 1) / 2) v f))
      others j p b f nr (no q) d (no v) = at-two ((j - 1) / 2) j ((j - 1) / 2) j (on-k ((j - 1) / 2) q nr) (on-k j v (λ e. q (ap (λ (i : ℕ). (i - 1) / 2) e ∙ (nx.child ne).parent))) (hb.others j p b f q)

      past : (j : ℕ) → 0 < j → j < n → (j - 1) / 2 ≡ r → 0 < r → k ≤ (r - 1) / 2 → LeAt bf z (sw z l at r) ((r - 1) / 2) j
      past j p b q o f =
          let c = nx.child ne in
          let w : (r - 1) / 2 ≡ at = c.parent in
          at-two ((r - 1) / 2) j ((j - 1) / 2) j (ap (λ (i : ℕ). get_or (sw z l at r) i z) c.parent ∙ on-at ∙ ap (λ (i : ℕ). get_or l i z) (sym q)) (on-k j (omega arith) (omega arith))
          (hb.others j p b (omega arith) (λ e. ne (sym q ∙ e)))

      -- one step down: now only the child may come after its children
      pub step : HeapBut bf z (sw z l at r) n k r
      step = record {
        others = λ j p b f nr. others j p b f nr (ℕ_discrete ((j - 1) / 2) at) (ℕ_discrete j r) (ℕ_discrete j at);
        past = past;
      }

  -- the root is not after any element
  module _ (rf : (a : A) → Le bf z a a) (tr : (a b c : A) → Le bf z a b → Le bf z b c → Le bf z a c) (l : List A) (n : ℕ) (hp : HeapFrom bf z l n 0) where
    more : (j : ℕ) → j < n → ((i : ℕ) → i < j → i < n → LeAt bf z l 0 i) → Dec (j ≡ 0) → LeAt bf z l 0 j
    more j b ih (yes e) = subst (λ (i : ℕ). LeAt bf z l 0 i) (sym e) (rf (get_or l 0 z))
    more j b ih (no e) = tr (get_or l 0 z) (get_or l ((j - 1) / 2) z) (get_or l j z) (ih ((j - 1) / 2) (omega arith) (omega arith)) (hp.ordered j (omega arith) b (omega arith))

    reach : (k j : ℕ) → j ≤ k → j < n → LeAt bf z l 0 j
    reach zero j h b = more j b (λ i lt lb. absurd (omega arith)) (ℕ_discrete j 0)
    reach (suc k) j h b = more j b (λ i lt lb. reach k i (omega arith) lb) (ℕ_discrete j 0)

    pub root : (j : ℕ) → j < n → LeAt bf z l 0 j
    root j b = reach j j (omega arith) b

  -- the child that comes first, and whether to go there
  module _ (rf : (a : A) → Le bf z a a) (asy : (a b : A) → bf a b ≡ true → Le bf z a b) (tr : (a b c : A) → Le bf z a b → Le bf z b c → Le bf z a c) (l : List A) (n at : ℕ) where
    one_of : (j lf rt : ℕ) → 0 < j → (j - 1) / 2 ≡ at → lf ≡ at + at + 1 → rt ≡ at + at + 2 → LeAt bf z l lf lf → (r : ℕ) → LeAt bf z l r lf → (rt ≡ j → LeAt bf z l r rt) → Dec (j ≡ lf) → LeAt bf z l r j
    one_of j lf rt p q el er _ r hl hr (yes e) = subst (λ (i : ℕ). LeAt bf z l r i) (sym e) hl
    one_of j lf rt p q el er _ r hl hr (no e) = let w : rt ≡ j = omega arith in subst (λ (i : ℕ). LeAt bf z l r i) w (hr w)

    module _ (lf rt : ℕ) (el : lf ≡ at + at + 1) (er : rt ≡ at + at + 2) where
      pub right-first : rt < n → bf (get_or l rt z) (get_or l lf z) ≡ true → Smaller bf z l n at rt
      right-first b t = record {
        child = record { pos = omega arith; below = b; parent = omega arith };
        least = λ j p h q. one_of j lf rt p q el er (rf (get_or l lf z)) rt (asy (get_or l rt z) (get_or l lf z) t) (λ _. rf (get_or l rt z)) (ℕ_discrete j lf);
      }

      pub left-first : rt < n → bf (get_or l rt z) (get_or l lf z) ≡ false → Smaller bf z l n at lf
      left-first b t = record {
        child = record { pos = omega arith; below = omega arith; parent = omega arith };
        least = λ j p h q. one_of j lf rt p q el er (rf (get_or l lf z)) lf (rf (get_or l lf z)) (λ _. t) (ℕ_discrete j lf);
      }

      pub left-only : lf < n → n ≤ rt → Smaller bf z l n at lf
      left-only b t = record {
        child = record { pos = omega arith; below = b; parent = omega arith };
        least = λ j p h q. one_of j lf rt p q el er (rf (get_or l lf z)) lf (rf (get_or l lf z)) (λ e. absurd (omega arith)) (ℕ_discrete j lf);
      }

      -- `at` and both children, by how each of them stands to `at`
      module _ (b : rt < n) where
        pub right-alone : bf (get_or l lf z) (get_or l at z) ≡ false → bf (get_or l rt z) (get_or l at z) ≡ true → Next bf z l n at rt
        right-alone f t =
            let top : LeAt bf z l rt at = asy (get_or l rt z) (get_or l at z) t in
            record {
              child = λ _. record { pos = omega arith; below = b; parent = omega arith };
              top = top;
              least = λ j p h q. one_of j lf rt p q el er (rf (get_or l lf z)) rt (tr (get_or l rt z) (get_or l at z) (get_or l lf z) top f) (λ _. rf (get_or l rt z)) (ℕ_discrete j lf);
            }

        pub neither : bf (get_or l lf z) (get_or l at z) ≡ false → bf (get_or l rt z) (get_or l at z) ≡ false → Next bf z l n at at
        neither f g = record {
          child = λ ne. absurd (ne refl);
          top = rf (get_or l at z);
          least = λ j p h q. one_of j lf rt p q el er (rf (get_or l lf z)) at f (λ _. g) (ℕ_discrete j lf);
        }

        pub left_alone : bf (get_or l lf z) (get_or l at z) ≡ true → bf (get_or l rt z) (get_or l at z) ≡ false → Next bf z l n at lf
        left_alone t g =
            let top : LeAt bf z l lf at = asy (get_or l lf z) (get_or l at z) t in
            record {
              child = λ _. record { pos = omega arith; below = omega arith; parent = omega arith };
              top = top;
              least = λ j p h q. one_of j lf rt p q el er (rf (get_or l lf z)) lf (rf (get_or l lf z)) (λ _. tr (get_or l lf z) (get_or l at z) (get_or l rt z) top g) (ℕ_discrete j lf);
            }

        pub both-rise : (r : ℕ) → Smaller bf z l n at r → bf (get_or l lf z) (get_or l at z) ≡ true → Next bf z l n at r
        both-rise r s t = record {
          child = λ _. s.child;
          top = tr (get_or l r z) (get_or l lf z) (get_or l at z) (s.least lf (omega arith) (omega arith) (omega arith)) (asy (get_or l lf z) (get_or l at z) t);
          least = s.least;
        }

    pub no-child : n ≤ at + at + 1 → Next bf z l n at at
    no-child h = record { child = λ ne. absurd (ne refl); top = rf (get_or l at z); least = λ j p b q. absurd (omega arith) }

    pub go-down : (r : ℕ) → Smaller bf z l n at r → bf (get_or l r z) (get_or l at z) ≡ true → Next bf z l n at r
    go-down r s t = record { child = λ _. s.child; top = asy (get_or l r z) (get_or l at z) t; least = s.least }

    pub stay : (r : ℕ) → Smaller bf z l n at r → bf (get_or l r z) (get_or l at z) ≡ false → Next bf z l n at at
    stay r s t = record { child = λ ne. absurd (ne refl); top = rf (get_or l at z); least = λ j p b q. tr (get_or l at z) (get_or l r z) (get_or l j z) t (s.least j p b q) }

  -- a heap whose root is replaced, and of which no more than m elements are looked at
  pub replaced : (l : List A) (n m : ℕ) (x : A) → m ≤ n → HeapFrom bf z l n 0 → HeapBut bf z (set l 0 x) m 0 0
  replaced l n m x h hp = record {
    others = λ j p b f q. ap (λ (v : A). bf v (get_or (set l 0 x) ((j - 1) / 2) z)) (get_or-set_other l 0 j x z (omega arith)) ∙ ap (λ (v : A). bf (get_or l j z) v) (get_or-set_other l 0 ((j - 1) / 2) x z q) ∙ hp.ordered j p (omega arith) f;
    past = λ j p b q o f. absurd (omega arith);
  }

  -- a heap from k + 1 on is one from k on, but for k
  pub one_more : (l : List A) (n k : ℕ) → HeapFrom bf z l n (k + 1) → HeapBut bf z l n k k
  one_more l n k hp = record {
    others = λ j p b f q. hp.ordered j p b (omega arith);
    past = λ j p b q o f. absurd (omega arith);
  }
