-- The search in a rising set: what it finds.
-- Assumes nothing.
use Prim.Native.Nat.{ℕ, zero, suc, ◌≤◌, ◌<◌, compare}
use native.Mathlib.Omega.{arith}
use native.Mathlib.Nat.{not-suc-le-zero, le_antisymm}
use mathlib.Core.Path.{◌≡◌, refl, sym, ap, ap₂, ◌∙◌}
use mathlib.Core.Bool.{Bool, true, false, cond}
use mathlib.Core.List.{List, [], ◌∷◌, map}
use lib.ListN.{length, get_or}
use lib.Dec.{ltb, eqb}
use borrow.Author.Tests.{lt-ltb, le-ltb, ltb-true, ltb-false, eq-eqb, ne_eqb}
use Rattle.paper.specs.Lists.{keep, rises, among}
use Rattle.sets.specs.Sets.{rank, found, found_in}
use Rattle.std.specs.Prelude.{Result, Ok, Err, MatchResult}
use Rattle.std.specs.Ordering.{nat_cmp}
use Rattle.std.specs.List.Sorted.{IsBinarySearchResult, IsSearchInRange}
use Rattle.std.proofs.lemmas.List.{get_or-map, length-map}
use Rattle.std.proofs.Math.ListN.{get_or-map as get_or-map_default}
use Rattle.std.proofs.lemmas.List.Sorted.{searched}
use Rattle.sets.proofs.Risings.{rises-at}

-- ---- by place: how many are below h, and whether h is among them

rank-low : (h x : ℕ) (xs : List ℕ) → x < h → rank h (x ∷ xs) ≡ suc (rank h xs)
unfolding rank keep
rank-low h x xs l = simp (lt-ltb x h l)

rank-high : (h x : ℕ) (xs : List ℕ) → h ≤ x → rank h (x ∷ xs) ≡ rank h xs
unfolding rank keep
rank-high h x xs l = simp (le-ltb x h l)

rank-none : (h : ℕ) (hs : List ℕ) → ((k : ℕ) → k < length hs → h ≤ get_or hs k 0) → rank h hs ≡ 0
unfolding rank keep
rank-none h [] f = refl
rank-none h (x ∷ xs) f = rank-high h x xs (f 0 (omega arith)) ∙ rank-none h xs (λ k l. f (suc k) (omega arith))

rank_is : (h : ℕ) (hs : List ℕ) (i : ℕ) → i ≤ length hs → ((k : ℕ) → k < i → get_or hs k 0 < h) → ((k : ℕ) → i ≤ k → k < length hs → h ≤ get_or hs k 0) → rank h hs ≡ i
unfolding rank keep
rank_is h hs zero l f g = rank-none h hs (λ k. g k (omega arith))
rank_is h [] (suc i) l f g = absurd (not-suc-le-zero l)
rank_is h (x ∷ xs) (suc i) l f g =
    rank-low h x xs (f 0 (omega arith)) ∙ ap suc (rank_is h xs i (omega arith) (λ k m. f (suc k) (omega arith)) (λ k m n. g (suc k) (omega arith) (omega arith)))

among-at : (h : ℕ) (hs : List ℕ) (i : ℕ) → i < length hs → get_or hs i 0 ≡ h → among h hs ≡ true
unfolding among
among-at h [] i l e = absurd (not-suc-le-zero l)
among-at h (x ∷ xs) zero l e = simp (eq-eqb h x (sym e))
among-at h (x ∷ xs) (suc i) l e = go (eqb h x) (among-at h xs i (omega arith) e)
  where
    go : (b : Bool) → among h xs ≡ true → cond b true (among h xs) ≡ true
    go true a = refl
    go false a = a

among_none : (h : ℕ) (hs : List ℕ) → ((k : ℕ) → k < length hs → h ≡ get_or hs k 0 → ⊥) → among h hs ≡ false
unfolding among
among_none h [] f = refl
among_none h (x ∷ xs) f = simp (ne_eqb h x (f 0 (omega arith))) (among_none h xs (λ k l. f (suc k) (omega arith)))

-- ---- the search

-- an element that is h, or the place between those below h and those above it
pub searched_set : (hs : List ℕ) (h : ℕ) (r : Result ℕ ℕ) → rises compare hs ≡ true → IsBinarySearchResult (λ y. nat_cmp y h) hs r → r ≡ found_in h hs
unfolding found_in
searched_set hs h r up found_by = go r (searched hs h r found_by up_to)
  where
    up_to : (i j : ℕ) → i ≤ j → j < length hs → get_or hs i 0 ≤ get_or hs j 0
    up_to i j l m = by (ltb i j) refl
      where
        by : (b : Bool) → ltb i j ≡ b → get_or hs i 0 ≤ get_or hs j 0
        by true e = let f = rises-at hs up i j (ltb-true i j e) m in omega arith
        by false e = let f : get_or hs i 0 ≡ get_or hs j 0 = ap (λ (k : ℕ). get_or hs k 0) (le_antisymm l (ltb-false i j e)) in omega arith

    go : (q : Result ℕ ℕ) → MatchResult q (λ i. (i < length hs) × (get_or hs i 0 ≡ h)) (λ i. (i ≤ length hs) × ((k : ℕ) → k < i → get_or hs k 0 < h) × ((k : ℕ) → i ≤ k → k < length hs → h < get_or hs k 0)) → q ≡ found (among h hs) (rank h hs)
    go (Ok i) m =
        let l = m.0 in
        sym (ap₂ found (among-at h hs i m.0 m.1) (rank_is h hs i (omega arith) (λ k n. omega (arith, rises-at hs up k i n m.0, m.1)) (λ k n o. omega (arith, up_to i k n o, m.1))))
    go (Err i) m =
        sym (ap₂ found (among_none h hs (λ k n e. elsewhere k n e (ltb k i) refl)) (rank_is h hs i m.0 m.1 (λ k n o. let a = m.2 k n o in omega arith)))
      where
        elsewhere : (k : ℕ) → k < length hs → h ≡ get_or hs k 0 → (b : Bool) → ltb k i ≡ b → ⊥
        elsewhere k n e true f = let a = m.1 k (ltb-true k i f) in omega arith
        elsewhere k n e false f = let a = m.2 k (ltb-false k i f) n in omega arith

-- the same where each number is read off an element
module _ {X : Type 0} (f : X → ℕ) (xs : List X) (d : X) (h : ℕ) where
  read-off : (k : ℕ) (e : ℕ) → k < length xs → nat_cmp (get_or (map f xs) k e) h ≡ nat_cmp (f (get_or xs k d)) h
  read-off k e l = ap (λ (y : ℕ). nat_cmp y h) (get_or-map f xs k d e l)

  by_number : (r : Result ℕ ℕ) → IsSearchInRange r (length xs) → IsBinarySearchResult (λ y. nat_cmp (f y) h) xs r → IsBinarySearchResult (λ y. nat_cmp y h) (map f xs) r
  by_number (Ok i) l m = λ e. read-off i e l ∙ m d
  by_number (Err i) l m =
      λ up.
      let n = length-map xs f in
      let p = m (λ a b e o k. simp get_or-map-same at (up a b (f e) o (omega arith))) in
      ((λ k e o q. read-off k e (omega arith) ∙ p.0 k d o q), (λ k e o q. read-off k e (omega arith) ∙ p.1 k d o (omega arith)))
    where
      get_or-map-same : (k : ℕ) (e : X) → get_or (map f xs) k (f e) ≡ f (get_or xs k e)
      get_or-map-same k e = get_or-map_default f xs k e

  pub searched_by : (r : Result ℕ ℕ) → IsSearchInRange r (length xs) → rises compare (map f xs) ≡ true → IsBinarySearchResult (λ y. nat_cmp (f y) h) xs r → r ≡ found_in h (map f xs)
  searched_by r l up m = searched_set (map f xs) h r up (by_number r l m)
