-- A binary heap in the first n elements of a list: the parent of j is (j - 1) / 2, and no element comes before its parent.
-- Assumes nothing.
use Rattle.std.specs.Prelude.{◌≡◌, Bool, false, List, ℕ, ◌-◌, ◌/◌, ◌<◌, ◌≤◌, get_or, take}
use Rattle.merge.specs.Bag.{SameBag}

-- in the order `bf`, `bf a b` being "a comes before b"; z is what an index past the end reads
module _ {A : Type 0} (bf : A → A → Bool) (z : A) where
  -- b does not come before a
  abbrev pub Le : A → A → Type 0
  Le a b = bf b a ≡ false

  -- the element at i is not after the one at j
  abbrev pub LeAt : List A → ℕ → ℕ → Type 0
  LeAt l i j = Le (get_or l i z) (get_or l j z)

  -- from the index k on
  pub record HeapFrom (l : List A) (n k : ℕ) : Type 0 where
    pub ordered : (j : ℕ) → 0 < j → j < n → k ≤ (j - 1) / 2 → LeAt l ((j - 1) / 2) j

  -- from the index k on, only the element at `at` may come after its children; its parent does not
  pub record HeapBut (l : List A) (n k at : ℕ) : Type 0 where
    pub others : (j : ℕ) → 0 < j → j < n → k ≤ (j - 1) / 2 → ((j - 1) / 2 ≡ at → ⊥) → LeAt l ((j - 1) / 2) j
    pub past : (j : ℕ) → 0 < j → j < n → (j - 1) / 2 ≡ at → 0 < at → k ≤ (at - 1) / 2 → LeAt l ((at - 1) / 2) j

  pub record IsChild (n at r : ℕ) : Type 0 where
    pub pos : 0 < r
    pub below : r < n
    pub parent : (r - 1) / 2 ≡ at

  -- r is a child of `at`, and none of the children is before it
  pub record Smaller (l : List A) (n at r : ℕ) : Type 0 where
    pub child : IsChild n at r
    pub least : (j : ℕ) → 0 < j → j < n → (j - 1) / 2 ≡ at → LeAt l r j

  -- r is `at` or a child of it, and neither `at` nor any of the children is before it
  pub record Next (l : List A) (n at r : ℕ) : Type 0 where
    pub child : (r ≡ at → ⊥) → IsChild n at r
    pub top : LeAt l r at
    pub least : (j : ℕ) → 0 < j → j < n → (j - 1) / 2 ≡ at → LeAt l r j

  -- m has the elements of l, and is a heap from k on wherever l was one but for `at`
  pub record Sifted (l m : List A) (n at : ℕ) : Type 0 where
    pub heap : (k : ℕ) → HeapBut l n k at → HeapFrom m n k
    pub bag : SameBag (take n l) (take n m)
