-- The pieces between separators, as the library's `split` gives them, one after the other.
-- Assumes nothing.
use mathlib.Core.Path.{◌≡◌, refl, sym, ap}
use mathlib.Core.Bool.{Bool, true, false}
use mathlib.Core.List.{List, [], ◌∷◌}
use Prim.Native.Nat.{ℕ}
use lib.Dec.{eqb}
use Rattle.std.specs.Prelude.{Option, Some, None, is_some}
use Rattle.std.specs.List.{slice_split, onto_first}
use Rattle.std.specs.Fn.{CalledAt}
use Rattle.std.specs.declared.slice.Split.{Split}
use Rattle.std.specs.Slice.Iter.{split_steps, split_rest, split_done, split_callee}
use denote.Param.Members.{Mut}
use denote.Ref.{Bor}
use Rattle.std.proofs.lemmas.Iterator.{YieldsList}
use Rattle.std.proofs.lemmas.Iterator.Splits.{YieldsList-from_slice_split}
use Rattle.paper.specs.Keys.{Bytes}
use Rattle.paper.specs.Replay.{prepended, pieces}

onto-is : (b : ℕ) (ps : List Bytes) → onto_first b ps ≡ prepended b ps
onto-is b [] = refl
onto-is b (p ∷ ps) = refl

-- the library's parts are the paper's pieces
pub pieces-are : (sep : ℕ) (s : Bytes) → slice_split (λ b. eqb b sep) s ≡ pieces sep s
unfolding pieces
pieces-are sep [] = refl
pieces-are sep (b ∷ bs) = rw (pieces-are sep bs, onto-is b (pieces sep bs))

-- ---- a call of `next` on an iterator that gives a known list
module _ {S A B : Type 0} {steps : S → Option A → S → Type 0} {v : A → B} where
  -- it gave an item, which is the first of the list
  pub took : (all : List B) {s : S} → YieldsList steps v s all → (x : A) (t : S) → steps s (Some x) t → (rest : List B) × (all ≡ v x ∷ rest) × YieldsList steps v t rest
  took [] y x t h = absurd (y.runs x t h)
  took (b ∷ bs) y x t h = let w = y.runs.1 x t h in (bs, ap (λ c. c ∷ bs) (sym w.0), record { runs = w.1 })

  -- it gave none: the list is empty
  pub ended : (all : List B) {s : S} → YieldsList steps v s all → (t : S) → steps s None t → all ≡ []
  ended [] y t h = refl
  ended (b ∷ bs) y t h = absurd (y.runs.0 t h)

  -- whether it gave one is tested
  pub took-some : (all : List B) {s : S} → YieldsList steps v s all → (r : Option A) (t : S) → steps s r t → is_some r ≡ true → (x : A) × (rest : List B) × (all ≡ v x ∷ rest)
  took-some all y None t h e = cc
  took-some all y (Some x) t h e = let w = took all y x t h in (x, w.0, w.1)

  pub ended-none : (all : List B) {s : S} → YieldsList steps v s all → (r : Option A) (t : S) → steps s r t → is_some r ≡ false → all ≡ []
  ended-none all y None t h e = ended all y t h
  ended-none all y (Some x) t h e = cc

-- the first field of a line that is cut at each space
pub first-field : {F : Type 0} {g : Mut F (Bor ℕ × Unit {0}) Bool} {f : F} (l : Bytes) (s : Split ℕ F) (x : Bor (List ℕ)) (t : Split ℕ F) → split_steps g s (Some x) t
    → split_rest s ≡ l → split_done s ≡ false → split_callee s ≡ f → ((y : ℕ) (b : Bool) (q : F) → CalledAt g f y b q → (q ≡ f) × (b ≡ eqb y 32))
    → (rest : List Bytes) × (slice_split (λ b. eqb b 32) l ≡ x.now ∷ rest) × YieldsList (split_steps g) (λ y. y.now) t rest
first-field {g = g} l s x t h r d c e =
    took (slice_split (λ b. eqb b 32) l) (YieldsList-from_slice_split {s = s} g (λ b. eqb b 32) l r d c e) x t h
