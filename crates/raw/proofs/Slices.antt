-- The tests `<`, `<=` and `==` on byte slices answer as the order of keys does.
-- Assumes nothing.
use Rattle.std.proofs.Common.{◌≡◌, ℕ, ◌<◌, ◌∷◌, refl, sym, ap, ◌∙◌, arith, Bool, not}
use Prim.Native.Nat.{Ordering}
use Rattle.std.specs.declared.cmp.Ordering as std
use Rattle.std.specs.declared.cmp.Ordering.TheVariants.{Less, Equal, Greater}
use Rattle.std.specs.Ordering as test
use Rattle.std.specs.Ordering.{MatchOrdering, nat_cmp, is_some_and}
use Rattle.std.specs.Cmp.Lexicographic.{slice_partial_cmp}
use Rattle.std.proofs.lemmas.Cmp.{ranked, same_from_slice_cmp_tested}
use Rattle.std.specs.Prelude.{Some}
use lib.Pointwise.{pointwise}
use lib.Dec.{eqb}
use Rattle.paper.specs.Lists.{then_by, is_lt, is_same}
use Rattle.paper.specs.Keys.{Bytes, cmp_key, same_key}
use Rattle.paper.proofs.KeyOrder.{key-eq, key-order}
use Rattle.paper.proofs.Order.{turned}
use Rattle.paper.proofs.Bools.{is_same-eq}
use Rattle.std.proofs.lemmas.Slice.Eq.{slice_eq-Decides}
use Rattle.std.proofs.lemmas.Bool.Decides.{same_from_decides, Decides-eqb}
use Rattle.raw.proofs.Comparing.{compare-less, compare-more, compare-like}

-- ---- the tests

-- at the first bytes, where a test of the order has answers of its own for each way that two things can stand to each other
at_first : (own : Ordering → Bool) (x y : ℕ) (xs ys : Bytes) (o : std.Ordering) → MatchOrdering o (x < y) (x ≡ y) (y < x)
    → MatchOrdering o (own (cmp_key (x ∷ xs) (y ∷ ys)) ≡ own Ordering.lt) (own (cmp_key (x ∷ xs) (y ∷ ys)) ≡ own (cmp_key xs ys)) (own (cmp_key (x ∷ xs) (y ∷ ys)) ≡ own Ordering.gt)
unfolding cmp_key
at_first own x y xs ys Less l = ap (λ c. own (then_by c (cmp_key xs ys))) (sym (compare-less x y l))
at_first own x y xs ys Equal e = ap (λ c. own (then_by c (cmp_key xs ys))) (sym (compare-like x y (omega arith) (omega arith)))
at_first own x y xs ys Greater l = ap (λ c. own (then_by c (cmp_key xs ys))) (sym (compare-more x y l))

-- `a < b`
pub less_is : (a b : Bytes) (r : Bool) → r ≡ is_some_and test.is_lt (slice_partial_cmp (λ x y. Some (nat_cmp x y)) a b) → r ≡ is_lt (cmp_key a b)
unfolding cmp_key
less_is =
    same_from_slice_cmp_tested nat_cmp test.is_lt (λ a b. is_lt (cmp_key a b)) refl (λ _ _. refl) (λ _ _. refl)
    (λ x y xs ys o e. at_first is_lt x y xs ys o (ranked x y o e))

up_to : (a b : Bytes) (r : Bool) → r ≡ is_some_and test.is_le (slice_partial_cmp (λ x y. Some (nat_cmp x y)) a b) → r ≡ not (is_lt (turned (cmp_key a b)))
unfolding cmp_key turned
up_to =
    same_from_slice_cmp_tested nat_cmp test.is_le (λ a b. not (is_lt (turned (cmp_key a b)))) refl (λ _ _. refl) (λ _ _. refl)
    (λ x y xs ys o e. at_first (λ o. not (is_lt (turned o))) x y xs ys o (ranked x y o e))

-- `a <= b`: b does not come before a
pub at_most_is : (a b : Bytes) (r : Bool) → r ≡ is_some_and test.is_le (slice_partial_cmp (λ x y. Some (nat_cmp x y)) a b) → r ≡ not (is_lt (cmp_key b a))
at_most_is a b r e = up_to a b r e ∙ ap (λ o. not (is_lt o)) (sym (key-order.turn a b))

-- `a == b`
pub equal_is : (a b : Bytes) (r : Bool) → r ≡ pointwise eqb a b → r ≡ same_key a b
equal_is a b r e =
    same_from_decides r (same_key a b) (slice_eq-Decides Decides-eqb a b r e)
    (λ h. key-eq a b (is_same-eq (cmp_key a b) h), λ q. ap is_same (ap (cmp_key a) (sym q) ∙ key-order.same a))
