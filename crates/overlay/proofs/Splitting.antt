-- A key among entries: those before it, those after it, and what it means that it was found or not.
-- Assumes nothing.
use native.Mathlib.Omega.{arith}
use mathlib.Core.Path.{◌≡◌, refl, sym, ap, ap₂, ◌∙◌}
use mathlib.Core.Bool.{true, cond}
use mathlib.Core.Option.{none, some}
use Rattle.std.specs.Prelude.{Result, Ok, Err}
use mathlib.Core.List.{List, [], ◌∷◌, ◌++◌}
use Prim.Native.Nat.{ℕ, ◌+◌, Ordering}
use lib.ListN.{length}
use Rattle.paper.specs.Lists.{is_lt, is_same, total, place, rises, rises_from, insert}
use Rattle.paper.specs.Keys.{Bytes, Pair, cmp_key, cmp_pair}
use Rattle.paper.specs.Store.{pair_size, own_size}
use Rattle.paper.specs.Seen.{own_write}
use Rattle.paper.proofs.Bools.{and_left, and_right, is_lt-lt}
use Rattle.paper.proofs.KeyOrder.{key-eq, key-order, pair-order}
use Rattle.paper.proofs.Rising.{rises-of}
use Rattle.overlay.specs.declared.Found.{Found}
use Rattle.overlay.specs.Overlay.{pair, spot, found_at}
use Rattle.overlay.proofs.Pairs.{rises-first}

abbrev pub by : {A : Type 0} → Ordering → A → A → A → A
by Ordering.lt a b c = a
by Ordering.eq a b c = b
by Ordering.gt a b c = c

-- the entries before a key, and those after it
unfoldable pub below : Bytes → List Pair → List Pair
below k [] = []
below k (p ∷ ps) = by (cmp_key k p.key) [] [] (p ∷ below k ps)

unfoldable pub above : Bytes → List Pair → List Pair
above k [] = []
above k (p ∷ ps) = by (cmp_key k p.key) (p ∷ ps) ps (above k ps)

-- an own write stands between them
pub insert-split : (k v : Bytes) (own : List Pair) → insert cmp_pair (pair k v) own ≡ below k own ++ (pair k v ∷ above k own)
unfolding insert cmp_pair below above
insert-split k v [] = refl
insert-split k v (p ∷ ps) = go (cmp_key k p.key) (insert-split k v ps)
  where
    go : (o : Ordering) → insert cmp_pair (pair k v) ps ≡ below k ps ++ (pair k v ∷ above k ps)
        → place o (pair k v) p ps (insert cmp_pair (pair k v) ps) ≡ by o [] [] (p ∷ below k ps) ++ (pair k v ∷ by o (p ∷ ps) ps (above k ps))
    go Ordering.lt ih = refl
    go Ordering.eq ih = refl
    go Ordering.gt ih = ap {B = List Pair} (λ l. p ∷ l) ih

pub own-size-append : (a b : List Pair) → own_size (a ++ b) ≡ own_size a + own_size b
unfolding own_size total
own-size-append [] b = omega arith
own-size-append (p ∷ a) b = let e = own-size-append a b in omega (arith, e)

own-size-nil : own_size [] ≡ 0
unfolding own_size total
own-size-nil = refl

pub own-size-cons : (p : Pair) (own : List Pair) → own_size (p ∷ own) ≡ pair_size p + own_size own
unfolding own_size total
own-size-cons p own = refl

-- no write at a key before all others
no_write : (k : Bytes) (p : Pair) (ps : List Pair) → cmp_key k p.key ≡ Ordering.lt → rises_from cmp_pair p ps ≡ true → own_write k (p ∷ ps) ≡ none
unfolding own_write rises_from cmp_pair
no_write k p [] e r = ap (λ o. cond (is_same o) (some p.value) none) e
no_write k p (q ∷ qs) e r =
    ap (λ o. cond (is_same o) (some p.value) (own_write k (q ∷ qs))) e
    ∙ no_write k q qs (key-order.trans k p.key q.key e (is_lt-lt (cmp_pair p q) (and_left (is_lt (cmp_pair p q)) (rises_from cmp_pair q qs) r))) (and_right (is_lt (cmp_pair p q)) (rises_from cmp_pair q qs) r)

-- an own write of the key was found among entries that start at an index
pub record Hit (at : ℕ) (k : Bytes) (own : List Pair) (f : Found) : Type 0 where
  pub value : Bytes
  pub parts : own ≡ below k own ++ (pair k value ∷ above k own)
  pub first : f.start ≡ at + own_size (below k own)
  pub mid : f.value ≡ f.start + 4 + length k
  pub last : f.end ≡ f.value + length value
  pub write : own_write k own ≡ some value

-- none was found
pub record Miss (at : ℕ) (k : Bytes) (own : List Pair) (gap : ℕ) : Type 0 where
  pub parts : own ≡ below k own ++ above k own
  pub first : gap ≡ at + own_size (below k own)
  pub write : rises cmp_pair own ≡ true → own_write k own ≡ none

abbrev pub Spotted : ℕ → Bytes → List Pair → Result Found ℕ → Type 0
Spotted at k own (Ok f) = Hit at k own f
Spotted at k own (Err gap) = Miss at k own gap

-- beside an entry p
module _ (k : Bytes) (p : Pair) (ps : List Pair) where
  below_by : (o : Ordering) → cmp_key k p.key ≡ o → below k (p ∷ ps) ≡ by o [] [] (p ∷ below k ps)
  unfolding below
  below_by o e = ap (λ c. by c [] [] (p ∷ below k ps)) e

  above-by : (o : Ordering) → cmp_key k p.key ≡ o → above k (p ∷ ps) ≡ by o (p ∷ ps) ps (above k ps)
  unfolding above
  above-by o e = ap (λ c. by c (p ∷ ps) ps (above k ps)) e

  write-by : (o : Ordering) → cmp_key k p.key ≡ o → own_write k (p ∷ ps) ≡ cond (is_same o) (some p.value) (own_write k ps)
  unfolding own_write
  write-by o e = ap (λ c. cond (is_same c) (some p.value) (own_write k ps)) e

-- further on than p
further-on : (at : ℕ) (k : Bytes) (p : Pair) (ps : List Pair) (r : Result Found ℕ) → cmp_key k p.key ≡ Ordering.gt → Spotted (at + pair_size p) k ps r → Spotted at k (p ∷ ps) r
further-on at k p ps (Ok f) e h =
    let b = below_by k p ps Ordering.gt e in
    let c = above-by k p ps Ordering.gt e in
    record {
      value = h.value;
      parts = ap {B = List Pair} (λ l. p ∷ l) h.parts ∙ sym (ap₂ (λ (x y : List Pair). x ++ (pair k h.value ∷ y)) b c);
      first = h.first ∙ omega (arith, ap own_size b, own-size-cons p (below k ps));
      mid = h.mid;
      last = h.last;
      write = write-by k p ps Ordering.gt e ∙ h.write;
    }
further-on at k p ps (Err gap) e h =
    let b = below_by k p ps Ordering.gt e in
    let c = above-by k p ps Ordering.gt e in
    record {
      parts = ap {B = List Pair} (λ l. p ∷ l) h.parts ∙ sym (ap₂ (λ (x y : List Pair). x ++ y) b c);
      first = h.first ∙ omega (arith, ap own_size b, own-size-cons p (below k ps));
      write = λ r. write-by k p ps Ordering.gt e ∙ h.write (rises-of cmp_pair pair-order p ps (rises-first p ps r));
    }

-- in front of p
in-front : (at : ℕ) (k : Bytes) (p : Pair) (ps : List Pair) → cmp_key k p.key ≡ Ordering.lt → Miss at k (p ∷ ps) at
in-front at k p ps e =
    let b = below_by k p ps Ordering.lt e in
    let c = above-by k p ps Ordering.lt e in
    record {
      parts = sym (ap₂ (λ (x y : List Pair). x ++ y) b c);
      first = omega (arith, ap own_size b, own-size-nil);
      write = λ r. no_write k p ps e (rises-first p ps r);
    }

-- at p
at-hand : (at : ℕ) (k : Bytes) (p : Pair) (ps : List Pair) → cmp_key k p.key ≡ Ordering.eq → Hit at k (p ∷ ps) (record { start = at; value = at + 4 + length p.key; end = at + pair_size p })
unfolding pair_size
at-hand at k p ps e =
    let b = below_by k p ps Ordering.eq e in
    let c = above-by k p ps Ordering.eq e in
    let j : k ≡ p.key = key-eq k p.key e in
    record {
      value = p.value;
      parts = ap {B = List Pair} (λ x. pair x p.value ∷ ps) (sym j) ∙ sym (ap₂ (λ (x y : List Pair). x ++ (pair k p.value ∷ y)) b c);
      first = omega (arith, ap own_size b, own-size-nil);
      mid = ap (λ (x : Bytes). at + 4 + length x) (sym j);
      last = omega arith;
      write = write-by k p ps Ordering.eq e;
    }

none-there : (at : ℕ) (k : Bytes) → Miss at k [] at
unfolding below above own_write
none-there at k = record { parts = refl; first = omega (arith, own-size-nil); write = λ r. refl }

pub spotted : (k : Bytes) (own : List Pair) (at : ℕ) → Spotted at k own (found_at at k own)
unfolding found_at
spotted k [] at = none-there at k
spotted k (p ∷ ps) at = go (spotted k ps (at + pair_size p)) (cmp_key k p.key) refl
  where
    go : Spotted (at + pair_size p) k ps (found_at (at + pair_size p) k ps) → (o : Ordering) → cmp_key k p.key ≡ o → Spotted at k (p ∷ ps) (spot o at p (found_at (at + pair_size p) k ps))
    go ih Ordering.lt e = in-front at k p ps e
    go ih Ordering.eq e = at-hand at k p ps e
    go ih Ordering.gt e = further-on at k p ps (found_at (at + pair_size p) k ps) e ih
