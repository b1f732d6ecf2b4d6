-- The lower bound: the versions below it are passed, and what is left shows what is within both bounds.
-- Assumes nothing.
use mathlib.Core.Path.{◌≡◌, refl, sym, ap, ◌∙◌}
use mathlib.Core.Bool.{Bool, true, false, cond, not, true≢false}
use mathlib.Core.List.{List, [], ◌∷◌}
use mathlib.Core.Option.{Option}
use Prim.Native.Nat.{ℕ, Ordering}
use Rattle.paper.specs.Lists.{is_lt, all, keep, rises, insert}
use Rattle.paper.specs.Keys.{Bytes, Version, cmp_key, same_key}
use Rattle.paper.specs.Bounds.{Bound, unbounded, above, below, within}
use Rattle.paper.specs.Runs.{Run, is_run}
use Rattle.paper.specs.Seen.{candidate, newest, newer, visible, value_of, own_write, seen, keys_of_run, keys_of, valued, present}
use Rattle.paper.proofs.Bools.{and_intro, is_same-eq}
use Rattle.paper.proofs.Alls.{all-mono, all_keep}
use Rattle.paper.proofs.Order.{turned}
use Rattle.paper.proofs.KeyOrder.{key-eq, key-order}
use Rattle.paper.proofs.ScanLaws.{keys_of_run-rises, above-up}
use Rattle.lsm.specs.Edges.{is_from}
use Rattle.merge.proofs.KeepLaws.{keep_all, all-kept, keep-both, keep-insert}
use Rattle.lsm.proofs.PresentLaws.{From, run-from, valued_same}

-- a key at or above one that a lower bound lets through is let through
above_on : (lo : Bound) (k x : Bytes) → From k x ≡ true → above lo k ≡ true → above lo x ≡ true
unfolding turned
above_on lo k x f a = go (cmp_key k x) refl
  where
    go : (o : Ordering) → cmp_key k x ≡ o → above lo x ≡ true
    go Ordering.lt e = above-up lo k x e a
    go Ordering.eq e = ap (above lo) (sym (key-eq k x e)) ∙ a
    go Ordering.gt e = let z : From k x ≡ false = ap (λ o. not (is_lt o)) (key-order.turn k x ∙ ap turned e) in absurd (true≢false (sym f ∙ z))

-- a run whose first version is let through is let through whole
pub run-above : (lo : Bound) (v : Version) (vs : Run) → is_run (v ∷ vs) ≡ true → is_from lo v ≡ true → keep (is_from lo) (v ∷ vs) ≡ v ∷ vs
unfolding rises all
run-above lo v vs r a =
    keep_all (is_from lo) (v ∷ vs) (and_intro a (all-mono (λ w. From v.key w.key) (is_from lo) (λ w f. above_on lo v.key w.key f a) vs (run-from v vs r)))

-- ---- what is present
key-alike : (lo : Bound) (a b : Bytes) → cmp_key a b ≡ Ordering.eq → above lo a ≡ above lo b
key-alike lo a b e = ap (above lo) (key-eq a b e)

keys_kept : (lo : Bound) (vs : Run) → keys_of_run (keep (is_from lo) vs) ≡ keep (above lo) (keys_of_run vs)
unfolding keys_of_run keep
keys_kept lo [] = refl
keys_kept lo (v ∷ vs) = go (above lo v.key) refl (keys_kept lo vs)
  where
    go : (b : Bool) → above lo v.key ≡ b → keys_of_run (keep (is_from lo) vs) ≡ keep (above lo) (keys_of_run vs)
        → keys_of_run (cond b (v ∷ keep (is_from lo) vs) (keep (is_from lo) vs)) ≡ keep (above lo) (insert cmp_key v.key (keys_of_run vs))
    go true e ih =
        ap (insert cmp_key v.key) ih
        ∙ sym (keep-insert cmp_key key-order (above lo) (key-alike lo) v.key (keys_of_run vs) (keys_of_run-rises vs)
        ∙ ap (λ b. cond b (insert cmp_key v.key (keep (above lo) (keys_of_run vs))) (keep (above lo) (keys_of_run vs))) e)
    go false e ih =
        ih
        ∙ sym (keep-insert cmp_key key-order (above lo) (key-alike lo) v.key (keys_of_run vs) (keys_of_run-rises vs)
        ∙ ap (λ b. cond b (insert cmp_key v.key (keep (above lo) (keys_of_run vs))) (keep (above lo) (keys_of_run vs))) e)

newest-kept : (lo : Bound) (k : Bytes) (r : ℕ) (vs : Run) → above lo k ≡ true → newest k r (keep (is_from lo) vs) ≡ newest k r vs
unfolding newest keep candidate
newest-kept lo k r [] a = refl
newest-kept lo k r (v ∷ vs) a = go (above lo v.key) refl (newest-kept lo k r vs a)
  where
    other : above lo v.key ≡ false → (b : Bool) → same_key k v.key ≡ b → b ≡ false
    other f true e = absurd (true≢false (sym a ∙ ap (above lo) (key-eq k v.key (is_same-eq (cmp_key k v.key) e)) ∙ f))
    other f false e = refl

    go : (b : Bool) → above lo v.key ≡ b → newest k r (keep (is_from lo) vs) ≡ newest k r vs → newest k r (cond b (v ∷ keep (is_from lo) vs) (keep (is_from lo) vs)) ≡ newest k r (v ∷ vs)
    go true e ih = ap (λ (w : Option Version). cond (candidate k r v) (newer v w) w) ih
    go false e ih = ih ∙ sym (simp (other e (same_key k v.key) refl))

-- above the lower bound, what is present up to the upper bound is what is within both
pub present-from : (lo hi : Bound) (r : ℕ) (vs : Run) → present [] (keep (is_from lo) vs) r unbounded hi ≡ present [] vs r lo hi
unfolding present keys_of within seen own_write above visible
present-from lo hi r vs =
    ap (λ (l : List Bytes). valued (λ k. visible k r (keep (is_from lo) vs)) (keep (below hi) l)) (keys_kept lo vs)
    ∙ valued_same (above lo) (λ k. visible k r (keep (is_from lo) vs)) (λ k. visible k r vs) (λ k a. ap value_of (newest-kept lo k r vs a)) (keep (below hi) (keep (above lo) (keys_of_run vs)))
    (all_keep (above lo) (below hi) (keep (above lo) (keys_of_run vs)) (all-kept (above lo) (keys_of_run vs)))
    ∙ ap (valued (λ k. visible k r vs)) (sym (keep-both (above lo) (below hi) (keys_of_run vs)))
