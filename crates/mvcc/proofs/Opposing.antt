-- Who is in the way of a commit: one commit of the history, and the first of them.
-- Assumes nothing.
use Prim.Native.Nat.{ℕ, zero, suc, ◌+◌, ◌≤◌, ◌<◌, compare}
use native.Mathlib.Omega.{arith}
use mathlib.Core.Path.{◌≡◌, refl, sym, ap, ap₂, ◌∙◌, subst}
use mathlib.Core.Bool.{Bool, true, false, cond, ◌&&◌}
use mathlib.Core.List.{List, [], ◌∷◌, map}
use mathlib.Core.Option.{Option, none, some}
use lib.Dec.{ltb}
use borrow.Author.Tests.{lt-ltb, le-ltb}
use denote.Param.Members.{Mut, Called}
use Rattle.std.specs.Prelude.{Option as Answer, Some, None}
use Rattle.std.specs.Option.{MatchOption, IfSome, IsSomeAnd}
use Rattle.std.specs.List.{slice_get}
use Rattle.std.specs.Bool.{IsTrue}
use Rattle.std.specs.Iterator.{AlwaysYields, Yields}
use Rattle.std.specs.Iterator.Runs.{SomeRun, YieldsRun, AllItemsGive, IsFirstToGive}
use Rattle.std.proofs.lemmas.Iterator.{YieldsList, items_from_drains}
use Rattle.paper.specs.Lists.{first, is_some, all, rises}
use Rattle.paper.specs.History.{Commit, make_commit, Opponent, shared, opposes, facing, opponent}
use Rattle.paper.specs.Sound.{is_set, is_hash}
use Rattle.paper.proofs.Bools.{and_left}
use Rattle.paper.proofs.Alls.{all_head, all_tail}
use Rattle.sets.proofs.Sharing.{in_both, both-swap}
use Rattle.mvcc.specs.Histories.{opposition_of, opponent_of}
use Rattle.mvcc.specs.declared.Conflict.{Conflict}

-- answers that say the same are the same
same_some : (a b : Opponent) → some a ≡ some b → a ≡ b
same_some a b e = cc

pub opposed-same : (a b : Answer Conflict) → opponent_of a ≡ opponent_of b → a ≡ b
opposed-same (Some a) (Some b) e =
    let f = same_some (record { number = a.number; hash = a.hash }) (record { number = b.number; hash = b.hash }) e in
    ap₂ (λ (m h : ℕ). Some (record { number = m; hash = h })) (ap (λ (o : Opponent). o.number) f) (ap (λ (o : Opponent). o.hash) f)
opposed-same (Some a) None e = cc
opposed-same None (Some b) e = cc
opposed-same None None e = refl

-- ---- one commit

pub opposed : (read number : ℕ) (reads hs : List ℕ) → read < number → facing (make_commit number hs) (in_both hs reads) ≡ opposition_of read reads (make_commit number hs)
unfolding opposition_of
opposed read number reads hs h = sym (ap (λ (b : Bool). cond b (facing (make_commit number hs) (in_both hs reads)) none) (lt-ltb read number h))

pub unopposed : (read number : ℕ) (reads hs : List ℕ) → number ≤ read → none ≡ opposition_of read reads (make_commit number hs)
unfolding opposition_of
unopposed read number reads hs h = sym (ap (λ (b : Bool). cond b (facing (make_commit number hs) (in_both hs reads)) none) (le-ltb read number h))

-- ---- the first of them

abbrev pub or_else : Option Opponent → Option Opponent → Option Opponent
or_else none p = p
or_else (some o) p = some o

-- the first commit that is one
abbrev pub first_found : (Commit → Option Opponent) → List Commit → Option Opponent
first_found h [] = none
first_found h (c ∷ cs) = or_else (h c) (first_found h cs)

-- the commit's own hashes and the read set may change places, since both rise
pub opponent-is : (read : ℕ) (reads : List ℕ) → rises compare reads ≡ true → (cs : List Commit) → all (λ c. is_set c.hashes) cs ≡ true → first_found (opposition_of read reads) cs ≡ opponent read reads cs
unfolding opponent opposition_of opposes shared is_set
opponent-is read reads r [] a = refl
opponent-is read reads r (c ∷ cs) a =
    ap (or_else (opposition_of read reads c)) (opponent-is read reads r cs (all_tail (λ d. is_set d.hashes) c cs a)) ∙ at_first (all_head (λ d. is_set d.hashes) c cs a)
  where
    at_first : is_set c.hashes ≡ true → or_else (opposition_of read reads c) (opponent read reads cs) ≡ cond (opposes read reads c) (facing c (first (shared reads c))) (opponent read reads cs)
    at_first s =
        ap (λ (o : Option ℕ). or_else (cond (ltb read c.number) (facing c o) none) (opponent read reads cs)) (both-swap c.hashes reads (and_left (rises compare c.hashes) (all is_hash c.hashes) s) r)
        ∙ go (ltb read c.number) (first (shared reads c))
      where
        go : (b : Bool) (o : Option ℕ) → or_else (cond b (facing c o) none) (opponent read reads cs) ≡ cond (b && is_some o) (facing c o) (opponent read reads cs)
        go true none = refl
        go true (some h) = refl
        go false o = refl

-- ---- the search over the entries

module _ {S A F : Type 0} (steps : S → Answer A → S → Type 0) (view : A → Commit) (g : Mut F (A × Unit {0}) (Answer Conflict)) (h : Commit → Option Opponent) (f : F)
    (acts : (x : A) (r : Answer Conflict) (q : F) → Called g f (x, tt) r q → (q ≡ f) × (opponent_of r ≡ h (view x))) where
  -- at one that is none
  passed : (x : A) (cs : List Commit) → Called g f (x, tt) None f → first_found h (view x ∷ cs) ≡ first_found h cs
  passed x cs k = ap (λ (o : Option Opponent). or_else o (first_found h cs)) (sym (acts x None f k).1)

  none_found : (xs : List A) → ((k : ℕ) → IfSome (slice_get xs k) (λ x. Called g f (x, tt) None f)) → first_found h (map view xs) ≡ none
  none_found [] e = refl
  none_found (x ∷ xs) e = passed x (map view xs) (e 0) ∙ none_found xs (λ k. e (suc k))

  one_found : (xs : List A) (cs : List Commit) (s t : S) (i : ℕ) (y : Conflict) → AlwaysYields steps view s cs → Yields steps s xs t → IsSomeAnd (slice_get xs i) (λ x. Called g f (x, tt) (Some y) f)
      → ((k : ℕ) → k < i → IsSomeAnd (slice_get xs k) (λ x. Called g f (x, tt) None f)) → opponent_of (Some y) ≡ first_found h cs
  one_found [] cs s t i y a w hit e = absurd hit
  one_found (x ∷ xs) [] s t i y a w hit e = absurd (a x w.0 w.1)
  one_found (x ∷ xs) (c ∷ cs) s t zero y a w hit e =
      ap (λ (o : Option Opponent). or_else o (first_found h cs)) ((acts x (Some y) f hit).1 ∙ ap h (a.1 x w.0 w.1).0)
  one_found (x ∷ xs) (c ∷ cs) s t (suc i) y a w hit e =
      let b = a.1 x w.0 w.1 in
      one_found xs cs w.0 t i y b.1 w.2 hit (λ k l. e (suc k) (omega arith))
      ∙ sym (passed x cs (e 0 (omega arith))) ∙ ap (λ (d : Commit). first_found h (d ∷ cs)) b.0

  pub found : (s : S) (cs : List Commit) (r : Answer Conflict)
      → SomeRun steps s (λ p. MatchOption r (IsTrue p.whole × AllItemsGive p g f None) (λ y. (i : ℕ) × (i < p.len) × (p.len ≡ i + 1) × IsFirstToGive p g f (Some y) None i))
      → YieldsList steps view s cs → opponent_of r ≡ first_found h cs
  unfolding YieldsRun
  found s cs None p l =
      let run = p.0 in
      let all_none = p.2.1 (λ a r q k. (acts a.0 r q k).0) in
      let gave = run.gave in
      let m : YieldsList steps view run.from cs = subst (λ (t : S). YieldsList steps view t cs) (sym p.1) l in
      sym (ap (first_found h) (sym (items_from_drains run.items (gave.0.0, gave.0.1, λ w. gave.0.2 p.2.0) m))
      ∙ none_found run.items (λ k. subst (λ (o : Answer A). IfSome o (λ x. Called g f (x, tt) None f)) (gave.1 k) (all_none k)))
  found s cs (Some y) p l =
      let run = p.0 in
      let i : ℕ = p.2.0 in
      let one = p.2.3 (λ a r q k. (acts a.0 r q k).0) in
      let gave = run.gave in
      let m : YieldsList steps view run.from cs = subst (λ (t : S). YieldsList steps view t cs) (sym p.1) l in
      one_found run.items cs run.from gave.0.0 i y m.runs gave.0.1
      (subst (λ (o : Answer A). IsSomeAnd o (λ x. Called g f (x, tt) (Some y) f)) (gave.1 i) one.0)
      (λ k n. subst (λ (o : Answer A). IsSomeAnd o (λ x. Called g f (x, tt) None f)) (gave.1 k) (one.1 k n))
