-- The write set against the keys of the overlay: each key's hash is looked up and its place in the set marked.
-- Assumes nothing.
use native.Mathlib.Omega.{arith}
use mathlib.Core.Path.{◌≡◌, refl, sym, ap, ◌∙◌}
use mathlib.Core.Bool.{Bool, true, false, not, cond, false≢true}
use mir.Val.{bool_byte}
use mathlib.Core.List.{List, [], ◌∷◌}
use Prim.Native.Nat.{ℕ, zero, suc, ◌+◌, ◌≤◌, compare}
use borrow.Author.Tests.{eqb-true, eqb-false, eq-eqb}
use lib.Dec.{eqb}
use lib.ListN.{length, get_or, set, replicate, length-set, length-replicate}
use lib.Seq.{get_or-set_same, get_or-set_other}
use Rattle.paper.specs.Lists.{rises, insert, among}
use Rattle.paper.specs.Keys.{Pair}
use Rattle.paper.specs.Hash.{hash_of}
use Rattle.paper.specs.Sound.{own_hashes, same_numbers}
use Rattle.paper.proofs.Order.{compare-order}
use Rattle.paper.proofs.Rising.{insert-rises}
use Rattle.paper.proofs.NumberSets.{insert-swap}
use Rattle.paper.proofs.RoomLaws.{insert-length}
use Rattle.sets.specs.Sets.{rank}
use Rattle.txn.proofs.Members.{numbers-eq, among-insert, at-rank, Inside, part_of, same_count}

-- the hashes that were found so far are a set s; each stands in w, and its place there is marked
pub record Hits (w s : List ℕ) (hits : List Bool) (count : ℕ) : Type 0 where
  pub counted : count ≡ length s
  pub rise : rises compare s ≡ true
  pub inside : Inside s w
  pub marks : (h : ℕ) → among h w ≡ true → get_or hits (rank h w) false ≡ among h s

hits-start : (w : List ℕ) (hits : List Bool) → ((i : ℕ) → get_or hits i false ≡ false) → Hits w [] hits 0
unfolding rises among
hits-start w hits z = record { counted = refl; rise = refl; inside = λ h e. absurd (false≢true e); marks = λ h e. z (rank h w) }

module _ (w s : List ℕ) (hits : List Bool) (count : ℕ) (H : Hits w s hits count) (r : rises compare w ≡ true) (l : length w ≤ length hits) (h i : ℕ) (a : among h w ≡ true) (e : i ≡ rank h w) where
  counted-more : (b : Bool) → among h s ≡ b → count + cond (get_or hits i false) 0 1 ≡ length (insert compare h s)
  counted-more b f =
      let m : get_or hits i false ≡ b = ap (λ (j : ℕ). get_or hits j false) e ∙ H.marks h a ∙ f in
      let n : length (insert compare h s) ≡ cond b (length s) (suc (length s)) = insert-length h s H.rise ∙ ap (λ (c : Bool). cond c (length s) (suc (length s))) f in
      ap (λ (c : Bool). count + cond c 0 1) m ∙ go b n
    where
      go : (b : Bool) → length (insert compare h s) ≡ cond b (length s) (suc (length s)) → count + cond b 0 1 ≡ length (insert compare h s)
      go true n = omega (arith, H.counted)
      go false n = omega (arith, H.counted)

  inside-more : Inside (insert compare h s) w
  inside-more x m = go (eqb x h) refl
    where
      go : (b : Bool) → eqb x h ≡ b → among x w ≡ true
      go true f = ap (λ (n : ℕ). among n w) (eqb-true x h f) ∙ a
      go false f = H.inside x (sym (among-insert x h s ∙ ap (λ (b : Bool). cond b true (among x s)) f) ∙ m)

  marks-more : (x : ℕ) → among x w ≡ true → get_or (set hits i true) (rank x w) false ≡ among x (insert compare h s)
  marks-more x m = go (eqb x h) refl
    where
      in_insert : (b : Bool) → eqb x h ≡ b → among x (insert compare h s) ≡ cond b true (among x s)
      in_insert b f = among-insert x h s ∙ ap (λ (c : Bool). cond c true (among x s)) f

      go : (b : Bool) → eqb x h ≡ b → get_or (set hits i true) (rank x w) false ≡ among x (insert compare h s)
      go true f =
          let q : rank x w ≡ i = ap (λ (n : ℕ). rank n w) (eqb-true x h f) ∙ sym e in
          let k = (at-rank h w r a).0 in
          ap (λ (j : ℕ). get_or (set hits i true) j false) q ∙ get_or-set_same hits i true false (omega arith) ∙ sym (in_insert true f)
      go false f =
          get_or-set_other hits i (rank x w) true false (λ q. eqb-false x h f (sym (at-rank x w r m).1 ∙ ap (λ (j : ℕ). get_or w j 0) (q ∙ e) ∙ (at-rank h w r a).1))
          ∙ H.marks x m ∙ sym (in_insert false f)

  hits_more : Hits w (insert compare h s) (set hits i true) (count + cond (get_or hits i false) 0 1)
  hits_more =
      record {
        counted = counted-more (among h s) refl;
        rise = insert-rises compare compare-order h s H.rise;
        inside = inside-more;
        marks = marks-more;
      }

-- what counts of a place: 1 where it is not marked yet
pub newly : (b : Bool) → bool_byte (not b) ≡ cond b 0 1
newly true = refl
newly false = refl

pub newly-few : (b : Bool) → bool_byte (not b) ≤ 1
newly-few true = omega arith
newly-few false = omega arith

-- ---- the hashes of some entries put into a set
abbrev pub onto : List ℕ → List Pair → List ℕ
onto s [] = s
onto s (p ∷ ps) = insert compare (hash_of p.key) (onto s ps)

onto-none : (own : List Pair) → own_hashes own ≡ onto [] own
unfolding own_hashes
onto-none [] = refl
onto-none (p ∷ ps) = ap (insert compare (hash_of p.key)) (onto-none ps)

onto-more : (h : ℕ) (s : List ℕ) (ps : List Pair) → insert compare h (onto s ps) ≡ onto (insert compare h s) ps
onto-more h s [] = refl
onto-more h s (p ∷ ps) = insert-swap h (hash_of p.key) (onto s ps) ∙ ap (insert compare (hash_of p.key)) (onto-more h s ps)

-- ---- the pass over the entries has come to those that are left
pub record Match (w all : List ℕ) (left : List Pair) (hits : List Bool) (count : ℕ) : Type 0 where
  pub found : List ℕ
  pub hit : Hits w found hits count
  pub same : all ≡ onto found left
  pub room : length hits ≡ 4096

-- at first no place is marked
none-marked : (n i : ℕ) → get_or {A = Bool} (replicate n false) i false ≡ false
none-marked zero i = refl
none-marked (suc n) zero = refl
none-marked (suc n) (suc i) = none-marked n i

pub match-start : (w : List ℕ) (own : List Pair) → Match w (own_hashes own) own (replicate 4096 false) 0
match-start w own =
    record { found = []; hit = hits-start w (replicate 4096 false) (none-marked 4096); same = onto-none own; room = length-replicate {A = Bool} 4096 false }

module _ (w : List ℕ) (r : rises compare w ≡ true) (all : List ℕ) (left : List Pair) (hits : List Bool) (count : ℕ) (M : Match w all left hits count) where
  -- no more places are marked than there are
  pub count-few : count ≤ length w
  count-few = omega (arith, M.hit.counted, (part_of w M.found r M.hit.rise M.hit.inside).0)

  pub match-end : left ≡ [] → eqb count (length w) ≡ same_numbers w all
  match-end l =
      let e : all ≡ M.found = M.same ∙ ap (onto M.found) l in
      ap (λ (n : ℕ). eqb n (length w)) M.hit.counted ∙ same_count w M.found r M.hit.rise M.hit.inside ∙ ap (same_numbers w) (sym e)

  module _ (p : Pair) (rest : List Pair) (l : left ≡ p ∷ rest) (h : ℕ) (e : h ≡ hash_of p.key) where
    all-is : all ≡ insert compare (hash_of p.key) (onto M.found rest)
    all-is = M.same ∙ ap (onto M.found) l

    -- a hash that is not in the set
    pub match-miss : among h w ≡ false → false ≡ same_numbers w all
    match-miss n = go (same_numbers w all) refl
      where
        there : among h all ≡ true
        there =
            ap (among h) all-is ∙ among-insert h (hash_of p.key) (onto M.found rest)
            ∙ ap (λ (b : Bool). cond b true (among h (onto M.found rest))) (eq-eqb h (hash_of p.key) e)

        go : (b : Bool) → same_numbers w all ≡ b → false ≡ same_numbers w all
        go true f = absurd (false≢true (sym n ∙ ap (among h) (numbers-eq w all f) ∙ there))
        go false f = sym f

    -- and one that is
    pub match-next : length w ≤ 4096 → (k : ℕ) → among h w ≡ true → k ≡ rank h w → Match w all rest (set hits k true) (count + cond (get_or hits k false) 0 1)
    match-next m k a q =
        record {
          found = insert compare h M.found;
          hit = hits_more w M.found hits count M.hit r (omega (arith, M.room)) h k a q;
          same = all-is ∙ ap (λ (n : ℕ). insert compare n (onto M.found rest)) (sym e) ∙ onto-more h M.found rest;
          room = length-set hits k true ∙ M.room;
        }
