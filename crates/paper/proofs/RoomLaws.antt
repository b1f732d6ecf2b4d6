-- Each room rule whose definition is not the paper's sentence itself, in the paper's words: there is no room exactly when ..
-- Assumes nothing.
use Prim.Native.Nat.{ℕ, suc, ◌+◌, ◌*◌, ◌≤◌, ◌<◌, compare, Ordering}
use native.Mathlib.Nat.{mul-le-mul_left}
use native.Mathlib.Omega.{arith}
use mathlib.Core.Path.{◌≡◌, refl, sym, ap, ◌∙◌}
use mathlib.Core.Bool.{Bool, true, false, ◌&&◌, cond, not, true≢false}
use mathlib.Core.List.{List, [], ◌∷◌}
use mathlib.Core.Option.{Option, none, some}
use lib.ListN.{length}
use lib.Dec.{leb, ltb, eqb}
use borrow.Author.Tests.{leb-true, leb-false, le-leb, lt-leb, lt-ltb, le-ltb, eq-eqb, ne_eqb, ltb-true}
use Rattle.paper.specs.Lists.{then_by, all, any, total, place, insert, insert_all, is_lt, is_same, among, rises, rises_from}
use Rattle.paper.specs.Keys.{Version, Pair, cmp_key, cmp_version, cmp_pair}
use Rattle.paper.specs.Runs.{Run, version_size, run_size}
use Rattle.paper.specs.Readers.{Row, row, cmp_row, sound_rows, readers_at, add_reader}
use Rattle.paper.specs.Settings.{Settings, granted, state_length}
use Rattle.paper.specs.Store.{Txn, Store, txns_of, set_add}
use Rattle.paper.specs.Sound.{is_set, is_hash}
use Rattle.paper.specs.Calls.{stamped}
use Rattle.paper.specs.Room.{place_free, set_fits, table_fits}
use Rattle.paper.proofs.Bools.{and_left, and_right, and_intro, is_lt-lt}
use Rattle.paper.proofs.Alls.{all-mono, all-insert_all}
use Rattle.paper.proofs.Order.{compare-order, compare_same, compare-lt, compare-eq, lt-compare}
use Rattle.paper.proofs.KeyOrder.{pair-order}
use Rattle.paper.proofs.Rising.{rises-of, rises_from-before}
use Rattle.paper.proofs.ReaderLaws.{row-order, readers_at-before}

-- ---- 'no transaction place free'
abbrev pub is_free : Option Txn → Bool
is_free none = true
is_free (some t) = false

taken-few : (ps : List (Option Txn)) → length (txns_of ps) ≤ length ps
unfolding txns_of
taken-few [] = omega arith
taken-few (none ∷ ps) = let h = taken-few ps in omega arith
taken-few (some t ∷ ps) = let h = taken-few ps in omega arith

free-exactly : (ps : List (Option Txn)) → ltb (length (txns_of ps)) (length ps) ≡ any is_free ps
unfolding txns_of any
free-exactly [] = refl
free-exactly (none ∷ ps) = let h = taken-few ps in lt-ltb (length (txns_of ps)) (suc (length ps)) (omega arith)
free-exactly (some t ∷ ps) = go (any is_free ps) refl (free-exactly ps)
  where
    go : (b : Bool) → any is_free ps ≡ b → ltb (length (txns_of ps)) (length ps) ≡ any is_free ps → ltb (suc (length (txns_of ps))) (suc (length ps)) ≡ any is_free ps
    go true e h = let l = ltb-true (length (txns_of ps)) (length ps) (h ∙ e) in lt-ltb (suc (length (txns_of ps))) (suc (length ps)) (omega arith) ∙ sym e
    go false e h = let l = leb-false (suc (length (txns_of ps))) (length ps) (h ∙ e) in le-ltb (suc (length (txns_of ps))) (suc (length ps)) (omega arith) ∙ sym e

-- with as many places as the settings say, there is room exactly if some place is free
pub place-exactly : (s : Store) → length s.places ≡ s.settings.transactions → place_free s ≡ any is_free s.places
place-exactly s e = ap (λ (n : ℕ). ltb (length (txns_of s.places)) n) (sym e) ∙ free-exactly s.places

-- ---- 'hash new and set full'
-- a number below all of a rising list is not in it
not-among : (h y : ℕ) (ys : List ℕ) → h < y → rises_from compare y ys ≡ true → among h (y ∷ ys) ≡ false
unfolding among rises_from
not-among h y [] l r = simp (ne_eqb h y (λ e. omega arith))
not-among h y (z ∷ zs) l r =
    let k = compare-lt y z (is_lt-lt (compare y z) (and_left (is_lt (compare y z)) (rises_from compare z zs) r)) in
    let further = not-among h z zs (omega arith) (and_right (is_lt (compare y z)) (rises_from compare z zs) r) in
    simp (ne_eqb h y (λ e. omega arith)) further

-- one more where it is new, and as many where it is not
pub insert-length : (h : ℕ) (set : List ℕ) → rises compare set ≡ true → length (insert compare h set) ≡ cond (among h set) (length set) (suc (length set))
unfolding rises insert among
insert-length h [] r = refl
insert-length h (y ∷ ys) r = go (insert-length h ys (rises-of compare compare-order y ys r)) (compare h y) refl
  where
    go : length (insert compare h ys) ≡ cond (among h ys) (length ys) (suc (length ys)) → (o : Ordering) → compare h y ≡ o
        → length (place o h y ys (insert compare h ys)) ≡ cond (among h (y ∷ ys)) (suc (length ys)) (suc (suc (length ys)))
    go ih Ordering.lt e = ap (λ (b : Bool). cond b (suc (length ys)) (suc (suc (length ys)))) (sym (not-among h y ys (compare-lt h y e) r))
    go ih Ordering.eq e = simp (eq-eqb h y (compare-eq h y e))
    go ih Ordering.gt e = simp (ne_eqb h y (λ q. apart q), ih) (lift (among h ys))
      where
        apart : h ≡ y → ⊥
        apart q =
            let f : compare h y ≡ Ordering.eq = ap (λ (n : ℕ). compare h n) (sym q) ∙ compare_same h in
            let z : ◌≡◌ {A = ℕ} 0 1 = cc in omega arith

        lift : (b : Bool) → suc (cond b (length ys) (suc (length ys))) ≡ cond b (suc (length ys)) (suc (suc (length ys)))
        lift true = refl
        lift false = refl

-- a count of one more is above the room exactly where it is new and the room is full
one_more : (b : Bool) (n room : ℕ) → n ≤ room → leb (cond b n (suc n)) room ≡ not (not b && leb room n)
one_more true n room h = le-leb n room h
one_more false n room h = go (leb room n) refl
  where
    go : (c : Bool) → leb room n ≡ c → leb (suc n) room ≡ not c
    go true e = let l = leb-true room n e in lt-leb (suc n) room (omega arith)
    go false e = let l = leb-false room n e in le-leb (suc n) room (omega arith)

-- a set within its room: no room exactly if the hash is new and the set is full; in the other mode there is always room
pub set-exactly : (room h : ℕ) (set : List ℕ) → is_set set ≡ true → length set ≤ room
    → set_fits room (set_add true h set) ≡ not (not (among h set) && leb room (length set))
unfolding set_add is_set
set-exactly room h set s n =
    ap (λ (m : ℕ). leb m room) (insert-length h set (and_left (rises compare set) (all is_hash set) s))
    ∙ one_more (among h set) (length set) room n

-- ---- 'a reader table full for a new timestamp'
-- a timestamp before all of the rows has no reader
before-all : (t : ℕ) (y : Row) (ys : List Row) → t < y.time → rises_from cmp_row y ys ≡ true → readers_at t (y ∷ ys) ≡ 0
unfolding readers_at
before-all t y ys l r = simp (ne_eqb t y.time (λ e. omega arith)) (readers_at-before t y ys (omega arith) r)

pub add-length : (t n : ℕ) (rows : List Row) → rises cmp_row rows ≡ true → all (λ r. ltb 0 r.count) rows ≡ true
    → length (insert cmp_row (row t n) rows) ≡ cond (eqb (readers_at t rows) 0) (suc (length rows)) (length rows)
unfolding rises insert readers_at all cmp_row
add-length t n [] r c = refl
add-length t n (y ∷ ys) r c =
    go (add-length t n ys (rises-of cmp_row row-order y ys r) (and_right (ltb 0 y.count) (all (λ w. ltb 0 w.count) ys) c)) (compare t y.time) refl
  where
    positive : 0 < y.count
    positive = ltb-true 0 y.count (and_left (ltb 0 y.count) (all (λ w. ltb 0 w.count) ys) c)

    go : length (insert cmp_row (row t n) ys) ≡ cond (eqb (readers_at t ys) 0) (suc (length ys)) (length ys) → (o : Ordering) → compare t y.time ≡ o
        → length (place o (row t n) y ys (insert cmp_row (row t n) ys)) ≡ cond (eqb (readers_at t (y ∷ ys)) 0) (suc (suc (length ys))) (suc (length ys))
    go ih Ordering.lt e =
        ap (λ (m : ℕ). cond (eqb m 0) (suc (suc (length ys))) (suc (length ys))) (sym (before-all t y ys (compare-lt t y.time e) r))
    go ih Ordering.eq e = simp (eq-eqb t y.time (compare-eq t y.time e), ne_eqb y.count 0 (λ z. omega (arith, positive)))
    go ih Ordering.gt e = simp (ne_eqb t y.time apart, ih) (lift (eqb (readers_at t ys) 0))
      where
        apart : t ≡ y.time → ⊥
        apart q =
            let f : compare t y.time ≡ Ordering.eq = ap (compare t) (sym q) ∙ compare_same t in
            let z : ◌≡◌ {A = ℕ} 0 1 = cc in omega arith

        lift : (b : Bool) → suc (cond b (suc (length ys)) (length ys)) ≡ cond b (suc (suc (length ys))) (suc (length ys))
        lift true = refl
        lift false = refl

turned-cond : (b : Bool) (x y : ℕ) → cond b x y ≡ cond (not b) y x
turned-cond true x y = refl
turned-cond false x y = refl

not-not : (b : Bool) → not (not b) ≡ b
not-not true = refl
not-not false = refl

-- a sound table: no room exactly if the timestamp has no reader yet and the rows are as many as there may be
pub table-exactly : (room : ℕ) (rows : List Row) (t : ℕ) → sound_rows room rows ≡ true → table_fits room rows t ≡ not (eqb (readers_at t rows) 0 && leb room (length rows))
unfolding sound_rows add_reader
table-exactly room rows t s =
    let n = leb-true (length rows) room (and_left (leb (length rows) room) (rises cmp_row rows && all (λ r. ltb 0 r.count) rows) s) in
    let q = and_right (leb (length rows) room) (rises cmp_row rows && all (λ r. ltb 0 r.count) rows) s in
    let l = add-length t (readers_at t rows + 1) rows (and_left (rises cmp_row rows) (all (λ r. ltb 0 r.count) rows) q) (and_right (rises cmp_row rows) (all (λ r. ltb 0 r.count) rows) q) in
    ap (λ (m : ℕ). leb m room) (l ∙ turned-cond (eqb (readers_at t rows) 0) (suc (length rows)) (length rows))
    ∙ one_more (not (eqb (readers_at t rows) 0)) (length rows) room n
    ∙ ap (λ (b : Bool). not (b && leb room (length rows))) (not-not (eqb (readers_at t rows) 0))

-- ---- the state's length
-- 'at most 65,536 bytes plus twice the room the settings grant'
pub length-allowed : (s : Settings) → state_length s ≤ 65_536 + 2 * granted s
unfolding state_length granted
length-allowed s =
    let t : ℕ = s.transactions in
    let p : t * (64 + s.overlay_bytes + 4 * (s.read_hashes + s.write_hashes)) ≤ t * (256 + s.overlay_bytes + 4 * (s.read_hashes + s.write_hashes)) = mul-le-mul_left t (omega arith) in
    omega arith

-- ---- 'active run (12 bytes plus key and value for each version)': a commit takes room for each entry of its overlay, and gives none back
-- a version put into a run that has none of its key and timestamp
insert-size : (v : Version) (r : Run) → all (λ w. not (is_same (cmp_version v w))) r ≡ true → run_size (insert cmp_version v r) ≡ version_size v + run_size r
unfolding all insert run_size total
insert-size v [] a = refl
insert-size v (w ∷ ws) a = go (insert-size v ws (and_right (not (is_same (cmp_version v w))) (all (λ u. not (is_same (cmp_version v u))) ws) a)) (cmp_version v w) refl
  where
    go : total version_size (insert cmp_version v ws) ≡ version_size v + total version_size ws → (o : Ordering) → cmp_version v w ≡ o
        → total version_size (place o v w ws (insert cmp_version v ws)) ≡ version_size v + (version_size w + total version_size ws)
    go ih Ordering.lt e = refl
    go ih Ordering.eq e =
        let n : not (is_same (cmp_version v w)) ≡ true = and_left (not (is_same (cmp_version v w))) (all (λ u. not (is_same (cmp_version v u))) ws) a in
        let m : not (is_same (cmp_version v w)) ≡ false = ap (λ o. not (is_same o)) e in
        let z : ◌≡◌ {A = Bool} true false = sym n ∙ m in
        absurd (true≢false z)
    go ih Ordering.gt e = omega arith

-- versions of another timestamp, or of another key, are not the same
other-time : (v w : Version) → w.time < v.time → not (is_same (cmp_version v w)) ≡ true
unfolding cmp_version
other-time v w l = go (cmp_key v.key w.key)
  where
    go : (o : Ordering) → not (is_same (then_by o (compare w.time v.time))) ≡ true
    go Ordering.lt = refl
    go Ordering.eq = ap (λ o. not (is_same o)) (lt-compare w.time v.time l)
    go Ordering.gt = refl

other_key : (v w : Version) → cmp_key v.key w.key ≡ Ordering.lt → not (is_same (cmp_version v w)) ≡ true
unfolding cmp_version
other_key v w e = ap (λ o. not (is_same (then_by o (compare w.time v.time)))) e

stamped-apart : (n : ℕ) (p : Pair) (ps : List Pair) → rises_from cmp_pair p ps ≡ true
    → all (λ w. not (is_same (cmp_version (record { key = p.key; time = n; value = p.value }) w))) (stamped n ps) ≡ true
unfolding rises_from stamped all cmp_pair
stamped-apart n p [] r = refl
stamped-apart n p (q ∷ qs) r =
    let l = is_lt-lt (cmp_pair p q) (and_left (is_lt (cmp_pair p q)) (rises_from cmp_pair q qs) r) in
    and_intro (other_key (record { key = p.key; time = n; value = p.value }) (record { key = q.key; time = n; value = q.value }) l)
    (stamped-apart n p qs (rises_from-before cmp_pair pair-order p q qs l (and_right (is_lt (cmp_pair p q)) (rises_from cmp_pair q qs) r)))

older-apart : (n : ℕ) (v : Version) (r : Run) → v.time ≡ n → all (λ w. ltb w.time n) r ≡ true → all (λ w. not (is_same (cmp_version v w))) r ≡ true
older-apart n v r e = all-mono (λ w. ltb w.time n) (λ w. not (is_same (cmp_version v w))) (λ w h. other-time v w (omega (arith, ltb-true w.time n h))) r

-- own writes at a new number n, over a run whose versions are older
pub active-grows : (n : ℕ) (own : List Pair) (active : Run) → rises cmp_pair own ≡ true → all (λ w. ltb w.time n) active ≡ true
    → run_size (insert_all cmp_version (stamped n own) active) ≡ total (λ p. 12 + length p.key + length p.value) own + run_size active
unfolding stamped insert_all total version_size
active-grows n [] active r a = omega arith
active-grows n (p ∷ ps) active r a =
    insert-size v (insert_all cmp_version (stamped n ps) active)
    (all-insert_all (λ w. not (is_same (cmp_version v w))) cmp_version (stamped n ps) active (stamped-apart n p ps (unfold rises in r)) (older-apart n v active refl a))
    ∙ more (active-grows n ps active (rises-of cmp_pair pair-order p ps (unfold rises in r)) a)
  where
    v : Version
    v = record { key = p.key; time = n; value = p.value }

    more : run_size (insert_all cmp_version (stamped n ps) active) ≡ total (λ q. 12 + length q.key + length q.value) ps + run_size active
        → 12 + length p.key + length p.value + run_size (insert_all cmp_version (stamped n ps) active)
        ≡ (12 + length p.key + length p.value) + total (λ q. 12 + length q.key + length q.value) ps + run_size active
    more h = omega (arith, h)
