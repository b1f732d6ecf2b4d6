-- The entry in front of some bytes, and a history as its first entry and the history behind it.
-- Assumes nothing.
use Prim.Native.Nat.{ℕ, zero, suc, ◌+◌, ◌*◌, ◌-◌, ◌/◌, ◌%◌, ◌≤◌, ◌<◌}
use native.Mathlib.Omega.{arith}
use native.Mathlib.Nat.{not-suc-le-zero}
use mathlib.Core.Path.{◌≡◌, refl, sym, ap, ap₂, ◌∙◌}
use mathlib.Core.Bool.{Bool, true, false}
use mathlib.Core.List.{List, [], ◌∷◌}
use mathlib.Core.Option.{Option, none, some}
use lib.ListN.{length, take, drop, length-drop}
use lib.Seq.{length-take-le, drop-drop}
use lib.Dec.{leb, eqb}
use borrow.Author.Tests.{leb-true, leb-false, eqb-true, eqb-false}
use Rattle.std.specs.Option.{MatchOption}
use Rattle.std.specs.Bool.{then_some}
use Rattle.paper.specs.Lists.{all, is_some, total, rises}
use Rattle.paper.specs.Keys.{Bytes, octets}
use Rattle.paper.specs.Image.{number_from}
use Rattle.paper.specs.History.{Commit, make_commit, cmp_commit}
use Rattle.paper.specs.Store.{hash_count}
use Rattle.paper.specs.Sound.{is_set}
use Rattle.paper.proofs.Bools.{and_left, and_right}
use Rattle.raw.specs.Bytes.{part}
use Rattle.raw.proofs.Parts.{part-take}
use Rattle.layout.specs.Codec.{many, get_all, further, cons_of}
use Rattle.layout.specs.Layout.{commit_stream}
use Rattle.layout.proofs.Streams.{Formed, All}
use Rattle.sets.specs.Sets.{hashes_of, set_hashes}
use Rattle.sets.proofs.Hashes.{length-hashes, front-hashes}
use Rattle.mvcc.specs.Histories.{history_read, or_empty, history_in, in_order, is_history, history_bytes}
use Rattle.mvcc.proofs.Commits.{head-cut, body-cut, body-odd, body-whole, OkCommit, history-laws}

-- a value that is told where a test passes
pub told : {V : Type 0} (b : Bool) (v : V) (P : Type 0) (Q : V → Type 0) → (b ≡ false → P) → (b ≡ true → Q v) → MatchOption (then_some b v) P Q
told true v P Q f g = g refl
told false v P Q f g = f refl

-- ---- the entry in front

module _ (b : Bytes) (h : 16 ≤ length b) (m : ℕ) (e : m ≡ number_from 0 (part b 8 8)) where
  -- with its number, and its hashes as the m bytes behind its head
  pub entry-there : m ≤ length b - 16 → m % 4 ≡ 0 → commit_stream.get b ≡ some (make_commit (number_from 0 (take 8 b)) (set_hashes (take m (drop 16 b))), drop m (drop 16 b))
  entry-there l z =
      let count : ℕ = m / 4 in
      let f : m ≡ 4 * count = omega arith in
      let n : length (take m (drop 16 b)) ≡ m = length-take-le m (drop 16 b) (rw length-drop l) in
      let k : length (take m (drop 16 b)) / 4 ≡ count = ap (λ (i : ℕ). i / 4) n in
      let hs : set_hashes (take m (drop 16 b)) ≡ hashes_of count (drop 16 b) =
      ap (λ (i : ℕ). hashes_of i (take m (drop 16 b))) k ∙ front-hashes count (drop 16 b) m (omega arith) in
      body-whole b h m e l count f
      ∙ ap₂ (λ (x : List ℕ) (r : Bytes). some (make_commit (number_from 0 (take 8 b)) x, r)) (sym hs) (sym (drop-drop m 16 b))

-- the same where its head is cut off first
module _ (b head rest : Bytes) (l : 16 ≤ length b) (h : head ≡ take 16 b) (r : rest ≡ drop 16 b) (size : ℕ) (e : size ≡ number_from 0 (part head 8 8)) where
  size_is : size ≡ number_from 0 (part b 8 8)
  size_is = e ∙ ap (λ (t : Bytes). number_from 0 (part t 8 8)) h ∙ ap (number_from 0) (part-take b 16 8 8 (omega arith))

  rest-long : length rest ≡ length b - 16
  rest-long = ap length r ∙ length-drop 16 b

  pub split-long : length rest < size → commit_stream.get b ≡ none
  split-long k = let n = rest-long in body-cut b l size size_is (omega arith)

  pub split-odd : size ≤ length rest → (size % 4 ≡ 0 → ⊥) → commit_stream.get b ≡ none
  split-odd k z = let n = rest-long in body-odd b l size size_is (omega arith) z

  pub split-whole : size ≤ length rest → size % 4 ≡ 0 → (number : ℕ) → number ≡ number_from 0 (part head 0 8) → (hashes behind : Bytes) → hashes ≡ take size rest → behind ≡ drop size rest
      → commit_stream.get b ≡ some (make_commit number (set_hashes hashes), behind)
  split-whole k z number f hashes behind i j =
      let n = rest-long in
      let g : number_from 0 (take 8 b) ≡ number = sym (f ∙ ap (λ (t : Bytes). number_from 0 (part t 0 8)) h ∙ ap (number_from 0) (part-take b 16 0 8 (omega arith))) in
      let p : take size (drop 16 b) ≡ hashes = sym (i ∙ ap (take size) r) in
      let q : drop size (drop 16 b) ≡ behind = sym (j ∙ ap (drop size) r) in
      entry-there b l size size_is (omega arith) z
      ∙ ap₂ (λ (c : Commit) (t : Bytes). some (c, t)) (ap₂ (λ (m : ℕ) (t : Bytes). make_commit m (set_hashes t)) g p) q

-- how long it is, and what is behind it
pub record Front (b : Bytes) (c : Commit) (r : Bytes) : Type 0 where
  pub long : length b ≡ 16 + 4 * length c.hashes + length r
  pub behind : r ≡ drop (16 + 4 * length c.hashes) b

same_some : {A : Type 0} (a b : A) → some a ≡ some b → a ≡ b
same_some a b e = cc

module _ (b : Bytes) (c : Commit) (r : Bytes) (e : commit_stream.get b ≡ some (c, r)) where
  abbrev size : ℕ
  size = number_from 0 (part b 8 8)

  whole : 16 ≤ length b → size ≤ length b - 16 → size % 4 ≡ 0 → Front b c r
  whole h l z =
      let count : ℕ = size / 4 in
      let f : size ≡ 4 * count = omega arith in
      let p = same_some _ _ (sym (body-whole b h size refl l count f) ∙ e) in
      let n : count ≡ length c.hashes = sym (length-hashes count (drop 16 b)) ∙ ap (λ (x : Commit × Bytes). length x.0.hashes) p in
      let q : drop (16 + size) b ≡ r = ap (λ (x : Commit × Bytes). x.1) p in
      let i : 16 + size ≡ 16 + 4 * length c.hashes = omega arith in
      let k : length (drop (16 + size) b) ≡ length b - (16 + size) = length-drop (16 + size) b in
      let g : length (drop (16 + size) b) ≡ length r = ap length q in
      record { long = omega arith; behind = sym q ∙ ap (λ (j : ℕ). drop j b) i }

  by_size : 16 ≤ length b → size ≤ length b - 16 → (t : Bool) → eqb (size % 4) 0 ≡ t → Front b c r
  by_size h l true f = whole h l (eqb-true (size % 4) 0 f)
  by_size h l false f = absurd (let g = sym (body-odd b h size refl l (eqb-false (size % 4) 0 f)) ∙ e in let z : ◌≡◌ {A = ℕ} 0 1 = cc in omega arith)

  by_room : 16 ≤ length b → (t : Bool) → leb size (length b - 16) ≡ t → Front b c r
  by_room h true f = by_size h (leb-true size (length b - 16) f) (eqb (size % 4) 0) refl
  by_room h false f = absurd (let g = sym (body-cut b h size refl (leb-false size (length b - 16) f)) ∙ e in let z : ◌≡◌ {A = ℕ} 0 1 = cc in omega arith)

  by_head : (t : Bool) → leb 16 (length b) ≡ t → Front b c r
  by_head true f = by_room (leb-true 16 (length b) f) (leb size (length b - 16)) refl
  by_head false f = absurd (let g = sym (head-cut b (leb-false 16 (length b) f)) ∙ e in let z : ◌≡◌ {A = ℕ} 0 1 = cc in omega arith)

  pub front : Front b c r
  front = by_head (leb 16 (length b)) refl

-- ---- a history as its first entry and what is behind

nothing_left : (n : ℕ) → get_all commit_stream n [] ≡ some []
unfolding get_all
nothing_left zero = refl
nothing_left (suc n) = refl

-- it does not matter how many entries are tried, if they are enough
enough : (n m : ℕ) (b : Bytes) → length b ≤ n → length b ≤ m → get_all commit_stream n b ≡ get_all commit_stream m b
unfolding get_all
enough n m [] h k = nothing_left n ∙ sym (nothing_left m)
enough zero m (x ∷ b) h k = absurd (omega arith)
enough (suc n) zero (x ∷ b) h k = absurd (omega arith)
enough (suc n) (suc m) (x ∷ b) h k = go (commit_stream.get (x ∷ b)) refl (λ r. enough n m r)
  where
    go : (q : Option (Commit × Bytes)) → commit_stream.get (x ∷ b) ≡ q → ((r : Bytes) → length r ≤ n → length r ≤ m → get_all commit_stream n r ≡ get_all commit_stream m r)
        → further (λ r. get_all commit_stream n r) q ≡ further (λ r. get_all commit_stream m r) q
    go none e ih = refl
    go (some p) e ih =
        let f = front (x ∷ b) p.0 p.1 e in
        ap (cons_of (some p.0)) (ih p.1 (omega (arith, f.long)) (omega (arith, f.long)))

pub history-empty : history_read [] ≡ some []
unfolding many
history-empty = nothing_left 0

pub history-step : (b : Bytes) (c : Commit) (r : Bytes) → commit_stream.get b ≡ some (c, r) → history_read b ≡ cons_of (some c) (history_read r)
unfolding many get_all
history-step [] c r e = let f = front [] c r e in absurd (omega (arith, f.long))
history-step (x ∷ b) c r e =
    let f = front (x ∷ b) c r e in
    ap (further (λ t. get_all commit_stream (length b) t)) e ∙ ap (cons_of (some c)) (enough (length b) (length r) r (omega (arith, f.long)) (omega arith))

pub history_cut : (b : Bytes) → 0 < length b → commit_stream.get b ≡ none → history_read b ≡ none
unfolding many get_all
history_cut [] h e = absurd (not-suc-le-zero h)
history_cut (x ∷ b) h e = ap (further (λ t. get_all commit_stream (length b) t)) e

-- where no entry is in front, a history ends
pub history-end : (b : Bytes) (cs : List Commit) → history_read b ≡ some cs → commit_stream.get b ≡ none → (length b ≡ 0) × (cs ≡ [])
history-end [] cs e f = (refl, same_some cs [] (sym e ∙ history-empty))
history-end (x ∷ b) cs e f = absurd (let g = sym e ∙ history_cut (x ∷ b) (omega arith) f in let z : ◌≡◌ {A = ℕ} 0 1 = cc in omega arith)

-- and an entry in front is its first
pub record Step (c : Commit) (r : Bytes) (cs : List Commit) : Type 0 where
  pub rest : List Commit
  pub is : cs ≡ c ∷ rest
  pub on : history_read r ≡ some rest

pub history-on : (b : Bytes) (cs : List Commit) (c : Commit) (r : Bytes) → history_read b ≡ some cs → commit_stream.get b ≡ some (c, r) → Step c r cs
history-on b cs c r e f = go (history_read r) refl (sym e ∙ history-step b c r f)
  where
    go : (o : Option (List Commit)) → history_read r ≡ o → some cs ≡ cons_of (some c) o → Step c r cs
    go none g h = absurd (let z : ◌≡◌ {A = ℕ} 0 1 = cc in omega arith)
    go (some ds) g h = record { rest = ds; is = same_some cs (c ∷ ds) h; on = g }

-- bytes that read, read as the history in them
pub reads_in : (b : Bytes) → is_some (history_read b) ≡ true → history_read b ≡ some (history_in b)
unfolding history_in
reads_in b = go (history_read b)
  where
    go : (o : Option (List Commit)) → is_some o ≡ true → o ≡ some (or_empty o)
    go none e = absurd (let z : ◌≡◌ {A = ℕ} 0 1 = cc in omega arith)
    go (some cs) e = refl

pub history-is : (b : Bytes) (cs : List Commit) → history_read b ≡ some cs → history_in b ≡ cs
unfolding history_in
history-is b cs e = ap or_empty e

-- the same of the history in some bytes: its end, its first entry, and that what is behind reads
pub in-end : (b : Bytes) → is_some (history_read b) ≡ true → commit_stream.get b ≡ none → history_in b ≡ []
in-end b h f = (history-end b (history_in b) (reads_in b h) f).1

pub in-on : (b : Bytes) (c : Commit) (r : Bytes) → is_some (history_read b) ≡ true → commit_stream.get b ≡ some (c, r) → history_in b ≡ c ∷ history_in r
in-on b c r h f = let s = history-on b (history_in b) c r (reads_in b h) f in s.is ∙ ap (λ (cs : List Commit). c ∷ cs) (sym (history-is r s.rest s.on))

pub still-reads : (b : Bytes) (c : Commit) (r : Bytes) → is_some (history_read b) ≡ true → commit_stream.get b ≡ some (c, r) → is_some (history_read r) ≡ true
still-reads b c r h f = ap is_some (history-on b (history_in b) c r (reads_in b h) f).on

same_parts : {c d : Commit} {cs ds : List Commit} → d ∷ ds ≡ c ∷ cs → (d ≡ c) × (ds ≡ cs)
same_parts e = (cc, cc)

-- how many bytes it takes
pub history-size : (cs : List Commit) (b : Bytes) → history_read b ≡ some cs → length b ≡ 16 * length cs + 4 * hash_count cs
unfolding hash_count total
history-size [] b e = go (commit_stream.get b) refl
  where
    go : (o : Option (Commit × Bytes)) → commit_stream.get b ≡ o → length b ≡ 16 * 0 + 4 * 0
    go none f = omega (arith, (history-end b [] e f).0)
    go (some p) f = let s = history-on b [] p.0 p.1 e f in absurd (let t = s.is in let z : ◌≡◌ {A = ℕ} 0 1 = cc in omega arith)
history-size (d ∷ ds) b e = go (commit_stream.get b) refl (λ r. history-size ds r)
  where
    go : (o : Option (Commit × Bytes)) → commit_stream.get b ≡ o → ((r : Bytes) → history_read r ≡ some ds → length r ≡ 16 * length ds + 4 * hash_count ds)
        → length b ≡ 16 * suc (length ds) + 4 * (length d.hashes + hash_count ds)
    go none f ih = absurd (let t = (history-end b (d ∷ ds) e f).1 in let z : ◌≡◌ {A = ℕ} 0 1 = cc in omega arith)
    go (some p) f ih =
        let s = history-on b (d ∷ ds) p.0 p.1 e f in
        let q = same_parts s.is in
        let g = front b p.0 p.1 f in
        let l = ih p.1 (s.on ∙ ap some (sym q.1)) in
        let h : length p.0.hashes ≡ length d.hashes = ap (λ (x : Commit). length x.hashes) (sym q.0) in
        omega (arith, g.long)

-- the bytes of what was read
pub bytes-of : (b : Bytes) → octets b ≡ true → is_some (history_read b) ≡ true → b ≡ history_bytes (history_in b)
bytes-of b o h = go (history_read b) (history-laws.again b o) (reads_in b h)
  where
    go : (q : Option (List Commit)) → Formed history_bytes (All OkCommit) b q → q ≡ some (history_in b) → b ≡ history_bytes (history_in b)
    go none f e = absurd (let z : ◌≡◌ {A = ℕ} 0 1 = cc in omega arith)
    go (some cs) f e = f.0 ∙ ap (λ (ds : List Commit). history_bytes ds) (same_some cs (history_in b) e)

-- ---- what a history in order says

pub record Ordered (b : Bytes) : Type 0 where
  pub reads : is_some (history_read b) ≡ true
  pub rise : rises cmp_commit (history_in b) ≡ true
  pub sets : all (λ c. is_set c.hashes) (history_in b) ≡ true

pub ordered : (b : Bytes) → is_history b ≡ true → Ordered b
unfolding is_history history_in
ordered b = go (history_read b) refl
  where
    go : (q : Option (List Commit)) → history_read b ≡ q → in_order q ≡ true → Ordered b
    go none e h = absurd (let z : ◌≡◌ {A = ℕ} 0 1 = cc in omega arith)
    go (some cs) e h =
        record {
          reads = ap is_some e;
          rise = ap (λ (q : Option (List Commit)). rises cmp_commit (or_empty q)) e ∙ and_left (rises cmp_commit cs) (all (λ c. is_set c.hashes) cs) h;
          sets = ap (λ (q : Option (List Commit)). all (λ c. is_set c.hashes) (or_empty q)) e ∙ and_right (rises cmp_commit cs) (all (λ c. is_set c.hashes) cs) h;
        }
