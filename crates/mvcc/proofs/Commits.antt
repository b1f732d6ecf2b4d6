-- The laws of commits in bytes: what is read off the front of some bytes, how a commit and a history are written, and that each is read back.
-- Assumes nothing.
use Prim.Native.Nat.{ℕ, ◌+◌, ◌*◌, ◌-◌, ◌%◌, ◌^◌, ◌≤◌, ◌<◌}
use native.Mathlib.Omega.{arith}
use mathlib.Core.Path.{◌≡◌, refl, sym, ap, ap₂, ◌∙◌}
use mathlib.Core.Bool.{Bool, true, false}
use mathlib.Core.List.{List, [], ◌∷◌, ◌++◌, append_assoc, append-nil}
use mathlib.Core.Option.{Option, none, some}
use lib.ListN.{length, take, drop, length-drop}
use lib.Seq.{drop-drop, length-take-le}
use lib.Dec.{leb, lit<}
use borrow.Author.Tests.{leb-true, leb-false, le-leb, lt-leb}
use Rattle.paper.specs.Keys.{Bytes}
use Rattle.paper.specs.Image.{big_endian, number_from, bytes, number, after, give}
use Rattle.paper.specs.History.{Commit, make_commit}
use Rattle.raw.specs.Bytes.{part}
use Rattle.layout.specs.Codec.{num, both, via, lift, sized, many, put_all}
use Rattle.layout.specs.Layout.{hashes, commit_stream}
use Rattle.sets.specs.Sets.{hashes_of}
use Rattle.sets.proofs.Hashes.{number-there, number_cut, front-hashes, parse-hashes, parse-odd}
use Rattle.mvcc.specs.Histories.{history_bytes}
use Rattle.layout.proofs.Streams.{Below, StreamLaws, WholeLaws, All, num_laws, both-laws, via-laws, sized-laws, many-laws}

-- ---- what is read off the front of some bytes

bytes-there : (n : ℕ) (b : Bytes) → n ≤ length b → bytes n b ≡ some (take n b, drop n b)
unfolding bytes
bytes-there n b h = simp (le-leb n (length b) h)

bytes_cut : (n : ℕ) (b : Bytes) → length b < n → bytes n b ≡ none
unfolding bytes
bytes_cut n b h = simp (lt-leb n (length b) h)

-- fewer than 16 bytes
pub head-cut : (b : Bytes) → length b < 16 → commit_stream.get b ≡ none
unfolding commit_stream via both sized num
head-cut b h = go (leb 8 (length b)) refl
  where
    go : (t : Bool) → leb 8 (length b) ≡ t → commit_stream.get b ≡ none
    go true e =
        let l : 8 ≤ length b = leb-true 8 (length b) e in
        let k : length (drop 8 b) < 8 = rw length-drop (omega arith) in
        rw (number-there 8 b l, number_cut 8 (drop 8 b) k)
    go false e = rw (number_cut 8 b (leb-false 8 (length b) e))

-- the hashes that some bytes are, and the commit with number n that they make
abbrev made : Option (Bytes × Bytes) → Option (List ℕ × Bytes)
made o = after o (λ x. lift (hashes.parse x))

abbrev commit : ℕ → Option (List ℕ × Bytes) → Option (Commit × Bytes)
commit n o = after {A = ℕ × List ℕ} (after {B = ℕ × List ℕ} o (λ hs. give (n, hs))) (λ p. give (make_commit p.0 p.1))

-- what follows number n and size m
abbrev behind : ℕ → ℕ → Bytes → Option (Commit × Bytes)
behind n m t = commit n (made (bytes m t))

head-there : (b : Bytes) → 16 ≤ length b → commit_stream.get b ≡ behind (number_from 0 (take 8 b)) (number_from 0 (part b 8 8)) (drop 16 b)
unfolding commit_stream via both sized num
head-there b h =
    let l : 8 ≤ length b = omega arith in
    let k : 8 ≤ length (drop 8 b) = rw length-drop (omega arith) in
    rw (number-there 8 b l, number-there 8 (drop 8 b) k)
    (ap (λ (t : Bytes). behind (number_from 0 (take 8 b)) (number_from 0 (part b 8 8)) t) (drop-drop 8 8 b))

module _ (b : Bytes) (h : 16 ≤ length b) (m : ℕ) (e : m ≡ number_from 0 (part b 8 8)) where
  there : commit_stream.get b ≡ behind (number_from 0 (take 8 b)) m (drop 16 b)
  there = head-there b h ∙ ap (λ (k : ℕ). behind (number_from 0 (take 8 b)) k (drop 16 b)) (sym e)

  -- the size goes past the end
  pub body-cut : length b - 16 < m → commit_stream.get b ≡ none
  body-cut l = there ∙ ap (λ (o : Option (Bytes × Bytes)). commit (number_from 0 (take 8 b)) (made o)) (bytes_cut m (drop 16 b) (rw length-drop l))

  module _ (l : m ≤ length b - 16) where
    body-there : commit_stream.get b ≡ commit (number_from 0 (take 8 b)) (lift (hashes.parse (take m (drop 16 b))) (drop m (drop 16 b)))
    body-there = there ∙ ap (λ (o : Option (Bytes × Bytes)). commit (number_from 0 (take 8 b)) (made o)) (bytes-there m (drop 16 b) (rw length-drop l))

    long : length (take m (drop 16 b)) ≡ m
    long = length-take-le m (drop 16 b) (rw length-drop l)

    -- the size is that of no hashes
    pub body-odd : (m % 4 ≡ 0 → ⊥) → commit_stream.get b ≡ none
    body-odd n =
        body-there ∙ ap (λ (o : Option (List ℕ)). commit (number_from 0 (take 8 b)) (lift o (drop m (drop 16 b))))
        (parse-odd (take m (drop 16 b)) (λ z. n (ap (λ (k : ℕ). k % 4) (sym long) ∙ z)))

    -- a commit
    pub body-whole : (count : ℕ) → m ≡ 4 * count → commit_stream.get b ≡ some (make_commit (number_from 0 (take 8 b)) (hashes_of count (drop 16 b)), drop (16 + m) b)
    body-whole count f =
        body-there
        ∙ ap (λ (o : Option (List ℕ)). commit (number_from 0 (take 8 b)) (lift o (drop m (drop 16 b))))
        (parse-hashes count (take m (drop 16 b)) (long ∙ f))
        ∙ ap₂ (λ (hs : List ℕ) (r : Bytes). some (make_commit (number_from 0 (take 8 b)) hs, r)) (front-hashes count (drop 16 b) m (omega arith)) (drop-drop m 16 b)

-- ---- how they are written

pub commit-put : (number : ℕ) (hs : List ℕ) → commit_stream.put (make_commit number hs) ≡ big_endian 8 number ++ (big_endian 8 (length (hashes.form hs)) ++ hashes.form hs)
unfolding commit_stream via both sized num
commit-put number hs = refl

pub history-cons : (c : Commit) (cs : List Commit) → history_bytes (c ∷ cs) ≡ commit_stream.put c ++ history_bytes cs
unfolding many put_all
history-cons c cs = refl

pub history-last : (cs : List Commit) (c : Commit) → history_bytes (cs ++ (c ∷ [])) ≡ history_bytes cs ++ commit_stream.put c
unfolding many put_all
history-last [] c = append-nil (commit_stream.put c)
history-last (d ∷ cs) c =
    ap (λ (t : Bytes). commit_stream.put d ++ t) (history-last cs c) ∙ sym (append_assoc (commit_stream.put d) (put_all commit_stream cs) (commit_stream.put c))

-- ---- read back

-- numbers and hashes that fit their fields
abbrev pub OkCommit : Commit → Type 0
OkCommit c = (c.number < 256 ^ 8) × (All (Below 4) c.hashes × (length (hashes.form c.hashes) < 256 ^ 8))

hash-laws : WholeLaws hashes (All (Below 4))
hash-laws = many-laws (num_laws 4 (lit< tt))

pub commit-laws : StreamLaws commit_stream OkCommit
unfolding commit_stream
commit-laws =
    via-laws (both-laws (num_laws 8 (lit< tt)) (sized-laws 8 (lit< tt) hash-laws)) (λ p. make_commit p.0 p.1) (λ c. (c.number, c.hashes)) (λ a. refl) (λ c. refl)

pub history-laws : WholeLaws (many commit_stream) (All OkCommit)
history-laws = many-laws commit-laws
