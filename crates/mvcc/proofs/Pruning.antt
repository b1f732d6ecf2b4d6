-- What leaves a history and what stays: pruning a rising history leaves a suffix of it; the walk to its start, and how much it is.
-- Assumes nothing.
use Prim.Native.Nat.{ℕ, ◌+◌, ◌*◌, ◌-◌, ◌≤◌, ◌<◌, compare}
use native.Mathlib.Omega.{arith}
use mathlib.Core.Path.{◌≡◌, refl, sym, ap, ap₂, ◌∙◌}
use mathlib.Core.Bool.{Bool, true, false, ◌&&◌}
use mathlib.Core.List.{List, [], ◌∷◌, ◌++◌}
use mathlib.Core.Option.{none, some}
use lib.ListN.{length, drop, replicate, length-append, length-drop, length-replicate}
use lib.Seq.{drop-drop}
use lib.Dec.{leb, ltb}
use borrow.Author.Tests.{leb-true, leb-false, le-leb, lt-leb, lt-ltb, le-ltb}
use Rattle.paper.specs.Lists.{keep, is_lt, is_some, total, rises_from, rises}
use Rattle.paper.specs.Keys.{Bytes}
use Rattle.paper.specs.History.{Commit, make_commit, cmp_commit, prune}
use Rattle.paper.specs.Store.{hash_count}
use Rattle.paper.specs.Room.{history_fits}
use Rattle.paper.proofs.Bools.{and_left, and_right, is_lt-lt}
use Rattle.paper.proofs.Order.{IsOrder, compare-order, compare-lt, through-order}
use Rattle.paper.proofs.Rising.{rises-of}
use Rattle.layout.specs.Layout.{commit_stream}
use Rattle.mvcc.specs.Histories.{history_read, history_in, is_history, limits, CutAt}
use Rattle.mvcc.proofs.Reading.{Step, front, history-on, history-end, reads_in, history-is, history-size, ordered}

-- ---- what stays is a suffix

commit-order : IsOrder cmp_commit
unfolding cmp_commit
commit-order = through-order compare compare-order (λ c. c.number)

rises-head : (c d : Commit) (cs : List Commit) → rises_from cmp_commit c (d ∷ cs) ≡ true → c.number < d.number
unfolding rises_from cmp_commit
rises-head c d cs h = compare-lt c.number d.number (is_lt-lt (compare c.number d.number) (and_left (is_lt (compare c.number d.number)) (rises_from cmp_commit d cs) h))

rises-tail : (c d : Commit) (cs : List Commit) → rises_from cmp_commit c (d ∷ cs) ≡ true → rises_from cmp_commit d cs ≡ true
unfolding rises_from
rises-tail c d cs h = and_right (is_lt (cmp_commit c d)) (rises_from cmp_commit d cs) h

-- from a commit at or above the watermark on nothing leaves
pub prune-none : (w : ℕ) (c : Commit) (cs : List Commit) → w ≤ c.number → rises_from cmp_commit c cs ≡ true → prune w (c ∷ cs) ≡ c ∷ cs
unfolding prune keep
prune-none w c [] l r = simp (le-leb w c.number l)
prune-none w c (d ∷ cs) l r =
    let k = rises-head c d cs r in
    simp (le-leb w c.number l) (ap (λ (t : List Commit). c ∷ t) (prune-none w d cs (omega arith) (rises-tail c d cs r)))

pub prune-below : (w : ℕ) (c : Commit) (cs : List Commit) → c.number < w → prune w (c ∷ cs) ≡ prune w cs
unfolding prune keep
prune-below w c cs l = simp (lt-leb w c.number l)

-- those strictly below the watermark
abbrev pub gone : ℕ → List Commit → List Commit
gone w cs = keep (λ c. ltb c.number w) cs

none-gone : (w : ℕ) (c : Commit) (cs : List Commit) → w ≤ c.number → rises_from cmp_commit c cs ≡ true → gone w (c ∷ cs) ≡ []
unfolding keep
none-gone w c [] l r = simp (le-ltb c.number w l)
none-gone w c (d ∷ cs) l r = let k = rises-head c d cs r in simp (le-ltb c.number w l) (none-gone w d cs (omega arith) (rises-tail c d cs r))

-- a rising history is what leaves and then what stays
pub prune-suffix : (w : ℕ) (cs : List Commit) → rises cmp_commit cs ≡ true → cs ≡ gone w cs ++ prune w cs
unfolding rises prune keep
prune-suffix w [] r = refl
prune-suffix w (c ∷ cs) r = go (leb w c.number) refl (prune-suffix w cs (rises-of cmp_commit commit-order c cs r))
  where
    go : (b : Bool) → leb w c.number ≡ b → cs ≡ gone w cs ++ prune w cs → c ∷ cs ≡ gone w (c ∷ cs) ++ prune w (c ∷ cs)
    go true e ih =
        let l = leb-true w c.number e in
        sym (ap₂ (λ (x y : List Commit). x ++ y) (none-gone w c cs l r) (prune-none w c cs l r))
    go false e ih =
        let l = leb-false w c.number e in
        ap (λ (t : List Commit). c ∷ t) ih ∙ sym (ap₂ (λ (x y : List Commit). x ++ y) (first-gone l) (prune-below w c cs l))
      where
        first-gone : c.number < w → gone w (c ∷ cs) ≡ c ∷ gone w cs
        first-gone l = simp (lt-ltb c.number w l)

-- ---- the walk to what stays

-- the entries that are left begin in the history, and what stays of the history is what stays of them
pub record Cutting (history : Bytes) (watermark : ℕ) (left : Bytes) : Type 0 where
  pub cs : List Commit
  pub short : length left ≤ length history
  pub here : left ≡ drop (length history - length left) history
  pub reads : history_read left ≡ some cs
  pub rise : rises cmp_commit cs ≡ true
  pub same : prune watermark (history_in history) ≡ prune watermark cs

pub cut-start : (history : Bytes) (watermark : ℕ) → is_history history ≡ true → Cutting history watermark history
cut-start history watermark i =
    let d = ordered history i in
    let e : 0 ≡ length history - length history = omega arith in
    record {
      cs = history_in history;
      short = omega arith;
      here = ap (λ (k : ℕ). drop k history) e;
      reads = reads_in history d.reads;
      rise = d.rise;
      same = refl;
    }

module _ {history : Bytes} {watermark : ℕ} {left : Bytes} (C : Cutting history watermark left) where
  -- where nothing more leaves
  cut-here : C.cs ≡ prune watermark C.cs → CutAt history watermark (length history - length left)
  cut-here e = record { to = omega arith; stays = ap history_read (sym C.here) ∙ C.reads ∙ ap some (e ∙ sym C.same) }

  pub cut-end : commit_stream.get left ≡ none → CutAt history watermark (length history - length left)
  unfolding prune keep
  cut-end f = let e : C.cs ≡ [] = (history-end left C.cs C.reads f).1 in cut-here (e ∙ sym (ap (prune watermark) e))

  module _ (c : Commit) (behind : Bytes) (f : commit_stream.get left ≡ some (c, behind)) where
    step : Step c behind C.cs
    step = history-on left C.cs c behind C.reads f

    rise-here : rises cmp_commit (c ∷ step.rest) ≡ true
    rise-here = ap (rises cmp_commit) (sym step.is) ∙ C.rise

    pub cut-stop : watermark ≤ c.number → CutAt history watermark (length history - length left)
    unfolding rises
    cut-stop l = cut-here (step.is ∙ sym (ap (prune watermark) step.is ∙ prune-none watermark c step.rest l rise-here))

    pub cut_on : c.number < watermark → Cutting history watermark behind
    unfolding rises
    cut_on l =
        let g = front left c behind f in
        let n = g.long in
        let s = C.short in
        let k : length history - length left + (16 + 4 * length c.hashes) ≡ length history - length behind = omega arith in
        record {
          cs = step.rest;
          short = omega arith;
          here = g.behind ∙ ap (drop (16 + 4 * length c.hashes)) C.here ∙ drop-drop (16 + 4 * length c.hashes) (length history - length left) history ∙ ap (λ (j : ℕ). drop j history) k;
          reads = step.on;
          rise = rises-of cmp_commit commit-order c step.rest rise-here;
          same = C.same ∙ ap (prune watermark) step.is ∙ prune-below watermark c step.rest l;
        }

-- ---- what a cut leaves is what pruning leaves

pub cut-reads : {history : Bytes} {w cut : ℕ} → CutAt history w cut → is_some (history_read (drop cut history)) ≡ true
cut-reads C = ap is_some C.stays

pub cut-history : {history : Bytes} {w cut : ℕ} → CutAt history w cut → history_in (drop cut history) ≡ prune w (history_in history)
cut-history {history} {w} {cut} C = history-is (drop cut history) (prune w (history_in history)) C.stays

-- there is one such place
pub cut-same : {history : Bytes} {w a b : ℕ} → CutAt history w a → CutAt history w b → a ≡ b
cut-same {history} {w} {a} {b} A B =
    let cs : List Commit = prune w (history_in history) in
    let m = history-size cs (drop a history) A.stays in
    let n = history-size cs (drop b history) B.stays in
    let i = length-drop a history in
    let j = length-drop b history in
    let p = A.to in
    let q = B.to in
    omega arith

-- ---- whether there is room for one more

total-append : (xs ys : List Commit) → hash_count (xs ++ ys) ≡ hash_count xs + hash_count ys
unfolding hash_count total
total-append [] ys = omega arith
total-append (x ∷ xs) ys = omega (arith, total-append xs ys)

-- one answer holds of every entry with so many hashes
pub fits-same : (a b : Bool) (kept : List Commit) (entries hashes count : ℕ) → ((c : Commit) → length c.hashes ≡ count → a ≡ history_fits (limits entries hashes) (kept ++ (c ∷ [])))
    → ((c : Commit) → length c.hashes ≡ count → b ≡ history_fits (limits entries hashes) (kept ++ (c ∷ []))) → a ≡ b
fits-same a b kept entries hashes count f g =
    let c : Commit = make_commit 0 (replicate count 0) in
    let e : length c.hashes ≡ count = length-replicate count 0 in
    f c e ∙ sym (g c e)

module _ (kept : List Commit) {m n : ℕ} (em : m ≡ length kept) (en : n ≡ hash_count kept) (entries hashes count : ℕ) where
  fit : (c : Commit) → length c.hashes ≡ count → history_fits (limits entries hashes) (kept ++ (c ∷ [])) ≡ leb (m + 1) entries && leb (n + count) hashes
  unfolding hash_count total
  fit c e =
      let i : length (kept ++ (c ∷ [])) ≡ m + 1 = length-append kept (c ∷ []) ∙ omega arith in
      let j : hash_count (kept ++ (c ∷ [])) ≡ n + count = total-append kept (c ∷ []) ∙ omega arith in
      ap₂ (λ (x y : ℕ). leb x entries && leb y hashes) i j

  pub no-entry : entries ≤ m → (c : Commit) → length c.hashes ≡ count → false ≡ history_fits (limits entries hashes) (kept ++ (c ∷ []))
  no-entry h c e = sym (fit c e ∙ ap (λ (b : Bool). b && leb (n + count) hashes) (lt-leb (m + 1) entries (omega arith)))

  both : m < entries → (c : Commit) → length c.hashes ≡ count → history_fits (limits entries hashes) (kept ++ (c ∷ [])) ≡ leb (n + count) hashes
  both h c e = fit c e ∙ ap (λ (b : Bool). b && leb (n + count) hashes) (le-leb (m + 1) entries (omega arith))

  pub no-hash : m < entries → hashes < n → (c : Commit) → length c.hashes ≡ count → false ≡ history_fits (limits entries hashes) (kept ++ (c ∷ []))
  no-hash h k c e = sym (both h c e ∙ lt-leb (n + count) hashes (omega arith))

  pub the_rest : m < entries → n ≤ hashes → (c : Commit) → length c.hashes ≡ count → leb count (hashes - n) ≡ history_fits (limits entries hashes) (kept ++ (c ∷ []))
  the_rest h k c e = sym (both h c e ∙ go (leb count (hashes - n)) refl)
    where
      go : (b : Bool) → leb count (hashes - n) ≡ b → leb (n + count) hashes ≡ leb count (hashes - n)
      go true f = le-leb (n + count) hashes (omega (arith, leb-true count (hashes - n) f)) ∙ sym f
      go false f = lt-leb (n + count) hashes (omega (arith, leb-false count (hashes - n) f)) ∙ sym f
