-- The check of a history entry by entry: the rules of the entries from a place on are those of the first of them and those of the others.
-- Assumes nothing.
use Prim.Native.Nat.{ℕ, zero, suc, ◌+◌, ◌-◌, ◌≤◌, ◌<◌, compare}
use native.Mathlib.Omega.{arith}
use mathlib.Core.Path.{◌≡◌, refl, sym, ap, ap₂, ◌∙◌}
use mathlib.Core.Bool.{Bool, true, false, cond, ◌&&◌}
use mathlib.Core.List.{List, [], ◌∷◌}
use mathlib.Core.Option.{Option, none, some}
use lib.ListN.{length, get_or}
use lib.Dec.{leb, ltb}
use borrow.Author.Tests.{le-leb, lt-leb, leb-true, leb-false}
use Rattle.std.specs.Prelude.{Option as Answer, Some, None}
use Rattle.std.specs.Option.{MatchOption}
use Rattle.paper.specs.Lists.{is_lt, all, total, rises_from, rises, hold_all}
use Rattle.paper.specs.Keys.{Bytes}
use Rattle.paper.specs.History.{Commit, make_commit, cmp_commit}
use Rattle.paper.specs.Store.{hash_count}
use Rattle.paper.specs.Sound.{is_set, sound_commit, history_rules}
use Rattle.paper.proofs.Bools.{and_intro}
use Rattle.raw.proofs.Comparing.{less-than}
use Rattle.layout.specs.Codec.{cons_of}
use Rattle.layout.specs.Layout.{commit_stream}
use Rattle.mvcc.specs.Histories.{history_read, sound_read, follows, left_rules, left_behind, left_after}
use Rattle.mvcc.specs.declared.Left.{Left}
use Rattle.mvcc.proofs.Reading.{history-empty, history-step, history_cut}

-- ---- lists of rules

and_no : (a x : Bool) → x ≡ false → a && x ≡ false
and_no true x f = f
and_no false x f = refl

rule-out : (n : ℕ) (l : List Bool) → get_or l n true ≡ false → hold_all l ≡ false
unfolding hold_all
rule-out n [] e = e
rule-out zero (b ∷ bs) e = ap (λ x. x && hold_all bs) e
rule-out (suc n) (b ∷ bs) e = and_no b (hold_all bs) (rule-out n bs e)

-- pairs of rules: both of each hold where all the first and all the second hold
abbrev joined : List (Bool × Bool) → List Bool
joined [] = []
joined (p ∷ ps) = (p.0 && p.1) ∷ joined ps

abbrev firsts : List (Bool × Bool) → List Bool
firsts [] = []
firsts (p ∷ ps) = p.0 ∷ firsts ps

abbrev seconds : List (Bool × Bool) → List Bool
seconds [] = []
seconds (p ∷ ps) = p.1 ∷ seconds ps

mixed : (a b x y : Bool) → (a && b) && (x && y) ≡ (a && x) && (b && y)
mixed true true true y = refl
mixed true true false y = refl
mixed true false true y = refl
mixed true false false y = refl
mixed false b x y = refl

pairs-hold : (ps : List (Bool × Bool)) → hold_all (joined ps) ≡ hold_all (firsts ps) && hold_all (seconds ps)
unfolding hold_all
pairs-hold [] = refl
pairs-hold (p ∷ ps) = ap (λ (b : Bool). (p.0 && p.1) && b) (pairs-hold ps) ∙ mixed p.0 p.1 (hold_all (firsts ps)) (hold_all (seconds ps))

-- ---- the rules of an entry and those of the others

and-true : (a : Bool) → a ≡ a && true
and-true true = refl
and-true false = refl

-- only the number of the commit before counts
same_number : (c : Commit) (cs : List Commit) → rises_from cmp_commit c cs ≡ rises_from cmp_commit (make_commit c.number []) cs
unfolding rises_from cmp_commit
same_number c [] = refl
same_number c (d ∷ cs) = refl

follow-on : (last : Answer ℕ) (c : Commit) (cs : List Commit) → follows last (c ∷ cs) ≡ follows last (c ∷ []) && follows (Some c.number) cs
unfolding rises rises_from
follow-on None c cs = same_number c cs
follow-on (Some n) c cs = ap₂ (λ (a b : Bool). a && b) (and-true (is_lt (cmp_commit (make_commit n []) c))) (same_number c cs)

sound-on : (clock : ℕ) (c : Commit) (cs : List Commit) → all (sound_commit clock) (c ∷ cs) ≡ all (sound_commit clock) (c ∷ []) && all (sound_commit clock) cs
unfolding all
sound-on clock c cs = ap (λ (a : Bool). a && all (sound_commit clock) cs) (and-true (sound_commit clock c))

less-on : (n m k : ℕ) → leb (n + m) k ≡ leb n k && leb m (k - n)
less-on n m k = go (leb n k) (leb m (k - n)) refl refl
  where
    go : (a b : Bool) → leb n k ≡ a → leb m (k - n) ≡ b → leb (n + m) k ≡ a && b
    go true true e f = le-leb (n + m) k (omega (arith, leb-true n k e, leb-true m (k - n) f))
    go true false e f = lt-leb (n + m) k (omega (arith, leb-true n k e, leb-false m (k - n) f))
    go false b e f = lt-leb (n + m) k (omega (arith, leb-false n k e))

entries-on : (c : Commit) (cs : List Commit) (k : ℕ) → leb (length (c ∷ cs)) k ≡ leb (length (c ∷ [])) k && leb (length cs) (k - 1)
entries-on c cs k = let e : suc (length cs) ≡ 1 + length cs = omega arith in ap (λ (n : ℕ). leb n k) e ∙ less-on 1 (length cs) k

hashes-on : (c : Commit) (cs : List Commit) (k : ℕ) → leb (hash_count (c ∷ cs)) k ≡ leb (hash_count (c ∷ [])) k && leb (hash_count cs) (k - length c.hashes)
unfolding hash_count total
hashes-on c cs k =
    let e : length c.hashes ≡ length c.hashes + 0 = omega arith in
    less-on (length c.hashes) (hash_count cs) k ∙ ap (λ (n : ℕ). leb n k && leb (hash_count cs) (k - length c.hashes)) e

rules-on : (l : Left) (clock : ℕ) (c : Commit) (cs : List Commit)
    → hold_all (left_rules l clock (c ∷ cs)) ≡ hold_all (left_rules l clock (c ∷ [])) && hold_all (left_rules (left_behind l c) clock cs)
unfolding left_rules
rules-on l clock c cs =
    let m : Left = left_behind l c in
    ap hold_all (four (follow-on l.last c cs) (sound-on clock c cs) (entries-on c cs l.entries) (hashes-on c cs l.hashes))
    ∙ pairs-hold
    ((follows l.last (c ∷ []), follows m.last cs) ∷ (all (sound_commit clock) (c ∷ []), all (sound_commit clock) cs)
    ∷ (leb (length (c ∷ [])) l.entries, leb (length cs) m.entries) ∷ (leb (hash_count (c ∷ [])) l.hashes, leb (hash_count cs) m.hashes) ∷ [])
  where
    four : {a b c d w x y z : Bool} → a ≡ w → b ≡ x → c ≡ y → d ≡ z → a ∷ b ∷ c ∷ d ∷ [] ≡ w ∷ x ∷ y ∷ z ∷ []
    four e f g h = cc

-- ---- what is left to read

abbrev pub left_read : Left → ℕ → Option (List Commit) → Bool
left_read l clock none = false
left_read l clock (some cs) = hold_all (left_rules l clock cs)

abbrev pub all_left : ℕ → ℕ → Left
all_left entries hashes = record { last = None; entries = entries; hashes = hashes }

read-start : (entries hashes clock : ℕ) (o : Option (List Commit)) → sound_read entries hashes clock o ≡ left_read (all_left entries hashes) clock o
unfolding left_rules history_rules
read-start entries hashes clock none = refl
read-start entries hashes clock (some cs) = refl

read-on : (l : Left) (clock : ℕ) (c : Commit) (o : Option (List Commit))
    → left_read l clock (cons_of (some c) o) ≡ hold_all (left_rules l clock (c ∷ [])) && left_read (left_behind l c) clock o
read-on l clock c none = go (hold_all (left_rules l clock (c ∷ [])))
  where
    go : (b : Bool) → false ≡ b && false
    go true = refl
    go false = refl
read-on l clock c (some cs) = rules-on l clock c cs

read_none : (l : Left) (clock : ℕ) → left_read l clock (some []) ≡ true
unfolding left_rules hold_all rises rises_from all hash_count total
read_none l clock = and_intro (go l.last) (and_intro refl (and_intro (le-leb 0 l.entries (omega arith)) (and_intro (le-leb 0 l.hashes (omega arith)) refl)))
  where
    go : (o : Answer ℕ) → follows o [] ≡ true
    go None = refl
    go (Some n) = refl

-- ---- the tests of an entry
module _ (l : Left) (clock : ℕ) (c : Commit) where
  abbrev one : Bool
  one = hold_all (left_rules l clock (c ∷ []))

  -- 'history strictly rising': the one test of its number
  pub follow-test : (last : Answer ℕ) (r : Bool) → MatchOption last (r ≡ true) (λ n. r ≡ ltb n c.number) → r ≡ follows last (c ∷ [])
  unfolding rises rises_from cmp_commit
  follow-test None r e = e
  follow-test (Some n) r e = e ∙ less-than n c.number ∙ and-true (is_lt (compare n c.number))

  refuse : one ≡ false → None ≡ left_after l clock c
  unfolding left_after
  refuse e = sym (ap (λ (b : Bool). cond b (Some (left_behind l c)) None) e)

  pub out-of-turn : follows l.last (c ∷ []) ≡ false → None ≡ left_after l clock c
  unfolding left_rules
  out-of-turn e = refuse (rule-out 0 (left_rules l clock (c ∷ [])) e)

  unsound : sound_commit clock c ≡ false → None ≡ left_after l clock c
  unfolding left_rules all
  unsound e = refuse (rule-out 1 (left_rules l clock (c ∷ [])) (ap (λ (t : Bool). t && true) e))

  pub too_late : clock < c.number → None ≡ left_after l clock c
  unfolding sound_commit
  too_late h = unsound (ap (λ (t : Bool). t && is_set c.hashes) (lt-leb c.number clock h))

  pub no-set : is_set c.hashes ≡ false → None ≡ left_after l clock c
  unfolding sound_commit
  no-set e = unsound (and_no (leb c.number clock) (is_set c.hashes) e)

  pub too_many : (1 ≤ l.entries → ⊥) → None ≡ left_after l clock c
  unfolding left_rules
  too_many h = refuse (rule-out 2 (left_rules l clock (c ∷ [])) (lt-leb 1 l.entries (omega arith)))

  pub too_large : (length c.hashes ≤ l.hashes → ⊥) → None ≡ left_after l clock c
  unfolding left_rules hash_count total
  too_large h = refuse (rule-out 3 (left_rules l clock (c ∷ [])) (lt-leb (length c.hashes + 0) l.hashes (omega arith)))

  pub in-turn : follows l.last (c ∷ []) ≡ true → c.number ≤ clock → is_set c.hashes ≡ true → 1 ≤ l.entries → length c.hashes ≤ l.hashes → Some (left_behind l c) ≡ left_after l clock c
  unfolding left_after left_rules hold_all all sound_commit hash_count total
  in-turn f n s m k =
      sym (ap (λ (b : Bool). cond b (Some (left_behind l c)) None)
      (and_intro f
      (and_intro (and_intro (and_intro (le-leb c.number clock n) s) refl)
      (and_intro (le-leb 1 l.entries m) (and_intro (le-leb (length c.hashes + 0) l.hashes (omega arith)) refl)))))

same_left : (a b : Left) → Some a ≡ Some b → a ≡ b
same_left a b e = cc

-- what is left says whether the commit keeps the rules
kept : (l : Left) (clock : ℕ) (c : Commit) (m : Left) → Some m ≡ left_after l clock c → (hold_all (left_rules l clock (c ∷ [])) ≡ true) × (m ≡ left_behind l c)
unfolding left_after
kept l clock c m = go (hold_all (left_rules l clock (c ∷ [])))
  where
    go : (b : Bool) → Some m ≡ cond b (Some (left_behind l c)) None → (b ≡ true) × (m ≡ left_behind l c)
    go true e = (refl, same_left m (left_behind l c) e)
    go false e = absurd (let z : ◌≡◌ {A = ℕ} 0 1 = cc in omega arith)

not-kept : (l : Left) (clock : ℕ) (c : Commit) → None ≡ left_after l clock c → hold_all (left_rules l clock (c ∷ [])) ≡ false
unfolding left_after
not-kept l clock c = go (hold_all (left_rules l clock (c ∷ [])))
  where
    go : (b : Bool) → None ≡ cond b (Some (left_behind l c)) None → b ≡ false
    go true e = absurd (let z : ◌≡◌ {A = ℕ} 0 1 = cc in omega arith)
    go false e = refl

-- ---- the pass: the history keeps the rules where the entries that are left keep what is left of them

abbrev pub Checking : Bytes → ℕ → ℕ → ℕ → Bytes → Left → Type 0
Checking history clock entries hashes rest l = sound_read entries hashes clock (history_read history) ≡ left_read l clock (history_read rest)

pub check-start : (history : Bytes) (clock entries hashes : ℕ) → Checking history clock entries hashes history (all_left entries hashes)
check-start history clock entries hashes = read-start entries hashes clock (history_read history)

module _ (history : Bytes) (clock entries hashes : ℕ) (rest : Bytes) (l : Left) (C : Checking history clock entries hashes rest l) where
  pub check-end : length rest ≡ 0 → true ≡ sound_read entries hashes clock (history_read history)
  check-end e = sym (C ∙ ap (left_read l clock) (ap history_read (nothing rest e) ∙ history-empty) ∙ read_none l clock)
    where
      nothing : (b : Bytes) → length b ≡ 0 → b ≡ []
      nothing [] f = refl
      nothing (x ∷ b) f = absurd (omega arith)

  pub check_cut : (length rest ≡ 0 → ⊥) → commit_stream.get rest ≡ none → false ≡ sound_read entries hashes clock (history_read history)
  check_cut n e = sym (C ∙ ap (left_read l clock) (history_cut rest (omega arith) e))

  module _ (c : Commit) (behind : Bytes) (e : commit_stream.get rest ≡ some (c, behind)) where
    turn : sound_read entries hashes clock (history_read history) ≡ hold_all (left_rules l clock (c ∷ [])) && left_read (left_behind l c) clock (history_read behind)
    turn = C ∙ ap (left_read l clock) (history-step rest c behind e) ∙ read-on l clock c (history_read behind)

    pub check-wrong : None ≡ left_after l clock c → false ≡ sound_read entries hashes clock (history_read history)
    check-wrong f = sym (turn ∙ ap (λ (b : Bool). b && left_read (left_behind l c) clock (history_read behind)) (not-kept l clock c f))

    pub check-on : (m : Left) → Some m ≡ left_after l clock c → Checking history clock entries hashes behind m
    check-on m f =
        let k = kept l clock c m f in
        turn ∙ ap (λ (b : Bool). b && left_read (left_behind l c) clock (history_read behind)) k.0
        ∙ ap (λ (x : Left). left_read x clock (history_read behind)) (sym k.1)
