-- What the check of a history gives to those that use it, and the limits of a store's own settings.
-- Assumes nothing.
use Prim.Native.Nat.{ℕ}
use native.Mathlib.Omega.{arith}
use mathlib.Core.Path.{◌≡◌, refl, sym, ap, ◌∙◌}
use mathlib.Core.Bool.{Bool, true, cond}
use mathlib.Core.List.{List}
use mathlib.Core.Option.{Option, none, some}
use lib.Dec.{leb}
use Rattle.paper.specs.Lists.{hold_all}
use Rattle.paper.specs.Keys.{Bytes}
use Rattle.paper.specs.History.{Commit}
use Rattle.paper.specs.Settings.{Settings}
use Rattle.paper.specs.Sound.{is_set, sound_commit, history_rules}
use Rattle.paper.specs.Room.{history_fits}
use Rattle.paper.proofs.Bools.{and_intro, and_right}
use Rattle.paper.proofs.Alls.{rule, all-mono}
use Rattle.mvcc.specs.Histories.{history_read, or_empty, history_in, in_order, is_history, limits, sound_read}

-- the rules of a store's history, in either mode: 'in the other mode sets and history are empty', so there is room for no entry
pub rules-limits : (st : Settings) (clock : ℕ) (cs : List Commit)
    → history_rules st clock cs ≡ history_rules (limits (cond st.serializable st.history_entries 0) st.history_hashes) clock cs
unfolding history_rules
rules-limits st clock cs = refl

pub fits-limits : (st : Settings) (cs : List Commit) → history_fits st cs ≡ history_fits (limits st.history_entries st.history_hashes) cs
fits-limits st cs = refl

sound-set : (clock : ℕ) (c : Commit) → sound_commit clock c ≡ true → is_set c.hashes ≡ true
unfolding sound_commit
sound-set clock c e = and_right (leb c.number clock) (is_set c.hashes) e

module _ (b : Bytes) (entries hashes clock : ℕ) (h : sound_read entries hashes clock (history_read b) ≡ true) where
  -- the bytes read as the history in them
  pub checked-reads : history_read b ≡ some (history_in b)
  unfolding history_in
  checked-reads = go (history_read b) h
    where
      go : (o : Option (List Commit)) → sound_read entries hashes clock o ≡ true → o ≡ some (or_empty o)
      go none e = absurd (let z : ◌≡◌ {A = ℕ} 0 1 = cc in omega arith)
      go (some cs) e = refl

  -- it keeps the rules
  pub checked-rules : hold_all (history_rules (limits entries hashes) clock (history_in b)) ≡ true
  checked-rules = sym (ap (sound_read entries hashes clock) checked-reads) ∙ h

  -- and is in order, as those that walk over it require
  pub checked-order : is_history b ≡ true
  unfolding is_history history_rules
  checked-order =
      let cs : List Commit = history_in b in
      let r : List Bool = history_rules (limits entries hashes) clock cs in
      ap in_order checked-reads
      ∙ and_intro (rule 0 r checked-rules) (all-mono (sound_commit clock) (λ c. is_set c.hashes) (sound-set clock) cs (rule 1 r checked-rules))
