-- The history of commits in lent bytes: its entries lie one after the other, as layout's `many commit_stream` puts them.
-- Assumes nothing.
use Rattle.std.specs.Prelude.{ℕ, ◌-◌, ◌≤◌, ◌≡◌, Bool, true, false, cond, ◌&&◌, List, [], ◌∷◌, length, drop, leb, ltb, Option as Answer, Some, None}
use Rattle.std.proofs.Math.Option.{Option, none, some}
use Rattle.paper.specs.Lists.{all, keep, first, among, rises_from, rises, hold_all}
use Rattle.paper.specs.Keys.{Bytes}
use Rattle.paper.specs.History.{Commit, make_commit, cmp_commit, facing, Opponent, prune}
use Rattle.paper.specs.Settings.{Settings}
use Rattle.paper.specs.Store.{hash_count}
use Rattle.paper.specs.Sound.{is_set, sound_commit, history_rules}
use Rattle.layout.specs.Codec.{many}
use Rattle.layout.specs.Layout.{commit_stream}
use Rattle.sets.specs.Sets.{set_hashes}
use Rattle.mvcc.specs.declared.Entry.{Entry}
use Rattle.mvcc.specs.declared.Left.{Left}
use Rattle.mvcc.specs.declared.Conflict.{Conflict}

-- ---- the history in some bytes

-- what they read as
abbrev pub history_read : Bytes → Option (List Commit)
history_read b = (many commit_stream).parse b

abbrev pub or_empty : Option (List Commit) → List Commit
or_empty none = []
or_empty (some cs) = cs

-- the history that they are, empty where they are none
unfoldable pub history_in : Bytes → List Commit
history_in b = or_empty (history_read b)

-- commits that rise by number, with sets of hashes: what the state rules say of a history whatever the clock and its room
abbrev pub in_order : Option (List Commit) → Bool
in_order none = false
in_order (some cs) = rises cmp_commit cs && all (λ c. is_set c.hashes) cs

unfoldable pub is_history : Bytes → Bool
is_history b = in_order (history_read b)

-- the bytes of a history
abbrev pub history_bytes : List Commit → Bytes
history_bytes cs = (many commit_stream).form cs

-- the commit that an entry is
abbrev pub commit_of : Entry → Commit
commit_of e = make_commit e.number (set_hashes e.hashes.now)

-- ---- the state rules of a history

-- settings in serializable mode, with so much room for a history
abbrev pub limits : ℕ → ℕ → Settings
limits entries hashes =
    record {
      serializable = true;
      transactions = 0;
      overlay_bytes = 0;
      read_hashes = 0;
      write_hashes = 0;
      history_entries = entries;
      history_hashes = hashes;
      active_bytes = 0;
      area_bytes = 0;
    }

-- the bytes are a history, and it keeps the state rules
abbrev pub sound_read : ℕ → ℕ → ℕ → Option (List Commit) → Bool
sound_read entries hashes clock none = false
sound_read entries hashes clock (some cs) = hold_all (history_rules (limits entries hashes) clock cs)

-- 'history strictly rising': above the last number passed, if there was one
abbrev pub follows : Answer ℕ → List Commit → Bool
follows None cs = rises cmp_commit cs
follows (Some last) cs = rises_from cmp_commit (make_commit last []) cs

-- the state rules of the entries from some place on, where so many entries and hashes are left to them
unfoldable pub left_rules : Left → ℕ → List Commit → List Bool
left_rules l clock cs = follows l.last cs ∷ all (sound_commit clock) cs ∷ leb (length cs) l.entries ∷ leb (hash_count cs) l.hashes ∷ []

-- what is left behind a commit
abbrev pub left_behind : Left → Commit → Left
left_behind l c = record { last = Some c.number; entries = l.entries - 1; hashes = l.hashes - length c.hashes }

-- the same, if the commit keeps these rules
unfoldable pub left_after : Left → ℕ → Commit → Answer Left
left_after l clock c = cond (hold_all (left_rules l clock (c ∷ []))) (Some (left_behind l c)) None

-- ---- who is in the way

-- a commit above the read timestamp, with the smallest of its hashes that stands in a read set
unfoldable pub opposition_of : ℕ → List ℕ → Commit → Option Opponent
opposition_of read reads c = cond (ltb read c.number) (facing c (first (keep (λ h. among h reads) c.hashes))) none

abbrev pub opponent_of : Answer Conflict → Option Opponent
opponent_of None = none
opponent_of (Some o) = some (record { number = o.number; hash = o.hash })

-- ---- what leaves

-- the place from which on the entries of a history stay
pub record CutAt (history : Bytes) (watermark cut : ℕ) : Type 0 where
  pub to : cut ≤ length history
  pub stays : history_read (drop cut history) ≡ some (prune watermark (history_in history))
