-- Where the versions of a run start that come at or after a version, and those that a lower bound lets through.
-- Assumes nothing.
use Rattle.std.specs.Prelude.{ℕ, ◌-◌, ◌≡◌, Bool, true, false, cond, not, List, [], ◌∷◌, map}
use Rattle.paper.specs.Lists.{is_lt, all, keep}
use Rattle.paper.specs.Keys.{Bytes, Version, cmp_version, same_key}
use Rattle.paper.specs.Bounds.{Bound}
use Rattle.paper.specs.Runs.{Run}
use Rattle.raw.specs.Bytes.{part}
use Rattle.key.specs.Versions.{versions, packed}
use Rattle.merge.specs.Cursors.{lawful, left}
use Rattle.merge.specs.declared.heap.Cursor.{Cursor}
use Rattle.lsm.specs.Lying.{LiesIn, FromOn}
use Rattle.lsm.specs.Edges.{is_from}

-- the versions that lie from one offset to another
abbrev pub run_in : Bytes → ℕ → ℕ → Run
run_in s at end = versions (part s at (end - at))

abbrev pub RunAt : Bytes → ℕ → ℕ → Type 0
RunAt s at end = LiesIn packed s at end

-- ---- from a version on
-- w comes at v or after it
abbrev pub not_before : Version → Version → Bool
not_before v w = not (is_lt (cmp_version w v))

abbrev pub SoughtAt : Bytes → Version → ℕ → ℕ → ℕ → Type 0
SoughtAt s v at end r = FromOn packed versions (not_before v) s at end r

-- ---- past a key
-- the first version has the key
abbrev pub has_key : Bytes → Run → Bool
has_key k [] = false
has_key k (v ∷ vs) = same_key k v.key

-- without the first version, if it has the key
abbrev pub without : Bytes → Run → Run
without k [] = []
without k (v ∷ vs) = cond (same_key k v.key) vs (v ∷ vs)

pub record PastKey (s : Bytes) (k : Bytes) (at end r : ℕ) : Type 0 where
  pub lies : RunAt s r end
  pub past : run_in s r end ≡ without k (run_in s at end)

-- ---- a lower bound
abbrev pub LowAt : Bytes → Bound → ℕ → ℕ → ℕ → Type 0
LowAt s lo at end r = FromOn packed versions (is_from lo) s at end r

-- the cursor is at its first version that the bound lets through
pub record Sought (s : Bytes) (lo : Bound) (c r : Cursor) : Type 0 where
  pub lawfully : lawful s r ≡ true
  pub run : r.run ≡ c.run
  pub end : r.end ≡ c.end
  pub kept : left s r ≡ keep (is_from lo) (left s c)

-- each of the cursors so
pub record AllSought (s : Bytes) (lo : Bound) (cs rs : List Cursor) : Type 0 where
  pub lawfully : all (lawful s) rs ≡ true
  pub runs : map (λ c. c.run) rs ≡ map (λ c. c.run) cs
  pub kept : map (left s) rs ≡ map (λ c. keep (is_from lo) (left s c)) cs
