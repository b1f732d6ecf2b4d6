-- A cursor over what is left of one run, and the order of cursors.
-- Assumes nothing.
use Prim.Native.Nat.{ℕ, suc, ◌-◌, compare}
use Rattle.std.specs.Prelude.{Bool, true, ◌&&◌, List, [], ◌∷◌, ltb, leb, eqb, length}
use Rattle.paper.specs.Lists.{then_by, is_lt}
use Rattle.paper.specs.Keys.{Bytes, cmp_version}
use Rattle.paper.specs.Runs.{Run}
use Rattle.raw.specs.Bytes.{part}
use Rattle.key.specs.Versions.{version_at, versions, packed}
use Rattle.merge.specs.declared.heap.Cursor.{Cursor}

-- what an index past the end reads
abbrev pub nowhere : Cursor
nowhere = record { at = 0; end = 0; run = 0 }

-- the bytes of a cursor are the records of a run, which is one of at most 17: 'the active run', and 'at most 16 opening and frozen runs together'
unfoldable pub lawful : Bytes → Cursor → Bool
lawful s c = (leb c.at c.end && leb c.end (length s)) && (ltb c.run 17 && packed (part s c.at (c.end - c.at)))

-- the cursor has versions left
abbrev pub unfinished : Cursor → Bool
unfinished c = ltb c.at c.end

-- both
unfoldable pub live : Bytes → Cursor → Bool
live s c = unfinished c && lawful s c

-- the versions that a cursor still has
abbrev pub left : Bytes → Cursor → Run
left s c = versions (part s c.at (c.end - c.at))

-- a comes before b: by the versions that they stand at, and for versions equal in key and timestamp by run order
unfoldable pub bef : Bytes → Cursor → Cursor → Bool
bef s a b = is_lt (then_by (cmp_version (version_at s a.at) (version_at s b.at)) (compare a.run b.run))

-- the cursors are those of the runs from run i on, in run order
unfoldable pub in_order : ℕ → List Cursor → Bool
in_order i [] = true
in_order i (c ∷ cs) = eqb c.run i && in_order (suc i) cs
