-- What a transaction reads: a snapshot in runs, its own writes on top, and its read number.
-- Assumes nothing.
use Rattle.std.specs.Prelude.{◌≤◌, ◌≡◌, true, List, map, take}
use Rattle.paper.specs.Lists.{all}
use Rattle.paper.specs.Keys.{Bytes, Pair}
use Rattle.paper.specs.Runs.{Run, merge}
use Rattle.merge.specs.Cursors.{lawful, left, in_order}
use Rattle.merge.specs.declared.heap.Cursor.{Cursor}
use Rattle.lsm.specs.Pairs.{own_in, OwnAt}
use Rattle.lsm.specs.declared.view.View.{View}

-- the cursors of the runs: 'the active run, frozen runs from newest to oldest, opening runs as given'
abbrev pub cursors_in : View → List Cursor
cursors_in v = take v.runs v.cursors

-- 'merge: all versions in order; of versions equal in key and timestamp only the one from the earliest run'
abbrev pub versions_in : Bytes → View → Run
versions_in s v = merge (map (left s) (cursors_in v))

-- the transaction's own writes
abbrev pub writes_in : Bytes → View → List Pair
writes_in s v = own_in s v.own v.stop

-- the bytes of each cursor are the records of a run, in run order, and the own writes are pairs in key order
pub record Readable (s : Bytes) (v : View) : Type 0 where
  pub few : v.runs ≤ 17
  pub lawfully : all (lawful s) (cursors_in v) ≡ true
  pub ordered : in_order 0 (cursors_in v) ≡ true
  pub own : OwnAt s v.own v.stop
