-- Where the runs of a sound state lie, and the cursors over them.
-- Assumes nothing.
use Rattle.std.specs.Prelude.{ℕ, ◌≤◌, ◌≡◌, true, map, take}
use Rattle.paper.specs.Lists.{all}
use Rattle.paper.specs.Keys.{Bytes}
use Rattle.paper.specs.Store.{runs_of}
use Rattle.layout.specs.Offsets.{start_active, start_area}
use Rattle.layout.specs.Layout.{store_in, sound_state}
use Rattle.merge.specs.Cursors.{lawful, left, in_order}
use Rattle.area.specs.declared.cursors.Runs.{Runs}

-- a sound state, and where its active run and its run area begin
pub record Sited (s : Bytes) (active area : ℕ) : Type 0 where
  pub sound : sound_state s ≡ true
  pub active-at : active ≡ start_active (store_in s).settings
  pub area-at : area ≡ start_area (store_in s).settings

-- cursors over the records of the state's runs, in run order: what they have left is all of each run
pub record Spread (s : Bytes) (r : Runs) : Type 0 where
  pub few : r.count ≤ 17
  pub lawfully : all (lawful s) (take r.count r.cursors) ≡ true
  pub order : in_order 0 (take r.count r.cursors) ≡ true
  pub runs : map (left s) (take r.count r.cursors) ≡ runs_of (store_in s)
