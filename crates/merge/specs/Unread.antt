-- What a heap of cursors still has to hand out: the merge of what its cursors still have.
-- Assumes nothing.
use Rattle.std.specs.Prelude.{ℕ, zero, suc, ◌-◌, ◌≤◌, ◌≡◌, true, cond, List, [], ◌∷◌, eqb, length, take, get_or}
use Rattle.paper.specs.Lists.{all}
use Rattle.paper.specs.Keys.{Bytes, Version}
use Rattle.paper.specs.Runs.{Run, merge}
use Rattle.raw.specs.Bytes.{part}
use Rattle.key.specs.Versions.{version_at, versions}
use Rattle.merge.specs.Bag.{weight}
use Rattle.merge.specs.Shape.{HeapFrom}
use Rattle.merge.specs.Cursors.{nowhere, live, bef}
use Rattle.merge.specs.declared.heap.Cursor.{Cursor}
use Rattle.merge.specs.declared.heap.Heap.{Heap}

abbrev pub cursors_of : Heap → List Cursor
cursors_of h = take h.len h.cursors

-- ---- what is left of each run, in whatever order the cursors stand
abbrev pub of_run : ℕ → (Cursor → ℕ) → Cursor → ℕ
of_run i f c = cond (eqb c.run i) (f c) 0

-- where the cursor of run i stands, and where it ends; 0 if there is none
abbrev pub start_of : List Cursor → ℕ → ℕ
start_of cs i = weight (of_run i (λ c. c.at)) cs

abbrev pub end_of : List Cursor → ℕ → ℕ
end_of cs i = weight (of_run i (λ c. c.end)) cs

-- the versions left of run i
unfoldable pub rest : Bytes → List Cursor → ℕ → Run
rest s cs i = versions (part s (start_of cs i) (end_of cs i - start_of cs i))

-- n runs from run i on
unfoldable pub tab : (ℕ → Run) → ℕ → ℕ → List Run
tab r zero i = []
tab r (suc n) i = r i ∷ tab r n (suc i)

-- 'merge: all versions in order; of versions equal in key and timestamp only the one from the earliest run': of what is left of each run, in run order
unfoldable pub unread : Bytes → Heap → Run
unread s h = merge (tab (rest s (cursors_of h)) 17 0)

-- ---- a heap
-- every cursor has versions left, no two are of one run, and they are a heap
pub record Sound (s : Bytes) (h : Heap) : Type 0 where
  pub few : h.len ≤ 17
  pub long : h.len ≤ length h.cursors
  pub living : all (live s) (cursors_of h) ≡ true
  pub apart : (i : ℕ) → weight (of_run i (λ c. 1)) (cursors_of h) ≤ 1
  pub heap : HeapFrom (bef s) nowhere h.cursors h.len 0

-- the version at the root
abbrev pub least : Bytes → Heap → Version
least s h = version_at s (get_or h.cursors 0 nowhere).at

abbrev pub root_run : Heap → ℕ
root_run h = (get_or h.cursors 0 nowhere).run
