-- What a step does to a heap of cursors.
-- Assumes nothing.
use Rattle.std.specs.Prelude.{ℕ, ◌-◌, ◌≤◌, ◌<◌, ◌≡◌, Bool, true, ◌&&◌, ◌∷◌, ltb, length}
use Rattle.paper.specs.Lists.{is_same, all}
use Rattle.paper.specs.Keys.{Bytes, Version, cmp_version}
use Rattle.merge.specs.Bag.{weight}
use Rattle.merge.specs.Shape.{HeapBut}
use Rattle.merge.specs.Cursors.{nowhere, live, bef}
use Rattle.merge.specs.Unread.{cursors_of, of_run, rest, unread, Sound, least, root_run}
use Rattle.merge.specs.declared.heap.Heap.{Heap}

-- the bytes that the cursors have still to pass
abbrev pub bytes_left : Heap → ℕ
bytes_left h = weight (λ c. c.end - c.at) (cursors_of h)

-- the least version is like v in key and timestamp
abbrev pub least_is : Bytes → Version → Heap → Bool
least_is s v h = ltb 0 h.len && is_same (cmp_version (least s h) v)

-- the root's cursor stepped on by one version, and only the root may be out of its place
pub record Advanced (s : Bytes) (h r : Heap) : Type 0 where
  pub few : r.len ≤ 17
  pub long : r.len ≤ length r.cursors
  pub living : all (live s) (cursors_of r) ≡ true
  pub apart : (i : ℕ) → weight (of_run i (λ c. 1)) (cursors_of r) ≤ 1
  pub but : HeapBut (bef s) nowhere r.cursors r.len 0 0
  pub taken : rest s (cursors_of h) (root_run h) ≡ least s h ∷ rest s (cursors_of r) (root_run h)
  pub others : (i : ℕ) → (i ≡ root_run h → ⊥) → rest s (cursors_of r) i ≡ rest s (cursors_of h) i
  pub fewer : bytes_left r < bytes_left h

-- and every cursor is in its place
pub record Stepped (s : Bytes) (h r : Heap) : Type 0 where
  pub sound : Sound s r
  pub taken : rest s (cursors_of h) (root_run h) ≡ least s h ∷ rest s (cursors_of r) (root_run h)
  pub others : (i : ℕ) → (i ≡ root_run h → ⊥) → rest s (cursors_of r) i ≡ rest s (cursors_of h) i
  pub fewer : bytes_left r < bytes_left h

-- what is unread before is the version handed out and what is unread after
pub record Passed (s : Bytes) (h r : Heap) : Type 0 where
  pub sound : Sound s r
  pub handed : unread s h ≡ least s h ∷ unread s r
