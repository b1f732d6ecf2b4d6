-- What a cursor over the records of a run has left: its first version, and what is left after it.
-- Assumes nothing.
use mathlib.Core.Path.{◌≡◌, refl, ap, ap₂, ◌∙◌}
use mathlib.Core.Bool.{Bool, true, ◌&&◌}
use mathlib.Core.List.{◌∷◌}
use Prim.Native.Nat.{◌-◌, ◌≤◌, ◌<◌}
use borrow.Author.Tests.{leb-true, ltb-true, le-leb, lt-ltb}
use lib.Dec.{leb, ltb}
use Rattle.std.specs.Ordering as test
use Rattle.std.specs.Ordering.{nat_cmp, ordering_then}
use Rattle.std.specs.declared.cmp.Ordering.{Ordering}
use Rattle.std.specs.declared.cmp.Ordering.TheVariants.{Less, Equal, Greater}
use Rattle.raw.specs.Orders.{ordering}
use Rattle.raw.proofs.Comparing.{compare-numbers, ordering-then}
use lib.ListN.{length, drop}
use Rattle.paper.specs.Lists.{is_some, is_lt, then_by}
use Rattle.paper.specs.Keys.{Bytes, cmp_version}
use Rattle.paper.specs.Runs.{is_run}
use Rattle.paper.specs.Image.{record_bytes, one_record, storable}
use Rattle.paper.proofs.Bools.{and_left, and_right, and_intro}
use Rattle.raw.specs.Bytes.{part}
use Rattle.key.specs.Versions.{version_at, packed}
use Rattle.key.specs.Places.{Placed}
use Rattle.key.specs.declared.Place.{Place}
use Rattle.key.proofs.Packing.{First}
use Rattle.key.proofs.Packed as key
use Rattle.merge.specs.Cursors.{lawful, live, left, bef}
use Rattle.merge.specs.declared.heap.Cursor.{Cursor}

-- ---- the tests, taken apart
pub record Lawful (s : Bytes) (c : Cursor) : Type 0 where
  pub order : c.at ≤ c.end
  pub inside : c.end ≤ length s
  pub run : c.run < 17
  pub whole : packed (part s c.at (c.end - c.at)) ≡ true

pub lawful-is : (s : Bytes) (c : Cursor) → lawful s c ≡ true → Lawful s c
unfolding lawful
lawful-is s c h =
    let p = and_left (leb c.at c.end && leb c.end (length s)) (ltb c.run 17 && packed (part s c.at (c.end - c.at))) h in
    let q = and_right (leb c.at c.end && leb c.end (length s)) (ltb c.run 17 && packed (part s c.at (c.end - c.at))) h in
    record {
      order = leb-true c.at c.end (and_left (leb c.at c.end) (leb c.end (length s)) p);
      inside = leb-true c.end (length s) (and_right (leb c.at c.end) (leb c.end (length s)) p);
      run = ltb-true c.run 17 (and_left (ltb c.run 17) (packed (part s c.at (c.end - c.at))) q);
      whole = and_right (ltb c.run 17) (packed (part s c.at (c.end - c.at))) q;
    }

pub is_lawful : (s : Bytes) (c : Cursor) → Lawful s c → lawful s c ≡ true
unfolding lawful
is_lawful s c l = and_intro (and_intro (le-leb c.at c.end l.order) (le-leb c.end (length s) l.inside)) (and_intro (lt-ltb c.run 17 l.run) l.whole)

pub live-is : (s : Bytes) (c : Cursor) → live s c ≡ true → (c.at < c.end) × Lawful s c
unfolding live
live-is s c h = (ltb-true c.at c.end (and_left (ltb c.at c.end) (lawful s c) h), lawful-is s c (and_right (ltb c.at c.end) (lawful s c) h))

pub is_live : (s : Bytes) (c : Cursor) → c.at < c.end → Lawful s c → live s c ≡ true
unfolding live
is_live s c h l = and_intro (lt-ltb c.at c.end h) (is_lawful s c l)

-- ---- the first version of a cursor that has one
abbrev pub Foremost : Bytes → Cursor → Type 0
Foremost s c = First record_bytes one_record cmp_version storable key.version-codec s c.at c.end

pub foremost : (s : Bytes) (c : Cursor) → live s c ≡ true → Foremost s c
foremost s c h = let l = live-is s c h in key.foremost s c.at c.end l.0 l.1.inside l.1.whole

pub live-record : (s : Bytes) (c : Cursor) → live s c ≡ true → is_some (one_record (drop c.at s)) ≡ true
live-record s c h = let l = live-is s c h in key.record-there s c.at c.end l.0 l.1.inside l.1.whole

-- past the version at the cursor's place
abbrev pub onward : Cursor → Place → Cursor
onward c p = record { at = p.ve; end = c.end; run = c.run }

module _ (s : Bytes) (c : Cursor) (p : Place) (h : live s c ≡ true) (at : Placed s c.at p) where
  pub onward-order : p.ve ≤ c.end
  onward-order = let l = live-is s c h in key.onward-order s c.at c.end l.0 l.1.inside l.1.whole p at

  -- what is left is the version there and what is left after it
  pub left_step : left s c ≡ version_at s c.at ∷ left s (onward c p)
  left_step = let l = live-is s c h in key.versions-step s c.at c.end l.0 l.1.inside l.1.whole p at

  pub onward-lawful : Lawful s (onward c p)
  onward-lawful =
      let l = live-is s c h in
      record {
        order = onward-order;
        inside = l.1.inside;
        run = l.1.run;
        whole = key.onward-packed s c.at c.end l.0 l.1.inside l.1.whole p at;
      }

-- what is left of a lawful cursor is a run
pub left-run : (s : Bytes) (c : Cursor) → lawful s c ≡ true → is_run (left s c) ≡ true
left-run s c h = (key.packed-run (part s c.at (c.end - c.at)) (lawful-is s c h).whole).1

-- ---- the order of cursors, by std's comparisons
-- an answer is `Less` where the paper's is
less_is : (o : Ordering) → test.is_lt o ≡ is_lt (ordering o)
less_is Less = refl
less_is Equal = refl
less_is Greater = refl

pub before_is : (s : Bytes) (a b : Cursor) (versions runs : Ordering) (r : Bool) → ordering versions ≡ cmp_version (version_at s a.at) (version_at s b.at) → runs ≡ nat_cmp a.run b.run
    → r ≡ test.is_lt (ordering_then versions runs) → r ≡ bef s a b
unfolding bef
before_is s a b versions runs r v n e =
    e ∙ less_is (ordering_then versions runs) ∙ ap is_lt (ordering-then versions runs ∙ ap₂ then_by v (ap ordering n ∙ compare-numbers a.run b.run))
