-- What the checks of the runs' two parts of a state answer, and what is known of runs without looking at them again.
-- Assumes nothing.
use Rattle.std.specs.Prelude.{ℕ, ◌+◌, max, ◌≡◌, Bool, true, not, cond, ◌||◌, List, length, take, drop, ltb, eqb, Option, Some, None}
use Rattle.std.specs.Bool.{then_some}
use Rattle.std.proofs.Math.Option as math
use Rattle.paper.specs.Lists.{is_empty, join}
use Rattle.paper.specs.Keys.{Bytes}
use Rattle.paper.specs.Runs.{Run}
use Rattle.paper.specs.Image.{number_from}
use Rattle.paper.specs.Settings.{Settings}
use Rattle.paper.specs.Store.{latest_of}
use Rattle.raw.specs.Bytes.{part}
use Rattle.layout.specs.Codec.{sized, plain}
use Rattle.layout.specs.Offsets.{width_active, width_area}
use Rattle.layout.specs.Layout.{active_slot, frozen_slot}
use Rattle.settings.specs.Parts.{or_empty, active_ok, area_ok}
use Rattle.run.specs.Tallies.{tally_of}
use Rattle.run.specs.declared.tally.Tally.{Tally}
use Rattle.area.specs.declared.check.Active.{Active}
use Rattle.area.specs.declared.check.Others.{Others}

-- ---- what is known of runs
-- 'the largest timestamp among the records of all runs', if they have a version
abbrev pub latest_in : List Run → Option ℕ
latest_in rs = then_some (not (is_empty (join rs))) (latest_of rs)

-- how many there are too
unfoldable pub others_of : List Run → Others
others_of rs = record { count = length rs; latest = latest_in rs }

-- the later of two timestamps, if there are any
abbrev pub later : Option ℕ → Option ℕ → Option ℕ
later None q = q
later (Some a) None = Some a
later (Some a) (Some b) = Some (max a b)

-- with one run more
abbrev pub with_run : Others → Option ℕ → Others
with_run o latest = record { count = o.count + 1; latest = later o.latest latest }

-- before a timestamp, as nothing is
abbrev pub is_below : Option ℕ → ℕ → Bool
is_below None t = true
is_below (Some l) t = ltb l t

-- 'active versions newer than all in other runs', by what is known of both: one of them has no version, or the latest of the others is before the
-- earliest of the active run
unfoldable pub newer_by : Tally → Others → Bool
newer_by t o = eqb t.count 0 || is_below o.latest t.earliest

-- ---- bytes with the number of them in front
-- the number: how many bytes of a part are used
abbrev pub used_in : Bytes → ℕ
used_in q = number_from 0 (take 8 q)

-- they are x, and r follows them
pub record Split (b x r : Bytes) : Type 0 where
  pub read : (sized 8 plain).get b ≡ math.some (x, r)
  pub here : x ≡ part b 8 (length x)
  pub behind : r ≡ drop (8 + length x) b
  pub count : length x ≡ used_in b
  pub size : 8 + length x + length r ≡ length b

-- ---- the active run's part q of a state: the state rule that settings says of it holds, or not
unfoldable pub active_told : Settings → ℕ → Bytes → Option Active
active_told st clock q = cond (active_ok st clock q) (Some (record { used = used_in q; tally = tally_of (or_empty ((active_slot st).read q)) })) None

-- under any settings that give the part this width
abbrev pub ActiveTold : Bytes → ℕ → Option Active → Type 0
ActiveTold q clock r = (st : Settings) → width_active st ≡ length q → r ≡ active_told st clock q

-- ---- the run area's part
unfoldable pub area_told : Settings → ℕ → Bytes → Option Others
area_told st clock q = cond (area_ok st clock q) (Some (others_of (or_empty ((frozen_slot st).read q)))) None

abbrev pub AreaTold : Bytes → ℕ → Option Others → Type 0
AreaTold q clock r = (st : Settings) → width_area st ≡ length q → r ≡ area_told st clock q

-- the images in it, whatever the clock and the room
abbrev pub images_told : math.Option (List Run) → Option Others
images_told math.none = None
images_told (math.some rs) = Some (others_of rs)
