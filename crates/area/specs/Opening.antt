-- What the functions over the opening images answer.
-- Assumes nothing.
use Rattle.std.specs.Prelude.{ℕ, ◌≤◌, ◌≡◌, Bool, true, false, cond, List, [], leb, length, take, Result, Ok, Err}
use Rattle.paper.specs.Lists.{total}
use Rattle.paper.specs.Keys.{Bytes}
use Rattle.paper.specs.Runs.{Run}
use Rattle.paper.specs.Settings.{Settings}
use Rattle.paper.specs.Store.{latest_of}
use Rattle.paper.specs.Refusals.{Refusal, Try, stop, go, bad_run, foreign_run, ◌>>=◌}
use Rattle.paper.specs.Room.{images_fit}
use Rattle.paper.specs.Calls.{open_runs, images_in}
use Rattle.run.specs.declared.BadImage.{BadImage}
use Rattle.run.specs.declared.BadImage.TheVariants.{Broken, Foreign}
use Rattle.area.specs.declared.opening.BadRun.{BadRun}

-- the image of n bytes in front of some bytes, as paper's `images_in` hands it on
abbrev pub image_in : Bytes → ℕ → Bytes
image_in s n = cond (leb n (length s)) (take n s) []

-- the clock at opening: 'the largest timestamp among the records of all runs, 0 if there are none'
unfoldable pub clock_of : Try (List Run) → Try ℕ
clock_of m = m >>= λ rs. go (latest_of rs)

-- what an answer says: the clock; 10 or 11 at a place
abbrev pub refused_for : ℕ → BadImage → Refusal
refused_for place Broken = bad_run place
refused_for place Foreign = foreign_run place

abbrev pub open_answer : Result ℕ BadRun → Try ℕ
open_answer (Ok clock) = go clock
open_answer (Err e) = stop (refused_for e.place e.why)

-- the images are all good, and these are their runs; none where one is not good
abbrev pub passes : Try (List Run) → Bool
passes (stop r) = false
passes (go rs) = true

unfoldable pub good_images : Bytes → List ℕ → Bool
good_images images lengths = passes (open_runs 1 (images_in images lengths))

abbrev pub runs_or : Try (List Run) → List Run
runs_or (stop r) = []
runs_or (go rs) = rs

unfoldable pub runs_in : Bytes → List ℕ → List Run
runs_in images lengths = runs_or (open_runs 1 (images_in images lengths))

-- the sum of the images' lengths
pub record Total (images : Bytes) (lengths : List ℕ) (r : ℕ) : Type 0 where
  pub sum : r ≡ total length (images_in images lengths)
  pub small : r ≤ length images

-- under any settings that give the run area this room
abbrev pub FitTold : Bytes → List ℕ → ℕ → Bool → Type 0
FitTold images lengths area r = (st : Settings) → st.area_bytes ≡ area → r ≡ images_fit st (images_in images lengths)
