use Rattle.settings.proofs.Reading.{settings-short, settings-foreign, settings-standing, none-good, good-tested}
use Rattle.settings.specs.Opening.{settings_of, answered}
use Rattle.paper.specs.Lists.{is_some}
use Rattle.paper.specs.Settings.{in_ranges}
use Rattle.paper.specs.Room.{buffer_fits}
use mathlib.Core.Bool.{◌&&◌}
use mathlib.Core.Path.{◌≡◌, ap, ◌∙◌}
use borrow.Author.Rules.{rules}
use lib.ListN.{length}
use native.Mathlib.Omega.{arith}
use Rattle.settings.proofs.Settings.read.Goals as goal
use Rattle.settings.proofs.Settings.read.Goals.{then-state-lt72-via-then-state-lt72, then-state-lt72-via-else-state-lt72+then-number-gt1, then-in_ranges, else-in_ranges}

pub returns-then-state-lt72 : goal.returns-then-state-lt72
returns-then-state-lt72 c =
    elim c.then-state-lt72.branch [
      | then-state-lt72-via-then-state-lt72 w ↦ none-good _ (settings-short c.args.state.now (omega arith))
      | then-state-lt72-via-else-state-lt72+then-number-gt1 w ↦ none-good _ (settings-foreign c.args.state.now (omega arith) (omega arith))
    ]

pub at-st-requires : goal.at-st-requires
at-st-requires c = ap is_some (settings-standing c.args.state.now (omega arith) (omega arith))

pub returns : goal.returns
returns c =
    let st = settings_of c.at-st.result in
    let tests : in_ranges st && buffer_fits st (length c.args.state.now) ≡ c.if-in_ranges.good =
    elim c.if-in_ranges.branch [ then-in_ranges w ↦ search rules | else-in_ranges w ↦ search rules ] in
    ap answered c.then_some.ensures ∙ good-tested c.args.state.now c.at-st.result c.at-st.ensures c.if-in_ranges.good tests
