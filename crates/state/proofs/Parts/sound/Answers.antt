-- The first test that fails decides; where none does, the reader table decides.
use borrow.Author.Rules.{rules}
use mathlib.Core.Path.{◌≡◌, sym, ap, ◌∙◌}
use mathlib.Core.Bool.{Bool, ◌&&◌}
use Rattle.paper.specs.Lists.{hold_all}
use Rattle.layout.specs.Offsets.{rows_part, history_part}
use Rattle.settings.specs.Opening.{settings_of}
use Rattle.settings.specs.Parts.{history_ok, rows_ok}
use Rattle.state.specs.Whole.{run_rules, seats_ok}
use Rattle.state.proofs.Together.{parts-bad, four-hold, all-alone, table-decides}
use Rattle.state.proofs.Parts.sound.Goals as goal
use Rattle.state.proofs.Parts.sound.Goals.{then-rows_ok, else-rows_ok, then-history_ok, else-history_ok, then-places_ok, else-places_ok}

pub table_ok-requires : goal.table_ok-requires
table_ok-requires c =
    let st = settings_of c.args.self.now.st in
    let b = c.args.self.now.state.now in
    let clock = c.number-clock.result in
    let counter = c.number-counter.result in
    let R : Bool = rows_ok st (rows_part st b) in
    let H : Bool = history_ok st clock (history_part st b) in
    let P : Bool = seats_ok st counter clock b in
    let U : Bool = hold_all (run_rules st clock b) in
    let one : c.if-rows_ok.value ≡ R && H = elim c.if-rows_ok.branch [ then-rows_ok w ↦ search rules | else-rows_ok w ↦ search rules ] in
    let two : c.if-history_ok.value ≡ c.if-rows_ok.value && P = elim c.if-history_ok.branch [ then-history_ok w ↦ search rules | else-history_ok w ↦ search rules ] in
    let three : c.if-places_ok.value ≡ c.if-history_ok.value && U = elim c.if-places_ok.branch [ then-places_ok w ↦ search rules | else-places_ok w ↦ search rules ] in
    let tests : c.if-places_ok.value ≡ ((R && H) && P) && U = three ∙ ap (λ x. x && U) (two ∙ ap (λ x. x && P) one) in
    let f = four-hold st b clock counter c.number-clock.ensures.value c.number-counter.ensures.value (sym tests ∙ c.if-runs_ok.true) in
    all-alone st b clock counter c.number-clock.ensures.value c.number-counter.ensures.value f.0 f.1 f.2 f.3

pub returns-then-runs_ok : goal.returns-then-runs_ok
returns-then-runs_ok c =
    let st = settings_of c.args.self.now.st in
    let b = c.args.self.now.state.now in
    let clock = c.number-clock.result in
    let counter = c.number-counter.result in
    let R : Bool = rows_ok st (rows_part st b) in
    let H : Bool = history_ok st clock (history_part st b) in
    let P : Bool = seats_ok st counter clock b in
    let U : Bool = hold_all (run_rules st clock b) in
    let one : c.if-rows_ok.value ≡ R && H = elim c.if-rows_ok.branch [ then-rows_ok w ↦ search rules | else-rows_ok w ↦ search rules ] in
    let two : c.if-history_ok.value ≡ c.if-rows_ok.value && P = elim c.if-history_ok.branch [ then-history_ok w ↦ search rules | else-history_ok w ↦ search rules ] in
    let three : c.if-places_ok.value ≡ c.if-history_ok.value && U = elim c.if-places_ok.branch [ then-places_ok w ↦ search rules | else-places_ok w ↦ search rules ] in
    let tests : c.if-places_ok.value ≡ ((R && H) && P) && U = three ∙ ap (λ x. x && U) (two ∙ ap (λ x. x && P) one) in
    let f = four-hold st b clock counter c.number-clock.ensures.value c.number-counter.ensures.value (sym tests ∙ c.if-runs_ok.true) in
    c.table_ok.ensures ∙ table-decides st b clock counter c.number-clock.ensures.value c.number-counter.ensures.value f.0 f.1 f.2 f.3

pub returns-else-runs_ok : goal.returns-else-runs_ok
returns-else-runs_ok c =
    let st = settings_of c.args.self.now.st in
    let b = c.args.self.now.state.now in
    let clock = c.number-clock.result in
    let counter = c.number-counter.result in
    let R : Bool = rows_ok st (rows_part st b) in
    let H : Bool = history_ok st clock (history_part st b) in
    let P : Bool = seats_ok st counter clock b in
    let U : Bool = hold_all (run_rules st clock b) in
    let one : c.if-rows_ok.value ≡ R && H = elim c.if-rows_ok.branch [ then-rows_ok w ↦ search rules | else-rows_ok w ↦ search rules ] in
    let two : c.if-history_ok.value ≡ c.if-rows_ok.value && P = elim c.if-history_ok.branch [ then-history_ok w ↦ search rules | else-history_ok w ↦ search rules ] in
    let three : c.if-places_ok.value ≡ c.if-history_ok.value && U = elim c.if-places_ok.branch [ then-places_ok w ↦ search rules | else-places_ok w ↦ search rules ] in
    let tests : c.if-places_ok.value ≡ ((R && H) && P) && U = three ∙ ap (λ x. x && U) (two ∙ ap (λ x. x && P) one) in
    c.if-runs_ok.false ∙ parts-bad st b clock counter c.number-clock.ensures.value c.number-counter.ensures.value (sym tests ∙ c.if-runs_ok.false)
