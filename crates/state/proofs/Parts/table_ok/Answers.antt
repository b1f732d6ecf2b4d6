-- The handles, then the rows, where every part keeps its own rules.
use mathlib.Core.Path.{sym, ◌∙◌}
use Rattle.settings.specs.Opening.{settings_of}
use Rattle.state.proofs.Together.{handles-fail, rows-tied}
use Rattle.state.proofs.Parts.table_ok.Goals as goal

pub returns-then-distinct_handles : goal.returns-then-distinct_handles
returns-then-distinct_handles c =
    let p = c.args.self.now in
    let st = settings_of p.st in
    let b = p.state.now in
    let h = p.lies in
    c.rows_match.ensures
    ∙ rows-tied st b h.bytes p.good c.requires p.shape h.shape _ c.places_in-places.ensures _ c.rows_in-rows.ensures (sym c.distinct_handles.ensures ∙ c.if-distinct_handles.true)

pub returns-else-distinct_handles : goal.returns-else-distinct_handles
returns-else-distinct_handles c =
    let p = c.args.self.now in
    let st = settings_of p.st in
    let b = p.state.now in
    let h = p.lies in
    c.if-distinct_handles.false
    ∙ handles-fail st b h.bytes p.good c.requires p.shape h.shape _ c.places_in-places.ensures (sym c.distinct_handles.ensures ∙ c.if-distinct_handles.false)
