-- The check of each place that `chunks_exact` cuts off.
use native.Mathlib.Omega.{arith}
use mathlib.Core.Path.{◌∙◌}
use borrow.Author.Rules.{rules}
use mathlib.Core.Path.{◌∙◌}
use borrow.Author.Tests.{tests}
use Rattle.std.proofs.lemmas.Iterator.Search.{all_from_yields_List}
use Rattle.settings.specs.Opening.{settings_of}
use Rattle.txn.specs.Place as place
use Rattle.txn.specs.Checks as checks
use Rattle.table.proofs.Seats.{seats-yielded}
use Rattle.state.proofs.Lying.{seats-many}
use Rattle.state.proofs.Seats.{rooms-are, seats-told}
use Rattle.state.proofs.Parts.places_ok.Goals as goal

pub returns : goal.returns
returns c =
    let p = c.args.self.now in
    let st = settings_of p.st in
    let b = p.state.now in
    let h = p.lies in
    let z = p.shape in
    seats-told z _ c.args.counter c.args.clock b st h.shape (c.from-rooms.ensures ∙ rooms-are st z h.shape) _ c.places_in-places.ensures (seats-many _ _ _ h _ c.places_in-places.ensures) c.all.result
    (all_from_yields_List (checks.place_sound (place.settings_of c.from-rooms.result.serializable c.from-rooms.result) c.args.counter c.args.clock) _ _ _ c.all.ensures.ran
    (seats-yielded z.stride c.places_in-places.result.now (omega (arith, h.wide)) c.chunks_exact.ensures.size c.chunks_exact.ensures.rest) (λ x b q k. search (rules, tests)))
