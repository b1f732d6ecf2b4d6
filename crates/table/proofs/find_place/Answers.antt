-- The place at which `position` finds the tag is the first with it.
use native.Mathlib.Omega.{arith}
use mathlib.Core.Path.{◌∙◌}
use borrow.Author.Rules.{rules}
use borrow.Author.Tests.{tests}
use Rattle.std.proofs.lemmas.Iterator.Search.{position_from_yields_List}
use Rattle.table.proofs.Seats.{with_tag, seats-yielded, found-seat}
use Rattle.table.proofs.find_place.Goals as goal

pub returns : goal.returns
returns c =
    let b = c.args.places.now in
    position_from_yields_List (with_tag c.args.tag) _ _ _ c.position.ensures.ran (seats-yielded c.args.stride b (omega arith) c.chunks_exact.ensures.size c.chunks_exact.ensures.rest) (λ x r q k. search (rules, tests))
    ∙ found-seat c.args.tag b c.args.stride c.requires
