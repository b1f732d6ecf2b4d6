-- The rows that `take_while` lets through are those before t.
use Prim.Native.Nat.{◌+◌, ◌*◌, ◌-◌}
use native.Mathlib.Omega.{arith}
use mathlib.Core.Path.{◌∙◌}
use lib.Dec.{lit<, ltb}
use borrow.Author.Rules.{rules}
use borrow.Author.Tests.{tests}
use Rattle.std.proofs.lemmas.Iterator.Consumers.{count_from_yields_List, YieldsList-at}
use Rattle.std.proofs.lemmas.Iterator.Search.{YieldsList-from_take_while}
use Rattle.std.proofs.lemmas.List.Folds.{length-prefix_len}
use Rattle.raw.specs.Bytes.{part}
use Rattle.raw.proofs.Octets.{octets-of}
use Rattle.table.proofs.Seats.{seats, tag_of, seats-yielded}
use Rattle.table.proofs.RowBytes.{region, before-seats}
use Rattle.table.proofs.rows_before.Goals as goal

pub returns : goal.returns
returns c =
    let b = c.args.region.now in
    let m = 8 + 16 * c.args.n - 8 in
    let R = region b (octets-of b (λ i. omega (arith, c.type_inv.region i))) c.requires.reads in
    count_from_yields_List c.take_while.result _ c.count.ensures.ran
    (YieldsList-from_take_while _ (λ q. ltb (tag_of q) c.args.t) (YieldsList-at c.take_while.ensures.source (seats-yielded 16 (part b 8 m) (lit< tt) c.chunks_exact.ensures.size c.chunks_exact.ensures.rest)) c.take_while.ensures.closure c.take_while.ensures.done (λ x r q k. search (rules, tests)))
    ∙ length-prefix_len (λ q. ltb (tag_of q) c.args.t) (seats 16 (part b 8 m))
    ∙ before-seats b R c.args.t m (omega (arith, c.requires.many))
