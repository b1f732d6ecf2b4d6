-- What is kept and one entry more, against the two limits.
use Rattle.std.proofs.Common.{◌<◌, ◌∙◌, arith}
use borrow.Author.Tests.{lt-leb, le-ltb}
use Rattle.mvcc.proofs.Pruning.{no-entry, no-hash, the_rest}
use Rattle.mvcc.specs.Histories.{history_in}
use Rattle.mvcc.proofs.fits.Goals as goal
use Rattle.mvcc.proofs.fits.Goals.{then-kept-entries, else-kept-entries}

pub returns-then-kept-hashes : goal.returns-then-kept-hashes
returns-then-kept-hashes c =
    the_rest (history_in c.args.history.now) c.counts-kept.ensures.0 c.counts-kept.ensures.1 c.args.entries c.args.hashes c.args.count c.if-kept-hashes.true.0 c.if-kept-hashes.true.1

pub returns-else-kept-hashes : goal.returns-else-kept-hashes
returns-else-kept-hashes c =
    elim c.if-kept-entries.branch [
      | then-kept-entries w ↦
          let large : c.args.hashes < c.counts-kept.result.hashes = grind (arith, c.if-kept-hashes.either, w.if-kept-entries.true) in
          λ d e. w.t-7-is ∙ lt-leb c.counts-kept.result.hashes c.args.hashes large
          ∙ no-hash (history_in c.args.history.now) c.counts-kept.ensures.0 c.counts-kept.ensures.1 c.args.entries c.args.hashes c.args.count w.if-kept-entries.true large d e
      | else-kept-entries w ↦
          λ d e. w.t-7-is ∙ le-ltb c.counts-kept.result.entries c.args.entries w.if-kept-entries.false
          ∙ no-entry (history_in c.args.history.now) c.counts-kept.ensures.0 c.counts-kept.ensures.1 c.args.entries c.args.hashes c.args.count w.if-kept-entries.false d e
    ]
