-- The closure gives each row's count.
use Rattle.std.proofs.Common.{rules}
use Rattle.watermark.specs.declared.pass.Row as Lent
use Rattle.readers.proofs.Columns.{mapped}
use Rattle.readers.proofs.counts_of.Goals as goal

pub returns-clause-each : goal.returns-clause-each
returns-clause-each c = mapped _ (λ (r : Lent.Row). r.count) (search rules) c.map.ensures.items (λ p r y q k. search rules)
