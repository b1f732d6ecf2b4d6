-- The walk over the history stops at the first entry that is at or above the watermark.
use mathlib.Core.Path.{ap, ◌∙◌}
use Rattle.mvcc.specs.Histories.{is_history}
use Rattle.seat.proofs.Finding.{bytes_known}
use Rattle.committing.proofs.Histories.{history-lies, history-ordered}
use Rattle.committing.proofs.Transaction.cut.Goals as goal

pub list_at-requires : goal.list_at-requires
list_at-requires c = history-lies c.args.state.now (bytes_known _ c.type_inv.state) c.requires.0 c.args.self.shape c.requires.1

pub cut_below-requires : goal.cut_below-requires
cut_below-requires c = ap is_history c.list_at.ensures ∙ history-ordered c.args.state.now (bytes_known _ c.type_inv.state) c.requires.0 c.args.self.shape c.requires.1
