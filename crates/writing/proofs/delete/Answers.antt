-- A deletion is a put of the empty value.
use Rattle.writing.proofs.Telling.{told-deleted}
use Rattle.writing.proofs.delete.Goals as goal

pub returns : goal.returns
returns c = told-deleted c.args.state.now c.args.handle c.args.key.now c.put.result c.put.new.state c.put.ensures
