use mathlib.Core.Path.{refl}
use Rattle.run.proofs.Stepping.{nearer}
use Rattle.run.proofs.reader.ReaderIterator.next.Goals as goal

pub returns-clause-goes : goal.returns-clause-goes
returns-clause-goes c =
    nearer c.args.self.now (record { src = c.args.self.now.src; at = c.after-self.result }) c.current-current.result (record { stands = c.current-current.ensures; same = refl; onward = c.after-self.ensures })
