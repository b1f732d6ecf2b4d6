-- The read set and the read number are handed to the search over the history.
use native.Mathlib.Omega.{arith}
use mathlib.Core.Path.{ap, ap₂, ◌∙◌}
use Prim.Native.Nat.{compare}
use Rattle.paper.specs.Keys.{Bytes}
use Rattle.paper.specs.Lists.{rises}
use Rattle.paper.specs.History.{opponent}
use Rattle.sets.specs.Sets.{set_hashes}
use Rattle.mvcc.specs.Histories.{history_in, is_history, opponent_of}
use Rattle.seat.proofs.Finding.{bytes_known}
use Rattle.committing.proofs.Held.{held_lies}
use Rattle.committing.proofs.Histories.{starts-are, history-lies, history-ordered, reads-lie, reads-rise, opposed-told}
use Rattle.committing.proofs.Transaction.opposed.Goals as goal

pub sets-requires : goal.sets-requires
sets-requires c = let L = held_lies c.requires in omega arith

pub list_at-reads-requires : goal.list_at-reads-requires
list_at-reads-requires c = reads-lie c.args.state.now (bytes_known _ c.type_inv.state) c.args.self.shape c.args.self.place c.requires _ (starts-are c.args.self.shape c.args.self.place _ c.sets.ensures).0

pub number-read-requires-clause-there : goal.number-read-requires-clause-there
number-read-requires-clause-there c = let L = held_lies c.requires in omega arith

pub list_at-requires : goal.list_at-requires
list_at-requires c = history-lies c.args.state.now (bytes_known _ c.type_inv.state) c.requires.sound c.args.self.shape c.requires.shape

pub opponent-requires : goal.opponent-requires
opponent-requires c = (
  ap is_history c.list_at.ensures ∙ history-ordered c.args.state.now (bytes_known _ c.type_inv.state) c.requires.sound c.args.self.shape c.requires.shape,
  ap (λ (b : Bytes). rises compare (set_hashes b)) c.list_at-reads.ensures ∙ reads-rise c.args.state.now (bytes_known _ c.type_inv.state) c.args.self.shape c.args.self.place c.requires _ (starts-are c.args.self.shape c.args.self.place _ c.sets.ensures).0,
)

pub returns : goal.returns
returns c =
    opposed-told c.args.state.now (bytes_known _ c.type_inv.state) c.args.self.shape c.args.self.place c.requires _ (starts-are c.args.self.shape c.args.self.place _ c.sets.ensures).0 _ (opponent_of c.opponent.result) c.number-read.ensures.value
    (c.opponent.ensures ∙ ap₂ (λ (b d : Bytes). opponent c.number-read.result (set_hashes b) (history_in d)) c.list_at-reads.ensures c.list_at.ensures)
