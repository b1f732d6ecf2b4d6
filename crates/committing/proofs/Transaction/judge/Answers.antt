-- Somebody is in the way, and the transaction is closed; or nobody is.
use native.Mathlib.Omega.{arith}
use Rattle.std.proofs.Common.{rules}
use Rattle.seat.proofs.Finding.{bytes_known}
use Rattle.committing.proofs.Held.{held_lies}
use Rattle.committing.proofs.Writing.{placed}
use Rattle.committing.proofs.Replies.{may-store, clear_told, conflict-told}
use Rattle.committing.proofs.Transaction.judge.Goals as goal

pub store_writes-requires : goal.store_writes-requires
store_writes-requires c = may-store c.args.state.now c.args.self.shape c.args.self.place c.requires _ c.opposed.ensures c.in_default.is

pub close-requires : goal.close-requires
close-requires c = let L = held_lies (placed c.args.state.now c.args.self.shape c.args.self.place c.requires) in omega arith

pub returns-in_default : goal.returns-in_default
returns-in_default c = clear_told c.args.state.now c.args.self.shape c.args.self.place c.requires _ c.opposed.ensures c.in_default.is _ c.store_writes.ensures

pub returns : goal.returns
returns c = conflict-told c.args.state.now c.args.self.shape c.args.self.place c.requires _ c.opposed.ensures (bytes_known _ (search rules)) c.in-Some.field-0 c.in-Some.is _ c.close.ensures
