-- The call, and its answer, whose value stands in a buffer as long as the longest value.
use Prim.Native.Nat.{ℕ}
use lib.ListN.{replicate, length-replicate}
use Rattle.script.proofs.Answers.{get-inside, get-answer}
use Rattle.script.proofs.get.Goals as goal

pub got-requires : goal.got-requires
got-requires c =
    get-inside c.args.handle c.args.key.now c.args.state.now c.get-reply.new.state (replicate 65535 0) c.get-reply.new.out c.get-reply.result (length-replicate {A = ℕ} 65535 0) c.get-reply.ensures

pub returns : goal.returns
returns c =
    get-answer c.args.handle c.args.key.now c.args.state.now c.get-reply.new.state (replicate 65535 0) c.get-reply.new.out c.get-reply.result (length-replicate {A = ℕ} 65535 0) c.get-reply.ensures c.got.ensures
