-- The call, and its answer, whose key and value stand in buffers as long as the longest ones.
use Prim.Native.Nat.{ℕ}
use lib.ListN.{replicate, length-replicate}
use Rattle.lsm.specs.Edges.{bound_of}
use Rattle.script.proofs.Answers.{scan-inside, scan-answer}
use Rattle.script.proofs.scan.Goals as goal

pub scanned-requires : goal.scanned-requires
scanned-requires c =
    let e = length-replicate {A = ℕ} 65535 0 in
    scan-inside c.args.handle (bound_of c.args.low) c.args.state.now c.scan-reply.new.state (replicate 65535 0) (replicate 65535 0) c.scan-reply.new.key_out c.scan-reply.new.value_out c.scan-reply.result e e c.scan-reply.ensures

pub returns : goal.returns
returns c =
    let e = length-replicate {A = ℕ} 65535 0 in
    scan-answer c.args.handle (bound_of c.args.low) c.args.state.now c.scan-reply.new.state (replicate 65535 0) (replicate 65535 0) c.scan-reply.new.key_out c.scan-reply.new.value_out c.scan-reply.result e e c.scan-reply.ensures c.scanned.ensures
