-- Nothing at or below the read timestamp, and above it what the two sets share.
use Rattle.std.proofs.Common.{ap, ◌∙◌}
use Rattle.paper.specs.History.{make_commit, facing}
use Rattle.sets.specs.Sets.{set_hashes}
use Rattle.mvcc.proofs.Opposing.{opposed, unopposed}
use Rattle.mvcc.proofs.Entry.opposition.Goals as goal

pub returns-then-self-read : goal.returns-then-self-read
returns-then-self-read c =
    unopposed c.args.read c.args.self.number (set_hashes c.args.reads.now) (set_hashes c.args.self.hashes.now) c.if-self-read.true

pub returns-in_err-hash : goal.returns-in_err-hash
returns-in_err-hash c =
    let hs = set_hashes c.args.self.hashes.now in
    rw c.from_residual.ensures
    (ap (facing (make_commit c.args.self.number hs)) c.in_err-hash.ensures ∙ opposed c.args.read c.args.self.number (set_hashes c.args.reads.now) hs c.if-self-read.false)

pub returns : goal.returns
returns c =
    let hs = set_hashes c.args.self.hashes.now in
    ap (facing (make_commit c.args.self.number hs)) c.in_ok-hash.ensures
    ∙ opposed c.args.read c.args.self.number (set_hashes c.args.reads.now) hs c.if-self-read.false
