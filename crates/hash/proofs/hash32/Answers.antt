use borrow.Author.Rules.{rules}
use mathlib.Core.Path.{◌≡◌, ◌∙◌}
use Rattle.std.specs.List.{fold}
use Rattle.paper.specs.Hash.{fnv_step}
use Rattle.hash.proofs.Hashing.{hash-is-fold}
use Rattle.hash.proofs.hash32.Goals as goal

pub returns : goal.returns
returns c =
    let e : c.fold.result ≡ fold fnv_step 2166136261 c.args.key.now = search rules in
    e ∙ hash-is-fold c.args.key.now
