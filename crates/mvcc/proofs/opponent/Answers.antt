-- The first entry that is an opponent, and its own hashes may be looked for in the reads.
-- The last step is a tactic's, so that the proof can also hold where the code passes what was found through one more step.
use Rattle.std.proofs.Common.{refl, ◌∙◌, rules, arith}
use Rattle.std.proofs.lemmas.Iterator.Consumers.{YieldsList-from_first}
use Rattle.sets.specs.Sets.{set_hashes}
use Rattle.mvcc.specs.Histories.{history_in, commit_of, opposition_of}
use Rattle.mvcc.proofs.Reading.{ordered}
use Rattle.mvcc.proofs.Opposing.{found, opponent-is}
use Rattle.mvcc.proofs.opponent.Goals as goal

pub invariant_of-find_map : goal.invariant_of-find_map
invariant_of-find_map c = record { whole = (ordered c.args.history.now c.requires.0).reads }

pub returns : goal.returns
returns c =
    let met = found _ commit_of _ (opposition_of c.args.read (set_hashes c.args.reads.now)) _ (λ x r q k. search rules) _ _ c.find_map.result c.find_map.ensures.runs (YieldsList-from_first commit_of (λ s. history_in s.rest.now) _ refl) in
    let told = met ∙ opponent-is c.args.read (set_hashes c.args.reads.now) c.requires.1 (history_in c.args.history.now) (ordered c.args.history.now c.requires.0).sets in
    grind (arith, told)
