-- The first hash of one set that passes the test, that it is among the other.
-- The last step is a tactic's, so that the proof can also hold where the code takes the set from a variable.
use Rattle.std.proofs.Common.{ℕ, List, map, ap, sym, ◌∙◌, rules, arith}
use Rattle.std.proofs.lemmas.Iterator.{YieldsList-from_slice, YieldsList-from_map}
use Rattle.std.proofs.lemmas.Iterator.Consumers.{YieldsList-at}
use Rattle.std.proofs.lemmas.Iterator.Search.{find_from_yields_List}
use Rattle.paper.specs.Lists.{first, keep, among}
use Rattle.paper.specs.Image.{number_from}
use Rattle.raw.specs.Options.{said}
use Rattle.sets.specs.Sets.{set_hashes}
use Rattle.sets.proofs.Sharing.{first-kept, same-answer}
use Rattle.sets.proofs.first_shared.Goals as goal

pub returns : goal.returns
returns c =
    let test = λ (h : ℕ). among h (set_hashes c.args.b.now) in
    let run = find_from_yields_List test _ _ c.find.result c.find.ensures.ran (YieldsList-from_map _ (number_from 0) (YieldsList-at c.map.ensures.source (YieldsList-from_slice c.set_hashes.result.now c.iter.ensures.rest)) c.map.ensures.closure (λ x r q k. search rules)) (λ x b q k. search rules) in
    let kept = ap said (sym (same-answer c.find.result) ∙ run) ∙ first-kept test (map (number_from 0) c.set_hashes.result.now) in
    let told = kept ∙ ap (λ (hs : List ℕ). first (keep test hs)) c.set_hashes.ensures in
    grind (arith, told)
