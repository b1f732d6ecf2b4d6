-- What the search in the chunks finds is what it finds in the hashes.
-- The last step is a tactic's, so that the proof can also hold where the code passes what was found through one more step.
use Rattle.std.proofs.Common.{[], ap, ◌∙◌, rules, arith}
use Rattle.std.proofs.lemmas.List.Sorted.{answers_always}
use Rattle.paper.specs.Lists.{rises}
use Rattle.paper.specs.Image.{number_from}
use Prim.Native.Nat.{compare}
use Rattle.sets.specs.Sets.{found_in}
use Rattle.sets.proofs.Searching.{searched_by}
use Rattle.sets.proofs.find_hash.Goals as goal

pub returns : goal.returns
returns c =
    let found = c.binary_search_by_key.ensures in
    let met = searched_by (number_from 0) c.set_hashes.result.now [] c.args.h _ found.bound (ap (rises compare) c.set_hashes.ensures ∙ c.requires) (found.position (number_from 0) (answers_always _ _ _ (λ f a r g called. search rules))) in
    let told = met ∙ ap (found_in c.args.h) c.set_hashes.ensures in
    grind (arith, told)
