-- Each pair of neighbours is asked, and the hashes rise where each is below the next.
use Rattle.std.proofs.Common.{◌/◌, length, ltb, ap, sym, ◌∙◌, rules, tests, arith}
use Rattle.raw.proofs.Octets.{octets-of}
use Rattle.sets.proofs.Hashes.{set-of}
use Rattle.std.proofs.lemmas.List.Sorted.{answers_always}
use Rattle.paper.specs.Lists.{rises}
use Rattle.paper.specs.Image.{number_from}
use Prim.Native.Nat.{compare}
use Rattle.sets.proofs.Risings.{neighbours-rise}
use Rattle.sets.proofs.rising.Goals as goal

pub returns-clause-rises : goal.returns-clause-rises
returns-clause-rises c =
    neighbours-rise (number_from 0) c.set_hashes.result.now _ (c.is_sorted_by.ensures.cases (λ a b. ltb (number_from 0 a) (number_from 0 b)) (answers_always _ _ _ (λ f a r g called. search (rules, tests))))
    ∙ ap (rises compare) c.set_hashes.ensures

pub returns-clause-set : goal.returns-clause-set
returns-clause-set c =
    let set = c.args.set.now in
    neighbours-rise (number_from 0) c.set_hashes.result.now _ (c.is_sorted_by.ensures.cases (λ a b. ltb (number_from 0 a) (number_from 0 b)) (answers_always _ _ _ (λ f a r g called. search (rules, tests))))
    ∙ ap (rises compare) c.set_hashes.ensures
    ∙ sym (set-of (length set / 4) set (octets-of set (λ i. omega (arith, c.type_inv.set i))) (omega arith))
