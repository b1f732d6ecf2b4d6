-- The LF is found, or there is none behind.
use Rattle.std.proofs.Common.{length, ◌∙◌, sym, ap, arith, rules, tests}
use Rattle.std.proofs.lemmas.Iterator.{YieldsList-from_slice}
use Rattle.std.proofs.lemmas.Iterator.Search.{position_from_yields_List}
use Rattle.words.proofs.ByLine.{is_end, lines-none, lines-more, lines-last}
use Rattle.words.proofs.LinesIterator.next.Goals as goal

pub returns-then-is_empty-clause-steps : goal.returns-then-is_empty-clause-steps
returns-then-is_empty-clause-steps c = let e = lines-none c.args.self.now.rest.now (search (rules, tests)) in (e, e)

pub returns-in-Some-clause-steps : goal.returns-in-Some-clause-steps
returns-in-Some-clause-steps c =
    let found = position_from_yields_List is_end _ _ c.position.result c.position.ensures.ran (YieldsList-from_slice c.args.self.now.rest.now cc) (λ x b q k. search (rules, tests)) in
    lines-more c.args.self.now.rest.now c.in-Some.end (sym found ∙ c.in-Some.is)

pub returns-in-Some-clause-goes : goal.returns-in-Some-clause-goes
returns-in-Some-clause-goes c =
    let found = position_from_yields_List is_end _ _ c.position.result c.position.ensures.ran (YieldsList-from_slice c.args.self.now.rest.now cc) (λ x b q k. search (rules, tests)) in
    let more = lines-more c.args.self.now.rest.now c.in-Some.end (sym found ∙ c.in-Some.is) in
    record { on = λ _. (tt, tt, omega (arith, ap length more)); keeps = tt; rests = λ _. tt }

pub returns-in-None-clause-steps : goal.returns-in-None-clause-steps
returns-in-None-clause-steps c =
    let missed = position_from_yields_List is_end _ _ c.position.result c.position.ensures.ran (YieldsList-from_slice c.args.self.now.rest.now cc) (λ x b q k. search (rules, tests)) in
    lines-last c.args.self.now.rest.now (search (rules, tests)) (sym missed ∙ c.in-None.is)

pub returns-in-None-clause-goes : goal.returns-in-None-clause-goes
returns-in-None-clause-goes c =
    let missed = position_from_yields_List is_end _ _ c.position.result c.position.ensures.ran (YieldsList-from_slice c.args.self.now.rest.now cc) (λ x b q k. search (rules, tests)) in
    let last = lines-last c.args.self.now.rest.now (search (rules, tests)) (sym missed ∙ c.in-None.is) in
    record { on = λ _. (tt, tt, omega (arith, ap length last)); keeps = tt; rests = λ _. tt }
