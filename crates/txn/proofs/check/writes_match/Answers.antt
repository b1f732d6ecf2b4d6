use Rattle.std.proofs.Common.{◌/◌, false, length, sym, ap, ◌∙◌, arith}
use lib.ListN.{get_or}
use lib.Dec.{eqb}
use Rattle.sets.specs.Sets.{set_hashes}
use Rattle.sets.proofs.Hashes.{length-hashes}
use Rattle.sets.proofs.Inserting.{found_gap}
use Rattle.overlay.specs.Overlay.{pairs_in}
use Rattle.txn.proofs.Members.{at-rank, found-place}
use Rattle.txn.proofs.Matching.{match-start, match-miss, match-next, match-end, count-few, newly, newly-few}
use Rattle.txn.proofs.check.writes_match.Goals as goal

pub loop-entry-init : goal.loop-entry-init
loop-entry-init c = rw c.into_iter-entry-iterator.ensures.into_iter_gives (match-start (set_hashes c.args.set.now) (pairs_in c.args.own.bytes.now))

pub returns-in_default : goal.returns-in_default
returns-in_default c =
    match-miss _ c.requires.0 _ _ _ _ c.loop-entry.invariant _ _ c.in-Some.ensures.steps c.from.result (c.from.ensures ∙ c.hash32.ensures) (found_gap c.from.result _ (set_hashes c.args.set.now) c.in_default.ensures).0

pub bounds-hits-i : goal.bounds-hits-i
bounds-hits-i c =
    let p = found-place c.from.result c.in-Ok.i (set_hashes c.args.set.now) c.in-Ok.ensures in
    omega (arith, p.1, (at-rank c.from.result (set_hashes c.args.set.now) c.requires.0 p.0).0, length-hashes (length c.args.set.now / 4) c.args.set.now, c.requires.1)

pub bounds-hits-i-in-loop-entry : goal.bounds-hits-i-in-loop-entry
bounds-hits-i-in-loop-entry c =
    let p = found-place c.from.result c.in-Ok.i (set_hashes c.args.set.now) c.in-Ok.ensures in
    omega (arith, p.1, (at-rank c.from.result (set_hashes c.args.set.now) c.requires.0 p.0).0, length-hashes (length c.args.set.now / 4) c.args.set.now, c.requires.1)

pub overflow_add-count : goal.overflow_add-count
overflow_add-count c =
    omega (arith, c.from-count.ensures, newly-few (get_or c.loop-entry.hits c.in-Ok.i false), count-few _ c.requires.0 _ _ _ _ c.loop-entry.invariant, length-hashes (length c.args.set.now / 4) c.args.set.now, c.requires.1)

pub loop-entry-preserved : goal.loop-entry-preserved
loop-entry-preserved c =
    let p = found-place c.from.result c.in-Ok.i (set_hashes c.args.set.now) c.in-Ok.ensures in
    rw (c.from-count.ensures, newly)
    (match-next _ c.requires.0 _ _ _ _ c.loop-entry.invariant _ _ c.in-Some.ensures.steps c.from.result (c.from.ensures ∙ c.hash32.ensures) (omega (arith, length-hashes (length c.args.set.now / 4) c.args.set.now, c.requires.1)) c.in-Ok.i p.0 p.1)

pub returns : goal.returns
returns c =
    ap (eqb c.loop-entry.count) (sym (length-hashes (length c.args.set.now / 4) c.args.set.now)) ∙ match-end _ c.requires.0 _ _ _ _ c.loop-entry.invariant c.in-None.ensures.steps.0
