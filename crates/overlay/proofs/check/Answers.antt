use Rattle.std.proofs.Common.{ap, sym, ◌∙◌, arith}
use Rattle.paper.specs.Lists.{is_lt}
use Rattle.raw.proofs.Octets.{octets-of}
use Rattle.overlay.proofs.Checking.{verdict-start, verdict-end, verdict-low, verdict-rest, verdict-next, not-less}
use Rattle.overlay.proofs.check.Goals as goal

pub loop-entry-init : goal.loop-entry-init
loop-entry-init c = record { octets = octets-of c.args.bytes.now (λ i. omega (arith, c.type_inv.bytes i)); verdict = verdict-start c.args.bytes.now }

pub returns-in_default-compare : goal.returns-in_default-compare
returns-in_default-compare c =
    verdict-low c.loop-entry.rest.now c.loop-entry.invariant.octets _ _ c.loop-entry.invariant.verdict _ _ (sym c.in-Some.ensures) (ap is_lt (sym c.compare.ensures) ∙ not-less c.compare.result c.in_default-compare.not-Less)

pub loop-entry-smaller : goal.loop-entry-smaller
loop-entry-smaller c = (verdict-rest c.loop-entry.rest.now c.loop-entry.invariant.octets _ _ c.loop-entry.invariant.verdict _ _ (sym c.in-Some.ensures)).1

pub loop-entry-preserved : goal.loop-entry-preserved
loop-entry-preserved c = record {
  octets = (verdict-rest c.loop-entry.rest.now c.loop-entry.invariant.octets _ _ c.loop-entry.invariant.verdict _ _ (sym c.in-Some.ensures)).0;
  verdict = verdict-next c.loop-entry.rest.now c.loop-entry.invariant.octets _ _ c.loop-entry.invariant.verdict _ _ (sym c.in-Some.ensures) (sym c.in-Less.ensures);
}

pub returns : goal.returns
returns c =
    verdict-end c.loop-entry.rest.now c.loop-entry.invariant.octets _ _ c.loop-entry.invariant.verdict (sym c.in_default.ensures) c.is_empty.result c.is_empty.ensures
