use mathlib.Core.Path.{sym, ap, ◌∙◌}
use native.Mathlib.Omega.{arith}
use Rattle.raw.proofs.Slices.{equal_is}
use Rattle.lsm.specs.Newest.{best_in, first_of}
use Rattle.lsm.proofs.SeekLaws.{run_none, run-there, run_step}
use Rattle.lsm.proofs.NewestLaws.{best_found}
use Rattle.lsm.proofs.seek.first_of.Goals as goal

pub returns-then-at-end-clause-is : goal.returns-then-at-end-clause-is
returns-then-at-end-clause-is c = sym (ap (first_of c.args.key.now) (run_none c.args.s.now c.args.at c.args.end (omega arith)))

pub version_at-p-requires : goal.version_at-p-requires
version_at-p-requires c = run-there c.args.s.now c.args.at c.args.end c.requires (omega arith)

pub returns-clause-is : goal.returns-clause-is
returns-clause-is c =
    ap (best_in c.args.s.now) c.then_some.ensures
    ∙ best_found c.args.s.now c.args.key.now c.version_at-p.result _ _ c.eq.result
    (run_step c.args.s.now c.args.at c.args.end c.requires (omega arith) c.version_at-p.result c.version_at-p.ensures) (equal_is c.args.key.now _ _ c.eq.ensures)
