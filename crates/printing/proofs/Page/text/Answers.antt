-- Nothing past the end, and else as much as fits.
use Rattle.std.proofs.Common.{refl, sym, arith}
use Rattle.printing.proofs.Showing.{shown-past, shown-copied}
use Rattle.printing.proofs.Page.text.Goals as goal

pub returns-then-self-at : goal.returns-then-self-at
returns-then-self-at c = record { same_buffer = refl; text = sym (shown-past c.args.self.now.out.now c.args.self.now.at c.args.x.now c.if-self-at.true) }

pub returns : goal.returns
returns c = record {
  same_buffer = refl;
  text = shown-copied c.args.self.now.out.now c.args.self.now.at c.copy_at.new.s c.args.x.now c.min-n.result (omega (arith, c.min-n.ensures)) c.copy_at.ensures;
}
