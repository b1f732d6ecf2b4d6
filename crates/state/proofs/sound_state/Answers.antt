-- The settings in front decide whether the rest can be looked at.
use native.Mathlib.Omega.{arith}
use borrow.Author.Rules.{rules}
use Rattle.raw.proofs.Octets.{octets-of}
use Rattle.state.proofs.Together.{sound-told}
use Rattle.state.proofs.sound_state.Goals as goal

pub returns : goal.returns
returns c =
    sound-told c.args.state.now (octets-of _ (λ i. omega (arith, c.type_inv.state i))) _ c.read.ensures _ _ c.is_some_and.ensures (λ g p. search rules)
