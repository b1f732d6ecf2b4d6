-- Where the settings are good, the parts lie where their shape says.
use native.Mathlib.Omega.{arith}
use Rattle.raw.proofs.Octets.{octets-of}
use Rattle.settings.specs.Opening.{settings_of}
use Rattle.state.proofs.Lying.{ranges-good, lies}
use Rattle.state.proofs.Parts.new.Goals as goal

pub shape-requires : goal.shape-requires
shape-requires c = ranges-good _ _ c.requires

pub invariant_of-result : goal.invariant_of-result
invariant_of-result c = record { good = c.requires; lies = lies _ (settings_of c.args.st) c.shape.result (octets-of _ (λ i. omega (arith, c.type_inv.state i))) c.requires c.shape.ensures }
