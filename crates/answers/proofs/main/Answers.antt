-- `answers::main` meets what the groups require: the bytes that it lends are the list's.
use mathlib.Core.Path.{refl}
use Rattle.answers.specs.Packed.{list_bytes}
use Rattle.answers.proofs.main.Goals as goal

pub groupa-requires : goal.groupa-requires
unfolding list_bytes
groupa-requires c = refl

pub groupb-requires : goal.groupb-requires
unfolding list_bytes
groupb-requires c = refl

pub groupc-requires : goal.groupc-requires
unfolding list_bytes
groupc-requires c = refl

pub groupd-requires : goal.groupd-requires
unfolding list_bytes
groupd-requires c = refl

pub groupe-requires : goal.groupe-requires
unfolding list_bytes
groupe-requires c = refl

pub groupf-requires : goal.groupf-requires
unfolding list_bytes
groupf-requires c = refl

pub groupg-requires : goal.groupg-requires
unfolding list_bytes
groupg-requires c = refl

pub grouph-requires : goal.grouph-requires
unfolding list_bytes
grouph-requires c = refl

pub groupi-requires : goal.groupi-requires
unfolding list_bytes
groupi-requires c = refl

pub groupj-requires : goal.groupj-requires
unfolding list_bytes
groupj-requires c = refl

pub groupk-requires : goal.groupk-requires
unfolding list_bytes
groupk-requires c = refl

pub groupl-requires : goal.groupl-requires
unfolding list_bytes
groupl-requires c = refl
