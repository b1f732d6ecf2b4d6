-- An answer that may be missing is determined by what it says.
-- Assumes nothing.
use mathlib.Core.Path.{◌≡◌, refl}
use Rattle.std.specs.declared.option.Option.{Option}
use Rattle.std.specs.declared.option.Option.TheVariants.{None, Some}
use Rattle.raw.specs.Options.{said}

pub said-same : {A : Type 0} (a b : Option A) → said a ≡ said b → a ≡ b
said-same None None e = refl
said-same None (Some y) e = cc
said-same (Some x) None e = cc
said-same (Some x) (Some y) e = cc
