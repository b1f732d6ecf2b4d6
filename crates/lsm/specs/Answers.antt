-- What an answer's place says.
-- Assumes nothing.
use Rattle.std.specs.Prelude.{◌≡◌, Option, None, Some}
use Rattle.std.proofs.Math.Option as paper
use Rattle.paper.specs.Keys.{Bytes, Pair}
use Rattle.lsm.specs.Pairs.{pair_at, InBytes}
use Rattle.lsm.specs.declared.answer.Span.{Span}

-- the pair, or none
abbrev pub answer_in : Bytes → Option Span → paper.Option Pair
answer_in s (Some p) = paper.some (pair_at s p)
answer_in s None = paper.none

-- its value
abbrev pub value_in : Bytes → Option Span → paper.Option Bytes
value_in s (Some p) = paper.some (pair_at s p).value
value_in s None = paper.none

-- its place is in s
abbrev pub InAnswer : Bytes → Option Span → Type 0
InAnswer s (Some p) = InBytes s p
InAnswer s None = Unit {0}

-- the answer is the pair, or that there is none, and lies in s
pub record Says (s : Bytes) (o : paper.Option Pair) (a : Option Span) : Type 0 where
  pub is : answer_in s a ≡ o
  pub inside : InAnswer s a
