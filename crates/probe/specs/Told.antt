-- What a caller is told by numbers.
-- Assumes nothing.
use Rattle.std.specs.Prelude.{ℕ, ◌≡◌, List, set}
use Rattle.std.specs.Prelude.{None, Some}
use Rattle.std.specs.Prelude as std
use Rattle.std.proofs.Math.Option.{Option}
use Rattle.paper.specs.Keys.{Bytes}
use Rattle.paper.specs.Image.{Verdict, good, broken, foreign}
use Rattle.lsm.specs.Answers.{value_in, InAnswer}
use Rattle.lsm.specs.declared.answer.Span.{Span}

-- 1 for a pair, 0 for none
abbrev pub code_of : std.Option Span → ℕ
code_of (Some p) = 1
code_of None = 0

-- the pair's places in the first four numbers; without a pair nothing is written
abbrev pub numbers_of : std.Option Span → List ℕ → List ℕ
numbers_of (Some p) ns = set (set (set (set ns 0 p.ks) 1 p.ke) 2 p.vs) 3 p.ve
numbers_of None ns = ns

-- the code and the numbers, before and after, are those of an answer that is right
pub record Told (right : std.Option Span → Type 0) (code : ℕ) (before after : List ℕ) : Type 0 where
  pub answer : std.Option Span
  pub is_right : right answer
  pub code_is : code ≡ code_of answer
  pub numbers : after ≡ numbers_of answer before

-- an answer with that value, in s
pub record Value (s : Bytes) (o : Option Bytes) (a : std.Option Span) : Type 0 where
  pub is : value_in s a ≡ o
  pub inside : InAnswer s a

-- 10 is given where an opening run is 'cut .., overlong, unsorted, with an empty key or a wrong mark', 11 for 'mark right, version not 1'
abbrev pub verdict_number : Verdict → ℕ
verdict_number (good r) = 0
verdict_number broken = 10
verdict_number foreign = 11
