-- Things that lie packed in bytes, from one offset to another.
-- Assumes nothing.
use Rattle.std.specs.Prelude.{ℕ, ◌-◌, ◌≤◌, ◌≡◌, Bool, true, List, length}
use Rattle.paper.specs.Lists.{keep}
use Rattle.paper.specs.Keys.{Bytes}
use Rattle.raw.specs.Bytes.{part}

-- the bytes from `at` to `end` are bytes of s, and pass the test
pub record LiesIn (test : Bytes → Bool) (s : Bytes) (at end : ℕ) : Type 0 where
  pub order : at ≤ end
  pub inside : end ≤ length s
  pub whole : test (part s at (end - at)) ≡ true

-- of the things from `at` to `end`, those of q, and no others, are the things from r on
pub record FromOn {A : Type 0} (test : Bytes → Bool) (things : Bytes → List A) (q : A → Bool) (s : Bytes) (at end r : ℕ) : Type 0 where
  pub lies : LiesIn test s r end
  pub kept : things (part s r (end - r)) ≡ keep q (things (part s at (end - at)))
