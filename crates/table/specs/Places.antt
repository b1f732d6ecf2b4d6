-- The transactions' places by their first 16 bytes: the handle, 0 where a place is free, and the read number. The rest of a place may be anything.
-- Assumes nothing.
use Rattle.std.specs.Prelude.{ℕ, zero, suc, ◌+◌, cond, not, List, [], ◌∷◌, eqb, Option as Found, Some, None}
use Rattle.std.proofs.Math.Option.{Option, none, some}
use Rattle.paper.specs.Lists.{keep}
use Rattle.paper.specs.Keys.{Bytes}
use Rattle.paper.specs.Image.{number_from}
use Rattle.raw.specs.Bytes.{part}
use Rattle.layout.specs.Codec.{map_option}
use Rattle.layout.specs.Offsets.{place_read}

-- what stands in front of a place, and the number behind it
abbrev pub tag_at : Bytes → ℕ → ℕ
tag_at b at = number_from 0 (part b at 8)

abbrev pub read_at : Bytes → ℕ → ℕ
read_at b at = number_from 0 (part b (at + place_read) 8)

-- ---- of n places from index at, stride bytes each
module _ (b : Bytes) where
  unfoldable pub tags_in : ℕ → ℕ → ℕ → List ℕ
  tags_in at stride zero = []
  tags_in at stride (suc n) = tag_at b at ∷ tags_in (at + stride) stride n

  -- the handles of those that are not free
  unfoldable pub handles_in : ℕ → ℕ → ℕ → List ℕ
  handles_in at stride n = keep (λ t. not (eqb t 0)) (tags_in at stride n)

  -- their read numbers
  unfoldable pub reads_in : ℕ → ℕ → ℕ → List ℕ
  reads_in at stride zero = []
  reads_in at stride (suc n) = let further = reads_in (at + stride) stride n in cond (eqb (tag_at b at) 0) further (read_at b at ∷ further)

-- ---- the first place with a tag
unfoldable pub first_with : ℕ → List ℕ → Option ℕ
first_with tag [] = none
first_with tag (t ∷ ts) = let further = map_option suc (first_with tag ts) in cond (eqb t tag) (some 0) further

abbrev pub placed : Option ℕ → Found ℕ
placed none = None
placed (some i) = Some i

unfoldable pub found_in : Bytes → ℕ → ℕ → ℕ → ℕ → Found ℕ
found_in b at stride n tag = placed (first_with tag (tags_in b at stride n))
