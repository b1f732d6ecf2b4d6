-- The bytes before a separator, and the number of a handle's field.
-- Assumes nothing.
use Rattle.std.specs.Prelude.{ℕ, cond, ◌&&◌, [], ◌∷◌, leb, eqb, Option, Some, None}
use Rattle.paper.specs.Keys.{Bytes}
use Rattle.paper.specs.Lists.{all}
use Rattle.paper.specs.Settings.{most_number}
use Rattle.paper.specs.Replay.{is_digit, is_handle, decimal_from}

-- the bytes before the first separator, all where there is none
unfoldable pub up_to : ℕ → Bytes → Bytes
up_to sep [] = []
up_to sep (b ∷ bs) = let further = up_to sep bs in cond (eqb b sep) [] (b ∷ further)

-- 'H decimal, 0 to 2^64-1, no leading zero': the number of a handle's field, none where it is not a handle
unfoldable pub handle_in : Bytes → Option ℕ
handle_in s = cond (is_handle s) (Some (decimal_from 0 s)) None

-- the number of the digits s behind digits that make n, none where they are not digits or it does not fit 64 bits
unfoldable pub digits_from : ℕ → Bytes → Option ℕ
digits_from n s = cond (all is_digit s && leb (decimal_from n s) most_number) (Some (decimal_from n s)) None
