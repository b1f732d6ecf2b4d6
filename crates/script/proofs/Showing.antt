-- What stands behind the line number, as texts shown one behind the other.
-- Assumes nothing.
use mathlib.Core.List.{[], ◌∷◌}
use Rattle.paper.specs.Keys.{Bytes}
use Rattle.paper.specs.Replay.{decimal, decimal_of, spaced}
use Rattle.printing.specs.Shows.{Shows}
use Rattle.printing.specs.declared.Page.{Page}
use Rattle.printing.proofs.Showing.{shows_both}

-- fields, and the LF behind them
pub one_field : {p q r : Page} (f : Bytes) → Shows p q (32 ∷ f) → Shows q r (10 ∷ []) → Shows p r (spaced (f ∷ []))
unfolding spaced
one_field f a b = shows_both (32 ∷ f) (10 ∷ []) a b

pub two_fields : {p q r s : Page} (x : Bytes) → Shows p q (32 ∷ 48 ∷ []) → Shows q r (32 ∷ x) → Shows r s (10 ∷ []) → Shows p s (spaced (decimal_of 0 ∷ x ∷ []))
unfolding spaced decimal
two_fields x a b c = shows_both (32 ∷ 48 ∷ []) (spaced (x ∷ [])) a (one_field x b c)

pub three-fields : {p q r s t : Page} (x y : Bytes) → Shows p q (32 ∷ 48 ∷ []) → Shows q r (32 ∷ x) → Shows r s (32 ∷ y) → Shows s t (10 ∷ []) → Shows p t (spaced (decimal_of 0 ∷ x ∷ y ∷ []))
unfolding spaced decimal
three-fields x y a b c d = shows_both (32 ∷ 48 ∷ []) (spaced (x ∷ y ∷ [])) a (shows_both (32 ∷ x) (spaced (y ∷ [])) b (one_field y c d))
