-- What a page shows after a call.
-- Assumes nothing.
use Rattle.std.specs.Prelude.{ℕ, ◌≡◌}
use Rattle.paper.specs.Keys.{Bytes}
use Rattle.printing.specs.Shown.{shown}
use Rattle.printing.specs.declared.Page.{Page}

-- the page p has become q: the same buffer, with x behind what was shown
pub record Shows (p q : Page) (x : Bytes) : Type 0 where
  pub same_buffer : q.out.ghost_name ≡ p.out.ghost_name
  pub text : ◌≡◌ {A = Bytes × ℕ} (q.out.now, q.at) (shown p.out.now p.at x)
