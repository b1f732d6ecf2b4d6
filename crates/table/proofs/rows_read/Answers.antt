-- A region too short for the number, used bytes past its end, and used bytes within it.
use native.Mathlib.Omega.{arith}
use mathlib.Core.Path.{ap, ◌∙◌}
use Prim.Native.Nat.{ℕ, ◌%◌}
use lib.Dec.{eqb}
use borrow.Author.Tests.{lt-leb}
use Rattle.table.proofs.RowsRead.{unread-short, unread-past, read_whole}
use Rattle.table.proofs.rows_read.Goals as goal

pub returns-then-region-lt8 : goal.returns-then-region-lt8
returns-then-region-lt8 c = unread-short _ c.if-region-lt8.true

pub returns-else-used-region : goal.returns-else-used-region
returns-else-used-region c = lt-leb _ _ c.if-used-region.false ∙ unread-past _ (omega arith) (omega (arith, c.number-used.ensures.value))

pub returns-then-used-region : goal.returns-then-used-region
returns-then-used-region c =
    ap (λ (n : ℕ). eqb (n % 16) 0) c.number-used.ensures.value ∙ read_whole _ (omega arith) (omega (arith, c.number-used.ensures.value))
