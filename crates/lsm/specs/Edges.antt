-- std's bound over a lent key is one of the paper's bounds, and what it lets through.
-- Assumes nothing.
use denote.Bor.{Bor}
use Rattle.std.specs.Prelude.{ℕ, Bool, cond, eqb}
use Rattle.std.specs.declared.ops.Bound as std
use Rattle.std.specs.declared.ops.Bound.TheVariants.{Included, Excluded, Unbounded}
use Rattle.paper.specs.Keys.{Bytes, Version, Pair}
use Rattle.paper.specs.Bounds.{Bound, included, excluded, unbounded, above, below}

abbrev pub bound_of : std.Bound (Bor Bytes) → Bound
bound_of (Included b) = included b.now
bound_of (Excluded b) = excluded b.now
bound_of Unbounded = unbounded

-- a bound by the number of its kind: 0 included, 1 excluded, any other unbounded
abbrev pub bound_by : ℕ → Bytes → Bound
bound_by kind k = cond (eqb kind 0) (included k) (cond (eqb kind 1) (excluded k) unbounded)

-- the lower bound lets the version through
abbrev pub is_from : Bound → Version → Bool
is_from lo v = above lo v.key

-- the lower bound lets the pair through, and the upper one
abbrev pub pair_from : Bound → Pair → Bool
pair_from lo p = above lo p.key

abbrev pub pair_up_to : Bound → Pair → Bool
pair_up_to hi p = below hi p.key
