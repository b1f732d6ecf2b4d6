-- What a get looks for: the own write of its key, and the newest version of it, run by run.
-- Assumes nothing.
use Rattle.std.specs.Prelude.{cond, List, [], ◌∷◌, ltb, Option, None, Some}
use Rattle.std.proofs.Math.Option as paper
use Rattle.paper.specs.Keys.{Bytes, Version, Pair, same_key}
use Rattle.paper.specs.Runs.{Run}
use Rattle.paper.specs.Seen.{newer}
use Rattle.key.specs.Places.{version_in}
use Rattle.key.specs.declared.Place.{Place}
use Rattle.lsm.specs.Pairs.{InBytes}
use Rattle.lsm.specs.declared.answer.Span.{Span}

-- ---- the best version so far
-- the version, or none
abbrev pub best_in : Bytes → Option Place → paper.Option Version
best_in s None = paper.none
best_in s (Some p) = paper.some (version_in s p)

-- where its key and its value lie
abbrev pub span_of : Place → Span
span_of p = record { ks = p.ks; ke = p.ke; vs = p.vs; ve = p.ve }

-- it lies in s
abbrev pub InBest : Bytes → Option Place → Type 0
InBest s None = Unit {0}
InBest s (Some p) = InBytes s (span_of p)

-- of an earlier run's version and a later run's, 'the version with the largest timestamp', and where they are equal the earlier run's
abbrev pub newer_of : Option Place → Option Place → Option Place
newer_of None b = b
newer_of (Some p) None = Some p
newer_of (Some p) (Some q) = cond (ltb p.time q.time) (Some q) (Some p)

abbrev pub later : paper.Option Version → paper.Option Version → paper.Option Version
later paper.none w = w
later (paper.some v) w = newer v w

-- the first version, if it has the key
abbrev pub first_of : Bytes → Run → paper.Option Version
first_of k [] = paper.none
first_of k (v ∷ vs) = cond (same_key k v.key) (paper.some v) paper.none

-- ---- own writes
-- the value of the first pair, if it has the key
abbrev pub own_of : Bytes → List Pair → paper.Option Bytes
own_of k [] = paper.none
own_of k (p ∷ ps) = cond (same_key k p.key) (paper.some p.value) paper.none

-- ---- answers
-- 'an empty value is a deletion'
abbrev pub present_of : Span → Option Span
present_of p = cond (ltb p.vs p.ve) (Some p) None

abbrev pub shown_of : Option Place → Option Span
shown_of None = None
shown_of (Some p) = present_of (span_of p)
