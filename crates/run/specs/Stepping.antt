-- What stands at a place of a run's bytes, and where the next record starts.
-- Assumes nothing.
use Rattle.std.specs.Prelude.{ℕ, ◌+◌, ◌≡◌, cond, leb, length, drop, Option, Some, None, Result, Ok, Err}
use Rattle.std.proofs.Math.Option as math
use Rattle.paper.specs.Keys.{Bytes, Version}
use Rattle.paper.specs.Image.{one_record}
use Rattle.key.specs.declared.Place.{Place}
use Rattle.run.specs.declared.reader.Cut.{Cut}
use Rattle.run.specs.declared.reader.Reader.{Reader}

-- where the parts of a version lie whose record starts at an offset:
-- 'key length 16 bits, key, timestamp 64 bits, value length 16 bits, value'
abbrev pub place_for : ℕ → Version → Place
place_for at v =
    record {
      ks = at + 2;
      ke = at + 2 + length v.key;
      time = v.time;
      vs = at + 2 + length v.key + 10;
      ve = at + 2 + length v.key + 10 + length v.value;
    }

abbrev pub step_of : ℕ → math.Option (Version × Bytes) → Option (Result Place Cut)
step_of at math.none = Some (Err (record {}))
step_of at (math.some p) = Some (Ok (place_for at p.0))

-- the end, a version, or bytes that are cut
unfoldable pub step_at : Bytes → ℕ → Option (Result Place Cut)
step_at s at = let there = step_of at (one_record (drop at s)) in cond (leb (length s) at) None there

-- behind the version, or the end of the bytes
abbrev pub behind : ℕ → Option (Result Place Cut) → ℕ
behind n None = n
behind n (Some (Ok p)) = p.ve
behind n (Some (Err e)) = n

-- where the next record starts
unfoldable pub after_at : Bytes → ℕ → ℕ
after_at s at = behind (length s) (step_at s at)

-- a reader has handed out what stands at its place, and has gone one version further on
pub record Stepped (r : Reader) (step : Option (Result Place Cut)) (t : Reader) : Type 0 where
  pub stands : step ≡ step_at r.src.now r.at
  pub same : t.src ≡ r.src
  pub onward : t.at ≡ after_at r.src.now r.at
