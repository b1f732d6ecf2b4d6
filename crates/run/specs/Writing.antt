-- Parts of an image as they are written.
-- Assumes nothing.
use Rattle.std.specs.Prelude.{ℕ, ◌++◌, length}
use Rattle.paper.specs.Keys.{Bytes}
use Rattle.paper.specs.Image.{big_endian, mark, format_version}

-- 'length 16 bits', and what it is the length of
abbrev pub field_bytes : Bytes → Bytes
field_bytes x = big_endian 2 (length x) ++ x

-- 'three bytes RUN, version 1 in 16 bits, record count in 32 bits'
unfoldable pub head_bytes : ℕ → Bytes
head_bytes n = mark ++ (big_endian 2 format_version ++ big_endian 4 n)
