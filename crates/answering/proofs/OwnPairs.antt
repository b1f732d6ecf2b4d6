-- Own writes are stated twice as bytes: as the pairs that a view reads, and as the entries of the layout's overlay. They are the same bytes.
-- Assumes nothing.
use mathlib.Core.Path.{◌≡◌, refl, sym, ap, ap₂, ◌∙◌}
use mathlib.Core.Bool.{true, not, ◌&&◌}
use mathlib.Core.List.{List, [], ◌∷◌, ◌++◌, append_assoc}
use lib.Dec.{leb}
use lib.ListN.{length}
use Rattle.paper.specs.Lists.{all, is_empty}
use Rattle.paper.specs.Keys.{Bytes, Pair, octets}
use Rattle.paper.specs.Image.{big_endian}
use Rattle.paper.specs.Settings.{longest}
use Rattle.paper.specs.Sound.{sound_key, sound_value, sound_pair}
use Rattle.paper.proofs.Bools.{and_left, and_right, and_intro}
use Rattle.paper.proofs.Alls.{all-mono}
use Rattle.layout.specs.Codec.{put_all}
use Rattle.layout.specs.Layout.{pair_stream}
use Rattle.overlay.specs.Overlay.{pairs_in, is_overlay}
use Rattle.overlay.proofs.Pairs.{pair-bytes, overlay-is, overlay-packed}
use Rattle.key.specs.Packing.{pack_all}
use Rattle.lsm.specs.Pairs.{pair_bytes, pairs_bytes, pairs, fitting, packed_pairs}
use Rattle.lsm.proofs.PairLaws.{pairs-back, packed-pairs}

-- one pair: key length, key, value length, value
pub pair_same : (p : Pair) → pair_stream.put p ≡ pair_bytes p
unfolding pair_bytes
pair_same p = pair-bytes p ∙ append_assoc (big_endian 2 (length p.key)) p.key (big_endian 2 (length p.value) ++ p.value)

-- pairs one after the other
pub pairs-same : (ps : List Pair) → put_all pair_stream ps ≡ pairs_bytes ps
unfolding put_all pack_all
pairs-same [] = refl
pairs-same (p ∷ ps) = ap₂ (λ (x y : Bytes). x ++ y) (pair_same p) (pairs-same ps)

-- a sound pair's parts fit their fields
pub sound-fitting : (p : Pair) → sound_pair p ≡ true → fitting p ≡ true
unfolding sound_pair sound_key sound_value fitting
sound-fitting p h =
    let k = and_left (sound_key p.key) (sound_value p.value) h in
    let v = and_right (sound_key p.key) (sound_value p.value) h in
    and_intro
    (and_left (leb (length p.key) longest) (octets p.key) (and_right (not (is_empty p.key)) (leb (length p.key) longest && octets p.key) k))
    (and_left (leb (length p.value) longest) (octets p.value) v)

-- the bytes of an overlay are packed pairs, and the same pairs
pub own-packed : (s : Bytes) → octets s ≡ true → is_overlay s ≡ true → (packed_pairs s ≡ true) × (pairs s ≡ pairs_in s)
own-packed s o h =
    let w = overlay-is s h in
    let f : all fitting (pairs_in s) ≡ true = all-mono sound_pair fitting sound-fitting (pairs_in s) w.sound in
    let e : pairs_bytes (pairs_in s) ≡ s = sym (pairs-same (pairs_in s)) ∙ overlay-packed s o h in
    (ap packed_pairs (sym e) ∙ packed-pairs (pairs_in s) w.rise f, ap pairs (sym e) ∙ pairs-back (pairs_in s) f)
