-- The numbers of the settings written one after the other.
-- Assumes nothing.
use Prim.Native.Nat.{ℕ, ◌*◌, ◌≤◌}
use native.Mathlib.Omega.{arith}
use mathlib.Core.Path.{◌≡◌, sym, ap, ◌∙◌}
use mathlib.Core.List.{List, [], ◌∷◌, ◌++◌, append-nil}
use lib.ListN.{length, take, drop, take-append-drop}
use lib.Seq.{length-take-le}
use Rattle.paper.specs.Keys.{Bytes}
use Rattle.paper.specs.Image.{big_endian}
use Rattle.paper.specs.Settings.{Settings}
use Rattle.raw.specs.Bytes.{over}
use Rattle.raw.proofs.Over.{over_none, over-after, over-front, over-left}
use Rattle.layout.specs.Codec.{num, both, via, flag, put_all, room}
use Rattle.layout.specs.Offsets.{start_clock}
use Rattle.layout.specs.Layout.{n8, settings_stream, setting_numbers, settings_slot}
use Rattle.layout.proofs.Sizes.{put-append, put_one, all-long, total-same, n8-long, settings-put-long}

-- one number more: `l` is the buffer before the first of them, s with some of them, t with the next
pub put_next : (l s t : Bytes) (ns : List ℕ) (at n : ℕ) → at ≡ 8 * length ns → s ≡ over l 0 (put_all n8 ns) → t ≡ over s at (big_endian 8 n) → t ≡ over l 0 (put_all n8 (ns ++ (n ∷ [])))
unfolding num
put_next l s t ns at n e f g =
    let w : length (put_all n8 ns) ≡ 8 * length ns = all-long n8 (λ k. 8) n8-long ns ∙ total-same 8 ns in
    g ∙ ap (λ (u : Bytes). over u at (big_endian 8 n)) f
    ∙ over-after l 0 (put_all n8 ns) (omega arith) at (big_endian 8 n) (omega arith)
    ∙ ap (over l 0) (sym (put-append n8 ns (n ∷ []) ∙ ap (λ (u : Bytes). put_all n8 ns ++ u) (put_one n8 n)))

-- none of them
pub put-none : (l : Bytes) → l ≡ over l 0 (put_all n8 [])
unfolding put_all
put-none l = over_none l 0

-- all of them
pub put-settings : (st : Settings) → put_all n8 (setting_numbers st) ≡ settings_stream.put st
unfolding settings_stream via both flag num put_all
put-settings st = simp append-nil

-- the settings' slot is written, and the rest stays
pub over-settings : (b : Bytes) (st : Settings) → start_clock ≤ length b → over b 0 (settings_stream.put st) ≡ settings_slot.write st (take start_clock b) ++ drop start_clock b
unfolding settings_slot room
over-settings b st l =
    let x : Bytes = settings_stream.put st in
    let w = settings-put-long st in
    let k : length (take start_clock b) ≡ start_clock = length-take-le start_clock b l in
    ap (λ (u : Bytes). over u 0 x) (sym (take-append-drop start_clock b))
    ∙ over-left (take start_clock b) (drop start_clock b) 0 x (omega arith)
    ∙ ap (λ (u : Bytes). u ++ drop start_clock b) (over-front (take start_clock b) x)
