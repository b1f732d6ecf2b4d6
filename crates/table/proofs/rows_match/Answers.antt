-- The buffer begins with the rows made, and the region holds these rows where it begins alike.
use native.Mathlib.Omega.{arith}
use Prim.Native.Nat.{ℕ, ◌+◌, ◌*◌, ◌/◌, ◌≤◌}
use mathlib.Core.Path.{◌≡◌, sym, ap, ◌∙◌}
use mathlib.Core.Bool.{true}
use mathlib.Core.List.{List, ◌++◌}
use mathlib.Core.Option.{some}
use lib.ListN.{length, take, drop, take-append-drop}
use lib.Seq.{take_at, length-take-le}
use Rattle.std.proofs.lemmas.Nat.{div-add-mod'}
use Rattle.std.proofs.lemmas.Slice.Eq.{starts_is}
use Rattle.std.proofs.lemmas.Bool.Decides.{Decides-eqb}
use Rattle.paper.specs.Keys.{Bytes, octets}
use Rattle.paper.specs.Lists.{is_some}
use Rattle.paper.specs.Readers.{Row}
use Rattle.paper.specs.Store.{rows_of}
use Rattle.raw.proofs.Octets.{octets-of}
use Rattle.layout.specs.Layout.{listed, row_stream}
use Rattle.table.specs.Rows.{read_in}
use Rattle.table.specs.Places.{reads_in}
use Rattle.table.proofs.Tags.{reads-long, reads_fit}
use Rattle.table.proofs.RowBytes.{RowsFit}
use Rattle.table.proofs.RowsAnew.{lay-read, lay-front, rows-some, reads-fit-rows, match-front}
use Rattle.table.proofs.rows_match.Goals as goal

pub rows_end-end-requires : goal.rows_end-end-requires
rows_end-end-requires c =
    let read : List ℕ = reads_in c.args.places.now 0 c.args.stride (length c.args.places.now / c.args.stride) in
    let made : List Row = rows_of read in
    let few : length read ≤ 64 = omega (arith, reads-long c.args.places.now c.args.stride (length c.args.places.now / c.args.stride) 0) in
    let held : RowsFit made = reads-fit-rows read (omega (arith, few)) (reads_fit c.args.places.now (octets-of _ (λ i. omega (arith, c.type_inv.places i))) c.args.stride (length c.args.places.now / c.args.stride) 0 c.requires.0 (omega (arith, div-add-mod' (length c.args.places.now) c.args.stride))) in
    ap is_some (ap read_in c.rows_anew.ensures ∙ lay-read made _ held)

pub returns : goal.returns
returns c =
    let q : Bytes = c.args.region.now in
    let y : octets q ≡ true = octets-of q (λ i. omega (arith, c.type_inv.region i)) in
    let read : List ℕ = reads_in c.args.places.now 0 c.args.stride (length c.args.places.now / c.args.stride) in
    let made : List Row = rows_of read in
    let few : length read ≤ 64 = omega (arith, reads-long c.args.places.now c.args.stride (length c.args.places.now / c.args.stride) 0) in
    let held : RowsFit made = reads-fit-rows read (omega (arith, few)) (reads_fit c.args.places.now (octets-of _ (λ i. omega (arith, c.type_inv.places i))) c.args.stride (length c.args.places.now / c.args.stride) 0 c.requires.0 (omega (arith, div-add-mod' (length c.args.places.now) c.args.stride))) in
    let buf : Bytes = c.rows_anew.new.buf in
    let end : ℕ = c.rows_end-end.result in
    let reads_as : read_in buf ≡ some made = ap read_in c.rows_anew.ensures ∙ lay-read made _ held in
    let end_is : end ≡ 8 + 16 * length made = c.rows_end-end.ensures.0 ∙ ap (λ (rs : List Row). 8 + 16 * length rs) (rows-some buf made reads_as) in
    let p : Bytes = take end buf in
    let front : p ≡ (listed row_stream).put made = ap (λ (n : ℕ). take n buf) end_is ∙ ap (take (8 + 16 * length made)) c.rows_anew.ensures ∙ lay-front made _ in
    let long : length p ≡ 8 + 16 * length made = length-take-le end buf c.rows_end-end.ensures.1 ∙ end_is in
    let begins = starts_is Decides-eqb q p c.starts_with.result c.starts_with.ensures.value in
    match-front q y made held c.starts_with.result
    (λ z. ap (take (8 + 16 * length made)) (begins.0 z) ∙ take_at p (drop (length p) q) (8 + 16 * length made) long ∙ front)
    (λ z. begins.1 (drop (8 + 16 * length made) q) (sym (take-append-drop (8 + 16 * length made) q) ∙ ap (λ (u : Bytes). u ++ drop (8 + 16 * length made) q) (z ∙ sym front)))
