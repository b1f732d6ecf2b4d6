-- Each place that is not free adds its reader.
use native.Mathlib.Omega.{arith}
use Prim.Native.Nat.{ℕ, suc, ◌+◌, ◌*◌, ◌-◌, ◌/◌, ◌^◌, ◌<◌, ◌≤◌}
use mathlib.Core.Path.{◌≡◌, refl, sym, ap, ◌∙◌}
use mathlib.Core.List.{List, [], ◌∷◌}
use lib.ListN.{length}
use Rattle.std.proofs.lemmas.Nat.{div-add-mod'}
use Rattle.paper.specs.Keys.{Bytes}
use Rattle.paper.specs.Readers.{Row}
use Rattle.paper.specs.Store.{rows_of}
use Rattle.raw.proofs.Octets.{octets-of}
use Rattle.layout.proofs.Streams.{All}
use Rattle.table.specs.Rows.{lay_rows}
use Rattle.table.specs.Places.{reads_in}
use Rattle.table.proofs.Tags.{step, tag-cut, read-cut, reads_from, reads_none, reads_all, reads-few, reads-fields, reads-free, reads-taken}
use Rattle.table.proofs.RowsAnew.{lay-zero, lay-again, none_rows, made-rowed, made-fine, made_more}
use Rattle.table.proofs.rows_anew.Goals as goal

pub loop-i-init : goal.loop-i-init
loop-i-init c =
    let b₀ : Bytes = c.put_number.new.s in
    let count : ℕ = length c.args.places.now / c.args.stride in
    let e : b₀ ≡ lay_rows [] c.args.buf.now = c.put_number.ensures ∙ lay-zero c.args.buf.now in
    record {
      within = omega arith;
      long = refl;
      laid = sym (ap (λ (ts : List ℕ). lay_rows (rows_of ts) b₀) (reads_none c.args.places.now c.args.stride count) ∙ none_rows b₀ ∙ ap (lay_rows []) e ∙ lay-again [] [] c.args.buf.now (omega arith) ∙ sym e);
    }

-- where a place lies
pub overflow_mul-at : goal.overflow_mul-at
overflow_mul-at c =
    let b : Bytes = c.args.places.now in
    let w : ℕ = c.args.stride in
    let ends : (c.loop-i.i - 1) * w + w ≤ length b = omega (arith, step (c.loop-i.i - 1) (length b / w) w (omega arith), div-add-mod' (length b) w) in
    omega (arith, ends, c.well_formed)

pub add-requires : goal.add-requires
add-requires c =
    let b : Bytes = c.args.places.now in
    let w : ℕ = c.args.stride in
    let count : ℕ = length b / w in
    let laid : Bytes = c.put_number.new.s in
    let i = c.loop-i.invariant in
    let ts : List ℕ = reads_from b w count c.loop-i.i in
    let fields : All (λ r. r < 256 ^ 8) ts = reads-fields b w count c.loop-i.i i.within (octets-of b (λ j. omega (arith, c.type_inv.places j))) c.requires.0 (omega (arith, div-add-mod' (length b) w)) in
    let long : 8 + 16 * suc (length ts) ≤ length laid = omega (arith, reads-few b w count c.loop-i.i i.within) in
    let fits : length laid < 256 ^ 8 = omega (arith, c.well_formed) in
    (made-rowed laid ts c.number-then-number-ne0.result long fits fields c.loop-i.buf i.laid, made-fine laid ts c.number-then-number-ne0.result long fits fields c.loop-i.buf i.laid)

pub loop-i-preserved-then-number-ne0 : goal.loop-i-preserved-then-number-ne0
loop-i-preserved-then-number-ne0 c =
    let b : Bytes = c.args.places.now in
    let w : ℕ = c.args.stride in
    let count : ℕ = length b / w in
    let at : ℕ = (c.loop-i.i - 1) * w in
    let laid : Bytes = c.put_number.new.s in
    let i = c.loop-i.invariant in
    let ts : List ℕ = reads_from b w count c.loop-i.i in
    let t : ℕ = c.number-then-number-ne0.result in
    let fields : All (λ r. r < 256 ^ 8) ts = reads-fields b w count c.loop-i.i i.within (octets-of b (λ j. omega (arith, c.type_inv.places j))) c.requires.0 (omega (arith, div-add-mod' (length b) w)) in
    let long : 8 + 16 * suc (length ts) ≤ length laid = omega (arith, reads-few b w count c.loop-i.i i.within) in
    let fits : length laid < 256 ^ 8 = omega (arith, c.well_formed) in
    let wide : 16 ≤ at + w - at = omega arith in
    let r : reads_from b w count (c.loop-i.i - 1) ≡ t ∷ ts =
    reads-taken b w count c.loop-i.i i.within (omega arith) (λ e. c.if-number-ne0.true (c.number.ensures.value ∙ tag-cut b at (at + w - at) wide ∙ e))
    ∙ ap (λ (n : ℕ). n ∷ ts) (sym (c.number-then-number-ne0.ensures.value ∙ read-cut b at (at + w - at) wide)) in
    record {
      within = omega (arith, i.within);
      long = c.add.auto.region ∙ i.long;
      laid = c.add.ensures ∙ made_more laid ts t long fits fields c.loop-i.buf i.laid ∙ ap (λ (us : List ℕ). lay_rows (rows_of us) laid) (sym r);
    }

pub loop-i-preserved : goal.loop-i-preserved
loop-i-preserved c =
    let b : Bytes = c.args.places.now in
    let w : ℕ = c.args.stride in
    let at : ℕ = (c.loop-i.i - 1) * w in
    let i = c.loop-i.invariant in
    let free = reads-free b w (length b / w) c.loop-i.i i.within (omega arith) (sym (c.number.ensures.value ∙ tag-cut b at (at + w - at) (omega arith)) ∙ c.if-number-ne0.false) in
    record {
      within = omega (arith, i.within);
      long = i.long;
      laid = i.laid ∙ ap (λ (us : List ℕ). lay_rows (rows_of us) c.put_number.new.s) (sym free);
    }

pub returns : goal.returns
returns c =
    let b : Bytes = c.args.places.now in
    let w : ℕ = c.args.stride in
    let laid : Bytes = c.put_number.new.s in
    let e : laid ≡ lay_rows [] c.args.buf.now = c.put_number.ensures ∙ lay-zero c.args.buf.now in
    let rs : List Row = rows_of (reads_in b 0 w (length b / w)) in
    c.loop-i.invariant.laid ∙ ap (λ (us : List ℕ). lay_rows (rows_of us) laid) (reads_all b w (length b / w) c.loop-i.i (omega arith))
    ∙ ap (lay_rows rs) e ∙ lay-again rs [] c.args.buf.now (omega arith)
