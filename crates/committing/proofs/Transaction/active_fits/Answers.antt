-- Where the active run and the own writes lie, and whether both fit in its room.
use native.Mathlib.Omega.{arith}
use mathlib.Core.Path.{ap, ◌∙◌}
use Prim.Native.Nat.{ℕ, ◌+◌, ◌-◌}
use lib.Dec.{leb}
use Rattle.paper.specs.Keys.{Bytes}
use Rattle.paper.specs.Runs.{run_size}
use Rattle.raw.specs.Bytes.{part}
use Rattle.key.specs.Versions.{versions}
use Rattle.overlay.specs.Overlay.{pairs_in}
use Rattle.versions.specs.Absorbing.{joined}
use Rattle.seat.proofs.Finding.{bytes_known}
use Rattle.committing.proofs.Held.{held_lies}
use Rattle.committing.proofs.Joining.{run_ends, own-ends, fits-ready, fits_told}
use Rattle.committing.proofs.Transaction.active_fits.Goals as goal

pub overflow_add-from : goal.overflow_add-from
overflow_add-from c = let L = held_lies c.requires.0 in omega arith

pub overflow_sub-room : goal.overflow_sub-room
overflow_sub-room c = let L = held_lies c.requires.0 in omega arith

pub end_of-end-requires : goal.end_of-end-requires
end_of-end-requires c = let L = held_lies c.requires.0 in omega (arith, run_ends c.args.state.now (bytes_known _ c.type_inv.state) c.args.self.shape c.args.self.place c.requires.0)

pub overflow_add-self : goal.overflow_add-self
overflow_add-self c = let L = held_lies c.requires.0 in omega arith

pub end_of-stop-requires : goal.end_of-stop-requires
end_of-stop-requires c = own-ends c.args.state.now (bytes_known _ c.type_inv.state) c.args.self.shape c.args.self.place c.requires.0

pub slice_bounds-new-end : goal.slice_bounds-new-end
slice_bounds-new-end c = (fits-ready c.args.state.now (bytes_known _ c.type_inv.state) c.args.self.shape c.args.self.place c.requires.0 c.args.number c.requires.1 _ _ c.end_of-end.ensures c.end_of-stop.ensures).inside

pub new-own-requires : goal.new-own-requires
new-own-requires c = (fits-ready c.args.state.now (bytes_known _ c.type_inv.state) c.args.self.shape c.args.self.place c.requires.0 c.args.number c.requires.1 _ _ c.end_of-end.ensures c.end_of-stop.ensures).entries

pub slice_bounds-fits-end : goal.slice_bounds-fits-end
slice_bounds-fits-end c =
    let r = fits-ready c.args.state.now (bytes_known _ c.type_inv.state) c.args.self.shape c.args.self.place c.requires.0 c.args.number c.requires.1 _ _ c.end_of-end.ensures c.end_of-stop.ensures in
    omega (arith, r.apart, r.onward, r.inside)

pub fits-requires : goal.fits-requires
fits-requires c =
    let r = fits-ready c.args.state.now (bytes_known _ c.type_inv.state) c.args.self.shape c.args.self.place c.requires.0 c.args.number c.requires.1 _ _ c.end_of-end.ensures c.end_of-stop.ensures in
    (r.whole, r.aged)

pub returns : goal.returns
returns c =
    let from : ℕ = c.args.self.shape.active + 8 in
    fits_told c.args.state.now (bytes_known _ c.type_inv.state) c.args.self.shape c.args.self.place c.requires.0 c.args.number c.requires.1 _ _ c.end_of-end.ensures c.end_of-stop.ensures _
    (c.fits.ensures ∙ ap (λ (t : Bytes). leb (run_size (joined c.args.number (pairs_in t) (versions (part c.args.state.now from (c.end_of-end.result - from))))) (c.args.self.shape.area - from)) c.new-own.ensures)
