-- The rows end where the history begins; the first of them has the smallest timestamp.
use native.Mathlib.Omega.{arith}
use Rattle.seat.proofs.Finding.{bytes_known}
use Rattle.committing.proofs.Histories.{history_room, rows-read, watermark-is}
use Rattle.committing.proofs.Transaction.watermark.Goals as goal

pub slice_bounds-smallest-count : goal.slice_bounds-smallest-count
slice_bounds-smallest-count c = let R = history_room c.args.state.now c.args.self.shape c.requires.0 c.requires.1 in omega arith

pub slice_bounds-smallest-start : goal.slice_bounds-smallest-start
slice_bounds-smallest-start c = let R = history_room c.args.state.now c.args.self.shape c.requires.0 c.requires.1 in omega arith

pub slice_bounds-smallest-end : goal.slice_bounds-smallest-end
slice_bounds-smallest-end c = let R = history_room c.args.state.now c.args.self.shape c.requires.0 c.requires.1 in omega arith

pub smallest-requires : goal.smallest-requires
smallest-requires c = rows-read c.args.state.now (bytes_known _ c.type_inv.state) c.requires.0 c.args.self.shape c.requires.1

pub returns : goal.returns
returns c = watermark-is c.args.state.now (bytes_known _ c.type_inv.state) c.requires.0 c.args.self.shape c.requires.1 _ c.args.clock c.smallest.ensures
