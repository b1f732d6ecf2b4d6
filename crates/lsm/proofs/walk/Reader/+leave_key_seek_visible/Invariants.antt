-- The unread versions fall at each step, but where `leave_key` hands the same heap to `seek_visible`: twice their number, and one more in `leave_key`.
use Rattle.merge.specs.Unread.{unread}
use lib.ListN.{length}
use Prim.Native.Nat.{◌+◌, ◌*◌}
use Rattle.lsm.proofs.walk.Reader.+leave_key_seek_visible.Given as goal

abbrev pub decreases-leave_key : goal.decreases-leave_key
decreases-leave_key l = 2 * length (unread l.self.s.now l.heap.now) + 1

abbrev pub decreases-seek_visible : goal.decreases-seek_visible
decreases-seek_visible l = 2 * length (unread l.self.s.now l.heap.now)
