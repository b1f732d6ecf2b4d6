-- A contract that says what a reply tells determines the reply: two replies that tell the same are equal.
-- Assumes nothing.
use Prim.Native.Nat.{ℕ}
use Rattle.std.specs.Prelude as std
use Rattle.std.specs.Prelude.{Some, None, Result, Ok, Err, ⊤}
use mathlib.Core.Path.{◌≡◌, refl, sym, ap, ap₂, ◌∙◌}
use Rattle.paper.specs.Refusals as paper
use Rattle.reply.specs.Told.{why, room_of, refusal_of, told_settled, told_begun, told_got, told_scanned, told_committed}
use Rattle.reply.specs.declared.Room.{Room}
use Rattle.reply.specs.declared.Room.TheVariants as room
use Rattle.reply.specs.declared.Refusal.{Refusal}
use Rattle.reply.specs.declared.Refusal.TheVariants as refusal
use Rattle.reply.specs.declared.Begun.{Begun}
use Rattle.reply.specs.declared.PairLengths.{PairLengths}

-- ---- a refusal told back
back_room : paper.Room → Room
back_room paper.places = room.Places
back_room paper.overlay = room.Overlay
back_room paper.read_set = room.ReadSet
back_room paper.write_set = room.WriteSet
back_room paper.out_buffer = room.OutBuffer
back_room paper.history = room.History
back_room paper.active_run = room.ActiveRun
back_room paper.run_area = room.RunArea
back_room paper.reader_table = room.ReaderTable
back_room paper.state_buffer = room.StateBuffer

-- no call of the host is refused for a missing reader or a script line
back : paper.Refusal → Refusal
back paper.empty_key = refusal.EmptyKey
back paper.too_long = refusal.TooLong
back paper.no_handle = refusal.NoHandle
back paper.is_closed = refusal.Closed
back (paper.no_room r) = refusal.NoRoom (back_room r)
back (paper.conflicts o) = refusal.Conflict o.number o.hash
back paper.counter_full = refusal.CounterFull
back paper.no_reader = refusal.Unsound
back paper.unsound = refusal.Unsound
back (paper.bad_run n) = refusal.BadRun n
back (paper.foreign_run n) = refusal.ForeignRun n
back paper.bad_setting = refusal.BadSetting
back paper.not_understood = refusal.Unsound

back-room : (r : Room) → back_room (room_of r) ≡ r
unfolding back_room
back-room room.Places = refl
back-room room.Overlay = refl
back-room room.ReadSet = refl
back-room room.WriteSet = refl
back-room room.OutBuffer = refl
back-room room.History = refl
back-room room.ActiveRun = refl
back-room room.RunArea = refl
back-room room.ReaderTable = refl
back-room room.StateBuffer = refl

back_is : (w : Refusal) → back (refusal_of w) ≡ w
unfolding back
back_is refusal.EmptyKey = refl
back_is refusal.TooLong = refl
back_is refusal.NoHandle = refl
back_is refusal.Closed = refl
back_is (refusal.NoRoom r) = ap refusal.NoRoom (back-room r)
back_is (refusal.Conflict n h) = refl
back_is refusal.CounterFull = refl
back_is refusal.Unsound = refl
back_is (refusal.BadRun n) = refl
back_is (refusal.ForeignRun n) = refl
back_is refusal.BadSetting = refl

same_why : (a b : Refusal) → why (refusal_of a) ≡ why (refusal_of b) → a ≡ b
same_why a b e = let h : refusal_of a ≡ refusal_of b = cc in sym (back_is a) ∙ ap back h ∙ back_is b

-- ---- replies that tell the same are equal
pub settled_same : (a b : Result ⊤ Refusal) → told_settled a ≡ told_settled b → a ≡ b
settled_same (Ok x) (Ok y) e = refl
settled_same (Ok x) (Err w) e = absurd (cc)
settled_same (Err w) (Ok y) e = absurd (cc)
settled_same (Err v) (Err w) e = ap Err (same_why v w e)

pub begun-same : (a b : Result Begun Refusal) → told_begun a ≡ told_begun b → a ≡ b
begun-same (Ok x) (Ok y) e =
    let h : x.handle ≡ y.handle = cc in let k : x.read ≡ y.read = cc in ap₂ (λ (m n : ℕ). Ok (record { handle = m; read = n })) h k
begun-same (Ok x) (Err w) e = absurd (cc)
begun-same (Err w) (Ok y) e = absurd (cc)
begun-same (Err v) (Err w) e = ap Err (same_why v w e)

pub got_same : (a b : Result (std.Option ℕ) Refusal) → told_got a ≡ told_got b → a ≡ b
got_same (Ok None) (Ok None) e = refl
got_same (Ok None) (Ok (Some m)) e = absurd (cc)
got_same (Ok (Some n)) (Ok None) e = absurd (cc)
got_same (Ok (Some n)) (Ok (Some m)) e = let h : n ≡ m = cc in ap (λ (x : ℕ). Ok (Some x)) h
got_same (Ok None) (Err w) e = absurd (cc)
got_same (Ok (Some n)) (Err w) e = absurd (cc)
got_same (Err w) (Ok None) e = absurd (cc)
got_same (Err w) (Ok (Some n)) e = absurd (cc)
got_same (Err v) (Err w) e = ap Err (same_why v w e)

pub scanned-same : (a b : Result (std.Option PairLengths) Refusal) → told_scanned a ≡ told_scanned b → a ≡ b
scanned-same (Ok None) (Ok None) e = refl
scanned-same (Ok None) (Ok (Some m)) e = absurd (cc)
scanned-same (Ok (Some n)) (Ok None) e = absurd (cc)
scanned-same (Ok (Some x)) (Ok (Some y)) e =
    let h : ◌≡◌ {A = ℕ × ℕ} (x.key, x.value) (y.key, y.value) = cc in ap (λ (p : ℕ × ℕ). Ok (Some (record { key = p.0; value = p.1 }))) h
scanned-same (Ok None) (Err w) e = absurd (cc)
scanned-same (Ok (Some n)) (Err w) e = absurd (cc)
scanned-same (Err w) (Ok None) e = absurd (cc)
scanned-same (Err w) (Ok (Some n)) e = absurd (cc)
scanned-same (Err v) (Err w) e = ap Err (same_why v w e)

pub committed-same : (a b : Result (std.Option ℕ) Refusal) → told_committed a ≡ told_committed b → a ≡ b
committed-same (Ok None) (Ok None) e = refl
committed-same (Ok None) (Ok (Some m)) e = absurd (cc)
committed-same (Ok (Some n)) (Ok None) e = absurd (cc)
committed-same (Ok (Some n)) (Ok (Some m)) e = let h : n ≡ m = cc in ap (λ (x : ℕ). Ok (Some x)) h
committed-same (Ok None) (Err w) e = absurd (cc)
committed-same (Ok (Some n)) (Err w) e = absurd (cc)
committed-same (Err w) (Ok None) e = absurd (cc)
committed-same (Err w) (Ok (Some n)) e = absurd (cc)
committed-same (Err v) (Err w) e = ap Err (same_why v w e)
