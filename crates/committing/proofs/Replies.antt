-- How a commit ends: each return of its code.
-- Assumes nothing.
use Prim.Native.Nat.{ℕ, ◌+◌, ◌≤◌, ◌<◌}
use native.Mathlib.Omega.{arith}
use mathlib.Core.Path.{◌≡◌, refl, sym, ap, ◌∙◌}
use mathlib.Core.Bool.{true, false}
use mathlib.Core.Option.{Option, none, some}
use borrow.Author.Tests.{leb-true}
use Rattle.paper.specs.Lists.{is_empty}
use Rattle.paper.specs.Keys.{Bytes, octets}
use Rattle.paper.specs.Image.{big_endian, number_from}
use Rattle.paper.specs.History.{Opponent, opponent}
use Rattle.paper.specs.Refusals.{Refusal, no_room, counter_full, history, active_run, conflicts, Try, stop, go}
use Rattle.paper.specs.Room.{history_fits, active_fits}
use Rattle.paper.specs.Settings.{most_number}
use Rattle.paper.specs.Store.{Txn, Store, closed, with_txn}
use Rattle.paper.specs.Calls.{committed, refused, Outcome, in_open_txn, history_after, active_after, stored, try_store, judged, try_commit, Call, tried}
use Rattle.paper.proofs.SoundLaws.{rules}
use Rattle.raw.specs.Bytes.{part, over}
use Rattle.layout.specs.Layout.{store_in, sound_state, write_store, on_bytes}
use Rattle.layout.proofs.SoundState.{sound-read, sound-in}
use Rattle.layout.proofs.Inside as inside
use Rattle.mvcc.specs.Histories.{opponent_of}
use Rattle.mvcc.specs.declared.Conflict.{Conflict}
use Rattle.std.specs.Prelude.{Option as Answer, Some, None}
use Rattle.settings.specs.Shapes.{shape_of}
use Rattle.settings.specs.declared.Shape.{Shape}
use Rattle.reply.specs.Told.{Told, told, why, number, refusal_of}
use Rattle.reply.specs.declared.Refusal as reasons
use Rattle.reply.specs.OnBytes.{told_on}
use Rattle.seat.specs.Seats.{Seated}
use Rattle.committing.specs.Held.{Placed, held_at}
use Rattle.committing.specs.Storing.{heard_of, opponent_at, MayCommit, MayStore, MayWrite}
use Rattle.committing.proofs.Held.{held-own-none, held-own-some}
use Rattle.committing.proofs.Closing.{seat_placed, seat-held, closing}
use Rattle.committing.proofs.Checks.{commit_unentered, commit-none, commit-some, judged-by, judged-clear, store-clock, store-history, store-active, store-done}
use Rattle.committing.proofs.Writing.{placed}

-- what is heard of a refusal, and of an outcome
heard-stop : (b : Bytes) (m : Try Outcome) (r : Refusal) → m ≡ stop r → ◌≡◌ {A = Told × Bytes} (why r, b) (heard_of b m)
unfolding told
heard-stop b m r e = ap (heard_of b) (sym e)

heard-refused : (b a : Bytes) (m : Try Outcome) (r : Refusal) (s : Store) → m ≡ go (record { reply = refused r; store = s }) → a ≡ write_store s b → ◌≡◌ {A = Told × Bytes} (why r, a) (heard_of b m)
unfolding told
heard-refused b a m r s e f = ap (λ (u : Bytes). (why r, u)) f ∙ ap (heard_of b) (sym e)

heard-committed : (b a : Bytes) (m : Try Outcome) (n : Option ℕ) (s : Store) → m ≡ go (record { reply = committed n; store = s }) → a ≡ write_store s b → ◌≡◌ {A = Told × Bytes} (number n, a) (heard_of b m)
unfolding told
heard-committed b a m n s e f = ap (λ (u : Bytes). (number n, u)) f ∙ ap (heard_of b) (sym e)

heard-commit : (b : Bytes) (handle : ℕ) → heard_of b (try_commit (store_in b) handle) ≡ told_on (Call.commit handle) b
unfolding told_on on_bytes tried
heard-commit b handle = refl

-- ---- each return of `store_writes`
module _ (b : Bytes) (o : octets b ≡ true) (z : Shape) (place : ℕ) (m : MayStore b z place) where
  abbrev p : Placed b z place
  p = placed b z place m.commits

  module _ (clock : ℕ) (c : clock ≡ number_from 0 (part b 72 8)) where
    clock-is : clock ≡ (store_in b).clock
    clock-is = c ∙ inside.clock-at b (store_in b) o (sound-read b m.commits.sound)

    clock-most : (store_in b).clock ≤ most_number
    clock-most = leb-true (store_in b).clock most_number (rules (store_in b) (sound-in b m.commits.sound)).clock

    -- 'commit with writes, the clock at 2^64-1'
    pub clock-full : (clock + 1 < 18446744073709551616 → ⊥) → ◌≡◌ {A = Told × Bytes} (why counter_full, b) (heard_of b (try_store (store_in b) (held_at b place)))
    clock-full e = heard-stop b (try_store (store_in b) (held_at b place)) counter_full (store-clock (store_in b) (held_at b place) (omega (arith, clock-is, clock-most)))

    module _ (n : ℕ) (q : (clock + 1 < 18446744073709551616) × (n ≡ clock + 1)) where
      next : n ≡ (store_in b).clock + 1
      next = omega (arith, clock-is)

      -- what is asked to look at the room
      pub next-number : Placed b z place × (n ≡ (store_in b).clock + 1)
      next-number = (p, next)

      below : (store_in b).clock < most_number
      below = omega (arith, clock-is)

      -- 'history after pruning plus the new entry above a limit'
      pub history-full : history_fits (store_in b).settings (history_after (store_in b) (held_at b place)) ≡ false → ◌≡◌ {A = Told × Bytes} (why (no_room history), b) (heard_of b (try_store (store_in b) (held_at b place)))
      history-full e = heard-stop b (try_store (store_in b) (held_at b place)) (no_room history) (store-history (store_in b) (held_at b place) below e)

      module _ (e : history_fits (store_in b).settings (history_after (store_in b) (held_at b place)) ≡ true) where
        -- 'active run .. too small'
        pub active-full : active_fits (store_in b).settings (active_after (store_in b) (held_at b place)) ≡ false → ◌≡◌ {A = Told × Bytes} (why (no_room active_run), b) (heard_of b (try_store (store_in b) (held_at b place)))
        active-full f = heard-stop b (try_store (store_in b) (held_at b place)) (no_room active_run) (store-active (store_in b) (held_at b place) below e f)

        module _ (f : active_fits (store_in b).settings (active_after (store_in b) (held_at b place)) ≡ true) where
          pub may_write : MayWrite b z place n
          may_write = record { stores = m; next = next; number = below; history = e; active = f }

          pub writes-told : (a : Bytes) → a ≡ write_store (stored (store_in b) (held_at b place)) b → ◌≡◌ {A = Told × Bytes} (number (some n), a) (heard_of b (try_store (store_in b) (held_at b place)))
          writes-told a w =
              heard-committed b a (try_store (store_in b) (held_at b place)) (some n) (stored (store_in b) (held_at b place))
              (store-done (store_in b) (held_at b place) below e f ∙ ap (λ (k : ℕ). go (record { reply = committed (some k); store = stored (store_in b) (held_at b place) })) (sym next)) w

-- ---- each return of `judge`
module _ (b : Bytes) (z : Shape) (place : ℕ) (k : MayCommit b z place) (r : Answer Conflict) (f : opponent_of r ≡ opponent_at b place) where
  -- nobody is in the way
  module _ (g : r ≡ None) where
    clear : opponent_at b place ≡ none
    clear = sym f ∙ ap opponent_of g

    pub may-store : MayStore b z place
    may-store = record { commits = k; clear = clear }

    pub clear_told : (x : Told × Bytes) → x ≡ heard_of b (try_store (store_in b) (held_at b place)) → x ≡ heard_of b (judged (store_in b) (held_at b place) (opponent_at b place))
    clear_told x w = w ∙ ap (heard_of b) (sym (ap (judged (store_in b) (held_at b place)) clear ∙ judged-clear (store_in b) (held_at b place)))

  -- '6 alone marks its transaction closed'
  pub conflict-told : octets b ≡ true → (c : Conflict) → r ≡ Some c → (a : Bytes) → a ≡ over b (place + 16) (big_endian 8 0)
      → ◌≡◌ {A = Told × Bytes} (why (conflicts (record { number = c.number; hash = c.hash })), a) (heard_of b (judged (store_in b) (held_at b place) (opponent_at b place)))
  conflict-told o c g a w =
      let w₁ : Opponent = record { number = c.number; hash = c.hash } in
      let e : opponent_at b place ≡ some w₁ = sym f ∙ ap opponent_of g in
      let t = seat-held b k.sound z k.shape k.handle place k.read true k.seat o in
      heard-refused b a (judged (store_in b) (held_at b place) (opponent_at b place)) (conflicts w₁) (with_txn (closed k.seat.txn) (store_in b))
      (ap (judged (store_in b) (held_at b place)) e ∙ judged-by (store_in b) (held_at b place) w₁ ∙ ap (λ (u : Txn). go (record { reply = refused (conflicts w₁); store = with_txn (closed u) (store_in b) })) t)
      (w ∙ sym (closing b k.sound z k.shape k.handle place k.read true k.seat o))

-- ---- each return of `commit`
module _ (b : Bytes) (h : sound_state b ≡ true) (handle : ℕ) where
  -- 3, 4
  pub told_unentered : (w : reasons.Refusal) → in_open_txn (store_in b) handle ≡ stop (refusal_of w) → ◌≡◌ {A = Told × Bytes} (why (refusal_of w), b) (told_on (Call.commit handle) b)
  told_unentered w e = heard-stop b (try_commit (store_in b) handle) (refusal_of w) (commit_unentered (store_in b) handle (refusal_of w) e) ∙ heard-commit b handle

  module _ (o : octets b ≡ true) (z : Shape) (e : z ≡ shape_of (store_in b).settings) (place read : ℕ) (q : Seated (store_in b) handle place read true) where
    abbrev at : Placed b z place
    at = seat_placed b h z e handle place read true q

    held : held_at b place ≡ q.txn
    held = seat-held b h z e handle place read true q o

    module _ (used : ℕ) (u : used ≡ number_from 0 (part b (place + 24) 8)) where
      -- 'commit without writes: accepted, nothing checked or stored; the clock stays'
      pub no_writes : used ≡ 0 → (a : Bytes) → a ≡ over b (place + 16) (big_endian 8 0) → ◌≡◌ {A = Told × Bytes} (number none, a) (told_on (Call.commit handle) b)
      no_writes w a f =
          heard-committed b a (try_commit (store_in b) handle) none (with_txn (closed q.txn) (store_in b))
          (commit-none (store_in b) (sound-in b h) handle q.txn q.found q.marked (ap (λ (t : Txn). is_empty t.own) (sym held) ∙ held-own-none b o z place at (sym u ∙ w)))
          (f ∙ sym (closing b h z e handle place read true q o))
          ∙ heard-commit b handle

      module _ (w : used ≡ 0 → ⊥) where
        writing : is_empty q.txn.own ≡ false
        writing = ap (λ (t : Txn). is_empty t.own) (sym held) ∙ held-own-some b o z place at (λ k. w (u ∙ k))

        pub may-commit : MayCommit b z place
        may-commit = record { sound = h; shape = e; handle = handle; read = read; seat = q; writes = writing }

        pub judged-told : (x : Told × Bytes) → x ≡ heard_of b (judged (store_in b) (held_at b place) (opponent_at b place)) → x ≡ told_on (Call.commit handle) b
        judged-told x f =
            f
            ∙ ap (λ (t : Txn). heard_of b (judged (store_in b) t (opponent t.read t.reads (store_in b).history))) held
            ∙ ap (heard_of b) (sym (commit-some (store_in b) (sound-in b h) handle q.txn q.found q.marked writing))
            ∙ heard-commit b handle
