-- The keys and values in a store have at most 16 bytes, as long as those that the calls hand over have.
-- Assumes nothing.
use Prim.Native.Nat.{ℕ, ◌+◌}
use mathlib.Core.Path.{◌≡◌, refl, subst}
use mathlib.Core.Bool.{Bool, true, false, ◌&&◌}
use mathlib.Core.List.{List, [], ◌∷◌}
use Rattle.paper.specs.Lists.{all, insert}
use Rattle.paper.specs.Keys.{Version, Pair, cmp_pair, cmp_version}
use Rattle.paper.specs.Runs.{Run, merge}
use Rattle.paper.specs.Store.{Txn, Store, runs_of, versions_of, txns_of, with_reads, with_writes, closed, with_txn}
use Rattle.paper.specs.Calls.{Reply, done, began, found, answered, committed, refused, Call, opening, begin, get, scan, put, delete, commit, end, freeze, called, new_txn, begun, stamped, active_after, stored, ended, frozen_store}
use Rattle.paper.proofs.Bools.{and_intro}
use Rattle.paper.proofs.Alls.{all_head, all_tail, all_cons, all_insert, all-insert_all}
use Rattle.paper.proofs.PlaceLaws.{found_all, put_all, out-all, seat-all}
use Rattle.serial.specs.Trace.{opens_anew}
use Rattle.serial.proofs.Steps.{Step, refuses, begins, gets, passes, hands, puts, deletes, fails, closes, stores, ends, rests, freezes, Live, step-called}
use Rattle.outputs.proofs.Short.{short, short_pair, short_version, Passes, seen-short, scanned-short}

abbrev short_txn : Txn → Bool
short_txn t = all short_pair t.own

pub record Short (s : Store) : Type 0 where
  pub txns : all short_txn (txns_of s.places) ≡ true
  pub runs : all (all short_version) (runs_of s) ≡ true

-- no opening, and what it hands over to be stored is short
abbrev pub brings : Call → Bool
brings (opening st images lengths room) = false
brings begin = true
brings (get h k room) = true
brings (scan h lo hi a b) = true
brings (put h k b) = short k && short b
brings (delete h k) = short k
brings (commit h) = true
brings (end h) = true
brings freeze = true

-- what it hands out is short
abbrev pub Brief : Reply → Type 0
Brief done = Unit {0}
Brief (began h r) = Unit {0}
Brief (found o) = Passes short o
Brief (answered o) = Passes short_pair o
Brief (committed n) = Unit {0}
Brief (refused r) = Unit {0}

all-merge : (p : Version → Bool) (rs : List Run) → all (all p) rs ≡ true → all p (merge rs) ≡ true
unfolding merge
all-merge p [] h = unfold all in refl
all-merge p (r ∷ rs) h = all-insert_all p cmp_version r (merge rs) (all_head (all p) r rs h) (all-merge p rs (all_tail (all p) r rs h))

stamped-short : (n : ℕ) (own : List Pair) → all short_pair own ≡ true → all short_version (stamped n own) ≡ true
unfolding stamped all
stamped-short n [] h = refl
stamped-short n (p ∷ ps) h = and_intro (all_head short_pair p ps h) (stamped-short n ps (all_tail short_pair p ps h))

module _ (s : Store) (h : Short s) where
  versions-short : all short_version (versions_of s) ≡ true
  versions-short = all-merge short_version (runs_of s) h.runs

  live-short : (t : Txn) → Live s t → short_txn t ≡ true
  live-short t l = found_all short_txn t.handle t s.places l.is_found h.txns

  -- a transaction put anew
  with-short : (t : Txn) → short_txn t ≡ true → Short (with_txn t s)
  unfolding with_txn
  with-short t k = record { txns = put_all short_txn t.handle t s.places k h.txns; runs = h.runs }

  reads_short : (t : Txn) (rs : List ℕ) → Live s t → Short (with_txn (with_reads rs t) s)
  unfolding with_reads
  reads_short t rs l = with-short (with_reads rs t) (live-short t l)

  writes_short : (t : Txn) (p : Pair) (ws : List ℕ) → Live s t → short_pair p ≡ true → Short (with_txn (with_writes (insert cmp_pair p t.own) ws t) s)
  unfolding with_writes
  writes_short t p ws l k = with-short (with_writes (insert cmp_pair p t.own) ws t) (all_insert short_pair cmp_pair p t.own k (live-short t l))

  closed-short : (t : Txn) → Live s t → Short (with_txn (closed t) s)
  unfolding closed
  closed-short t l = with-short (closed t) (live-short t l)

  begun-short : Short (begun s)
  unfolding begun new_txn all
  begun-short = record { txns = seat-all short_txn (new_txn s) s.places refl h.txns; runs = h.runs }

  stored_short : (t : Txn) → Live s t → Short (stored s t)
  unfolding stored active_after closed
  stored_short t l =
      record {
        txns = put_all short_txn t.handle (closed t) s.places (live-short t l) h.txns;
        runs =
            all_cons (all short_version) (active_after s t) s.frozen
            (all-insert_all short_version cmp_version (stamped (s.clock + 1) t.own) s.active (stamped-short (s.clock + 1) t.own (live-short t l))
            (all_head (all short_version) s.active s.frozen h.runs))
            (all_tail (all short_version) s.active s.frozen h.runs);
      }

  ended-short : (t : Txn) → Short (ended s t)
  unfolding ended
  ended-short t = record { txns = out-all short_txn t.handle s.places h.txns; runs = h.runs }

  frozen-short : Short (frozen_store s)
  unfolding frozen_store all
  frozen-short = record { txns = h.txns; runs = h.runs }

step-short : {s s' : Store} {c : Call} {r : Reply} → Step s c r s' → brings c ≡ true → Short s → Short s' × Brief r
step-short (refuses r n) b h = (h, tt)
step-short {s = s} (begins d) b h = (begun-short s h, tt)
step-short {s = s} (gets t k room l) b h =
    (reads_short s h t _ l, seen-short t.own (versions_of s) t.read (live-short s h t l) (versions-short s h) k)
step-short (passes g lo hi x y) b h = (h, tt)
step-short {s = s} (hands t lo hi x y p l e) b h =
    (reads_short s h t _ l, subst (Passes short_pair) e (scanned-short t.own (versions_of s) t.read (live-short s h t l) (versions-short s h) lo hi))
step-short {s = s} (puts t k v l) b h = (writes_short s h t (record { key = k; value = v }) _ l b, tt)
step-short {s = s} (deletes t k l) b h = (writes_short s h t (record { key = k; value = [] }) _ l (and_intro b refl), tt)
step-short {s = s} (fails t o l) b h = (closed-short s h t l, tt)
step-short {s = s} (closes t l e) b h = (closed-short s h t l, tt)
step-short {s = s} (stores t l e) b h = (stored_short s h t l, tt)
step-short {s = s} (ends t l) b h = (ended-short s h t, tt)
step-short rests b h = (h, tt)
step-short {s = s} freezes b h = (frozen-short s h, tt)

no-opening : (c : Call) → brings c ≡ true → opens_anew c ≡ false
unfolding opens_anew
no-opening (opening st images lengths room) b = cc
no-opening begin b = refl
no-opening (get h k room) b = refl
no-opening (scan h lo hi x y) b = refl
no-opening (put h k v) b = refl
no-opening (delete h k) b = refl
no-opening (commit h) b = refl
no-opening (end h) b = refl
no-opening freeze b = refl

pub called-short : (s : Store) (c : Call) → brings c ≡ true → Short s → Short (called s c).store × Brief (called s c).reply
called-short s c b h = step-short (step-called s c (no-opening c b)) b h
