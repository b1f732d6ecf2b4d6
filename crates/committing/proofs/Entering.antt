-- How a commit enters the history: what stays of it, the room for the new entry, and the bytes that are written; and that in the other mode nothing changes.
-- Assumes nothing.
use Prim.Native.Nat.{ℕ, ◌+◌, ◌*◌, ◌-◌, ◌/◌, ◌<◌, ◌≤◌}
use native.Mathlib.Omega.{arith}
use mathlib.Core.Path.{◌≡◌, refl, sym, ap, ap₂, ◌∙◌, subst}
use mathlib.Core.Bool.{Bool, true, false, cond}
use mathlib.Core.List.{List, [], ◌∷◌, ◌++◌}
use mathlib.Core.Option.{none, some}
use lib.ListN.{length, take, drop, length-drop}
use lib.Seq.{take_all}
use lib.Dec.{leb}
use borrow.Author.Tests.{le-leb, leb-true}
use Rattle.paper.specs.Lists.{keep, is_some}
use Rattle.paper.specs.Keys.{Bytes, octets}
use Rattle.paper.specs.Image.{big_endian}
use Rattle.paper.specs.Readers.{watermark}
use Rattle.paper.specs.History.{Commit, make_commit, prune}
use Rattle.paper.specs.Settings.{Settings}
use Rattle.paper.specs.Sound.{history_rules}
use Rattle.paper.specs.Store.{Txn, Store, hash_count, with_history}
use Rattle.paper.specs.Room.{history_fits}
use Rattle.paper.specs.Calls.{history_after}
use Rattle.paper.proofs.Bools.{and_intro, and_left, and_right}
use Rattle.paper.proofs.Alls.{rule}
use Rattle.paper.proofs.SoundLaws.{rules}
use Rattle.raw.specs.Bytes.{part, over}
use Rattle.raw.proofs.Parts.{length_part, part-part, drop-part}
use Rattle.raw.proofs.Over.{length_over, over-lent, over-within}
use Rattle.raw.proofs.Octets.{octets-part, octets-drop}
use Rattle.layout.specs.Codec.{many}
use Rattle.layout.specs.Layout.{store_in, write_store, listed, commit_stream}
use Rattle.layout.proofs.Streams.{All}
use Rattle.layout.proofs.LayoutLaws.{OkCommit, OkHistory, OkPlace, Fits}
use Rattle.layout.proofs.Sizes.{history-form, history-long}
use Rattle.layout.proofs.SoundState.{sound-read, sound-in, sound-again}
use Rattle.layout.proofs.SoundFits.{sound-fits, sound-ranged}
use Rattle.layout.proofs.Inside as inside
use Rattle.settings.specs.declared.Shape.{Shape}
use Rattle.settings.proofs.Shapes.{Shaped}
use Rattle.sets.specs.Sets.{set_hashes}
use Rattle.sets.proofs.Hashes.{set-part}
use Rattle.txn.specs.Place.{used_at, set_count}
use Rattle.txn.proofs.Reading.{SetAt, listed-laid}
use Rattle.mvcc.specs.Histories.{history_read, history_in, history_bytes, limits, CutAt}
use Rattle.mvcc.proofs.Checked.{fits-limits}
use Rattle.mvcc.proofs.Pruning.{cut-reads, cut-history}
use Rattle.mvcc.proofs.Entering.{after-long}
use Rattle.committing.specs.Held.{Placed, held_at}
use Rattle.committing.specs.Regions.{list_at, set_starts}
use Rattle.committing.proofs.Held.{Lying, held_shape, held_lies, held_writes, held-here}
use Rattle.committing.proofs.Histories.{history_room, history-lies, history-is}

-- ---- commits that fit their fields
all-kept : (q : Commit → Bool) (cs : List Commit) → All OkCommit cs → All OkCommit (keep q cs)
unfolding keep
all-kept q [] a = tt
all-kept q (c ∷ cs) a = go (q c) (all-kept q cs a.1)
  where
    go : (x : Bool) → All OkCommit (keep q cs) → All OkCommit (cond x (c ∷ keep q cs) (keep q cs))
    go true k = (a.0, k)
    go false k = k

pruned : (w : ℕ) (cs : List Commit) → All OkCommit cs → All OkCommit (prune w cs)
unfolding prune
pruned w cs a = all-kept (λ c. leb w c.number) cs a

all-last : (cs : List Commit) (c : Commit) → All OkCommit cs → OkCommit c → All OkCommit (cs ++ (c ∷ []))
all-last [] c a k = (k, tt)
all-last (d ∷ cs) c a k = (a.0, all-last cs c a.1 k)

module _ (b : Bytes) (o : octets b ≡ true) (z : Shape) (place : ℕ) (p : Placed b z place) where
  abbrev s : Store
  s = store_in b

  abbrev st : Settings
  st = (store_in b).settings

  abbrev t : Txn
  t = held_at b place

  S : Shaped (store_in b).settings z
  S = held_shape p

  -- ---- the history after the commit, in each mode
  entry : Commit
  entry = make_commit (s.clock + 1) t.writes

  mode-after : (x : Bool) → z.serializable ≡ x → history_after s t ≡ cond x (prune (watermark (s.clock + 1) s.readers) s.history ++ (entry ∷ [])) s.history
  unfolding history_after entry
  mode-after x e = ap (λ (y : Bool). cond y (prune (watermark (s.clock + 1) s.readers) s.history ++ (make_commit (s.clock + 1) t.writes ∷ [])) s.history) (sym S.serializable ∙ e)

  -- within its room, it fits its fields
  module _ (k : history_fits (store_in b).settings (history_after (store_in b) (held_at b place)) ≡ true) where
    few : (length (history_after s t) ≤ st.history_entries) × (hash_count (history_after s t) ≤ st.history_hashes)
    few =
        let x : Bool = leb (length (history_after s t)) st.history_entries in
        let y : Bool = leb (hash_count (history_after s t)) st.history_hashes in
        (leb-true (length (history_after s t)) st.history_entries (and_left x y k), leb-true (hash_count (history_after s t)) st.history_hashes (and_right x y k))

    pub after-ok : (store_in b).clock + 1 < 18446744073709551616 → OkHistory (store_in b).settings (history_after (store_in b) (held_at b place))
    unfolding entry
    after-ok u =
        let r = sound-ranged s (sound-in b p.sound) in
        ((go z.serializable refl, omega (arith, history-form (history_after s t), few, r.history_entries, r.history_hashes)), omega (arith, history-long (history_after s t), few))
      where
        F : Fits s
        F = sound-fits s (sound-in b p.sound)

        P : OkPlace st (some t)
        P = subst (OkPlace st) (held-here b o z place p) (inside.all-at (OkPlace st) s.places F.places.0 p.index none (omega (arith, p.inside, F.places.1)))

        w : ℕ
        w = watermark (s.clock + 1) s.readers

        go : (x : Bool) → z.serializable ≡ x → All OkCommit (history_after s t)
        go true e = subst (All OkCommit) (sym (mode-after true e)) (all-last (prune w s.history) entry (pruned w s.history F.history.0.0) (omega (arith, u), P.2.1.1.1.0))
        go false e = subst (All OkCommit) (sym (mode-after false e)) F.history.0.0

  -- ---- 'in the other mode sets and history are empty': the history stays as it is
  module _ (m : z.serializable ≡ false) where
    pub other_fits : true ≡ history_fits (store_in b).settings (history_after (store_in b) (held_at b place))
    unfolding history_rules
    other_fits =
        let l : List Bool = history_rules st s.clock s.history in
        let r = (rules s (sound-in b p.sound)).history in
        sym (ap (history_fits st) (mode-after false m) ∙ and_intro (go st.serializable (rule 2 l r)) (rule 3 l r))
      where
        go : (x : Bool) → leb (length s.history) (cond x st.history_entries 0) ≡ true → leb (length s.history) st.history_entries ≡ true
        go true e = e
        go false e = le-leb (length s.history) st.history_entries (omega (arith, leb-true (length s.history) 0 e))

    pub other-same : b ≡ write_store (with_history (history_after (store_in b) (held_at b place)) (store_in b)) b
    other-same = sym (ap (λ (cs : List Commit). write_store (with_history cs s) b) (mode-after false m) ∙ sound-again b o p.sound)

  -- ---- in serializable mode
  -- the write set
  write-set : (writes : ℕ) → writes ≡ (set_starts z place).writes → SetAt b writes z.writes t.writes
  write-set writes d = subst (λ (x : ℕ). SetAt b x z.writes t.writes) (sym d) (held_writes b o z place p)

  pub writes-lie : (writes : ℕ) → writes ≡ (set_starts z place).writes → writes + 8 + used_at b writes ≤ length b
  writes-lie writes d =
      let L = held_lies p in
      let W = write-set writes d in
      omega (arith, d, W.used, W.count, L.inside, L.wide)

  module _ (m : z.serializable ≡ true) (number : ℕ) (n : number ≡ (store_in b).clock + 1) (writes : ℕ) (d : writes ≡ (set_starts z place).writes) (cut : ℕ) (C : CutAt (list_at b z.history) (watermark number (store_in b).readers) cut) where
    W : SetAt b writes z.writes t.writes
    W = write-set writes d

    writes_are : set_hashes (list_at b writes) ≡ t.writes
    writes_are = let l = (writes-lie writes d) in set-part b (writes + 8) (used_at b writes) (set_count b writes) (omega (arith, W.used)) (omega arith) ∙ W.set

    -- what stays of the history
    abbrev stays : Bytes
    stays = drop cut (list_at b z.history)

    -- as the code lends it
    pub stays-lent : (E : Bytes) → E ≡ list_at b z.history → part E cut (length E - cut) ≡ stays
    stays-lent E e = let l = length-drop cut E in take_all (length E - cut) (drop cut E) (omega arith) ∙ ap (drop cut) e

    kept-is : history_in stays ≡ prune (watermark (s.clock + 1) s.readers) s.history
    kept-is =
        cut-history C
        ∙ ap₂ (λ (k : ℕ) (cs : List Commit). prune (watermark k s.readers) cs) n (history-is b o p.sound z p.shape)

    -- and the new entry behind it
    abbrev made : List Commit
    made = history_in stays ++ (make_commit number (set_hashes (list_at b writes)) ∷ [])

    made-is : made ≡ history_after s t
    unfolding entry
    made-is = ap₂ (λ (cs : List Commit) (e : Commit). cs ++ (e ∷ [])) kept-is (ap₂ make_commit n writes_are) ∙ sym (mode-after true m)

    pub stays-reads : is_some (history_read stays) ≡ true
    stays-reads = cut-reads C

    -- 'history after pruning plus the new entry above a limit'
    pub fits_told : (r : Bool) (E V : Bytes) → E ≡ list_at b z.history → V ≡ list_at b writes
        → ((e : Commit) → length e.hashes ≡ length V / 4 → r ≡ history_fits (limits z.entries z.hashes) (history_in (part E cut (length E - cut)) ++ (e ∷ [])))
        → r ≡ history_fits (store_in b).settings (history_after (store_in b) (held_at b place))
    unfolding entry
    fits_told r E V e v g =
        let n : length V ≡ used_at b writes = ap length v ∙ length_part b (writes + 8) (used_at b writes) (writes-lie writes d) in
        g entry (omega (arith, W.used))
        ∙ ap (λ (t : Bytes). history_fits (limits z.entries z.hashes) (history_in t ++ (entry ∷ []))) (stays-lent E e)
        ∙ ap₂ (λ (k l : ℕ). history_fits (limits k l) (history_in stays ++ (entry ∷ []))) S.entries S.hashes
        ∙ sym (fits-limits st (history_in stays ++ (entry ∷ [])))
        ∙ ap (λ (cs : List Commit). history_fits st (cs ++ (entry ∷ []))) kept-is
        ∙ sym (ap (history_fits st) (mode-after true m))

    module _ (k : history_fits (store_in b).settings (history_after (store_in b) (held_at b place)) ≡ true) where
      -- the bytes of the history after the commit are within its room
      pub made-long : length (history_bytes made) ≤ 16 * z.entries + 4 * z.hashes
      made-long =
          let q : length (history_bytes made) ≡ 16 * length (history_after s t) + 4 * hash_count (history_after s t) = ap (λ (cs : List Commit). length (history_bytes cs)) made-is ∙ history-form (history_after s t) in
          omega (arith, q, few k, S.entries, S.hashes)

      -- the number of the bytes in front of what was written
      pub entered : number < 18446744073709551616 → (next : ℕ) → next ≡ length (history_bytes made)
          → over (over b (z.history + 8) (history_bytes made)) z.history (big_endian 8 next) ≡ write_store (with_history (history_after (store_in b) (held_at b place)) (store_in b)) b
      entered u next g =
          let R = history_room b z p.sound p.shape in
          listed-laid (many commit_stream) made b z.history next (omega (arith, R.wide, R.inside)) g
          ∙ ap₂ (λ (at : ℕ) (cs : List Commit). over b at ((listed commit_stream).put cs)) S.history made-is
          ∙ sym (inside.change-history b s o (sound-read b p.sound) (history_after s t) (after-ok k (omega (arith, n, u))))

      -- the bytes as the code lends them: the history E, the write set V, and the state from the history's entries on, in which the hashes stand at `from`
      module _ (E V : Bytes) (e : E ≡ list_at b z.history) (v : V ≡ list_at b writes) where
        abbrev pub lent : Bytes
        lent = part b (z.history + 8) (length b - (z.history + 8))

        abbrev pub from : ℕ
        from = writes + 8 - (z.history + 8)

        abbrev pub hashes : Bytes
        hashes = part lent from (4 * (length V / 4))

        lies : Lying b z place
        lies = held_lies p

        -- how long each is
        longs : (length E ≡ used_at b z.history) × (length V ≡ used_at b writes)
        longs = (
          ap length e ∙ length_part b (z.history + 8) (used_at b z.history) (history-lies b o p.sound z p.shape),
          ap length v ∙ length_part b (writes + 8) (used_at b writes) (writes-lie writes d),
        )

        -- the history's room ends before the write set
        apart : z.history + 8 + (16 * z.entries + 4 * z.hashes) ≤ writes
        apart = let L = lies in omega (arith, d, L.history, L.active, L.area, L.places)

        -- the hashes are whole
        hashes-long : 4 * (length V / 4) ≡ used_at b writes
        hashes-long = let n = longs in omega (arith, W.used)

        pub lent-long : length lent ≡ length b - (z.history + 8)
        lent-long = let a = apart in let w = writes-lie writes d in length_part b (z.history + 8) (length b - (z.history + 8)) (omega arith)

        pub lent-hashes : hashes ≡ list_at b writes
        lent-hashes =
            let a = apart in
            let w = writes-lie writes d in
            let h = hashes-long in
            let i : z.history + 8 + from ≡ writes + 8 = omega arith in
            part-part b (z.history + 8) (length b - (z.history + 8)) from (4 * (length V / 4)) (omega arith) ∙ ap₂ (part b) i h

        pub lent-stays : part lent cut (length E - cut) ≡ stays
        lent-stays =
            let n = longs in
            let l = history-lies b o p.sound z p.shape in
            let c = C.to in
            let q : cut ≤ used_at b z.history = omega (arith, length_part b (z.history + 8) (used_at b z.history) l) in
            let i : length E - cut ≡ used_at b z.history - cut = omega arith in
            part-part b (z.history + 8) (length b - (z.history + 8)) cut (length E - cut) (omega arith)
            ∙ ap (part b (z.history + 8 + cut)) i
            ∙ sym (drop-part b (z.history + 8) (used_at b z.history) cut)

        -- the bytes of the history after the commit
        after-size : length (history_bytes made) ≡ length stays + 16 + length (list_at b writes)
        after-size =
            let n = length_part b (writes + 8) (used_at b writes) (writes-lie writes d) in
            after-long stays (octets-drop cut (list_at b z.history) (octets-part b (z.history + 8) (used_at b z.history) o)) stays-reads number (list_at b writes)
            (octets-part b (writes + 8) (used_at b writes) o) (omega (arith, n, W.used))

        pub enter-ready : (cut ≤ length E) × (length E ≤ length lent) × (length E - cut + 16 + 4 * (length V / 4) ≤ from) × (from + 4 * (length V / 4) ≤ length lent) × (is_some (history_read (part lent cut (length E - cut))) ≡ true)
        enter-ready =
            let a = apart in
            let n = longs in
            let k = hashes-long in
            let l = lent-long in
            let c = C.to in
            let q = length_part b (z.history + 8) (used_at b z.history) (history-lies b o p.sound z p.shape) in
            let w = length_part b (writes + 8) (used_at b writes) (writes-lie writes d) in
            let i = writes-lie writes d in
            let j = history-lies b o p.sound z p.shape in
            let g : length stays ≡ length (list_at b z.history) - cut = length-drop cut (list_at b z.history) in (
              omega arith,
              omega arith,
              omega (arith, after-size, made-long),
              omega arith,
              ap (λ (t : Bytes). is_some (history_read t)) lent-stays ∙ stays-reads,
            )

        made-there : history_in (part lent cut (length E - cut)) ++ (make_commit number (set_hashes hashes) ∷ []) ≡ made
        made-there = ap₂ (λ (t u : Bytes). history_in t ++ (make_commit number (set_hashes u) ∷ [])) lent-stays lent-hashes

        pub next-is : (next : ℕ) → next ≡ length (history_bytes (history_in (part lent cut (length E - cut)) ++ (make_commit number (set_hashes hashes) ∷ []))) → next ≡ length (history_bytes made)
        next-is next g = g ∙ ap (λ (cs : List Commit). length (history_bytes cs)) made-there

        -- what was written in the room is written in the state
        module _ (room : Bytes) (r : room ≡ over lent 0 (history_bytes (history_in (part lent cut (length E - cut)) ++ (make_commit number (set_hashes hashes) ∷ [])))) where
          room-is : room ≡ over lent 0 (history_bytes made)
          room-is = r ∙ ap (λ (cs : List Commit). over lent 0 (history_bytes cs)) made-there

          pub written : take (z.history + 8) b ++ (room ++ drop (length b - (z.history + 8)) (drop (z.history + 8) b)) ≡ over b (z.history + 8) (history_bytes made)
          written =
              let a = apart in
              let w = writes-lie writes d in
              let l = lent-long in
              let m₂ = made-long in
              let rl : length room ≡ length b - (z.history + 8) = ap length room-is ∙ length_over lent 0 (history_bytes made) (omega arith) ∙ lent-long in
              let i : z.history + 8 + 0 ≡ z.history + 8 = omega arith in
              let x : Bytes = history_bytes made in
              over-lent b room (z.history + 8) (length b - (z.history + 8)) rl
              ∙ ap (over b (z.history + 8)) room-is
              ∙ over-within b (z.history + 8) (length b - (z.history + 8)) 0 x (omega arith) (omega arith)
              ∙ ap (λ (j : ℕ). over b j x) i

          pub written-long : length (take (z.history + 8) b ++ (room ++ drop (length b - (z.history + 8)) (drop (z.history + 8) b))) ≡ length b
          written-long =
              let a = apart in
              let w = writes-lie writes d in
              let l = made-long in
              ap length written ∙ length_over b (z.history + 8) (history_bytes made) (omega arith)
