-- Every call on a sound store leaves a sound store.
-- Assumes nothing.
use Prim.Native.Nat.{ℕ}
use mathlib.Core.Path.{◌≡◌, refl, ap, ◌∙◌}
use mathlib.Core.Bool.{Bool, true, false, cond}
use mathlib.Core.List.{List, [], ◌∷◌}
use lib.ListN.{length, take, drop, take-append-drop}
use lib.Dec.{leb}
use Rattle.paper.specs.Lists.{all}
use Rattle.paper.specs.Keys.{Bytes, octets}
use Rattle.paper.specs.Settings.{Settings}
use Rattle.paper.specs.Refusals.{Try, stop, go, ◌>>=◌}
use Rattle.paper.specs.Store.{Store}
use Rattle.paper.specs.Sound.{sound}
use Rattle.paper.specs.Calls.{done, Outcome, outcome, settle, open_store, images_in, try_open, Call, opening, begin, get, scan, put, delete, commit, end, freeze, tried, called, of_bytes}
use Rattle.paper.proofs.Bools.{and_left, and_right, and_intro}
use Rattle.paper.proofs.ImageBack.{octets-left, octets-right}
use Rattle.paper.proofs.SoundLaws.{After, begin-sound, end-sound, get-sound, scan-sound, put-sound, freeze-sound}
use Rattle.paper.proofs.CommitSound.{commit-sound}
use Rattle.paper.proofs.OpenSound.{opened-sound}

-- ---- the images of an opening
octets-none : octets [] ≡ true
unfolding octets all
octets-none = refl

pub octets-take : (n : ℕ) (s : Bytes) → octets s ≡ true → octets (take n s) ≡ true
octets-take n s o = octets-left (take n s) (drop n s) (ap octets (take-append-drop n s) ∙ o)

pub octets-drop : (n : ℕ) (s : Bytes) → octets s ≡ true → octets (drop n s) ≡ true
octets-drop n s o = octets-right (take n s) (drop n s) (ap octets (take-append-drop n s) ∙ o)

-- images lent as bytes are bytes
pub images-octets : (s : Bytes) (ns : List ℕ) → octets s ≡ true → all octets (images_in s ns) ≡ true
unfolding images_in all
images-octets s [] o = refl
images-octets s (n ∷ ns) o = and_intro (here (leb n (length s))) (images-octets (drop n s) ns (octets-drop n s o))
  where
    here : (b : Bool) → octets (cond b (take n s) []) ≡ true
    here true = octets-take n s o
    here false = octets-none

opened_after : (m : Try Store) → ((s : Store) → m ≡ go s → sound s ≡ true) → After (λ x. sound x ≡ true) (m >>= λ s. outcome done s)
unfolding After ◌>>=◌
opened_after (stop r) h = tt
opened_after (go s) h = h s refl

pub open-sound : (st : Settings) (images : Bytes) (lengths : List ℕ) (room : ℕ) → octets images ≡ true → After (λ x. sound x ≡ true) (try_open st images lengths room)
unfolding try_open
open-sound st images lengths room o =
    opened_after (open_store st (images_in images lengths) room)
    (λ s e. opened-sound st (images_in images lengths) room s (images-octets images lengths o) e)

-- ---- every call
pub tried-sound : (s : Store) (c : Call) → of_bytes c ≡ true → After (λ x. sound x ≡ true) (tried s c)
unfolding tried of_bytes
tried-sound s (opening st images lengths room) o = open-sound st images lengths room o
tried-sound s begin o = begin-sound s
tried-sound s (get h k room) o = get-sound s h k room
tried-sound s (scan h lo hi a b) o = scan-sound s h lo hi a b
tried-sound s (put h k b) o = put-sound s h k b (and_left (octets k) (octets b) o) (and_right (octets k) (octets b) o)
tried-sound s (delete h k) o = put-sound s h k [] o octets-none
tried-sound s (commit h) o = commit-sound s h
tried-sound s (end h) o = end-sound s h
tried-sound s freeze o = freeze-sound s

settled : (s : Store) (m : Try Outcome) → sound s ≡ true → After (λ x. sound x ≡ true) m → sound (settle s m).store ≡ true
unfolding settle After
settled s (stop r) e h = e
settled s (go o) e h = h

-- a call on a sound store leaves a sound store
pub called-sound : (s : Store) (c : Call) → of_bytes c ≡ true → sound s ≡ true → sound (called s c).store ≡ true
unfolding called
called-sound s c o e = settled s (tried s c) e (tried-sound s c o)
