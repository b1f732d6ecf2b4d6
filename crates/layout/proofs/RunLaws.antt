-- Calls on bytes, one after the other, answer as the paper's calls on the store in them.
-- Assumes nothing.
use Prim.Native.Nat.{ℕ}
use mathlib.Core.Path.{◌≡◌, refl, ap, ap₂, ◌∙◌}
use mathlib.Core.Bool.{true}
use mathlib.Core.List.{List, [], ◌∷◌}
use lib.ListN.{length}
use Rattle.paper.specs.Lists.{all}
use Rattle.paper.specs.Keys.{Bytes}
use Rattle.paper.specs.Store.{Store}
use Rattle.paper.specs.Calls.{Reply, Call, called}
use Rattle.paper.proofs.Alls.{all_head, all_tail}
use Rattle.layout.specs.Layout.{store_in, sound_state, on_bytes}
use Rattle.layout.specs.Runs.{run_on, run_in, lent}
use Rattle.layout.proofs.CallBytes.{on_bytes-reply, on_bytes-store, on_bytes-length, on_bytes-sound}

-- what calls on bytes give: the paper's replies, the paper's store, and as many bytes
pub record Ran (cs : List Call) (b : Bytes) : Type 0 where
  pub replies : (run_on cs b).0 ≡ (run_in cs (store_in b)).0
  pub store : store_in (run_on cs b).1 ≡ (run_in cs (store_in b)).1
  pub long : length (run_on cs b).1 ≡ length b

-- the other calls, on as many bytes
same-lent : (cs : List Call) (c : Call) (b : Bytes) → all (lent (length b)) (c ∷ cs) ≡ true → all (lent (length (on_bytes c b).1)) cs ≡ true
same-lent cs c b o = ap (λ (n : ℕ). all (lent n) cs) (on_bytes-length b c (all_head (lent (length b)) c cs o)) ∙ all_tail (lent (length b)) c cs o

-- whatever the bytes were
pub on_bytes-many : (cs : List Call) (b : Bytes) → all (lent (length b)) cs ≡ true → Ran cs b
unfolding run_on run_in
on_bytes-many [] b o = record { replies = refl; store = refl; long = refl }
on_bytes-many (c ∷ cs) b o =
    let p : lent (length b) c ≡ true = all_head (lent (length b)) c cs o in
    let s : store_in (on_bytes c b).1 ≡ (called (store_in b) c).store = on_bytes-store b c p in
    let r = on_bytes-many cs (on_bytes c b).1 (same-lent cs c b o) in
    record {
      replies = ap₂ (λ (x : Reply) (xs : List Reply). x ∷ xs) (on_bytes-reply b c) (r.replies ∙ ap (λ (x : Store). (run_in cs x).0) s);
      store = r.store ∙ ap (λ (x : Store). (run_in cs x).1) s;
      long = r.long ∙ on_bytes-length b c p;
    }

-- and a sound state stays sound
pub on_bytes-many-sound : (cs : List Call) (b : Bytes) → all (lent (length b)) cs ≡ true → sound_state b ≡ true → sound_state (run_on cs b).1 ≡ true
unfolding run_on
on_bytes-many-sound [] b o h = h
on_bytes-many-sound (c ∷ cs) b o h =
    on_bytes-many-sound cs (on_bytes c b).1 (same-lent cs c b o) (on_bytes-sound b c (all_head (lent (length b)) c cs o) h)
