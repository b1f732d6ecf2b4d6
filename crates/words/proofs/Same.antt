-- The call of a line determines the command that was read: its bytes, and where in the line they stand.
-- Assumes nothing.
use mathlib.Core.Path.{◌≡◌, refl, sym, ap, ◌∙◌}
use mathlib.Core.List.{List}
use mathlib.Core.Option as maths
use Prim.Native.Nat.{ℕ}
use denote.Ref.{Bor}
use Rattle.std.specs.Prelude.{Option, Some, None, option_map}
use Rattle.paper.specs.Keys.{Bytes}
use Rattle.paper.specs.Bounds.{Bound, included, excluded, unbounded}
use Rattle.paper.specs.Calls.{Call, opening, begin, get, scan, put, delete, commit, end, freeze}
use Rattle.words.specs.Commands.{call_of, Within, places}
use Rattle.words.specs.declared.Command.{Command}
use Rattle.words.specs.declared.Command.TheVariants as command
use Rattle.words.proofs.Places.{places-are}

-- a reference to these bytes, at a place of no meaning
abbrev pub lent : Bytes → Bor Bytes
lent b = record { ref_ptr = (0, 0); now = b }

-- the command with its bytes at such a place
abbrev pub placeless : Command → Command
placeless command.Begin = command.Begin
placeless (command.Get h k) = command.Get h (lent k.now)
placeless (command.Put h k v) = command.Put h (lent k.now) (lent v.now)
placeless (command.Delete h k) = command.Delete h (lent k.now)
placeless (command.First h) = command.First h
placeless (command.Above h k) = command.Above h (lent k.now)
placeless (command.Commit h) = command.Commit h
placeless (command.End h) = command.End h
placeless command.Freeze = command.Freeze

-- ---- from a call back to the command
abbrev back_scan : ℕ → Bound → Option Command
back_scan h (included k) = None
back_scan h (excluded k) = Some (command.Above h (lent k))
back_scan h unbounded = Some (command.First h)

abbrev back : maths.Option Call → Option Command
back maths.none = None
back (maths.some (opening s i l r)) = None
back (maths.some begin) = Some command.Begin
back (maths.some (get h k r)) = Some (command.Get h (lent k))
back (maths.some (scan h lo hi r q)) = back_scan h lo
back (maths.some (put h k v)) = Some (command.Put h (lent k) (lent v))
back (maths.some (delete h k)) = Some (command.Delete h (lent k))
back (maths.some (commit h)) = Some (command.Commit h)
back (maths.some (end h)) = Some (command.End h)
back (maths.some freeze) = Some command.Freeze

back_is : (c : Option Command) → back (call_of c) ≡ option_map placeless c
back_is None = refl
back_is (Some command.Begin) = refl
back_is (Some (command.Get h k)) = refl
back_is (Some (command.Put h k v)) = refl
back_is (Some (command.Delete h k)) = refl
back_is (Some (command.First h)) = refl
back_is (Some (command.Above h k)) = refl
back_is (Some (command.Commit h)) = refl
back_is (Some (command.End h)) = refl
back_is (Some command.Freeze) = refl

-- the places in a line are the same wherever in memory the bytes lie
placeless-places : (l : Bytes) (c : Option Command) → places l (option_map placeless c) ≡ places l c
placeless-places l None = refl
placeless-places l (Some command.Begin) = refl
placeless-places l (Some (command.Get h k)) = refl
placeless-places l (Some (command.Put h k v)) = refl
placeless-places l (Some (command.Delete h k)) = refl
placeless-places l (Some (command.First h)) = refl
placeless-places l (Some (command.Above h k)) = refl
placeless-places l (Some (command.Commit h)) = refl
placeless-places l (Some (command.End h)) = refl
placeless-places l (Some command.Freeze) = refl

-- ---- commands of one call
-- they are the same command, with the same bytes
pub command-bytes : (c d : Option Command) → call_of c ≡ call_of d → option_map placeless c ≡ option_map placeless d
command-bytes c d e = sym (back_is c) ∙ ap back e ∙ back_is d

-- and where they lie within one line, these bytes stand at the same places
pub command-same : (l : Bytes) (c d : Option Command) (ps qs : List ℕ) → Within l c ps → Within l d qs → call_of c ≡ call_of d
    → (option_map placeless c ≡ option_map placeless d) × (ps ≡ qs)
command-same l c d ps qs v w e =
    let s = command-bytes c d e in
    (s, places-are l c ps v ∙ sym (placeless-places l c) ∙ ap (places l) s ∙ placeless-places l d ∙ sym (places-are l d qs w))
