-- The call that a command is, and where in its line key and value stand.
-- Assumes nothing.
use Rattle.std.specs.Prelude.{ℕ, suc, ◌-◌, ◌≤◌, ◌≡◌, ◌&&◌, ◌||◌, List, [], ◌∷◌, length, drop, eqb, Option, Some, None}
use Rattle.std.proofs.Math.Option as maths
use Rattle.paper.specs.Keys.{Bytes}
use Rattle.paper.specs.Bounds.{excluded, unbounded}
use Rattle.paper.specs.Settings.{longest}
use Rattle.paper.specs.Calls.{Call}
use Rattle.paper.specs.Replay.{is, is_word, given, either, from_of}
use Rattle.raw.specs.Bytes.{part}
use Rattle.words.specs.declared.Command.{Command}
use Rattle.words.specs.declared.Command.TheVariants as command

abbrev pub call_is : Command → Call
call_is command.Begin = Call.begin
call_is (command.Get h k) = Call.get h k.now longest
call_is (command.Put h k v) = Call.put h k.now v.now
call_is (command.Delete h k) = Call.delete h k.now
call_is (command.First h) = Call.scan h unbounded unbounded longest longest
call_is (command.Above h k) = Call.scan h (excluded k.now) unbounded longest longest
call_is (command.Commit h) = Call.commit h
call_is (command.End h) = Call.end h
call_is command.Freeze = Call.freeze

abbrev pub call_of : Option Command → maths.Option Call
call_of (Some c) = maths.some (call_is c)
call_of None = maths.none

-- ---- where key and value stand: the indices in the line at which they start
-- bytes are the rest of a line from an index on
abbrev pub Rest : Bytes → ℕ → Bytes → Type 0
Rest l i b = (i ≤ length l) × (b ≡ drop i l)

-- A command's key and value start at these indices, and lie within the line: one that is the last field is the rest of the line; a key in front of a value ends
-- at the space in front of that.
abbrev pub Within : Bytes → Option Command → List ℕ → Type 0
Within l None ps = ps ≡ []
Within l (Some command.Begin) ps = ps ≡ []
Within l (Some (command.Get h k)) ps = (i : ℕ) × (ps ≡ i ∷ []) × Rest l i k.now
Within l (Some (command.Put h k v)) ps = (i : ℕ) × (j : ℕ) × (ps ≡ i ∷ (j ∷ [])) × (suc i ≤ j) × (k.now ≡ part l i (j - 1 - i)) × Rest l j v.now
Within l (Some (command.Delete h k)) ps = (i : ℕ) × (ps ≡ i ∷ []) × Rest l i k.now
Within l (Some (command.First h)) ps = ps ≡ []
Within l (Some (command.Above h k)) ps = (i : ℕ) × (ps ≡ i ∷ []) × Rest l i k.now
Within l (Some (command.Commit h)) ps = ps ≡ []
Within l (Some (command.End h)) ps = ps ≡ []
Within l (Some command.Freeze) ps = ps ≡ []

-- the index of the last field, and of the field in front of it, by their lengths
abbrev pub last_place : Bytes → Bytes → ℕ
last_place l b = length l - length b

abbrev pub place_before : Bytes → Bytes → Bytes → ℕ
place_before l k v = last_place l v - 1 - length k

-- these indices, by the command
abbrev pub places : Bytes → Option Command → List ℕ
places l None = []
places l (Some command.Begin) = []
places l (Some (command.Get h k)) = last_place l k.now ∷ []
places l (Some (command.Put h k v)) = place_before l k.now v.now ∷ (last_place l v.now ∷ [])
places l (Some (command.Delete h k)) = last_place l k.now ∷ []
places l (Some (command.First h)) = []
places l (Some (command.Above h k)) = last_place l k.now ∷ []
places l (Some (command.Commit h)) = []
places l (Some (command.End h)) = []
places l (Some command.Freeze) = []

-- ---- what the private functions say
-- the call of a line that is a letter alone
abbrev pub lone_call : ℕ → maths.Option Call
lone_call f = either (given (eqb f 98) Call.begin) (given (eqb f 122) Call.freeze)

-- the call of a letter, the handle h behind it and the fields behind that
abbrev pub handled_call : ℕ → ℕ → List Bytes → maths.Option Call
handled_call f h [] = either (given (eqb f 99) (Call.commit h)) (given (eqb f 101) (Call.end h))
handled_call f h (k ∷ []) =
    either (given (eqb f 103 && is_word k) (Call.get h k longest))
    (either (given (eqb f 100 && is_word k) (Call.delete h k))
    (given (eqb f 102 && (is_word k || is k 45)) (Call.scan h (from_of k) unbounded longest longest)))
handled_call f h (k ∷ (b ∷ [])) = given (eqb f 112 && (is_word k && is_word b)) (Call.put h k b)
handled_call f h (k ∷ (b ∷ (x ∷ xs))) = maths.none
