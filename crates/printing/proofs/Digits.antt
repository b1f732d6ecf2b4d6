-- The library's decimal digits are the paper's.
-- Assumes nothing.
use Rattle.std.proofs.Common.{arith}
use mathlib.Core.Path.{◌≡◌, refl, sym, ap, ◌∙◌}
use mathlib.Core.Bool.{Bool, true, false}
use mathlib.Core.List.{[], ◌∷◌, ◌++◌, append_assoc, append-nil}
use Prim.Native.Nat.{ℕ, zero, suc, ◌+◌, ◌/◌, ◌%◌, ◌^◌, ◌≤◌, ◌<◌}
use lib.Dec.{ltb}
use borrow.Author.Tests.{ltb-true, ltb-false}
use Rattle.std.specs.Fmt as std
use Rattle.std.proofs.lemmas.Fmt.{decimal_digit, decimal_step}
use Rattle.paper.specs.Keys.{Bytes}
use Rattle.paper.specs.Replay.{decimal, decimal_of}
use Rattle.paper.proofs.Decimals.{decimal-last, decimal-turn, fewer_digits}

-- the digits of n, of which there are at most one more than f, in front of what follows
digits-in-front : (f n : ℕ) (tail : Bytes) → n < 10 ^ suc f → n < 2 ^ 64 → decimal (suc f) n tail ≡ std.decimal n ++ tail
digits-in-front zero n tail h w =
    let k : n < 10 = omega arith in
    decimal-last 0 n tail k ∙ ap (λ (s : Bytes). s ++ tail) (sym (decimal_digit n k))
digits-in-front (suc f) n tail h w = go (ltb n 10) refl (digits-in-front f (n / 10) ((48 + n % 10) ∷ tail) (fewer_digits n (suc f) h) (omega arith))
  where
    go : (b : Bool) → ltb n 10 ≡ b → decimal (suc f) (n / 10) ((48 + n % 10) ∷ tail) ≡ std.decimal (n / 10) ++ ((48 + n % 10) ∷ tail)
        → decimal (suc (suc f)) n tail ≡ std.decimal n ++ tail
    go true e further =
        let k : n < 10 = ltb-true n 10 e in
        decimal-last (suc f) n tail k ∙ ap (λ (s : Bytes). s ++ tail) (sym (decimal_digit n k))
    go false e further =
        let k : 10 ≤ n = ltb-false n 10 e in
        decimal-turn (suc f) n tail k ∙ further ∙ sym (append_assoc (std.decimal (n / 10)) ((48 + n % 10) ∷ []) tail)
        ∙ ap (λ (s : Bytes). s ++ tail) (sym (decimal_step n k w))

pub decimals-are : (n : ℕ) → n < 2 ^ 64 → std.decimal n ≡ decimal_of n
decimals-are n h = sym (digits-in-front 19 n [] (omega arith) h ∙ append-nil (std.decimal n))
