-- A dash is no word; then the letter decides.
use Rattle.std.proofs.Common.{sym, ◌∙◌, ap, eqb}
use Rattle.std.specs.Cmp.Lexicographic.{pointwise}
use Rattle.words.specs.Commands.{call_of}
use Rattle.words.proofs.Calls.{dashed, no-key, above}
use Rattle.words.proofs.Letters.{is_byte}
use Rattle.words.proofs.with_key.Goals as goal

pub returns-then-eq : goal.returns-then-eq
returns-then-eq c =
    ap call_of c.then_some.ensures
    ∙ sym (dashed c.args.letter c.args.handle c.args.key.now (sym (is_byte c.args.key.now 45) ∙ ap (pointwise eqb c.args.key.now) (sym c.as_slice.ensures) ∙ sym c.if-eq.ensures))

pub returns-then-not-is_word : goal.returns-then-not-is_word
returns-then-not-is_word c =
    sym (no-key c.args.letter c.args.handle c.args.key.now (sym (is_byte c.args.key.now 45) ∙ ap (pointwise eqb c.args.key.now) (sym c.as_slice.ensures) ∙ sym c.if-eq.ensures) (sym c.if-not-is_word.ensures))

pub returns-in-102 : goal.returns-in-102
returns-in-102 c = sym (above c.args.letter c.args.handle c.args.key.now c.in-102.is (sym c.if-not-is_word.ensures))
