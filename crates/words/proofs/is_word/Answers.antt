-- The length first, and then the letters.
use Rattle.std.proofs.Common.{sym, ◌∙◌, arith, rules, tests}
use Rattle.std.specs.Char.{is_ascii_alphanumeric}
use Rattle.std.proofs.lemmas.Iterator.{YieldsList-from_slice}
use Rattle.std.proofs.lemmas.Iterator.Search.{all_from_yields_List}
use Rattle.std.proofs.lemmas.Bool.Decides.{nat_tests}
use Rattle.words.proofs.Letters.{word-empty, word-long, word-is}
use Rattle.words.proofs.is_word.Goals as goal

pub returns-then-s-le16 : goal.returns-then-s-le16
returns-then-s-le16 c =
    all_from_yields_List is_ascii_alphanumeric _ _ _ c.all.ensures.ran (YieldsList-from_slice c.args.s.now cc) (λ x b q k. search (rules, tests))
    ∙ sym (word-is c.args.s.now (grind (arith, nat_tests)) (c.if-s-le16.true.1))

pub returns-else-s-le16 : goal.returns-else-s-le16
returns-else-s-le16 c = grind (arith, nat_tests, word-empty, word-long)
