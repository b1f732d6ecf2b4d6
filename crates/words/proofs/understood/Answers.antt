-- The letter, the handle, and then the rest: each field is the next of the line's pieces. Where they stand follows from the call.
use Rattle.std.proofs.Common.{List, ◌∷◌, ap, sym, ◌∙◌, arith, rules, tests}
use Rattle.paper.specs.Keys.{Bytes}
use Rattle.std.specs.Prelude.{None}
use Rattle.words.specs.Commands.{call_of}
use Rattle.words.proofs.Pieces.{first-field, took, ended, took-some, ended-none}
use Rattle.words.proofs.Calls.{no-letter, lone-line, no-handle, handled-line}
use Rattle.words.proofs.Places.{line-within}
use Rattle.words.proofs.understood.Goals as goal

pub returns-then-letter-ne1 : goal.returns-then-letter-ne1
returns-then-letter-ne1 c =
    let letter = first-field c.args.line.now c.split-fields.result c.in_ok-letter.letter c.next.new.self c.in_ok-letter.ensures.steps c.split-fields.ensures.rest c.split-fields.ensures.done c.split-fields.ensures.closure (λ y b q k. search (rules, tests)) in
    line-within c.args.line.now None (sym (no-letter c.args.line.now _ _ letter.1 c.if-letter-ne1.true))

pub returns-in_default : goal.returns-in_default
returns-in_default c =
    let letter = first-field c.args.line.now c.split-fields.result c.in_ok-letter.letter c.next.new.self c.in_ok-letter.ensures.steps c.split-fields.ensures.rest c.split-fields.ensures.done c.split-fields.ensures.closure (λ y b q k. search (rules, tests)) in
    line-within c.args.line.now c.alone.result
    (c.alone.ensures ∙ sym (lone-line c.args.line.now _ _ letter.1 (omega arith) (ended _ letter.2 c.next-2.new.self c.in_default.ensures.steps)))

pub returns-in_err-handle : goal.returns-in_err-handle
returns-in_err-handle c =
    let letter = first-field c.args.line.now c.split-fields.result c.in_ok-letter.letter c.next.new.self c.in_ok-letter.ensures.steps c.split-fields.ensures.rest c.split-fields.ensures.done c.split-fields.ensures.closure (λ y b q k. search (rules, tests)) in
    let handle = took _ letter.2 c.in-Some.handle c.next-2.new.self c.in-Some.ensures.steps in
    line-within c.args.line.now c.from_residual-in_err-handle.result
    (ap call_of c.from_residual-in_err-handle.ensures ∙ sym (no-handle c.args.line.now _ _ letter.1 (omega arith) _ _ handle.1 (sym c.in_err-handle.ensures)))

pub returns-in_default-next : goal.returns-in_default-next
returns-in_default-next c =
    let letter = first-field c.args.line.now c.split-fields.result c.in_ok-letter.letter c.next.new.self c.in_ok-letter.ensures.steps c.split-fields.ensures.rest c.split-fields.ensures.done c.split-fields.ensures.closure (λ y b q k. search (rules, tests)) in
    let handle = took _ letter.2 c.in-Some.handle c.next-2.new.self c.in-Some.ensures.steps in
    line-within c.args.line.now c.with_handle.result
    (c.with_handle.ensures
    ∙ sym (handled-line c.args.line.now _ _ letter.1 (omega arith) _ _ handle.1 _ (sym c.in_ok-handle.ensures) _ (ended _ handle.2 c.next-3.new.self c.in_default-next.ensures.steps)))

pub returns-in_default-next-2 : goal.returns-in_default-next-2
returns-in_default-next-2 c =
    let letter = first-field c.args.line.now c.split-fields.result c.in_ok-letter.letter c.next.new.self c.in_ok-letter.ensures.steps c.split-fields.ensures.rest c.split-fields.ensures.done c.split-fields.ensures.closure (λ y b q k. search (rules, tests)) in
    let handle = took _ letter.2 c.in-Some.handle c.next-2.new.self c.in-Some.ensures.steps in
    let key = took _ handle.2 c.in-Some-next.key c.next-3.new.self c.in-Some-next.ensures.steps in
    line-within c.args.line.now c.with_key.result
    (c.with_key.ensures
    ∙ sym (handled-line c.args.line.now _ _ letter.1 (omega arith) _ _ handle.1 _ (sym c.in_ok-handle.ensures) _ (key.1 ∙ ap (λ (ps : List Bytes). c.in-Some-next.key.now ∷ ps) (ended _ key.2 c.next-4.new.self c.in_default-next-2.ensures.steps))))

pub returns-then-is_some : goal.returns-then-is_some
returns-then-is_some c =
    let letter = first-field c.args.line.now c.split-fields.result c.in_ok-letter.letter c.next.new.self c.in_ok-letter.ensures.steps c.split-fields.ensures.rest c.split-fields.ensures.done c.split-fields.ensures.closure (λ y b q k. search (rules, tests)) in
    let handle = took _ letter.2 c.in-Some.handle c.next-2.new.self c.in-Some.ensures.steps in
    let key = took _ handle.2 c.in-Some-next.key c.next-3.new.self c.in-Some-next.ensures.steps in
    let value = took _ key.2 c.in-Some-next-2.value c.next-4.new.self c.in-Some-next-2.ensures.steps in
    let more = took-some _ value.2 c.next-5.result c.next-5.new.self c.next-5.ensures.steps (sym c.if-is_some.ensures) in
    line-within c.args.line.now None
    (sym (handled-line c.args.line.now _ _ letter.1 (omega arith) _ _ handle.1 _ (sym c.in_ok-handle.ensures) _
    (key.1 ∙ ap (λ (ps : List Bytes). c.in-Some-next.key.now ∷ ps) (value.1 ∙ ap (λ (ps : List Bytes). c.in-Some-next-2.value.now ∷ ps) more.2))))

pub returns : goal.returns
returns c =
    let letter = first-field c.args.line.now c.split-fields.result c.in_ok-letter.letter c.next.new.self c.in_ok-letter.ensures.steps c.split-fields.ensures.rest c.split-fields.ensures.done c.split-fields.ensures.closure (λ y b q k. search (rules, tests)) in
    let handle = took _ letter.2 c.in-Some.handle c.next-2.new.self c.in-Some.ensures.steps in
    let key = took _ handle.2 c.in-Some-next.key c.next-3.new.self c.in-Some-next.ensures.steps in
    let value = took _ key.2 c.in-Some-next-2.value c.next-4.new.self c.in-Some-next-2.ensures.steps in
    let none = ended-none _ value.2 c.next-5.result c.next-5.new.self c.next-5.ensures.steps (sym c.if-is_some.ensures) in
    line-within c.args.line.now c.with_value.result
    (c.with_value.ensures
    ∙ sym (handled-line c.args.line.now _ _ letter.1 (omega arith) _ _ handle.1 _ (sym c.in_ok-handle.ensures) _
    (key.1 ∙ ap (λ (ps : List Bytes). c.in-Some-next.key.now ∷ ps) (value.1 ∙ ap (λ (ps : List Bytes). c.in-Some-next-2.value.now ∷ ps) none))))
