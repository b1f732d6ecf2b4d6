use Rattle.std.proofs.Common.{refl, ◌∙◌}
use Rattle.overlay.proofs.Putting.{ends, found-some, found-none}
use Rattle.overlay.proofs.Answering.{answer-hit, answer-miss}
use Rattle.overlay.proofs.own.Own.get.Goals as goal

pub returns-in_err-found : goal.returns-in_err-found
returns-in_err-found c =
    let m = found-none c.find.result c.in_err-found.ensures.value in
    rw c.from_residual.ensures (answer-miss c.args.self.bytes.now c.args.self.octets c.args.self.whole c.args.key.now m.0 (m.1 ∙ c.find.ensures))

pub slice_bounds-result-count : goal.slice_bounds-result-count
slice_bounds-result-count c =
    let f = found-some c.find.result c.in_ok-found.found c.in_ok-found.ensures.value ∙ c.find.ensures in
    (ends c.args.self.bytes.now c.args.self.octets c.args.self.whole c.args.key.now c.in_ok-found.found f).1

pub slice_bounds-result-start : goal.slice_bounds-result-start
slice_bounds-result-start c =
    let f = found-some c.find.result c.in_ok-found.found c.in_ok-found.ensures.value ∙ c.find.ensures in
    (ends c.args.self.bytes.now c.args.self.octets c.args.self.whole c.args.key.now c.in_ok-found.found f).1

pub slice_bounds-result-end : goal.slice_bounds-result-end
slice_bounds-result-end c =
    let f = found-some c.find.result c.in_ok-found.found c.in_ok-found.ensures.value ∙ c.find.ensures in
    (ends c.args.self.bytes.now c.args.self.octets c.args.self.whole c.args.key.now c.in_ok-found.found f).2

pub returns : goal.returns
returns c =
    let f = found-some c.find.result c.in_ok-found.found c.in_ok-found.ensures.value ∙ c.find.ensures in
    answer-hit c.args.self.bytes.now c.args.self.octets c.args.self.whole c.args.key.now c.in_ok-found.found f _ refl
