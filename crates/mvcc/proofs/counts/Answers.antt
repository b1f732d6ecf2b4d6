-- Each entry is counted, and what the history takes beside their heads is hashes.
use Rattle.std.proofs.Common.{inl, refl, arith}
use Rattle.std.proofs.lemmas.Iterator.Consumers.{YieldsList-from_first, count_from_yields_List}
use Rattle.mvcc.specs.Histories.{history_in, commit_of}
use Rattle.mvcc.proofs.Reading.{reads_in, history-size}
use Rattle.mvcc.proofs.counts.Goals as goal

pub count-entries-requires-clause-fits : goal.count-entries-requires-clause-fits
count-entries-requires-clause-fits c =
    let b = c.args.history.now in
    inl (omega (arith, history-size (history_in b) b (reads_in b c.requires)))

pub overflow_mul-result : goal.overflow_mul-result
overflow_mul-result c =
    let b = c.args.history.now in
    let n = count_from_yields_List _ c.count-entries.result c.count-entries.ensures.ran (YieldsList-from_first commit_of (λ s. history_in s.rest.now) _ refl) in
    omega (arith, n, history-size (history_in b) b (reads_in b c.requires))

pub overflow_sub-result : goal.overflow_sub-result
overflow_sub-result c =
    let b = c.args.history.now in
    let n = count_from_yields_List _ c.count-entries.result c.count-entries.ensures.ran (YieldsList-from_first commit_of (λ s. history_in s.rest.now) _ refl) in
    omega (arith, n, history-size (history_in b) b (reads_in b c.requires))

pub returns : goal.returns
returns c =
    let b = c.args.history.now in
    let n = count_from_yields_List _ c.count-entries.result c.count-entries.ensures.ran (YieldsList-from_first commit_of (λ s. history_in s.rest.now) _ refl) in
    (n, omega (arith, n, history-size (history_in b) b (reads_in b c.requires)))
