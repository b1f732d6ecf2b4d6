use Rattle.std.proofs.Common.{◌≡◌, length, inl, sym, arith}
use Rattle.std.proofs.lemmas.Grind.{common_steps}
use Rattle.overlay.specs.Overlay.{pairs_in}
use Rattle.versions.proofs.Counting.{fits_verdict}
use Rattle.versions.proofs.Absorbing.{own-rise, own-long, own-few, own-count}
use Rattle.versions.proofs.fits.Goals as goal

pub count-requires-clause-fits : goal.count-requires-clause-fits
count-requires-clause-fits c = inl (omega (arith, own-few c.args.own, c.ranges.own))

pub returns-then-used-room : goal.returns-then-used-room
returns-then-used-room c =
    let n : c.count.result ≡ length (pairs_in c.args.own.bytes.now) = own-count c.args.own c.count.result c.count.ensures.ran in
    rw (fits_verdict c.args.records.now c.requires.0 c.args.number c.requires.1 (pairs_in c.args.own.bytes.now) (own-rise c.args.own) (length c.args.own.bytes.now) c.args.room (sym (own-long c.args.own))) (grind (arith, common_steps))

pub returns-else-used-room : goal.returns-else-used-room
returns-else-used-room c =
    rw (fits_verdict c.args.records.now c.requires.0 c.args.number c.requires.1 (pairs_in c.args.own.bytes.now) (own-rise c.args.own) (length c.args.own.bytes.now) c.args.room (sym (own-long c.args.own))) (grind (arith, common_steps))
