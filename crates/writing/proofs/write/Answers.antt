-- The place is written where there is room, and stays as it is where there is none.
use mathlib.Core.Path.{◌∙◌}
use Rattle.std.proofs.lemmas.Result.{err_from_is_err_and}
use Rattle.writing.proofs.Placing.{hash-small, write-refused, write-room, write_done}
use Rattle.writing.proofs.write.Goals as goal

pub returns-in_err-room : goal.returns-in_err-room
returns-in_err-room c =
    let p = err_from_is_err_and c.from_residual.result c.from_residual.ensures.1 in
    rw (p.1, p.2) (write-refused c.args.rooms c.args.place.now c.args.key.now c.args.value.now _ (c.from-hash.ensures ∙ c.hash32.ensures) _ c.in_err-room.ensures)

pub put-requires : goal.put-requires
put-requires c =
    let w = write-room c.args.rooms c.args.place.now c.args.key.now c.args.value.now _ (c.from-hash.ensures ∙ c.hash32.ensures) c.in_ok-room.ensures in
    (c.requires.0, c.requires.1, c.requires.2, c.requires.3, hash-small c.args.rooms c.args.place.now c.args.key.now c.args.value.now _ (c.from-hash.ensures ∙ c.hash32.ensures), w.0, w.1)

pub returns : goal.returns
returns c =
    write_done c.args.rooms c.args.place.now c.args.key.now c.args.value.now _ (c.from-hash.ensures ∙ c.hash32.ensures) c.in_ok-room.ensures c.put.new.place c.put.ensures
