-- What the get told is told by numbers; the store has filled the out buffer.
use Rattle.reply.specs.Told.{got_told}
use Rattle.reply.proofs.Numbers.{got-number}
use Rattle.store.specs.Asked.{get_of}
use Rattle.host.proofs.Calling.{numbers_on_lem}
use Rattle.host.proofs.ngalovuki_get.Goals as goal

pub returns : goal.returns
returns c =
    let asked = get_of c.args.handle c.args.key.now c.args.out.now in
    (numbers_on_lem got_told got-number _ asked c.args.state.now _ _ c.args.reply.now _ c.get.ensures.0 c.tell.ensures, c.get.ensures.1)
