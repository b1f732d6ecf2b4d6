use Rattle.std.proofs.Common.{◌∙◌}
use Rattle.txn.proofs.Laying.{put-asked, put-laid}
use Rattle.txn.proofs.put_own.Goals as goal

pub put-size-requires : goal.put-size-requires
put-size-requires c = put-asked c.args.place.now c.requires.0 c.requires.1 c.used_at-used.result c.used_at-used.ensures c.args.key.now c.args.value.now c.requires.2

pub returns : goal.returns
returns c =
    c.put_number.ensures
    ∙ put-laid c.args.place.now c.requires.0 c.requires.1 c.used_at-used.result c.used_at-used.ensures c.args.key.now c.args.value.now c.requires.2 c.put-size.result c.put-size.new.room c.put-size.ensures.0 c.put-size.ensures.1
