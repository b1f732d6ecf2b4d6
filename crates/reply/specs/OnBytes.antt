-- A call on a state's bytes, as a host sees it: what the reply tells, and the bytes after the call.
-- Assumes nothing.
use Rattle.paper.specs.Keys.{Bytes}
use Rattle.paper.specs.Calls.{Reply, Call, value_out, key_out}
use Rattle.layout.specs.Layout.{on_bytes}
use Rattle.reply.specs.Told.{Told, told}

abbrev pub heard : Reply × Bytes → Told × Bytes
heard p = (told p.0, p.1)

-- what the reply tells, and the state's bytes after the call
unfoldable pub told_on : Call → Bytes → Told × Bytes
told_on c b = heard (on_bytes c b)

-- 'an answered get or scan writes exactly the value's, or key's and value's, first bytes of the out buffers'
unfoldable pub value_on : Call → Bytes → Bytes → Bytes
value_on c b out = value_out (on_bytes c b).0 out

unfoldable pub key_on : Call → Bytes → Bytes → Bytes
key_on c b out = key_out (on_bytes c b).0 out
