-- Every definition opened at once, for claims that are computed.
-- Assumes nothing.
use Rattle.paper.specs.Lists as L
use Rattle.paper.specs.Keys as K
use Rattle.paper.specs.Bounds as B
use Rattle.paper.specs.Runs as R
use Rattle.paper.specs.Seen as S
use Rattle.paper.specs.Hash as H
use Rattle.paper.specs.Image as I
use Rattle.paper.specs.Readers as W
use Rattle.paper.specs.History as Y
use Rattle.paper.specs.Settings as G
use Rattle.paper.specs.Refusals as F
use Rattle.paper.specs.Store as T
use Rattle.paper.specs.Sound as D
use Rattle.paper.specs.Calls as C
use Rattle.paper.specs.Replay as P

-- `unfolding definitions` under a signature opens them all
unfoldable pub definitions : Unit {0}
unfolding L.all L.any L.keep L.total L.join L.rises_from L.rises L.insert L.insert_all L.hold_all L.among K.octets K.cmp_key K.cmp_version K.cmp_pair B.above B.below B.within R.merge R.version_size R.run_size S.candidate S.newer S.newest S.unless_empty S.visible S.own_write S.seen S.keys_of_run S.keys_of S.valued S.present S.scanned S.drained H.fnv_step H.fnv_from H.hash_of I.big_endian I.record_bytes I.records_bytes I.image_of I.bytes I.number_from I.number I.one_record I.records I.is_whole I.body I.verdict I.storable W.cmp_row W.sound_rows W.readers_at W.add_reader W.remove_reader W.watermark Y.cmp_commit Y.shared Y.opposes Y.opponent Y.conflict Y.in_conflict Y.prune G.ranges G.in_ranges G.granted G.state_length F.room_number F.refusal_number F.◌>>=◌ F.◌>>◌ F.must F.whether T.pair_size T.own_size T.image_size T.area_size T.hash_count T.latest T.latest_of T.find_txn T.put_txn T.seat T.txns_of T.handles_of T.read_numbers_of T.rows_of T.set_add T.with_reads T.with_writes T.closed T.with_txn D.sound_key D.sound_value D.is_set D.own_hashes D.same_numbers D.sound_set D.sound_writes D.sound_pair D.txn_rules D.sound_txn D.distinct D.same_row D.same_rows D.sound_commit D.history_rules D.sound_version D.sound_run D.newer_than D.run_rules D.state_rules D.sound C.settle C.in_txn C.in_open_txn C.good_key_value C.open_runs C.opened C.open_store C.images_in C.try_open C.new_txn C.begun C.try_begin C.try_get C.hand_out C.try_scan C.try_put C.stamped C.history_after C.active_after C.stored C.try_store C.judged C.try_commit C.ended C.try_end C.frozen_store C.freeze_active C.try_freeze C.tried C.called C.of_bytes C.value_out C.key_out C.reply_number C.try_add_row C.try_remove_row C.try_smallest C.try_timestamps P.pieces P.lines_of P.decimal_from P.is_handle P.is_word P.from_of P.line_call P.decimal P.fields_of P.spaced P.output_line P.replay_lines P.replay_settings P.replayed
definitions = tt
