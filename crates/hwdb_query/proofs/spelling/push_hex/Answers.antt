use Rattle.hwdb_query.proofs.HexLemmas.{piece_done, all_done}
use Rattle.hwdb_query.proofs.spelling.push_hex.Goals as goal

pub loop-rest-preserved : goal.loop-rest-preserved
loop-rest-preserved c =
    piece_done c.loop-rest.text.items c.extend_from_slice.new.self.items c.split_at.result.0.now c.split_at.result.1.now c.loop-rest.rest.now _ c.encode_to_slice.new.output c.min.result
    c.split_at.ensures.front c.split_at.ensures.back (rw c.unwrap.ensures at c.encode_to_slice.ensures.written) c.in_ok-extend_from_slice.ensures.items c.loop-rest.invariant

pub returns : goal.returns
returns c = all_done c.loop-rest.text.items c.loop-rest.rest.now _ c.is_empty.result c.is_empty.ensures c.loop-rest-test.false c.loop-rest.invariant
