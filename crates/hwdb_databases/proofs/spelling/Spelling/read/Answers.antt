use Rattle.std.proofs.Common.{◌≡◌, ◌∙◌, ◌<◌, ◌≤◌, ap, arith, get_or, length}
use Rattle.hwdb_databases.proofs.SpellingLemmas.{all_read, read_one}
use Rattle.hwdb_databases.proofs.spelling.Spelling.read.Goals as goal

pub segments-preserved : goal.segments-preserved
segments-preserved c =
    let way = c.args.way.now in
    let old = c.segments.self in
    let s = c.index-way-len.result in
    let count = c.len.ensures in
    let ok = old.froms.ok in
    let more = c.segments-test.true in
    let few : length old.froms.items < length way = omega (arith, count, ok, more) in
    let read = c.len-in-segments.ensures in
    let at : c.len-in-segments.result ≡ length old.froms.items = omega (arith, read, ok) in
    let held = c.len-in-segments-2.ensures in
    let bytes_ok = old.bytes.ok in
    let from : c.len-in-segments-2.result ≡ length old.bytes.items = omega (arith, held, bytes_ok) in
    read_one way old _ s c.len-in-segments-2.result few (c.index-way-len.is ∙ ap (λ n. get_or way n s) at) from c.in_ok-push.ensures.items c.in_ok-push_segment.ensures c.segments.invariant

pub returns-clause-bytes : goal.returns-clause-bytes
returns-clause-bytes c =
    let count = c.len.ensures in
    let ok = c.segments.self.froms.ok in
    let none = c.segments-test.false in
    let many : length c.args.way.now ≤ length c.segments.self.froms.items = omega (arith, count, ok, none) in
    all_read c.args.way.now c.segments.self many c.segments.invariant
