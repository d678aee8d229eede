use Rattle.std.proofs.Common.{◌<◌, ◌≤◌, arith, length, sym}
use Rattle.std.proofs.Math.Seq.{take_all}
use Rattle.hwdb_databases.proofs.SpellingLemmas.{cut_spelling}
use Rattle.hwdb_databases.proofs.spelling.Spelling.cut.Goals as goal

pub returns-clause-spelling : goal.returns-clause-spelling
returns-clause-spelling c way is =
    let read = c.len.ensures in
    let ok = c.args.self.now.froms.ok in
    let less = c.if-count-len.false in
    let few : c.args.count < length c.args.self.now.froms.items = omega (arith, read, ok, less) in
    cut_spelling way c.args.self.now _ c.args.count c.index-from.result.now few c.index-from.ensures c.truncate-2.ensures.items c.truncate.ensures.items is

pub returns-then-count-len-clause-froms : goal.returns-then-count-len-clause-froms
returns-then-count-len-clause-froms c =
    let all = c.args.self.now.froms.items in
    let read = c.len.ensures in
    let ok = c.args.self.now.froms.ok in
    let more = c.if-count-len.true in
    let many : length all ≤ c.args.count = omega (arith, read, ok, more) in
    sym (take_all c.args.count all many)
