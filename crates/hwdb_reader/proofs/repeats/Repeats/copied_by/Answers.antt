use Rattle.std.proofs.Common.{arith}
use Rattle.hwdb_reader.proofs.CopyLemmas.{copied_before, copied_near}
use Rattle.hwdb_reader.proofs.repeats.Repeats.copied_by.Goals as goal

pub returns-then-other-before : goal.returns-then-other-before
returns-then-other-before c =
    let r = c.get-repeat.result in
    (copied_near c.args.self.now r.first r.gap r.end c.args.place c.args.other c.get-repeat.ensures (omega arith) (omega arith) (omega arith) (omega arith), omega arith, omega arith)

pub returns : goal.returns
returns c =
    let r = c.get-repeat.result in
    (copied_before c.args.self.now r.first r.gap r.end c.args.place c.get-repeat.ensures (omega arith) (omega arith) (omega arith), omega arith, omega arith)
