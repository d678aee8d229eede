use Rattle.std.proofs.Common.{arith}
use Rattle.hwdb_pattern.proofs.SearchLemmas.{none_behind}
use Rattle.hwdb_pattern.proofs.search.may_close.Goals as goal

pub returns-then-at-close : goal.returns-then-at-close
returns-then-at-close c = λ _. none_behind c.args.pattern.now c.args.at c.args.close (omega arith) c.requires.closes
