use Rattle.std.proofs.Common.{arith, ◌<◌}
use Rattle.std.proofs.lemmas.Str.Pattern.{split_after}
use Rattle.hwdb_tool.proofs.SideReadLemmas.{no_slash}
use Rattle.hwdb_tool.proofs.sides.cut.Goals as goal

pub returns-clause-none : goal.returns-clause-none
returns-clause-none c =
    let small : 47 < 128 = omega arith in
    no_slash c.args.path.now c.split_once.result (λ xs ys is none. split_after 47 c.args.path.now xs ys c.split_once.result c.split_once.ensures.cases small is none)
