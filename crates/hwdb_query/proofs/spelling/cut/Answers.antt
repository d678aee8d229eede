use Rattle.std.proofs.Common.{arith, ◌<◌}
use Rattle.std.proofs.lemmas.Str.Pattern.{split_after}
use Rattle.hwdb_query.proofs.spelling.cut.Goals as goal

pub returns-clause-found : goal.returns-clause-found
returns-clause-found c = λ xs ys is none. let small : 58 < 128 = omega arith in split_after 58 c.args.text.now xs ys c.split_once.result c.split_once.ensures.cases small is none
