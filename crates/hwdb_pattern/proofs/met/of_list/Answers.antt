use Rattle.std.proofs.Common.{arith, ap, ◌∙◌, ◌∷◌, []}
use Rattle.hwdb_pattern.proofs.ListLemmas.{lone_member}
use Rattle.hwdb_pattern.proofs.met.of_list.Goals as goal

pub returns-then-len-eq1 : goal.returns-then-len-eq1
returns-then-len-eq1 c = ap (λ n. n ∷ []) c.index.ensures ∙ lone_member c.args.lengths.items _ (omega (arith, c.if-len-eq1.true, c.len.ensures, c.args.lengths.ok))
