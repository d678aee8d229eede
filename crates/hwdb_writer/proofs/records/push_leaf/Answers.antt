use Rattle.std.proofs.Common.{◌∙◌, ◌++◌, ap, List, ℕ, arith}
use Rattle.std.proofs.lemmas.Result.{on_ok_weaker}
use Rattle.hwdb_writer.proofs.NumberLemmas.{leaf_same}
use Rattle.hwdb_writer.proofs.records.push_leaf.Goals as goal

pub returns : goal.returns
returns c =
    on_ok_weaker c.push_seven.result
    (λ h. h ∙ ap (λ (t : List ℕ). c.args.out.now.items ++ t) (leaf_same c.args.prefix c.args.children _ _ _ c.args.value.now.line c.args.value.now.priority _ (omega arith) (omega arith) (omega arith) c.origin_of-origin.ensures))
    c.push_seven.ensures
