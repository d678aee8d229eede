use Rattle.std.proofs.Common.{◌∙◌, map}
use Rattle.std.proofs.lemmas.Result.{IfOk-weaker}
use Rattle.hwdb_test.specs.Views.{given_at, line_at}
use Rattle.hwdb_test.proofs.AboutLemmas.{unnamed_is}
use Rattle.hwdb_test.proofs.holding.others.Goals as goal

pub returns : goal.returns
returns c =
    IfOk-weaker c.without_keys.result _ _
    (λ list is. is ∙ unnamed_is (map line_at c.args.all.now) c.in_ok-keys.keys (map given_at c.args.found.now) c.in_ok-keys.ensures)
    c.without_keys.ensures
