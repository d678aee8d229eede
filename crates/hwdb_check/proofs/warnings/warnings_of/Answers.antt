use Rattle.std.proofs.lemmas.Result.{IfOk-weaker}
use Rattle.hwdb_check.specs.Found.{finds}
use Rattle.hwdb_check.specs.Leaving.{names_of}
use Rattle.hwdb_check.proofs.FollowLemmas.{without_faults}
use Rattle.hwdb_check.proofs.warnings.warnings_of.Goals as goal

pub returns-then-branch : goal.returns-then-branch
returns-then-branch c =
    IfOk-weaker c.cut_warnings.result _ _
    (λ w told.
    without_faults c.args.telling.now.format (names_of c.args.telling.now) c.args.path.now c.args.bytes.now (finds w.found.items)
    ((c.in_ok-is_plain.ensures c.if-branch.true).faultless) told)
    c.cut_warnings.ensures
