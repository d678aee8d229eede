use Rattle.std.proofs.Common.{◌∙◌, sym}
use Rattle.std.proofs.lemmas.Result.{IfOk-weaker}
use Rattle.hwdb_check.specs.Found.{finds}
use Rattle.hwdb_check.specs.Internal.{texts}
use Rattle.hwdb_check.proofs.AllowedLemmas.{bare_found}
use Rattle.hwdb_check.proofs.left.left_if.Goals as goal

pub returns : goal.returns
returns c =
    IfOk-weaker c.warnings_of.result _ _
    (λ w told.
    bare_found c.args.manner.now.format (texts c.args.manner.now.allowed.now) c.args.path.now c.args.bytes.now (sym c.any_allowed.ensures ∙ c.if-any_allowed.false) (finds w.found.items) told)
    c.warnings_of.ensures
