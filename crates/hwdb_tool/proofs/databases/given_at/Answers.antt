use Rattle.std.proofs.Common.{string_bytes}
use Rattle.hwdb_tool.specs.declared.databases.FoundDatabase.{FoundDatabase}
use Rattle.hwdb_plan.specs.Lemmas.Steps.{input_stops, input_told}
use Rattle.hwdb_tool.proofs.databases.given_at.Goals as goal

pub returns-in_err-bytes-clause-follows : goal.returns-in_err-bytes-clause-follows
returns-in_err-bytes-clause-follows g c = λ tells.
    input_stops (λ (f : FoundDatabase). string_bytes f.path) (λ f. f.bytes.items) (g.D.System.reads c.args.system.now) c.args.path.now c.in_err-bytes.field-0.0 c.from_residual.result (c.in_err-bytes.ensures.told tells) c.from_residual.ensures.1

pub returns-clause-follows : goal.returns-clause-follows
returns-clause-follows g c = λ tells next e ends.
    input_told (g.D.System.reads c.args.system.now) c.args.path.now (string_bytes c.in_ok-path.path) c.in_ok-bytes.bytes.items next e (c.in_ok-bytes.ensures.told tells) c.in_ok-path.ensures.ok ends
