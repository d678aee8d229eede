use Rattle.std.proofs.Common.{◌∙◌, rules}
use Rattle.hwdb_databases.specs.Internal.Holding.{shown_of}
use Rattle.hwdb_spec_commands.specs.Dump.{origin_of}
use Rattle.hwdb_databases.proofs.SaidLemmas.{said_is, unsaid_is}
use Rattle.hwdb_databases.proofs.records.is_said.Goals as goal

pub returns-in-Ok : goal.returns-in-Ok
returns-in-Ok c =
    let f = shown_of c.args.f.now in
    c.says.ensures
    ∙ said_is f c.args.text.now _ _ c.requires c.in-Ok.ensures.few c.in-Ok.ensures.faults (c.in-Ok.ensures.assignments (origin_of f))

pub returns-in-Err-TooManyLines : goal.returns-in-Err-TooManyLines
returns-in-Err-TooManyLines c =
    unsaid_is (shown_of c.args.f.now) c.args.text.now c.requires (search rules)
