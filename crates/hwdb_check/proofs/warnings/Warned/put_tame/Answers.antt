use Rattle.hwdb_spec_commands.specs.Findings.{one_warning}
use Rattle.hwdb_check.specs.Leaving.{file_line, names_of}
use Rattle.hwdb_check.proofs.MarkLemmas.{line_tame}
use Rattle.hwdb_check.proofs.PlainLemmas.{no_warnings, nothing_told}
use Rattle.hwdb_check.proofs.warnings.Warned.put_tame.Goals as goal

pub returns-then-line-tame : goal.returns-then-line-tame
returns-then-line-tame c =
    let line = file_line c.args.line.now in
    nothing_told (one_warning c.args.basis.manner.now.format c.args.line.now.path.now line) _ _
    (no_warnings c.args.basis.known.now.bytes.now line c.requires.quiet (line_tame c.args.line.now.text.now c.args.tame c.if-line-tame.true c.requires.tame) (names_of c.args.basis.manner.now))
