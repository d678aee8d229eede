use Rattle.std.proofs.Common.{◌≡◌, ◌∙◌, ◌++◌, ap, arith, length}
use Rattle.std.specs.Prelude.{filter, flat_map}
use Rattle.std.proofs.lemmas.List.{take_all}
use Rattle.hwdb_spec_commands.specs.Findings.{one_warning}
use Rattle.hwdb_spec_commands.specs.Warnings.{gets}
use Rattle.hwdb_check.specs.Found.{finds}
use Rattle.hwdb_check.specs.Internal.{clean_of, read_line}
use Rattle.hwdb_check.specs.Leaving.{names_of}
use Rattle.hwdb_check.proofs.warnings.Warned.put_all.Goals as goal

pub returns : goal.returns
returns c =
    let line = c.args.line.now in
    let test = gets (names_of c.args.telling.now) line.bytes.now (read_line line) (clean_of line) in
    let count : length c.kinds_of-kinds.result ≡ 17 = ap length c.kinds_of-kinds.ensures in
    c.loop-kind.invariant
    ∙ ap (λ ks. finds c.args.self.now.found.items ++ flat_map (one_warning c.args.telling.now.format line.path.now (read_line line)) (filter test ks))
    (take_all c.loop-kind.kind-index c.kinds_of-kinds.result (omega (arith, count, c.loop-kind-test.false)) ∙ c.kinds_of-kinds.ensures)
