use Rattle.std.proofs.Common.{ap, sym, ◌∙◌}
use Rattle.hwdb_spec.specs.Patterns.{token_at}
use Rattle.hwdb_spec_commands.specs.FormTexts as spec
use Rattle.hwdb_forms.proofs.TextLemmas.{byte_of_literal, byte_of_one}
use Rattle.hwdb_forms.proofs.cells.byte_for.Goals as goal

pub returns-in-Only : goal.returns-in-Only
returns-in-Only c = c.taken.ensures ∙ byte_of_one (token_at c.args.token.now) c.in-Only.own ∙ ap (spec.byte_for (token_at c.args.token.now)) (sym c.in-Only.is)

pub returns-in-Some : goal.returns-in-Some
returns-in-Some c = c.taken-in-Some.ensures ∙ byte_of_literal (token_at c.args.token.now) c.args.set c.in-Some.own c.in-Some.ensures
