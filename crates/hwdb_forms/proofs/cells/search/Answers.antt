use Rattle.std.proofs.Common.{sym, ◌∙◌}
use Rattle.hwdb_spec.specs.Patterns.{token_at}
use Rattle.hwdb_forms.proofs.TextLemmas.{byte_searched, byte_usual}
use Rattle.hwdb_forms.proofs.cells.search.Goals as goal

pub returns-in-Some : goal.returns-in-Some
returns-in-Some c = byte_usual (token_at c.args.token.now) c.args.set c.in-Some.byte (sym c.first_usual.ensures ∙ c.in-Some.is)

pub returns-in-None : goal.returns-in-None
returns-in-None c = byte_searched (token_at c.args.token.now) c.args.set _ (sym c.first_usual.ensures ∙ c.in-None.is) c.first_candidate.ensures
