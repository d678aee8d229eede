use Rattle.std.proofs.Common.{◌∙◌, ap, map, sym}
use Rattle.std.specs.Prelude.{filter}
use Rattle.hwdb_spec.specs.Folders.{same}
use Rattle.hwdb_test.specs.Views.{given_at, line_at}
use Rattle.hwdb_test.proofs.AboutLemmas.{about_one, about_others}
use Rattle.hwdb_test.proofs.holding.about.Goals as goal

pub returns-then-wants_no_others : goal.returns-then-wants_no_others
returns-then-wants_no_others c = λ all is.
    is ∙ about_others all (map given_at c.args.found.now) (line_at c.args.line.now) (sym c.wants_no_others.ensures ∙ c.if-wants_no_others.true)

pub returns-else-wants_no_others : goal.returns-else-wants_no_others
returns-else-wants_no_others c = λ all is.
    c.with_key.ensures ∙ ap (λ k. filter (λ g. same g.key k) (map given_at c.args.found.now)) c.wanted_key.ensures
    ∙ about_one all (map given_at c.args.found.now) (line_at c.args.line.now) (sym c.wants_no_others.ensures ∙ c.if-wants_no_others.false)
