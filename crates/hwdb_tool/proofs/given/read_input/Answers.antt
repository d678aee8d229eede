use Rattle.std.proofs.Common.{ap, refl, Err, Ok, ◌∙◌}
use Rattle.hwdb_spec.specs.Lemmas.Calls.{failed_call}
use Rattle.hwdb_spec.specs.Texts.{max_file}
use Rattle.hwdb_tool.proofs.NamedInputLemmas.{error_told, within_of}
use Rattle.hwdb_tool.proofs.given.read_input.Goals as goal

pub returns-in-Ok-clause-told : goal.returns-in-Ok-clause-told
returns-in-Ok-clause-told g c = (Ok c.in-Ok.text.items, (c.in-Ok.ensures.whole, within_of c.in-Ok.text max_file c.in-Ok.ensures.fits), refl)

pub returns-in-Err-clause-told : goal.returns-in-Err-clause-told
returns-in-Err-clause-told g c =
    error_told (g.I.Source.left c.args.input.now) (g.I.Source.failures c.args.input.now) (g.I.Source.failures c.read_all.new.source) c.in-Err.error c.cause.result c.refusal_of.result
    (λ e. failed_call _ _ (c.in-Err.ensures.failures.0 e)) (λ e. c.read_all.ensures.too_long (c.in-Err.is ∙ ap Err e)) c.refusal_of.ensures.stops
