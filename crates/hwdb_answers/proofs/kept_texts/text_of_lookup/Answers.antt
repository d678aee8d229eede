use Rattle.std.proofs.Common.{◌∙◌, ap}
use Rattle.hwdb_query.specs.Views.{pairs_bytes}
use Rattle.hwdb_answers.proofs.kept_texts.text_of_lookup.Goals as goal

pub returns : goal.returns
returns c file t is database = c.in_ok-text.ensures t (ap pairs_bytes c.deref.ensures.value ∙ c.in_ok-properties.ensures.answer file t is database)
