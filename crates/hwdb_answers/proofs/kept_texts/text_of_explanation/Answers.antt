use Rattle.std.proofs.Common.{◌∙◌, ap}
use Rattle.hwdb_query.specs.Views.{explained_values}
use Rattle.hwdb_answers.proofs.kept_texts.text_of_explanation.Goals as goal

pub returns : goal.returns
returns c file t is database = c.in_ok-text.ensures t (ap explained_values c.deref.ensures.value ∙ c.in_ok-explained.ensures.answer file t is database)
