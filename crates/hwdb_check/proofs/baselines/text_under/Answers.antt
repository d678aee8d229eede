use Rattle.json.specs.Value.{value_view}
use Rattle.json.proofs.Numbered.{HasNumbers-get}
use Rattle.hwdb_check.proofs.baselines.text_under.Goals as goal

pub returns-in-Some-clause-numbers : goal.returns-in-Some-clause-numbers
returns-in-Some-clause-numbers c = λ numbers.
    c.if_text.ensures.numbers (HasNumbers-get c.args.name.now (value_view c.args.value.now) (value_view c.in-Some.found.now) numbers c.in-Some.ensures)
