use Rattle.hwdb_databases.proofs.CompleteLemmas.{samples_are_complete, samples_show_changes}
use Rattle.hwdb_databases.proofs.laws.samples_are_complete.Goals as goal

pub returns-clause-shown : goal.returns-clause-shown
returns-clause-shown c = samples_show_changes c.law_found.ensures.shown c.law_rules_give.ensures.values

pub returns-clause-complete : goal.returns-clause-complete
returns-clause-complete c =
    samples_are_complete c.law_found.ensures.shown c.law_nothing_found.ensures c.law_rules_give.ensures.values c.gifts_are_effective.ensures
