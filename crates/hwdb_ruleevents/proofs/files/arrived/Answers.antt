use Rattle.std.proofs.Common.{◌∙◌, ap, sym, List, ℕ, Option}
use Rattle.hwdb_rulefiles.specs.PairViews.{value_view}
use Rattle.hwdb_ruleevents.specs.FileViews.{ways_of}
use Rattle.hwdb_ruleevents.specs.Telling
use Rattle.hwdb_ruleevents.proofs.TellLemmas.{nobody_arrives}
use Rattle.hwdb_ruleevents.proofs.files.arrived.Goals as goal

pub returns-in-None : goal.returns-in-None
returns-in-None c =
    nobody_arrives (ways_of c.args.ways) ∙ ap (λ (l : Option (List ℕ)). Telling.arrived l (ways_of c.args.ways)) (sym (ap value_view c.in-None.is))
