use Rattle.hwdb_reader.specs.Views.{entered_tree}
use Rattle.hwdb_spec.specs.Tree.{values_of}
use Rattle.hwdb_query.specs.Internal.Members.{own_members}
use Rattle.hwdb_query.specs.Internal.Collected.{PageCollects}
use Rattle.hwdb_query.proofs.BackwardsLemmas.{walked}
use Rattle.hwdb_query.proofs.next_page.NextPageCollector.collect.Given as goal

abbrev pub invariant-loop-step : goal.invariant-loop-step
invariant-loop-step l = PageCollects l.fn.self (own_members l.pattern (walked l.falls l.step (values_of (entered_tree l.inside)))) l.self
