-- What the types of this crate mean.
use Rattle.std.specs.Prelude.{List, None, Option, Some, [], map, option_map, ◌∷◌}
use Rattle.hwdb_spec.specs.Assignment.{Assignment}
use Rattle.hwdb_spec_commands.specs.Differences.{Change, change_between}
use Rattle.hwdb_spec_commands.specs.Differences.Change.{Came, Went, Changed}
use Rattle.hwdb_spec_commands.specs.Summary.{Summary}
use Rattle.hwdb_query.specs.Views.{assignment_of_answer}
use Rattle.hwdb_query.specs.declared.answer.StoredAssignment.{StoredAssignment}
use Rattle.hwdb_spec_commands.specs.Status as status
use Rattle.hwdb_databases.specs.declared.amounts.Amount.{Amount}
use Rattle.hwdb_databases.specs.declared.amounts.Amount.TheVariants.{Counted, Uncounted}
use Rattle.hwdb_databases.specs.declared.freshness.State.{State}
use Rattle.hwdb_databases.specs.declared.freshness.State.TheVariants.{Alike, Broken, Fresh, Missing, Stale}
use Rattle.hwdb_databases.specs.declared.reports.Report.{Report}
use Rattle.hwdb_databases.specs.declared.pairs.Pair.{Pair}
use Rattle.hwdb_databases.specs.declared.pairs.Pair.TheVariants.{Old, New, Both}
use Rattle.hwdb_databases.specs.declared.held.Held.{Held}
use Rattle.hwdb_databases.specs.declared.held.Held.TheVariants as held
use Rattle.hwdb_databases.specs.declared.summary.Counts.{Counts}

abbrev pub assignment_of : StoredAssignment → Assignment
assignment_of a = assignment_of_answer a

-- what happened at a pattern and key
abbrev pub changes_of : Pair → List Change
changes_of (Old old) = Went (assignment_of old.now) ∷ []
changes_of (New new) = Came (assignment_of new.now) ∷ []
changes_of (Both old new) = change_between (assignment_of old.now) (assignment_of new.now)

-- the change that two such assignments are
abbrev pub change_shown : Pair → Change
change_shown (Old old) = Went (assignment_of old.now)
change_shown (New new) = Came (assignment_of new.now)
change_shown (Both old new) = Changed (assignment_of old.now) (assignment_of new.now)

-- the change that is held
abbrev pub held_shown : Held → Change
held_shown (held.Old old) = Went (assignment_of old)
held_shown (held.New new) = Came (assignment_of new)
held_shown (held.Both old new) = Changed (assignment_of old) (assignment_of new)

-- none, or the one that is held
abbrev pub held_of : Option Held → List Change
held_of None = []
held_of (Some change) = held_shown change ∷ []

abbrev pub summary_shown : Counts → Summary
summary_shown c = record {
  files = c.files;
  patterns = c.patterns;
  keys = c.keys;
  assignments = c.assignments;
  nodes = c.nodes;
  depth = c.depth;
  bytes = c.bytes;
}

abbrev pub state_shown : State → status.State
state_shown Missing = status.State.Missing
state_shown Broken = status.State.Broken
state_shown Fresh = status.State.Fresh
state_shown Alike = status.State.Alike
state_shown (Stale changes first) = status.State.Stale changes first.items

abbrev pub amount_shown : Amount → status.Amount
amount_shown (Counted files assignments bytes) = status.Amount.Counted files assignments bytes
amount_shown (Uncounted bytes) = status.Amount.Uncounted bytes

abbrev pub report_shown : Report → status.Report
report_shown r = record {
  database = option_map (λ v. v.items) r.database;
  holds = option_map amount_shown r.holds;
  hides = option_map (λ v. v.items) r.hides;
  hidden = option_map amount_shown r.hidden;
  masked = map (λ v. v.items) r.masked.items;
  ignored = map (λ v. v.items) r.ignored.items;
  bare = r.bare;
  state = state_shown r.state;
  remedy = option_map (λ v. v.items) r.remedy;
}
