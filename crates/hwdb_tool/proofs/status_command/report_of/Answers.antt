use Rattle.std.proofs.Common.{map, option_map}
use Rattle.hwdb_databases.specs.Views.{amount_shown, state_shown}
use Rattle.hwdb_tool.proofs.status_command.report_of.Goals as goal

pub returns : goal.returns
returns c = λ i. record {
  database = c.in_ok-path_asked.ensures i;
  holds = option_map amount_shown c.args.seen.standing.holds;
  hides = c.in_ok-path_hidden.ensures i;
  hidden = option_map amount_shown c.args.seen.hidden;
  masked = map (λ p. p.items) c.args.made.unread.masked.items;
  ignored = map (λ p. p.items) c.args.made.unread.ignored.items;
  bare = c.args.made.bare;
  state = state_shown c.args.seen.standing.state;
  remedy = c.in_ok-remedy.ensures i;
}
