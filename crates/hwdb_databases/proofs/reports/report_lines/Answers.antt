use Rattle.std.proofs.Common.{◌++◌, codes}
use Rattle.std.specs.Prelude.{flat_map, unwrap_or}
use Rattle.hwdb_spec_commands.specs.Status.{amount_line, changes_lines, remedy_line, said_if, said_line, words_line, state_note, state_word}
use Rattle.hwdb_databases.specs.Views.{report_shown}
use Rattle.hwdb_databases.proofs.ReportLemmas.{seven_parts}
use Rattle.hwdb_databases.proofs.reports.report_lines.Goals as goal

pub returns : goal.returns
returns c =
    let r = report_shown c.args.report.now in
    seven_parts (said_line (codes "database") (unwrap_or r.database (codes "none"))) (amount_line r.holds) (said_if (codes "hides") r.hides) (amount_line r.hidden)
    (flat_map (said_line (codes "masked")) r.masked) (flat_map (said_line (codes "ignored")) r.ignored)
    (words_line (codes "state") (state_word r.bare r.state ++ state_note r.bare r.state) ++ (changes_lines r.state ++ remedy_line r))
    c.new-text.result.items c.push_asked.new.text.items c.push_hidden.new.text.items c.push_unread.new.text.items c.push_state.new.text.items
    c.new-text.ensures.items c.in_ok-push_asked.ensures c.in_ok-push_hidden.ensures c.in_ok-push_unread.ensures c.in_ok-push_state.ensures
