use Rattle.hwdb_pattern.proofs.ComputedRows.{token_rows, bracket_rows, match_rows, star_rows, closed_rows, live_rows}
use Rattle.hwdb_pattern.proofs.laws.worked_rows.Goals as goal

pub returns : goal.returns
returns c = record {
  cut = token_rows;
  closed = bracket_rows;
  matched = match_rows;
  starred = star_rows;
  parted = closed_rows;
  live = live_rows;
}
