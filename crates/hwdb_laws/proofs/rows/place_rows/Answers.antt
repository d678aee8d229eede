use Rattle.hwdb_laws.proofs.ComputedPlaceRows.{asked_rows, block_rows, dash_rows, fault_rows, folder_rows, hidden_rows, ignored_rows, line_rows, listing_rows, loose_rows, outcome_rows, over_rows, part_rows, status_rows, there_rows, twice_rows, update_rows, without_rows}
use Rattle.hwdb_laws.proofs.rows.place_rows.Goals as goal

pub returns : goal.returns
returns c = record {
  asked = asked_rows;
  hidden = hidden_rows;
  there = there_rows;
  folders = folder_rows;
  ignored = ignored_rows;
  over = over_rows;
  dash = dash_rows;
  twice = twice_rows;
  lines = line_rows;
  without = without_rows;
  status = status_rows;
  faults = fault_rows;
  listing = listing_rows;
  parts = part_rows;
  blocks = block_rows;
  update = update_rows;
  loose = loose_rows;
  outcome = outcome_rows;
}
