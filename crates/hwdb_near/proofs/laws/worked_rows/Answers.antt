use Rattle.hwdb_near.proofs.ComputedRows.{file_rows, gathered_rows, head_rows, mark_rows, matching_rows, nearest_rows, order_rows, place_rows, rated_rows, stop_rows, word_rows}
use Rattle.hwdb_near.proofs.laws.worked_rows.Goals as goal

pub returns : goal.returns
returns c = record {
  stops = stop_rows;
  rated = rated_rows;
  nearest = nearest_rows;
  matching = matching_rows;
  order = order_rows;
  marks = mark_rows;
  words = word_rows;
  heads = head_rows;
  files = file_rows;
  places = place_rows;
  gathered = gathered_rows;
}
