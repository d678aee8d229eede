use Rattle.hwdb_laws.proofs.ComputedAnswerRows.{database_rows, dump_rows, entry_rows, file_list_rows, file_rows, hit_rows, limit_rows, line_rows, list_rows, lone_rows, name_rows, near_rows, node_rows, pattern_rows, position_rows, raw_rows, said_rows, string_rows, unsaid_rows}
use Rattle.hwdb_laws.proofs.rows.answer_rows.Goals as goal

pub returns : goal.returns
returns c = record {
  nodes = node_rows;
  database = database_rows;
  files = file_rows;
  raw = raw_rows;
  names = name_rows;
  positions = position_rows;
  hits = hit_rows;
  list = list_rows;
  file_list = file_list_rows;
  strings = string_rows;
  dump = dump_rows;
  entries = entry_rows;
  said = said_rows;
  unsaid = unsaid_rows;
  patterns = pattern_rows;
  limit = limit_rows;
  near = near_rows;
  lines = line_rows;
  lone = lone_rows;
}
