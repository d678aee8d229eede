use Rattle.hwdb_laws.proofs.ComputedStatusRows.{asked_rows, bare_remedy_rows, bare_rows, command_rows, file_rows, json_rows, loss_rows, remedy_rows, status_rows, text_rows, word_rows}
use Rattle.hwdb_laws.proofs.rows.status_rows.Goals as goal

pub returns : goal.returns
returns c = record {
  words = word_rows;
  commands = command_rows;
  asked = asked_rows;
  files = file_rows;
  bare = bare_rows;
  remedy = remedy_rows;
  bare_remedy = bare_remedy_rows;
  text = text_rows;
  as_json = json_rows;
  status = status_rows;
  loss = loss_rows;
}
