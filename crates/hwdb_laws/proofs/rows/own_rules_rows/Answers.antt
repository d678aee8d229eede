use Rattle.hwdb_laws.proofs.ComputedOwnRulesRows.{fit_rows, folder_rows, name_rows, read_rows, word_rows}
use Rattle.hwdb_laws.proofs.rows.own_rules_rows.Goals as goal

pub returns : goal.returns
returns c = record {
  folders = folder_rows;
  names = name_rows;
  fit = fit_rows;
  words = word_rows;
  read = read_rows;
}
