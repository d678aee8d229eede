use Rattle.hwdb_scan.proofs.ComputedRows.{count_rows, cut_rows, key_rows, name_rows, other_rows, path_rows, said_rows, whole_rows}
use Rattle.hwdb_scan.proofs.laws.scan_rows.Goals as goal

pub returns : goal.returns
returns c = record { keys = key_rows; others = other_rows; cut = cut_rows; count = count_rows; whole = whole_rows; names = name_rows; paths = path_rows; said = said_rows }
