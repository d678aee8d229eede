use Rattle.hwdb_laws.proofs.ComputedDeviceRows.{file_rows, fitting_rows, id_rows, list_rows, meant_rows, name_rows, nothing_rows, place_rows, places_rows, text_rows}
use Rattle.hwdb_laws.proofs.rows.device_rows.Goals as goal

pub returns : goal.returns
returns c = record {
  meant = meant_rows;
  fitting = fitting_rows;
  places = places_rows;
  place = place_rows;
  ids = id_rows;
  list = list_rows;
  nothing = nothing_rows;
  names = name_rows;
  text = text_rows;
  files = file_rows;
}
