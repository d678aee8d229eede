-- The rows, computed.
use Rattle.hwdb_laws.specs.SysfsRows.{AttributeRows, LeadRows, ListedRows, NowhereRows, PathRows, UntoldRows}
use Rattle.hwdb_spec.specs.Lines.{pieces}
use Rattle.std.proofs.Common.{refl}

pub nowhere_rows : NowhereRows
unfolding pieces
nowhere_rows = refl

pub lead_rows : LeadRows
unfolding pieces
lead_rows = refl

pub listed_rows : ListedRows
unfolding pieces
listed_rows = refl

pub attribute_rows : AttributeRows
unfolding pieces
attribute_rows = refl

pub path_rows : PathRows
unfolding pieces
path_rows = refl

pub untold_rows : UntoldRows
unfolding pieces
untold_rows = (refl, refl)
