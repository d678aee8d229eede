use Rattle.hwdb_check.proofs.SureLaws.{lines_stay, mend_rows, mends_sure, patch_rows, said_rows, worse_rows}
use Rattle.hwdb_check.proofs.laws.patches_are_sure.Goals as goal

pub returns-clause-sure : goal.returns-clause-sure
returns-clause-sure c = mends_sure c.lines_are_the_file.ensures.joined

pub returns-clause-stay : goal.returns-clause-stay
returns-clause-stay c = lines_stay c.lines_are_the_file.ensures.joined

pub returns-clause-worse : goal.returns-clause-worse
returns-clause-worse c = worse_rows

pub returns-clause-mended : goal.returns-clause-mended
returns-clause-mended c = mend_rows

pub returns-clause-patches : goal.returns-clause-patches
returns-clause-patches c = patch_rows

pub returns-clause-said : goal.returns-clause-said
returns-clause-said c = said_rows
