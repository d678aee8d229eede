use Rattle.hwdb_spec_commands.specs.declared.colours.LinePart.TheVariants as part
use Rattle.hwdb_show.proofs.ColourLemmas.{plain_kept, same_bytes, taken_out}
use Rattle.hwdb_show.proofs.colours.colours_are_taken_out.Goals as goal

pub returns-clause-bytes : goal.returns-clause-bytes
returns-clause-bytes c = λ kind text. same_bytes kind part.Ended text

pub returns-clause-out : goal.returns-clause-out
returns-clause-out c = λ kind text none. taken_out kind part.Ended text none

pub returns-clause-plain : goal.returns-clause-plain
returns-clause-plain c = λ text. (plain_kept text).0
