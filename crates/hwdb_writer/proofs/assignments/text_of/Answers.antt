use Rattle.std.proofs.Common.{◌<◌, ℕ, get_or, rules}
use Rattle.hwdb_writer.proofs.StorableLemmas.{is_text}
use Rattle.hwdb_writer.proofs.assignments.text_of.Goals as goal

pub returns-clause-text : goal.returns-clause-text
returns-clause-text c = let fit : (i : ℕ) → get_or c.args.bytes.now i 0 < 256 = λ i. search rules in is_text c.args.bytes.now c.requires fit
