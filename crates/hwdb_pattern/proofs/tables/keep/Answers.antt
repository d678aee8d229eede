use Rattle.hwdb_pattern.proofs.TableLemmas.{all_kept, byte_kept}
use Rattle.hwdb_pattern.proofs.TokenLemmas.{token_one, token_byte}
use Rattle.hwdb_pattern.proofs.tables.keep.Goals as goal

pub returns-then-text-eq63 : goal.returns-then-text-eq63
returns-then-text-eq63 c = all_kept c.args.bytes.now c.args.table.now (token_one c.args.text.now c.if-text-eq63.true)

pub returns-then-text-ne91 : goal.returns-then-text-ne91
returns-then-text-ne91 c =
    byte_kept c.args.bytes.now c.args.table.now c.keep_byte.new.table
    (token_byte c.args.text.now c.requires.some c.requires.no_star c.if-text-eq63.false c.if-text-ne91.true) c.keep_byte.ensures
