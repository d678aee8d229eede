use Rattle.std.proofs.lemmas.List.{take_rest}
use Rattle.hwdb_check.proofs.LineLemmas.{text_at_start, text_at_end}
use Rattle.hwdb_check.proofs.line_texts.text_at.Goals as goal

pub returns-then-start-bytes : goal.returns-then-start-bytes
returns-then-start-bytes c number before found =
    text_at_end c.args.bytes.now c.args.start number c.if-start-bytes.true before c.requires

pub returns : goal.returns
returns c number before found =
    text_at_start c.args.bytes.now c.args.start c.end_of.result number _ c.if-start-bytes.false (take_rest c.args.bytes.now c.args.start.at) c.end_of.ensures.place c.requires found
