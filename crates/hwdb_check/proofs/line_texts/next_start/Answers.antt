use Rattle.std.proofs.lemmas.List.{take_rest}
use Rattle.hwdb_check.proofs.LineLemmas.{next_is_start}
use Rattle.hwdb_check.proofs.line_texts.next_start.Goals as goal

pub returns-clause-start : goal.returns-clause-start
returns-clause-start c =
    next_is_start c.args.bytes.now c.args.start c.end_of-end.result _ c.requires.inside (take_rest c.args.bytes.now c.args.start.at) c.end_of-end.ensures.place c.end_of-end.ensures.within c.requires.start
