use Rattle.std.proofs.Common.{refl}
use Rattle.hwdb_answers.specs.Streams.{held}
use Rattle.hwdb_answers.proofs.LineLemmas.{taken_line, taken_rest}
use Rattle.hwdb_answers.proofs.chunk.LineReader.take_line.Goals as goal

pub returns-then-end-part-clause-taken : goal.returns-then-end-part-clause-taken
returns-then-end-part-clause-taken c =
    let own = c.args.self.now in
    taken_line _ _ (held own) own.chunk own.at own.end c.end_of-end.result refl c.end_of-end.ensures.place c.if-end-part.true c.in_ok-extend_from_slice.ensures.items

pub returns-clause-taken : goal.returns-clause-taken
returns-clause-taken c =
    let own = c.args.self.now in
    taken_rest _ _ (held own) own.chunk own.at own.end c.end_of-end.result c.end_of-end.ensures.place c.if-end-part.false c.end_of-end.ensures.within c.in_ok-extend_from_slice.ensures.items
