use Rattle.std.proofs.Common.{arith, rules}
use Rattle.hwdb_answers.specs.Streams.{held}
use Rattle.hwdb_answers.proofs.LineLemmas.{first_taken, last_taken, line_too_long, error_was}
use Rattle.hwdb_answers.proofs.chunk.LineReader.next_line.Goals as goal

pub returns-in_err-take_line-clause-too_long : goal.returns-in_err-take_line-clause-too_long
returns-in_err-take_line-clause-too_long g c = λ is.
    let long = c.in_err-take_line.ensures.too_long (error_was c.from_residual.result c.in_err-take_line.field-0.0 _ c.from_residual.ensures.1 is) in
    line_too_long _ (g.I.Source.left c.reading.source) c.reading.line.items (held c.reading.self) c.args.max_bytes c.reading.invariant.read c.reading.invariant.free
    (omega (arith, long, c.reading.line.ok.0))

pub returns-then-branch-clause-line : goal.returns-then-branch-clause-line
returns-then-branch-clause-line g c =
    first_taken _ _ c.reading.line.items (held c.reading.self) _ (held c.take_line.new.self) _ c.if-branch.true c.reading.invariant.read c.reading.invariant.free c.in_ok-take_line.ensures.taken

pub returns-then-not-branch-clause-line : goal.returns-then-not-branch-clause-line
returns-then-not-branch-clause-line g c =
    last_taken _ (g.I.Source.left c.reading.source) _ c.reading.line.items (held c.reading.self) c.take_line.new.line.items (held c.take_line.new.self) (held c.refill.new.self) _ _
    c.if-branch.false c.if-not-branch.true c.reading.invariant.read c.reading.invariant.free c.in_ok-take_line.ensures.taken c.in_ok-refill.ensures.read (search rules)
