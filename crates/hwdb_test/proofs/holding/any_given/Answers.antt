use Rattle.std.proofs.Common.{◌+◌, add-one}
use Rattle.hwdb_spec_commands.specs.Wanted.{is_given}
use Rattle.hwdb_test.specs.Views.{line_at, pair_at}
use Rattle.hwdb_test.proofs.holding.any_given.Goals as goal
use Rattle.hwdb_check.specs.Lemmas.Any.{any_found, any_none, any_passed}

pub returns-then-is_given : goal.returns-then-is_given
returns-then-is_given c =
    any_found (is_given (line_at c.args.line.now)) pair_at c.args.found.now c.loop-given.given-index _ c.is_given.result _ c.loop-given-test.true c.is_given.ensures c.if-is_given.true
    c.loop-given.invariant

pub loop-given-preserved : goal.loop-given-preserved
loop-given-preserved c =
    any_passed (is_given (line_at c.args.line.now)) pair_at c.args.found.now c.loop-given.given-index (c.loop-given.given-index + 1) _ c.is_given.result _ c.loop-given-test.true
    (add-one c.loop-given.given-index) c.is_given.ensures c.if-is_given.false c.loop-given.invariant

pub returns : goal.returns
returns c = any_none (is_given (line_at c.args.line.now)) pair_at c.args.found.now c.loop-given.given-index _ c.loop-given-test.false c.loop-given.invariant
