use Rattle.std.proofs.Common.{◌∙◌}
use Rattle.std.proofs.lemmas.Bool.{lt-ltb, le-ltb}
use Rattle.hwdb_pattern.proofs.RangeLemmas.{other_test, range_none, range_some, test_of}
use Rattle.hwdb_pattern.proofs.unusual.range_in_token.Goals as goal

pub returns-then-text-ne91-clause-range : goal.returns-then-text-ne91-clause-range
returns-then-text-ne91-clause-range c = range_none c.args.text.now (other_test c.args.text.now c.requires.some c.if-text-ne91.true)

pub returns-then-range-size-clause-range : goal.returns-then-range-size-clause-range
returns-then-range-size-clause-range c =
    range_some c.args.text.now _ c.reversed_in_bracket-range.ensures.place
    (test_of c.args.text.now _ _ c.requires.some c.if-text-ne91.false c.reversed_in_bracket-range.ensures.place c.requires.size ∙ lt-ltb _ _ c.if-range-size.true)

pub returns-else-range-size-clause-range : goal.returns-else-range-size-clause-range
returns-else-range-size-clause-range c =
    range_none c.args.text.now
    (test_of c.args.text.now _ _ c.requires.some c.if-text-ne91.false c.reversed_in_bracket-range.ensures.place c.requires.size ∙ le-ltb _ _ c.if-range-size.false)
