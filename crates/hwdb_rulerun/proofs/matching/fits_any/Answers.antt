use Rattle.std.proofs.Common.{◌∙◌}
use Rattle.hwdb_rulerun.proofs.MatchLemmas.{hit, missed, none_left, fewer}
use Rattle.hwdb_rulerun.proofs.matching.fits_any.Goals as goal

pub returns-then-fits_one : goal.returns-then-fits_one
returns-then-fits_one c =
    hit c.args.is_glob c.args.text.now c.loop-rest.rest.now c.bar_len.result c.fits_one.result c.bar_len.ensures.place c.fits_one.ensures c.if-fits_one.true
    ∙ c.loop-rest.invariant

pub loop-rest-preserved : goal.loop-rest-preserved
loop-rest-preserved c =
    missed c.args.is_glob c.args.text.now c.loop-rest.rest.now c.after_bar-rest.result.now c.bar_len.result c.fits_one.result c.bar_len.ensures.place c.fits_one.ensures
    c.if-fits_one.false c.after_bar-rest.ensures
    ∙ c.loop-rest.invariant

pub loop-rest-smaller : goal.loop-rest-smaller
loop-rest-smaller c = fewer c.loop-rest.rest.now c.after_bar-rest.result.now c.is_empty.result c.is_empty.ensures c.loop-rest-test.true c.after_bar-rest.ensures

pub returns : goal.returns
returns c = none_left c.args.is_glob c.args.text.now c.loop-rest.rest.now c.is_empty.result c.is_empty.ensures c.loop-rest-test.false ∙ c.loop-rest.invariant
