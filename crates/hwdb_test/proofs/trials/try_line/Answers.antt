use Rattle.std.proofs.Common.{refl}
use Rattle.std.proofs.lemmas.Result.{on_ok_weaker}
use Rattle.hwdb_test.specs.Views.{line_at}
use Rattle.hwdb_test.proofs.TrialLemmas.{kept_silent, told_failed, tells_holds}
use Rattle.hwdb_test.proofs.trials.try_line.Goals as goal

pub returns-then-fits-clause-text : goal.returns-then-fits-clause-text
returns-then-fits-clause-text c = λ all apart.
    kept_silent c.args.form.json c.args.form.path.now c.args.device.text.now all c.args.device.found.now c.about-about.result.now (line_at c.args.line.now) (c.about-about.ensures all apart.others)
    c.holds-fits.result _ _ c.holds-fits.ensures c.if-fits.true refl

pub returns-then-fits-clause-held : goal.returns-then-fits-clause-held
returns-then-fits-clause-held c = λ all apart.
    tells_holds c.args.form.json c.args.form.path.now c.args.device.text.now all c.args.device.found.now c.about-about.result.now (line_at c.args.line.now) (c.about-about.ensures all apart.others)
    c.holds-fits.result _ _ c.holds-fits.ensures c.in_ok-push.ensures.items

pub returns-clause-text : goal.returns-clause-text
returns-clause-text c =
    on_ok_weaker c.push_failure.result
    (λ pushed all apart. told_failed c.args.form.json c.args.form.path.now c.args.device.text.now all c.args.device.found.now c.about-about.result.now (line_at c.args.line.now) (c.about-about.ensures all apart.others)
    c.holds-fits.result _ _ c.holds-fits.ensures c.if-fits.false pushed)
    c.push_failure.ensures

pub returns-clause-held : goal.returns-clause-held
returns-clause-held c =
    on_ok_weaker c.push_failure.result
    (λ pushed all apart. tells_holds c.args.form.json c.args.form.path.now c.args.device.text.now all c.args.device.found.now c.about-about.result.now (line_at c.args.line.now) (c.about-about.ensures all apart.others)
    c.holds-fits.result _ _ c.holds-fits.ensures c.in_ok-push.ensures.items)
    c.push_failure.ensures
