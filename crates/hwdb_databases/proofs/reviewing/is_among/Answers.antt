use Rattle.std.proofs.Common.{◌+◌, add-one, nat_eq, string_bytes}
use Rattle.std.proofs.Common.{◌∙◌, ap}
use Rattle.hwdb_spec.specs.Answers.{is_match}
use Rattle.hwdb_databases.proofs.ReviewLemmas.{any_found, any_none, any_passed}
use Rattle.hwdb_databases.proofs.reviewing.is_among.Goals as goal

pub returns-then-fits : goal.returns-then-fits
returns-then-fits c =
    any_found (λ g. is_match c.args.name.now g) string_bytes c.args.globs.now c.loop-own.own-index c.own-item.result c.fits.result _ c.loop-own-test.true (c.fits.ensures ∙ ap (λ t. is_match c.args.name.now t) (c.as_bytes.ensures.value ∙ ap string_bytes c.own-item.is)) c.if-fits.true c.loop-own.invariant

pub loop-own-preserved : goal.loop-own-preserved
loop-own-preserved c =
    any_passed (λ g. is_match c.args.name.now g) string_bytes c.args.globs.now c.loop-own.own-index (c.loop-own.own-index + 1) c.own-item.result c.fits.result _ c.loop-own-test.true
    (add-one c.loop-own.own-index) (c.fits.ensures ∙ ap (λ t. is_match c.args.name.now t) (c.as_bytes.ensures.value ∙ ap string_bytes c.own-item.is)) c.if-fits.false c.loop-own.invariant

pub returns : goal.returns
returns c = any_none (λ g. is_match c.args.name.now g) string_bytes c.args.globs.now c.loop-own.own-index _ c.loop-own-test.false c.loop-own.invariant
