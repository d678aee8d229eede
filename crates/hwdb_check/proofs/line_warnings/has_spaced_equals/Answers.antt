use Rattle.std.proofs.Common.{◌∙◌, ap, drop, refl, sym}
use Rattle.std.proofs.lemmas.List.{take_rest}
use Rattle.hwdb_check.specs.Internal.{line_of}
use Rattle.hwdb_check.proofs.SpacedLemmas.{without_equals, without_key, with_key}
use Rattle.hwdb_check.proofs.line_warnings.has_spaced_equals.Goals as goal

pub returns-then-equals-body : goal.returns-then-equals-body
returns-then-equals-body c =
    without_equals (line_of 0 c.args.clean.now) _ c.end_of-equals.result
    (take_rest c.args.clean.now c.indent_of.result ∙ ap (λ n. drop n c.args.clean.now) c.indent_of.ensures.place) c.end_of-equals.ensures.place c.if-equals-body.true

pub returns-then-equals-eq0 : goal.returns-then-equals-eq0
returns-then-equals-eq0 c =
    without_key (line_of 0 c.args.clean.now) _ c.end_of-equals.result
    (take_rest c.args.clean.now c.indent_of.result ∙ ap (λ n. drop n c.args.clean.now) c.indent_of.ensures.place) c.end_of-equals.ensures.place c.if-equals-eq0.true

pub returns : goal.returns
returns c =
    with_key (line_of 0 c.args.clean.now) _ c.end_of-equals.result
    (take_rest c.args.clean.now c.indent_of.result ∙ ap (λ n. drop n c.args.clean.now) c.indent_of.ensures.place) c.end_of-equals.ensures.place
    c.is_spaced.result _ _ (sym c.is_property.ensures ∙ c.if-not-is_property.false) c.if-equals-body.false c.if-equals-eq0.false c.end_of-equals.ensures.within
    refl refl c.is_spaced.ensures
