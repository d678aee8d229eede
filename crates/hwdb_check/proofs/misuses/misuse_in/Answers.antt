use Rattle.std.proofs.Common.{◌∙◌, refl, sym}
use Rattle.hwdb_check.specs.Internal.{line_of}
use Rattle.hwdb_check.proofs.SpacedLemmas.{misused_spaced, misused_with_key, misused_without_equals, misused_without_key}
use Rattle.hwdb_check.proofs.misuses.misuse_in.Goals as goal

pub returns-then-equals-body : goal.returns-then-equals-body
returns-then-equals-body c =
    misused_without_equals (line_of 0 c.args.clean.now) c.unindented-body.result.now c.end_of-equals.result c.unindented-body.ensures c.end_of-equals.ensures.place c.if-equals-body.true

pub returns-then-equals-eq0 : goal.returns-then-equals-eq0
returns-then-equals-eq0 c =
    misused_without_key (line_of 0 c.args.clean.now) c.unindented-body.result.now c.end_of-equals.result c.unindented-body.ensures c.end_of-equals.ensures.place c.if-equals-eq0.true

pub returns-then-is_spaced : goal.returns-then-is_spaced
returns-then-is_spaced c =
    misused_spaced (line_of 0 c.args.clean.now) c.unindented-body.result.now c.end_of-equals.result c.unindented-body.ensures c.end_of-equals.ensures.place
    c.is_spaced.result _ _ refl refl c.is_spaced.ensures c.if-is_spaced.true

pub returns : goal.returns
returns c =
    misused_with_key (line_of 0 c.args.clean.now) c.unindented-body.result.now c.end_of-equals.result c.unindented-body.ensures c.end_of-equals.ensures.place
    c.is_spaced.result _ _ c.misuse_of.result (sym c.is_property.ensures ∙ c.if-not-is_property.false) c.if-equals-body.false c.if-equals-eq0.false c.end_of-equals.ensures.within
    refl refl c.is_spaced.ensures c.if-is_spaced.false c.misuse_of.ensures
