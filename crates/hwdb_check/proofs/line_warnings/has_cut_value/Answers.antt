use Rattle.std.proofs.Common.{◌≡◌, ◌∙◌, Bool, true, false, cond, refl, sym}
use Rattle.hwdb_spec.specs.Lines.{has_equals, is_property}
use Rattle.hwdb_check.specs.Internal.{line_of}
use Rattle.hwdb_check.proofs.line_warnings.has_cut_value.Goals as goal

uncut : (p h cut : Bool) → cut ≡ false → false ≡ cond p (cond h cut false) false
uncut true true cut e = sym e
uncut true false cut e = refl
uncut false h cut e = refl

valued : (p h cut r : Bool) → p ≡ true → cut ≡ true → r ≡ h → r ≡ cond p (cond h cut false) false
valued true true cut r e f g = g ∙ sym f
valued true false cut r e f g = g
valued false h cut r e f g = absurd cc

pub returns-then-not-is_cut : goal.returns-then-not-is_cut
returns-then-not-is_cut c =
    let clean = line_of 0 c.args.clean.now in
    uncut (is_property clean) (has_equals clean) _ (sym c.is_cut.ensures ∙ c.if-not-is_cut.true)

pub returns : goal.returns
returns c =
    let clean = line_of 0 c.args.clean.now in
    valued (is_property clean) (has_equals clean) _ c.has_equals.result (sym c.is_property.ensures ∙ c.if-not-is_property.false) (sym c.is_cut.ensures ∙ c.if-not-is_cut.false) c.has_equals.ensures
