use Rattle.std.proofs.Common.{ap, sym, ◌∙◌, arith, true, false}
use Rattle.std.proofs.lemmas.List.{take_rest}
use Rattle.std.specs.Option.{option_map}
use Rattle.hwdb_pattern.specs.Internal.Parts.{bracket_part}
use Rattle.hwdb_pattern.proofs.BracketLemmas.{bracket_short, bracket_other, bracket_inverted, bracket_upright, bracket_read, wrap}
use Rattle.hwdb_pattern.proofs.brackets.bracket.Goals as goal

pub returns-then-text-lt2-clause-part : goal.returns-then-text-lt2-clause-part
returns-then-text-lt2-clause-part c = ap (option_map (bracket_part c.args.byte)) (sym (bracket_short c.args.text.now c.if-text-lt2.true))

pub returns-then-text-ne91-clause-part : goal.returns-then-text-ne91-clause-part
returns-then-text-ne91-clause-part c = ap (option_map (bracket_part c.args.byte)) (sym (bracket_other c.args.text.now c.if-text-ne91.true))

pub returns-in-Some-clause-part : goal.returns-in-Some-clause-part
returns-in-Some-clause-part c =
    ap (option_map (wrap 2 true)) (sym c.in-Some.is)
    ∙ bracket_read c.args.text.now _ 2 true c.args.byte c.items.result (take_rest c.args.text.now 2)
    (bracket_inverted c.args.text.now (omega arith) c.if-text-ne91.false (sym c.is_inversion.ensures ∙ c.if-is_inversion.true)) c.items.ensures.part

pub returns-in-None-clause-part : goal.returns-in-None-clause-part
returns-in-None-clause-part c =
    ap (option_map (wrap 2 true)) (sym c.in-None.is)
    ∙ bracket_read c.args.text.now _ 2 true c.args.byte c.items.result (take_rest c.args.text.now 2)
    (bracket_inverted c.args.text.now (omega arith) c.if-text-ne91.false (sym c.is_inversion.ensures ∙ c.if-is_inversion.true)) c.items.ensures.part

pub returns-in-Some-items-clause-part : goal.returns-in-Some-items-clause-part
returns-in-Some-items-clause-part c =
    ap (option_map (wrap 1 false)) (sym c.in-Some-items.is)
    ∙ bracket_read c.args.text.now _ 1 false c.args.byte c.items-else-is_inversion.result (take_rest c.args.text.now 1)
    (bracket_upright c.args.text.now (omega arith) c.if-text-ne91.false (sym c.is_inversion.ensures ∙ c.if-is_inversion.false)) c.items-else-is_inversion.ensures.part

pub returns-in-None-items-clause-part : goal.returns-in-None-items-clause-part
returns-in-None-items-clause-part c =
    ap (option_map (wrap 1 false)) (sym c.in-None-items.is)
    ∙ bracket_read c.args.text.now _ 1 false c.args.byte c.items-else-is_inversion.result (take_rest c.args.text.now 1)
    (bracket_upright c.args.text.now (omega arith) c.if-text-ne91.false (sym c.is_inversion.ensures ∙ c.if-is_inversion.false)) c.items-else-is_inversion.ensures.part
