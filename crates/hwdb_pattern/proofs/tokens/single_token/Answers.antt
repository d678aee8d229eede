use Rattle.std.proofs.Common.{ap, sym, ◌∙◌}
use Rattle.hwdb_pattern.specs.Internal.Parts.{token_part, bracket_part}
use Rattle.std.specs.Option.{option_map}
use Rattle.hwdb_pattern.proofs.TokenLemmas.{token_one, token_bracket, token_open, token_byte}
use Rattle.hwdb_pattern.proofs.tokens.single_token.Goals as goal
use Rattle.hwdb_pattern.proofs.tokens.single_token.Goals.{then-text-eq91+then-may_close+in_default, else-text-eq91, else-text-eq91-via-then-text-eq91+else-may_close, else-text-eq91-via-else-text-eq91}

pub returns-then-text-eq63-clause-part : goal.returns-then-text-eq63-clause-part
returns-then-text-eq63-clause-part c = ap (token_part c.args.byte) (sym (token_one c.args.text.now c.if-text-eq63.true))

pub returns-in-Some-clause-part : goal.returns-in-Some-clause-part
returns-in-Some-clause-part c = token_bracket c.args.text.now c.args.byte c.in-Some.found c.if-text-eq91.true (sym c.in-Some.is ∙ c.bracket.ensures.part)

pub returns-clause-part : goal.returns-clause-part
returns-clause-part c = ap (token_part c.args.byte) (sym (
    elim c.if-text-eq91.branch [
      | then-text-eq91+then-may_close+in_default w ↦ token_open c.args.text.now c.args.byte w.if-text-eq91.true (sym w.in_default.is ∙ w.bracket.ensures.part)
      | else-text-eq91 w ↦ elim w.else-text-eq91.branch [
        | else-text-eq91-via-then-text-eq91+else-may_close w' ↦
            token_open c.args.text.now c.args.byte w'.if-text-eq91.true (sym (ap (option_map (bracket_part c.args.byte)) (c.requires.no_bracket w'.if-may_close.false)))
        | else-text-eq91-via-else-text-eq91 w' ↦ token_byte c.args.text.now c.requires.some c.requires.no_star c.if-text-eq63.false w'.if-text-eq91.false
      ]
    ]))
