use Rattle.std.proofs.Common.{sym, ◌∙◌, eqb-true, length}
use Rattle.hwdb_spec.specs.Patterns.{one, literal, star, token_at}
use Rattle.hwdb_forms.proofs.MeetLemmas.{bracket_met, byte_token, met_by_token, no_token, one_token, some_left, star_token}
use Rattle.hwdb_forms.proofs.sets.meets.Goals as goal

pub returns-then-is_empty : goal.returns-then-is_empty
returns-then-is_empty c = c.has.ensures ∙ met_by_token (token_at c.args.text.now) (literal 0) c.args.set (no_token c.args.text.now (eqb-true (length c.args.text.now) 0 (sym c.if-is_empty.ensures)))

pub returns-then-text-eq42 : goal.returns-then-text-eq42
returns-then-text-eq42 c = met_by_token (token_at c.args.text.now) star c.args.set (star_token c.args.text.now c.if-text-eq42.true)

pub returns-then-text-eq63 : goal.returns-then-text-eq63
returns-then-text-eq63 c = met_by_token (token_at c.args.text.now) one c.args.set (one_token c.args.text.now c.if-text-eq63.true)

pub returns-then-text-eq91 : goal.returns-then-text-eq91
returns-then-text-eq91 c = bracket_met c.args.text.now c.args.set c.bracket_meets.result c.if-text-eq91.true c.bracket_meets.ensures

pub returns : goal.returns
returns c = c.has-2.ensures ∙ met_by_token (token_at c.args.text.now) _ c.args.set (byte_token c.args.text.now c.if-text-eq42.false c.if-text-eq63.false c.if-text-eq91.false (some_left (length c.args.text.now) c.if-is_empty.ensures))
