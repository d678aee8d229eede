use Rattle.std.proofs.Common.{◌∙◌, length}
use Rattle.hwdb_spec.specs.Patterns.{token_at}
use Rattle.hwdb_spec.specs.declared.ByteSet.TheVariants.{Only}
use Rattle.hwdb_forms.proofs.MeetLemmas.{byte_token, met_by_token, some_left}
use Rattle.hwdb_forms.proofs.sets.meets_byte.Goals as goal

pub returns : goal.returns
returns c =
    c.is_own.ensures
    ∙ met_by_token (token_at c.args.text.now) _ (Only c.args.byte)
    (byte_token c.args.text.now c.if-first-eq42.false c.if-first-eq63.false c.if-first-eq91.false (some_left (length c.args.text.now) c.if-is_empty.ensures))
