-- The laws of rules files.
use Rattle.std.proofs.Common.{refl}
use Rattle.std.specs.Char.{encode_utf8}
use Rattle.std.specs.Fmt.{digits}
use Rattle.std.specs.Str.{chars, is_utf8}
use Rattle.hex.specs.Hex.{encode_with}
use Rattle.hwdb_spec.specs.Lines.{pieces, trimmed}
use Rattle.hwdb_spec.specs.Visible.{visible_after}
use Rattle.hwdb_rulefiles.specs.RuleText.{first_rows, steps, long_row}
use Rattle.hwdb_rulefiles.specs.RuleLines.{taking_most}
use Rattle.hwdb_rulefiles.specs.RuleOrder.{by_rank}
use Rattle.hwdb_rulefiles.specs.RuleJumps.{resolved}
use Rattle.hwdb_rulefiles.specs.Escapes.{first_pieces}
use Rattle.hwdb_rulefiles.specs.RuleSpots.{spot_in}
use Rattle.hwdb_rulefiles.specs.declared.findings.FindingKind.TheVariants.{NoOperator, NoBrace, NoQuote, NoEnd, WrongEscape, UnknownKey, NoAttribute, SpareAttribute, WrongAttribute, WrongOperator, WrongPrefix, FixedProperty, IdleName, UnknownBuiltin, WrongOption, TakenAsSet, UnknownOption, SecondGoto, SecondLabel, NoSeparator, NoEffect, LongLine, OpenEnd, NoLabel, LongRow}
use Rattle.hwdb_spec_commands.specs.RuleFindings.{one_found}
use Rattle.hwdb_check.specs.RuleLaws.{RuleFileRows, RuleKindsAreNamed}

pub named_rule_kinds : RuleKindsAreNamed
unfolding pieces
named_rule_kinds NoOperator = refl
named_rule_kinds NoBrace = refl
named_rule_kinds NoQuote = refl
named_rule_kinds NoEnd = refl
named_rule_kinds WrongEscape = refl
named_rule_kinds UnknownKey = refl
named_rule_kinds NoAttribute = refl
named_rule_kinds SpareAttribute = refl
named_rule_kinds WrongAttribute = refl
named_rule_kinds WrongOperator = refl
named_rule_kinds WrongPrefix = refl
named_rule_kinds FixedProperty = refl
named_rule_kinds IdleName = refl
named_rule_kinds UnknownBuiltin = refl
named_rule_kinds WrongOption = refl
named_rule_kinds TakenAsSet = refl
named_rule_kinds UnknownOption = refl
named_rule_kinds SecondGoto = refl
named_rule_kinds SecondLabel = refl
named_rule_kinds NoSeparator = refl
named_rule_kinds NoEffect = refl
named_rule_kinds LongLine = refl
named_rule_kinds OpenEnd = refl
named_rule_kinds NoLabel = refl
named_rule_kinds LongRow = refl

pub rule_file_rows : RuleFileRows
unfolding digits encode_utf8 chars is_utf8 encode_with visible_after pieces trimmed first_rows steps long_row taking_most by_rank resolved first_pieces spot_in one_found
rule_file_rows = record {
  names = refl;
  kinds = refl;
  faults = refl;
  lines = refl;
  places = refl;
  sources = refl;
  allowed = refl;
  stays = refl;
  by_place = refl;
  none = refl;
  assigns = refl;
  printed = refl;
}
