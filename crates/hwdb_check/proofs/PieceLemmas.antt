-- A text that is added in four pieces. And hints and lines as they were meant, which don't depend on a line's number.
use Rattle.std.proofs.Common.{◌≡◌, ◌∙◌, ◌++◌, ℕ, List, ap, append_assoc, refl}
use Rattle.hwdb_spec_commands.specs.Findings.{fix_for}
use Rattle.hwdb_spec_commands.specs.Fixes.{fix}
use Rattle.hwdb_spec_commands.specs.Warnings.{warning_hint}
use Rattle.hwdb_spec_commands.specs.declared.WarningKind.{WarningKind}
use Rattle.hwdb_spec_commands.specs.declared.WarningKind.TheVariants.{ByteOrderMark, CarriageReturn, CutValue, EmptyRange, Fragile, LeadingTab, MayBeTooDeep, Misused, OpenBracket, RepeatedMatch, Replaced, SpacedEquals, TooLongForUdev, Unlikely, Unmatched, Unpaired, Unread}
use Rattle.hwdb_spec_commands.specs.declared.vocabulary.Misuse.TheVariants.{NearName, OldName, ScanCode, SingularMatrix, TwoDefaults, UnfitValue, UnknownKey, ZeroRow}
use Rattle.hwdb_spec_commands.specs.declared.formats.Format.{Format}
use Rattle.hwdb_spec_commands.specs.declared.formats.Format.TheVariants.{Github, Json as JsonLines, Patch, Sarif, Text as Reports}
use Rattle.hwdb_check.specs.Internal.{line_of}

pub four_pieces : (a b c d one two three four : List ℕ) → b ≡ a ++ one → c ≡ b ++ two → d ≡ c ++ three → d ++ four ≡ a ++ (one ++ (two ++ (three ++ four)))
four_pieces a b c d one two three four e f g =
    ap (λ (l : List ℕ). l ++ four) (g ∙ ap (λ (l : List ℕ). l ++ three) (f ∙ ap (λ (l : List ℕ). l ++ two) e))
    ∙ append_assoc ((a ++ one) ++ two) three four ∙ append_assoc (a ++ one) two (three ++ four) ∙ append_assoc a one (two ++ (three ++ four))

pub same_hint : (kind : WarningKind) (n m : ℕ) (t : List ℕ) → warning_hint kind (line_of n t) ≡ warning_hint kind (line_of m t)
same_hint ByteOrderMark n m t = refl
same_hint LeadingTab n m t = refl
same_hint CarriageReturn n m t = refl
same_hint OpenBracket n m t = refl
same_hint EmptyRange n m t = refl
same_hint SpacedEquals n m t = refl
same_hint CutValue n m t = refl
same_hint RepeatedMatch n m t = refl
same_hint (Replaced by) n m t = refl
same_hint (Misused why) n m t = refl
same_hint (Unread known) n m t = refl
same_hint Unpaired n m t = refl
same_hint (Unmatched told) n m t = refl
same_hint (Unlikely told) n m t = refl
same_hint TooLongForUdev n m t = refl
same_hint MayBeTooDeep n m t = refl
same_hint Fragile n m t = refl

same_fix : (kind : WarningKind) (n m : ℕ) (t source : List ℕ) → fix kind (line_of n t) source ≡ fix kind (line_of m t) source
same_fix ByteOrderMark n m t source = refl
same_fix LeadingTab n m t source = refl
same_fix CarriageReturn n m t source = refl
same_fix OpenBracket n m t source = refl
same_fix EmptyRange n m t source = refl
same_fix SpacedEquals n m t source = refl
same_fix CutValue n m t source = refl
same_fix RepeatedMatch n m t source = refl
same_fix (Replaced by) n m t source = refl
same_fix (Misused NearName) n m t source = refl
same_fix (Misused OldName) n m t source = refl
same_fix (Misused ScanCode) n m t source = refl
same_fix (Misused UnknownKey) n m t source = refl
same_fix (Misused UnfitValue) n m t source = refl
same_fix (Misused ZeroRow) n m t source = refl
same_fix (Misused SingularMatrix) n m t source = refl
same_fix (Misused TwoDefaults) n m t source = refl
same_fix (Unread known) n m t source = refl
same_fix Unpaired n m t source = refl
same_fix (Unmatched told) n m t source = refl
same_fix (Unlikely told) n m t source = refl
same_fix TooLongForUdev n m t source = refl
same_fix MayBeTooDeep n m t source = refl
same_fix Fragile n m t source = refl

pub same_fix_for : (format : Format) (kind : WarningKind) (n m : ℕ) (t source : List ℕ) → fix_for format kind (line_of n t) source ≡ fix_for format kind (line_of m t) source
same_fix_for Reports kind n m t source = refl
same_fix_for JsonLines kind n m t source = same_fix kind n m t source
same_fix_for Github kind n m t source = refl
same_fix_for Sarif kind n m t source = same_fix kind n m t source
same_fix_for Patch kind n m t source = refl
