use Rattle.std.proofs.Common.{◌∙◌, ap, List}
use Rattle.hwdb_spec_commands.specs.DeviceTexts.{asked_for, found_form, told_by, told_of_files}
use Rattle.hwdb_spec.specs.Explanations.{explained}
use Rattle.hwdb_spec_commands.specs.Near.{PatternAt}
use Rattle.hwdb_spec_commands.specs.NearPrefixes.{files_patterns}
use Rattle.hwdb_device.proofs.laws.text_is_of_files.Goals as goal

pub returns : goal.returns
returns c = record {
  files = λ etc usr bytes of t is form d.
      ap (λ (p : List PatternAt). found_form form d p (asked_for d t)) (c.patterns_are_of_files.ensures.files etc usr bytes of t is)
      ∙ c.same_answers_same_text.ensures.same (told_by t) (told_of_files etc usr) (λ text. ap explained (c.compiled_answers_are_last.ensures.all etc usr bytes of t is text)) form d (files_patterns etc usr);
}
