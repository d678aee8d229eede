use Rattle.std.proofs.Common.{◌∙◌, ap, ◌++◌}
use Rattle.hwdb_spec.specs.Lines.{clean}
use Rattle.hwdb_spec_commands.specs.Warnings.{repeated_from}
use Rattle.hwdb_check.specs.Internal.{above_texts}
use Rattle.hwdb_check.proofs.RepeatLemmas.{empty_no_match, no_match, property_no_match}
use Rattle.hwdb_check.proofs.repeats.Run.line.Goals as goal

pub returns-in-Empty : goal.returns-in-Empty
returns-in-Empty c = λ more.
    ap (λ v. v.items ++ repeated_from (above_texts c.clear.new.self) (clean more)) c.clear.ensures.numbers
    ∙ no_match c.args.number c.args.text.now (above_texts c.args.self.now) (above_texts c.clear.new.self) c.args.self.now.numbers.items more c.in-Empty.ensures.0 c.in-Empty.ensures.1
    (empty_no_match _ _ c.in-Empty.ensures.2) c.clear.ensures.above

pub returns-in-Property : goal.returns-in-Property
returns-in-Property c = λ more.
    ap (λ v. v.items ++ repeated_from (above_texts c.clear-in-Property.new.self) (clean more)) c.clear-in-Property.ensures.numbers
    ∙ no_match c.args.number c.args.text.now (above_texts c.args.self.now) (above_texts c.clear-in-Property.new.self) c.args.self.now.numbers.items more c.in-Property.ensures.0 c.in-Property.ensures.1
    (property_no_match _ _ c.in-Property.ensures.2.1) c.clear-in-Property.ensures.above
