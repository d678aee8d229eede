use Rattle.std.proofs.Common.{◌∙◌, ◌++◌, refl, ap, map}
use Rattle.hwdb_text.specs.Internal.Contents.{line}
use Rattle.hwdb_text.specs.Views.{given_in, text_of}
use Rattle.hwdb_spec.specs.Records.{property_assignments}
use Rattle.hwdb_text.proofs.HeldLemmas.{on_ok_both, held_stray_property, held_property}
use Rattle.hwdb_text.proofs.records.Reader.property_line.Goals as goal

pub returns-in-Start-clause-held : goal.returns-in-Start-clause-held
returns-in-Start-clause-held c = λ o whole rest h.
    held_stray_property o whole rest (line c.args.line c.args.text.now) c.args.self.now _ c.in-Start.is c.in-Start.is c.requires refl c.in_ok-push.ensures.items h

pub returns : goal.returns
returns c = record {
  held = on_ok_both c.property.result (λ ea ef o whole rest h.
      held_property o whole rest (line c.args.line c.args.text.now) c.args.self.now _ c.in_default.not-Start c.requires refl refl
      (ea o ∙ ap (λ p. map (given_in o) c.args.self.now.assignments.items ++ property_assignments o (map text_of p) (line c.args.line c.args.text.now)) c.deref.ensures.value)
      ef h)
      c.property.ensures.assignments c.property.ensures.faults;
  spoilt = refl;
}
