use Rattle.std.proofs.Common.{◌∙◌, ◌∷◌, [], ap, map}
use Rattle.std.proofs.lemmas.List.{map-append}
use Rattle.std.proofs.lemmas.Result.{on_ok_weaker}
use Rattle.hwdb_spec.specs.Lines.{clean}
use Rattle.hwdb_test.specs.Internal.{open_record}
use Rattle.hwdb_test.specs.Views.{device_at, line_at, record_at}
use Rattle.hwdb_test.proofs.RecordLemmas.{empty_step, match_step, property_step}
use Rattle.hwdb_test.proofs.records.Reading.line.Goals as goal

pub returns-in-Empty : goal.returns-in-Empty
returns-in-Empty c =
    on_ok_weaker c.end.result (λ h more.
    empty_step c.args.number c.args.text.now (map record_at c.args.self.now.ended.items) (open_record c.args.self.now) more _ c.in-Empty.ensures.0 c.in-Empty.ensures.1 c.in-Empty.ensures.2 (h (clean more)))
    c.end.ensures.next

pub returns-in_ok-push-in-Property : goal.returns-in_ok-push-in-Property
returns-in_ok-push-in-Property c = λ more.
    property_step c.args.number c.args.text.now c.in-Property.clean.now (map record_at c.args.self.now.ended.items) (map device_at c.args.self.now.devices.items)
    (map line_at c.args.self.now.lines.items) (map line_at c.push.new.self.items) more c.in-Property.ensures.0 c.in-Property.ensures.1 c.in-Property.ensures.2.0 c.in-Property.ensures.2.1
    (ap (map line_at) c.in_ok-push-in-Property.ensures.items ∙ map-append line_at c.args.self.now.lines.items (_ ∷ []))

pub returns-in_ok-push-in-Match : goal.returns-in_ok-push-in-Match
returns-in_ok-push-in-Match c = λ more.
    match_step c.args.number c.args.text.now c.in-Match.clean.now (map record_at c.args.self.now.ended.items) (map device_at c.args.self.now.devices.items)
    (map device_at c.push-in-Match.new.self.items) (map line_at c.args.self.now.lines.items) more c.in-Match.ensures.0 c.in-Match.ensures.1 c.in-Match.ensures.2.0 c.in-Match.ensures.2.1
    (ap (map device_at) c.in_ok-push-in-Match.ensures.items ∙ map-append device_at c.args.self.now.devices.items (_ ∷ []))
