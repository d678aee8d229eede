use Rattle.std.proofs.Common.{List, ◌++◌, ap, map, sym, ◌∙◌}
use Rattle.std.specs.Prelude.{find}
use Rattle.hwdb_spec.specs.Patterns.{Token}
use Rattle.hwdb_spec_commands.specs.FormTable.{asked}
use Rattle.hwdb_spec_commands.specs.FormTexts.{filled, text_among}
use Rattle.hwdb_spec_commands.specs.SamplesFound.{plain_texts, shows, some_text}
use Rattle.hwdb_forms.specs.Internal.{views}
use Rattle.hwdb_samples.specs.Views.{device_in, rule_texts}
use Rattle.hwdb_samples.proofs.FitLemmas.{found_second, no_device, ok_on}
use Rattle.hwdb_samples.proofs.samples.short_sample.Goals as goal

pub returns : goal.returns
returns c =
    let passes = shows (map rule_texts c.args.old.now) (map rule_texts c.args.new.now) c.args.pattern.now in
    let plain = plain_texts c.args.pattern.now in
    let ts = views c.args.tokens.now in
    let second = ap views c.deref.ensures.value ∙ c.in_ok-wide.ensures in
    let wider = some_text (text_among asked (filled ts)) in
    let none = sym c.in_ok-device.ensures ∙ no_device _ c.in_default.not-Some in
    let none_wider = ap (λ (us : List Token). find passes (some_text (text_among asked us))) (sym second) ∙ sym c.in_ok-device-2.ensures ∙ no_device _ c.in_default-2.not-Some in
    ok_on c.plain_sample.result _ _
    (λ found e. e ∙ found_second passes wider plain none_wider ∙ found_second passes (some_text (text_among asked ts)) (wider ++ plain) none) c.plain_sample.ensures
