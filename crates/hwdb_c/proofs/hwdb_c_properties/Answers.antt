use Rattle.std.proofs.Common.{◌≡◌, ap}
use Rattle.hwdb_spec.specs.Answers.{effective_of}
use Rattle.hwdb_spec.specs.Library.{strings_of, device_strings, last_strings}
use Rattle.hwdb_c.proofs.hwdb_c_properties.Goals as goal

pub returns-then-put-clause-headline : goal.returns-then-put-clause-headline
returns-then-put-clause-headline c = λ _ etc usr h.
    let t = c.requires.0 in
    let answers_are = c.compiled_answers_are_last.ensures.all etc usr c.args.bytes.now h t c.requires.1 c.args.device.now in
    let same : device_strings c.args.device.now t ≡ last_strings c.args.device.now etc usr = ap (λ a. strings_of (effective_of a)) answers_are in
    let text = c.in-Ok.ensures t c.requires.1 in
    let written = c.if-put.ensures in
    let slice = c.deref.ensures.value in
    let slice_len = c.deref.ensures.len in
    let len = c.len.ensures in
    cc
