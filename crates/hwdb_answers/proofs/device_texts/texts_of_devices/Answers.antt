use Rattle.std.proofs.Common.{◌∙◌, ◌++◌, List, ℕ, ap, false, map, string_bytes}
use Rattle.hwdb_answers.specs.Internal.{answer_text, texts_from}
use Rattle.hwdb_answers.proofs.StreamLemmas.{no_device, texts_end, texts_step}
use Rattle.hwdb_answers.proofs.device_texts.texts_of_devices.Goals as goal

pub answering-preserved : goal.answering-preserved
answering-preserved c =
    let t = c.args.db.now in
    let more = map string_bytes c.in-Some.more.now in
    ap (λ (l : List ℕ). l ++ texts_from c.args.form false more t) c.in_ok-extend_from_slice.ensures.items
    ∙ texts_step c.args.form c.answering.is_first t c.answering.all.items c.deref.result.now (string_bytes c.in-Some.device.now) _ (map string_bytes c.answering.left.now) more
    (ap (map string_bytes) c.in-Some.ensures.cases.0)
    (c.deref.ensures.value ∙ c.in_ok-text.ensures ∙ ap (λ d. answer_text c.args.form c.answering.is_first d t) c.as_bytes.ensures.value)
    c.answering.invariant

pub returns : goal.returns
returns c =
    texts_end c.args.form c.answering.is_first c.args.db.now c.answering.all.items _ (map string_bytes c.answering.left.now)
    (no_device string_bytes c.answering.left.now c.in_default.ensures.cases) c.answering.invariant
