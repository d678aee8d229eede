use Rattle.std.proofs.Common.{◌∙◌, ◌++◌, List, ℕ, ap, false, map, string_bytes}
use Rattle.hwdb_spec_commands.specs.Streams.{texts_of}
use Rattle.hwdb_answers.specs.Internal.{answer_text, texts_from}
use Rattle.hwdb_answers.proofs.StreamLemmas.{no_device, texts_end, texts_step}
use Rattle.hwdb_answers.proofs.kept_texts.texts_of_kept.Goals as goal

pub answering-init : goal.answering-init
answering-init g c = record {
  stay = λ file of. c.new-windows.ensures file;
  text = λ file t of kept database. ap (λ (l : List ℕ). l ++ texts_of c.args.form (map string_bytes c.args.devices.now) t) c.new-all.ensures.items;
}

pub answering-preserved : goal.answering-preserved
answering-preserved g c = record {
  stay = λ file of. c.in_ok-text.ensures.stay file of (c.answering.invariant.stay file of);
  text = λ file t of kept database.
      let form = c.args.form in
      let more = map string_bytes c.in-Some.more.now in
      ap (λ (l : List ℕ). l ++ texts_from form false more t) c.in-Ok.ensures.items
      ∙ texts_step form c.answering.is_first t c.answering.all.items c.deref.result.now (string_bytes c.in-Some.device.now) _ (map string_bytes c.answering.left.now) more
      (ap (map string_bytes) c.in-Some.ensures.cases.0)
      (c.deref.ensures.value ∙ c.in_ok-text.ensures.text file t of kept (c.answering.invariant.stay file of) database
      ∙ ap (λ d. answer_text form c.answering.is_first d t) c.as_bytes.ensures.value)
      (c.answering.invariant.text file t of kept database);
}

pub returns : goal.returns
returns g c file of kept = record {
  tree = kept.tree;
  database = kept.database;
  is = texts_end c.args.form c.answering.is_first kept.tree c.answering.all.items _ (map string_bytes c.answering.left.now)
      (no_device string_bytes c.answering.left.now c.in_default.ensures.cases) (c.answering.invariant.text file kept.tree of kept kept.database);
}
