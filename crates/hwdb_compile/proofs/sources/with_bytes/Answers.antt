use Rattle.std.proofs.Common.{◌≡◌, ◌∙◌, ◌++◌, ◌∷◌, [], ap, sym, subst, map, All, add-one, get_or}
use Rattle.std.proofs.lemmas.List.{map-append}
use Rattle.std.proofs.lemmas.List.Elements.{All-nil, All-push}
use Rattle.hwdb_text.specs.Views.{choice_of}
use Rattle.hwdb_text.specs.declared.choice.ChosenFile.{ChosenFile}
use Rattle.hwdb_compile.specs.Views.{sources}
use Rattle.hwdb_text.specs.Views.{bytes_in, choice_in}
use Rattle.hwdb_compile.specs.Internal.Reading.{bytes_at}
use Rattle.hwdb_compile.proofs.GatherLemmas.{mapped_all}
use Rattle.hwdb_compile.proofs.AcceptanceLemmas.{same_contents}
use Rattle.hwdb_compile.proofs.sources.with_bytes.Goals as goal
use Rattle.hwdb_spec.specs.Lemmas.Lists.{mapped_more}

pub loop-choice-init : goal.loop-choice-init
loop-choice-init c =
    let P : ChosenFile → Type 0 = λ f. bytes_in f ≡ bytes_at c.put_files-2.new.index (choice_in f).name in
    record {
      choices = ap (map choice_in) c.new-files.ensures.items;
      bytes = subst (All P) (sym c.new-files.ensures.items) (All-nil P);
    }

pub loop-choice-preserved : goal.loop-choice-preserved
loop-choice-preserved c =
    let index = c.put_files-2.new.index in
    let files = c.loop-choice.files.items in
    let P : ChosenFile → Type 0 = λ f. bytes_in f ≡ bytes_at index (choice_in f).name in
    record {
      choices = rw add-one (
          ap (map choice_in) c.in_ok-push.ensures.items ∙ map-append choice_in files _ ∙ ap (λ l. l ++ choice_of c.choice-item.result ∷ []) c.loop-choice.invariant.choices
          ∙ sym (mapped_more choice_of c.args.chosen.now c.loop-choice.choice-index c.choice-item.result c.loop-choice-test.true c.choice-item.is));
      bytes = subst (All P) (sym c.in_ok-push.ensures.items)
          (All-push P files _ c.loop-choice.invariant.bytes (c.bytes_of-bytes.ensures ∙ ap (bytes_at index) c.deref.ensures));
    }

pub returns-clause-choices : goal.returns-clause-choices
returns-clause-choices c =
    c.loop-choice.invariant.choices ∙ mapped_all choice_of c.args.chosen.now c.loop-choice.choice-index c.loop-choice-test.false

pub returns-clause-files : goal.returns-clause-files
returns-clause-files c = record {
  few = c.requires.few;
  choices = returns-clause-choices c ∙ c.requires.chosen;
  bytes = λ k d lt. c.loop-choice.invariant.bytes k d lt
      ∙ same_contents (sources c.args.etc.now) (sources c.args.usr.now) c.new-index.result c.put_files.new.index c.put_files-2.new.index c.new-index.ensures.empty
      c.in_ok-put_files.ensures c.in_ok-put_files-2.ensures (choice_in (get_or c.loop-choice.files.items k d));
}
