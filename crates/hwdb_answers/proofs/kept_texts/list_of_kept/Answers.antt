use Rattle.std.proofs.Common.{◌∙◌, ap}
use Rattle.std.proofs.lemmas.Option.{IfSome_then}
use Rattle.std.specs.Prelude.{flat_map}
use Rattle.hwdb_query.specs.Views.{next_position}
use Rattle.hwdb_spec.specs.Texts.{within_limit}
use Rattle.hwdb_spec.specs.Tree.{answers_after}
use Rattle.hwdb_spec_commands.specs.Listings.{line_of}
use Rattle.hwdb_answers.proofs.HitLineLemmas.{list_is}
use Rattle.hwdb_answers.proofs.RefusalLemmas.{lent_position}
use Rattle.hwdb_answers.proofs.kept_texts.list_of_kept.Goals as goal

pub returns : goal.returns
returns g c = IfSome_then c.text_of_kept.result c.text_of_kept.ensures.text (λ text is file of kept.
    let a = c.args.asked in
    let from = next_position c.in-Ok.after in
    record {
      from = from;
      spelled = c.in-Ok.ensures.spelled;
      is = record {
        tree = kept.tree;
        database = kept.database;
        is = is file kept.tree of kept (c.new-windows.ensures file) kept.database
            ∙ ap (λ s. flat_map (line_of a.json) (within_limit a.limit (answers_after a.device.now s kept.tree))) (lent_position c.as_ref.result c.in-Ok.after c.as_ref.ensures.value)
            ∙ list_is a.json a.device.now from a.limit kept.tree;
      };
    })
