use Rattle.std.proofs.lemmas.Result.{on_ok_weaker}
use Rattle.hwdb_reader.specs.Views.{entered_tree, entry_shows}
use Rattle.hwdb_spec.specs.Tree.{values_of}
use Rattle.hwdb_query.proofs.CollectionLemmas.{page_one_taken, page_one_skipped}
use Rattle.hwdb_query.proofs.next_page.NextPage.collect_one.Goals as goal

pub returns-then-skips : goal.returns-then-skips
returns-then-skips c =
    page_one_skipped c.args.self.now c.args.pattern.now (values_of (entered_tree c.args.inside)) c.args.i c.origin.result.priority c.origin.result.line c.origin.ensures.priority c.origin.ensures.line
    (c.skips.ensures c.if-skips.true)

pub returns : goal.returns
returns c =
    on_ok_weaker c.offer.result
    (λ taken. page_one_taken c.args.self.now c.offer.new.self c.args.pattern.now (values_of (entered_tree c.args.inside)) c.args.i (entry_shows c.value.result) c.value.ensures taken) c.offer.ensures
