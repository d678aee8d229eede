use Rattle.std.proofs.Common.{ap, get_or, sym, ◌∙◌}
use Rattle.std.proofs.lemmas.List.{get_or_default}
use Rattle.hwdb_writer.specs.declared.entries.Setting.{Setting}
use Rattle.hwdb_writer.specs.Internal.Spine.{IsClosable}
use Rattle.hwdb_writer.proofs.BuildLemmas.{all_values, blank, next_at}
use Rattle.hwdb_writer.proofs.builder.post_order.Goals as goal

pub add-requires-clause-next : goal.add-requires-clause-next
add-requires-clause-next c =
    let i = c.loop-number.invariant in
    let es = c.args.entries.now in
    let n = c.loop-number.number in
    let next = next_at es n c.loop-number-test.true c.requires.ascending c.requires.storable in
    (es, i.0, get_or es n blank, i.1, next, ap (λ (e : Setting). e.pattern.now) (get_or_default es n blank _ c.loop-number-test.true ∙ sym (c.entry-entry.ensures ∙ c.index-entries-number.is)))

pub loop-number-preserved : goal.loop-number-preserved
loop-number-preserved c =
    let i = c.loop-number.invariant in
    let es = c.args.entries.now in
    let n = c.loop-number.number in
    let next = next_at es n c.loop-number-test.true c.requires.ascending c.requires.storable in
    c.in_ok-add.ensures es i.0 (get_or es n blank) i.1 next (ap (λ (e : Setting). e.pattern.now) (get_or_default es n blank _ c.loop-number-test.true ∙ sym (c.entry-entry.ensures ∙ c.index-entries-number.is)))

pub returns : goal.returns
returns c =
    let es = c.args.entries.now in
    let i = c.loop-number.invariant in
    let closable : IsClosable es c.loop-number.builder i.0 = record { nodes = i.1.nodes; forked = i.1.forked } in
    let f = c.in_ok-closed.ensures es i.0 closable in
    record {
      ns = f.nodes;
      kept = f.kept;
      order = f.order;
      sound = f.sound;
      values = f.values ∙ all_values es c.loop-number.number i.0 c.loop-number-test.false i.1.values;
    }
