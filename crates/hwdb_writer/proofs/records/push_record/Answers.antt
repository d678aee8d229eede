use Rattle.std.proofs.Common.{◌∙◌, ap, ◌++◌, ◌*◌, length, List, ℕ}
use Rattle.std.specs.Prelude.{slice_index_or}
use Rattle.std.proofs.lemmas.Result.{on_ok_weaker}
use Rattle.hwdb_writer.specs.Internal.Stored.{record_text}
use Rattle.hwdb_writer.proofs.NumberLemmas.{cut_out}
use Rattle.hwdb_writer.proofs.records.push_record.Goals as goal

pub returns-clause-record : goal.returns-clause-record
returns-clause-record c =
    on_ok_weaker c.push_child.result
    (λ h place xs p. c.in_ok-push_fields.ensures place xs p
    ∙ ap (λ (l : List ℕ). c.args.out.now.items ++ record_text place (slice_index_or c.args.places.now c.args.node.now.prefix 0) c.args.node.now.children (length c.args.values.now) l xs)
    (cut_out c.deref.result.now c.args.children.now.items c.as_slice.result.now (16 * c.args.node.now.children) c.deref.ensures.value c.as_slice.ensures.value))
    c.push_child.ensures
