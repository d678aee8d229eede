use Rattle.std.proofs.Common.{◌∙◌, ◌++◌, ap, List, ℕ, arith}
use Rattle.std.specs.Prelude.{slice_index_or}
use Rattle.std.proofs.lemmas.Result.{on_ok_weaker}
use Rattle.byteorder.specs.Endian.{little_bytes}
use Rattle.hwdb_writer.proofs.NumberLemmas.{line_and_priority}
use Rattle.hwdb_writer.proofs.records.push_value.Goals as goal

pub returns : goal.returns
returns c =
    on_ok_weaker c.push_four.result
    (λ h. h ∙ ap
    (λ (t : List ℕ). c.args.out.now.items
    ++ (little_bytes 8 (slice_index_or c.args.places.now c.args.value.now.key 0)
    ++ little_bytes 8 (slice_index_or c.args.places.now c.args.value.now.value 0)
    ++ little_bytes 8 (slice_index_or c.args.places.now c.args.value.now.path 0) ++ t))
    (line_and_priority c.args.value.now.line c.args.value.now.priority _ (omega arith) (omega arith) c.origin_of-origin.ensures))
    c.push_four.ensures
