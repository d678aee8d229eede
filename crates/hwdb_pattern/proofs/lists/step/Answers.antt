use Rattle.std.proofs.Common.{◌∙◌, ◌≡◌, ◌++◌, take, drop, length, arith, sym, ap}
use Rattle.hwdb_spec.specs.Patterns.{token_at}
use Rattle.hwdb_pattern.proofs.ListLemmas.{kept_fits, steps_list, written_over}
use Rattle.hwdb_pattern.proofs.lists.step.Goals as goal

pub advance-requires : goal.advance-requires
advance-requires c = kept_fits (token_at c.args.text.now) c.args.device.now c.args.lengths.now.items _ (omega arith) (c.deref_mut.ensures.value ∙ c.keep.ensures)

pub returns : goal.returns
returns c =
    steps_list (token_at c.args.text.now) c.args.device.now c.args.lengths.now.items c.keep.new.lengths.items _ c.keep.ensures
    (written_over c.keep.new.lengths.len c.advance.new.lengths c.keep.new.lengths.items c.deref_mut.result.now (omega (arith, c.keep.new.lengths.ok)) c.deref_mut.ensures.value c.advance.ensures)
