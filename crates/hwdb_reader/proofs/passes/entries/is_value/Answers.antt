use Rattle.hwdb_reader.proofs.passes.EntryLemmas.{value_is}
use Rattle.hwdb_reader.proofs.passes.entries.is_value.Goals as goal

pub returns-clause-sound : goal.returns-clause-sound
returns-clause-sound c t file at is p =
    value_is c.args.o file c.args.piece.now at c.args.entry c.u64_at-key.result c.u64_at-value.result c.u64_at-path.result c.u16_at-priority.result is p c.requires
    c.u64_at-key.ensures c.u64_at-value.ensures c.u64_at-path.ensures c.u16_at-priority.ensures (c.has.ensures.0 c.if-not-has.false) (c.has-else-not-has.ensures.0 c.if-not-has-2.false)
    (c.has-else-not-has-2.ensures.0 c.if-not-has-3.false) c.if-priority-eq0.false
