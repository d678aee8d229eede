use Rattle.std.proofs.Common.{◌+◌, ◌*◌, ◌∙◌, ap, refl, arith}
use Rattle.hwdb_spec.specs.Format.{text_at, value_entries}
use Rattle.hwdb_lookup.proofs.PartsLemmas.{field_there, place_found, place_there, refuted, value_is}
use Rattle.hwdb_lookup.proofs.lazy_node.LazyNode.value.Goals as goal

pub returns-then-not-is_string-clause-stop : goal.returns-then-not-is_string-clause-stop
returns-then-not-is_string-clause-stop c file m s =
    let n = c.args.self in
    let e = c.value_entry_at-entry.result in
    let at = value_entries n.frame.sizes file n.off + n.frame.sizes.value_size * c.args.i in
    let there = field_there n.frame.sizes file n.bytes.now n.off n.children c.args.i e 0 8 e at (s.0).part c.value_entry_at-entry.ensures.room (omega arith) (s.0).children n.some_children
    c.value_entry_at-entry.ensures.place (omega arith) (omega arith) in
    refuted _ _ c.if-not-is_string.true c.is_string.ensures (place_there n.frame.sizes n.known file _ _ m (c.u64_at-key.ensures ∙ there) (s.1).key)

pub returns-then-not-is_string-2-clause-stop : goal.returns-then-not-is_string-2-clause-stop
returns-then-not-is_string-2-clause-stop c file m s =
    let n = c.args.self in
    let e = c.value_entry_at-entry.result in
    let at = value_entries n.frame.sizes file n.off + n.frame.sizes.value_size * c.args.i in
    let there = field_there n.frame.sizes file n.bytes.now n.off n.children c.args.i e 8 8 (e + 8) (at + 8) (s.0).part c.value_entry_at-entry.ensures.room (omega arith) (s.0).children n.some_children
    c.value_entry_at-entry.ensures.place refl refl in
    refuted _ _ c.if-not-is_string-2.true c.is_string-2.ensures (place_there n.frame.sizes n.known file _ _ m (c.u64_at-value.ensures ∙ there) (s.1).value)

pub returns-then-not-is_string-3-clause-stop : goal.returns-then-not-is_string-3-clause-stop
returns-then-not-is_string-3-clause-stop c file m s =
    let n = c.args.self in
    let e = c.value_entry_at-entry.result in
    let at = value_entries n.frame.sizes file n.off + n.frame.sizes.value_size * c.args.i in
    let there = field_there n.frame.sizes file n.bytes.now n.off n.children c.args.i e 16 8 (e + 16) (at + 16) (s.0).part c.value_entry_at-entry.ensures.room (omega arith) (s.0).children n.some_children
    c.value_entry_at-entry.ensures.place refl refl in
    refuted _ _ c.if-not-is_string-3.true c.is_string-3.ensures (place_there n.frame.sizes n.known file _ _ m (c.u64_at-path.ensures ∙ there) (s.1).path)

pub returns-then-priority-eq0-clause-stop : goal.returns-then-priority-eq0-clause-stop
returns-then-priority-eq0-clause-stop c file m s =
    let n = c.args.self in
    let e = c.value_entry_at-entry.result in
    let at = value_entries n.frame.sizes file n.off + n.frame.sizes.value_size * c.args.i in
    let there = field_there n.frame.sizes file n.bytes.now n.off n.children c.args.i e 28 2 (e + 28) (at + 28) (s.0).part c.value_entry_at-entry.ensures.room (omega arith) (s.0).children n.some_children
    c.value_entry_at-entry.ensures.place refl refl in
    let is = c.u16_at-priority.ensures ∙ there in
    let none = c.if-priority-eq0.true in
    let some = (s.1).priority in
    omega (arith, is, none, some)

pub returns-clause-read : goal.returns-clause-read
returns-clause-read c file m head =
    let n = c.args.self in
    let e = c.value_entry_at-entry.result in
    let at = value_entries n.frame.sizes file n.off + n.frame.sizes.value_size * c.args.i in
    let room = c.value_entry_at-entry.ensures.room in
    let place = c.value_entry_at-entry.ensures.place in
    let there = field_there n.frame.sizes file n.bytes.now n.off n.children c.args.i e in
    value_is file at _
    (c.u16_at-priority.ensures ∙ there 28 2 (e + 28) (at + 28) head.part room (omega arith) head.children n.some_children place refl refl)
    (c.u32_at.ensures ∙ there 24 4 (e + 24) (at + 24) head.part room (omega arith) head.children n.some_children place refl refl)
    (c.in_ok-text.ensures.read file m ∙ ap (text_at file) (c.u64_at-key.ensures ∙ there 0 8 e at head.part room (omega arith) head.children n.some_children place (omega arith) (omega arith)))
    (c.in_ok-text-2.ensures.read file m ∙ ap (text_at file) (c.u64_at-value.ensures ∙ there 8 8 (e + 8) (at + 8) head.part room (omega arith) head.children n.some_children place refl refl))
    (c.in_ok-text-3.ensures.read file m ∙ ap (text_at file) (c.u64_at-path.ensures ∙ there 16 8 (e + 16) (at + 16) head.part room (omega arith) head.children n.some_children place refl refl))

pub returns-clause-sound : goal.returns-clause-sound
returns-clause-sound c file m head =
    let n = c.args.self in
    let e = c.value_entry_at-entry.result in
    let at = value_entries n.frame.sizes file n.off + n.frame.sizes.value_size * c.args.i in
    let room = c.value_entry_at-entry.ensures.room in
    let place = c.value_entry_at-entry.ensures.place in
    let there = field_there n.frame.sizes file n.bytes.now n.off n.children c.args.i e in
    let priority = c.u16_at-priority.ensures ∙ there 28 2 (e + 28) (at + 28) head.part room (omega arith) head.children n.some_children place refl refl in
    let some = c.if-priority-eq0.false in
    record {
      key = place_found n.frame.sizes n.known file _ _ _ m (c.u64_at-key.ensures ∙ there 0 8 e at head.part room (omega arith) head.children n.some_children place (omega arith) (omega arith)) c.if-not-is_string.false c.is_string.ensures;
      value = place_found n.frame.sizes n.known file _ _ _ m (c.u64_at-value.ensures ∙ there 8 8 (e + 8) (at + 8) head.part room (omega arith) head.children n.some_children place refl refl) c.if-not-is_string-2.false c.is_string-2.ensures;
      path = place_found n.frame.sizes n.known file _ _ _ m (c.u64_at-path.ensures ∙ there 16 8 (e + 16) (at + 16) head.part room (omega arith) head.children n.some_children place refl refl) c.if-not-is_string-3.false c.is_string-3.ensures;
      priority = omega (arith, priority, some);
    }
