use Rattle.std.proofs.Common.{◌<◌, ◌≤◌, ◌^◌, length, refl, sym, subst, arith}
use Rattle.hwdb_spec.specs.Lines.{max_pattern}
use Rattle.hwdb_writer.specs.Internal.Storable.{IsText}
use Rattle.std.specs.List.{AllByRecursion}
use Rattle.hwdb_writer.specs.Internal.Entries.{IsStorableEntry}
use Rattle.hwdb_writer.proofs.StorableLemmas.{value_sound, entries_more}
use Rattle.hwdb_writer.proofs.assignments.Assignments.set.Goals as goal

pub invariant_of-self-2 : goal.invariant_of-self-2
invariant_of-self-2 c =
    let given = c.args.given in
    let p : c.args.priority < 2 ^ 16 = omega arith in
    let l : given.line < 2 ^ 32 = omega arith in
    subst (AllByRecursion IsStorableEntry) (sym c.in_ok-push.ensures.items)
    (entries_more c.self.inside.entries.items _ c.self.invariant (record {
      text = subst IsText (sym c.text_of.ensures.same) c.text_of.ensures.text;
      short = subst (λ p. length p ≤ max_pattern) (sym c.text_of.ensures.same) c.requires.short;
      value = value_sound _ given.key.now given.value.now c.args.path.now refl refl refl c.requires.key c.requires.value c.requires.path c.requires.priority p l;
    }))
