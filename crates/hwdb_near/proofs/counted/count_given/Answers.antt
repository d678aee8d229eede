use Rattle.std.proofs.Common.{◌∙◌, ◌<◌, ◌^◌, List, ap, length, map, rules}
use Rattle.hwdb_compile.specs.Lemmas.Files.{same_assignments}
use Rattle.hwdb_spec.specs.Folders.{all_assignments}
use Rattle.hwdb_spec_commands.specs.Once.{once}
use Rattle.hwdb_near.specs.Views.{assignment_of}
use Rattle.hwdb_near.specs.declared.wanted.FileAssignment.{FileAssignment}
use Rattle.hwdb_near.proofs.CountLemmas.{counted_is}
use Rattle.hwdb_near.proofs.counted.count_given.Goals as goal

pub returns : goal.returns
returns c = λ etc usr of.
    let fits : length c.as_slice.result.now < 2 ^ 64 = search rules in
    counted_is c.as_slice.result.now c.in_ok-each.each.items (all_assignments etc usr) c.as_slice.ensures.value
    (c.in_ok-each.ensures ∙ ap (λ (l : List FileAssignment). once (map assignment_of l)) c.deref.ensures.value
    ∙ ap once (c.in_ok-found.ensures ∙ same_assignments etc usr c.args.files.now of))
    fits
