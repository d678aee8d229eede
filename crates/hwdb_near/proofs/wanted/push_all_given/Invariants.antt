use Rattle.std.proofs.Common.{◌≡◌, ◌++◌, filter, map, take}
use Rattle.hwdb_spec.specs.Answers.{is_wanted}
use Rattle.hwdb_text.specs.Views.{given_in}
use Rattle.hwdb_near.specs.Views.{assignment_of, origin_of}
use Rattle.hwdb_near.proofs.wanted.push_all_given.Given as goal

abbrev pub invariant-loop-given : goal.invariant-loop-given
invariant-loop-given l =
    map assignment_of l.found.items
    ≡ map assignment_of l.fn.found.items ++ filter (is_wanted l.device) (map (given_in (origin_of l.file)) (take l.given-index l.all))
