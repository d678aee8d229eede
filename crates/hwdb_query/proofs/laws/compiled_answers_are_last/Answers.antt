use Rattle.std.proofs.Common.{◌≡◌, ◌∙◌, ap, sym, None}
use Rattle.hwdb_spec.specs.Tree.{map_of, map_of_files}
use Rattle.hwdb_spec.specs.Folders.{all_assignments}
use Rattle.hwdb_query.proofs.KeyLemmas.{from_the_first}
use Rattle.hwdb_query.proofs.LastLemmas.{last_are_answers}
use Rattle.hwdb_query.proofs.laws.compiled_answers_are_last.Goals as goal

pub returns-clause-after : goal.returns-clause-after
returns-clause-after c = λ etc usr bytes made t shown device after.
    let same : t ≡ made.0 = c.law_one_tree.ensures bytes t made.0 shown made.1 in
    let map : map_of t ≡ map_of_files etc usr = ap map_of same ∙ made.2 in
    last_are_answers c.matches_is_tested.ensures device after t (all_assignments etc usr) (c.law_ascending.ensures bytes t shown) map

pub returns-clause-all : goal.returns-clause-all
returns-clause-all c = λ etc usr bytes made t shown device. sym (from_the_first device t) ∙ returns-clause-after c etc usr bytes made t shown device None
