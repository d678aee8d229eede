use Rattle.hwdb_spec.specs.Tree.{map_of_files}
use Rattle.hwdb_near.proofs.PrefixLemmas.{patterns_of_map}
use Rattle.hwdb_near.proofs.laws.patterns_are_of_files.Goals as goal

pub returns : goal.returns
returns c = record {
  files = λ etc usr bytes of t is.
      patterns_of_map t (map_of_files etc usr) (c.members_are_the_map.ensures t (c.law_ascending.ensures bytes t is)) (c.databases_show_one_map.ensures (map_of_files etc usr) bytes t of is);
}
