use Rattle.std.proofs.Common.{◌≡◌, ◌∙◌, ap}
use Rattle.hwdb_spec.specs.Tree.{map_of}
use Rattle.hwdb_query.proofs.laws.databases_show_one_map.Goals as goal

pub returns : goal.returns
returns c = λ m bytes t made shown. let same : t ≡ made.0 = c.law_one_tree.ensures bytes t made.0 shown made.1 in ap map_of same ∙ made.2
