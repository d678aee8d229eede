use Rattle.std.proofs.Common.{◌-◌, ap, sym, ◌∙◌, length}
use Rattle.hwdb_spec.specs.Format.{max_levels}
use Rattle.hwdb_reader.proofs.PathLemmas.{length-open_nodes}
use Rattle.hwdb_reader.proofs.path.Path.levels_left.Goals as goal

pub returns : goal.returns
returns c = ap (λ n. max_levels - n) (sym (length-open_nodes c.self.inside.offsets c.self.inside.done c.self.inside.len) ∙ ap length c.self.view_is)
