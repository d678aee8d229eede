use Rattle.std.proofs.Common.{◌∷◌, [], refl}
use Rattle.hwdb_writer.proofs.BuildLemmas.{root, built_none}
use Rattle.hwdb_writer.proofs.builder.Builder.new.Goals as goal

pub returns : goal.returns
returns c = (root ∷ [], built_none c.args.entries.now _ refl c.requires refl c.new.ensures.byte c.new.ensures.prefix c.new.ensures.first c.new.ensures.count c.new.ensures.children refl c.in_ok-above.ensures.items)
