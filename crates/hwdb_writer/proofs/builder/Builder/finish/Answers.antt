use Rattle.hwdb_writer.proofs.BuildLemmas.{finished, none_above}
use Rattle.hwdb_writer.proofs.OpenLemmas.{top_inside}
use Rattle.hwdb_writer.proofs.builder.Builder.finish.Goals as goal

pub close-requires : goal.close-requires
close-requires c =
    let k = c.requires in
    let t = c.in_ok-close_to.ensures k.0 k.1 k.2 in
    record { inside = top_inside k.0 c.close_to.new.self t.0 t.1.nodes; few = λ above g e. absurd (none_above k.0 c.args.self c.close_to.new.self k.1 t.0 t.1 above g e) }

pub returns : goal.returns
returns c = λ es fs is.
    let t = c.in_ok-close_to.ensures es fs is in
    finished es c.args.self c.close_to.new.self fs t.0 c.close.new.self.closed t.1 c.in_ok-close.ensures.closed
