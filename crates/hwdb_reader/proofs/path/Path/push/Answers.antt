use Rattle.std.proofs.Common.{ap, ◌∙◌, ◌∷◌, arith}
use Rattle.hwdb_reader.proofs.PathLemmas.{pushed, table_room}
use Rattle.hwdb_reader.proofs.path.Path.push.Goals as goal

pub bounds-self-inside-last : goal.bounds-self-inside-last
bounds-self-inside-last c = table_room c.args.self.now c.self.inside.offsets c.self.inside.done c.self.inside.len c.self.view_is c.requires

pub bounds-self-inside-last-2 : goal.bounds-self-inside-last-2
bounds-self-inside-last-2 c = table_room c.args.self.now c.self.inside.offsets c.self.inside.done c.self.inside.len c.self.view_is c.requires

pub invariant_of-self : goal.invariant_of-self
invariant_of-self c =
    let room = table_room c.args.self.now c.self.inside.offsets c.self.inside.done c.self.inside.len c.self.view_is c.requires in
    omega (arith, room)

pub returns : goal.returns
returns c =
    let room = table_room c.args.self.now c.self.inside.offsets c.self.inside.done c.self.inside.len c.self.view_is c.requires in
    pushed c.self.inside.offsets c.self.inside.done c.self.inside.len c.args.node.off c.args.node.done (omega (arith, room, c.self.told)) (omega (arith, room, c.self.told))
    ∙ ap (λ nodes. (c.args.node.off, c.args.node.done) ∷ nodes) c.self.view_is
