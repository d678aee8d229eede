use Rattle.std.proofs.Common.{◌≡◌, [], ap, sym, ◌∙◌, arith}
use Rattle.hwdb_reader.specs.Internal.Paths.{open_nodes}
use Rattle.hwdb_reader.proofs.PathLemmas.{popped}
use Rattle.hwdb_reader.proofs.path.Path.pop.Goals as goal

pub returns-then-self-eq0 : goal.returns-then-self-eq0
unfolding open_nodes
returns-then-self-eq0 c =
    let none : c.args.self.now ≡ [] = sym c.self.view_is ∙ ap (open_nodes c.self.inside.offsets c.self.inside.done) c.if-self-eq0.true in
    (none, none)

pub returns : goal.returns
returns c = sym c.self.view_is ∙ popped c.self.inside.offsets c.self.inside.done c.self.inside.len (omega arith)
