use Rattle.std.proofs.Common.{◌∙◌, sym}
use Rattle.hwdb_databases.specs.Internal.Holding.{shown_of}
use Rattle.hwdb_databases.proofs.PlainLemmas.{plain_is_said}
use Rattle.hwdb_databases.proofs.plain.is_plain.Goals as goal

pub returns : goal.returns
returns c = λ is. plain_is_said (shown_of c.args.f.now) c.args.body.now c.requires c.law_small.ensures (sym c.passes.ensures ∙ is)
