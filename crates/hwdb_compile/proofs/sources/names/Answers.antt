use Rattle.std.proofs.Common.{◌∙◌}
use Rattle.hwdb_compile.specs.Views.{source_of, name_of}
use Rattle.hwdb_compile.proofs.GatherLemmas.{mapped_all, names_listed}
use Rattle.hwdb_compile.proofs.sources.names.Goals as goal

pub returns : goal.returns
returns c =
    c.loop-file.invariant
    ∙ mapped_all (λ f. name_of (source_of f)) c.args.files.now c.loop-file.file-index c.loop-file-test.false
    ∙ names_listed c.args.files.now
