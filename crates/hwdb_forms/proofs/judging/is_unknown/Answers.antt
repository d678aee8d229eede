use Rattle.hwdb_forms.proofs.FrontLemmas.{unknown_told}
use Rattle.hwdb_forms.specs.Internal.{forms_of}
use Rattle.hwdb_forms.proofs.judging.is_unknown.Goals as goal

pub returns : goal.returns
returns c =
    unknown_told (forms_of c.args.table) c.args.pattern.now c.args.tokens.now c.prefix_size-size.result c.min.result c.in_ok-begins.begins c.prefix_size-size.ensures.size c.if-size-eq0.false c.min.ensures c.requires c.in_ok-begins.ensures
