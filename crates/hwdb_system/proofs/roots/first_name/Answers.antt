use Rattle.std.proofs.Common.{◌∙◌, ap, arith}
use Rattle.hwdb_spec.specs.Lines.{has}
use Rattle.hwdb_system.proofs.RootLemmas.{none_before}
use Rattle.hwdb_system.proofs.roots.first_name.Goals as goal
use Rattle.hwdb_text.specs.Lemmas.Bytes.{has_none}

pub returns-in-Some-clause-plain : goal.returns-in-Some-clause-plain
returns-in-Some-clause-plain c = ap (has 47) (c.in-Some.ensures.byte (omega arith) (λ w o found. found)).0 ∙ none_before 47 c.args.path.now

pub returns-in-None-clause-plain : goal.returns-in-None-clause-plain
returns-in-None-clause-plain c = has_none 47 c.args.path.now (c.in-None.ensures.byte (omega arith) (λ w o found. found))
