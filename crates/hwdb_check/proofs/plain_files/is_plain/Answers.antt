use Rattle.std.proofs.Common.{◌∙◌, length, sym}
use Rattle.std.proofs.lemmas.Result.{IfOk-weaker}
use Rattle.std.proofs.lemmas.Bool.{eqb-true}
use Rattle.hwdb_check.proofs.PlainLemmas.{no_members, plain_file}
use Rattle.hwdb_check.proofs.plain_files.is_plain.Goals as goal

pub returns : goal.returns
returns c =
    IfOk-weaker c.are_plain.result _ _
    (λ b steady plain.
    plain_file c.sections_are_the_block.ensures c.args.bytes.now c.args.assignments.now c.requires.assignments
    (sym c.requires.faults ∙ no_members c.args.faults.now (eqb-true (length c.args.faults.now) 0 (sym c.is_empty.ensures ∙ c.if-not-is_empty.false)))
    (sym c.has_return.ensures ∙ c.if-has_return.false) (c.ascend.ensures (c.if-not-ascend.false)) (steady plain))
    c.are_plain.ensures
