use Rattle.std.proofs.Common.{subst, List, ℕ}
use Rattle.std.specs.Prelude.{codes}
use Rattle.hwdb_plan.specs.Plans.{Follows}
use Rattle.hwdb_plan.specs.Dump.{text_form}
use Rattle.hwdb_tool.specs.Views.{end_of}
use Rattle.hwdb_tool.proofs.NamedInputLemmas.{input_read, input_unread}
use Rattle.hwdb_tool.proofs.dump_command.dump_input.Goals as goal

pub returns-in_err-bytes-clause-follows : goal.returns-in_err-bytes-clause-follows
returns-in_err-bytes-clause-follows g c = λ root reads.
    input_unread end_of (g.I.Source.left c.args.input.now) (g.I.Source.failures c.args.input.now) (g.I.Source.failures c.read_input.new.input) text_form c.in_err-bytes.field-0.0 c.from_residual.result c.in_err-bytes.ensures.told c.from_residual.ensures.1 reads

pub returns-clause-follows : goal.returns-clause-follows
returns-clause-follows g c = λ root reads.
    input_read end_of (g.I.Source.left c.args.input.now) (g.I.Source.failures c.args.input.now) (g.I.Source.failures c.read_input.new.input) text_form c.in_ok-bytes.bytes.items c.texted.result c.in_ok-bytes.ensures.told
    (λ w. subst (λ (b : List ℕ). Follows end_of w (text_form (codes "standard input") b) c.texted.result) c.deref.ensures.value (c.texted.ensures.follows w)) reads
