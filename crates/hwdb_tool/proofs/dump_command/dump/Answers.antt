use Rattle.std.proofs.Common.{◌∙◌, option_map, sym}
use Rattle.hwdb_plan.specs.Plans.{Follows}
use Rattle.hwdb_plan.specs.Dump.{dump_plan}
use Rattle.hwdb_tool.specs.Views.{end_of}
use Rattle.hwdb_tool.proofs.NamedInputLemmas.{over_dash, over_file}
use Rattle.hwdb_tool.proofs.dump_command.dump.Goals as goal

pub returns-then-names_input-clause-follows : goal.returns-then-names_input-clause-follows
returns-then-names_input-clause-follows g c = λ tells.
    over_dash (option_map (λ t. t.now) c.args.given) (g.I.Source.left c.args.input.now) (g.I.Source.failures c.args.input.now) (g.I.Source.failures c.dump_input.new.input) (g.D.System.reads c.args.system.now)
    (λ given reads. Follows end_of reads (dump_plan given c.args.root.now) c.dump_input.result) (sym c.names_input.ensures ∙ c.if-names_input.true) (c.dump_input.ensures.follows c.args.root.now (g.D.System.reads c.args.system.now))

pub returns-else-names_input-clause-follows : goal.returns-else-names_input-clause-follows
returns-else-names_input-clause-follows g c = λ tells.
    over_file (option_map (λ t. t.now) c.args.given) (g.I.Source.left c.args.input.now) (g.I.Source.failures c.args.input.now) (g.I.Source.failures c.args.input.now) (g.D.System.reads c.args.system.now)
    (λ given reads. Follows end_of reads (dump_plan given c.args.root.now) c.dump_stored.result) (sym c.names_input.ensures ∙ c.if-names_input.false) (c.dump_stored.ensures.follows tells)
