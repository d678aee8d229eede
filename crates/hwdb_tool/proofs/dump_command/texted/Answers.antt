use Rattle.std.proofs.Common.{sym, subst, List, ℕ}
use Rattle.hwdb_spec_commands.specs.Databases.{IsTextOf}
use Rattle.hwdb_spec_commands.specs.Dump.{dump_text}
use Rattle.hwdb_tool.proofs.PlanLemmas.{texted, untexted}
use Rattle.hwdb_tool.proofs.dump_command.texted.Goals as goal

pub returns-in-Ok-clause-follows : goal.returns-in-Ok-clause-follows
returns-in-Ok-clause-follows c = λ w.
    let a = c.new.result in
    texted w c.args.path.now c.args.bytes.now a.status a.err.items a.out.items c.law_one_tree.ensures c.new.ensures.status c.new.ensures.err
    (subst (λ (t : List ℕ). IsTextOf dump_text c.args.bytes.now t) (sym c.new.ensures.out) c.in-Ok.ensures.text) c.in-Ok.ensures.sayable

pub returns-in-Err-clause-follows : goal.returns-in-Err-clause-follows
returns-in-Err-clause-follows c = λ w. untexted w c.args.path.now c.args.bytes.now c.in-Err.error c.refusal_of.result c.in-Err.ensures.errors c.refusal_of.ensures.stops
