use Rattle.std.proofs.Common.{ℕ, List, subst, sym}
use Rattle.hwdb_spec_commands.specs.Asked.{unsayable_text}
use Rattle.hwdb_plan.specs.Dump.{dump_stop}
use Rattle.hwdb_spec_commands.specs.Told.{IsStop}
use Rattle.hwdb_spec_commands.specs.Told.Stop.{Says}
use Rattle.hwdb_tool.proofs.dump_command.refusal_of.Goals as goal

pub returns-in-Unsayable-clause-stops : goal.returns-in-Unsayable-clause-stops
returns-in-Unsayable-clause-stops c =
    subst (λ e. IsStop (dump_stop c.args.path.now e) c.refused_pattern.result) (sym c.in-Unsayable.is)
    (subst (λ (q : List ℕ). IsStop (Says (unsayable_text c.args.path.now q)) c.refused_pattern.result) c.deref.ensures.value c.refused_pattern.ensures.stops)
