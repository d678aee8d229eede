use Rattle.std.proofs.Common.{option_map, string_bytes, subst, List, ℕ}
use Rattle.hwdb_plan.specs.Asking.{named}
use Rattle.hwdb_plan.specs.Plans.{Follows}
use Rattle.hwdb_plan.specs.Dump.{text_form}
use Rattle.hwdb_tool.specs.Views.{end_of}
use Rattle.hwdb_tool.proofs.NamedInputLemmas.{goes_on}
use Rattle.hwdb_tool.proofs.dump_command.dump_stored.Goals as goal

pub returns-clause-follows : goal.returns-clause-follows
returns-clause-follows g c = λ tells.
    let w = g.D.System.reads c.args.system.now in
    goes_on end_of w (named (option_map (λ t. t.now) c.args.given) c.args.root.now) text_form (string_bytes c.in_ok-found.found.path) c.in_ok-found.found.bytes.items c.texted.result (c.in_ok-found.ensures.follows tells)
    (subst (λ (p : List ℕ). Follows end_of w (text_form p c.in_ok-found.found.bytes.items) c.texted.result) c.as_bytes.ensures.value
    (subst (λ (b : List ℕ). Follows end_of w (text_form c.as_bytes.result.now b) c.texted.result) c.deref.ensures.value (c.texted.ensures.follows w)))
