use Rattle.std.proofs.Common.{◌≡◌, subst, List, None, Ok, ℕ}
use Rattle.hwdb_plan.specs.Lemmas.Asking.{asked_first, asked_second}
use Rattle.hwdb_tool.proofs.in_parts.asked_path.Goals as goal

pub returns-in-Ok-true : goal.returns-in-Ok-true
returns-in-Ok-true g c = λ tells next bytes e told ends.
    let w = g.D.System.reads c.args.system.now in
    asked_first w c.args.root.now _ c.in-Ok.ensures next bytes e told ends

pub returns-in-Ok-true-is_there : goal.returns-in-Ok-true-is_there
returns-in-Ok-true-is_there g c = λ tells next bytes e told ends.
    let w = g.D.System.reads c.args.system.now in
    let none = subst (λ (p : List ℕ). w.database p ≡ Ok None) c.as_str.ensures.value (c.in-Ok-false.ensures.told tells c.in-Ok-false.field-0-test) in
    asked_second w c.args.root.now _ _ c.in-Ok.ensures none c.in-Ok-database_path.ensures next bytes e told ends
