use Rattle.std.proofs.Common.{◌≡◌, string_bytes, subst, List, Ok, Some, ℕ}
use Rattle.std.proofs.lemmas.Option.{IfSome_then}
use Rattle.hwdb_answers.specs.Asked.{after_of}
use Rattle.hwdb_plan.specs.Asking.{asked}
use Rattle.hwdb_tool.proofs.LookupPlanLemmas.{list_ends}
use Rattle.hwdb_tool.proofs.in_parts.list_in_parts.Goals as goal

pub returns : goal.returns
returns g c = λ tells. IfSome_then c.text_in_parts.result (c.text_in_parts.ensures tells) (λ text h.
    let w = g.D.System.reads c.args.system.now in
    let a = c.args.asked in
    let told = subst (λ (p : List ℕ). w.database p ≡ Ok (Some h.0)) c.as_str.ensures.value h.1 in
    list_ends w (asked c.args.root.now) (string_bytes c.in_ok-path.path) h.0 (λ next e ends. c.in_ok-path.ensures tells next h.0 e told ends) a.json a.device.now a.limit (after_of a) text.items h.2)
