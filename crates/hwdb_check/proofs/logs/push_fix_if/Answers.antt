use Rattle.std.proofs.Common.{◌∙◌, ◌++◌, List, ℕ, ap, append-nil, sym}
use Rattle.std.proofs.lemmas.Result.{on_ok_weaker}
use Rattle.hwdb_check.proofs.FixLemmas.{no_fix, text_fix}
use Rattle.hwdb_check.proofs.logs.push_fix_if.Goals as goal

pub returns-in-Ok : goal.returns-in-Ok
returns-in-Ok c =
    let old : List ℕ = c.args.text.now.items in
    on_ok_weaker c.push_fix.result
    (λ is. is ∙ ap (λ (t : List ℕ). old ++ t) (sym (text_fix c.args.found.now.path.now c.args.found.now.line c.args.after c.args.meant.now c.in-Ok.ensures.cases.1)))
    c.push_fix.ensures

pub returns-in-Err : goal.returns-in-Err
returns-in-Err c =
    let old : List ℕ = c.args.text.now.items in
    sym (append-nil old)
    ∙ ap (λ (t : List ℕ). old ++ t) (sym (no_fix c.args.found.now.path.now c.args.found.now.line c.args.after c.args.meant.now c.in-Err.ensures.cases.0))
