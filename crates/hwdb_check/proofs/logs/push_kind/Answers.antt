use Rattle.std.proofs.Common.{◌∙◌, ◌++◌, List, append_assoc, ap, codes, ℕ}
use Rattle.std.proofs.lemmas.Result.{on_ok_weaker}
use Rattle.hwdb_check.proofs.logs.push_kind.Goals as goal

pub returns : goal.returns
returns c =
    let old : List ℕ = c.args.text.now.items in
    let kind : List ℕ = c.args.kind.now in
    on_ok_weaker c.push_text-2.result (λ is. is ∙ ap (λ (front : List ℕ). front ++ kind) c.in_ok-push_text.ensures ∙ append_assoc old (codes ",{\"ruleId\":\"") kind) c.push_text-2.ensures
