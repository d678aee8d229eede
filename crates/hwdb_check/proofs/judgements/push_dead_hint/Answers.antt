use Rattle.std.proofs.Common.{◌∙◌, ◌++◌, ap, sym, List, Option, Some, ℕ}
use Rattle.std.proofs.lemmas.Result.{on_ok_weaker}
use Rattle.hwdb_spec_commands.specs.Mends.{mend_hint}
use Rattle.hwdb_spec_commands.specs.Unmatched.{dead_hint}
use Rattle.hwdb_check.proofs.MendLemmas.{items_of}
use Rattle.hwdb_check.proofs.judgements.push_dead_hint.Goals as goal

pub returns-in-Some : goal.returns-in-Some
returns-in-Some c =
    let other = dead_hint c.args.pattern.now c.args.place in
    on_ok_weaker c.push_mend.result
    (λ pushed. pushed ∙ ap (λ (m : Option (List ℕ)). c.args.text.now.items ++ mend_hint c.args.pattern.now c.args.place other m)
    (ap Some c.deref.ensures.value ∙ sym (ap items_of c.in-Some.is) ∙ c.requires))
    (c.push_mend.ensures other)
