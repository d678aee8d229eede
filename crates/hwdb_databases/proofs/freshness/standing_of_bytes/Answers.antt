use Rattle.std.proofs.Common.{subst, sym, ◌∙◌, ◌≡◌}
use Rattle.std.proofs.lemmas.Result.{IfOk-weaker}
use Rattle.hwdb_spec_commands.specs.Status.{IsStateOf, State}
use Rattle.hwdb_databases.proofs.freshness.standing_of_bytes.Goals as goal
use Rattle.hwdb_spec.specs.Lemmas.Orders.{same_text}

pub returns-then-is_same-clause-state : goal.returns-then-is_same-clause-state
returns-then-is_same-clause-state c =
    let bytes = c.args.bytes.now in
    let made = c.args.made.now in
    let one : bytes ≡ made = same_text bytes made (sym c.is_same.ensures ∙ c.if-is_same.true) in
    IfOk-weaker c.fresh.result _ _ (λ s told m is. subst (λ (t : State). IsStateOf made m bytes t) (sym told) one) c.fresh.ensures.state
