use Rattle.std.proofs.Common.{Option, Some, refl, subst, sym}
use Rattle.std.proofs.lemmas.Result.{IfOk-weaker}
use Rattle.hwdb_spec_commands.specs.Status.{Amount, IsAmount}
use Rattle.hwdb_databases.specs.Views.{state_shown}
use Rattle.hwdb_databases.proofs.AlikeLemmas.{state_how}
use Rattle.hwdb_databases.proofs.FewLemmas.{few_members}
use Rattle.hwdb_databases.proofs.StateLemmas.{not_same}
use Rattle.hwdb_databases.proofs.freshness.standing_of_others.Goals as goal

pub returns-in-Ok-clause-state : goal.returns-in-Ok-clause-state
returns-in-Ok-clause-state c =
    let bytes = c.args.bytes.now in
    let made = c.args.made.now in
    IfOk-weaker c.stale.result _ _
    (λ s told m is. state_how bytes made m c.in-Ok.old (state_shown s.state) (not_same bytes made c.requires.other) c.in-Ok.ensures.accepted (told m is))
    c.stale.ensures.state

pub returns-in-Ok-clause-holds : goal.returns-in-Ok-clause-holds
returns-in-Ok-clause-holds c =
    let bytes = c.args.bytes.now in
    IfOk-weaker c.stale.result _ _
    (λ s told. subst (λ (a : Option Amount). IsAmount (Some bytes) a) (sym told) (c.in-Ok.old, c.in-Ok.ensures.accepted, refl))
    c.stale.ensures.holds

pub stale-requires-clause-few : goal.stale-requires-clause-few
stale-requires-clause-few c = few_members c.args.bytes.now c.in-Ok.old c.in-Ok.ensures.accepted
