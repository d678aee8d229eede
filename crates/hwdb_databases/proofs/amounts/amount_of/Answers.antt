use Rattle.std.proofs.Common.{◌<◌, ◌^◌, length, rules}
use Rattle.std.proofs.lemmas.Result.{IfOk-weaker}
use Rattle.hwdb_databases.specs.Views.{amount_shown}
use Rattle.hwdb_databases.proofs.FewLemmas.{few_members, half}
use Rattle.hwdb_databases.proofs.ReportLemmas.{counted_amount}
use Rattle.hwdb_databases.proofs.amounts.amount_of.Goals as goal

pub returns-in-Ok : goal.returns-in-Ok
returns-in-Ok c =
    IfOk-weaker c.amount_in.result _ _ (λ amount is. counted_amount c.args.bytes.now c.in-Ok.db (amount_shown amount) c.in-Ok.ensures.accepted is) c.amount_in.ensures

pub amount_in-requires : goal.amount_in-requires
amount_in-requires c =
    let long : length c.args.bytes.now < 2 ^ 64 = search rules in
    half _ (length c.args.bytes.now) _ (few_members c.args.bytes.now c.in-Ok.db c.in-Ok.ensures.accepted) long
