use Rattle.std.proofs.lemmas.Result.{IfOk-weaker}
use Rattle.hwdb_cli.proofs.command.hwdb_command.Goals as goal

pub returns : goal.returns
returns c =
    let update = c.with_command-update.ensures _ _ c.top_command.ensures c.command.ensures in
    let query = c.with_command-query.ensures _ _ update c.command-2.ensures in
    let explain = c.with_command-explain.ensures _ _ query c.command-3.ensures in
    let ask = c.with_command-ask.ensures _ _ explain c.command-4.ensures in
    let list = c.with_command-list.ensures _ _ ask c.command-5.ensures in
    let near = c.with_command-near.ensures _ _ list c.command-6.ensures in
    let device = c.with_command-device.ensures _ _ near c.command-7.ensures in
    let check = c.with_command-check.ensures _ _ device c.command-8.ensures in
    let test = c.with_command-test.ensures _ _ check c.command-9.ensures in
    let diff = c.with_command-diff.ensures _ _ test c.command-10.ensures in
    let verify = c.with_command-verify.ensures _ _ diff c.command-11.ensures in
    let dump = c.with_command-dump.ensures _ _ verify c.command-12.ensures in
    let status = c.with_command-status.ensures _ _ dump c.command-13.ensures in
    let keys = c.with_command-keys.ensures _ _ status c.command-14.ensures in
    IfOk-weaker c.with_command.result _ _ (λ r is. is.app) (c.with_command.ensures _ _ keys c.command-15.ensures)
