use Rattle.std.proofs.Common.{subst, sym}
use Rattle.hwdb_spec.specs.Store.{NoMoreBut, path_in}
use Rattle.hwdb_replace.specs.Sharing.{left_with}
use Rattle.hwdb_replace.proofs.OthersLemmas.{no_more_but_with, time_let_go}
use Rattle.hwdb_replace.proofs.others.SharedStore.remove.Goals as goal

pub returns-clause-crash : goal.returns-clause-crash
returns-clause-crash g c =
    let path = path_in c.args.folder.now c.args.name.now in
    let left = left_with g.O.Others.whole in
    let zs = c.remove-removed.new.self.steps.items in
    subst (λ ws. NoMoreBut path (left c.args.self.now.memory.steps.items) (left ws)) (sym c.let_go.ensures.steps)
    (no_more_but_with c.wait.ensures.went path zs c.remove-removed.ensures.crash)

pub returns-clause-time : goal.returns-clause-time
returns-clause-time g c =
    time_let_go c.wait.ensures.went c.remove-removed.new.self.steps.items _ c.let_go.ensures.steps c.remove-removed.ensures.time
