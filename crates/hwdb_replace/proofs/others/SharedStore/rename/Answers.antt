use Rattle.std.proofs.Common.{inl, subst, sym}
use Rattle.hwdb_spec.specs.Store.{NoMoreRenamed, path_in}
use Rattle.hwdb_replace.specs.Sharing.{left_with}
use Rattle.hwdb_replace.specs.Memory.{is_whole_of, seen_of}
use Rattle.hwdb_replace.proofs.OthersLemmas.{no_more_with, renamed_with, time_let_go, time_with}
use Rattle.hwdb_replace.proofs.others.SharedStore.rename.Goals as goal

pub returns-in-Ok-clause-crash : goal.returns-in-Ok-clause-crash
returns-in-Ok-clause-crash g c =
    let from = path_in c.args.folder.now c.args.from.now in
    let to = path_in c.args.folder.now c.args.to.now in
    let left = left_with g.O.Others.whole in
    let xs = c.args.self.now.memory.steps.items in
    subst (λ ws. NoMoreRenamed from to (seen_of xs from) (is_whole_of xs from) (left xs) (left ws)) (sym c.let_go.ensures.steps)
    (renamed_with c.wait.ensures.went from to c.rename.new.self.steps.items c.requires.own c.in-Ok.ensures.crash)

pub returns-in-Ok-clause-time : goal.returns-in-Ok-clause-time
returns-in-Ok-clause-time g c = time_let_go c.wait.ensures.went c.rename.new.self.steps.items _ c.let_go.ensures.steps c.in-Ok.ensures.time

pub returns-in-Err-clause-crash : goal.returns-in-Err-clause-crash
returns-in-Err-clause-crash g c = no_more_with c.wait.ensures.went c.rename.new.self.steps.items c.in-Err.ensures.crash

pub returns-in-Err-clause-time : goal.returns-in-Err-clause-time
returns-in-Err-clause-time g c = time_with c.wait.ensures.went c.rename.new.self.steps.items _ _ c.in-Err.ensures.time (λ p v l. inl l)
