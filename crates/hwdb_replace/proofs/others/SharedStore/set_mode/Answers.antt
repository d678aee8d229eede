use Rattle.std.proofs.Common.{inl, subst}
use Rattle.hwdb_spec.specs.Store.{NoMoreBut}
use Rattle.hwdb_replace.specs.Sharing.{left_with}
use Rattle.hwdb_replace.proofs.OthersLemmas.{no_more_but_with, time_with}
use Rattle.hwdb_replace.proofs.others.SharedStore.set_mode.Goals as goal

pub returns-clause-crash : goal.returns-clause-crash
returns-clause-crash g c =
    let left = left_with g.O.Others.whole in
    let zs = c.set_mode.new.self.steps.items in
    subst (λ part. NoMoreBut part (left c.args.self.now.memory.steps.items) (left zs)) c.wait.ensures.part
    (no_more_but_with c.wait.ensures.went _ zs c.set_mode.ensures.crash)

pub returns-clause-time : goal.returns-clause-time
returns-clause-time g c = time_with c.wait.ensures.went c.set_mode.new.self.steps.items _ _ c.set_mode.ensures.time (λ p v l. inl l)
