use Rattle.std.proofs.Common.{inl, inr, ⊎_elim}
use Rattle.hwdb_replace.proofs.OthersLemmas.{cleared_with, time_with}
use Rattle.hwdb_replace.proofs.others.SharedStore.clear_parts.Goals as goal

pub returns-clause-crash : goal.returns-clause-crash
returns-clause-crash g c = cleared_with c.wait.ensures.went c.args.folder.now c.clear_parts.new.self.steps.items c.clear_parts.ensures.crash

pub returns-clause-time : goal.returns-clause-time
returns-clause-time g c = time_with c.wait.ensures.went c.clear_parts.new.self.steps.items _ _ c.clear_parts.ensures.time
    (λ p v. ⊎_elim (λ was. inl (c.wait.ensures.went.left p v was)) (λ gone. inr gone))
