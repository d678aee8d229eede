use Rattle.std.proofs.Common.{subst}
use Rattle.hwdb_spec.specs.Sharing.{MayDo}
use Rattle.hwdb_replace.specs.Memory.{event}
use Rattle.hwdb_replace.proofs.OthersLemmas.{passed}
use Rattle.hwdb_replace.proofs.others.Shared.go_on.Goals as goal

pub returns-in-Some-clause-went : goal.returns-in-Some-clause-went
returns-in-Some-clause-went g c = λ xs was.
    passed g.O.Others.whole c.args.self.now.memory.part.items xs c.args.self.now.memory.steps.items c.pass.new.self.steps.items _ c.pass.ensures.steps
    (subst (λ own. MayDo g.O.Others.whole own (event c.in-Some.step)) c.deref.ensures.value c.in-Some.ensures) was
