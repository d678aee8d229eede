use Rattle.std.proofs.Common.{◌∙◌, subst, sym}
use Rattle.hwdb_replace.specs.Sharing.{WentOn}
use Rattle.hwdb_replace.proofs.others.Shared.wait.Goals as goal

pub steps-preserved : goal.steps-preserved
steps-preserved g c =
    let i = c.steps.invariant in
    record {
      went = subst (λ own. WentOn g.O.Others.whole own c.args.self.now.memory.steps.items c.go_on.new.self.memory.steps.items) i.part
          (c.go_on.ensures.went c.args.self.now.memory.steps.items (subst (λ own. WentOn g.O.Others.whole own c.args.self.now.memory.steps.items c.steps.self.memory.steps.items) (sym i.part) i.went));
      part = c.go_on.ensures.part ∙ i.part;
      failed = c.go_on.ensures.failed ∙ i.failed;
    }
