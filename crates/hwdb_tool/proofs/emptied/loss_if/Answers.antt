use Rattle.std.proofs.Common.{Global, Vec, sym, ◌∙◌, ℕ}
use Rattle.hwdb_tool.proofs.EmptyingLemmas.{loss_if_bare, loss_if_full}
use Rattle.hwdb_tool.proofs.emptied.loss_if.Goals as goal

pub returns-then-bare : goal.returns-then-bare
returns-then-bare g c = record {
  follows = λ chosen is tells.
      loss_if_bare (g.D.System.reads c.args.system.now) c.args.root.now c.args.usr (λ (v : Vec ℕ Global). v.items) c.loss_of_empty.result chosen (sym c.if-bare.true ∙ is) (c.loss_of_empty.ensures.follows tells);
}

pub returns-else-bare : goal.returns-else-bare
returns-else-bare g c = record {
  follows = λ chosen is tells.
      loss_if_full (g.D.System.reads c.args.system.now) c.args.root.now c.args.usr (λ (v : Vec ℕ Global). v.items) c.new.result chosen (sym c.if-bare.false ∙ is) c.new.ensures.items;
}
