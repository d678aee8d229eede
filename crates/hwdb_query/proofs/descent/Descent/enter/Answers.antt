use Rattle.std.proofs.Common.{refl, ◌∙◌, sym, ap, length, arith, inl, inr}
use Rattle.hwdb_reader.specs.Views.{children_of}
use Rattle.hwdb_query.proofs.StackLemmas.{no_kids}
use Rattle.hwdb_query.proofs.descent.Descent.enter.Goals as goal

pub returns-clause-stack : goal.returns-clause-stack
returns-clause-stack g c =
    let count = c.len-length.ensures in
    let ok = c.settle.new.self.copied.ok in
    let copied = ap length (c.in_ok-settle.ensures.copied ∙ c.in_ok-collect_matching.ensures.path) in
    inl (record {
      top = _;
      stands = c.in_ok-push.ensures.items;
      tree = c.enter-inside.ensures.same;
      none_done = refl;
      reach_is = refl;
      size_is = omega (arith, count, ok, copied);
    })

pub returns-then-children-eq0-clause-stack : goal.returns-then-children-eq0-clause-stack
returns-then-children-eq0-clause-stack g c =
    let count = c.children.ensures in
    let zero_is = c.if-children-eq0.true in
    inr (refl, ap children_of (sym c.enter-inside.ensures.same) ∙ no_kids _ (omega (arith, count, zero_is)))
