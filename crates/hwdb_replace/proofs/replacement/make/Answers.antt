use Rattle.std.proofs.Common.{arith, sym, ◌∙◌}
use Rattle.hwdb_replace.proofs.ComposedLemmas.{weaker}
use Rattle.hwdb_replace.proofs.MakingLemmas.{made, made_under, still_same, still_taken}
use Rattle.hwdb_replace.proofs.replacement.make.Goals as goal

pub returns-then-branch-clause-makes : goal.returns-then-branch-clause-makes
returns-then-branch-clause-makes g c =
    let i = c.numbers.invariant in
    let e = c.in_ok-create_new.ensures in
    made_under (sym c.as_str.ensures.value)
    (made c.args.folder.now c.as_str.result.now c.numbers.number c.in_ok-create_new.field-0 i.step i.taken
    (omega (arith, c.numbers-test.true)) c.if-branch.true
    (c.as_str.ensures.value ∙ c.part_name-name.ensures) e.own e.made e.seen e.crash e.time)

pub numbers-preserved : goal.numbers-preserved
numbers-preserved g c =
    let i = c.numbers.invariant in
    let e = c.in_ok-create_new.ensures in
    let seen = g.S.Store.seen in
    record {
      step = still_same _ _ i.step c.if-branch.false e.seen e.crash e.time;
      taken = λ t. still_taken c.args.folder.now c.as_str.result.now _ c.numbers.number c.in_ok-create_new.field-0
          (seen c.args.store.now) (seen c.numbers.store) (seen c.create_new.new.self)
          (i.taken t) (i.step.seen t) c.if-branch.false (c.as_str.ensures.value ∙ c.part_name-name.ensures) (e.seen t);
      folder = e.folder;
      same = e.cause ∙ i.same;
    }

pub returns-clause-makes : goal.returns-clause-makes
returns-clause-makes g c =
    let i = c.numbers.invariant in
    weaker i.step (λ t same. (same, λ k lt. i.taken t k (omega (arith, lt, c.numbers-test.false)))) (λ p v left. left)
