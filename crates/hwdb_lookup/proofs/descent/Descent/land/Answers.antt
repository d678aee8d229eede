use Rattle.std.proofs.Common.{◌∙◌, ap, refl, map}
use Rattle.hwdb_query.specs.Views.{assignment_of_answer}
use Rattle.hwdb_lookup.proofs.DescentLemmas.{lands_open, lands_leaf}
use Rattle.hwdb_lookup.proofs.descent.Descent.land.Goals as goal

pub returns-then-open-eq0-clause-lands : goal.returns-then-open-eq0-clause-lands
returns-then-open-eq0-clause-lands c file all m done l =
    lands_leaf file c.args.open c.args.self.now (record c.args.self.now { found = c.collect_matching.new.into }) all l (c.in_ok-collect_matching.ensures.collected file l.values m l.are) refl
    c.if-open-eq0.true refl

pub returns-clause-lands : goal.returns-clause-lands
returns-clause-lands c file all m done l =
    lands_open file c.args.open c.args.self.now c.open-2.new.self all l
    (ap (λ f. map assignment_of_answer f.items) c.in_ok-open.ensures.found ∙ c.in_ok-collect_matching.ensures.collected file l.values m l.are)
    c.in_ok-open.ensures.left c.in_ok-open.ensures.stack
