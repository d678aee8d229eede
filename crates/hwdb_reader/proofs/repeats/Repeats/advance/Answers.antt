use Rattle.std.proofs.Common.{◌≡◌, List, ℕ, ◌∙◌, arith, subst}
use Rattle.hwdb_reader.specs.Internal.Repeats.{Agree}
use Rattle.hwdb_reader.proofs.AgreeLemmas.{agree_there}
use Rattle.hwdb_reader.proofs.repeats.Repeats.advance.Goals as goal

pub returns-clause-agree : goal.returns-clause-agree
returns-clause-agree c =
    let pair = c.reduced-pair.result in
    let is : c.self.inside.bytes.now ≡ c.args.self.now = c.self.view_is ∙ c.reduced-pair.ensures.same in
    agree_there c.args.self.now c.args.left c.args.right pair.left pair.right pair.count c.min.result c.reduced-pair.ensures.stands (omega arith)
    (subst (λ (b : List ℕ). Agree b pair.left pair.right c.min.result) is (c.agree.ensures.0 c.if-not-agree.false))
