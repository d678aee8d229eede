use Rattle.std.proofs.Common.{◌≡◌, ◌∙◌, ap, arith, drop, map, ℕ}
use Rattle.hwdb_query.specs.Views.{assignment_of_answer}
use Rattle.hwdb_spec_commands.specs.NearAsked.{gathered, pattern_of}
use Rattle.hwdb_near.specs.Views.{pattern_at}
use Rattle.hwdb_near.proofs.NearestLemmas.{map_reverse}
use Rattle.hwdb_near.proofs.databases.patterns_of.Goals as goal

pub returns : goal.returns
returns c =
    let end : c.loop-left.left ≡ 0 = omega (arith, c.loop-left-test.false) in
    ap (map pattern_at) c.reverse.ensures.items ∙ map_reverse pattern_at c.loop-left.patterns.items ∙ c.loop-left.invariant.gathered
    ∙ ap (λ (n : ℕ). gathered (map pattern_of (map assignment_of_answer (drop n c.args.found.now)))) end
