use Rattle.std.proofs.Common.{◌≡◌, ◌∙◌, ap, arith, drop, map, ℕ}
use Rattle.hwdb_spec_commands.specs.Once.{once}
use Rattle.hwdb_near.specs.Views.{assignment_of}
use Rattle.hwdb_near.proofs.NearestLemmas.{map_reverse}
use Rattle.hwdb_near.proofs.OnceLemmas.{once_none}
use Rattle.hwdb_near.proofs.each_once.each_once.Goals as goal

pub returns : goal.returns
returns c =
    let end : c.loop-left.left ≡ 0 = omega (arith, c.loop-left-test.false) in
    ap (map assignment_of) c.reverse.ensures.items ∙ map_reverse assignment_of c.loop-left.kept.items ∙ c.loop-left.invariant.once.each
    ∙ ap (λ (n : ℕ). once (map assignment_of (drop n c.args.all.now))) end

pub loop-left-init : goal.loop-left-init
loop-left-init c = record {
  within = omega arith;
  once = once_none c.new-seen.result c.new-kept.result.items c.args.all.now c.new-seen.ensures.empty c.new-kept.ensures.items;
}
