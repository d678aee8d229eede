use Rattle.std.proofs.Common.{◌≡◌, ◌∙◌, ap, arith, drop, map, ℕ}
use Rattle.hwdb_spec_commands.specs.Replacements.{replacements}
use Rattle.hwdb_near.specs.Views.{assignment_of, replacement_of}
use Rattle.hwdb_near.proofs.NearestLemmas.{map_reverse}
use Rattle.hwdb_near.proofs.ReplacedLemmas.{taken_none}
use Rattle.hwdb_near.proofs.replacements.replacements.Goals as goal

pub returns : goal.returns
returns c =
    let end : c.loop-left.left ≡ 0 = omega (arith, c.loop-left-test.false) in
    ap (map replacement_of) c.reverse.ensures.items ∙ map_reverse replacement_of c.loop-left.pairs.items ∙ c.loop-left.invariant.taken.replaced
    ∙ ap (λ (n : ℕ). replacements (map assignment_of (drop n c.args.all.now))) end

pub loop-left-init : goal.loop-left-init
loop-left-init c = record {
  within = omega arith;
  taken = taken_none c.new-last.result c.new-pairs.result.items c.args.all.now c.new-last.ensures.empty c.new-pairs.ensures.items;
}
