use Rattle.std.proofs.Common.{◌+◌, ◌++◌, ◌∙◌, List, ap, append_assoc, arith, drop, map, sym, ℕ}
use Rattle.std.proofs.lemmas.List.{take_rest}
use Rattle.hwdb_spec_commands.specs.SamplesFound.{moved, pattern_of}
use Rattle.hwdb_samples.specs.Views.{own_text, rule_texts}
use Rattle.hwdb_samples.specs.declared.rules.Rule.{Rule}
use Rattle.hwdb_samples.proofs.RuleLemmas.{moved_next, moved_one, moved_other}
use Rattle.hwdb_samples.proofs.changes.push_moved.Goals as goal

pub returns-then-at-other : goal.returns-then-at-other
returns-then-at-other c =
    let front = map own_text c.loop-at.listed.items in
    c.in_ok-push_patterns.ensures ∙ ap (λ (l : List Rule). front ++ map pattern_of (map rule_texts l)) (take_rest c.args.one.now c.loop-at.at)
    ∙ ap (λ (l : List (List ℕ)). front ++ l) (sym (moved_one c.args.one.now c.args.other.now c.loop-at.at c.if-at-other.true)) ∙ c.loop-at.invariant.moved

pub loop-at-preserved : goal.loop-at-preserved
loop-at-preserved c = record {
  in_one = omega (arith, c.loop-at-test.true);
  in_other = omega (arith, c.if-at-other.false);
  moved =
      ap (λ (l : List (List ℕ)). l ++ moved (map rule_texts (drop (c.loop-at.at + 1) c.args.one.now)) (map rule_texts (drop (c.loop-at.at + 1) c.args.other.now))) c.in_ok-push_differing.ensures
      ∙ append_assoc (map own_text c.loop-at.listed.items) _ _
      ∙ ap (λ (l : List (List ℕ)). map own_text c.loop-at.listed.items ++ l) (sym (moved_next c.args.one.now c.args.other.now c.loop-at.at _ _ c.loop-at-test.true (omega (arith, c.if-at-other.false)))) ∙ c.loop-at.invariant.moved;
}

pub returns : goal.returns
returns c =
    let front = map own_text c.loop-at.listed.items in
    c.in_ok-push_patterns-2.ensures ∙ ap (λ (l : List Rule). front ++ map pattern_of (map rule_texts l)) (take_rest c.args.other.now c.loop-at.at)
    ∙ ap (λ (l : List (List ℕ)). front ++ l) (sym (moved_other c.args.one.now c.args.other.now c.loop-at.at c.loop-at-test.false)) ∙ c.loop-at.invariant.moved
