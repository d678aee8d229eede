use Rattle.std.proofs.Common.{List, ap, arith, length, map, subst, sym, ℕ, ◌++◌, ◌-◌, ◌∙◌}
use Rattle.hwdb_samples.specs.Levels.{IsLevel}
use Rattle.hwdb_samples.specs.Views.{own_text, rule_texts, sample_texts}
use Rattle.hwdb_samples.specs.declared.levels.Level.{Level}
use Rattle.hwdb_samples.proofs.LevelLemmas.{level_at}
use Rattle.hwdb_samples.proofs.SampleLemmas.{last_shown, last_undecided}
use Rattle.hwdb_samples.proofs.TextLemmas.{some_there}
use Rattle.hwdb_samples.proofs.samples.examine_at.Goals as goal

pub returns-then-begins_with-clause-shown : goal.returns-then-begins_with-clause-shown
returns-then-begins_with-clause-shown c =
    let old = map rule_texts c.args.rules.old.now in
    let new = map rule_texts c.args.rules.new.now in
    let some = some_there c.args.levels.now c.if-is_empty.ensures in
    let is = subst (λ (l : Level). IsLevel old new l) (sym c.index-levels-levels.is) (level_at old new c.args.levels.now (length c.args.levels.now - 1) _ (omega (arith, some)) c.requires) in
    c.in_ok-examine-2.ensures.shown ∙ ap (λ (l : List (List ℕ × List ℕ)). map sample_texts c.args.found.now.shown.items ++ l)
    (last_shown c.args.pattern.now old new c.index-levels-levels.result c.deref.result.now c.deref-then-begins_with.result.now c.deref.ensures.value c.deref-then-begins_with.ensures.value c.if-begins_with.ensures is)

pub returns-then-begins_with-clause-undecided : goal.returns-then-begins_with-clause-undecided
returns-then-begins_with-clause-undecided c =
    let old = map rule_texts c.args.rules.old.now in
    let new = map rule_texts c.args.rules.new.now in
    let some = some_there c.args.levels.now c.if-is_empty.ensures in
    let is = subst (λ (l : Level). IsLevel old new l) (sym c.index-levels-levels.is) (level_at old new c.args.levels.now (length c.args.levels.now - 1) _ (omega (arith, some)) c.requires) in
    c.in_ok-examine-2.ensures.undecided ∙ ap (λ (l : List (List ℕ)). map own_text c.args.found.now.undecided.items ++ l)
    (last_undecided c.args.pattern.now old new c.index-levels-levels.result c.deref.result.now c.deref-then-begins_with.result.now c.deref.ensures.value c.deref-then-begins_with.ensures.value c.if-begins_with.ensures is)
