-- What is found of patterns, one after the other.
use Rattle.std.proofs.Common.{◌≡◌, ◌∙◌, ap, map, nat_eq, true, ℕ, List}
use Rattle.std.specs.List.{starts_with}
use Rattle.hwdb_samples.specs.Levels.{IsLevel}
use Rattle.hwdb_samples.specs.Views.{rule_texts}
use Rattle.hwdb_samples.specs.declared.levels.Level.{Level}
use Rattle.hwdb_samples.specs.declared.rules.Rule.{Rule}
use Rattle.hwdb_samples.proofs.LevelLemmas.{near_new, near_old}
use Rattle.hwdb_spec_commands.specs.SamplesFound.{agree, near, sample_of, shown_by, shown_of, undecided_by, undecided_of}
use Rattle.hwdb_spec_commands.specs.SampleRules.{RuleTexts}

module _ (pattern : List ℕ) where
  -- rules that are near alike show alike
  pub shown_alike : (old new one other : List RuleTexts) → near pattern old ≡ near pattern one → near pattern new ≡ near pattern other → shown_of old new pattern ≡ shown_of one other pattern
  shown_alike old new one other o n =
      ap (λ (l : List RuleTexts). shown_by pattern (sample_of l (near pattern new) pattern)) o ∙ ap (λ (l : List RuleTexts). shown_by pattern (sample_of (near pattern one) l pattern)) n

  pub undecided_alike : (old new one other : List RuleTexts) → near pattern old ≡ near pattern one → near pattern new ≡ near pattern other → undecided_of old new pattern ≡ undecided_of one other pattern
  undecided_alike old new one other o n =
      ap (λ (l : List RuleTexts). undecided_by pattern (sample_of l (near pattern new) pattern) (agree l (near pattern new) pattern)) o
      ∙ ap (λ (l : List RuleTexts). undecided_by pattern (sample_of (near pattern one) l pattern) (agree (near pattern one) l pattern)) n

  -- of rules that are near, as they are given
  pub shown_near : (o n old new : List RuleTexts) → o ≡ near pattern old → n ≡ near pattern new → shown_by pattern (sample_of o n pattern) ≡ shown_of old new pattern
  shown_near o n old new e k = ap (λ (l : List RuleTexts). shown_by pattern (sample_of l n pattern)) e ∙ ap (λ (l : List RuleTexts). shown_by pattern (sample_of (near pattern old) l pattern)) k

  pub undecided_near : (o n old new : List RuleTexts) → o ≡ near pattern old → n ≡ near pattern new → undecided_by pattern (sample_of o n pattern) (agree o n pattern) ≡ undecided_of old new pattern
  undecided_near o n old new e k =
      ap (λ (l : List RuleTexts). undecided_by pattern (sample_of l n pattern) (agree l n pattern)) e
      ∙ ap (λ (l : List RuleTexts). undecided_by pattern (sample_of (near pattern old) l pattern) (agree (near pattern old) l pattern)) k

  -- the rules of the last level are enough
  module _ (old new : List RuleTexts) (last : Level) (a b : List Rule) (o : a ≡ last.old.items) (n : b ≡ last.new.items) (s : true ≡ starts_with nat_eq pattern last.front.now) (is : IsLevel old new last) where
    before : near pattern (map rule_texts a) ≡ near pattern old
    before = ap (λ (l : List Rule). near pattern (map rule_texts l)) o ∙ near_old old new last pattern s is

    after : near pattern (map rule_texts b) ≡ near pattern new
    after = ap (λ (l : List Rule). near pattern (map rule_texts l)) n ∙ near_new old new last pattern s is

    pub last_shown : shown_of (map rule_texts a) (map rule_texts b) pattern ≡ shown_of old new pattern
    last_shown = shown_alike (map rule_texts a) (map rule_texts b) old new before after

    pub last_undecided : undecided_of (map rule_texts a) (map rule_texts b) pattern ≡ undecided_of old new pattern
    last_undecided = undecided_alike (map rule_texts a) (map rule_texts b) old new before after
