use Rattle.std.proofs.Common.{◌≡◌, ◌∙◌, ap, map}
use Rattle.hwdb_query.specs.Views.{assignment_of_answer}
use Rattle.hwdb_spec.specs.Assignment.{assignment_cmp, in_order}
use Rattle.hwdb_spec.specs.Answers.{effective_of}
use Rattle.hwdb_spec.specs.Tree.{answers}
use Rattle.hwdb_lookup.proofs.lookups.lookup_windows.Goals as goal

pub returns-clause-answer : goal.returns-clause-answer
unfolding answers
returns-clause-answer c file t m h =
    c.in_ok-pairs.ensures ∙ ap (λ l. effective_of (in_order assignment_cmp l)) (ap (map assignment_of_answer) c.deref.ensures.value ∙ c.in_ok-found.ensures.found file t m h)
