use Rattle.std.proofs.Common.{◌≡◌, ◌∙◌, ap, map}
use Rattle.hwdb_query.specs.Views.{assignment_of_answer}
use Rattle.hwdb_spec.specs.Assignment.{assignment_cmp, in_order}
use Rattle.hwdb_spec.specs.Answers.{effective_of}
use Rattle.hwdb_spec.specs.Tree.{Tree, answers}
use Rattle.hwdb_spec.specs.Format.{IsDatabase, layout_of}
use Rattle.hwdb_lookup.proofs.PartsLemmas.{blocks_given}
use Rattle.hwdb_lookup.proofs.SaidLemmas.{each_said}
use Rattle.hwdb_lookup.proofs.lookups.lookup.Goals as goal

pub returns-clause-answer : goal.returns-clause-answer
unfolding answers
returns-clause-answer c file t m h =
    let found = c.in_ok-found.ensures.found file t m (c.in_ok-frame.ensures.layout file m) h in
    c.in_ok-pairs.ensures ∙ ap (λ l. effective_of (in_order assignment_cmp l)) (ap (map assignment_of_answer) c.deref.ensures.value ∙ found)

pub returns-in_err-found-clause-stop : goal.returns-in_err-found-clause-stop
returns-in_err-found-clause-stop c =
    blocks_given c.args.known (λ file. (t : Tree) × (c.in_ok-frame.frame.sizes ≡ layout_of file) × IsDatabase file t) (λ file. (t : Tree) × IsDatabase file t)
    (λ file m q. (q.0, c.in_ok-frame.ensures.layout file m, q.1))
    c.in_err-found.field-0.0 c.from_residual-in_err-found.result c.from_residual-in_err-found.ensures.1 c.in_err-found.ensures.stop

pub returns-clause-sound : goal.returns-clause-sound
returns-clause-sound c file m = record {
  found = map assignment_of_answer c.in_ok-found.found.items;
  each = each_said file c.in_ok-frame.frame.sizes c.in_ok-found.found.items (c.in_ok-frame.ensures.layout file m) (c.in_ok-found.ensures.said file m);
  are = c.in_ok-pairs.ensures ∙ ap (λ l. effective_of (in_order assignment_cmp (map assignment_of_answer l))) c.deref.ensures.value;
}
