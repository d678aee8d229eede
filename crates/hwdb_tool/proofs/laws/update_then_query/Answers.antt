use Rattle.std.proofs.Common.{◌≡◌, ◌∙◌, ap, subst, List, None}
use Rattle.std.proofs.lemmas.List.{append-nil}
use Rattle.hwdb_spec.specs.Answers.{effective_of, last_assignments}
use Rattle.hwdb_spec.specs.Assignment.{Assignment}
use Rattle.hwdb_spec.specs.Folders.{all_assignments}
use Rattle.hwdb_spec.specs.Format.{IsDatabase}
use Rattle.hwdb_spec.specs.Texts as texts
use Rattle.hwdb_spec.specs.Texts.{properties_text}
use Rattle.hwdb_tool.proofs.laws.update_then_query.Goals as goal
use Rattle.hwdb_tool.proofs.HeldLemmas.{held_bytes}

pub returns : goal.returns
unfolding texts.with_empty_lines effective_of
returns c = λ root verbose strict status old new err_before err_now device shown updated answered.
    let done = updated.updated in
    let text = answered.is in
    let same : answered.bytes ≡ done.database = held_bytes root new answered.bytes done.database done.stored answered.named in
    let tree : IsDatabase done.database text.tree = subst (λ b. IsDatabase b text.tree) same text.database in
    let last = last_assignments device None (all_assignments updated.of_etc updated.of_usr) in
    let hits = c.compiled_answers_are_last.ensures.all updated.of_etc updated.of_usr done.database done.compiled text.tree tree device in
    record {
      of_etc = updated.of_etc;
      of_usr = updated.of_usr;
      in_etc = updated.in_etc;
      in_usr = updated.in_usr;
      last = last;
      are_last = c.last_assignments_are_last.ensures.are device None (all_assignments updated.of_etc updated.of_usr);
      is = text.is ∙ append-nil _ ∙ ap (λ (l : List Assignment). properties_text (effective_of l)) hits;
    }
