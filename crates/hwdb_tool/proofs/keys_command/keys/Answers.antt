use Rattle.std.proofs.Common.{◌≡◌, ◌∙◌, ap, map, sym, List, ℕ}
use Rattle.std.specs.Prelude.{string_bytes}
use Rattle.hwdb_plan.specs.Keys.{keys_end}
use Rattle.hwdb_plan.specs.Plans.{Ends}
use Rattle.hwdb_plan.specs.Plans.End.{Answers}
use Rattle.hwdb_spec_commands.specs.KeysAsked.{keys_status, keys_told}
use Rattle.hwdb_tool.proofs.keys_command.keys.Goals as goal

-- an answer of such a text
answer_is : (words : List (List ℕ)) (status : ℕ) (err out text : List ℕ) → status ≡ keys_status out → err ≡ keys_told words out → out ≡ text
    → Answers status err out ≡ keys_end words text
answer_is words status err out text is told same =
    ap (λ (n : ℕ). Answers n err out) is ∙ ap (λ (e : List ℕ). Answers (keys_status out) e out) told ∙ ap (keys_end words) same

pub returns : goal.returns
unfolding Ends
returns c = record {
  follows = λ reads.
      let words = map string_bytes c.args.words.now in
      let a = c.with_error.result in
      answer_is words a.status a.err.items a.out.items _
      (c.with_error.ensures.status ∙ c.status_of-status.ensures.is ∙ ap keys_status (c.deref.ensures.value ∙ sym c.with_error.ensures.out))
      (c.with_error.ensures.err ∙ c.in_ok-told.ensures ∙ ap (keys_told words) (c.deref-2.ensures.value ∙ sym c.with_error.ensures.out))
      (c.with_error.ensures.out ∙ c.in_ok-text.ensures);
}
