-- What the words of `dump` ask for is what its function follows.
use Rattle.std.proofs.Common.{inl, inr, refl, subst, string_bytes, Bool, List, Option, None, Result, Some, ℕ, []}
use Rattle.std.specs.Prelude.{codes, option_map}
use Rattle.clap.specs.Walk.{Row, Text}
use Rattle.hwdb_spec.specs.Assignment.{Assignment}
use Rattle.hwdb_spec_commands.specs.DeviceTree.{Sight}
use Rattle.hwdb_spec_commands.specs.Dump.{dump_text, dumped, first_unsaid}
use Rattle.hwdb_spec_commands.specs.Jobs.{IsTask}
use Rattle.hwdb_spec_commands.specs.Runs.{Told}
use Rattle.hwdb_spec_commands.specs.Told.{Reads}
use Rattle.hwdb_spec_commands.specs.declared.args.DumpArgs.{DumpArgs}
use Rattle.hwdb_spec_commands.specs.declared.job.Task.TheVariants.{Dump}
use Rattle.hwdb_spec_commands.specs.declared.refusals.Refusal.{Refusal}
use Rattle.hwdb_plan.specs.Dump.{dump_plan, if_said, text_form}
use Rattle.hwdb_plan.specs.Given.{given_or_asked}
use Rattle.hwdb_plan.specs.Input.{OverNamed}
use Rattle.hwdb_plan.specs.Plans.{End, Ends, Follows, Plan}
use Rattle.hwdb_tool.specs.Views.{end_of}
use Rattle.hwdb_tool.specs.declared.answer.Answer.{Answer}
use Rattle.hwdb_tool.proofs.ProgramPlanLemmas.{AsksNothing, At, around, at_word, named_follows}

said_asks_nothing : (w x : Reads) (path text : List ℕ) (unsaid : Option Assignment) (e : End) → Ends w (if_said path unsaid text) e → Ends x (if_said path unsaid text) e
unfolding Ends
said_asks_nothing w x path text None e ends = ends
said_asks_nothing w x path text (Some a) e ends = ends

text_asks_nothing : AsksNothing text_form
unfolding Ends
text_asks_nothing w x path bytes e (inl (t, database, ends)) = inl (t, database, said_asks_nothing w x path (dump_text t) (first_unsaid (dumped t)) e ends)
text_asks_nothing w x path bytes e (inr bad) = inr bad

module _ (w : Reads) (sight : Sight) (input_before input_now : Told) (root : List ℕ) (strict : Bool) (word : Text) (rows : List Row) (answer : Result Answer Refusal) where
  abbrev Answers : Plan → Type 0
  Answers p = Follows end_of w p answer

  pub dump_planned : (args : DumpArgs) → IsTask word rows (Dump args)
      → OverNamed (option_map string_bytes args.database) input_before.bytes input_before.failures input_now.failures w (λ g reads. Follows end_of reads (dump_plan g root) answer) → At sight input_before input_now Answers root strict word rows
  dump_planned args is over =
      let given = option_map string_bytes args.database in
      let by = named_follows end_of w input_before.bytes input_before.failures input_now.failures text_form text_asks_nothing answer root given over in
      let told = by.0 in (
        told,
        by.1,
        (
          [],
          refl,
          at_word sight input_before input_now Answers root strict word rows (around sight told []) (codes "dump") is.0
              (subst (λ (g : Option Text). Answers (given_or_asked told g root text_form)) is.1 by.2),
        ),
      )
