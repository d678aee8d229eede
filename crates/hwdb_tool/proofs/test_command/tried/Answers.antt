use Rattle.std.proofs.Common.{map, option_map, string_bytes, subst, Err, Ok, List, ℕ}
use Rattle.hwdb_check.specs.Checks.{source_of}
use Rattle.hwdb_spec_program.specs.Tested.{IsVerdict}
use Rattle.hwdb_spec_program.specs.TestErrors.{IsTrialRefusal}
use Rattle.hwdb_spec_commands.specs.Told.{IsStop}
use Rattle.hwdb_plan.specs.Asking.{named}
use Rattle.hwdb_plan.specs.Dump.{database_stop}
use Rattle.hwdb_plan.specs.Lemmas.Steps.{stopped}
use Rattle.hwdb_plan.specs.Test.{tested}
use Rattle.hwdb_tool.specs.Views.{end_of}
use Rattle.hwdb_tool.specs.declared.databases.FoundDatabase.{FoundDatabase}
use Rattle.hwdb_tool.proofs.NamedInputLemmas.{goes_on}
use Rattle.hwdb_tool.proofs.PlanLemmas.{tested_ends, untested_ends}
use Rattle.hwdb_tool.proofs.test_command.tried.Goals as goal

pub returns-in_err-found : goal.returns-in_err-found
returns-in_err-found g c = record {
  follows = λ tells short.
      stopped (λ (f : FoundDatabase). string_bytes f.path) (λ f. f.bytes.items) end_of (g.D.System.reads c.args.system.now) (named (option_map (λ t. t.now) c.args.question.database) c.args.question.root.now)
      (tested c.args.question.json (map source_of c.args.files.now)) c.in_err-found.field-0.0 c.from_residual.result (c.in_err-found.ensures.follows tells) c.from_residual.ensures.1;
}

pub returns-in-Ok : goal.returns-in-Ok
returns-in-Ok g c = record {
  follows = λ tells short.
      let w = g.D.System.reads c.args.system.now in
      let sources = map source_of c.args.files.now in
      let a = c.in-Ok.answer in
      goes_on end_of w (named (option_map (λ t. t.now) c.args.question.database) c.args.question.root.now) (tested c.args.question.json sources) (string_bytes c.in_ok-found.found.path) c.in_ok-found.found.bytes.items (Ok a) (c.in_ok-found.ensures.follows tells)
      (tested_ends w c.args.question.json sources (string_bytes c.in_ok-found.found.path) c.in_ok-found.found.bytes.items a.status a.err.items a.out.items c.in-Ok.ensures.tested.0
      (subst (λ (b : List ℕ). IsVerdict c.args.question.json sources a.status b a.out.items) c.deref.ensures.value c.in-Ok.ensures.tested.1));
}

pub returns : goal.returns
returns g c = record {
  follows = λ tells short.
      let w = g.D.System.reads c.args.system.now in
      let sources = map source_of c.args.files.now in
      let path = string_bytes c.in_ok-found.found.path in
      let r = c.refused_database.result in
      goes_on end_of w (named (option_map (λ t. t.now) c.args.question.database) c.args.question.root.now) (tested c.args.question.json sources) path c.in_ok-found.found.bytes.items (Err r) (c.in_ok-found.ensures.follows tells)
      (untested_ends w c.args.question.json sources path c.in_ok-found.found.bytes.items c.in-Err.error r short
      (subst (λ (b : List ℕ). IsTrialRefusal sources b c.in-Err.error) c.deref.ensures.value c.in-Err.ensures.refused)
      (subst (λ (p : List ℕ). IsStop (database_stop p c.in-Err.error) r) c.as_bytes.ensures.value c.refused_database.ensures.stops));
}
