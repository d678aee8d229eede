use Rattle.std.proofs.Common.{map, option_map, string_bytes, subst, ap, ◌∙◌, List, ℕ}
use Rattle.hwdb_check.specs.Checks.{source_of}
use Rattle.hwdb_plan.specs.Asking.{named}
use Rattle.hwdb_plan.specs.Lemmas.Diff.{memory_follows}
use Rattle.hwdb_plan.specs.Lemmas.Steps.{stopped}
use Rattle.hwdb_plan.specs.Plans.{Follows}
use Rattle.hwdb_plan.specs.Record.{devices_meant, recorded}
use Rattle.hwdb_tool.specs.Views.{end_of}
use Rattle.hwdb_tool.specs.declared.databases.FoundDatabase.{FoundDatabase}
use Rattle.hwdb_tool.proofs.NamedInputLemmas.{goes_on}
use Rattle.hwdb_tool.proofs.record_command.record_meant.Goals as goal

pub returns-in_err-found : goal.returns-in_err-found
returns-in_err-found g c = record {
  follows = λ tells.
      stopped (λ (f : FoundDatabase). string_bytes f.path) (λ f. f.bytes.items) end_of (g.D.System.reads c.args.system.now) (named (option_map (λ t. t.now) c.args.devices.database) c.args.devices.root.now)
      (recorded (devices_meant (map string_bytes c.args.devices.words.now) (map source_of c.args.files.now))) c.in_err-found.field-0.0 c.from_residual.result (c.in_err-found.ensures.follows tells) c.from_residual.ensures.1;
}

pub returns-in_err-meant : goal.returns-in_err-meant
returns-in_err-meant g c = record {
  follows = λ tells.
      memory_follows (g.D.System.reads c.args.system.now) end_of (named (option_map (λ t. t.now) c.args.devices.database) c.args.devices.root.now
      (recorded (devices_meant (map string_bytes c.args.devices.words.now) (map source_of c.args.files.now)))) c.from_residual-in_err-meant.result c.from_residual-in_err-meant.ensures.1;
}

pub returns : goal.returns
returns g c = record {
  follows = λ tells.
      let w = g.D.System.reads c.args.system.now in
      let meant = devices_meant (map string_bytes c.args.devices.words.now) (map source_of c.args.files.now) in
      let path = string_bytes c.in_ok-found.found.path in
      let bytes = c.in_ok-found.found.bytes.items in
      let r = c.record_over.result in
      let same = ap (map (λ d. d.now)) c.deref-2.ensures.value ∙ c.in_ok-meant.ensures in
      goes_on end_of w (named (option_map (λ t. t.now) c.args.devices.database) c.args.devices.root.now) (recorded meant) path bytes r (c.in_ok-found.ensures.follows tells)
      (subst (λ (ds : List (List ℕ)). Follows end_of w (recorded ds path bytes) r) same
      (subst (λ (p : List ℕ). Follows end_of w (recorded (map (λ d. d.now) c.deref-2.result.now) p bytes) r) c.as_bytes.ensures.value
      (subst (λ (b : List ℕ). Follows end_of w (recorded (map (λ d. d.now) c.deref-2.result.now) c.as_bytes.result.now b) r) c.deref.ensures.value (c.record_over.ensures.follows w))));
}
