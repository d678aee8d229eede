use Rattle.std.proofs.Common.{Bool, IfSome, List, Option, inl, length, refl, subst, ◌++◌, ◌≤◌, ℕ}
use Rattle.std.specs.Prelude.{option_map}
use Rattle.hwdb_plan.specs.Lemmas.Update.{handed_on, lost_told, lost_untold}
use Rattle.hwdb_plan.specs.Update.{lost_in}
use Rattle.hwdb_tool.specs.declared.databases.FoundDatabase.{FoundDatabase}
use Rattle.hwdb_spec.specs.Store.{database_name, path_in}
use Rattle.hwdb_spec.specs.Texts.{max_file}
use Rattle.hwdb_spec.specs.declared.errors.ToolError.TheVariants.{Memory}
use Rattle.hwdb_spec_commands.specs.declared.refusals.Refusal.TheVariants.{Plain}
use Rattle.hwdb_tool.proofs.EmptyingLemmas.{found_within}
use Rattle.hwdb_tool.proofs.emptied.is_lost_in.Goals as goal

pub returns-clause-within : goal.returns-clause-within
returns-clause-within g c = λ tells.
    subst (λ (o : Option (List ℕ)). IfSome o (λ b. length b ≤ max_file)) (c.in_ok-found.ensures.found tells) (found_within c.in_ok-found.found c.in_ok-found.ensures.within)

pub returns-clause-follows : goal.returns-clause-follows
returns-clause-follows g c = λ tells.
    lost_told (g.D.System.reads c.args.system.now) (λ (found : Option FoundDatabase). option_map (λ (f : FoundDatabase). f.bytes.items) found) (path_in (c.args.root.now ++ c.args.folder.now) database_name)
    c.in_ok-found.found c.in_ok-lost.lost (c.in_ok-found.ensures.told tells) c.in_ok-lost.ensures.by

pub returns-in_err-found-clause-follows : goal.returns-in_err-found-clause-follows
returns-in_err-found-clause-follows g c = λ tells.
    let w = g.D.System.reads c.args.system.now in
    let path = path_in (c.args.root.now ++ c.args.folder.now) database_name in
    handed_on (λ (b : Bool). b) w (lost_in path) c.in_err-found.field-0.0 c.from_residual.result
    (lost_untold w (λ (found : Option FoundDatabase). option_map (λ (f : FoundDatabase). f.bytes.items) found) path c.in_err-found.field-0.0 (c.in_err-found.ensures.told tells)) c.from_residual.ensures.1

pub returns-in_err-lost-clause-follows : goal.returns-in_err-lost-clause-follows
returns-in_err-lost-clause-follows g c = λ tells.
    handed_on (λ (b : Bool). b) (g.D.System.reads c.args.system.now) (lost_in (path_in (c.args.root.now ++ c.args.folder.now) database_name)) (Plain Memory) c.from_residual-in_err-lost.result (inl refl)
    c.from_residual-in_err-lost.ensures.1
