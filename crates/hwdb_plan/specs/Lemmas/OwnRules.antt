-- Steps of functions that list folders of rules files.
use Rattle.std.proofs.Common.{ap, inl, inr, subst, sym, List, Result, Ok, Err, ℕ}
use Rattle.hwdb_rulefiles.specs.declared.choice.Folder.{Folder}
use Rattle.hwdb_spec_commands.specs.RulePaths.{rules_folder}
use Rattle.hwdb_spec_commands.specs.Told.{IsListedTo, Reads, rules_told, stop_of}
use Rattle.hwdb_spec_commands.specs.declared.refusals.Refusal.{Refusal}
use Rattle.hwdb_plan.specs.Folders.{if_listed}
use Rattle.hwdb_plan.specs.OwnRules.{rules_in}
use Rattle.hwdb_plan.specs.Plans.{Ends, ReachesValue}
use Rattle.hwdb_plan.specs.Plans.End.{Stops}

-- one folder
pub rules_asked : (w : Reads) {Y : Type 0} (value : Y → List (List ℕ)) (root : List ℕ) (f : Folder) (result : Result Y Refusal)
    → IsListedTo value (rules_told (w.ignored (rules_folder root f))) (rules_folder root f) result → ReachesValue value w (rules_in root f) result
unfolding Ends
rules_asked w value root f (Ok y) told = λ next e ends. subst (λ a. Ends w (if_listed (rules_folder root f) next a) e) (sym told) ends
rules_asked w value root f (Err r) (inl memory) = inl memory
rules_asked w value root f (Err r) (inr (u, untold, says)) =
    inr (λ next. subst (λ a. Ends w (if_listed (rules_folder root f) next a) (Stops (stop_of r))) (sym untold) (ap Stops says))
