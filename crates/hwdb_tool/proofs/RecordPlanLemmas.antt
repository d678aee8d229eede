-- Ends of `test --record`, from what its calls promise.
use Rattle.std.proofs.Common.{◌≡◌, ◌⊎◌, inl, inr, ap, refl, subst, sym, List, None, Option, Some, ℕ, []}
use Rattle.hwdb_spec.specs.Format.{IsDatabase}
use Rattle.hwdb_spec.specs.Tree.{Tree}
use Rattle.hwdb_spec.specs.declared.DbFault.{DbFault}
use Rattle.hwdb_spec.specs.declared.errors.ToolError.TheVariants as error
use Rattle.hwdb_spec_commands.specs.Databases.{IsNoDatabase}
use Rattle.hwdb_spec_commands.specs.Recorded.{recorded_text, unsaid}
use Rattle.hwdb_spec_commands.specs.Told.{IsStop, Reads, Stop, stop_of}
use Rattle.hwdb_spec_commands.specs.Told.Stop.{Says}
use Rattle.hwdb_spec_commands.specs.declared.refusals.Refusal.{Refusal}
use Rattle.hwdb_spec_commands.specs.declared.refusals.Refusal.TheVariants as refusal
use Rattle.hwdb_plan.specs.Dump.{database_stop}
use Rattle.hwdb_plan.specs.Plans.{Ends}
use Rattle.hwdb_plan.specs.Plans.End.{Answers, Stops}
use Rattle.hwdb_plan.specs.Record.{if_sayable, recorded}

module _ (w : Reads) (devices : List (List ℕ)) (path bytes : List ℕ) where
  -- it ends in a text
  pub recorded_ends : (t : Tree) (status : ℕ) (err out : List ℕ) → IsDatabase bytes t → status ≡ 0 → err ≡ [] → out ≡ recorded_text t devices → unsaid t devices ≡ None
      → Ends w (recorded devices path bytes) (Answers status err out)
  unfolding Ends
  recorded_ends t status err out is zero none text said =
      inl (t, is, subst (λ (u : Option (List ℕ)). Ends w (if_sayable u (recorded_text t devices)) (Answers status err out)) (sym said) same)
    where
      same : Answers status err out ≡ Answers 0 [] (recorded_text t devices)
      same = cc

  -- or in the words of what no test file says
  unsaid_ends : (t : Tree) (words : List ℕ) → IsDatabase bytes t → unsaid t devices ≡ Some words → Ends w (recorded devices path bytes) (Stops (Says words))
  unfolding Ends
  unsaid_ends t words is says =
      inl (t, is, subst (λ (u : Option (List ℕ)). Ends w (if_sayable u (recorded_text t devices)) (Stops (Says words))) (sym says) refl)

  pub unrecorded_ends : (t : Tree) (r : Refusal) → IsDatabase bytes t
      → (r ≡ refusal.Plain error.Memory) ⊎ ((said : List ℕ) × (unsaid t devices ≡ Some said) × (stop_of r ≡ Says said))
      → (r ≡ refusal.Plain error.Memory) ⊎ Ends w (recorded devices path bytes) (Stops (stop_of r))
  unrecorded_ends t r is (inl memory) = inl memory
  unrecorded_ends t r is (inr (said, unsaid, says)) =
      inr (subst (λ (s : Stop). Ends w (recorded devices path bytes) (Stops s)) (sym says) (unsaid_ends t said is unsaid))

  -- or there is no database
  pub undecoded_ends : (f : DbFault) (r : Refusal) → IsNoDatabase bytes f → IsStop (database_stop path (error.BadDatabase f)) r
      → (r ≡ refusal.Plain error.Memory) ⊎ Ends w (recorded devices path bytes) (Stops (stop_of r))
  unfolding Ends
  undecoded_ends f r none (inl memory) = inl memory
  undecoded_ends f r none (inr says) = inr (inr (f, none, ap Stops says))
