-- Words ask for one job.
use Rattle.std.proofs.Common.{◌≡◌, refl, List, [], ℕ, Option, Some, None, string_bytes}
use Rattle.std.specs.Prelude.{option_map}
use Rattle.std.specs.Option.{option_map_or}
use Rattle.hwdb_spec_commands.specs.declared.job.Job.{Job}
use Rattle.hwdb_spec_program.specs.Program.{root_of}

one_option : {X : Type 0} (f : X → List ℕ) (o : Option X) → option_map_or f o [] ≡ option_map_or (λ (x : List ℕ). x) (option_map f o) []
one_option f None = refl
one_option f (Some s) = refl

pub one_root : (j : Job) → root_of j ≡ option_map_or (λ (x : List ℕ). x) (option_map string_bytes j.root) []
one_root j = one_option string_bytes j.root
