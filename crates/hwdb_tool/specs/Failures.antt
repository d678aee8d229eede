-- What failed calls and faulty words leave undone, and what comes before a job is done. Our choice.
use Rattle.std.specs.Prelude.{◌≡◌, ◌-◌, ◌^◌, ℕ, List, [], ◌∷◌, codes}
use Rattle.clap.specs.Faults.{fault_of}
use Rattle.hwdb_spec.specs.Failures.{HasFailed}
use Rattle.hwdb_spec.specs.Store.{Contents, Outcomes}
use Rattle.hwdb_spec.specs.declared.errors.ToolError.TheVariants.{Memory}
use Rattle.hwdb_spec_commands.specs.CommandLine.{hwdb_app}
use Rattle.hwdb_spec_commands.specs.DeviceTree.{Sight}
use Rattle.hwdb_spec_commands.specs.Runs.{Told, World}
use Rattle.hwdb_spec_commands.specs.declared.job.WordsFault.TheVariants as words_fault
use Rattle.hwdb_spec_commands.specs.declared.refusals.Refusal.{Refusal}
use Rattle.hwdb_spec_commands.specs.declared.refusals.Refusal.TheVariants.{At, Plain}
use Rattle.hwdb_spec_program.specs.TaskRefusals.{AreRefused, IsRootRefused}
use Rattle.hwdb_tool.specs.Crash.{Booted}
use Rattle.hwdb_spec_program.specs.Program.{OldOrAskedFor}

-- a count that didn't rise tells of a failed call only at its greatest value
abbrev pub CountsTellFailures : Type 0
CountsTellFailures = (count : ℕ) → HasFailed count count → count ≡ 2 ^ 64 - 1

-- words of an update with one too many
abbrev pub words_with_one_too_many : List (List ℕ)
words_with_one_too_many = codes "hwdb" ∷ (codes "update" ∷ (codes "--usr" ∷ (codes "extra" ∷ [])))

-- after a crash during that update, and a start, each path has something that a crash might have left before
abbrev pub FaultyUpdateLeavesAll : (MayFail : (path : List ℕ) → Type 0) (before : Outcomes) → Type 0
FaultyUpdateLeavesAll MayFail before = (old after : Contents) → Booted (OldOrAskedFor MayFail words_with_one_too_many old before) after → Booted before after

-- ---- before a job is done
-- what a run sees or leaves that can be told
pub record Scene : Type 0 where
  pub files : Contents
  pub failures : ℕ
  pub input : Told
  pub out : Told
  pub err : Told
  pub devices : Sight

-- the same, beside what can't: which paths may fail to be read, and what a crash may leave
abbrev pub scene_of : (fails : (path : List ℕ) → Type 0) (left : Outcomes) → Scene → World
scene_of fails left scene = record {
  files = record { seen = scene.files; fails = fails; left = left; failures = scene.failures };
  input = scene.input;
  out = scene.out;
  err = scene.err;
  devices = scene.devices;
}

-- the error is one of want of memory
abbrev pub IsOfMemory : Refusal → Type 0
IsOfMemory (Plain Memory) = Unit {0}
IsOfMemory (At Memory at cause) = Unit {0}
IsOfMemory r = ⊥

-- The root is entered, if looking at it can't fail, but for want of memory.
abbrev pub RootIsEntered : (fails fails_now : (path : List ℕ) → Type 0) (left left_now : Outcomes) → Type 0
RootIsEntered fails fails_now left left_now = (words : List (List ℕ)) (status : ℕ) (before now : Scene)
    → (refused : IsRootRefused words status (scene_of fails left before) (scene_of fails_now left_now now))
    → (fails refused.unread.0 → ⊥) → IsOfMemory refused.refusal

-- Of words without a fault nothing is told but want of memory: not that they are wrong, and no help.
abbrev pub FaultlessAreNotTold : (fails fails_now : (path : List ℕ) → Type 0) (left left_now : Outcomes) → Type 0
FaultlessAreNotTold fails fails_now left left_now = (words : List (List ℕ)) (status : ℕ) (before now : Scene) → fault_of hwdb_app words ≡ []
    → (told : AreRefused words status (scene_of fails left before) (scene_of fails_now left_now now)) → told.fault ≡ words_fault.Memory
