-- What a run of a program sees, and what it leaves: files, devices that tell of their bytes, and what sysfs shows. Our choice.
use Rattle.std.specs.Prelude.{◌≡◌, List, Option, [], ℕ}
use Rattle.hwdb_spec_commands.specs.DeviceTree.{Sight}
use Rattle.hwdb_spec.specs.Outputs.{CutShort, Texts, Took}
use Rattle.hwdb_spec.specs.Store.{Contents, NoMore, Outcomes, Same}

-- a device: the bytes that it has left, or has taken, if it tells them; and how many of its calls failed
pub record Told : Type 0 where
  pub bytes : Option (List ℕ)
  pub failures : ℕ

-- a store of files: what is in each, which reads may fail, what a crash may leave of each; and how many calls failed
pub record Files : Type 1 where
  pub seen : Contents
  pub fails : (path : List ℕ) → Type 0
  pub left : Outcomes
  pub failures : ℕ

-- what a run sees before it, or leaves after it
pub record World : Type 1 where
  pub files : Files
  pub input : Told
  pub out : Told
  pub err : Told
  pub devices : Sight

-- a device, by what tells its bytes and its count of failures
abbrev pub told_by : {X : Type 0} (bytes : X → Option (List ℕ)) (failures : X → ℕ) → X → Told
told_by bytes failures x = record { bytes = bytes x; failures = failures x }

-- a store of files, by what tells each part of it
abbrev pub files_by : {D : Type 0} (seen : D → Contents) (fails : D → List ℕ → Type 0) (left : D → Outcomes) (failures : D → ℕ) → D → Files
files_by seen fails left failures d = record { seen = seen d; fails = fails d; left = left d; failures = failures d }

-- what a run sees or leaves, by what tells each of its files and devices
abbrev pub world_by : {D I O E : Type 0} (devices : D → Sight) (files : D → Files) (input : I → Told) (out : O → Told) (err : E → Told) → D → I → O → E → World
world_by devices files input out err d i o e = record { files = files d; input = input i; out = out o; err = err e; devices = devices d }

-- the files are as they were, and a crash leaves nothing else of them
pub record AreKept (before now : Files) : Type 0 where
  pub same : Same before.seen now.seen
  pub no_more : NoMore before.left now.left

-- a sink took the text, and none of its calls failed
abbrev pub HasTaken : (text : List ℕ) (before now : Told) → Type 0
HasTaken text before now = Took text before.bytes now.bytes before.failures now.failures

-- it took a prefix of the text, possibly the whole, and then one of its calls failed, the last that was made
abbrev pub WasCut : (text : List ℕ) (before now : Told) → Type 0
WasCut text before now = CutShort text before.bytes now.bytes before.failures now.failures

-- Standard error took the one of such texts, and after it standard output the other one. Without a text for standard error
-- that wasn't used.
pub record Printed (Are : Texts → Type 0) (err_before err_now out_before out_now : Told) : Type 0 where
  pub texts : Texts
  pub are : Are texts
  pub err : HasTaken texts.err err_before err_now
  pub quiet : texts.err ≡ [] → err_now ≡ err_before
  pub out : HasTaken texts.out out_before out_now

-- such a text is for standard output, and standard error gets none
abbrev pub OnOut : (Is : List ℕ → Type 0) → Texts → Type 0
OnOut Is texts = (texts.err ≡ []) × Is texts.out
