-- What the proofs of this crate speak of.
use Rattle.std.specs.Prelude.{ℕ, List, [], Bool, true, false, ◌≡◌, ◌<◌, ◌∷◌, ◌++◌, Option, flat_map, length, take}
use Rattle.std.specs.Io.KnownBytes.{Appends, IsAtEnd, Keeps, prepend_known}
use Rattle.hwdb_spec.specs.Answers.{effective_of}
use Rattle.hwdb_spec.specs.Assignment.{Assignment}
use Rattle.hwdb_spec.specs.Explanations.{explain_text}
use Rattle.hwdb_spec.specs.Flushing.{HandsOn}
use Rattle.hwdb_spec_commands.specs.Json.{device_json, explain_json, json_line}
use Rattle.hwdb_spec.specs.Lines.{byte, has}
use Rattle.hwdb_spec.specs.Texts.{query_text}
use Rattle.hwdb_spec.specs.Tree.{Tree, answers}
use Rattle.hwdb_spec_commands.specs.declared.form.Form.{Form}
use Rattle.hwdb_spec_commands.specs.declared.form.Form.TheVariants.{Explain, Query}
use Rattle.hwdb_spec_commands.specs.Streams.{texts_of}

-- a sink took the lines of the first of some hits, whole
abbrev pub AppendsLines : (Assignment → List ℕ) → Option (List ℕ) → Option (List ℕ) → List Assignment → Type 0
AppendsLines line before now hits = (n : ℕ) × Appends before now (flat_map line (take n hits))

-- a text, and in front of it an empty line if it isn't the first
abbrev pub text_behind : (is_first : Bool) → List ℕ → List ℕ
text_behind true text = text
text_behind false text = byte "\n" ∷ text

-- An output took each of some lines, and if it held nothing back before them, it doesn't now. Else the last call of it failed.
abbrev pub IsHeard : (is_heard : Bool) (flushed_before flushed_now : Type 0) (failures_before failures_now : ℕ) → Type 0
IsHeard true flushed_before flushed_now failures_before failures_now = (failures_now ≡ failures_before) × (flushed_before → flushed_now)
IsHeard false flushed_before flushed_now failures_before failures_now = HandsOn flushed_before flushed_now failures_before failures_now

-- what is printed of a device after others
abbrev pub answer_text : Form → (is_first : Bool) → List ℕ → Tree → List ℕ
answer_text (Query false) is_first device t = text_behind is_first (query_text device t)
answer_text (Query true) is_first device t = json_line (device_json device (effective_of (answers device t)))
answer_text (Explain false) is_first device t = text_behind is_first (explain_text device t)
answer_text (Explain true) is_first device t = explain_json device t

-- what is printed of some devices, after others if they aren't the first
abbrev pub texts_from : Form → (is_first : Bool) → List (List ℕ) → Tree → List ℕ
texts_from form true devices t = texts_of form devices t
texts_from form false devices t = flat_map (λ device. answer_text form false device t) devices

-- what was read is held, and none only at the end
pub record IsRefilled (before : Option (List ℕ)) (held : List ℕ) (now : Option (List ℕ)) (more : Bool) : Type 0 where
  pub kept : Keeps before (prepend_known held now)
  pub some : more ≡ true → 0 < length held
  pub none : more ≡ false → (held ≡ []) × IsAtEnd now

-- a part of what was held, without a newline, went after a line: up to the first newline, which is dropped, or all
abbrev pub IsTaken : (line held line_now held_now : List ℕ) → (is_whole : Bool) → Type 0
IsTaken line held line_now held_now true = (part : List ℕ) × (has (byte "\n") part ≡ false) × (line_now ≡ line ++ part) × (held ≡ part ++ byte "\n" ∷ held_now)
IsTaken line held line_now held_now false = (has (byte "\n") held ≡ false) × (line_now ≡ line ++ held) × (held_now ≡ [])
