-- Of the names that are let pass only those of kinds count, each once. So a record's comments take room for the kinds alone, however many
-- names they have.
use Rattle.std.specs.Prelude.{◌≡◌, ◌++◌, ℕ, Bool, List, [], codes, flat_map, if◌then◌else◌}
use Rattle.std.specs.List.{list_any}
use Rattle.hwdb_spec.specs.Folders.{same}
use Rattle.hwdb_spec.specs.Lines.{is, pieces}
use Rattle.hwdb_spec_commands.specs.AllowedKinds.{names_in}
use Rattle.hwdb_spec_commands.specs.Kinds.{is_told}
use Rattle.hwdb_spec_commands.specs.declared.WarningKind.{WarningKind}
use Rattle.hwdb_spec_commands.specs.declared.kinds.TheConstants.{KINDS}

-- two lists of names let the same kinds pass
abbrev pub AreAlike : (names others : List (List ℕ)) → Type 0
AreAlike names others = (kind : WarningKind) → is_told names kind ≡ is_told others kind

-- whether a name is one of those in some texts
abbrev pub is_named : (texts : List (List ℕ)) → (name : List ℕ) → Bool
is_named texts name = list_any (λ text. list_any (same name) (names_in text)) texts

-- the names in a text, if this name is one of those in some others
abbrev pub kept_of : (texts : List (List ℕ)) → (name text : List ℕ) → List (List ℕ)
kept_of texts name text = if is_named texts name then names_in text else []

-- the names of kinds that are among those in some texts, and the empty name, if that is among them
abbrev pub kept : (texts : List (List ℕ)) → List (List ℕ)
kept texts = kept_of texts [] (codes ",") ++ flat_map (λ name. kept_of texts name name) (pieces (is 10) KINDS.now)
