-- What the laws say of the pattern of a record: it outlives what may change about a device, and matches no other one.
use Rattle.std.specs.Prelude.{List, ℕ, [], ◌∷◌, ◌++◌, ◌≡◌, codes, false, length, true}
use Rattle.std.specs.List.{AllByRecursion, list_any}
use Rattle.hwdb_spec.specs.Answers.{is_match}
use Rattle.hwdb_spec.specs.Lines.{byte, has}
use Rattle.hwdb_spec_commands.specs.DeviceRecords.{begins, is_special, lasting, model_type}

-- ---- a device with numbers

-- The pattern of a string that begins so matches each string with the same numbers, whatever comes after them, on any machine.
abbrev pub OutlivesPort : List ℕ × ℕ → Type 0
OutlivesPort row =
    (numbers rest other machine : List ℕ) → length numbers ≡ row.1
    → is_match (row.0 ++ (numbers ++ other)) (lasting machine (row.0 ++ (numbers ++ rest))) ≡ true

-- It matches none with other numbers. Numbers have no byte that is special in a pattern.
abbrev pub IsOfNumbers : List ℕ × ℕ → Type 0
IsOfNumbers row =
    (numbers others rest other machine : List ℕ) → length numbers ≡ row.1 → length others ≡ row.1 → list_any is_special numbers ≡ false
    → is_match (row.0 ++ (others ++ other)) (lasting machine (row.0 ++ (numbers ++ rest))) ≡ true → others ≡ numbers

-- ---- a device of a machine

-- a field that tells of the BIOS: it has no colon, and isn't that of the machine's vendor
abbrev pub IsOfBios : List ℕ → Type 0
IsOfBios field = (has (byte ":") field ≡ false) × (begins (codes "svn") field ≡ false)

-- fields, each with a colon after it, before a text
unfoldable pub fields_before : (fields : List (List ℕ)) → List ℕ → List ℕ
fields_before [] text = text
fields_before (f ∷ more) text = f ++ byte ":" ∷ fields_before more text

-- vendor and model, as they are in a machine's name
abbrev pub named_model : (vendor model : List ℕ) → List ℕ
named_model vendor model = codes ":svn" ++ (vendor ++ (codes ":pn" ++ (model ++ byte ":" ∷ [])))

-- what names a machine (`get_modalias` of drivers/firmware/dmi-id.c): fields of its BIOS, vendor and model, and what comes after them
abbrev pub machine_of : (bios : List (List ℕ)) → (vendor model rest : List ℕ) → List ℕ
machine_of bios vendor model rest =
    codes "dmi:" ++ fields_before bios (codes "svn" ++ (vendor ++ (codes ":pn" ++ (model ++ byte ":" ∷ rest))))

-- how strings begin that end with the machine's name
abbrev pub of_machines : List (List ℕ)
of_machines = codes "evdev:atkbd:" ∷ codes "evdev:name:" ∷ codes "sensor:" ∷ codes "battery:" ∷ []

-- The pattern of a string that begins so matches that of the same device with any other BIOS, and any other fields after the model.
abbrev pub OutlivesBios : List ℕ → Type 0
OutlivesBios start =
    (name first other : List ℕ) (bios others : List (List ℕ)) (vendor model rest after : List ℕ)
    → AllByRecursion IsOfBios (first ∷ bios) → AllByRecursion IsOfBios (other ∷ others) → has (byte ":") vendor ≡ false → has (byte ":") model ≡ false
    → is_match (start ++ (name ++ machine_of (other ∷ others) vendor model after))
    (lasting (machine_of (first ∷ bios) vendor model rest) (start ++ (name ++ machine_of (first ∷ bios) vendor model rest))) ≡ true

-- a part of a text
pub record Part (part whole : List ℕ) : Type 0 where
  pub before : List ℕ
  pub after : List ℕ
  pub is : whole ≡ before ++ (part ++ after)

-- It matches a machine alone whose name has that vendor and that model, if these have no byte that is special in a pattern.
abbrev pub IsOfModel : List ℕ → Type 0
IsOfModel start =
    (name first : List ℕ) (bios : List (List ℕ)) (vendor model rest other : List ℕ)
    → AllByRecursion IsOfBios (first ∷ bios) → has (byte ":") vendor ≡ false → has (byte ":") model ≡ false
    → list_any is_special (model_type (named_model vendor model)) ≡ false
    → is_match (start ++ (name ++ (codes "dmi:" ++ other)))
    (lasting (machine_of (first ∷ bios) vendor model rest) (start ++ (name ++ machine_of (first ∷ bios) vendor model rest))) ≡ true
    → Part (model_type (named_model vendor model)) other
