-- Changes as tables of Markdown, one for each device or pattern, as a pull request shows them (GitHub Flavored Markdown, 'Tables'). What
-- they have is our choice.
use Rattle.std.specs.Prelude.{◌++◌, ◌∷◌, Bool, List, None, Option, Some, [], codes, flat_map, if◌then◌else◌, nat_eq, nat_lt, true, ℕ}
use Rattle.std.specs.Fmt.{decimal}
use Rattle.std.specs.List.{list_any}
use Rattle.hwdb_spec.specs.Assignment.{Assignment}
use Rattle.hwdb_spec.specs.Lines.{byte}
use Rattle.hwdb_spec.specs.Texts.{place_text}
use Rattle.hwdb_spec_commands.specs.Differences.{Change}
use Rattle.hwdb_spec_commands.specs.Differences.Change.{Came, Went, Changed}
use Rattle.hwdb_spec_commands.specs.Renamed.{Group, groups}

-- whether Markdown or HTML takes a byte for more than itself
abbrev pub is_markup : ℕ → Bool
is_markup b = if nat_lt b 32 then true else list_any (λ c. nat_eq c b) (codes "&<>|*_`[]\\~")

-- a byte as a page shows it: such a one by its number (HTML, 'Character references')
abbrev pub page_byte : ℕ → List ℕ
page_byte b = if is_markup b then codes "&#" ++ (decimal b ++ byte ";" ∷ []) else b ∷ []

-- a text as code
abbrev pub code_text : List ℕ → List ℕ
code_text text = codes "<code>" ++ (flat_map page_byte text ++ codes "</code>")

-- a value, and below it where it is
abbrev pub value_text : Assignment → List ℕ
value_text f = code_text f.value ++ (codes "<br>" ++ code_text (place_text f.path f.position.line))

-- the same; nothing if there is none
abbrev pub cell_text : Option Assignment → List ℕ
cell_text None = []
cell_text (Some f) = value_text f

-- a row: a key, what was there, and what is there
abbrev pub row_text : (key : List ℕ) (old new : Option Assignment) → List ℕ
row_text key old new = codes "| " ++ (code_text key ++ (codes " | " ++ (cell_text old ++ (codes " | " ++ (cell_text new ++ codes " |\n")))))

-- the row of a change
abbrev pub change_row : Change → List ℕ
change_row (Came new) = row_text new.position.key None (Some new)
change_row (Went old) = row_text old.position.key (Some old) None
change_row (Changed old new) = row_text old.position.key (Some old) (Some new)

-- what a table is of, and its head
abbrev pub head_text : (name : List ℕ) → List ℕ
head_text name = code_text name ++ codes "\n\n| Property | Before | After |\n|---|---|---|\n"

-- a table
abbrev pub table_text : (name : List ℕ) → List Change → List ℕ
table_text name changes = head_text name ++ (flat_map change_row changes ++ byte "\n" ∷ [])

-- that of a device; none without a change
abbrev pub device_table : (device : List ℕ) → List Change → List ℕ
device_table device [] = []
device_table device (change ∷ more) = table_text device (change ∷ more)

-- that of a pattern
abbrev pub group_table : Group → List ℕ
group_table g = table_text g.pattern g.changes

-- one for each pattern
abbrev pub tables_text : List Change → List ℕ
tables_text changes = flat_map group_table (groups changes)
