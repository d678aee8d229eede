-- The records of a test file, line by line.
use Rattle.std.proofs.Common.{◌≡◌, ℕ, Bool, true, false, List, [], ◌∷◌, ◌++◌, refl, ap, ◌∙◌, sym, cond, not}
use Rattle.hwdb_spec.specs.Lines.{Line, begins_with, clean, clean_line, has, is_empty, is_match, is_property}
use Rattle.hwdb_spec_commands.specs.Wanted.{Record, no_record, records_from, with_line}
use Rattle.hwdb_check.specs.Internal.{line_of}
use Rattle.hwdb_check.specs.Lemmas.Lines.{cleaned}

-- what is read of a clean line
pub read_by : (e : Bool) (r : Record) (l : Line) (m : List Line) → is_empty l ≡ e → records_from r (l ∷ m) ≡ cond e (r ∷ records_from no_record m) (records_from (with_line r l) m)
unfolding records_from
read_by e r l m h = ap (λ (t : Bool). cond t (r ∷ records_from no_record m) (records_from (with_line r l) m)) h

property_is_some : (number : ℕ) (text : List ℕ) → is_property (line_of number text) ≡ true → is_empty (line_of number text) ≡ false
property_is_some number [] e = cc
property_is_some number (b ∷ more) e = refl

match_is_some : (number : ℕ) (text : List ℕ) → is_match (line_of number text) ≡ true → is_empty (line_of number text) ≡ false
match_is_some number [] e = cc
match_is_some number (b ∷ more) e = refl

match_is_none : (number : ℕ) (text : List ℕ) → is_match (line_of number text) ≡ true → is_property (line_of number text) ≡ false
match_is_none number [] e = refl
match_is_none number (b ∷ more) e = go (is_property (line_of number (b ∷ more))) e
  where
    go : (p : Bool) → not p ≡ true → p ≡ false
    go true e = cc
    go false e = refl

-- a record with one line more, if that is a property, and if it is a device
pub with_by : (p : Bool) (r : Record) (l : Line) → is_property l ≡ p
    → with_line r l ≡ cond p (record { devices = r.devices; lines = r.lines ++ l ∷ [] }) (record { devices = r.devices ++ l.text ∷ []; lines = r.lines })
with_by p r l e = ap (λ (t : Bool). cond t (record { devices = r.devices; lines = r.lines ++ l ∷ [] }) (record { devices = r.devices ++ l.text ∷ []; lines = r.lines })) e

-- the line whose clean text this is
abbrev cleaned_line : ℕ → List ℕ → Line
cleaned_line number text = clean_line (line_of number text)

-- an empty line ends a record
pub empty_step : (number : ℕ) (text : List ℕ) (before : List Record) (r : Record) (more : List Line) (after : List Record) → begins_with 35 text ≡ false → has 0 text ≡ false
    → is_empty (cleaned_line 0 text) ≡ true → after ≡ before ++ r ∷ records_from no_record (clean more) → after ≡ before ++ records_from r (clean (line_of number text ∷ more))
empty_step number text before r more after c z e is =
    is ∙ ap (λ l. before ++ l) (sym (ap (records_from r) (cleaned number text more c z) ∙ read_by true r (cleaned_line number text) (clean more) e))

-- a property is wanted of the devices of its record
pub property_step : (number : ℕ) (text now : List ℕ) (before : List Record) (devices : List (List ℕ)) (lines after : List Line) (more : List Line)
    → begins_with 35 text ≡ false → has 0 text ≡ false → now ≡ (cleaned_line 0 text).text → is_property (line_of 0 (cleaned_line 0 text).text) ≡ true → after ≡ lines ++ line_of number now ∷ []
    → before ++ records_from (record { devices = devices; lines = after }) (clean more)
    ≡ before ++ records_from (record { devices = devices; lines = lines }) (clean (line_of number text ∷ more))
property_step number text now before devices lines after more c z is p grown =
    let l = cleaned_line number text in
    let r : Record = record { devices = devices; lines = lines } in
    ap (λ (ls : List Line). before ++ records_from (record { devices = devices; lines = ls }) (clean more)) (grown ∙ ap (λ (t : List ℕ). lines ++ line_of number t ∷ []) is)
    ∙ ap (λ (x : Record). before ++ records_from x (clean more)) (sym (with_by true r l p))
    ∙ ap (λ x. before ++ x) (sym (ap (records_from r) (cleaned number text more c z) ∙ read_by false r l (clean more) (property_is_some number l.text p)))

-- a match line is a device
pub match_step : (number : ℕ) (text now : List ℕ) (before : List Record) (devices after : List (List ℕ)) (lines : List Line) (more : List Line)
    → begins_with 35 text ≡ false → has 0 text ≡ false → now ≡ (cleaned_line 0 text).text → is_match (line_of 0 (cleaned_line 0 text).text) ≡ true → after ≡ devices ++ now ∷ []
    → before ++ records_from (record { devices = after; lines = lines }) (clean more)
    ≡ before ++ records_from (record { devices = devices; lines = lines }) (clean (line_of number text ∷ more))
match_step number text now before devices after lines more c z is p grown =
    let l = cleaned_line number text in
    let r : Record = record { devices = devices; lines = lines } in
    ap (λ (ds : List (List ℕ)). before ++ records_from (record { devices = ds; lines = lines }) (clean more)) (grown ∙ ap (λ (t : List ℕ). devices ++ t ∷ []) is)
    ∙ ap (λ (x : Record). before ++ records_from x (clean more)) (sym (with_by false r l (match_is_none number l.text p)))
    ∙ ap (λ x. before ++ x) (sym (ap (records_from r) (cleaned number text more c z) ∙ read_by false r l (clean more) (match_is_some number l.text p)))

-- after the last line
pub no_more : (before : List Record) (r : Record) (ls : List Line) → ls ≡ [] → before ++ records_from r (clean ls) ≡ before ++ r ∷ []
unfolding records_from
no_more before r ls e = ap (λ (l : List Line). before ++ records_from r (clean l)) e
