-- Assignments that their records say for sure, by a few searches of their bytes.
use Rattle.std.specs.Prelude.{Bool, List, ℕ, [], ◌∷◌, ◌++◌, ◌==◌, ◌+◌, ◌-◌, drop, if◌then◌else◌, true, false, not, length, nat_le, slice_index}
use Rattle.std.specs.List.{position_or_len}
use Rattle.hwdb_spec.specs.Assignment.{Assignment}
use Rattle.hwdb_spec.specs.Lines.{begins_with, is, is_blank, is_none, max_pattern}
use Rattle.hwdb_spec.specs.Texts.{property_text}

-- what comes after the comment of a record
abbrev pub body_text : Assignment → List ℕ
body_text f = f.position.pattern ++ 10 ∷ (32 ∷ (property_text (f.position.key, f.value) ++ 10 ∷ []))

-- whether a search for a byte comes to the end of a text
abbrev pub lacks : ℕ → List ℕ → Bool
lacks byte text = position_or_len (is byte) text == length text

-- whether a text is empty, or its last byte isn't a blank
abbrev pub ends_well : List ℕ → Bool
ends_well text = if is_none text then true else not (is_blank (slice_index text (length text - 1)))

-- whether a pattern begins and ends as a clean match line, and isn't too long
abbrev pub is_match : List ℕ → Bool
is_match pattern =
    if is_none pattern then false
    else if begins_with 32 pattern then false
    else if nat_le (length pattern) max_pattern then ends_well pattern
    else false

-- whether a key begins and a value ends as a clean property line does
abbrev pub is_property : (key value : List ℕ) → Bool
is_property key value =
    if is_none key then false
    else if begins_with 32 key then false
    else if begins_with 9 key then false
    else ends_well value

-- whether the first `=` of what begins with a property is after its key, and the first newline at its end: two bytes before the last
abbrev pub is_cut : (own : List ℕ) (key : ℕ) → Bool
is_cut own key =
    if nat_le 2 (length own) then (if position_or_len (is 61) own == key then position_or_len (is 10) own == length own - 2 else false)
    else false

-- whether the body of a record has its newlines at the ends of its lines alone, and no byte 0 or `#`
abbrev pub is_laid_out : (body : List ℕ) (pattern key : ℕ) → Bool
is_laid_out body pattern key =
    if lacks 0 body then (if lacks 35 body then (if position_or_len (is 10) body == pattern then (if nat_le 2 (length body) then
    (if nat_le pattern (length body - 2) then is_cut (drop (pattern + 2) body) key else false) else false) else false) else false)
    else false

-- an assignment whose record has this body, and shows at once that it says the assignment
abbrev pub is_plain : Assignment → (body : List ℕ) → Bool
is_plain f body =
    if lacks 10 f.path then (if is_match f.position.pattern then (if is_property f.position.key f.value
    then is_laid_out body (length f.position.pattern) (length f.position.key) else false) else false)
    else false
