-- What the proofs of this crate speak of.
use Rattle.std.specs.Prelude.{Bool, not, false, true, ◌==◌, ℕ, List, Option, None, Some, [], ◌∷◌, ◌++◌, codes, drop, filter, length, map, max, nat_lt, ◌+◌, ◌≡◌, ◌≤◌, if◌then◌else◌}
use Rattle.std.specs.Borrow.{Bor}
use Rattle.std.specs.Fmt.{decimal}
use Rattle.std.specs.List.{list_all, list_any}
use Rattle.std.specs.Option.{unwrap_or}
use Rattle.std.specs.Ordering.{nat_cmp, ordering_then}
use Rattle.std.specs.declared.cmp.Ordering.{Ordering}
use Rattle.std.specs.Cmp.{IsTotalOrder, on_total, then_total}
use Rattle.std.specs.Cmp.Lexicographic.{nat_list_cmp_total, slice_cmp}
use Rattle.std.specs.BTreeMap.{BTreeMap, get, get_by}
use Rattle.std.specs.BTreeSet.{BTreeSet, contains, contains_by}
use Rattle.hwdb_spec.specs.Assignment.{Assignment}
use Rattle.hwdb_spec.specs.Folders.{same}
use Rattle.hwdb_spec_commands.specs.FormTable.{prefixes}
use Rattle.hwdb_spec_commands.specs.Properties.{before}
use Rattle.hwdb_spec.specs.Records.{Origin}
use Rattle.hwdb_spec_commands.specs.Surroundings.{companions_text, is_alone, is_elsewhere, is_given, is_read_below, is_unpaired, is_unread}
use Rattle.hwdb_spec_commands.specs.Unmatched.{judgement_of, likelihood_of}
use Rattle.hwdb_spec_commands.specs.Warnings.{gives_value, greatest, last_with, misused, repeated_from, repeated_lines, replaces, replacing}
use Rattle.hwdb_spec_commands.specs.declared.WarningKind.{WarningKind}
use Rattle.hwdb_spec_commands.specs.declared.WarningKind.TheVariants.{Fragile, Misused, Replaced, SpacedEquals, Unlikely, Unmatched, Unpaired, Unread}
use Rattle.hwdb_spec.specs.Lines.{Line, byte, clean_line, has, is, is_none, lines, numbered, pieces}
use Rattle.hwdb_spec_commands.specs.Reports.{text_of_line}
use Rattle.hwdb_text.specs.declared.outcome.Given.{Given}
use Rattle.hwdb_check.specs.declared.companions.Companions.{Companions}
use Rattle.hwdb_check.specs.declared.known.Known.{Known}
use Rattle.hwdb_check.specs.declared.line_texts.LineStart.{LineStart}
use Rattle.hwdb_check.specs.declared.line_warnings.Read.{Read}
use Rattle.hwdb_check.specs.declared.repeats.Run.{Run}
use Rattle.hwdb_check.specs.declared.unread.Place.{Place}
use Rattle.hwdb_check.specs.declared.unread.UnreadLines.{UnreadLines}

-- the line with this number and this text
abbrev pub line_of : ℕ → List ℕ → Line
line_of number text = record { number = number; text = text }

-- the line that is read, and its clean line
abbrev pub read_line : Read → Line
read_line r = line_of r.number r.text.now

abbrev pub clean_of : Read → Line
clean_of r = clean_line (read_line r)

-- What is read of a line: its clean text, whether its record has it already, and the last line that replaces an
-- assignment of it. Then why it doesn't fit what is known of properties, or what is around it, and what is said of it as
-- a pattern.
pub record IsRead (r : Read) : Type 0 where
  pub clean : r.clean.now ≡ (clean_of r).text
  pub repeated : r.repeated ≡ list_any (is r.number) (repeated_lines r.bytes.now)
  pub replaced : r.replaced_by ≡ greatest (replacing r.bytes.now r.number)
  pub misuse : r.misuse ≡ misused (clean_of r)
  pub unread : r.unread ≡ is_unread r.bytes.now r.number
  pub unpaired : r.unpaired ≡ is_unpaired r.bytes.now r.number
  pub judgement : r.judgement ≡ judgement_of (clean_of r).text
  pub likelihood : r.likelihood ≡ likelihood_of (clean_of r).text

-- a warning whose hint is the same for each line
abbrev pub IsPlain : WarningKind → Type 0
IsPlain SpacedEquals = ⊥
IsPlain (Misused why) = ⊥
IsPlain (Unread known) = ⊥
IsPlain Unpaired = ⊥
IsPlain (Unmatched told) = ⊥
IsPlain (Unlikely told) = ⊥
IsPlain Fragile = ⊥
IsPlain kind = Unit {0}

-- what is printed of a warning from the number in it on
abbrev pub number_text : WarningKind → List ℕ
number_text (Replaced by) = decimal by ++ codes " replaces"
number_text _ = []

-- texts as a set
abbrev pub texts : List (Bor (List ℕ)) → List (List ℕ)
texts ks = map (λ t. t.now) ks

-- only the set of the texts above matters
abbrev pub AreAlike : List (List ℕ) → List (List ℕ) → Type 0
AreAlike a b = (t : List ℕ) → list_any (same t) a ≡ list_any (same t) b

-- the last match line, if there is one
abbrev pub last_texts : Option (Bor (List ℕ)) → List (List ℕ)
last_texts None = []
last_texts (Some t) = t.now ∷ []

-- the match lines directly above
abbrev pub above_texts : Run → List (List ℕ)
above_texts r = last_texts r.last ++ texts r.above.keys

-- the match lines that repeat one of their run: those found so far, and those of the clean lines after them
abbrev pub found_with : Run → List Line → List ℕ
found_with r more = r.numbers.items ++ repeated_from (above_texts r) more

-- Among lines with these texts no match line may be directly above another one. `after` says whether the last line may be one.
unfoldable pub calm : (after : Bool) → List (List ℕ) → Bool
calm after [] = true
calm after ([] ∷ more) = calm false more
calm after ((first ∷ rest) ∷ more) =
    if first == 35 then calm after more
    else (if first == 32 then (if has 0 (first ∷ rest) then false else calm false more)
    else (if after then false else calm true more))

-- what is said of more lines, after a line of which it is told whether it may be a match line, or that nothing can be said
abbrev pub calm_on : Option Bool → List (List ℕ) → Bool
calm_on None more = false
calm_on (Some after) more = calm after more

-- a set of these numbers
abbrev pub IsSetOf : List ℕ → BTreeSet ℕ → Type 0
IsSetOf numbers set = (n : ℕ) → contains nat_cmp set n ≡ list_any (is n) numbers

-- the origin that the assignments of a file are given
abbrev pub own : Origin
own = record { path = []; priority = 1 }

-- the order of assignments by pattern, and then by key
abbrev pub by_place : Given → Given → Ordering
by_place a b = ordering_then (slice_cmp nat_cmp a.pattern.now b.pattern.now) (slice_cmp nat_cmp a.key.now b.key.now)

pub by_place_total : IsTotalOrder by_place
by_place_total =
    then_total (on_total (λ (g : Given). g.pattern.now) nat_list_cmp_total) (on_total (λ (g : Given). g.key.now) nat_list_cmp_total)

-- whether an assignment gives a pattern a key
abbrev pub gives : Assignment → (pattern key : List ℕ) → Bool
gives a pattern key = if same a.position.pattern pattern then same a.position.key key else false

-- the lines of those that give a pattern a key
abbrev pub lines_with : (pattern key : List ℕ) → List Assignment → List ℕ
lines_with pattern key all = map (λ a. a.position.line) (filter (λ a. gives a pattern key) all)

-- the lines of `all` that replace one of the assignments `read` of a line
abbrev pub replacing_of : (read all : List Assignment) → (line : ℕ) → List ℕ
replacing_of read all line =
    map (λ a. a.position.line) (filter (λ a. list_any (replaces all a) (filter (λ b. is line b.position.line) read)) all)

-- a number that is raised to another one, if a test holds
abbrev pub raised : (test : Bool) (number old : ℕ) → ℕ
raised test number old = if test then max old number else old

-- a number, if it is above another one; else 0
abbrev pub behind : (line number : ℕ) → ℕ
behind line number = if nat_lt line number then number else 0

-- what a map has at a pattern and a key, at these and a value, or at a number; 0 if it has nothing there
abbrev pub last_at : BTreeMap (Bor (List ℕ) × Bor (List ℕ)) ℕ → (pattern key : Bor (List ℕ)) → ℕ
last_at last pattern key =
    unwrap_or (get_by (λ q. ordering_then (slice_cmp nat_cmp pattern.now q.0.now) (slice_cmp nat_cmp key.now q.1.now)) last) 0

abbrev pub same_at : BTreeMap ((Bor (List ℕ) × Bor (List ℕ)) × Bor (List ℕ)) ℕ → (pattern key value : Bor (List ℕ)) → ℕ
same_at last pattern key value =
    unwrap_or (get_by (λ q. ordering_then (ordering_then (slice_cmp nat_cmp pattern.now q.0.0.now) (slice_cmp nat_cmp key.now q.0.1.now)) (slice_cmp nat_cmp value.now q.1.now)) last) 0

abbrev pub line_at : BTreeMap ℕ ℕ → ℕ → ℕ
line_at lines number = unwrap_or (get nat_cmp lines number) 0

-- the last line with each pattern and key
abbrev pub IsLastOf : List Assignment → BTreeMap (Bor (List ℕ) × Bor (List ℕ)) ℕ → Type 0
IsLastOf all last = (pattern key : Bor (List ℕ)) → last_at last pattern key ≡ greatest (lines_with pattern.now key.now all)

-- the last line with each pattern, key and value
abbrev pub IsSameOf : List Assignment → BTreeMap ((Bor (List ℕ) × Bor (List ℕ)) × Bor (List ℕ)) ℕ → Type 0
IsSameOf all last = (pattern key value : Bor (List ℕ)) → same_at last pattern key value ≡ last_with all pattern.now key.now value.now

-- the last line of `all` that replaces one of the assignments `read`, by the line of that one
abbrev pub IsReplacedBy : (read all : List Assignment) → BTreeMap ℕ ℕ → Type 0
IsReplacedBy read all replaced = (number : ℕ) → line_at replaced number ≡ greatest (replacing_of read all number)

-- the map has read one assignment more
abbrev pub RaisesLast : Assignment → (before after : BTreeMap (Bor (List ℕ) × Bor (List ℕ)) ℕ) → Type 0
RaisesLast a before after =
    (pattern key : Bor (List ℕ))
    → last_at after pattern key ≡ raised (gives a pattern.now key.now) a.position.line (last_at before pattern key)

abbrev pub RaisesSame : Assignment → (before after : BTreeMap ((Bor (List ℕ) × Bor (List ℕ)) × Bor (List ℕ)) ℕ) → Type 0
RaisesSame a before after =
    (pattern key value : Bor (List ℕ))
    → same_at after pattern key value ≡ raised (gives_value pattern.now key.now value.now a) a.position.line (same_at before pattern key value)

-- the map has at a line a number that is raised to another one
abbrev pub RaisesLine : (line by : ℕ) → (before after : BTreeMap ℕ ℕ) → Type 0
RaisesLine line by before after = (number : ℕ) → line_at after number ≡ raised (is number line) by (line_at before number)

-- the lines of the assignments that pass a test
abbrev pub lines_where : (Assignment → Bool) → List Assignment → List ℕ
lines_where test all = map (λ a. a.position.line) (filter test all)

-- whether an assignment is of one of these lines, and isn't elsewhere
abbrev pub is_read_there : BTreeSet ℕ → Assignment → Bool
is_read_there elsewhere a = if contains nat_cmp elsewhere a.position.line then not (is_elsewhere a) else false

-- what is told of a line: it is in the first set, and not in the second one
abbrev pub tells_unread : UnreadLines → ℕ → Bool
tells_unread u line = if contains nat_cmp u.elsewhere line then not (contains nat_cmp u.read line) else false

-- of each line it is told whether its property isn't read below its patterns
abbrev pub IsUnreadOf : List Assignment → UnreadLines → Type 0
IsUnreadOf all u =
    (line : ℕ) → tells_unread u line
    ≡ (if is_none (filter (λ a. is line a.position.line) all) then false else list_all is_elsewhere (filter (λ a. is line a.position.line) all))

-- whether a property isn't read below a prefix that udev asks with
abbrev pub is_elsewhere_below : (key prefix : List ℕ) → Bool
is_elsewhere_below key prefix = if is_read_below key (before (byte ":") prefix) then false else list_any (same prefix) prefixes

-- of its key and prefix it is told whether the property isn't read there
abbrev pub IsPlace : Place → Type 0
IsPlace p = p.elsewhere ≡ is_elsewhere_below p.key.now p.prefix.now

-- the properties with which its key is read
abbrev pub AreCompanions : Companions → Type 0
AreCompanions c = c.text.now ≡ companions_text c.key.now

-- whether a property is read with others alone
abbrev pub has_companions : Assignment → Bool
has_companions a = not (is_none (companions_text a.position.key))

-- whether a pattern and a key are in a set
abbrev pub holds : BTreeSet (Bor (List ℕ) × Bor (List ℕ)) → (pattern key : List ℕ) → Bool
holds places pattern key =
    contains_by (λ q. ordering_then (slice_cmp nat_cmp pattern q.0.now) (slice_cmp nat_cmp key q.1.now)) places

-- the set has the patterns and keys of some assignments
abbrev pub ArePlacesOf : List Assignment → BTreeSet (Bor (List ℕ) × Bor (List ℕ)) → Type 0
ArePlacesOf all places = (pattern key : List ℕ) → holds places pattern key ≡ is_given all pattern key

-- whether one of some keys with commas between isn't in the set with a pattern
abbrev pub lacks_of : BTreeSet (Bor (List ℕ) × Bor (List ℕ)) → (pattern keys : List ℕ) → Bool
lacks_of places pattern keys = list_any (λ key. not (holds places pattern key)) (pieces (is (byte ",")) keys)

-- the set has the lines whose property lacks a companion
abbrev pub IsUnpairedOf : List Assignment → BTreeSet ℕ → Type 0
IsUnpairedOf all set =
    (line : ℕ) → contains nat_cmp set line ≡ list_any (is_alone all) (filter (λ a. is line a.position.line) all)

-- what is known of a file
pub record IsKnown (k : Known) : Type 0 where
  pub repeated : IsSetOf (repeated_lines k.bytes.now) k.repeated
  pub replaced : (number : ℕ) → line_at k.replaced number ≡ greatest (replacing k.bytes.now number)
  pub unread : (number : ℕ) → tells_unread k.unread number ≡ is_unread k.bytes.now number
  pub unpaired : (number : ℕ) → contains nat_cmp k.unpaired number ≡ is_unpaired k.bytes.now number

-- the texts of the lines from some place on, if the first one has this number
abbrev pub text_from : (file : List ℕ) (number at line : ℕ) → List ℕ
text_from file number at line = text_of_line (numbered number (pieces (is (byte "\n")) (drop at file))) line

-- a line of the file, or its end, begins there
pub record IsStart (file : List ℕ) (s : LineStart) : Type 0 where
  pub within : s.at ≤ length file + 1
  pub same : (line : ℕ) → s.number ≤ line → text_of_line (lines file) line ≡ text_from file s.number s.at line
