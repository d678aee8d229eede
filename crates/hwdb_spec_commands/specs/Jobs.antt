-- What the matches of a command line ask for.
use Rattle.std.specs.Prelude.{◌&&◌, find, length, nat_lt, not, Bool, List, codes, false, Some, ◌≡◌, None, Option, Ok, ℕ, option_map, string_bytes, map, ◌||◌, is_some, true, ◌<◌, ◌^◌, IfSome, ◌⊎◌, unwrap_or, [], ◌∷◌, ◌++◌}
use Rattle.std.specs.Str.{bytes_eq}
use Rattle.std.specs.Option.{option_map_or, option_or}
use Rattle.std.specs.declared.num.ParseIntError.{ParseIntError}
use Rattle.std.specs.Str.Parse.{ParsesUnsigned, IsNumeral, digits_value, without_leading_plus}
use Rattle.clap.specs.Simple.{Shape}
use Rattle.clap.specs.Walk.{Row, Rule, Text, all_of, first_of, one_of}
use Rattle.clap.specs.declared.builder.value_parser.ValueParser.{ValueParser}
use Rattle.clap.specs.declared.builder.value_parser.ValueParser.TheVariants as vp
use Rattle.hwdb_spec_commands.specs.CommandLine.{hwdb_app}
use Rattle.hwdb_spec_commands.specs.Reviews.{Review, layout_of, review_in}
use Rattle.hwdb_spec_commands.specs.declared.job.Task.TheVariants.{Ask, Check, Device, Diff, Dump, Explain, Fresh, Keys, List as ListHits, Near, Query, Record, Scan, Status, Test, Update, Verify}
use Rattle.hwdb_spec_commands.specs.declared.job.Task.{Task}
use Rattle.hwdb_spec_commands.specs.declared.job.Job.{Job}

-- the flag is on this side
abbrev pub has_flag : Text → List Row → Bool
has_flag id rows = option_map_or (λ t. bytes_eq t (codes "true")) (first_of id rows) false

-- the text is the argument's value
abbrev pub IsValue : Text → List Row → Text → Type 0
IsValue id rows text = Some text ≡ first_of id rows

-- the texts are the argument's values, in their order
abbrev pub AreValues : Text → List Row → List Text → Type 0
AreValues id rows texts = Some texts ≡ all_of id rows

-- the texts are the argument's values, in their order; if it has none there are none
abbrev pub AreAnyValues : Text → List Row → List Text → Type 0
AreAnyValues id rows texts = texts ≡ unwrap_or (all_of id rows) []

-- the limit is the number that the text writes; without a text there is none
abbrev pub IsLimit : Option Text → Option ℕ → Type 0
IsLimit None limit = limit ≡ None
IsLimit (Some text) None = ⊥
IsLimit (Some text) (Some n) = ParsesUnsigned {E = ParseIntError} 64 10 text (Ok n)

-- how `diff` is asked to compare
abbrev pub review_of : List Row → Review
review_of rows = record {
  json = has_flag (codes "json") rows;
  stat = has_flag (codes "stat") rows;
  layout = layout_of (first_of (codes "format") rows);
  verbose = has_flag (codes "verbose") rows;
  samples = has_flag (codes "samples") rows;
  only = unwrap_or (all_of (codes "only") rows) [];
  without = unwrap_or (all_of (codes "not") rows) [];
  prefixes = unwrap_or (all_of (codes "prefix") rows) [];
}

-- the task that a command's name and its matches ask for
abbrev pub IsTask : Text → List Row → Task → Type 0
IsTask name inner (Update u) = (name ≡ codes "update") × (has_flag (codes "check") inner ≡ false) × (u.verbose ≡ has_flag (codes "verbose") inner) × (u.skip_unreadable ≡ has_flag (codes "skip-unreadable") inner)
IsTask name inner (Query q) = (name ≡ codes "query") × (q.json ≡ has_flag (codes "json") inner) × AreValues (codes "MODALIAS") inner (map string_bytes q.devices.items)
IsTask name inner (Explain e) = (name ≡ codes "explain") × (e.json ≡ has_flag (codes "json") inner) × IsValue (codes "MODALIAS") inner (string_bytes e.device)
IsTask name inner (Ask a) = (name ≡ codes "ask") × IsValue (codes "FILE") inner (string_bytes a.file) × IsValue (codes "MODALIAS") inner (string_bytes a.device)
IsTask name inner (ListHits l) = (name ≡ codes "list") × (l.json ≡ has_flag (codes "json") inner) × (option_map string_bytes l.after ≡ first_of (codes "after") inner)
    × IsLimit (one_of (codes "limit") inner) l.limit × IsValue (codes "MODALIAS") inner (string_bytes l.device)
IsTask name inner (Near n) = (name ≡ codes "near") × (n.json ≡ has_flag (codes "json") inner) × AreValues (codes "MODALIAS") inner (map string_bytes n.files.items ++ string_bytes n.device ∷ [])
    × IsLimit (one_of (codes "limit") inner) n.limit
IsTask name inner (Device d) = (name ≡ codes "device") × (option_map string_bytes d.path ≡ first_of (codes "DEVICE") inner) × (d.strings ≡ has_flag (codes "strings") inner)
    × (d.json ≡ has_flag (codes "json") inner) × (d.pattern ≡ has_flag (codes "pattern") inner) × (d.all ≡ has_flag (codes "all") inner) × (option_map string_bytes d.from ≡ first_of (codes "from") inner)
    × (option_map string_bytes d.udev ≡ first_of (codes "udev") inner) × (d.why ≡ has_flag (codes "why") inner)
IsTask name inner (Check c) = (name ≡ codes "check") × AreAnyValues (codes "FILE") inner (map string_bytes c.files.items)
    × AreAnyValues (codes "allow") inner (map string_bytes c.allowed.items) × (c.json ≡ has_flag (codes "json") inner)
    × (option_map string_bytes c.format ≡ first_of (codes "format") inner) × (option_map string_bytes c.name ≡ first_of (codes "name") inner)
    × (option_map string_bytes c.baseline ≡ first_of (codes "baseline") inner) × (c.diff ≡ has_flag (codes "diff") inner) × (c.rules ≡ has_flag (codes "rules") inner)
IsTask name inner (Test t) = (name ≡ codes "test") × (has_flag (codes "record") inner ≡ false) × (t.json ≡ has_flag (codes "json") inner) × (option_map string_bytes t.database ≡ first_of (codes "database") inner)
    × AreValues (codes "FILE") inner (map string_bytes t.files.items)
IsTask name inner (Record r) = (name ≡ codes "test") × (has_flag (codes "record") inner ≡ true) × (r.json ≡ has_flag (codes "json") inner) × (option_map string_bytes r.database ≡ first_of (codes "database") inner)
    × AreValues (codes "FILE") inner (map string_bytes r.devices.items)
IsTask name inner (Diff d) = (name ≡ codes "diff") × (review_in d.review ≡ review_of inner) × AreAnyValues (codes "devices") inner (map string_bytes d.devices.items)
    × IsValue (codes "OLD") inner (string_bytes d.old) × IsValue (codes "NEW") inner (string_bytes d.new)
IsTask name inner (Verify v) = (name ≡ codes "verify") × (option_map string_bytes v.database ≡ first_of (codes "DATABASE") inner)
IsTask name inner (Dump d) = (name ≡ codes "dump") × (option_map string_bytes d.database ≡ first_of (codes "DATABASE") inner)
IsTask name inner (Status s) = (name ≡ codes "status") × (s.json ≡ has_flag (codes "json") inner)
IsTask name inner Fresh = (name ≡ codes "update") × (has_flag (codes "check") inner ≡ true)
IsTask name inner (Keys k) = (name ≡ codes "keys") × (k.json ≡ has_flag (codes "json") inner) × AreAnyValues (codes "WORD") inner (map string_bytes k.words.items)
IsTask name inner (Scan s) = (name ≡ codes "scan") × IsValue (codes "DEVICE") inner (string_bytes s.device) × IsLimit (one_of (codes "count") inner) s.count

-- ---- `--text`
-- a text if that is so
abbrev pub text_if : Bool → Text → Option Text
text_if true text = Some text
text_if false text = None

-- what is said of files beside `--text`: there are more words than the device
abbrev pub files_misfit : List Row → Option Text
files_misfit inner = text_if (nat_lt 1 (length (unwrap_or (all_of (codes "MODALIAS") inner) []))) (codes "--text and FILE are two sources: leave out one of them")

-- what is said of a list of devices
abbrev pub list_misfit : List Row → Option Text
list_misfit inner = text_if (not (is_some (first_of (codes "DEVICE") inner) || has_flag (codes "all") inner)) (codes "--text needs DEVICE or --all: a list of devices asks no database")

-- what is said of a database that is an option
abbrev pub option_misfit : List Row → Option Text
option_misfit inner = text_if (is_some (first_of (codes "database") inner)) (codes "--text and --database are two sources: leave out one of them")

-- what is said of one that is a word
abbrev pub word_misfit : List Row → Option Text
word_misfit inner = text_if (is_some (first_of (codes "DATABASE") inner)) (codes "--text and DATABASE are two sources: leave out one of them")

-- Each command that takes `--text`, since it asks a database, by its name. If its other words don't fit that, with what is said of them.
abbrev pub text_takers : List Row → List (Text × Option Text)
text_takers inner =
    (codes "query", None)
    ∷ (codes "explain", None)
    ∷ (codes "list", None)
    ∷ (codes "near", files_misfit inner)
    ∷ (codes "device", list_misfit inner)
    ∷ (codes "test", option_misfit inner)
    ∷ (codes "verify", word_misfit inner)
    ∷ (codes "dump", word_misfit inner)
    ∷ []

-- that of the command with this name
abbrev pub text_taker : (name : Text) → List Row → Option (Option Text)
text_taker name inner = option_map (λ taker. taker.1) (find (λ taker. bytes_eq taker.0 name) (text_takers inner))

-- the job of both sides' options and of the command
pub record IsJob (top : List Row) (name : Text) (inner : List Row) (job : Job) : Type 0 where
  pub usr : job.usr ≡ (has_flag (codes "usr") inner || has_flag (codes "usr") top)
  pub strict : job.strict ≡ (has_flag (codes "strict") inner || has_flag (codes "strict") top)
  pub root : option_map string_bytes job.root ≡ option_or (first_of (codes "root") inner) (first_of (codes "root") top)
  pub color : option_map string_bytes job.color ≡ option_or (first_of (codes "color") inner) (first_of (codes "color") top)
  pub text : job.text ≡ (is_some (text_taker name inner) && has_flag (codes "text") inner)
  pub misfit : option_map (λ t. t.now) job.misfit ≡ unwrap_or (text_taker name inner) None
  pub reload : job.reload ≡ has_flag (codes "reload") inner
  pub task : IsTask name inner job.task

-- the job of a command's own matches and of its subcommand's
abbrev pub IsJobOf : List Row → Option (Text × List Row) → Job → Type 0
IsJobOf top None job = ⊥
IsJobOf top (Some p) job = IsJob top p.0 p.1 job

-- ---- what is found of words that the command takes
-- the argument has a value
abbrev pub HasValue : Text → List Row → Type 0
HasValue id rows = is_some (first_of id rows) ≡ true

-- the text writes a number of 64 bits
abbrev pub IsNumber : Text → Type 0
IsNumber text = IsNumeral 10 (without_leading_plus text) × (digits_value 10 (without_leading_plus text) < 2 ^ 64)

-- an argument takes a number
abbrev pub takes_number : Option ValueParser → Bool
takes_number (Some (vp.Unsigned low high)) = true
takes_number parser = false

-- nothing is asked if that isn't so
abbrev pub IfSo : Bool → Type 0 → Type 0
IfSo true P = P
IfSo false P = Unit {0}

-- each argument that the command needs has a value, and each that takes a number is one if it is given
abbrev pub AreGiven : List Rule → List Row → Type 0
AreGiven [] inner = Unit {0}
AreGiven (a ∷ more) inner = IfSo a.required (HasValue a.id inner) × IfSo (takes_number a.parser) (IfSome (one_of a.id inner) IsNumber) × AreGiven more inner

-- it is one of these commands, with each argument that this one needs
abbrev pub IsOneOf : List Shape → Text → List Row → Type 0
IsOneOf [] name inner = ⊥
IsOneOf (s ∷ more) name inner = ((name ≡ s.name) × AreGiven s.rules inner) ⊎ IsOneOf more name inner

-- it is one of the program's commands
abbrev pub IsCommand : Text → List Row → Type 0
IsCommand name inner = IsOneOf hwdb_app.subs name inner
