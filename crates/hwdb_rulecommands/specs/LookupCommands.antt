-- What a command of the builtin hwdb asks, after `udev_builtin_hwdb` of udev-builtin-hwdb.c (systemd 257) and getopt_long(3). That only some
-- of its options are followed is our choice.
use Rattle.std.specs.Prelude.{List, [], ◌∷◌, Bool, false, if◌then◌else◌, ℕ, nat_eq, drop, length, codes, Option, Some, None}
use Rattle.std.specs.List.{starts_with}
use Rattle.std.specs.Str.{bytes_eq}
use Rattle.hwdb_spec.specs.Lines.{byte, begins_with}

-- What is asked: the string of prefix and text if there is a text, else those of the device and its parents in the subsystem.
pub record Lookup : Type 0 where
  pub subsystem : Option (List ℕ)
  pub prefix : List ℕ
  pub text : Option (List ℕ)

-- nothing is said yet
abbrev pub nothing : Lookup
nothing = record { subsystem = None; prefix = []; text = None }

abbrev pub subsystem_option : List ℕ
subsystem_option = codes "--subsystem="

abbrev pub prefix_option : List ℕ
prefix_option = codes "--lookup-prefix="

-- a word that begins with a dash; a dash alone is no option
abbrev pub is_option : List ℕ → Bool
is_option word = if bytes_eq word (codes "-") then false else begins_with (byte "-") word

-- the first text counts
abbrev pub first_text : Option (List ℕ) → List ℕ → Option (List ℕ)
first_text None word = Some word
first_text (Some text) word = Some text

-- a later subsystem counts
abbrev pub with_subsystem : Lookup → List ℕ → Lookup
with_subsystem l value = record { subsystem = Some value; prefix = l.prefix; text = l.text }

-- a later prefix counts
abbrev pub with_prefix : Lookup → List ℕ → Lookup
with_prefix l value = record { subsystem = l.subsystem; prefix = value; text = l.text }

abbrev pub with_text : Lookup → List ℕ → Lookup
with_text l word = record { subsystem = l.subsystem; prefix = l.prefix; text = first_text l.text word }

-- what is asked with one more word that gives no subsystem; nothing if it is an option that isn't followed
abbrev pub with_other : Lookup → List ℕ → Option Lookup
with_other l word =
    if starts_with nat_eq word prefix_option then Some (with_prefix l (drop (length prefix_option) word))
    else (if is_option word then None else Some (with_text l word))

-- what is asked with one more word
abbrev pub with_word : Lookup → List ℕ → Option Lookup
with_word l word =
    if starts_with nat_eq word subsystem_option then Some (with_subsystem l (drop (length subsystem_option) word)) else with_other l word

-- what is asked with more words; getopt_long permutes, so options count after texts as well
abbrev pub with_words : Option Lookup → List (List ℕ) → Option Lookup
with_words None words = None
with_words (Some l) [] = Some l
with_words (Some l) (word ∷ more) = with_words (with_word l word) more

-- what the words after the builtin's name ask; nothing if one of them isn't followed
abbrev pub lookup_of : List (List ℕ) → Option Lookup
lookup_of words = with_words (Some nothing) words
