-- What holds of words, lookups and names as we define them.
use Rattle.std.specs.Prelude.{List, [], ◌∷◌, ◌++◌, Bool, true, false, if◌then◌else◌, ℕ, nat_eq, not, ◌≡◌, find, Some, None}
use Rattle.std.specs.List.{list_any, starts_with}
use Rattle.hwdb_spec.specs.Lines.{byte, has, is_none}
use Rattle.hwdb_rulecommands.specs.CommandWords.{is_gap, is_quote, words}
use Rattle.hwdb_rulecommands.specs.LookupCommands.{Lookup, is_option, lookup_of, prefix_option, subsystem_option}
use Rattle.hwdb_rulecommands.specs.Builtins.{builtin_of, name_of}
use Rattle.hwdb_rulecommands.specs.Settable.{last_name}
use Rattle.hwdb_rulecommands.specs.declared.builtins.Builtin.{Builtin}

abbrev pub is_mark : ℕ → Bool
is_mark b = if is_gap b then true else is_quote b

-- a word that udev takes as it is: it isn't empty, and has neither gaps nor quotes
abbrev pub is_plain : List ℕ → Bool
is_plain word = if is_none word then false else not (list_any is_mark word)

-- the words of a command
pub record WordLaws : Type 0 where
  -- a gap before a word is none of it
  pub gap : (gap : ℕ) (rest : List ℕ) → is_gap gap ≡ true → words (gap ∷ rest) ≡ words rest
  -- a plain word before a gap
  pub plain : (word rest : List ℕ) (gap : ℕ) → is_plain word ≡ true → is_gap gap ≡ true → words (word ++ (gap ∷ rest)) ≡ word ∷ words rest
  -- a plain word at the end
  pub last : (word : List ℕ) → is_plain word ≡ true → words word ≡ word ∷ []
  -- any text within quotes of a kind that it doesn't have
  pub quoted : (quote gap : ℕ) (word rest : List ℕ) → is_quote quote ≡ true → has quote word ≡ false → is_gap gap ≡ true
      → words (quote ∷ (word ++ (quote ∷ gap ∷ rest))) ≡ word ∷ words rest

-- an option whose value is taken
abbrev pub is_followed : List ℕ → Bool
is_followed word = if starts_with nat_eq word subsystem_option then true else starts_with nat_eq word prefix_option

-- what a command of the builtin hwdb asks
pub record LookupLaws : Type 0 where
  -- the text is the first word that is no option
  pub text : (words : List (List ℕ)) (l : Lookup) → lookup_of words ≡ Some l → l.text ≡ find (λ word. not (is_option word)) words
  -- an option that isn't followed, wherever it stands
  pub unfollowed : (front more : List (List ℕ)) (word : List ℕ) → is_option word ≡ true → is_followed word ≡ false → lookup_of (front ++ (word ∷ more)) ≡ None

-- names of builtins and of programs
pub record NameLaws : Type 0 where
  -- the whole name of each builtin names it
  pub whole : (builtin : Builtin) → builtin_of (name_of builtin) ≡ Some builtin
  -- a name after any folder
  pub path : (folder name : List ℕ) → has (byte "/") name ≡ false → last_name (folder ++ (byte "/" ∷ name)) ≡ name
  -- a name without a folder
  pub bare : (name : List ℕ) → has (byte "/") name ≡ false → last_name name ≡ name
