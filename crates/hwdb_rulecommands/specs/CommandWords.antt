-- How udev cuts a builtin's command into words, after `udev_builtin_run` of udev-builtin.c and `extract_first_word` of extract-word.c with
-- its flags UNQUOTE, RELAX and RETAIN_ESCAPE (systemd 257).
use Rattle.std.specs.Prelude.{List, [], ◌∷◌, ◌++◌, Bool, true, if◌then◌else◌, ℕ, ◌==◌}
use Rattle.hwdb_spec.specs.Lines.{byte}

-- a space, a tab, a newline or a carriage return, which parts words
abbrev pub is_gap : ℕ → Bool
is_gap b = if b == byte " " then true else (if b == byte "\t" then true else (if b == byte "\n" then true else b == byte "\r"))

-- a quote of one of the two kinds
abbrev pub is_quote : ℕ → Bool
is_quote b = if b == byte "'" then true else b == byte "\""

-- What is read so far: nothing of a word, a word's bytes, or those of a word within quotes of this kind.
pub data Reading : Type 0 where
  Between : Reading
  Word : List ℕ → Reading
  Quoted : (quote : ℕ) → List ℕ → Reading

-- a word with a byte that parts no words: a quote is taken away, and a backslash is as it is
abbrev pub taken : (word : List ℕ) → ℕ → Reading
taken word b = if is_quote b then Quoted b word else Word (word ++ (b ∷ []))

-- what is read after one more byte
abbrev pub after : Reading → ℕ → Reading
after Between b = if is_gap b then Between else taken [] b
after (Word word) b = if is_gap b then Between else taken word b
after (Quoted quote word) b = if b == quote then Word word else Quoted quote (word ++ (b ∷ []))

-- the word that a byte ends
abbrev pub ended : Reading → ℕ → List (List ℕ)
ended Between b = []
ended (Word word) b = if is_gap b then word ∷ [] else []
ended (Quoted quote word) b = []

-- the word that the end of the command ends; a quote without its end takes the rest
abbrev pub last : Reading → List (List ℕ)
last Between = []
last (Word word) = word ∷ []
last (Quoted quote word) = word ∷ []

-- the words of what is read so far and of the rest
abbrev pub words_from : Reading → List ℕ → List (List ℕ)
words_from reading [] = last reading
words_from reading (b ∷ rest) = ended reading b ++ words_from (after reading b) rest

-- the words of a command
abbrev pub words : List ℕ → List (List ℕ)
words command = words_from Between command
