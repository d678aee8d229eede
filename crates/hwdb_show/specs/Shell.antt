-- What the laws say of a word of a shell: how a shell reads it (POSIX, Shell Command Language, 2.2).
use Rattle.std.specs.Prelude.{List, [], ◌∷◌, ◌++◌, ◌==◌, ◌≡◌, None, Option, Some, codes, false, if◌then◌else◌, option_map, true, ℕ}
use Rattle.std.specs.List.{list_any}
use Rattle.hwdb_spec_commands.specs.Commands.{is_bare_byte, removing_words, shell_word, update_words}
use Rattle.hwdb_spec.specs.Lines.{byte, has}

-- where a shell is in a word: outside of quotes, between single quotes, or after a `\`
pub data Place : Type 0 where
  Outside : Place
  Quoted : Place
  Escaped : Place

-- the bytes that a shell may read otherwise outside of quotes (2.2), and those that some shells do
abbrev pub special_bytes : List ℕ
special_bytes = codes "|&;<>()$`\\\"' \t\n*?[]#~!{}^"

-- what a shell reads of the rest of a word; none if it isn't whole, or has a byte that the shell may read otherwise
unfoldable pub read_from : Place → List ℕ → Option (List ℕ)
read_from Outside [] = Some []
read_from Quoted [] = None
read_from Escaped [] = None
read_from Outside (b ∷ more) =
    if b == byte "'" then read_from Quoted more
    else (if b == byte "\\" then read_from Escaped more
    else (if has b special_bytes then None else option_map (λ text. b ∷ text) (read_from Outside more)))
read_from Quoted (b ∷ more) =
    if b == byte "'" then read_from Outside more else option_map (λ text. b ∷ text) (read_from Quoted more)
read_from Escaped (b ∷ more) = option_map (λ text. b ∷ text) (read_from Outside more)

-- a shell reads the text itself
abbrev pub WordsAreRead : Type 0
WordsAreRead = (text : List ℕ) → read_from Outside (shell_word text) ≡ Some text

-- words that stand for themselves, and words in quotes
pub record WordRows : Type 0 where
  pub specials : list_any is_bare_byte special_bytes ≡ false
  pub bare : shell_word (codes "/srv/a-Z_0@x%+=:,.9") ≡ codes "/srv/a-Z_0@x%+=:,.9"
  pub none : shell_word [] ≡ codes "''"
  pub space : shell_word (codes "/a b") ≡ codes "'/a b'"
  pub quote : shell_word (codes "it's") ≡ codes "'it'\\''s'"
  pub quotes : shell_word (codes "''") ≡ codes "''\\'''\\'''"
  pub dollar : shell_word (codes "$(x)\"`\\") ≡ codes "'$(x)\"`\\'"
  pub newline : shell_word (codes "a\n") ≡ codes "'a\n'"
  pub other : shell_word (200 ∷ []) ≡ codes "'" ++ 200 ∷ codes "'"
  pub update : update_words true (codes "/a b") ≡ codes "hwdb update --usr --root='/a b'"
  pub remove : removing_words (codes "-x") ≡ codes "rm ./-x/etc/udev/hwdb.bin"
  pub removed : removing_words (codes "/a'") ≡ codes "rm '/a'\\''/etc/udev/hwdb.bin'"
