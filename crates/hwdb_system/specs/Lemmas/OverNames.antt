-- No folder of text files, and no file in one, has the database's path: another database in its place changes nothing there.
use Rattle.std.proofs.Common.{◌≡◌, ◌≢◌, ◌∙◌, ◌++◌, ◌∷◌, ap, sym, refl, true, false, true≢false, if◌then◌else◌, ◌||◌, List, ℕ, Bool, [], Option, Some, None, codes}
use Rattle.std.specs.Prelude.{is_some, option_map}
use Rattle.std.specs.Str.{bytes_eq}
use Rattle.std.proofs.lemmas.Slice.Eq.{bytes_eq-Decides}
use Rattle.std.proofs.lemmas.List.{append_assoc, append_cancel_left}
use Rattle.std.proofs.lemmas.List.Elements.{All-weaker}
use Rattle.hwdb_spec_commands.specs.Asked.{database_path}
use Rattle.hwdb_spec.specs.Folders.{counts}
use Rattle.hwdb_spec_commands.specs.Ignored.{AreIgnoredIn, IsIgnoredIn, text_folder}
use Rattle.hwdb_spec.specs.Lines.{has, is as is_byte}
use Rattle.hwdb_spec_commands.specs.OverText.{with_database}
use Rattle.hwdb_spec_commands.specs.Reading.{IsFolderAt}
use Rattle.hwdb_spec_commands.specs.RulePaths.{rules_folder}
use Rattle.hwdb_rulefiles.specs.declared.choice.Folder.{Folder}
use Rattle.hwdb_rulefiles.specs.declared.choice.Folder.TheVariants.{Etc, Local, Run, Usr}
use Rattle.hwdb_spec.specs.Store.{Contents, Stored, database_file, database_name, path_in}
use Rattle.hwdb_spec.specs.System.{AreNamesIn, IsNameIn, bytes_at}

-- what comes after the root in the database's path
abbrev after_root : List ℕ
after_root = codes "/etc/udev/hwdb.bin"

same_bool : (x y : Bool) → (x ≡ true → y ≡ true) → (y ≡ true → x ≡ true) → x ≡ y
same_bool true true f g = refl
same_bool true false f g = sym (f refl)
same_bool false true f g = g refl
same_bool false false f g = refl

path_is : (root : List ℕ) → root ++ after_root ≡ database_path false root
path_is root = sym (append_assoc root (codes "/etc/udev") (codes "/hwdb.bin"))

pub rest_is : (root path rest : List ℕ) → path ≡ root ++ rest → bytes_eq rest after_root ≡ bytes_eq path (database_path false root)
rest_is root path rest is = same_bool (bytes_eq rest after_root) (bytes_eq path (database_path false root))
    (λ e. (bytes_eq-Decides path (database_path false root)).1 (is ∙ ap (λ r. root ++ r) ((bytes_eq-Decides rest after_root).0 e) ∙ path_is root))
    (λ e. (bytes_eq-Decides rest after_root).1 (append_cancel_left root rest after_root (sym is ∙ (bytes_eq-Decides path (database_path false root)).0 e ∙ sym (path_is root))))

pub rest_is_none : (root path : List ℕ) → ((rest : List ℕ) → path ≢ root ++ rest) → bytes_eq path (database_path false root) ≡ false
rest_is_none root path none = go (bytes_eq path (database_path false root)) refl
  where
    go : (b : Bool) → bytes_eq path (database_path false root) ≡ b → b ≡ false
    go true e = absurd (none after_root ((bytes_eq-Decides path (database_path false root)).0 e ∙ sym (path_is root)))
    go false e = refl

-- ---- no text file has the database's path
-- a slash is in a text
has_later : (xs ys : List ℕ) → has 47 (xs ++ 47 ∷ ys) ≡ true
has_later [] ys = refl
has_later (x ∷ xs) ys = or_right (is_byte 47 x) (has 47 (xs ++ 47 ∷ ys)) (has_later xs ys)
  where
    or_right : (a b : Bool) → b ≡ true → (a || b) ≡ true
    or_right true b e = refl
    or_right false b e = e

first_of : List ℕ → ℕ
first_of [] = 0
first_of (x ∷ xs) = x

rest_of : List ℕ → List ℕ
rest_of [] = []
rest_of (x ∷ xs) = xs

-- what is after the last slash
last_name : (xs ys m n : List ℕ) → has 47 m ≡ false → has 47 n ≡ false → xs ++ 47 ∷ m ≡ ys ++ 47 ∷ n → m ≡ n
unfolding first_of rest_of
last_name [] [] m n plain plain2 e = ap rest_of e
last_name [] (y ∷ ys) m n plain plain2 e = absurd (true≢false (sym (has_later ys n) ∙ ap (has 47) (sym (ap rest_of e)) ∙ plain))
last_name (x ∷ xs) [] m n plain plain2 e = absurd (true≢false (sym (has_later xs m) ∙ ap (has 47) (ap rest_of e) ∙ plain2))
last_name (x ∷ xs) (y ∷ ys) m n plain plain2 e = last_name xs ys m n plain plain2 (ap rest_of e)

-- what is before the last slash
last_folder : (xs ys m n : List ℕ) → has 47 m ≡ false → has 47 n ≡ false → xs ++ 47 ∷ m ≡ ys ++ 47 ∷ n → xs ≡ ys
unfolding first_of rest_of
last_folder [] [] m n plain plain2 e = refl
last_folder [] (y ∷ ys) m n plain plain2 e = absurd (true≢false (sym (has_later ys n) ∙ ap (has 47) (sym (ap rest_of e)) ∙ plain))
last_folder (x ∷ xs) [] m n plain plain2 e = absurd (true≢false (sym (has_later xs m) ∙ ap (has 47) (ap rest_of e) ∙ plain2))
last_folder (x ∷ xs) (y ∷ ys) m n plain plain2 e = ap (λ h. h ∷ xs) (ap first_of e) ∙ ap (λ (l : List ℕ). y ∷ l) (last_folder xs ys m n plain plain2 (ap rest_of e))

-- a folder of text files has this name, `hwdb.d`
named_folder : (usr : Bool) (root : List ℕ) → (above : List ℕ) × (text_folder usr root ≡ above ++ 47 ∷ codes "hwdb.d")
named_folder true root = (root ++ codes "/usr/lib/udev", sym (append_assoc root (codes "/usr/lib/udev") (codes "/hwdb.d")))
named_folder false root = (root ++ codes "/etc/udev", sym (append_assoc root (codes "/etc/udev") (codes "/hwdb.d")))

-- and one of rules files this one, `rules.d`
named_rules : (root : List ℕ) (f : Folder) → (above : List ℕ) × (rules_folder root f ≡ above ++ 47 ∷ codes "rules.d")
named_rules root Etc = (root ++ codes "/etc/udev", sym (append_assoc root (codes "/etc/udev") (codes "/rules.d")))
named_rules root Run = (root ++ codes "/run/udev", sym (append_assoc root (codes "/run/udev") (codes "/rules.d")))
named_rules root Local = (root ++ codes "/usr/local/lib/udev", sym (append_assoc root (codes "/usr/local/lib/udev") (codes "/rules.d")))
named_rules root Usr = (root ++ codes "/usr/lib/udev", sym (append_assoc root (codes "/usr/lib/udev") (codes "/rules.d")))

module _ (root made : List ℕ) (files : Contents) where
  abbrev pub shown : Contents
  shown p = with_database root made files p

  abbrev pub is_database : List ℕ → Bool
  is_database path = bytes_eq path (database_path false root)

  pub there_at : (path : List ℕ) → is_database path ≡ true → bytes_at shown path ≡ Some made
  unfolding with_database
  there_at path here = ap (λ (b : Bool). option_map (λ (f : Stored). f.bytes) (if b then Some (database_file made) else files path)) here

  pub same_at : (path : List ℕ) → is_database path ≡ false → bytes_at shown path ≡ bytes_at files path
  unfolding with_database
  same_at path other = ap (λ (b : Bool). option_map (λ (f : Stored). f.bytes) (if b then Some (database_file made) else files path)) other

  name_apart : (folder name : List ℕ) → counts name ≡ true → has 47 name ≡ false → is_database (path_in folder name) ≡ false
  name_apart folder name counted plain = go (is_database (path_in folder name)) refl
    where
      go : (b : Bool) → is_database (path_in folder name) ≡ b → b ≡ false
      go false e = refl
      go true e =
          let one : path_in folder name ≡ database_path false root = (bytes_eq-Decides (path_in folder name) (database_path false root)).0 e in
          let named : name ≡ database_name = last_name folder (root ++ codes "/etc/udev") name database_name plain refl one in
          absurd (true≢false (sym counted ∙ ap counts named))

  name_over : (folder name : List ℕ) → IsNameIn folder files name → IsNameIn folder shown name
  name_over folder name n = record {
    counts = n.counts;
    plain = n.plain;
    there = ap is_some (same_at (path_in folder name) (name_apart folder name n.counts n.plain)) ∙ n.there;
  }

  name_under : (folder name : List ℕ) → IsNameIn folder shown name → IsNameIn folder files name
  name_under folder name n = record {
    counts = n.counts;
    plain = n.plain;
    there = ap is_some (sym (same_at (path_in folder name) (name_apart folder name n.counts n.plain))) ∙ n.there;
  }

  -- the names of a folder are the same
  pub names_over : (folder : List ℕ) (names : List (List ℕ)) → AreNamesIn folder files names → AreNamesIn folder shown names
  names_over folder names are = record {
    each = All-weaker (IsNameIn folder files) (IsNameIn folder shown) (name_over folder) names are.each;
    all = λ name n. are.all name (name_under folder name n);
  }

  -- a folder of text files isn't the database's path
  pub text_folder_apart : (usr : Bool) (below : List ℕ) → is_database (text_folder usr below) ≡ false
  text_folder_apart usr below = go (is_database (text_folder usr below)) refl
    where
      go : (b : Bool) → is_database (text_folder usr below) ≡ b → b ≡ false
      go false e = refl
      go true e =
          let one : text_folder usr below ≡ database_path false root = (bytes_eq-Decides (text_folder usr below) (database_path false root)).0 e in
          let folder = named_folder usr below in
          let named : codes "hwdb.d" ≡ database_name = last_name folder.0 (root ++ codes "/etc/udev") (codes "hwdb.d") database_name refl refl (sym folder.1 ∙ one) in
          absurd (true≢false (sym (ap (has 105) named)))

  -- nor is the path of anything in it
  ignored_apart : (usr : Bool) (below name : List ℕ) → has 47 name ≡ false → is_database (path_in (text_folder usr below) name) ≡ false
  ignored_apart usr below name plain = go (is_database (path_in (text_folder usr below) name)) refl
    where
      go : (b : Bool) → is_database (path_in (text_folder usr below) name) ≡ b → b ≡ false
      go false e = refl
      go true e =
          let path = path_in (text_folder usr below) name in
          let one : path ≡ database_path false root = (bytes_eq-Decides path (database_path false root)).0 e in
          let above : text_folder usr below ≡ root ++ codes "/etc/udev" = last_folder (text_folder usr below) (root ++ codes "/etc/udev") name database_name plain refl one in
          let folder = named_folder usr below in
          let named : codes "hwdb.d" ≡ codes "udev" =
          last_name folder.0 (root ++ codes "/etc") (codes "hwdb.d") (codes "udev") refl refl (sym folder.1 ∙ above ∙ sym (append_assoc root (codes "/etc") (codes "/udev"))) in
          absurd (true≢false (ap (has 46) named))

  -- neither is a folder of rules files, nor the path of anything in it
  pub rules_folder_apart : (below : List ℕ) (f : Folder) → is_database (rules_folder below f) ≡ false
  rules_folder_apart below f = go (is_database (rules_folder below f)) refl
    where
      go : (b : Bool) → is_database (rules_folder below f) ≡ b → b ≡ false
      go false e = refl
      go true e =
          let one : rules_folder below f ≡ database_path false root = (bytes_eq-Decides (rules_folder below f) (database_path false root)).0 e in
          let folder = named_rules below f in
          let named : codes "rules.d" ≡ database_name = last_name folder.0 (root ++ codes "/etc/udev") (codes "rules.d") database_name refl refl (sym folder.1 ∙ one) in
          absurd (true≢false (sym (ap (has 98) named)))

  rules_apart : (below : List ℕ) (f : Folder) (name : List ℕ) → has 47 name ≡ false → is_database (path_in (rules_folder below f) name) ≡ false
  rules_apart below f name plain = go (is_database (path_in (rules_folder below f) name)) refl
    where
      go : (b : Bool) → is_database (path_in (rules_folder below f) name) ≡ b → b ≡ false
      go false e = refl
      go true e =
          let path = path_in (rules_folder below f) name in
          let one : path ≡ database_path false root = (bytes_eq-Decides path (database_path false root)).0 e in
          let above : rules_folder below f ≡ root ++ codes "/etc/udev" = last_folder (rules_folder below f) (root ++ codes "/etc/udev") name database_name plain refl one in
          let folder = named_rules below f in
          let named : codes "rules.d" ≡ codes "udev" =
          last_name folder.0 (root ++ codes "/etc") (codes "rules.d") (codes "udev") refl refl (sym folder.1 ∙ above ∙ sym (append_assoc root (codes "/etc") (codes "/udev"))) in
          absurd (true≢false (ap (has 46) named))

  -- what is in them is the same
  pub rules_over : (below : List ℕ) (f : Folder) (names : List (List ℕ)) → AreIgnoredIn (rules_folder below f) files names → AreIgnoredIn (rules_folder below f) shown names
  rules_over below f names are =
      let folder = rules_folder below f in
      let same : (name : List ℕ) → has 47 name ≡ false → bytes_at shown (path_in folder name) ≡ bytes_at files (path_in folder name) =
      λ name plain. same_at (path_in folder name) (rules_apart below f name plain) in
      record {
        each = All-weaker (IsIgnoredIn folder files) (IsIgnoredIn folder shown) (λ name n. record { ignored = n.ignored; plain = n.plain; there = ap is_some (same name n.plain) ∙ n.there }) names are.each;
        all = λ name n. are.all name record { ignored = n.ignored; plain = n.plain; there = ap is_some (sym (same name n.plain)) ∙ n.there };
      }

  -- the ignored files are the same
  pub ignored_over : (usr : Bool) (below : List ℕ) (names : List (List ℕ)) → AreIgnoredIn (text_folder usr below) files names → AreIgnoredIn (text_folder usr below) shown names
  ignored_over usr below names are =
      let folder = text_folder usr below in
      let same : (name : List ℕ) → has 47 name ≡ false → bytes_at shown (path_in folder name) ≡ bytes_at files (path_in folder name) =
      λ name plain. same_at (path_in folder name) (ignored_apart usr below name plain) in
      record {
        each = All-weaker (IsIgnoredIn folder files) (IsIgnoredIn folder shown) (λ name n. record { ignored = n.ignored; plain = n.plain; there = ap is_some (same name n.plain) ∙ n.there }) names are.each;
        all = λ name n. are.all name record { ignored = n.ignored; plain = n.plain; there = ap is_some (sym (same name n.plain)) ∙ n.there };
      }

  pub folder_over : (path : List ℕ) (found : Option (List (List ℕ))) → is_database path ≡ false → IsFolderAt path files found → IsFolderAt path shown found
  folder_over path None other at = ap is_some (same_at path other) ∙ at
  folder_over path (Some names) other at = (ap is_some (same_at path other) ∙ at.0, names_over path names at.1)
