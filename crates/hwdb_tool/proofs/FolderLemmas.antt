-- The files of two folders, and those that were read of them.
use Rattle.std.proofs.Common.{◌≡◌, ◌∙◌, ap, sym, refl, subst, ℕ, zero, suc, ◌≤◌, true, false, Bool, List, [], ◌∷◌, ◌++◌, map, length, get_or, arith, append_assoc, Option, Some, None, if◌then◌else◌, All}
use Rattle.std.specs.Prelude.{Contains, codes, drop, is_some}
use Rattle.std.specs.Option.{option_map_or}
use Rattle.std.proofs.lemmas.Bool.{or_parts}
use Rattle.std.proofs.lemmas.List.{length-map}
use Rattle.std.proofs.lemmas.List.Elements.{All-nil, All-cons, All-head, All-tail, All-map}
use Rattle.hwdb_spec.specs.Folders.{Choice, Source, same, lists, names, choice, chosen_of, contents, first_of, path_of, max_files}
use Rattle.hwdb_spec.specs.Store.{Contents, path_in}
use Rattle.hwdb_spec.specs.System.{bytes_at, AreNamesIn, AreFilesIn, etc_files, usr_files}
use Rattle.hwdb_spec.specs.Selected.{IsListed, AreSelected, AreTexts}
use Rattle.hwdb_text.specs.declared.choice.ChosenFile.{ChosenFile}
use Rattle.hwdb_compile.specs.Views.{AreChosenOf}
use Rattle.hwdb_text.specs.Views.{bytes_in, choice_in}
use Rattle.hwdb_tool.specs.Internal.{AreReadOf}
use Rattle.hwdb_spec_commands.specs.Reading.{IsText}
use Rattle.hwdb_spec.specs.Texts.{max_file}
use Rattle.hwdb_spec_commands.specs.Readable.{AreAllRead}
use Rattle.hwdb_spec.specs.Lemmas.Orders.{same_itself, same_text}

-- what an option holds, or nothing
abbrev pub value : Option (List ℕ) → List ℕ
value o = option_map_or (λ b. b) o []

some_value : (o : Option (List ℕ)) → is_some o ≡ true → o ≡ Some (value o)
some_value None e = absurd (cc)
some_value (Some b) e = refl

-- the file with a name in a folder
abbrev pub source_at : (folder : List ℕ) → Contents → (name : List ℕ) → Source
source_at folder seen name = record { name = name; bytes = value (bytes_at seen (path_in folder name)) }

abbrev pub files_at : (folder : List ℕ) → Contents → (listed : List (List ℕ)) → List Source
files_at folder seen listed = map (source_at folder seen) listed

pub names_back : (folder : List ℕ) (seen : Contents) (listed : List (List ℕ)) → map (λ (s : Source). s.name) (files_at folder seen listed) ≡ listed
names_back folder seen [] = refl
names_back folder seen (n ∷ listed) = ap (λ l. n ∷ l) (names_back folder seen listed)

-- they are the folder's files
pub are_files : (folder : List ℕ) (seen : Contents) (listed : List (List ℕ)) → AreNamesIn folder seen listed → AreFilesIn folder seen (files_at folder seen listed)
are_files folder seen listed are = record {
  names = subst (AreNamesIn folder seen) (sym (names_back folder seen listed)) are;
  bytes = All-map (λ (s : Source). bytes_at seen (path_in folder s.name) ≡ Some s.bytes) (source_at folder seen) listed
      (λ k d lt. some_value _ (are.each k d lt).there);
}

in_rest : (n name : List ℕ) (listed : List (List ℕ)) → same name n ≡ false → Contains (n ∷ listed) name → Contains listed name
in_rest n name listed e (zero, lt, is) = absurd (let h : same name n ≡ true = ap (same name) is ∙ same_itself name in cc)
in_rest n name listed e (suc k, lt, is) = (k, omega (arith, lt), is)

-- the first of the files that has a listed name is the one with that name
first_at : (folder : List ℕ) (seen : Contents) (name others : List ℕ) (listed : List (List ℕ)) → Contains listed name
    → first_of name (files_at folder seen listed) others ≡ value (bytes_at seen (path_in folder name))
unfolding first_of
first_at folder seen name others [] has = absurd (let h = has.1 in omega (arith, h))
first_at folder seen name others (n ∷ listed) has =
    elim (same name n) as (λ b. same name n ≡ b → (if b then value (bytes_at seen (path_in folder n)) else first_of name (files_at folder seen listed) others) ≡ value (bytes_at seen (path_in folder name))) [
      | true ↦ λ e. ap (λ m. value (bytes_at seen (path_in folder m))) (sym (same_text name n e))
      | false ↦ λ e. first_at folder seen name others listed (in_rest n name listed e has)
    ] refl

-- a name that isn't listed has no file
first_not : (folder : List ℕ) (seen : Contents) (name others : List ℕ) (listed : List (List ℕ)) → lists name listed ≡ false
    → first_of name (files_at folder seen listed) others ≡ others
unfolding first_of
first_not folder seen name others [] none = refl
first_not folder seen name others (n ∷ listed) none =
    let parts = or_parts (same n name) (lists name listed) none in
    elim (same name n) as (λ b. same name n ≡ b → (if b then value (bytes_at seen (path_in folder n)) else first_of name (files_at folder seen listed) others) ≡ others) [
      | true ↦ λ e. absurd (let h : same n name ≡ true = ap (λ m. same m name) (sym (same_text name n e)) ∙ same_itself name in let k = parts.0 in cc)
      | false ↦ λ e. first_not folder seen name others listed parts.1
    ] refl

-- ---- what was read of a chosen file
-- where it is taken from
pub held_at : (root : List ℕ) (seen : Contents) (etc usr : List (List ℕ)) (from_etc : Bool) (name bytes : List ℕ)
    → Contains (if from_etc then etc else usr) name → from_etc ≡ lists name etc
    → Some bytes ≡ bytes_at seen (root ++ ((if from_etc then codes "/etc/udev/hwdb.d/" else codes "/usr/lib/udev/hwdb.d/") ++ name))
    → bytes ≡ first_of name (files_at (etc_files root) seen etc) (first_of name (files_at (usr_files root) seen usr) [])
held_at root seen etc usr true name bytes has from read =
    ap value (read ∙ ap (bytes_at seen) (sym (append_assoc root (codes "/etc/udev/hwdb.d") (47 ∷ name)))) ∙ sym (first_at (etc_files root) seen name _ etc has)
held_at root seen etc usr false name bytes has from read =
    ap value (read ∙ ap (bytes_at seen) (sym (append_assoc root (codes "/usr/lib/udev/hwdb.d") (47 ∷ name))))
    ∙ sym (first_at (usr_files root) seen name [] usr has) ∙ sym (first_not (etc_files root) seen name _ etc (sym from))

-- the folder is the one that has the name
abbrev pub IsFrom : (etc : List (List ℕ)) → Choice → Type 0
IsFrom etc c = c.from_etc ≡ lists c.name etc

all_held : (root : List ℕ) (seen : Contents) (etc usr : List (List ℕ)) (files : List ChosenFile)
    → map Some (map bytes_in files) ≡ map (λ c. bytes_at seen (root ++ path_of c)) (map choice_in files)
    → All (IsListed etc usr) (map choice_in files) → All (IsFrom etc) (map choice_in files)
    → All (λ f. bytes_in f ≡ contents (files_at (etc_files root) seen etc) (files_at (usr_files root) seen usr) (choice_in f)) files
all_held root seen etc usr [] read listed from = All-nil (λ f. bytes_in f ≡ contents (files_at (etc_files root) seen etc) (files_at (usr_files root) seen usr) (choice_in f))
all_held root seen etc usr (f ∷ files) read listed from =
    All-cons (λ f. bytes_in f ≡ contents (files_at (etc_files root) seen etc) (files_at (usr_files root) seen usr) (choice_in f)) f files
    (held_at root seen etc usr (choice_in f).from_etc (choice_in f).name (bytes_in f)
    (All-head (IsListed etc usr) (choice_in f) (map choice_in files) listed) (All-head (IsFrom etc) (choice_in f) (map choice_in files) from)
    (ap (λ l. get_or l 0 None) read))
    (all_held root seen etc usr files (ap (drop 1) read) (All-tail (IsListed etc usr) (choice_in f) (map choice_in files) listed)
    (All-tail (IsFrom etc) (choice_in f) (map choice_in files) from))

pub all_from : (etc usr : List (List ℕ)) → All (IsFrom etc) (choice etc usr)
all_from etc usr = All-map (IsFrom etc) _ (names etc usr) (λ k d lt. refl)

-- the chosen files with what was read of them are those of the folders' files
pub are_chosen : (root : List ℕ) (seen : Contents) (etc usr : List (List ℕ)) (chosen : List Choice) (texts : List (List ℕ)) (files : List ChosenFile)
    → chosen ≡ choice etc usr → length (names etc usr) ≤ max_files → All (IsListed etc usr) chosen → AreTexts root seen chosen texts
    → map choice_in files ≡ chosen → map bytes_in files ≡ texts
    → AreChosenOf (files_at (etc_files root) seen etc) (files_at (usr_files root) seen usr) files
are_chosen root seen etc usr chosen texts files is few listed read choices bytes =
    let both : chosen_of (files_at (etc_files root) seen etc) (files_at (usr_files root) seen usr) ≡ choice etc usr =
    ap (λ l. choice l (map (λ (s : Source). s.name) (files_at (usr_files root) seen usr))) (names_back (etc_files root) seen etc) ∙ ap (choice etc) (names_back (usr_files root) seen usr) in
    record {
      few = subst (λ n. n ≤ max_files) (sym (length-map (names etc usr) _) ∙ ap length (sym both)) few;
      choices = choices ∙ is ∙ sym both;
      bytes = all_held root seen etc usr files
          (ap (map Some) bytes ∙ read ∙ ap (map (λ c. bytes_at seen (root ++ path_of c))) (sym choices))
          (subst (All (IsListed etc usr)) (sym choices) listed)
          (subst (All (IsFrom etc)) (sym (choices ∙ is)) (all_from etc usr));
    }

-- so they are those of the folders' files
pub are_read : (root : List ℕ) (seen : Contents) (usr : List (List ℕ)) (chosen : List Choice) (texts : List (List ℕ)) (files : List ChosenFile)
    → AreSelected root seen usr chosen texts → map choice_in files ≡ chosen → map bytes_in files ≡ texts → AreReadOf root seen usr files
are_read root seen usr chosen texts files s choices bytes = record {
  of_etc = files_at (etc_files root) seen s.etc;
  of_usr = files_at (usr_files root) seen usr;
  in_etc = are_files (etc_files root) seen s.etc s.in_etc;
  in_usr = are_files (usr_files root) seen usr s.in_usr;
  named = names_back (usr_files root) seen usr;
  are = are_chosen root seen s.etc usr chosen texts files s.is s.few s.listed s.read choices bytes;
}

-- each of them was read
abbrev head_of : List (Option (List ℕ)) → Option (List ℕ)
head_of [] = None
head_of (o ∷ more) = o

abbrev tail_of : List (Option (List ℕ)) → List (Option (List ℕ))
tail_of [] = []
tail_of (o ∷ more) = more

module _ (root : List ℕ) (seen : Contents) where
  abbrev IsShortText : List ℕ → Type 0
  IsShortText t = length t ≤ max_file

  abbrev IsTextOf : Choice → Type 0
  IsTextOf c = IsText seen (root ++ path_of c)

  texts_read : (texts : List (List ℕ)) (cs : List Choice) → map Some texts ≡ map (λ c. bytes_at seen (root ++ path_of c)) cs → All IsShortText texts → All IsTextOf cs
  texts_read [] [] e short = All-nil IsTextOf
  texts_read [] (c ∷ cs) e short = absurd (let n = ap length e in omega (arith, n))
  texts_read (t ∷ texts) [] e short = absurd (let n = ap length e in omega (arith, n))
  texts_read (t ∷ texts) (c ∷ cs) e short =
      All-cons IsTextOf c cs (record { bytes = t; there = sym (ap head_of e); within = All-head IsShortText t texts short })
      (texts_read texts cs (ap tail_of e) (All-tail IsShortText t texts short))

  pub all_read : (usr : List (List ℕ)) (chosen : List Choice) (texts : List (List ℕ)) → AreSelected root seen usr chosen texts → AreAllRead root seen
  all_read usr chosen texts s = record {
    etc = s.etc;
    usr = usr;
    in_etc = s.in_etc;
    in_usr = s.in_usr;
    read = subst (All IsTextOf) s.is (texts_read texts chosen s.read s.within);
  }
