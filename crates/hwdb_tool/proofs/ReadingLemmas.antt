-- A folder's listing, in whatever order.
use Rattle.std.proofs.Common.{◌≡◌, ℕ, zero, suc, ◌<◌, Bool, true, false, List, [], ◌∷◌, refl, ap, ◌∙◌, sym, cond, ◌||◌, inl, inr, length, map, arith, Contains, Option, Some}
use Rattle.std.proofs.Math.Path.{fun_ext}
use Rattle.std.proofs.lemmas.Bool.{cases_Bool}
use Rattle.std.proofs.lemmas.List.Elements.{All-contains}
use Rattle.std.specs.Prelude.{count_by, ◌+◌, if◌then◌else◌}
use Rattle.std.specs.Option.{option_map_or}
use Rattle.std.specs.Ordering.{is_lt}
use Rattle.hwdb_spec.specs.Assignment.{text_cmp}
use Rattle.hwdb_spec.specs.Folders.{Source, Choice, choice, counts, first_of, lists, names, same}
use Rattle.hwdb_spec.specs.Store.{Contents, path_in}
use Rattle.hwdb_spec.specs.System.{AreFilesIn, AreNamesIn, IsNameIn, bytes_at, etc_files, usr_files}
use Rattle.hwdb_text.specs.Laws.{NamesAreThoseThatCount, NamesAscend, OneAscendingList}
use Rattle.hwdb_tool.specs.Laws.{IsOneReading}
use Rattle.hwdb_spec.specs.Lemmas.Orders.{same_itself, same_text}
use Rattle.hwdb_spec.specs.Lemmas.Truth.{or_right}

contains_more : {X : Type 0} (x n : X) (xs : List X) → Contains xs n → Contains (x ∷ xs) n
contains_more x n xs h = (suc h.0, (let l : h.0 < length xs = h.1 in omega arith), h.2)

contains_of : (n : List ℕ) (xs : List (List ℕ)) → lists n xs ≡ true → Contains xs n
contains_of n [] e = cc
contains_of n (x ∷ xs) e = elim (cases_Bool (same x n)) [
  | inl s ↦ (0, omega arith, same_text x n s)
  | inr s ↦ contains_more x n xs (contains_of n xs (ap (λ (b : Bool). b || lists n xs) (sym s) ∙ e))
]

pub listed_of : (n : List ℕ) (xs : List (List ℕ)) → Contains xs n → lists n xs ≡ true
listed_of n [] (k, lt, e) = absurd (omega (arith, lt))
listed_of n (x ∷ xs) (zero, lt, e) = ap (λ (b : Bool). b || lists n xs) (ap (λ (y : List ℕ). same y n) e ∙ same_itself n)
listed_of n (x ∷ xs) (suc k, lt, e) = or_right (same x n) (lists n xs) (listed_of n xs (k, omega (arith, lt), e))

one_bool : (a b : Bool) → (a ≡ true → b ≡ true) → (b ≡ true → a ≡ true) → a ≡ b
one_bool true b f g = sym (f refl)
one_bool false true f g = g refl
one_bool false false f g = refl

-- two listings of a folder have the same names
module _ (folder : List ℕ) (files : Contents) where
  carried : (xs ys : List (List ℕ)) → AreNamesIn folder files xs → AreNamesIn folder files ys → (n : List ℕ) → lists n xs ≡ true → lists n ys ≡ true
  carried xs ys one two n is = listed_of n ys (two.all n (All-contains (IsNameIn folder files) xs n one.each (contains_of n xs is)))

  pub same_names : (xs ys : List (List ℕ)) → AreNamesIn folder files xs → AreNamesIn folder files ys → (n : List ℕ) → lists n xs ≡ lists n ys
  same_names xs ys one two n = one_bool (lists n xs) (lists n ys) (carried xs ys one two n) (carried ys xs two one n)

  -- what a folder's file with this name holds
  abbrev value : List ℕ → List ℕ
  value name = option_map_or (λ (b : List ℕ). b) (bytes_at files (path_in folder name)) []

  abbrev names_of : List Source → List (List ℕ)
  names_of xs = map (λ (s : Source). s.name) xs

  first_by : (b : Bool) (name : List ℕ) (s : Source) (more : List Source) (others : List ℕ) → same name s.name ≡ b → bytes_at files (path_in folder s.name) ≡ Some s.bytes
      → first_of name more others ≡ cond (lists name (names_of more)) (value name) others
      → cond b s.bytes (first_of name more others) ≡ cond (same s.name name || lists name (names_of more)) (value name) others
  first_by true name s more others e has rest =
      let is : name ≡ s.name = same_text name s.name e in
      sym (ap (λ (b : Bool). cond (b || lists name (names_of more)) (value name) others) (ap (λ (n : List ℕ). same n name) (sym is) ∙ same_itself name)
      ∙ ap (λ (n : List ℕ). option_map_or (λ (b : List ℕ). b) (bytes_at files (path_in folder n)) []) is
      ∙ ap (λ (o : Option (List ℕ)). option_map_or (λ (b : List ℕ). b) o []) has)
  first_by false name s more others e has rest =
      rest ∙ sym (ap (λ (b : Bool). cond (b || lists name (names_of more)) (value name) others)
      (one_bool (same s.name name) false (λ t. sym e ∙ ap (λ (n : List ℕ). same name n) (same_text s.name name t) ∙ same_itself name) (λ t. cc)))

  pub first_is : (name : List ℕ) (xs : List Source) (others : List ℕ) → ((s : Source) → Contains xs s → bytes_at files (path_in folder s.name) ≡ Some s.bytes)
      → first_of name xs others ≡ cond (lists name (names_of xs)) (value name) others
  unfolding first_of
  first_is name [] others has = refl
  first_is name (s ∷ more) others has =
      first_by (same name s.name) name s more others refl (has s (0, omega arith, refl)) (first_is name more others (λ t m. has t (contains_more s t more m)))

  -- so what is found of a name doesn't depend on the listing
  pub one_first : (name : List ℕ) (xs ys : List Source) (others others2 : List ℕ) → AreFilesIn folder files xs → AreFilesIn folder files ys → others ≡ others2
      → first_of name xs others ≡ first_of name ys others2
  one_first name xs ys others others2 one two rest =
      first_is name xs others (λ s m. All-contains (λ (t : Source). bytes_at files (path_in folder t.name) ≡ Some t.bytes) xs s one.bytes m)
      ∙ ap (λ (b : Bool). cond b (value name) others) (same_names (names_of xs) (names_of ys) one.names two.names name)
      ∙ ap (λ (o : List ℕ). cond (lists name (names_of ys)) (value name) o) rest
      ∙ sym (first_is name ys others2 (λ s m. All-contains (λ (t : Source). bytes_at files (path_in folder t.name) ≡ Some t.bytes) ys s two.bytes m))

-- the choice, by the names that /etc has and by the set of all names
abbrev choices : (List ℕ → Bool) → List (List ℕ) → List Choice
choices of_etc set =
    map (λ name. record { from_etc = of_etc name; name = name; priority = 1 + count_by (λ n. is_lt (text_cmp n name)) set }) set

abbrev named : List Source → List (List ℕ)
named xs = map (λ (s : Source). s.name) xs

module _ (count : NamesAreThoseThatCount) (ascend : NamesAscend) (one : OneAscendingList) (root : List ℕ) (files : Contents) where
  -- the names alone
  module _ (etc usr etc2 usr2 : List (List ℕ))
      (in_etc : AreNamesIn (etc_files root) files etc) (in_usr : AreNamesIn (usr_files root) files usr)
      (in_etc2 : AreNamesIn (etc_files root) files etc2) (in_usr2 : AreNamesIn (usr_files root) files usr2) where
    one_set : names etc usr ≡ names etc2 usr2
    one_set = one (names etc usr) (names etc2 usr2) (ascend etc usr) (ascend etc2 usr2)
        (λ n. count etc usr n
        ∙ ap (λ (b : Bool). if counts n then (if b then true else lists n usr) else false) (same_names (etc_files root) files etc etc2 in_etc in_etc2 n)
        ∙ ap (λ (b : Bool). if counts n then (if lists n etc2 then true else b) else false) (same_names (usr_files root) files usr usr2 in_usr in_usr2 n)
        ∙ sym (count etc2 usr2 n))

    pub one_choice : choice etc usr ≡ choice etc2 usr2
    one_choice = ap (λ (f : List ℕ → Bool). choices f (names etc usr)) (fun_ext (same_names (etc_files root) files etc etc2 in_etc in_etc2))
        ∙ ap (choices (λ n. lists n etc2)) one_set

  -- the names, and what the files hold
  module _ (etc usr etc2 usr2 : List Source)
      (in_etc : AreFilesIn (etc_files root) files etc) (in_usr : AreFilesIn (usr_files root) files usr)
      (in_etc2 : AreFilesIn (etc_files root) files etc2) (in_usr2 : AreFilesIn (usr_files root) files usr2) where
    pub one_reading : IsOneReading etc usr etc2 usr2
    one_reading = record {
      named = same_names (usr_files root) files (named usr) (named usr2) in_usr.names in_usr2.names;
      chosen = one_choice (named etc) (named usr) (named etc2) (named usr2) in_etc.names in_usr.names in_etc2.names in_usr2.names;
      held = λ c. one_first (etc_files root) files c.name etc etc2 (first_of c.name usr []) (first_of c.name usr2 []) in_etc in_etc2
          (one_first (usr_files root) files c.name usr usr2 [] [] in_usr in_usr2 refl);
    }
