-- The chosen files of both folders as files of each: these are chosen of them, too.
use Rattle.std.proofs.Common.{◌≡◌, ◌∷◌, ◌++◌, ◌+◌, ◌∙◌, ◌⊎◌, arith, inl, inr, ap, sym, subst, refl, List, ℕ, Bool, true, false, not, [], drop, get_or, length, map, All, None, Option, Some, zero, suc}
use Rattle.std.proofs.lemmas.Bool.{or_parts}
use Rattle.std.proofs.lemmas.List.{length-map}
use Rattle.std.proofs.lemmas.List.Elements.{All-cons, All-head, All-nil, All-tail}
use Rattle.std.specs.Option.{option_map_or}
use Rattle.std.specs.Ordering.{is_lt}
use Rattle.std.specs.Prelude.{Contains, count_by, filter, if◌then◌else◌}
use Rattle.hwdb_spec.specs.Assignment.{text_cmp}
use Rattle.hwdb_spec.specs.Folders.{Choice, Source, choice, chosen_of, contents, counts, first_of, lists, names, same}
use Rattle.hwdb_spec.specs.Lemmas.Orders.{same_itself, same_text}
use Rattle.hwdb_plan.specs.Files.{source_at}
use Rattle.hwdb_plan.specs.Sides.{is_from, taken_from}
use Rattle.hwdb_text.specs.Lemmas.Ascending.{ascending_holds, ascending_ordered, holds_ascending, one_list}
use Rattle.hwdb_text.specs.Lemmas.Members.{Holds, held, holds_it}
use Rattle.hwdb_tool.proofs.ListedLemmas.{contains_of, lists_held}

-- what a filter keeps, and of what it keeps it
kept : (p : List ℕ → Bool) (xs : List (List ℕ)) (n : List ℕ) → Holds xs n → p n ≡ true → Holds (filter p xs) n
kept p [] n h is = h
kept p (x ∷ xs) n h is = by (p x) refl h (λ more. kept p xs n more is)
  where
    by : (b : Bool) → p x ≡ b → Holds (x ∷ xs) n → (Holds xs n → Holds (filter p xs) n) → Holds (if b then x ∷ filter p xs else filter p xs) n
    by true e (inl same) rest = inl same
    by true e (inr more) rest = inr (rest more)
    by false e (inl same) rest = absurd (let one : p x ≡ true = ap p (sym same) ∙ is in cc)
    by false e (inr more) rest = rest more

keeps : (p : List ℕ → Bool) (xs : List (List ℕ)) (n : List ℕ) → Holds (filter p xs) n → Holds xs n × (p n ≡ true)
keeps p [] n h = absurd h
keeps p (x ∷ xs) n h = by (p x) refl h (keeps p xs n)
  where
    by : (b : Bool) → p x ≡ b → Holds (if b then x ∷ filter p xs else filter p xs) n → (Holds (filter p xs) n → Holds xs n × (p n ≡ true)) → Holds (x ∷ xs) n × (p n ≡ true)
    by true e (inl same) rest = (inl same, ap p same ∙ e)
    by true e (inr more) rest = let both = rest more in (inr both.0, both.1)
    by false e more rest = let both = rest more in (inr both.0, both.1)

either_holds : (xs ys : List (List ℕ)) (n : List ℕ) → Holds (xs ++ ys) n → Holds xs n ⊎ Holds ys n
either_holds [] ys n h = inr h
either_holds (x ∷ xs) ys n (inl same) = inl (inl same)
either_holds (x ∷ xs) ys n (inr more) = by (either_holds xs ys n more)
  where
    by : Holds xs n ⊎ Holds ys n → Holds (x ∷ xs) n ⊎ Holds ys n
    by (inl h) = inl (inr h)
    by (inr h) = inr h

holds_left : (xs ys : List (List ℕ)) (n : List ℕ) → Holds xs n → Holds (xs ++ ys) n
holds_left [] ys n h = absurd h
holds_left (x ∷ xs) ys n (inl same) = inl same
holds_left (x ∷ xs) ys n (inr more) = inr (holds_left xs ys n more)

holds_right : (xs ys : List (List ℕ)) (n : List ℕ) → Holds ys n → Holds (xs ++ ys) n
holds_right [] ys n h = h
holds_right (x ∷ xs) ys n h = inr (holds_right xs ys n h)

module _ (etc usr : List (List ℕ)) where
  abbrev N : List (List ℕ)
  N = names etc usr

  abbrev one : List ℕ → Choice
  one n = record { from_etc = lists n etc; name = n; priority = 1 + count_by (λ m. is_lt (text_cmp m n)) N }

  abbrev Of : Bool → List ℕ → Bool
  Of b n = is_from b (one n)

  -- the names of those of one folder
  abbrev Taken : Bool → List (List ℕ)
  Taken b = filter (Of b) N

  -- all of them are the names of both
  by_either : (n : List ℕ) (b : Bool) → lists n etc ≡ b → Holds N n → Holds (Taken true ++ Taken false) n
  by_either n true is h = holds_left (Taken true) (Taken false) n (kept (Of true) N n h is)
  by_either n false is h = holds_right (Taken true) (Taken false) n (kept (Of false) N n h (ap not is))

  from_either : (n : List ℕ) → Holds (Taken true) n ⊎ Holds (Taken false) n → Holds N n
  from_either n (inl h) = (keeps (Of true) N n h).0
  from_either n (inr h) = (keeps (Of false) N n h).0

  counted : (n : List ℕ) → Holds N n → counts n ≡ true
  counted n h = (keeps counts (etc ++ usr) n (ascending_holds (filter counts (etc ++ usr)) n h)).1

  pub same_names : names (Taken true) (Taken false) ≡ N
  same_names =
      let all = Taken true ++ Taken false in
      one_list (names (Taken true) (Taken false)) N (ascending_ordered (filter counts all)) (ascending_ordered (filter counts (etc ++ usr)))
      (λ n h. from_either n (either_holds (Taken true) (Taken false) n (keeps counts all n (ascending_holds (filter counts all) n h)).0))
      (λ n h. holds_ascending (filter counts all) n (kept counts all n (by_either n (lists n etc) refl h) (counted n h)))

  -- so each is taken from the same folder
  same_folder : (n : List ℕ) → Holds N n → lists n (Taken true) ≡ lists n etc
  same_folder n h = by (lists n etc) refl
    where
      by : (b : Bool) → lists n etc ≡ b → lists n (Taken true) ≡ lists n etc
      by true is = lists_held n (Taken true) (held (Taken true) n (kept (Of true) N n h is)) ∙ sym is
      by false is = none (lists n (Taken true)) refl ∙ sym is
        where
          none : (b : Bool) → lists n (Taken true) ≡ b → b ≡ false
          none true e = absurd (let other : lists n etc ≡ true = (keeps (Of true) N n (holds_it (Taken true) n (contains_of n (Taken true) e))).1 in cc)
          none false e = refl

  -- and the choice is one
  abbrev Folder : (n : List ℕ) (from_etc : Bool) → Choice
  Folder n from_etc = record { from_etc = from_etc; name = n; priority = 1 + count_by (λ m. is_lt (text_cmp m n)) N }

  each : (xs : List (List ℕ)) → ((n : List ℕ) → Holds xs n → Holds N n) → map (λ n. Folder n (lists n (Taken true))) xs ≡ map (λ n. Folder n (lists n etc)) xs
  each [] are = refl
  each (x ∷ xs) are =
      ap (λ (b : Bool). Folder x b ∷ map (λ n. Folder n (lists n (Taken true))) xs) (same_folder x (are x (inl refl)))
      ∙ ap (λ (l : List Choice). Folder x (lists x etc) ∷ l) (each xs (λ n h. are n (inr h)))

  abbrev from : List (List ℕ) → List Choice
  from all = map (λ name. record { from_etc = lists name (Taken true); name = name; priority = 1 + count_by (λ m. is_lt (text_cmp m name)) all }) all

  pub same_choice : choice (Taken true) (Taken false) ≡ choice etc usr
  same_choice = ap from same_names ∙ each N (λ n h. h)

-- ---- the files
-- with as many texts as there are, their names are those
names_taken : (etc usr : List (List ℕ)) (b : Bool) (xs : List (List ℕ)) (texts : List (List ℕ)) → length texts ≡ length xs
    → map (λ (s : Source). s.name) (taken_from b (map (one etc usr) xs) texts) ≡ filter (Of etc usr b) xs
unfolding taken_from
names_taken etc usr b [] texts are = refl
names_taken etc usr b (x ∷ xs) [] are = absurd (omega (arith, are))
names_taken etc usr b (x ∷ xs) (text ∷ texts) are = by (Of etc usr b x) (names_taken etc usr b xs texts (let h = are in omega (arith, h)))
  where
    by : (c : Bool) → map (λ (s : Source). s.name) (taken_from b (map (one etc usr) xs) texts) ≡ filter (Of etc usr b) xs
        → map (λ (s : Source). s.name) (if c then source_at x text ∷ taken_from b (map (one etc usr) xs) texts else taken_from b (map (one etc usr) xs) texts)
        ≡ (if c then x ∷ filter (Of etc usr b) xs else filter (Of etc usr b) xs)
    by true rest = ap (λ l. x ∷ l) rest
    by false rest = rest

-- the first with a name has what each with that name has
first_is : (has : List ℕ → List ℕ) (name others : List ℕ) (files : List Source) → All (λ (s : Source). s.bytes ≡ has s.name) files → Contains (map (λ (s : Source). s.name) files) name
    → first_of name files others ≡ has name
unfolding first_of
first_is has name others [] all (k, lt, is) = absurd (omega (arith, lt))
first_is has name others (s ∷ files) all some = by (same name s.name) refl (first_is has name others files (All-tail (λ (s : Source). s.bytes ≡ has s.name) s files all))
  where
    here : s.bytes ≡ has s.name
    here = All-head (λ (s : Source). s.bytes ≡ has s.name) s files all

    rest : Contains (s.name ∷ map (λ (s : Source). s.name) files) name → same name s.name ≡ false → Contains (map (λ (s : Source). s.name) files) name
    rest (zero, lt, is) e = absurd (let h : same name s.name ≡ true = ap (same name) is ∙ same_itself name in cc)
    rest (suc k, lt, is) e = (k, omega (arith, lt), is)

    by : (b : Bool) → same name s.name ≡ b → (Contains (map (λ (s : Source). s.name) files) name → first_of name files others ≡ has name) → (if b then s.bytes else first_of name files others) ≡ has name
    by true e more = here ∙ ap has (sym (same_text name s.name e))
    by false e more = more (rest some e)

first_other : (name others : List ℕ) (files : List Source) → lists name (map (λ (s : Source). s.name) files) ≡ false → first_of name files others ≡ others
unfolding first_of
first_other name others [] none = refl
first_other name others (s ∷ files) none = by (same name s.name) refl (first_other name others files (or_parts (same s.name name) (lists name (map (λ (s : Source). s.name) files)) none).1)
  where
    by : (b : Bool) → same name s.name ≡ b → first_of name files others ≡ others → (if b then s.bytes else first_of name files others) ≡ others
    by true e more = absurd (let h : same s.name name ≡ true = ap (λ m. same m name) (sym (same_text name s.name e)) ∙ same_itself name in let k = (or_parts (same s.name name) (lists name (map (λ (s : Source). s.name) files)) none).0 in cc)
    by false e more = more

-- what files have by their names, each of those that are taken has
taken_has : (has : List ℕ → List ℕ) (b : Bool) (xs : List Choice) (texts : List (List ℕ)) → texts ≡ map (λ (c : Choice). has c.name) xs
    → All (λ (s : Source). s.bytes ≡ has s.name) (taken_from b xs texts)
unfolding taken_from
taken_has has b [] texts are = All-nil (λ (s : Source). s.bytes ≡ has s.name)
taken_has has b (c ∷ xs) [] are = All-nil (λ (s : Source). s.bytes ≡ has s.name)
taken_has has b (c ∷ xs) (text ∷ texts) are = by (is_from b c) (taken_has has b xs texts (ap (drop 1) are))
  where
    here : text ≡ has c.name
    here = ap (λ (l : List (List ℕ)). get_or l 0 text) are

    by : (d : Bool) → All (λ (s : Source). s.bytes ≡ has s.name) (taken_from b xs texts)
        → All (λ (s : Source). s.bytes ≡ has s.name) (if d then source_at c.name text ∷ taken_from b xs texts else taken_from b xs texts)
    by true rest = All-cons (λ (s : Source). s.bytes ≡ has s.name) (source_at c.name text) (taken_from b xs texts) here rest
    by false rest = rest

module _ (etc usr : List (List ℕ)) (texts : List (List ℕ)) where
  abbrev Etc : List Source
  Etc = taken_from true (choice etc usr) texts

  abbrev Usr : List Source
  Usr = taken_from false (choice etc usr) texts

  module _ (many : length texts ≡ length (names etc usr)) where
    names_etc : map (λ (s : Source). s.name) Etc ≡ Taken etc usr true
    names_etc = names_taken etc usr true (names etc usr) texts many

    names_usr : map (λ (s : Source). s.name) Usr ≡ Taken etc usr false
    names_usr = names_taken etc usr false (names etc usr) texts many

    -- they are chosen as they were
    pub taken_chosen : chosen_of Etc Usr ≡ choice etc usr
    taken_chosen =
        ap (λ (l : List (List ℕ)). choice l (map (λ (s : Source). s.name) Usr)) names_etc ∙ ap (choice (Taken etc usr true)) names_usr ∙ same_choice etc usr

    module _ (has : List ℕ → List ℕ) (are : texts ≡ map (λ (c : Choice). has c.name) (choice etc usr)) where
      held_by : (b : Bool) (n : List ℕ) → lists n etc ≡ b → Holds (names etc usr) n → first_of n Etc (first_of n Usr []) ≡ has n
      held_by true n is h =
          first_is has n (first_of n Usr []) Etc (taken_has has true (choice etc usr) texts are)
          (subst (λ (l : List (List ℕ)). Contains l n) (sym names_etc) (held (Taken etc usr true) n (kept (Of etc usr true) (names etc usr) n h is)))
      held_by false n is h =
          first_other n (first_of n Usr []) Etc (ap (lists n) names_etc ∙ same_folder etc usr n h ∙ is)
          ∙ first_is has n [] Usr (taken_has has false (choice etc usr) texts are)
          (subst (λ (l : List (List ℕ)). Contains l n) (sym names_usr) (held (Taken etc usr false) n (kept (Of etc usr false) (names etc usr) n h (ap not is))))

      each_held : (xs : List (List ℕ)) → ((n : List ℕ) → Holds xs n → Holds (names etc usr) n) → map (contents Etc Usr) (map (one etc usr) xs) ≡ map (λ (c : Choice). has c.name) (map (one etc usr) xs)
      each_held [] in_them = refl
      each_held (n ∷ xs) in_them =
          ap (λ (t : List ℕ). t ∷ map (contents Etc Usr) (map (one etc usr) xs)) (held_by (lists n etc) n refl (in_them n (inl refl)))
          ∙ ap (λ (l : List (List ℕ)). has n ∷ l) (each_held xs (λ m h. in_them m (inr h)))

      -- and each holds what was read of it
      pub taken_held : map (contents Etc Usr) (choice etc usr) ≡ texts
      taken_held = each_held (names etc usr) (λ n h. h) ∙ sym are

-- what was read of files is what there is by their names
abbrev value : Option (List ℕ) → List ℕ
value o = option_map_or (λ b. b) o []

pub has_texts : (etc usr : List (List ℕ)) (at : Choice → Option (List ℕ)) (xs : List (List ℕ)) (texts : List (List ℕ)) → map Some texts ≡ map at (map (one etc usr) xs)
    → texts ≡ map (λ (c : Choice). value (at (one etc usr c.name))) (map (one etc usr) xs)
has_texts etc usr at [] [] are = refl
has_texts etc usr at [] (t ∷ texts) are = cc
has_texts etc usr at (n ∷ xs) [] are = cc
has_texts etc usr at (n ∷ xs) (t ∷ texts) are =
    let here : Some t ≡ at (one etc usr n) = ap (λ (l : List (Option (List ℕ))). get_or l 0 None) are in
    ap (λ (b : List ℕ). b ∷ texts) (ap value here) ∙ ap (λ (l : List (List ℕ)). value (at (one etc usr n)) ∷ l) (has_texts etc usr at xs texts (ap (drop 1) are))

-- so many there are
pub many_texts : (at : Choice → Option (List ℕ)) (chosen : List Choice) (texts : List (List ℕ)) → map Some texts ≡ map at chosen → length texts ≡ length chosen
many_texts at chosen texts are = sym (length-map texts Some) ∙ ap length are ∙ length-map chosen at

-- chosen files of both folders, as they were read, are those that are taken from each
module _ (etc usr : List (List ℕ)) (at : Choice → Option (List ℕ)) (texts : List (List ℕ)) (read : map Some texts ≡ map at (choice etc usr)) where
  all_texts : length texts ≡ length (names etc usr)
  all_texts = many_texts at (choice etc usr) texts read ∙ length-map (names etc usr) (one etc usr)

  pub read_chosen : chosen_of (taken_from true (choice etc usr) texts) (taken_from false (choice etc usr) texts) ≡ choice etc usr
  read_chosen = taken_chosen etc usr texts all_texts

  pub read_held : map (contents (taken_from true (choice etc usr) texts) (taken_from false (choice etc usr) texts)) (choice etc usr) ≡ texts
  read_held = taken_held etc usr texts all_texts (λ (n : List ℕ). value (at (one etc usr n))) (has_texts etc usr at (names etc usr) texts read)
