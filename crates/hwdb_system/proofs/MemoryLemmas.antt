-- The names that a store in memory tells of a folder, one step after the other.
use Rattle.std.proofs.Common.{◌≡◌, ◌≢◌, ◌∙◌, ◌⊎◌, ◌<◌, inl, inr, ap, sym, refl, subst, true, false, length, take, drop, get_or, List, ℕ, [], ◌∷◌, ◌++◌, Option, Some, None, Result, Ok, Err, IfOk, if◌then◌else◌, Bool, suc}
use Rattle.std.specs.Prelude.{IsUtf8, cond, filter_map, is_some, not, option_and_then, option_map, option_to_list, MatchOption, IfSome}
use Rattle.std.specs.Borrow.{Bor}
use Rattle.std.specs.Result.{IsErrAnd}
use Rattle.std.specs.Str.{is_utf8}
use Rattle.std.proofs.lemmas.Str.{is_utf8-from_IsUtf8}
use Rattle.std.proofs.lemmas.List.{append_cancel_left, take-append-drop}
use Rattle.std.proofs.lemmas.List.Elements.{filter_map-append}
use Rattle.hwdb_spec.specs.Lemmas.Lists.{taken_more}
use Rattle.hwdb_spec.specs.Lemmas.Orders.{not_utf8}
use Rattle.hwdb_spec.specs.Store.{path_in}
use Rattle.hwdb_spec.specs.System.{AreNamesIn, bytes_at}
use Rattle.hwdb_spec.specs.declared.errors.ToolError.TheVariants as error
use Rattle.hwdb_spec_commands.specs.Ignored.{AreIgnoredIn}
use Rattle.hwdb_spec_commands.specs.Told.{IsListedTo, IsUnlistedAs, Unlisted, first_misnamed, names_told, stop_of, unless_misnamed, unlisted_stop}
use Rattle.hwdb_spec_commands.specs.Told.Unlisted.{Misnamed}
use Rattle.hwdb_spec_commands.specs.declared.refusals.Refusal.{Refusal}
use Rattle.hwdb_spec_commands.specs.declared.refusals.Refusal.TheVariants as refusal
use Rattle.hwdb_replace.specs.Memory.{seen_of}
use Rattle.hwdb_replace.specs.declared.memory.Step.{Step}
use Rattle.hwdb_system.specs.Internal.{is_told_file, made_by, name_in, names_after, step_name}
use Rattle.hwdb_system.specs.Lemmas.MemoryNames.{ignored_are, named_in, none_named_in}
use Rattle.hwdb_system.specs.Lemmas.MemoryReads.{memory_agrees}
use Rattle.hwdb_system.specs.Raw.{IsMisnamedAt, present}

-- ---- one step
-- the name after a folder and a slash
pub name_of_path : (folder path rest : List ℕ) (r : Option (Bor (List ℕ))) → path ≡ folder ++ rest
    → MatchOption r ((more : List ℕ) → rest ≢ (47 ∷ []) ++ more) (λ x. rest ≡ (47 ∷ []) ++ x.now)
    → option_map (λ (x : Bor (List ℕ)). x.now) r ≡ name_in folder path
name_of_path folder path rest None e none = none_named_in folder path (λ name is. none name (append_cancel_left folder rest (47 ∷ name) (sym e ∙ is)))
name_of_path folder path rest (Some x) e some = sym (named_in folder path x.now (e ∙ ap (λ l. folder ++ l) some))

pub no_name : (folder path : List ℕ) → ((rest : List ℕ) → path ≢ folder ++ rest) → None ≡ name_in folder path
no_name folder path none = none_named_in folder path (λ name is. none (47 ∷ name) is)

module _ (ignored : Bool) (steps : List Step) (folder : List ℕ) (step : Step) where
  -- it puts no file there
  pub unmade : None ≡ made_by step → None ≡ step_name ignored steps folder step
  unmade made = ap (option_and_then (λ path. option_and_then (λ name. if is_told_file ignored steps name path then Some name else None) (name_in folder path))) made

  named : (path : List ℕ) (o : Option (List ℕ)) → Some path ≡ made_by step → o ≡ name_in folder path
      → option_and_then (λ name. if is_told_file ignored steps name path then Some name else None) o ≡ step_name ignored steps folder step
  named path o made is =
      ap (option_and_then (λ name. if is_told_file ignored steps name path then Some name else None)) is
      ∙ ap (option_and_then (λ path. option_and_then (λ name. if is_told_file ignored steps name path then Some name else None) (name_in folder path))) made

  -- it does so in another folder
  pub unnamed : (path : List ℕ) → Some path ≡ made_by step → None ≡ name_in folder path → None ≡ step_name ignored steps folder step
  unnamed path made none = named path None made none

  -- or in this one: it is told, or not
  pub kept_name : (path name : List ℕ) → Some path ≡ made_by step → Some name ≡ name_in folder path → is_told_file ignored steps name path ≡ true → Some name ≡ step_name ignored steps folder step
  kept_name path name made is told = ap (λ (b : Bool). if b then Some name else None) (sym told) ∙ named path (Some name) made is

  pub left_name : (path name : List ℕ) → Some path ≡ made_by step → Some name ≡ name_in folder path → is_told_file ignored steps name path ≡ false → None ≡ step_name ignored steps folder step
  left_name path name made is told = ap (λ (b : Bool). if b then Some name else None) (sym told) ∙ named path (Some name) made is

-- a name is put after others
pub put_name : (o : Option (List ℕ)) (name : List ℕ) (old new : List (List ℕ)) → Some name ≡ o → new ≡ old ++ name ∷ [] → new ≡ old ++ option_to_list o
put_name o name old new is put = put ∙ ap (λ (x : Option (List ℕ)). old ++ option_to_list x) is

-- ---- one step more
one_is : {X : Type 0} (o : Option (List ℕ)) (h : X → Option (List ℕ)) (x : X) → h x ≡ o → filter_map h (x ∷ []) ≡ option_to_list o
one_is None h x is = rw is refl
one_is (Some name) h x is = rw is refl

pub names_more : {X : Type 0} (h : X → Option (List ℕ)) (xs : List X) (i : ℕ) (x : X) (old new : List (List ℕ)) → i < length xs → x ≡ get_or xs i x
    → old ≡ filter_map h (take i xs) → new ≡ old ++ option_to_list (h x) → new ≡ filter_map h (take (suc i) xs)
names_more h xs i x old new lt at told put =
    put ∙ ap (λ (l : List (List ℕ)). l ++ option_to_list (h x)) told
    ∙ ap (λ (l : List (List ℕ)). filter_map h (take i xs) ++ l) (sym (one_is (h x) h x refl))
    ∙ sym (filter_map-append h (take i xs) (x ∷ []))
    ∙ ap (filter_map h) (sym (taken_more xs i x lt at))

-- ---- the first name that isn't UTF-8
abbrev bad : List ℕ → Bool
bad name = not (is_utf8 name)

none_here : (x : List ℕ) (a b : List (List ℕ)) → (first_misnamed a ≡ None → first_misnamed (a ++ b) ≡ first_misnamed b) → (t : Bool)
    → cond t (Some x) (first_misnamed a) ≡ None → cond t (Some x) (first_misnamed (a ++ b)) ≡ first_misnamed b
none_here x a b later true none = absurd (cc)
none_here x a b later false none = later none

none_before : (a b : List (List ℕ)) → first_misnamed a ≡ None → first_misnamed (a ++ b) ≡ first_misnamed b
none_before [] b none = refl
none_before (x ∷ a) b none = none_here x a b (none_before a b) (bad x) none

some_here : (x name : List ℕ) (a b : List (List ℕ)) → (first_misnamed a ≡ Some name → first_misnamed (a ++ b) ≡ Some name) → (t : Bool)
    → cond t (Some x) (first_misnamed a) ≡ Some name → cond t (Some x) (first_misnamed (a ++ b)) ≡ Some name
some_here x name a b later true is = is
some_here x name a b later false is = later is

some_before : (name : List ℕ) (a b : List (List ℕ)) → first_misnamed a ≡ Some name → first_misnamed (a ++ b) ≡ Some name
some_before name [] b is = absurd (cc)
some_before name (x ∷ a) b is = some_here x name a b (some_before name a b) (bad x) is

one_good : (o : Option (List ℕ)) → IfSome o IsUtf8 → first_misnamed (option_to_list o) ≡ None
one_good None utf8 = refl
one_good (Some name) utf8 = ap (λ (b : Bool). cond (not b) (Some name) None) (is_utf8-from_IsUtf8 name utf8)

pub good_more : (o : Option (List ℕ)) (old new : List (List ℕ)) → first_misnamed old ≡ None → IfSome o IsUtf8 → new ≡ old ++ option_to_list o → first_misnamed new ≡ None
good_more o old new none utf8 put = ap first_misnamed put ∙ none_before old (option_to_list o) none ∙ one_good o utf8

one_bad : (name : List ℕ) (after : List (List ℕ)) → is_utf8 name ≡ false → first_misnamed (name ∷ after) ≡ Some name
one_bad name after none = ap (λ (b : Bool). cond (not b) (Some name) (first_misnamed after)) none

first_bad : {X : Type 0} (h : X → Option (List ℕ)) (xs : List X) (i : ℕ) (x : X) (name : List ℕ) (old : List (List ℕ)) → i < length xs → x ≡ get_or xs i x
    → old ≡ filter_map h (take i xs) → first_misnamed old ≡ None → h x ≡ Some name → is_utf8 name ≡ false → first_misnamed (filter_map h xs) ≡ Some name
first_bad h xs i x name old lt at told none is misnamed =
    let rest = filter_map h (drop (suc i) xs) in
    let more = names_more h xs i x old (old ++ name ∷ []) lt at told (ap (λ (o : Option (List ℕ)). old ++ option_to_list o) (sym is)) in
    let split : filter_map h xs ≡ (old ++ name ∷ []) ++ rest =
    ap (filter_map h) (sym (take-append-drop (suc i) xs)) ∙ filter_map-append h (take (suc i) xs) (drop (suc i) xs) ∙ ap (λ (l : List (List ℕ)). l ++ rest) (sym more) in
    let one : first_misnamed (old ++ name ∷ []) ≡ Some name = none_before old (name ∷ []) none ∙ one_bad name [] misnamed in
    ap first_misnamed split ∙ some_before name (old ++ name ∷ []) rest one

misnamed_as : (folder name : List ℕ) (r : Refusal) → IsMisnamedAt folder name r → (stop_of r ≡ unlisted_stop folder (Misnamed name)) × (is_utf8 name ≡ false)
misnamed_as folder name (refusal.At error.Read at cause) is =
    let there : at.items ≡ path_in folder name = is.0 in
    let why = is.1 in
    (cc, not_utf8 name is.2)
misnamed_as folder name (refusal.At error.Write at cause) is = absurd is
misnamed_as folder name (refusal.At error.TooLong at cause) is = absurd is
misnamed_as folder name (refusal.At error.TooManyFiles at cause) is = absurd is
misnamed_as folder name (refusal.At error.TooManyLines at cause) is = absurd is
misnamed_as folder name (refusal.At error.TooLarge at cause) is = absurd is
misnamed_as folder name (refusal.At error.BadPosition at cause) is = absurd is
misnamed_as folder name (refusal.At (error.BadDatabase fault) at cause) is = absurd is
misnamed_as folder name (refusal.At (error.Replace u) at cause) is = absurd is
misnamed_as folder name (refusal.At error.Memory at cause) is = absurd is
misnamed_as folder name (refusal.Plain e) is = absurd is
misnamed_as folder name refusal.NoDatabase is = absurd is
misnamed_as folder name (refusal.InWords text) is = absurd is

-- an error of a step is that of the listing
pub step_stops : {X : Type 0} (h : X → Option (List ℕ)) (folder : List ℕ) (xs : List X) (i : ℕ) (x : X) (old : List (List ℕ)) (r : Refusal) → i < length xs → x ≡ get_or xs i x
    → old ≡ filter_map h (take i xs) → first_misnamed old ≡ None
    → (r ≡ refusal.Plain error.Memory) ⊎ ((name : List ℕ) × (h x ≡ Some name) × IsMisnamedAt folder name r)
    → IsUnlistedAs (names_told (filter_map h xs)) folder r
step_stops h folder xs i x old r lt at told none (inl memory) = inl memory
step_stops h folder xs i x old r lt at told none (inr (name, is, misnamed)) =
    let says = misnamed_as folder name r misnamed in
    inr (Misnamed name, ap (λ (m : Option (List ℕ)). unless_misnamed m (filter_map h xs)) (first_bad h xs i x name old lt at told none is says.1), says.0)

-- ---- results
-- an error that is handed on
pub stops_listing : {X Y : Type 0} (value : Y → X) (answer : Result X Unlisted) (folder : List ℕ) (r : Refusal) (result : Result Y Refusal)
    → IsErrAnd result (λ x. x ≡ r) → IsUnlistedAs answer folder r → IsListedTo value answer folder result
stops_listing value answer folder r (Ok y) is why = absurd is
stops_listing value answer folder r (Err x) is why = subst (IsUnlistedAs answer folder) (sym is) why

-- all names were told
pub all_listed : (names listing : List (List ℕ)) → names ≡ listing → first_misnamed names ≡ None → names_told listing ≡ Ok names
all_listed names listing same none =
    ap (λ (m : Option (List ℕ)). unless_misnamed m listing) (ap first_misnamed (sym same) ∙ none) ∙ ap Ok (sym same)

-- they are those of the files in the folder
pub listed_are : {Y : Type 0} (value : Y → List (List ℕ)) (steps : List Step) (folder : List ℕ) (result : Result Y Refusal) → IsListedTo value (names_told (names_after false steps folder)) folder result
    → IfOk result (λ y. AreNamesIn folder (seen_of steps) (value y))
listed_are value steps folder (Ok y) told = (memory_agrees steps).names folder (value y) told
listed_are value steps folder (Err r) told = tt

pub ignored_listed : (steps : List Step) (folder : List ℕ) (names : List (List ℕ)) → names ≡ names_after true steps folder → AreIgnoredIn folder (seen_of steps) names
ignored_listed steps folder names same = subst (AreIgnoredIn folder (seen_of steps)) (sym same) (ignored_are steps folder)

-- ---- a folder, if no file is there
module _ (steps : List Step) (path : List ℕ) where
  abbrev Told : Result (Option (List (List ℕ))) Unlisted
  Told = if is_some (bytes_at (seen_of steps) path) then Ok None else present (names_told (names_after false steps path))

  pub file_told : is_some (bytes_at (seen_of steps) path) ≡ true → Told ≡ Ok None
  file_told there = ap (λ (b : Bool). if b then Ok None else present (names_told (names_after false steps path))) there

  pub folder_told : (names : List (List ℕ)) → is_some (bytes_at (seen_of steps) path) ≡ false → names_told (names_after false steps path) ≡ Ok names → Told ≡ Ok (Some names)
  folder_told names none told = ap (λ (b : Bool). if b then Ok None else present (names_told (names_after false steps path))) none ∙ ap present told

  pub folder_untold : (r : Refusal) → is_some (bytes_at (seen_of steps) path) ≡ false → IsUnlistedAs (names_told (names_after false steps path)) path r → IsUnlistedAs Told path r
  folder_untold r none (inl memory) = inl memory
  folder_untold r none (inr (u, untold, says)) =
      inr (u, ap (λ (b : Bool). if b then Ok None else present (names_told (names_after false steps path))) none ∙ ap present untold, says)
