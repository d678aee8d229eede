-- The files that `check` reads, and its errors of them.
use Rattle.std.proofs.Common.{◌≡◌, ◌⊎◌, ◌<◌, ◌≤◌, ◌+◌, ◌++◌, ◌∙◌, ◌||◌, inl, inr, ap, sym, subst, refl, arith, ℕ, suc, Bool, true, false, List, [], ◌∷◌, length, map, drop, zero, get_or, string_bytes, Global, Option, Some, None, Result, Ok, Err, IfOk, String, All, Vec}
use Rattle.std.specs.Prelude.{IfSome, take}
use Rattle.std.specs.Option.{option_map_or}
use Rattle.std.proofs.lemmas.List.{drop_all, map-append, take_more}
use Rattle.hwdb_spec.specs.Folders.{Choice, Source, path_of}
use Rattle.std.proofs.lemmas.List.Elements.{All-nil, All-cons, All-head, All-map, All-tail}
use Rattle.hwdb_spec_commands.specs.Given.{IsContent, IsGiven, is_dash, any_dash}
use Rattle.hwdb_spec.specs.Store.{Contents}
use Rattle.hwdb_spec.specs.System.{bytes_at}
use Rattle.hwdb_spec.specs.Texts.{max_file}
use Rattle.hwdb_check.specs.Checks.{source_of}
use Rattle.hwdb_check.specs.declared.files.TextFile.{TextFile}
use Rattle.hwdb_spec_commands.specs.CheckedFiles.{AreChosenFiles, AreGivenFiles}
use Rattle.hwdb_spec.specs.Selected.{AreSelected}
use Rattle.hwdb_plan.specs.Files.{AreFiles}
use Rattle.hwdb_tool.specs.Internal.{AreTextsGiven, bytes_given, bytes_if}
use Rattle.hwdb_spec_commands.specs.Reasons.{IsReadGiven}
use Rattle.hwdb_spec_commands.specs.declared.refusals.Refusal.{Refusal}
use Rattle.hwdb_spec.specs.Lemmas.Truth.{or_left, or_right}

-- one more of them has a text
pub texts_given_more : (text : List ℕ) (contents : Contents) (given : List (String Global)) (k : ℕ) (path : String Global) (texts texts2 : List (List ℕ)) (bytes : List ℕ)
    → AreTextsGiven text contents (map string_bytes (take k given)) texts → path ≡ get_or given k path → k < length given
    → bytes_given text contents (string_bytes path) ≡ Some bytes → texts2 ≡ texts ++ bytes ∷ [] → AreTextsGiven text contents (map string_bytes (take (k + 1) given)) texts2
texts_given_more text contents given k path texts texts2 bytes before is lt read more =
    let held = bytes_given text contents in
    ap (map Some) more ∙ map-append Some texts (bytes ∷ [])
    ∙ ap (λ l. l ++ Some bytes ∷ []) before
    ∙ ap (λ o. map held (map string_bytes (take k given)) ++ o ∷ []) (sym read ∙ ap (λ (s : String Global). held (string_bytes s)) is)
    ∙ sym (map-append held (map string_bytes (take k given)) (string_bytes (get_or given k path) ∷ []))
    ∙ ap (map held) (sym (map-append string_bytes (take k given) (get_or given k path ∷ [])))
    ∙ ap (λ l. map held (map string_bytes l)) (sym (take_more given k path lt))

-- one that is read
read_by : (b : Bool) (contents : Contents) (path text bytes : List ℕ) → is_dash path ≡ b → bytes_if b text contents path ≡ Some bytes
    → ((is_dash path ≡ false) ⊎ (length text ≤ max_file) → length bytes ≤ max_file) → IsReadGiven contents path
read_by true contents path text bytes is read within = inl is
read_by false contents path text bytes is read within = inr record { bytes = bytes; there = read; within = within (inl is) }

pub read_given : (contents : Contents) (path text bytes : List ℕ) → bytes_given text contents path ≡ Some bytes
    → ((is_dash path ≡ false) ⊎ (length text ≤ max_file) → length bytes ≤ max_file) → IsReadGiven contents path
read_given contents path text bytes read within = read_by (is_dash path) contents path text bytes refl read within

-- ---- what the files are
abbrev pub IsShort : List ℕ → Type 0
IsShort bytes = length bytes ≤ max_file

abbrev IsShortSource : Source → Type 0
IsShortSource s = IsShort s.bytes

pub short_files : (files : List TextFile) → All IsShort (map (λ f. f.bytes.now) files) → All IsShortSource (map source_of files)
short_files [] short = All-nil IsShortSource
short_files (f ∷ files) short =
    All-cons IsShortSource (source_of f) (map source_of files) (All-head IsShort f.bytes.now (map (λ f. f.bytes.now) files) short)
    (short_files files (All-tail IsShort f.bytes.now (map (λ f. f.bytes.now) files) short))

names_of : (files : List TextFile) → map (λ (s : Source). s.name) (map source_of files) ≡ map (λ f. f.path.now) files
names_of [] = refl
names_of (f ∷ files) = ap (λ l. f.path.now ∷ l) (names_of files)

bytes_of : (files : List TextFile) → map (λ (s : Source). Some s.bytes) (map source_of files) ≡ map Some (map (λ f. f.bytes.now) files)
bytes_of [] = refl
bytes_of (f ∷ files) = ap (λ l. Some f.bytes.now ∷ l) (bytes_of files)

-- the given ones
is_from : (dash : Bool) (path bytes text : List ℕ) (input : Option (List ℕ)) (contents : Contents) → bytes_if dash text contents path ≡ Some bytes
    → (dash ≡ true → IfSome input (λ told. text ≡ told)) → IsContent dash path input contents bytes
is_from true path bytes text input contents read told =
    let same : text ≡ bytes = ap (λ (o : Option (List ℕ)). option_map_or (λ (b : List ℕ). b) o []) read in
    subst (λ (b : List ℕ). IfSome input (λ told. b ≡ told)) same (told refl)
is_from false path bytes text input contents read told = read

first_of : List (Option (List ℕ)) → Option (List ℕ)
first_of [] = None
first_of (o ∷ more) = o

rest_of : List (Option (List ℕ)) → List (Option (List ℕ))
rest_of [] = []
rest_of (o ∷ more) = more

abbrev IsHeld : (input : Option (List ℕ)) (contents : Contents) → Source → Type 0
IsHeld input contents s = IsGiven s.name input contents s.bytes

all_given : (input : Option (List ℕ)) (contents : Contents) (text : List ℕ) (sources : List Source)
    → map Some (map (λ (s : Source). s.bytes) sources) ≡ map (bytes_given text contents) (map (λ (s : Source). s.name) sources)
    → (any_dash (map (λ (s : Source). s.name) sources) ≡ true → IfSome input (λ told. text ≡ told)) → All (IsHeld input contents) sources
unfolding first_of rest_of
all_given input contents text [] read told = All-nil (IsHeld input contents)
all_given input contents text (s ∷ sources) read told =
    let dash = is_dash s.name in
    let others = any_dash (map (λ (s : Source). s.name) sources) in
    All-cons (IsHeld input contents) s sources
    (is_from dash s.name s.bytes text input contents (sym (ap first_of read)) (λ e. told (or_left dash others e)))
    (all_given input contents text sources (ap rest_of read) (λ e. told (or_right dash others e)))

short_sources : (sources : List Source) → All IsShort (map (λ (s : Source). s.bytes) sources) → All IsShortSource sources
short_sources [] short = All-nil IsShortSource
short_sources (s ∷ sources) short =
    All-cons IsShortSource s sources (All-head IsShort s.bytes (map (λ (s : Source). s.bytes) sources) short)
    (short_sources sources (All-tail IsShort s.bytes (map (λ (s : Source). s.bytes) sources) short))

pub given_sources : (input : Option (List ℕ)) (contents : Contents) (text : List ℕ) (given texts : List (List ℕ)) (sources : List Source) → AreTextsGiven text contents given texts
    → (any_dash given ≡ true → IfSome input (λ told. text ≡ told)) → All IsShort texts → AreFiles given texts sources → AreGivenFiles given input contents sources
given_sources input contents text given texts sources read told short are = record {
  named = are.named;
  held = all_given input contents text sources
      (ap (map Some) are.held ∙ read ∙ ap (map (bytes_given text contents)) (sym are.named))
      (λ e. told (ap any_dash (sym are.named) ∙ e));
  within = short_sources sources (subst (All IsShort) (sym are.held) short);
}

-- those of texts that were read
pub given_texts_are : (given : List (List ℕ)) (input : Option (List ℕ)) (contents : Contents) (text : List ℕ) (r : Result (Vec (Vec ℕ Global) Global) Refusal)
    → (any_dash given ≡ true → IfSome input (λ told. text ≡ told)) → IfOk r (λ texts. AreTextsGiven text contents given (map (λ t. t.items) texts.items))
    → IfOk r (λ texts. All (λ t. length t.items ≤ max_file) texts.items)
    → IfOk r (λ texts. (sources : List Source) → AreFiles given (map (λ t. t.items) texts.items) sources → AreGivenFiles given input contents sources)
given_texts_are given input contents text (Ok texts) told read short = λ sources are.
    given_sources input contents text given (map (λ t. t.items) texts.items) sources read told (All-map IsShort (λ (t : Vec ℕ Global). t.items) texts.items short) are
given_texts_are given input contents text (Err e) told read short = tt

-- a look for a dash among some strings goes on by one
pub any_step : {X : Type 0} (f : X → List ℕ) (xs : List X) (i : ℕ) (x : X) → x ≡ get_or xs i x → i < length xs
    → any_dash (map f (drop i xs)) ≡ (is_dash (f x) || any_dash (map f (drop (suc i) xs)))
any_step f [] i x is lt = absurd (omega (arith, lt))
any_step f (y ∷ more) zero x is lt = ap (λ p. is_dash (f p) || any_dash (map f more)) (sym is)
any_step f (y ∷ more) (suc i) x is lt = any_step f more i x is (omega (arith, lt))

-- none is found in front of the place that has been reached
pub any_from : {X : Type 0} (f : X → List ℕ) (xs : List X) (i : ℕ) (x : X) (d : Bool) → x ≡ get_or xs i x → i < length xs → d ≡ is_dash (f x) → d ≡ false
    → any_dash (map f (drop i xs)) ≡ any_dash (map f xs) → any_dash (map f (drop (i + 1) xs)) ≡ any_dash (map f xs)
any_from f xs i x d is lt dash none before =
    let next : suc i ≡ i + 1 = omega arith in
    subst (λ n. any_dash (map f (drop n xs)) ≡ any_dash (map f xs)) next
    (sym (ap (λ b. b || any_dash (map f (drop (suc i) xs))) (sym dash ∙ none)) ∙ sym (any_step f xs i x is lt) ∙ before)

-- one is found at that place
pub any_at : {X : Type 0} (f : X → List ℕ) (xs : List X) (i : ℕ) (x : X) (d : Bool) → x ≡ get_or xs i x → i < length xs → d ≡ is_dash (f x) → d ≡ true
    → any_dash (map f (drop i xs)) ≡ any_dash (map f xs) → true ≡ any_dash (map f xs)
any_at f xs i x d is lt dash some before =
    sym (ap (λ b. b || any_dash (map f (drop (suc i) xs))) (sym dash ∙ some)) ∙ sym (any_step f xs i x is lt) ∙ before

-- none is found
pub any_behind : {X : Type 0} (f : X → List ℕ) (xs : List X) (n : ℕ) → length xs ≤ n → any_dash (map f (drop n xs)) ≡ any_dash (map f xs) → false ≡ any_dash (map f xs)
any_behind f xs n le before = sym (ap (λ l. any_dash (map f l)) (drop_all n xs le)) ∙ before

-- the text of standard input, by a borrow
pub told_of : (given : List (List ℕ)) (input : Option (List ℕ)) (text read : List ℕ) → text ≡ read → (any_dash given ≡ true → IfSome input (λ told. read ≡ told))
    → any_dash given ≡ true → IfSome input (λ told. text ≡ told)
told_of given input text read same told e = subst (λ (t : List ℕ). IfSome input (λ told. t ≡ told)) (sym same) (told e)

-- those of both folders
pub chosen_sources : (root : List ℕ) (contents : Contents) (usr : List (List ℕ)) (chosen : List Choice) (texts : List (List ℕ)) (files : List TextFile) → AreSelected root contents usr chosen texts
    → map (λ f. f.path.now) files ≡ map path_of chosen → map (λ f. f.bytes.now) files ≡ texts → AreChosenFiles root contents (map source_of files)
chosen_sources root contents usr chosen texts files are named held = record {
  etc = are.etc;
  usr = usr;
  in_etc = are.in_etc;
  in_usr = are.in_usr;
  few = are.few;
  named = names_of files ∙ named ∙ ap (map path_of) are.is;
  held = bytes_of files ∙ ap (map Some) held ∙ are.read ∙ ap (map (λ c. bytes_at contents (root ++ path_of c))) are.is;
  within = short_files files (subst (All IsShort) (sym held) are.within);
}
