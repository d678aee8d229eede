-- Files, assignments and faults, gathered one after another.
use Rattle.std.proofs.Common.{◌≡◌, ◌∙◌, ◌+◌, ◌-◌, ◌^◌, min, ap, sym, refl, subst, ℕ, zero, suc, ◌≤◌, ◌<◌, ◌==◌, ◌||◌, true, false, List, [], ◌∷◌, ◌++◌, map, length, take, get_or, arith, append_assoc, Option, Some, cond, if◌then◌else◌, All}
use Rattle.std.specs.Prelude.{Any, flat_map}
use Rattle.std.specs.List.{slice_index_or}
use Rattle.std.specs.FinMap as finite
use Rattle.std.specs.Ordering.{is_eq, nat_cmp}
use Rattle.std.specs.Cmp.Lexicographic.{slice_cmp}
use Rattle.std.proofs.lemmas.List.{get_or_default, length-append, reverse-append, take_all}
use Rattle.std.proofs.lemmas.List.Elements.{All-nil, All-cons, All-head, All-tail, All-append}
use Rattle.hwdb_spec.specs.Lines.{Line, lines, clean, has_equals, has_key, has}
use Rattle.hwdb_spec.specs.Records.{sections, Origin, assign, patterns, property_assignments, section_assignments, assignments}
use Rattle.hwdb_spec.specs.Assignment.{Assignment}
use Rattle.hwdb_spec.specs.Folders.{same, Source, first_of}
use Rattle.hwdb_spec.specs.Folders.{within_64_bits}
use Rattle.hwdb_text.specs.Views.{IsStorable, HasNoZero}
use Rattle.hwdb_compile.specs.Views.{name_of, source_of, sources}
use Rattle.hwdb_writer.specs.Internal.Storable as writer
use Rattle.hwdb_spec.specs.Tree.{Map, entry_of, surviving}
use Rattle.std.specs.Borrow.{Bor}
use Rattle.std.specs.Option.{option_map_or}
use Rattle.std.specs.BTreeMap.{BTreeMap, get_by, is_at}
use Rattle.std.specs.Map.{lookup}
use Rattle.std.proofs.lemmas.Cmp.{nat_list_cmp_total}
use Rattle.hwdb_compile.specs.declared.sources.SourceFile.{SourceFile}
use Rattle.hwdb_compile.specs.Internal.Reading.{bytes_at, IsPuttable}
use Rattle.hwdb_spec.specs.Lemmas.Orders.{turned}
use Rattle.hwdb_spec.specs.Lemmas.Lists.{gathered_more}

-- it holds of one of them
pub any_here : {A : Type 0} (P : A → Type 0) (xs : List A) (i : ℕ) (x : A) → i < length xs → x ≡ get_or xs i x → P x → Any P xs
any_here P xs i x lt e p = (i, x, lt, sym e, p)

-- all of a list, mapped
pub mapped_all : {A B : Type 0} (f : A → B) (xs : List A) (i : ℕ) → length xs ≤ i → map f (take i xs) ≡ map f xs
mapped_all f xs i le = ap (map f) (take_all i xs le)

pub all_at : {A B : Type 0} (P : B → Type 0) (f : A → B) (xs : List A) (i : ℕ) (x : A) → All P (map f xs) → i < length xs → x ≡ get_or xs i x → P (f x)
all_at P f [] i x all lt e = absurd (omega arith)
all_at P f (y ∷ xs) zero x all lt e = subst (λ z. P (f z)) (sym e) (All-head P (f y) (map f xs) all)
all_at P f (y ∷ xs) (suc i) x all lt e = all_at P f xs i x (All-tail P (f y) (map f xs) all) (omega arith) e

mapped_at : {A C : Type 0} (f : A → C) (xs : List A) (i : ℕ) (x : A) → get_or (map f xs) i (f x) ≡ f (get_or xs i x)
mapped_at f [] i x = refl
mapped_at f (y ∷ xs) zero x = refl
mapped_at f (y ∷ xs) (suc i) x = mapped_at f xs i x

length_mapped : {A C : Type 0} (f : A → C) (xs : List A) → length (map f xs) ≡ length xs
length_mapped f [] = refl
length_mapped f (x ∷ xs) = ap suc (length_mapped f xs)

-- two lists that are one when they are mapped
pub as_long : {A B C : Type 0} (f : A → C) (g : B → C) (xs : List A) (ys : List B) → map f xs ≡ map g ys → length xs ≡ length ys
as_long f g xs ys e = sym (length_mapped f xs) ∙ ap length e ∙ length_mapped g ys

-- the members at one place of two such lists
pub same_at : {A B C : Type 0} (f : A → C) (g : B → C) (xs : List A) (ys : List B) (i : ℕ) (x : A) (y : B) → map f xs ≡ map g ys → i < length ys
    → x ≡ get_or xs i x → y ≡ get_or ys i y → f x ≡ g y
same_at f g xs ys i x y e lt of_x of_y =
    let long = length_mapped g ys in
    ap f of_x ∙ sym (mapped_at f xs i x) ∙ ap (λ l. get_or l i (f x)) e ∙ get_or_default (map g ys) i (f x) (g y) (omega (arith, long, lt)) ∙ mapped_at g ys i y ∙ ap g (sym of_y)

-- it holds of one of them
pub any_at : {A B : Type 0} (P : B → Type 0) (f : A → B) (xs : List A) (i : ℕ) (x : A) → i < length xs → x ≡ get_or xs i x → P (f x) → Any P (map f xs)
any_at P f xs i x lt e p = (i, f x, in_range f xs i lt, read f xs i x lt e, p)
  where
    in_range : {A B : Type 0} (f : A → B) (xs : List A) (i : ℕ) → i < length xs → i < length (map f xs)
    in_range f [] i lt = absurd (omega arith)
    in_range f (y ∷ xs) zero lt = omega arith
    in_range f (y ∷ xs) (suc i) lt = let h = in_range f xs i (omega arith) in omega (arith, h)

    read : {A B : Type 0} (f : A → B) (xs : List A) (i : ℕ) (x : A) → i < length xs → x ≡ get_or xs i x → slice_index_or (map f xs) i (f x) ≡ f x
    read f [] i x lt e = absurd (omega arith)
    read f (y ∷ xs) zero x lt e = ap f (sym e)
    read f (y ∷ xs) (suc i) x lt e = read f xs i x (omega arith) e

-- one more assignment
pub surviving_one : (xs : List Assignment) (a : Assignment) → surviving (xs ++ a ∷ []) ≡ finite.insert (surviving xs) (a.position.pattern, a.position.key) (entry_of a).1
surviving_one xs a = ap (λ l. finite.from_entries (map entry_of l)) (reverse-append xs (a ∷ []))

-- a text without byte 0, in the words of the crate that writes it
pub no_zero : (text : List ℕ) → HasNoZero text → writer.HasNoZero text
no_zero [] h = tt
no_zero (c ∷ text) h =
    let again : HasNoZero text → writer.HasNoZero text = no_zero text in
    elim (c == 0) as (λ b. (c == 0) ≡ b → (b || has 0 text) ≡ false → (0 < c) × writer.HasNoZero text) [
      | true ↦ λ e k. absurd (cc)
      | false ↦ λ e k. (some c e, again k)
    ] refl h
  where
    some : (c : ℕ) → (c == 0) ≡ false → 0 < c
    some zero e = absurd (cc)
    some (suc n) e = omega arith

-- the first of some files with a name, when one more comes after them
pub first_behind : (name : List ℕ) (before : List Source) (s : Source) (others : List ℕ)
    → first_of name before (if same name s.name then s.bytes else others) ≡ first_of name (before ++ s ∷ []) others
unfolding first_of
first_behind name [] s others = refl
first_behind name (t ∷ before) s others = ap (λ b. if same name t.name then t.bytes else b) (first_behind name before s others)

-- the assignments of a file have its path and priority
abbrev pub From : Origin → Assignment → Type 0
From o a = (a.path ≡ o.path) × (a.position.priority ≡ o.priority)

from_map : (o : Origin) (l : Line) (ps : List (List ℕ)) → All (From o) (map (assign o l) ps)
from_map o l [] = All-nil (From o)
from_map o l (p ∷ ps) = All-cons (From o) (assign o l p) (map (assign o l) ps) (refl, refl) (from_map o l ps)

from_property : (o : Origin) (ps : List (List ℕ)) (l : Line) → All (From o) (property_assignments o ps l)
from_property o ps l =
    elim (has_equals l) as (λ b. All (From o) (if b then (if has_key l then map (assign o l) ps else []) else [])) [
      | true ↦ elim (has_key l) as (λ b. All (From o) (if b then map (assign o l) ps else [])) [ true ↦ from_map o l ps | false ↦ All-nil (From o) ]
      | false ↦ All-nil (From o)
    ]

from_all : {A : Type 0} (o : Origin) (f : A → List Assignment) → ((x : A) → All (From o) (f x)) → (xs : List A) → All (From o) (flat_map f xs)
from_all o f each [] = All-nil (From o)
from_all o f each (x ∷ xs) = All-append (From o) (f x) (flat_map f xs) (each x) (from_all o f each xs)

pub from_file : (o : Origin) (file : List ℕ) → All (From o) (assignments o file)
from_file o file =
    from_all o (section_assignments o) (λ s. from_all o (property_assignments o (patterns s.matches)) (from_property o (patterns s.matches)) s.properties) (sections (clean (lines file)))

pub puttable : (o : Origin) (file : List ℕ) (given : List Assignment) → given ≡ assignments o file → All IsStorable given → HasNoZero o.path → 0 < o.priority → All IsPuttable given
puttable o file given is storable path priority =
    let origin = subst (All (From o)) (sym is)
    (from_all o (section_assignments o) (λ s. from_all o (property_assignments o (patterns s.matches)) (from_property o (patterns s.matches)) s.properties) (sections (clean (lines file)))) in
    λ k d lt. record {
      storable = storable k d lt;
      path = subst HasNoZero (sym (origin k d lt).0) path;
      priority = subst (λ n. 0 < n) (sym (origin k d lt).1) priority;
    }

-- the assignments of one more file
pub tree_step : {A : Type 0} (done : List Assignment) (f : A → List Assignment) (files more : List A) (file : A) (given : List Assignment) (tree : Map)
    → tree ≡ surviving ((done ++ flat_map f files) ++ given) → given ≡ f file → more ≡ files ++ file ∷ [] → tree ≡ surviving (done ++ flat_map f more)
tree_step done f files more file given tree is own next =
    is ∙ ap surviving (append_assoc done (flat_map f files) given
    ∙ ap (λ l. done ++ l) (ap (λ l. flat_map f files ++ l) own ∙ sym (gathered_more f files file) ∙ sym (ap (flat_map f) next)))

-- the faults of one more file
pub list_step : {A B : Type 0} (old mid new given : List B) (f : A → List B) (files more : List A) (file : A)
    → new ≡ mid ++ given → mid ≡ old ++ flat_map f files → given ≡ f file → more ≡ files ++ file ∷ [] → new ≡ old ++ flat_map f more
list_step old mid new given f files more file is before own next =
    is ∙ ap (λ l. l ++ given) before ∙ append_assoc old (flat_map f files) given
    ∙ ap (λ l. old ++ l) (ap (λ l. flat_map f files ++ l) own ∙ sym (gathered_more f files file) ∙ sym (ap (flat_map f) next))

-- the count of one more file's assignments
pub counted_more : {A B : Type 0} (f : A → List B) (files more : List A) (file : A) (so_far own sum : ℕ) → so_far ≡ within_64_bits (length (flat_map f files))
    → own ≡ length (f file) → sum ≡ min (so_far + own) (2 ^ 64 - 1) → more ≡ files ++ file ∷ [] → sum ≡ within_64_bits (length (flat_map f more))
counted_more f files more file so_far own sum before is added next =
    let all : length (flat_map f more) ≡ length (flat_map f files) + length (f file) =
    ap (λ l. length (flat_map f l)) next ∙ ap length (gathered_more f files file) ∙ length-append (flat_map f files) (f file) in
    omega (arith, before, is, added, all)

-- one more assignment is put
pub put_step : (done xs more : List Assignment) (a : Assignment) (before after : Map) → before ≡ surviving (done ++ xs)
    → after ≡ finite.insert before (a.position.pattern, a.position.key) (entry_of a).1 → more ≡ xs ++ a ∷ [] → after ≡ surviving (done ++ more)
put_step done xs more a before after is put next =
    put ∙ ap (λ m. finite.insert m (a.position.pattern, a.position.key) (entry_of a).1) is ∙ sym (surviving_one (done ++ xs) a)
    ∙ ap surviving (append_assoc done xs (a ∷ []) ∙ sym (ap (λ l. done ++ l) next))

pub names_listed : (files : List SourceFile) → map (λ f. name_of (source_of f)) files ≡ map name_of (sources files)
names_listed [] = refl
names_listed (f ∷ files) = ap (λ l. name_of (source_of f) ∷ l) (names_listed files)

pub sources_append : (xs ys : List SourceFile) → sources (xs ++ ys) ≡ sources xs ++ sources ys
sources_append [] ys = refl
sources_append (x ∷ xs) ys = ap (λ l. source_of x ∷ l) (sources_append xs ys)

-- a file that was put is found at its name
pub put_at : (before after : BTreeMap (Bor (List ℕ)) (Bor (List ℕ))) (key value : Bor (List ℕ)) (name : List ℕ)
    → get_by (λ k. slice_cmp nat_cmp name k.now) after ≡ cond (is_eq (slice_cmp nat_cmp key.now name)) (Some value) (get_by (λ k. slice_cmp nat_cmp name k.now) before)
    → bytes_at after name ≡ (if same name key.now then value.now else bytes_at before name)
put_at before after key value name is =
    ap (λ (o : Option (Bor (List ℕ))). option_map_or (λ (b : Bor (List ℕ)). b.now) o []) is
    ∙ elim (is_eq (slice_cmp nat_cmp key.now name)) as (λ b. option_map_or (λ (b : Bor (List ℕ)). b.now) (cond b (Some value) (get_by (λ k. slice_cmp nat_cmp name k.now) before)) [] ≡ (if b then value.now else bytes_at before name)) [
      | true ↦ refl
      | false ↦ refl
    ]
    ∙ ap (λ b. if b then value.now else bytes_at before name) (sym (turned (slice_cmp nat_cmp key.now name)) ∙ sym (ap is_eq (nat_list_cmp_total.antisymm name key.now)))

-- the last of some files was put, and those before it are left
pub files_step : (name : List ℕ) (rest before : List SourceFile) (file : SourceFile) (old new all : List ℕ) (key bytes : List ℕ)
    → first_of name (sources rest) old ≡ all → rest ≡ before ++ file ∷ [] → new ≡ (if same name key then bytes else old)
    → key ≡ (source_of file).name → bytes ≡ (source_of file).bytes → first_of name (sources before) new ≡ all
files_step name rest before file old new all key bytes whole cut put key_is bytes_is =
    let s = source_of file in
    ap (first_of name (sources before)) (put ∙ ap (λ k. if same name k then bytes else old) key_is ∙ ap (λ b. if same name s.name then b else old) bytes_is)
    ∙ first_behind name (sources before) s old
    ∙ ap (λ l. first_of name l old) (sym (sources_append before (file ∷ [])) ∙ sym (ap sources cut))
    ∙ whole

pub no_files : (name : List ℕ) (rest : List SourceFile) (old all : List ℕ) → first_of name (sources rest) old ≡ all → length rest ≡ 0 → old ≡ all
unfolding first_of
no_files name [] old all whole none = whole
no_files name (f ∷ rest) old all whole none = absurd (omega arith)

pub empty_index : (index : BTreeMap (Bor (List ℕ)) (Bor (List ℕ))) (name : List ℕ) → index.entries ≡ [] → bytes_at index name ≡ []
empty_index index name none = ap (λ (e : List (Bor (List ℕ) × Bor (List ℕ))). option_map_or (λ (b : Bor (List ℕ)). b.now) (lookup (is_at (λ k. slice_cmp nat_cmp name k.now)) e) []) none
