-- What is said of the files of an update.
use Rattle.std.proofs.Common.{◌≡◌, ◌∙◌, ◌<◌, ◌++◌, ◌∷◌, ap, append_assoc, sym, get_or, map, length, refl, take, ℕ, suc, List, [], Some, codes}
use Rattle.std.specs.List.{AllByRecursion}
use Rattle.std.specs.FinMap as finite
use Rattle.std.specs.Fmt.{decimal}
use Rattle.std.specs.Prelude.{flat_map, if◌then◌else◌}
use Rattle.std.proofs.lemmas.Bool.{lt-ltb}
use Rattle.std.proofs.lemmas.List.{length-map}
use Rattle.std.proofs.lemmas.List.Elements.{recursion_from_All}
use Rattle.hwdb_spec.specs.Assignment.{Assignment}
use Rattle.hwdb_spec.specs.Folders.{Choice, Source, chosen_of, contents}
use Rattle.hwdb_spec.specs.Format.{IsDatabase}
use Rattle.hwdb_spec_commands.specs.Progress.{chosen_line, deep_line, given_count, kept_line, progress_text, too_long_lines}
use Rattle.hwdb_spec_commands.specs.Summary.{depth}
use Rattle.hwdb_spec.specs.Tree.{IsTree, Map, Tree, entry_of, map_of, map_of_files, members_under}
use Rattle.hwdb_spec.specs.Written.{IsCompiled, IsDatabaseOf}
use Rattle.hwdb_compile.specs.Views.{AreChosenOf}
use Rattle.hwdb_text.specs.Views.{bytes_in, choice_in}
use Rattle.hwdb_text.specs.declared.choice.ChosenFile.{ChosenFile}
use Rattle.hwdb_databases.specs.Laws.{MembersAreTheMap}
use Rattle.hwdb_spec.specs.Lemmas.Lists.{gathered_more, mapped_more}

-- two pieces, added one after another
pub two_names : (o a b t u : List ℕ) → t ≡ o ++ a → u ≡ t ++ b → u ≡ o ++ (a ++ b)
two_names o a b t u first second = second ∙ ap (λ l. l ++ b) first ∙ append_assoc o a b

-- four pieces of a line, added one after another
pub four_names : (a b k e o t u v w : List ℕ) → o ≡ [] → t ≡ o ++ a → u ≡ t ++ b → v ≡ u ++ k → w ≡ v ++ e → w ≡ a ++ (b ++ (k ++ e))
four_names a b k e o t u v w empty first second third fourth =
    fourth ∙ ap (λ l. l ++ e) (third ∙ ap (λ l. l ++ k) (second ∙ ap (λ l. l ++ b) (first ∙ ap (λ l. l ++ a) empty)))
    ∙ append_assoc (a ++ b) k e ∙ append_assoc a b (k ++ e)

-- the pieces of the line that counts, added one after another
pub kept_pieces : (o a s b k t u y : List ℕ) → t ≡ o ++ (a ++ s) → u ≡ t ++ (b ++ s) → y ≡ u ++ k → y ≡ o ++ (a ++ (s ++ (b ++ (s ++ k))))
kept_pieces o a s b k t u y first second third =
    third ∙ ap (λ l. l ++ k) (second ∙ ap (λ l. l ++ (b ++ s)) first)
    ∙ append_assoc (o ++ (a ++ s)) (b ++ s) k ∙ append_assoc o (a ++ s) ((b ++ s) ++ k)
    ∙ ap (λ l. o ++ l) (append_assoc a s ((b ++ s) ++ k) ∙ ap (λ l. a ++ (s ++ l)) (append_assoc b s k))

-- the pieces of the line of a depth that is too great, added one after another
pub deep_pieces : (n : ℕ) (o t u y : List ℕ) → 2048 < n → t ≡ o ++ codes "warning: the depth is " → u ≡ t ++ decimal n → y ≡ u ++ codes ": udev of systemd 262 refuses more than 2048\n"
    → y ≡ o ++ deep_line n
deep_pieces n o t u y deep first second third =
    third ∙ ap (λ l. l ++ codes ": udev of systemd 262 refuses more than 2048\n") (second ∙ ap (λ l. l ++ decimal n) first)
    ∙ append_assoc (o ++ codes "warning: the depth is ") (decimal n) (codes ": udev of systemd 262 refuses more than 2048\n")
    ∙ append_assoc o (codes "warning: the depth is ") (decimal n ++ codes ": udev of systemd 262 refuses more than 2048\n")
    ∙ ap (λ b. o ++ (if b then codes "warning: the depth is " ++ (decimal n ++ codes ": udev of systemd 262 refuses more than 2048\n") else [])) (sym (lt-ltb 2048 n deep))

abbrev long_of : ChosenFile → List ℕ
long_of f = too_long_lines (λ _. bytes_in f) (choice_in f)

-- the line of one more file
pub lines_more : {B : Type 0} (f : Choice → List B) (files : List ChosenFile) (i : ℕ) (x : ChosenFile) (old new : List B) → i < length files → x ≡ get_or files i x
    → old ≡ flat_map f (map choice_in (take i files)) → new ≡ old ++ f (choice_in x) → new ≡ flat_map f (map choice_in (take (suc i) files))
lines_more f files i x old new lt is so_far added =
    added ∙ ap (λ l. l ++ f (choice_in x)) so_far
    ∙ sym (ap (flat_map f) (mapped_more choice_in files i x lt is) ∙ gathered_more f (map choice_in (take i files)) (choice_in x))

-- how many assignments a database keeps
pub kept_count : {A : Type 0} (shown : A → Assignment) (bytes : List ℕ) (db : Tree) (list : List A) (n : ℕ) → MembersAreTheMap
    → ((bytes : List ℕ) (t : Tree) → IsDatabase bytes t → IsTree t) → ((bytes : List ℕ) (t u : Tree) → IsDatabase bytes t → IsDatabase bytes u → t ≡ u)
    → IsDatabase bytes db → map shown list ≡ members_under [] db → n ≡ length list → (m : Map) → IsDatabaseOf m bytes → n ≡ finite.len m
kept_count {A} shown bytes db list n laws ascends one is all many m (t, stands, same) =
    many ∙ sym (length-map list shown) ∙ ap length all ∙ sym (length-map (members_under [] db) entry_of)
    ∙ ap length (sym (laws db (ascends bytes db is))) ∙ sym (finite.len-entries (map_of db)) ∙ ap (λ u. finite.len (map_of u)) (one bytes db t is stands) ∙ ap finite.len same

-- the match lines of chosen files that udev can't take, by what each file has
long_is : (etc usr : List Source) (files : List ChosenFile) → AllByRecursion (λ f. bytes_in f ≡ contents etc usr (choice_in f)) files
    → flat_map long_of files ≡ flat_map (too_long_lines (contents etc usr)) (map choice_in files)
long_is etc usr [] all = refl
long_is etc usr (f ∷ more) all =
    ap (λ (b : List ℕ). too_long_lines (λ _. b) (choice_in f) ++ flat_map long_of more) all.0
    ∙ ap (λ l. too_long_lines (contents etc usr) (choice_in f) ++ l) (long_is etc usr more all.1)

-- the lines of the chosen files, the one that counts, the match lines that udev can't take, and how deep the database is
pub progress_is : (listed : List (List ℕ)) (files : List ChosenFile) (etc usr : List Source) (bytes text : List ℕ) → AreChosenOf etc usr files → (made : IsCompiled etc usr bytes)
    → ((m : Map) (t : Tree) → IsDatabaseOf m bytes → IsDatabase bytes t
    → text ≡ ((flat_map (chosen_line listed) (map choice_in files) ++ kept_line (length files) (given_count etc usr) (finite.len m)) ++ flat_map long_of files) ++ deep_line (depth t))
    → text ≡ progress_text (Some listed) etc usr (depth made.0)
progress_is listed files etc usr bytes text of made told =
    let kept = finite.len (map_of_files etc usr) in
    let given = given_count etc usr in
    let long = flat_map long_of files in
    told (map_of_files etc usr) made.0 made made.1
    ∙ ap (λ l. l ++ deep_line (depth made.0))
    (ap (λ cs. (flat_map (chosen_line listed) cs ++ kept_line (length files) given kept) ++ long) of.choices
    ∙ ap (λ n. (flat_map (chosen_line listed) (chosen_of etc usr) ++ kept_line n given kept) ++ long) (sym (length-map files choice_in) ∙ ap length of.choices)
    ∙ ap (λ l. (flat_map (chosen_line listed) (chosen_of etc usr) ++ kept_line (length (chosen_of etc usr)) given kept) ++ l)
    (long_is etc usr files (recursion_from_All _ files of.bytes) ∙ ap (flat_map (too_long_lines (contents etc usr))) of.choices))
