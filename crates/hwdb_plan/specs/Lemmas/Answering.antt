-- Plans that end in an error or in an answer, whatever they are told: neither in lines that come one after the other, nor in a new database.
-- Such a run can be held in memory until it is known whether it prints anything.
use Rattle.std.proofs.Common.{◌≡◌, ◌∷◌, ◌++◌, inl, inr, sym, subst, Bool, true, false, List, [], Option, None, Some, Result, Ok, Err, ℕ}
use Rattle.std.specs.Prelude.{codes, if◌then◌else◌, length, map, nat_le}
use Rattle.hwdb_spec.specs.Assignment.{Position}
use Rattle.hwdb_spec.specs.Folders.{Choice, Source, choice, max_files, names}
use Rattle.hwdb_spec.specs.Tree.{Tree}
use Rattle.std.specs.Option.{option_map_or}
use Rattle.hwdb_spec_commands.specs.DeviceAsked.{no_device_text}
use Rattle.hwdb_spec_commands.specs.DeviceFound.{near_given, places_meant, several_text}
use Rattle.hwdb_spec_commands.specs.DeviceTree.{Sight, device_at, unread_for}
use Rattle.hwdb_spec_commands.specs.Exports.{export_sight, is_export, no_export_text, without_machine}
use Rattle.hwdb_spec_commands.specs.Given.{any_dash, is_dash}
use Rattle.hwdb_spec_commands.specs.Near.{PatternAt}
use Rattle.hwdb_spec_commands.specs.RulePaths.{rules_folder, rules_path}
use Rattle.hwdb_spec_commands.specs.Told.{Reads, Unlisted, rules_told}
use Rattle.hwdb_rulefiles.specs.RuleFolders.{choice as choice_of}
use Rattle.hwdb_rulefiles.specs.declared.choice.Folder.{Folder as Folder_}
use Rattle.hwdb_rulefiles.specs.declared.choice.Folder.TheVariants.{Etc, Local, Run, Usr}
use Rattle.hwdb_spec_rules.specs.RuleAnswers.{files_of, rules_names, whose}
use Rattle.hwdb_spec_commands.specs.declared.devices.DeviceForm.{DeviceForm}
use Rattle.hwdb_spec_commands.specs.declared.form.Form.{Form}
use Rattle.hwdb_spec_commands.specs.declared.unread.Unread.{Unread}
use Rattle.hwdb_plan.specs.Answers.{answer_plan, answered}
use Rattle.hwdb_plan.specs.Asking.{asked, if_read, if_there}
use Rattle.hwdb_spec_rules.specs.declared.forms.RulesForm.{RulesForm}
use Rattle.hwdb_spec_rules.specs.declared.forms.Whose.{Whose}
use Rattle.hwdb_spec_rules.specs.declared.forms.Whose.TheVariants.{BuiltIn, Own, OwnFirst}
use Rattle.hwdb_plan.specs.Device.{all_misuse, asks, by_built_in, by_files, by_files_first, by_rules, device_answer, device_asked, own_plan, own_search, rules_answer, rules_search, search_of, strings_answer}
use Rattle.hwdb_plan.specs.Files.{ask_file, given_files, if_input, is_word, read_files, source_at}
use Rattle.hwdb_plan.specs.Folders.{Texts, choose, if_listed, paths_of, read_texts, texts_of_folders, with_texts}
use Rattle.hwdb_plan.specs.Given.{given_at}
use Rattle.hwdb_plan.specs.Near.{near_database, near_plan}
use Rattle.hwdb_plan.specs.OwnRules.{has_none, own_rules, rules_in, sources_of}
use Rattle.hwdb_plan.specs.OverText.{basis_of, from_basis, if_fit, is_first, said_after, text_plan, with_after}
use Rattle.hwdb_plan.specs.Plans.{End, Ends, Next, Plan, over}
use Rattle.hwdb_plan.specs.Plans.End.{Answers, Stops}
use Rattle.hwdb_plan.specs.Plans.Plan.{Compile, Database, Decode, Done, Folder, Ignored, Input, Inspect, Names, Spell, Text}
use Rattle.hwdb_plan.specs.Report.{Report, found_answer, found_asked, found_given, found_strings, none_found, report_answer}
use Rattle.hwdb_plan.specs.Report as report
use Rattle.hwdb_plan.specs.Requests.{Search, found_plan}
use Rattle.hwdb_plan.specs.Requests.Search.{AtPlace, Below, Fitting, Found}
use Rattle.hwdb_plan.specs.Sysfs.{meant_of, none_there, one_of, place_of, says, sysfs_of}

-- an end is an error or an answer
abbrev pub IsWhole : End → Type 0
IsWhole (Stops s) = Unit {0}
IsWhole (Answers status err out) = Unit {0}
IsWhole e = ⊥

-- so is each end of a plan
unfoldable pub OnlyAnswers : Plan → Type 0
OnlyAnswers (Done e) = IsWhole e
OnlyAnswers (Input path next) = (r : Result (List ℕ) Unread) → OnlyAnswers (next r)
OnlyAnswers (Text path next) = (r : Result (List ℕ) Unread) → OnlyAnswers (next r)
OnlyAnswers (Database path next) = (r : Result (Option (List ℕ)) Unread) → OnlyAnswers (next r)
OnlyAnswers (Names folder next) = (r : Result (List (List ℕ)) Unlisted) → OnlyAnswers (next r)
OnlyAnswers (Folder path next) = (r : Result (Option (List (List ℕ))) Unlisted) → OnlyAnswers (next r)
OnlyAnswers (Ignored folder next) = (r : Result (List (List ℕ)) Unread) → OnlyAnswers (next r)
OnlyAnswers (Spell text next) = (p : Option Position) → OnlyAnswers (next p)
OnlyAnswers (Inspect bytes next) = (t : Option Tree) → OnlyAnswers (next t)
OnlyAnswers (Decode bytes bad next) = (t : Tree) → OnlyAnswers (next t)
OnlyAnswers (Compile etc usr most bad next) = (bytes : List ℕ) → OnlyAnswers (next bytes)

pub only_ends : (w : Reads) (p : Plan) (e : End) → OnlyAnswers p → Ends w p e → IsWhole e
unfolding Ends OnlyAnswers
only_ends w (Done x) e only ends = subst IsWhole (sym ends) only
only_ends w (Input path next) e only ends = only_ends w (next (w.input path)) e (only (w.input path)) ends
only_ends w (Text path next) e only ends = only_ends w (next (w.text path)) e (only (w.text path)) ends
only_ends w (Database path next) e only ends = only_ends w (next (w.database path)) e (only (w.database path)) ends
only_ends w (Names folder next) e only ends = only_ends w (next (w.names folder)) e (only (w.names folder)) ends
only_ends w (Folder path next) e only ends = only_ends w (next (w.folder path)) e (only (w.folder path)) ends
only_ends w (Ignored folder next) e only ends = only_ends w (next (w.ignored folder)) e (only (w.ignored folder)) ends
only_ends w (Spell text next) e only (inl (p, is, ends)) = only_ends w (next (Some p)) e (only (Some p)) ends
only_ends w (Spell text next) e only (inr (none, ends)) = only_ends w (next None) e (only None) ends
only_ends w (Inspect bytes next) e only (inl (t, is, ends)) = only_ends w (next (Some t)) e (only (Some t)) ends
only_ends w (Inspect bytes next) e only (inr (none, ends)) = only_ends w (next None) e (only None) ends
only_ends w (Decode bytes bad next) e only (inl (t, is, ends)) = only_ends w (next t) e (only t) ends
only_ends w (Decode bytes bad next) e only (inr (f, has, is)) = subst IsWhole (sym is) tt
only_ends w (Compile etc usr most bad next) e only (inl (b, is, ends)) = only_ends w (next b) e (only b) ends
only_ends w (Compile etc usr most bad next) e only (inr (x, has, is)) = subst IsWhole (sym is) tt

-- ---- fronts
pub only_choice : (b : Bool) (p q : Plan) → OnlyAnswers p → OnlyAnswers q → OnlyAnswers (if b then p else q)
only_choice true p q one other = one
only_choice false p q one other = other

stops_only : (p : Plan) (e : End) → p ≡ Done e → IsWhole e → OnlyAnswers p
unfolding OnlyAnswers
stops_only p e is whole = subst OnlyAnswers (sym is) whole

abbrev AllOnly : Next → Type 0
AllOnly next = (path bytes : List ℕ) → OnlyAnswers (next path bytes)

only_read : (path : List ℕ) (next : Next) → AllOnly next → (r : Result (List ℕ) Unread) → OnlyAnswers (if_read path next r)
unfolding OnlyAnswers
only_read path next only (Ok bytes) = only path bytes
only_read path next only (Err w) = tt

only_there : (path : List ℕ) (next : Next) (none : Plan) → AllOnly next → OnlyAnswers none → (r : Result (Option (List ℕ)) Unread) → OnlyAnswers (if_there path next none r)
unfolding OnlyAnswers
only_there path next none only other (Ok None) = other
only_there path next none only other (Ok (Some bytes)) = only path bytes
only_there path next none only other (Err w) = tt

pub only_asked : (root : List ℕ) (next : Next) → AllOnly next → OnlyAnswers (asked root next)
unfolding OnlyAnswers
only_asked root next only = λ r. only_there _ next _ only (λ q. only_there _ next _ only tt q) r

-- the files that words name
only_ask_file : (named : Bool) (path : List ℕ) (next : Result (List ℕ) Unread → Plan) → ((r : Result (List ℕ) Unread) → OnlyAnswers (next r)) → OnlyAnswers (ask_file named path next)
unfolding OnlyAnswers
only_ask_file true path next only = only
only_ask_file false path next only = only

only_files : (words : List (List ℕ)) (text : List ℕ) (paths : List (List ℕ)) (read : List Source) (next : List Source → Plan) → ((s : List Source) → OnlyAnswers (next s))
    → OnlyAnswers (read_files words text paths read next)
unfolding read_files
only_files words text [] read next only = only read
only_files words text (path ∷ more) read next only =
    only_choice (is_dash path) _ _ (only_files words text more (read ++ source_at path text ∷ []) next only)
    (only_ask_file (is_word words path) path (if_read path (λ at bytes. read_files words text more (read ++ source_at at bytes ∷ []) next))
    (only_read path _ (λ at bytes. only_files words text more (read ++ source_at at bytes ∷ []) next only)))

only_input : (dash : Bool) (told : Result (List ℕ) Unread) (next : (text : List ℕ) → Plan) → ((text : List ℕ) → OnlyAnswers (next text)) → OnlyAnswers (if_input dash told next)
only_input true told next only = only_read (codes "standard input") (λ at text. next text) (λ at text. only text) told
only_input false told next only = only []

only_given : (words : List (List ℕ)) (told : Result (List ℕ) Unread) (paths : List (List ℕ)) (next : List Source → Plan) → ((s : List Source) → OnlyAnswers (next s))
    → OnlyAnswers (given_files words told paths next)
only_given words told paths next only = only_input (any_dash paths) told _ (λ text. only_files words text paths [] next only)

only_at : (told : Result (List ℕ) Unread) (path : List ℕ) (next : Next) → AllOnly next → OnlyAnswers (given_at told path next)
unfolding OnlyAnswers
only_at told path next only =
    only_choice (is_dash path) (if_read (codes "standard input") next told) (Input path (if_read path next)) (only_read (codes "standard input") next only told) (λ r. only_read path next only r)

-- the text files of both folders
only_texts : (paths texts : List (List ℕ)) (next : List (List ℕ) → Plan) → ((t : List (List ℕ)) → OnlyAnswers (next t)) → OnlyAnswers (read_texts paths texts next)
unfolding OnlyAnswers read_texts
only_texts [] texts next only = only texts
only_texts (path ∷ more) texts next only = only_read path (λ at bytes. read_texts more (texts ++ bytes ∷ []) next) (λ at bytes. only_texts more (texts ++ bytes ∷ []) next only)

only_chosen : (etc usr : List (List ℕ)) (next : List Choice → Plan) → ((c : List Choice) → OnlyAnswers (next c)) → OnlyAnswers (choose etc usr next)
unfolding OnlyAnswers
only_chosen etc usr next only = only_choice (nat_le (length (names etc usr)) max_files) _ _ (only (choice etc usr)) tt

only_listed : {X : Type 0} (folder : List ℕ) (next : X → Plan) → ((x : X) → OnlyAnswers (next x)) → (r : Result X Unlisted) → OnlyAnswers (if_listed folder next r)
unfolding OnlyAnswers
only_listed folder next only (Ok names) = only names
only_listed folder next only (Err u) = tt

only_folders : (root : List ℕ) (next : Texts → Plan) → ((t : Texts) → OnlyAnswers (next t)) → OnlyAnswers (texts_of_folders root next)
unfolding OnlyAnswers
only_folders root next only =
    only_listed _ _ (λ etc. only_listed _ _ (λ usr. only_chosen etc usr _ (λ chosen. only_texts (paths_of root chosen) [] _ (λ texts. only (with_texts usr chosen texts)))))

-- sysfs
only_folder : (place : Option (List ℕ)) (text : List ℕ) (next : (place : List ℕ) → Plan) → ((place : List ℕ) → OnlyAnswers (next place)) → OnlyAnswers (option_map_or next place (says text))
unfolding OnlyAnswers
only_folder None text next only = tt
only_folder (Some place) text next only = only place

only_sysfs : (sight : Sight) (cause root : List ℕ) (next : (sys : List ℕ) → Plan) → ((sys : List ℕ) → OnlyAnswers (next sys)) → OnlyAnswers (sysfs_of sight cause root next)
only_sysfs sight cause root next only = only_folder (sight.place (root ++ codes "/sys")) _ _ (λ sys. only_folder (sight.place (sys ++ codes "/devices")) _ _ (λ devices. only sys))

only_one : (next : (place : List ℕ) → Plan) (several : (places : List (List ℕ)) → Plan) (none : Plan) (places : List (List ℕ)) → ((place : List ℕ) → OnlyAnswers (next place))
    → ((places : List (List ℕ)) → OnlyAnswers (several places)) → OnlyAnswers none → OnlyAnswers (one_of next several none places)
only_one next several none [] only many other = other
only_one next several none (place ∷ []) only many other = only place
only_one next several none (place ∷ next_place ∷ more) only many other = many (place ∷ next_place ∷ more)

says_only : (text : List ℕ) → OnlyAnswers (says text)
unfolding OnlyAnswers
says_only text = tt

only_meant : (sight : Sight) (names : List (List ℕ)) (root given sys : List ℕ) (none : Plan) (next : (place : List ℕ) → Plan) → OnlyAnswers none → ((place : List ℕ) → OnlyAnswers (next place))
    → OnlyAnswers (meant_of sight names root given sys none next)
only_meant sight names root given sys none next other only =
    only_one next (λ places. says (several_text sight names sys given places)) none (places_meant sight names root sys given) only (λ places. says_only (several_text sight names sys given places)) other

only_unread : (path : Option (List ℕ)) (text : (path : List ℕ) → List ℕ) (other : List ℕ) → OnlyAnswers (option_map_or (λ path. says (text path)) path (says other))
only_unread None text other = says_only other
only_unread (Some path) text other = says_only (text path)

only_place : (sight : Sight) (cause : List ℕ) (names : List (List ℕ)) (root given sys : List ℕ) (next : (place : List ℕ) → Plan) → ((place : List ℕ) → OnlyAnswers (next place))
    → OnlyAnswers (place_of sight cause names root given sys next)
only_place sight cause names root given sys next only =
    only_meant sight names root given sys (none_there sight cause names root given sys) next (only_unread (unread_for sight root sys given) _ _) only

only_fit : (misuse : Option (List ℕ)) (p : Plan) → OnlyAnswers p → OnlyAnswers (if_fit misuse p)
unfolding OnlyAnswers
only_fit None p only = only
only_fit (Some text) p only = tt

-- a search
OnlyFound : Search → Type 0
OnlyFound (Found p) = OnlyAnswers p
OnlyFound (Below root next) = (sys : List ℕ) → OnlyFound (next sys)
OnlyFound (AtPlace root given sys next) = (place : List ℕ) → OnlyFound (next place)
OnlyFound (Fitting misuse search) = OnlyFound search

only_search : (sight : Sight) (names : List (List ℕ)) (cause : List ℕ) (s : Search) → OnlyFound s → OnlyAnswers (found_plan sight names cause s)
unfolding OnlyFound
only_search sight names cause (Found p) only = only
only_search sight names cause (Below root next) only = only_sysfs sight cause root _ (λ sys. only_search sight names cause (next sys) (only sys))
only_search sight names cause (AtPlace root given sys next) only = only_place sight cause names root given sys _ (λ place. only_search sight names cause (next place) (only place))
only_search sight names cause (Fitting misuse search) only = only_fit misuse _ (only_search sight names cause search only)

-- ---- commands
pub only_answer : (root : List ℕ) (f : Form) (devices : List (List ℕ)) → OnlyAnswers (answer_plan root f devices)
unfolding OnlyAnswers
only_answer root f devices = only_asked root (answered f devices) (λ path bytes t. tt)

pub only_near : (told : Result (List ℕ) Unread) (given : List (List ℕ)) (root : List ℕ) (f : List PatternAt → List ℕ) → OnlyAnswers (near_plan told given root f)
unfolding OnlyAnswers
only_near told [] root f = only_asked root (near_database f) (λ path bytes t. tt)
only_near told (path ∷ more) root f = only_given (path ∷ more) told (path ∷ more) _ (λ sources. tt)

-- the machine's own rules files
only_rules_in : (root : List ℕ) (f : Folder_) (next : List (List ℕ) → Plan) → ((names : List (List ℕ)) → OnlyAnswers (next names)) → OnlyAnswers (rules_in root f next)
unfolding OnlyAnswers
only_rules_in root f next only = λ r. only_listed (rules_folder root f) next only (rules_told r)

only_own : (root : List ℕ) (next : List Source → Plan) → ((s : List Source) → OnlyAnswers (next s)) → OnlyAnswers (own_rules root next)
only_own root next only =
    only_rules_in root Etc _ (λ etc. only_rules_in root Run _ (λ run. only_rules_in root Local _ (λ local. only_rules_in root Usr _
    (λ usr. only_texts _ [] _ (λ texts. only (sources_of (map rules_path (choice_of etc run local usr)) texts))))))

-- the device at a place, by the rules that count
only_built_in : (sight : Sight) (names : List (List ℕ)) (root : List ℕ) (f : DeviceForm) (sys : List ℕ) (place : Option (List ℕ)) → OnlyAnswers (by_built_in sight names root f sys place)
unfolding OnlyAnswers
only_built_in sight names root f sys None = only_asked root (strings_answer sight None names sys) (λ path bytes t. tt)
only_built_in sight names root f sys (Some place) = only_asked root (device_answer f (device_at sight names sys place)) (λ path bytes t. tt)

only_by_files : (sight : Sight) (root : List ℕ) (f : RulesForm) (sys : List ℕ) (place : Option (List ℕ)) (sources : List Source) → OnlyAnswers (by_files sight root f sys place sources)
unfolding OnlyAnswers
only_by_files sight root f sys None sources = only_asked root (strings_answer sight (Some (files_of sources)) (rules_names sources) sys) (λ path bytes t. tt)
only_by_files sight root f sys (Some place) sources = only_asked root (rules_answer f sources (device_at sight (rules_names sources) sys place)) (λ path bytes t. tt)

only_by_rules : (sight : Sight) (names : List (List ℕ)) (root : List ℕ) (rules : Whose) (sys : List ℕ) (place : Option (List ℕ)) → OnlyAnswers (by_rules sight names root rules sys place)
only_by_rules sight names root (Own f) sys place = only_own root (by_files sight root f sys place) (only_by_files sight root f sys place)
only_by_rules sight names root (OwnFirst f) sys place =
    only_own root (by_files_first sight names root f sys place)
    (λ sources. only_choice (has_none sources) _ _ (only_built_in sight names root f sys place) (only_by_files sight root (asks f) sys place sources))
only_by_rules sight names root (BuiltIn f) sys place = only_built_in sight names root f sys place

-- what words ask for
searched : (sight : Sight) (names : List (List ℕ)) (root : List ℕ) (f : DeviceForm) (udev : Option (List ℕ)) (all : Bool) (given : Option (List ℕ)) → OnlyFound (search_of sight names root f udev all given)
unfolding OnlyAnswers OnlyFound
searched sight own root f udev true given = λ sys. only_by_rules sight own root (whose udev f) sys None
searched sight own root f udev false None = λ sys. tt
searched sight own root f udev false (Some given) = λ sys place. only_by_rules sight own root (whose udev f) sys (Some place)

pub only_device : (sight : Sight) (cause : List ℕ) (names : List (List ℕ)) (root : List ℕ) (f : DeviceForm) (udev : Option (List ℕ)) (all : Bool) (given : Option (List ℕ))
    → OnlyAnswers (device_asked sight cause names root f udev all given)
only_device sight cause names root f udev all given = only_search sight names cause (search_of sight names root f udev all given) (searched sight names root f udev all given)

rules_searched : (sight : Sight) (names : List (List ℕ)) (root : List ℕ) (f : RulesForm) (all : Bool) (given : Option (List ℕ)) → OnlyFound (rules_search sight names root f all given)
unfolding OnlyAnswers OnlyFound
rules_searched sight names root f true given = λ sys. only_by_rules sight names root (Own f) sys None
rules_searched sight names root f false None = tt
rules_searched sight names root f false (Some given) = λ sys place. only_by_rules sight names root (Own f) sys (Some place)

own_searched : (sight : Sight) (names : List (List ℕ)) (root : List ℕ) (f : RulesForm) (udev given : Option (List ℕ)) (all from : Bool) → OnlyFound (own_search sight names root f udev given all from)
unfolding OnlyFound
own_searched sight names root f udev given all from = rules_searched sight names root f all given

pub only_own_device : (sight : Sight) (cause : List ℕ) (names : List (List ℕ)) (root : List ℕ) (f : RulesForm) (udev given : Option (List ℕ)) (all from : Bool)
    → OnlyAnswers (own_plan sight cause names root f udev given all from)
only_own_device sight cause names root f udev given all from =
    only_search sight names cause (own_search sight names root f udev given all from) (own_searched sight names root f udev given all from)

-- an export
only_found_given : (r : Report) (f : DeviceForm) (given : Option (List ℕ)) → OnlyAnswers (found_given r f given)
unfolding OnlyAnswers
only_found_given r f None = tt
only_found_given r f (Some given) =
    only_meant r.sight r.names [] given report.sys (none_found r given) (λ place. asked r.root (found_answer r f place))
    (says_only (no_device_text false given [] (near_given r.sight r.names report.sys given))) (λ place. only_asked r.root (found_answer r f place) (λ path bytes t. tt))

only_found : (r : Report) (f : DeviceForm) (all : Bool) (given : Option (List ℕ)) → OnlyAnswers (found_asked r f all given)
unfolding OnlyAnswers
only_found r f true given = only_fit (all_misuse f given) (asked r.root (found_strings r)) (only_asked r.root (found_strings r) (λ path bytes t. tt))
only_found r f false given = only_found_given r f given

only_export : (b : Bool) (path : List ℕ) (r : Report) (f : DeviceForm) (all : Bool) (given : Option (List ℕ)) → OnlyAnswers (if b then found_asked r f all given else says (no_export_text path))
only_export true path r f all given = only_found r f all given
only_export false path r f all given = says_only (no_export_text path)

pub only_report : (told : Result (List ℕ) Unread) (from : List ℕ) (names : List (List ℕ)) (root : List ℕ) (f : DeviceForm) (all : Bool) (given : Option (List ℕ))
    → OnlyAnswers (given_at told from (report_answer names root f all given))
only_report told from names root f all given =
    only_at told from (report_answer names root f all given)
    (λ path bytes. only_export (is_export bytes) path (record { sight = export_sight bytes; lacks = without_machine path bytes; names = names; root = root }) f all given)

-- ---- `--text`
pub only_over : (is : List ℕ → Bool) (made : List ℕ) (p : Plan) → OnlyAnswers p → OnlyAnswers (over is made p)
unfolding OnlyAnswers over
only_over is made (Done e) only = only
only_over is made (Input path next) only = only_choice (is path) _ _ (only_over is made (next (Ok made)) (only (Ok made))) (λ r. only_over is made (next r) (only r))
only_over is made (Text path next) only = only_choice (is path) _ _ (only_over is made (next (Ok made)) (only (Ok made))) (λ r. only_over is made (next r) (only r))
only_over is made (Database path next) only = only_choice (is path) _ _ (only_over is made (next (Ok (Some made))) (only (Ok (Some made)))) (λ r. only_over is made (next r) (only r))
only_over is made (Names folder next) only = λ r. only_over is made (next r) (only r)
only_over is made (Folder path next) only = only_choice (is path) _ _ (only_over is made (next (Ok None)) (only (Ok None))) (λ r. only_over is made (next r) (only r))
only_over is made (Ignored folder next) only = λ r. only_over is made (next r) (only r)
only_over is made (Spell text next) only = λ p. only_over is made (next p) (only p)
only_over is made (Inspect bytes next) only = λ t. only_over is made (next t) (only t)
only_over is made (Decode bytes bad next) only = λ t. only_over is made (next t) (only t)
only_over is made (Compile etc usr most bad next) only = λ b. only_over is made (next b) (only b)

whole_after : (text : List ℕ) (e : End) → IsWhole e → IsWhole (with_after text e)
whole_after text (Stops s) whole = tt
whole_after text (Answers status err out) whole = tt
whole_after text e whole = absurd whole

only_after : (text : List ℕ) (p : Plan) → OnlyAnswers p → OnlyAnswers (said_after text p)
unfolding OnlyAnswers said_after
only_after text (Done e) only = whole_after text e only
only_after text (Input path next) only = λ r. only_after text (next r) (only r)
only_after text (Text path next) only = λ r. only_after text (next r) (only r)
only_after text (Database path next) only = λ r. only_after text (next r) (only r)
only_after text (Names folder next) only = λ r. only_after text (next r) (only r)
only_after text (Folder path next) only = λ r. only_after text (next r) (only r)
only_after text (Ignored folder next) only = λ r. only_after text (next r) (only r)
only_after text (Spell at next) only = λ p. only_after text (next p) (only p)
only_after text (Inspect bytes next) only = λ t. only_after text (next t) (only t)
only_after text (Decode bytes bad next) only = λ t. only_after text (next t) (only t)
only_after text (Compile etc usr most bad next) only = λ b. only_after text (next b) (only b)

pub only_text : (misuse : Option (List ℕ)) (root : List ℕ) (besides : Texts → List ℕ) (p : Plan) → OnlyAnswers p → OnlyAnswers (if_fit misuse (text_plan root besides p))
unfolding OnlyAnswers
only_text misuse root besides p only =
    only_fit misuse _ (only_folders root (λ (texts : Texts). basis_of besides texts (from_basis root p)) (λ texts database. only_after (besides texts) (over (is_first root) database p) (only_over (is_first root) database p only)))
