-- Two runs with the same words are one.
use Rattle.std.proofs.Common.{arith, ◌<◌, ◌≤◌, ◌≡◌, ◌≢◌, ◌∙◌, ◌++◌, ◌⊎◌, ◌∷◌, ⊎_elim, inl, inr, ap, refl, subst, sym, length, map, Bool, IfSome, List, Option, None, Result, Some, Ok, Err, ℕ, [], true, false}
use Rattle.std.specs.Option.{option_map_or}
use Rattle.std.specs.Prelude.{codes, if◌then◌else◌, nat_le, option_map}
use Rattle.clap.specs.Simple.{matches_of, subcommand_of}
use Rattle.clap.specs.Walk.{Row, Text}
use Rattle.hwdb_spec.specs.Folders.{Choice, Source, choice, max_files, names}
use Rattle.hwdb_spec.specs.System.{etc_files, usr_files}
use Rattle.hwdb_spec_commands.specs.CheckedFiles.{files_in, folder_of}
use Rattle.hwdb_spec_commands.specs.CommandLine.{hwdb_app}
use Rattle.hwdb_spec_commands.specs.DeviceAsked.{missing_text, no_sysfs_text, unread_text}
use Rattle.hwdb_spec_commands.specs.DeviceFound.{places_meant, several_text}
use Rattle.hwdb_spec_commands.specs.DeviceTree.{Sight, unread_for}
use Rattle.hwdb_spec_commands.specs.Given.{any_dash, is_dash}
use Rattle.hwdb_spec_commands.specs.Jobs.{has_flag, text_taker}
use Rattle.hwdb_spec_commands.specs.Runs.{Told, World}
use Rattle.hwdb_spec_commands.specs.Sides.{as_etc, names_text}
use Rattle.hwdb_spec_commands.specs.Told.{Reads, Stop, Unlisted, stop_of, unread_stop}
use Rattle.hwdb_spec_commands.specs.Told.Stop.{Plain, Says}
use Rattle.hwdb_spec.specs.declared.errors.ToolError.TheVariants.{BadDatabase, BadPosition, Memory as OutOfMemory, Read, Replace, TooLarge, TooLong, TooManyFiles, TooManyLines, Write}
use Rattle.hwdb_spec.specs.Texts.{max_file}
use Rattle.hwdb_spec_commands.specs.AnsweredLines.{line_error}
use Rattle.hwdb_spec.specs.Failures.{HasFailed}
use Rattle.hwdb_spec_commands.specs.declared.refusals.Refusal.{Refusal}
use Rattle.hwdb_spec_commands.specs.declared.refusals.Refusal.TheVariants as refusal
use Rattle.hwdb_spec_commands.specs.declared.unread.Unread.{Unread}
use Rattle.hwdb_spec_commands.specs.declared.unread.Unread.TheVariants as unread
use Rattle.hwdb_plan.specs.Advice.{advised, advised_if, with_advice}
use Rattle.hwdb_plan.specs.Asking.{if_read}
use Rattle.hwdb_plan.specs.Baseline.{if_marked, over_baseline}
use Rattle.hwdb_plan.specs.Sysfs.{folder_of as folder_place, none_there, one_of, place_of, says, sysfs_of}
use Rattle.hwdb_spec_program.specs.DeviceErrors.{asked_names}
use Rattle.hwdb_plan.specs.Ended.{Leaves, OnLines, Outs, ScanStops, Shows, ShowsEnd, StreamStops, Streamed}
use Rattle.hwdb_plan.specs.Files.{ask_file, given_files, if_input, is_word, read_files, source_at}
use Rattle.hwdb_plan.specs.Folders.{Texts, choose, if_listed, names_of, paths_of, read_texts, texts_of_folders, texts_of_names, with_texts}
use Rattle.hwdb_plan.specs.Given.{given_at, given_or_asked}
use Rattle.hwdb_plan.specs.GivenFolders.{files_at, files_for, if_few, if_folder, named_files}
use Rattle.hwdb_plan.specs.Input.{IsInputTold}
use Rattle.hwdb_plan.specs.Laws.{DoneIsOne, OverIsNoMore, OverIsOver}
use Rattle.hwdb_plan.specs.Lemmas.Advice.{advised_is_no_more, advised_is_said}
use Rattle.hwdb_plan.specs.Lemmas.Ends.{leaves_one, nothing_changed}
use Rattle.hwdb_plan.specs.Lemmas.OverText.{said_is_after, said_is_no_more}
use Rattle.hwdb_plan.specs.OverText.{Basis, basis, basis_of, from_basis, if_fit, is_first, text_plan, with_after}
use Rattle.hwdb_plan.specs.Plans.{End, Ends, Next, Plan, over, reads_over}
use Rattle.hwdb_plan.specs.Plans.End.{Answers, Lines, Replaces, Scans, Stops, Streams}
use Rattle.hwdb_plan.specs.Plans.Plan.{Done, Input}
use Rattle.hwdb_spec_program.specs.ProgramPlan.{ShowsPlan, advice_given, as_given, command_of, files_plan, over_texts, program_plan, root_given, said_by, shown_plan}
use Rattle.hwdb_plan.specs.Requests.{Around, Command, Request, Search, found_plan, plan_of, told_plan}
use Rattle.hwdb_plan.specs.Requests.Command.{OfDevices, OfFiles}
use Rattle.hwdb_plan.specs.Requests.Request.{Alone, AtPath, Fit, Meant, OfBase, OfSide, Over, Texts as OfTexts}
use Rattle.hwdb_plan.specs.Requests.Search.{AtPlace, Below, Fitting, Found}
use Rattle.hwdb_laws.specs.PlannedRuns.{HavePlan, PlannedDoneIsNoError, PlannedRunsAreOne, Tells}
use Rattle.hwdb_plan.specs.Sides.{bytes_if, file_bytes, made_at, made_of, plain_side, root_made, side, taken_from}
use Rattle.hwdb_spec_commands.specs.Baselines.{marks_in}

-- an end that is no error
abbrev pub IsDone : End → Type 0
IsDone e = (s : Stop) → e ≢ Stops s

one_some : {X : Type 0} (x y : X) → Some x ≡ Some y → x ≡ y
one_some x y is = cc

-- a plan's end is that of another plan, unless it is lost
module _ (w : Reads) (e : End) (Lost : Type 0) where
  abbrev Moves : (p q : Plan) → Type 0
  Moves p q = Ends w p e → Ends w q e ⊎ Lost

  lost_at : {X : Type 0} (s : Stop) → (e ≡ Stops s → Lost) → Ends w (Done (Stops s)) e → X ⊎ Lost
  unfolding Ends
  lost_at s lost ends = inr (lost ends)

  -- an input that wasn't read: the end that says so is lost
  abbrev pub IsSpare : Result (List ℕ) Unread → Type 0
  IsSpare (Ok bytes) = ⊥
  IsSpare (Err why) = e ≡ Stops (unread_stop (codes "standard input") why) → Lost

  -- what another run is told is the same, or this one did without it
  abbrev pub Serves : (one other : Result (List ℕ) Unread) → Type 0
  Serves one other = (one ≡ other) ⊎ IsSpare one

  -- ---- fronts: what follows them moves
  read_moves : (path : List ℕ) (one two : Next) → ((bytes : List ℕ) → Moves (one path bytes) (two path bytes)) → (told : Result (List ℕ) Unread) → Moves (if_read path one told) (if_read path two told)
  read_moves path one two step (Ok bytes) ends = step bytes ends
  read_moves path one two step (Err why) ends = inl ends

  file_moves : (word : Bool) (path : List ℕ) (one two : Next) → ((bytes : List ℕ) → Moves (one path bytes) (two path bytes)) → Moves (ask_file word path (if_read path one)) (ask_file word path (if_read path two))
  unfolding Ends
  file_moves true path one two step = read_moves path one two step (w.input path)
  file_moves false path one two step = read_moves path one two step (w.text path)

  sources_move : (words : List (List ℕ)) (text : List ℕ) (paths : List (List ℕ)) (read : List Source) (one two : List Source → Plan) → ((sources : List Source) → Moves (one sources) (two sources))
      → Moves (read_files words text paths read one) (read_files words text paths read two)
  unfolding read_files
  sources_move words text [] read one two step = step read
  sources_move words text (path ∷ more) read one two step = by (λ bytes. sources_move words text more (read ++ source_at path bytes ∷ []) one two step) (is_dash path)
    where
      rest : (next : List Source → Plan) (at bytes : List ℕ) → Plan
      rest next at bytes = read_files words text more (read ++ source_at at bytes ∷ []) next

      by : ((bytes : List ℕ) → Moves (rest one path bytes) (rest two path bytes)) → (b : Bool) → Moves (if b then rest one path text else ask_file (is_word words path) path (if_read path (rest one)))
          (if b then rest two path text else ask_file (is_word words path) path (if_read path (rest two)))
      by again true = again text
      by again false = file_moves (is_word words path) path (rest one) (rest two) again

  names_move : (folder : List ℕ) (one two : List (List ℕ) → Plan) → ((names : List (List ℕ)) → Moves (one names) (two names)) → Moves (names_of folder one) (names_of folder two)
  unfolding Ends
  names_move folder one two step = by (w.names folder)
    where
      by : (told : Result (List (List ℕ)) Unlisted) → Moves (if_listed folder one told) (if_listed folder two told)
      by (Ok found) ends = step found ends
      by (Err why) ends = inl ends

  choice_moves : (etc usr : List (List ℕ)) (one two : List Choice → Plan) → ((chosen : List Choice) → Moves (one chosen) (two chosen)) → Moves (choose etc usr one) (choose etc usr two)
  choice_moves etc usr one two step = by (nat_le (length (names etc usr)) max_files)
    where
      by : (b : Bool) → Moves (if b then one (choice etc usr) else Done (Stops (Plain TooManyFiles))) (if b then two (choice etc usr) else Done (Stops (Plain TooManyFiles)))
      by true ends = step (choice etc usr) ends
      by false ends = inl ends

  texts_move : (paths texts : List (List ℕ)) (one two : List (List ℕ) → Plan) → ((texts : List (List ℕ)) → Moves (one texts) (two texts)) → Moves (read_texts paths texts one) (read_texts paths texts two)
  unfolding read_texts Ends
  texts_move [] texts one two step = step texts
  texts_move (path ∷ more) texts one two step =
      read_moves path (λ at bytes. read_texts more (texts ++ bytes ∷ []) one) (λ at bytes. read_texts more (texts ++ bytes ∷ []) two) (λ bytes. texts_move more (texts ++ bytes ∷ []) one two step) (w.text path)

  folders_move : (root : List ℕ) (one two : Texts → Plan) → ((texts : Texts) → Moves (one texts) (two texts)) → Moves (texts_of_folders root one) (texts_of_folders root two)
  folders_move root one two step =
      names_move (etc_files root) (λ etc. names_of (usr_files root) (λ usr. texts_of_names root etc usr one)) (λ etc. names_of (usr_files root) (λ usr. texts_of_names root etc usr two))
      (λ etc. names_move (usr_files root) (λ usr. texts_of_names root etc usr one) (λ usr. texts_of_names root etc usr two)
      (λ usr. choice_moves etc usr (λ chosen. read_texts (paths_of root chosen) [] (λ texts. one (with_texts usr chosen texts))) (λ chosen. read_texts (paths_of root chosen) [] (λ texts. two (with_texts usr chosen texts)))
      (λ chosen. texts_move (paths_of root chosen) [] (λ texts. one (with_texts usr chosen texts)) (λ texts. two (with_texts usr chosen texts)) (λ texts. step (with_texts usr chosen texts)))))

  -- ---- standard input
  input_moves : (one other : Result (List ℕ) Unread) (next next2 : List ℕ → Plan) → ((text : List ℕ) → Moves (next text) (next2 text)) → Serves one other
      → Moves (if_read (codes "standard input") (λ at text. next text) one) (if_read (codes "standard input") (λ at text. next2 text) other)
  input_moves one other next next2 step (inl same) ends =
      subst (λ (t : Result (List ℕ) Unread). Ends w (if_read (codes "standard input") (λ at text. next2 text) t) e ⊎ Lost) same
      (read_moves (codes "standard input") (λ at text. next text) (λ at text. next2 text) step one ends)
  input_moves (Ok bytes) other next next2 step (inr spare) ends = absurd spare
  input_moves (Err why) other next next2 step (inr spare) ends = lost_at (unread_stop (codes "standard input") why) spare ends

  given_moves : (one other : Result (List ℕ) Unread) (path : List ℕ) (next : Next) → Serves one other → Moves (given_at one path next) (given_at other path next)
  given_moves one other path next serves = by (is_dash path) one serves
    where
      by : (b : Bool) (told : Result (List ℕ) Unread) → Serves told other → Moves (if b then if_read (codes "standard input") next told else Input path (if_read path next))
          (if b then if_read (codes "standard input") next other else Input path (if_read path next))
      by false told serves ends = inl ends
      by true told (inl same) ends = inl (subst (λ t. Ends w (if_read (codes "standard input") next t) e) same ends)
      by true (Ok bytes) (inr spare) ends = absurd spare
      by true (Err why) (inr spare) ends = lost_at (unread_stop (codes "standard input") why) spare ends

  named_moves : (one other : Result (List ℕ) Unread) (given : Option (List ℕ)) (root : List ℕ) (next : Next) → Serves one other → Moves (given_or_asked one given root next) (given_or_asked other given root next)
  named_moves one other None root next serves ends = inl ends
  named_moves one other (Some path) root next serves ends = given_moves one other path next serves ends

  files_step : (words paths : List (List ℕ)) (one other : Result (List ℕ) Unread) (next next2 : List Source → Plan) → ((sources : List Source) → Moves (next sources) (next2 sources)) → Serves one other
      → Moves (given_files words one paths next) (given_files words other paths next2)
  files_step words paths one other next next2 step serves = by (any_dash paths) one serves
    where
      rest : (next : List Source → Plan) (text : List ℕ) → Plan
      rest next text = read_files words text paths [] next

      by : (b : Bool) (told : Result (List ℕ) Unread) → Serves told other → Moves (if_input b told (rest next)) (if_input b other (rest next2))
      by false told serves = sources_move words [] paths [] next next2 step
      by true told serves = input_moves told other (rest next) (rest next2) (λ text. sources_move words text paths [] next next2 step) serves

  files_move : (words paths : List (List ℕ)) (one other : Result (List ℕ) Unread) (next : List Source → Plan) → Serves one other → Moves (given_files words one paths next) (given_files words other paths next)
  files_move words paths one other next serves = files_step words paths one other next next (λ sources ends. inl ends) serves

  -- ---- what given paths mean, and then what follows that
  module _ (one two : List (List ℕ) → Plan) (step : (paths : List (List ℕ)) → Moves (one paths) (two paths)) where
    few_moves : (path : List ℕ) (found : List (List ℕ)) → Moves (if_few path found one) (if_few path found two)
    few_moves path found = by (nat_le (length (names found [])) max_files)
      where
        by : (b : Bool) → Moves (if b then one (files_in path found) else Done (Stops (Plain TooManyFiles))) (if b then two (files_in path found) else Done (Stops (Plain TooManyFiles)))
        by true ends = step (files_in path found) ends
        by false ends = inl ends

    listed_moves : (path : List ℕ) (told : Result (Option (List (List ℕ))) Unlisted)
        → Moves (if_listed (folder_of path) (λ found. if_folder path found one) told) (if_listed (folder_of path) (λ found. if_folder path found two) told)
    listed_moves path (Ok None) ends = step (path ∷ []) ends
    listed_moves path (Ok (Some found)) ends = few_moves path found ends
    listed_moves path (Err why) ends = inl ends

    path_moves : (path : List ℕ) → Moves (files_for path one) (files_for path two)
    unfolding Ends
    path_moves path = by (is_dash path)
      where
        by : (b : Bool) → Moves (if b then one (path ∷ []) else files_at path one) (if b then two (path ∷ []) else files_at path two)
        by true ends = step (path ∷ []) ends
        by false ends = listed_moves path (w.folder (folder_of path)) ends

  paths_move : (given paths : List (List ℕ)) (one two : List (List ℕ) → Plan) → ((paths : List (List ℕ)) → Moves (one paths) (two paths)) → Moves (named_files given paths one) (named_files given paths two)
  unfolding named_files
  paths_move [] paths one two step = step paths
  paths_move (path ∷ more) paths one two step =
      path_moves (λ own. named_files more (paths ++ own) one) (λ own. named_files more (paths ++ own) two) (λ own. paths_move more (paths ++ own) one two step) path

  -- ---- a side of `diff`
  module _ (one two : List ℕ → Plan) (step : (bytes : List ℕ) → Moves (one bytes) (two bytes)) where
    made_moves : (etc usr : List Source) → Moves (made_of etc usr one) (made_of etc usr two)
    unfolding Ends
    made_moves etc usr (inl (bytes, made, ends)) = ⊎_elim (λ moved. inl (inl (bytes, made, moved))) (λ lost. inr lost) (step bytes ends)
    made_moves etc usr (inr bad) = inl (inr bad)

    own_moves : (path : List ℕ) (own : List (List ℕ)) → Moves (made_at path own one) (made_at path own two)
    own_moves path own = sources_move (path ∷ []) [] own [] (λ sources. made_of (map as_etc sources) [] one) (λ sources. made_of (map as_etc sources) [] two) (λ sources. made_moves (map as_etc sources) [])

    root_moves : (path : List ℕ) (names : List (List ℕ)) (chosen : List Choice) (texts : List (List ℕ)) → Moves (root_made path names chosen texts one) (root_made path names chosen texts two)
    root_moves path [] [] texts ends = inl ends
    root_moves path (name ∷ more) [] texts ends = few_moves (λ own. made_at path own one) (λ own. made_at path own two) (own_moves path) path (name ∷ more) ends
    root_moves path found (c ∷ chosen) texts ends = made_moves (taken_from true (c ∷ chosen) texts) (taken_from false (c ∷ chosen) texts) ends

    file_side_moves : (path : List ℕ) → Moves (file_bytes path one) (file_bytes path two)
    unfolding Ends
    file_side_moves path = by (names_text path)
      where
        by : (b : Bool) → Moves (if b then made_at path (path ∷ []) one else Input path (if_read path (λ at bytes. one bytes))) (if b then made_at path (path ∷ []) two else Input path (if_read path (λ at bytes. two bytes)))
        by true = own_moves path (path ∷ [])
        by false = read_moves path (λ at bytes. one bytes) (λ at bytes. two bytes) step (w.input path)

    found_side_moves : (path : List ℕ) (told : Result (Option (List (List ℕ))) Unlisted) → Moves (if_listed (folder_of path) (λ found. bytes_if path found one) told) (if_listed (folder_of path) (λ found. bytes_if path found two) told)
    found_side_moves path (Ok None) ends = file_side_moves path ends
    found_side_moves path (Ok (Some found)) ends =
        folders_move (folder_of path) (λ texts. root_made path found texts.chosen texts.texts one) (λ texts. root_made path found texts.chosen texts.texts two) (λ texts. root_moves path found texts.chosen texts.texts) ends
    found_side_moves path (Err why) ends = inl ends

    plain_side_moves : (path : List ℕ) → Moves (plain_side path one) (plain_side path two)
    unfolding Ends
    plain_side_moves path = found_side_moves path (w.folder (folder_of path))

    side_moves : (told other : Result (List ℕ) Unread) (path : List ℕ) → Serves told other → Moves (side told path one) (side other path two)
    side_moves told other path serves = by (is_dash path)
      where
        by : (b : Bool) → Moves (if b then if_read (codes "standard input") (λ at bytes. one bytes) told else plain_side path one)
            (if b then if_read (codes "standard input") (λ at bytes. two bytes) other else plain_side path two)
        by true = input_moves told other one two step serves
        by false = plain_side_moves path

  -- ---- sysfs: the words of a cause are in errors alone
  module _ (sight : Sight) (cause other : List ℕ) (lost : (text : List ℕ) → e ≡ Stops (Says text) → Lost) where
    folder_moves : (path : List ℕ) (one two : List ℕ → Plan) → ((place : List ℕ) → Moves (one place) (two place)) → Moves (folder_place sight cause path one) (folder_place sight other path two)
    folder_moves path one two step = by (sight.place path)
      where
        by : (o : Option (List ℕ)) → Moves (option_map_or one o (says (no_sysfs_text path cause))) (option_map_or two o (says (no_sysfs_text path other)))
        by None ends = lost_at (Says (no_sysfs_text path cause)) (lost (no_sysfs_text path cause)) ends
        by (Some place) ends = step place ends

    sysfs_moves : (root : List ℕ) (one two : List ℕ → Plan) → ((sys : List ℕ) → Moves (one sys) (two sys)) → Moves (sysfs_of sight cause root one) (sysfs_of sight other root two)
    sysfs_moves root one two step =
        folder_moves (root ++ codes "/sys") (λ sys. folder_place sight cause (sys ++ codes "/devices") (λ devices. one sys)) (λ sys. folder_place sight other (sys ++ codes "/devices") (λ devices. two sys))
        (λ sys. folder_moves (sys ++ codes "/devices") (λ devices. one sys) (λ devices. two sys) (λ devices. step sys))

    place_moves : (root given sys : List ℕ) (one two : List ℕ → Plan) → ((place : List ℕ) → Moves (one place) (two place))
        → Moves (place_of sight cause asked_names root given sys one) (place_of sight other asked_names root given sys two)
    place_moves root given sys one two step = by (places_meant sight asked_names root sys given)
      where
        none : (u : Option (List ℕ)) → Moves (option_map_or (λ path. says (unread_text path cause)) u (says (missing_text sight asked_names root sys given cause)))
            (option_map_or (λ path. says (unread_text path other)) u (says (missing_text sight asked_names root sys given other)))
        none None ends = lost_at (Says (missing_text sight asked_names root sys given cause)) (lost (missing_text sight asked_names root sys given cause)) ends
        none (Some path) ends = lost_at (Says (unread_text path cause)) (lost (unread_text path cause)) ends

        by : (places : List (List ℕ)) → Moves (one_of one (λ l. says (several_text sight asked_names sys given l)) (none_there sight cause asked_names root given sys) places)
            (one_of two (λ l. says (several_text sight asked_names sys given l)) (none_there sight other asked_names root given sys) places)
        by [] ends = none (unread_for sight root sys given) ends
        by (place ∷ []) ends = step place ends
        by (place ∷ more_places ∷ more) ends = inl ends

    search_moves : (search : Search) → Moves (found_plan sight asked_names cause search) (found_plan sight asked_names other search)
    search_moves (Found p) ends = inl ends
    search_moves (Below root next) ends =
        sysfs_moves root (λ sys. found_plan sight asked_names cause (next sys)) (λ sys. found_plan sight asked_names other (next sys)) (λ sys. search_moves (next sys)) ends
    search_moves (AtPlace root given sys next) ends =
        place_moves root given sys (λ place. found_plan sight asked_names cause (next place)) (λ place. found_plan sight asked_names other (next place)) (λ place. search_moves (next place)) ends
    search_moves (Fitting None search) ends = search_moves search ends
    search_moves (Fitting (Some text) search) ends = inl ends

  -- ---- files
  -- a baseline is no standard input
  baseline_moves : (path : Option (List ℕ)) (p q : List (List ℕ) → Plan) → ((known : List (List ℕ)) → Moves (p known) (q known)) → Moves (over_baseline path p) (over_baseline path q)
  unfolding Ends
  baseline_moves None p q step = step []
  baseline_moves (Some path) p q step =
      read_moves path (λ at bytes. if_marked at (marks_in bytes) p) (λ at bytes. if_marked at (marks_in bytes) q) (λ bytes. marked_moves path (marks_in bytes)) (w.input path)
    where
      marked_moves : (at : List ℕ) (marks : Result (List (List ℕ)) ℕ) → Moves (if_marked at marks p) (if_marked at marks q)
      marked_moves at (Ok known) ends = step known ends
      marked_moves at (Err number) ends = inl ends

  request_moves : (one other : Result (List ℕ) Unread) → Serves one other → (request : Request) → Moves (told_plan one request) (told_plan other request)
  request_moves one other serves (Alone p) ends = inl ends
  request_moves one other serves (AtPath path next) ends = given_moves one other path next serves ends
  request_moves one other serves (OfBase given root next) ends = named_moves one other given root next serves ends
  request_moves one other serves (Over baseline next) ends =
      baseline_moves baseline (λ known. told_plan one (next known)) (λ known. told_plan other (next known)) (λ known. request_moves one other serves (next known)) ends
  request_moves one other serves (Meant given next) ends =
      paths_move given [] (λ paths. told_plan one (next paths)) (λ paths. told_plan other (next paths)) (λ paths. request_moves one other serves (next paths)) ends
  request_moves one other serves (OfTexts words paths next) ends =
      files_step words paths one other (λ sources. told_plan one (next sources)) (λ sources. told_plan other (next sources)) (λ sources. request_moves one other serves (next sources)) serves ends
  request_moves one other serves (OfSide path next) ends =
      side_moves (λ bytes. told_plan one (next bytes)) (λ bytes. told_plan other (next bytes)) (λ bytes. request_moves one other serves (next bytes)) one other path serves ends
  request_moves one other serves (Fit None request) ends = request_moves one other serves request ends
  request_moves one other serves (Fit (Some text) request) ends = inl ends

  -- the words of a cause are the same, or an end in them is lost
  abbrev pub AreServed : (cause cause2 : List ℕ) → Type 0
  AreServed cause cause2 = (cause ≡ cause2) ⊎ ((text : List ℕ) → e ≡ Stops (Says text) → Lost)

  module _ (sight : Sight) (cause cause2 : List ℕ) (one other : Result (List ℕ) Unread) (serves : Serves one other) (causes : AreServed cause cause2) where
    abbrev first : Around
    first = record { input = one; sight = sight; cause = cause }

    abbrev second : Around
    second = record { input = other; sight = sight; cause = cause2 }

    command_moves : (command : Command) → Moves (plan_of asked_names first command) (plan_of asked_names second command)
    command_moves (OfFiles request) ends = request_moves one other serves request ends
    command_moves (OfDevices search) ends = by causes
      where
        by : AreServed cause cause2 → Ends w (found_plan sight asked_names cause2 search) e ⊎ Lost
        by (inl same) = inl (subst (λ (c : List ℕ). Ends w (found_plan sight asked_names c search) e) same ends)
        by (inr lost) = search_moves sight cause cause2 lost search ends

    found_moves : (found : Option Command) (p q : Plan) → option_map (plan_of asked_names first) found ≡ Some p → option_map (plan_of asked_names second) found ≡ Some q → Moves p q
    found_moves None p q is is2 ends = absurd cc
    found_moves (Some command) p q is is2 ends =
        subst (λ (x : Plan). Ends w x e ⊎ Lost) (one_some (plan_of asked_names second command) q is2)
        (command_moves command (subst (λ (x : Plan). Ends w x e) (sym (one_some (plan_of asked_names first command) p is)) ends))

-- ---- `--text`
-- the plan over other bytes in a place ends in what the plan ends in over a file system with these bytes there
abbrev pub OverLaws : Type 0
OverLaws = OverIsOver × OverIsNoMore

-- another end stops as this one does
abbrev StopsAs : (e f : End) → Type 0
StopsAs e f = (s : Stop) → f ≡ Stops s → e ≡ Stops s

serves_as : (w x : Reads) (e f : End) (Lost : Type 0) → StopsAs e f → (one other : Result (List ℕ) Unread) → Serves w e Lost one other → Serves x f Lost one other
serves_as w x e f Lost so one other (inl same) = inl same
serves_as w x e f Lost so (Ok bytes) other (inr spare) = absurd spare
serves_as w x e f Lost so (Err why) other (inr spare) = inr (λ is. spare (so (unread_stop (codes "standard input") why) is))

served_as : (w x : Reads) (e f : End) (Lost : Type 0) → StopsAs e f → (cause cause2 : List ℕ) → AreServed w e Lost cause cause2 → AreServed x f Lost cause cause2
served_as w x e f Lost so cause cause2 (inl same) = inl same
served_as w x e f Lost so cause cause2 (inr lost) = inr (λ text is. lost text (so (Says text) is))

module _ (laws : OverLaws) (w : Reads) (e : End) (Lost : Type 0) (p q : Plan) (step : (x : Reads) (f : End) → StopsAs e f → Moves x f Lost p q) where
  basis_moves : (root : List ℕ) (b : Basis) → Moves w e Lost (from_basis root p b) (from_basis root q b)
  basis_moves root b ends =
      let is = is_first root in
      let said = said_is_no_more b.besides w (over is b.database p) e ends in
      let below = laws.1 is b.database w p said.0 said.1 in
      ⊎_elim
      (λ moved. inl (subst (λ (x : End). Ends w (from_basis root q b) x) (sym said.2) (said_is_after b.besides w (over is b.database q) said.0 (laws.0 is b.database w q said.0 moved))))
      (λ lost. inr lost)
      (step (reads_over is b.database w) said.0 (λ s stops. said.2 ∙ ap (with_after b.besides) stops) below)

  text_plan_moves : (root : List ℕ) (besides : Texts → List ℕ) → Moves w e Lost (text_plan root besides p) (text_plan root besides q)
  text_plan_moves root besides =
      folders_move w e Lost root (λ texts. basis_of besides texts (from_basis root p)) (λ texts. basis_of besides texts (from_basis root q))
      (λ texts. made_moves w e Lost (λ d. from_basis root p (basis (besides texts) d)) (λ d. from_basis root q (basis (besides texts) d)) (λ d. basis_moves root (basis (besides texts) d))
      (taken_from true texts.chosen texts.texts) (taken_from false texts.chosen texts.texts))

  fit_moves : (root : List ℕ) (misfit : Option Text) (besides : Texts → List ℕ) → Moves w e Lost (if_fit misfit (text_plan root besides p)) (if_fit misfit (text_plan root besides q))
  fit_moves root None besides ends = text_plan_moves root besides ends
  fit_moves root (Some text) besides ends = inl ends

  taker_moves : (root : List ℕ) (t : Option (Option Text)) (besides : Texts → List ℕ) → Moves w e Lost (over_texts root t besides p) (over_texts root t besides q)
  taker_moves root None besides ends = step w e (λ s is. is) ends
  taker_moves root (Some misfit) besides ends = fit_moves root misfit besides ends

  given_words_move : (top : List Row) (found : Option (Text × List Row)) → Moves w e Lost (as_given top found p) (as_given top found q)
  given_words_move top None ends = step w e (λ s is. is) ends
  given_words_move top (Some found) ends = by (has_flag (codes "text") found.1) ends
    where
      taken : Option (Option Text)
      taken = text_taker found.0 found.1

      besides : Texts → List ℕ
      besides = said_by found.0 found.1

      by : (b : Bool) → Moves w e Lost (if b then over_texts (root_given top found.1) taken besides p else p) (if b then over_texts (root_given top found.1) taken besides q else q)
      by true ends = taker_moves (root_given top found.1) taken besides ends
      by false ends = step w e (λ s is. is) ends

-- what a plan became
pub mapped : (f : Plan → Plan) (o : Option Plan) (p : Plan) → option_map f o ≡ Some p → (x : Plan) × (o ≡ Some x) × (f x ≡ p)
mapped f None p is = absurd cc
mapped f (Some x) p is = (x, refl, one_some (f x) p is)

words_move : OverLaws → (w : Reads) (e : End) (Lost : Type 0) (sight : Sight) (cause cause2 : List ℕ) (one other : Result (List ℕ) Unread) → Serves w e Lost one other → AreServed w e Lost cause cause2
    → (words : List Text) (p q : Plan) → program_plan (record { input = one; sight = sight; cause = cause }) words ≡ Some p → program_plan (record { input = other; sight = sight; cause = cause2 }) words ≡ Some q
    → Moves w e Lost p q
words_move laws w e Lost sight cause cause2 one other serves causes words p q is is2 ends =
    let top = matches_of hwdb_app words in
    let found = subcommand_of hwdb_app words in
    let a : Around = record { input = one; sight = sight; cause = cause } in
    let b : Around = record { input = other; sight = sight; cause = cause2 } in
    let x = mapped (as_given top found) (files_plan a words) p is in
    let y = mapped (as_given top found) (files_plan b words) q is2 in
    let moved = given_words_move laws w e Lost x.0 y.0
    (λ r f so. found_moves r f Lost sight cause cause2 one other (serves_as w r e f Lost so one other serves) (served_as w r e f Lost so cause cause2 causes) (command_of sight words) x.0 y.0 x.1 y.1) top found in
    subst (λ (z : Plan). Ends w z e ⊎ Lost) y.2 (moved (subst (λ (z : Plan). Ends w z e) (sym x.2) ends))

-- on a terminal the line of a command moves with its plan
module _ (w : Reads) (e : End) (Lost : Type 0) (p q : Plan) (step : (f : End) → StopsAs e f → Moves w f Lost p q) where
  advised_moves : (line : List ℕ) → Moves w e Lost (advised line p) (advised line q)
  advised_moves line ends =
      let said = advised_is_no_more line w p e ends in
      ⊎_elim (λ moved. inl (subst (λ (x : End). Ends w (advised line q) x) (sym said.2) (advised_is_said line w q said.0 moved))) (λ lost. inr lost)
      (step said.0 (λ s stops. said.2 ∙ ap (with_advice line) stops) said.1)

  seen_moves : (at_terminal : Bool) (line : Option (List ℕ)) → Moves w e Lost (advised_if at_terminal line p) (advised_if at_terminal line q)
  seen_moves true (Some line) ends = advised_moves line ends
  seen_moves true None ends = step e (λ s is. is) ends
  seen_moves false (Some line) ends = step e (λ s is. is) ends
  seen_moves false None ends = step e (λ s is. is) ends

pub plan_moves : OverLaws → (w : Reads) (e : End) (Lost : Type 0) (sight : Sight) (cause cause2 : List ℕ) (one other : Result (List ℕ) Unread) → Serves w e Lost one other → AreServed w e Lost cause cause2
    → (at_terminal : Bool) (words : List Text) (p q : Plan) → shown_plan at_terminal (record { input = one; sight = sight; cause = cause }) words ≡ Some p
    → shown_plan at_terminal (record { input = other; sight = sight; cause = cause2 }) words ≡ Some q → Moves w e Lost p q
plan_moves laws w e Lost sight cause cause2 one other serves causes at_terminal words p q is is2 ends =
    let line = advice_given (subcommand_of hwdb_app words) in
    let a : Around = record { input = one; sight = sight; cause = cause } in
    let b : Around = record { input = other; sight = sight; cause = cause2 } in
    let x = mapped (advised_if at_terminal line) (program_plan a words) p is in
    let y = mapped (advised_if at_terminal line) (program_plan b words) q is2 in
    let moved = seen_moves w e Lost x.0 y.0
    (λ f so. words_move laws w f Lost sight cause cause2 one other (serves_as w w e f Lost so one other serves) (served_as w w e f Lost so cause cause2 causes) words x.0 y.0 x.1 y.1) at_terminal line in
    subst (λ (z : Plan). Ends w z e ⊎ Lost) y.2 (moved (subst (λ (z : Plan). Ends w z e) (sym x.2) ends))

-- ---- two runs
-- both tell what standard input had, or one of them did without it
pub one_told : (input : Told) (n m k : ℕ) (x y : List ℕ) → Tells input → IsInputTold input.bytes n m (Ok x) → IsInputTold input.bytes n k (Ok y) → x ≡ y
one_told input n m k x y (bytes, told) is is2 =
    let had = λ (z : List ℕ) (so : IfSome input.bytes (λ t. z ≡ t)). subst (λ (o : Option (List ℕ)). IfSome o (λ t. z ≡ t)) told so in had x is.0 ∙ sym (had y is2.0)

-- no end without an error is lost
abbrev ServesDone : Reads → (one other : Result (List ℕ) Unread) → Type 0
ServesDone w one other = (g : End) → IsDone g → Serves w g ⊥ one other

one_serves : (w : Reads) (input : Told) (n m k : ℕ) (told told2 : Result (List ℕ) Unread) → Tells input → IsInputTold input.bytes n m told → IsInputTold input.bytes n k told2 → ServesDone w told told2 ⊎ ServesDone w told2 told
one_serves w input n m k (Err why) told2 tells is is2 = inl (λ g done. inr (λ end. done (unread_stop (codes "standard input") why) end))
one_serves w input n m k (Ok x) (Err why) tells is is2 = inr (λ g done. inr (λ end. done (unread_stop (codes "standard input") why) end))
one_serves w input n m k (Ok x) (Ok y) tells is is2 = inl (λ g done. inl (ap Ok (one_told input n m k x y tells is is2)))

done_moves : OverLaws → (w : Reads) (g : End) → IsDone g → (sight : Sight) (cause cause2 : List ℕ) (one other : Result (List ℕ) Unread) → Serves w g ⊥ one other → (at_terminal : Bool) (words : List Text) (p q : Plan)
    → shown_plan at_terminal (record { input = one; sight = sight; cause = cause }) words ≡ Some p → shown_plan at_terminal (record { input = other; sight = sight; cause = cause2 }) words ≡ Some q → Ends w p g → Ends w q g
done_moves laws w g done sight cause cause2 one other serves at_terminal words p q is is2 ends =
    ⊎_elim (λ moved. moved) (λ none. absurd none)
    (plan_moves laws w g ⊥ sight cause cause2 one other serves (inr (λ text end. done (Says text) end)) at_terminal words p q is is2 ends)

module _ (one_end : DoneIsOne) where
  done_is_one : (w : Reads) (p q : Plan) (e f : End) → IsDone e → IsDone f → ((g : End) → IsDone g → Ends w p g → Ends w q g) ⊎ ((g : End) → IsDone g → Ends w q g → Ends w p g)
      → Ends w p e → Ends w q f → e ≡ f
  done_is_one w p q e f of_e of_f (inl moves) ends ends2 = one_end w q e f of_e (moves e of_e ends) ends2
  done_is_one w p q e f of_e of_f (inr moves) ends ends2 = one_end w p e f of_e ends (moves f of_f ends2)

-- a run of which only devices matter
abbrev over_files : (input : Told) (o : Outs) → Sight → World
over_files input o sight = record { files = record { seen = λ path. None; fails = λ path. ⊥; left = λ path v. ⊥; failures = 0 }; input = input; out = o.out; err = o.err; devices = sight }

leaves : (e : End) (sight : Sight) (input input_now : Told) (before now : Outs) (n : ℕ) → Shows e input input_now before now (Ok n) → Leaves e (over_files input before sight) (over_files input_now now sight) (Ok n)
leaves (Stops s) sight input input_now before now n shows = absurd shows.0
leaves (Answers status err out) sight input input_now before now n shows = (shows, nothing_changed _)
leaves (Lines lines) sight input input_now before now n shows = (shows, nothing_changed _)
leaves (Streams text) sight input input_now before now n shows = (shows, nothing_changed _)
leaves (Scans path count) sight input input_now before now n shows = (shows, nothing_changed _)
leaves (Replaces folder bytes said status) sight input input_now before now n shows = absurd shows

-- an end that is shown with a status is no error
shown_done : (e : End) (input input_now : Told) (before now : Outs) (n : ℕ) → Shows e input input_now before now (Ok n) → IsDone e
shown_done (Stops s) input input_now before now n shows = absurd shows.0
shown_done (Answers status err out) input input_now before now n shows = λ s is. cc
shown_done (Lines lines) input input_now before now n shows = λ s is. cc
shown_done (Streams text) input input_now before now n shows = λ s is. cc
shown_done (Scans path count) input input_now before now n shows = λ s is. cc
shown_done (Replaces folder bytes said status) input input_now before now n shows = λ s is. cc

module _ (one_end : DoneIsOne) (laws : OverLaws) (at_terminal : Bool) (words : List Text) (w : Reads) (sight : Sight) (input input_now input_now2 : Told) (before now now2 : Outs) (status status2 : ℕ) (have : HavePlan at_terminal words)
    (of_input : Tells input) where
  abbrev Shown : (now : Outs) (input_now : Told) (status : ℕ) → Plan → Type 0
  Shown after input_after n p = ShowsEnd w p input input_after before after (Ok n)

  abbrev IsOne : Type 0
  IsOne = (status ≡ status2) × (now.err.bytes ≡ now2.err.bytes) × (now.out.bytes ≡ now2.out.bytes)

  abbrev AreOne : (p q : Plan) → Type 0
  AreOne p q = ((g : End) → IsDone g → Ends w p g → Ends w q g) ⊎ ((g : End) → IsDone g → Ends w q g → Ends w p g)

  ends_one : Tells before.err → Tells before.out → (p q : Plan) → AreOne p q → Shown now input_now status p → Shown now2 input_now2 status2 q → IsOne
  ends_one of_err of_out p q one (inr none) b = absurd none.0
  ends_one of_err of_out p q one (inl a) (inr none) = absurd none.0
  ends_one of_err of_out p q one (inl (e, ends, shows)) (inl (f, ends2, shows2)) =
      let same = done_is_one one_end w p q e f (shown_done e input input_now before now status shows) (shown_done f input input_now2 before now2 status2 shows2) one ends ends2 in
      leaves_one e (over_files input before sight) (over_files input_now now sight) (over_files input_now2 now2 sight) status status2
      (record { input = of_input.0; err = of_err.0; out = of_out.0; of_input = of_input.1; of_err = of_err.1; of_out = of_out.1 })
      (leaves e sight input input_now before now status shows)
      (leaves e sight input input_now2 before now2 status2 (subst (λ (x : End). Shows x input input_now2 before now2 (Ok status2)) (sym same) shows2))

  plans_are_one : (told told2 : Result (List ℕ) Unread) (cause cause2 : List ℕ) → ServesDone w told told2 ⊎ ServesDone w told2 told
      → AreOne (have.plan (record { input = told; sight = sight; cause = cause })) (have.plan (record { input = told2; sight = sight; cause = cause2 }))
  plans_are_one told told2 cause cause2 serves =
      let first : Around = record { input = told; sight = sight; cause = cause } in
      let second : Around = record { input = told2; sight = sight; cause = cause2 } in
      ⊎_elim
      (λ one. inl (λ g done. done_moves laws w g done sight cause cause2 told told2 (one g done) at_terminal words (have.plan first) (have.plan second) (have.is first) (have.is second)))
      (λ other. inr (λ g done. done_moves laws w g done sight cause2 cause told2 told (other g done) at_terminal words (have.plan second) (have.plan first) (have.is second) (have.is first)))
      serves

  of_plan : (a : Around) (after : Outs) (input_after : Told) (n : ℕ) → IfSome (shown_plan at_terminal a words) (Shown after input_after n) → Shown after input_after n (have.plan a)
  of_plan a after input_after n shows = subst (λ (o : Option Plan). IfSome o (Shown after input_after n)) (have.is a) shows

  runs_one : Tells before.err → Tells before.out → ShowsPlan (λ a. shown_plan at_terminal a words) w sight input input_now before now (Ok status) → ShowsPlan (λ a. shown_plan at_terminal a words) w sight input input_now2 before now2 (Ok status2) → IsOne
  runs_one of_err of_out (told, so, (cause, line, shows)) (told2, so2, (cause2, line2, shows2)) =
      let first : Around = record { input = told; sight = sight; cause = cause } in
      let second : Around = record { input = told2; sight = sight; cause = cause2 } in
      ends_one of_err of_out (have.plan first) (have.plan second)
      (plans_are_one told told2 cause cause2 (one_serves w input input.failures input_now.failures input_now2.failures told told2 of_input so so2))
      (of_plan first now input_now status shows) (of_plan second now2 input_now2 status2 shows2)

pub planned_runs : DoneIsOne → OverIsOver → OverIsNoMore → PlannedRunsAreOne
planned_runs one_end is_over no_more at_terminal words w sight input input_now input_now2 before now now2 status status2 have of_input of_err of_out =
    runs_one one_end (is_over, no_more) at_terminal words w sight input input_now input_now2 before now now2 status status2 have of_input of_err of_out

-- ---- a run that is done, and one that ends with an error
pub too_long : (n most : ℕ) → n ≤ most → most < n → ⊥
too_long n most few many = omega (arith, few, many)

no_error : {X : Type 0} (x : X) {o : Option X} → o ≡ None → o ≡ Some x → ⊥
no_error x none some = cc

-- an error that says that memory was refused
pub no_memory : (r : Refusal) → stop_of r ≡ Plain OutOfMemory → r ≡ refusal.Plain OutOfMemory
no_memory (refusal.Plain error) is = ap refusal.Plain one
  where
    one : error ≡ OutOfMemory
    one = cc
no_memory (refusal.At error path cause) is = absurd cc
no_memory refusal.NoDatabase is = absurd cc
no_memory (refusal.InWords text) is = absurd cc

-- a scan of which no call of the input failed ends with an error only for want of memory, or since the output failed
module _ (path : Option (List ℕ)) (count : Option ℕ) (input input_now before now : Told) (unfailed : HasFailed input.failures input_now.failures → ⊥) where
  pub scan_unfailed : (r : Refusal) → ScanStops path count input input_now before now r → (r ≡ refusal.Plain OutOfMemory) ⊎ (r ≡ refusal.Plain Write)
  scan_unfailed (refusal.InWords text) h = absurd (unfailed h.1)
  scan_unfailed (refusal.Plain Write) h = inr refl
  scan_unfailed (refusal.Plain OutOfMemory) h = inl refl
  scan_unfailed (refusal.Plain TooManyFiles) h = absurd h
  scan_unfailed (refusal.Plain TooManyLines) h = absurd h
  scan_unfailed (refusal.Plain TooLarge) h = absurd h
  scan_unfailed (refusal.Plain BadPosition) h = absurd h
  scan_unfailed (refusal.Plain (BadDatabase f)) h = absurd h
  scan_unfailed (refusal.Plain (Replace u)) h = absurd h
  scan_unfailed (refusal.Plain Read) h = absurd h
  scan_unfailed (refusal.Plain TooLong) h = absurd h
  scan_unfailed (refusal.At e at cause) h = absurd h
  scan_unfailed refusal.NoDatabase h = absurd h

module _ (one_end : DoneIsOne) (laws : OverLaws) (at_terminal : Bool) (words : List Text) (w : Reads) (sight : Sight) (input input_now input_now2 : Told) (before now now2 : Outs) (status : ℕ) (r : Refusal) (have : HavePlan at_terminal words)
    (of_input : Tells input) (unfailed : HasFailed input.failures input_now2.failures → ⊥) where
  abbrev Allowed : Type 0
  Allowed = (r ≡ refusal.Plain OutOfMemory) ⊎ (r ≡ refusal.Plain Write)

  abbrev plan_told : (told : Result (List ℕ) Unread) (cause : List ℕ) → Plan
  plan_told told cause = have.plan (record { input = told; sight = sight; cause = cause })

  -- the plan stops, so that the other run isn't done
  moved : (e : End) → IsDone e → (one other : Result (List ℕ) Unread) (cause cause2 : List ℕ) → Serves w e ⊥ one other → Ends w (plan_told one cause) e → Ends w (plan_told other cause2) e
  moved e done one other cause cause2 serves ends =
      done_moves laws w e done sight cause cause2 one other serves at_terminal words (plan_told one cause) (plan_told other cause2)
      (have.is (record { input = one; sight = sight; cause = cause })) (have.is (record { input = other; sight = sight; cause = cause2 })) ends

  stops : (e : End) (s : Stop) → IsDone e → (told told2 : Result (List ℕ) Unread) (cause cause2 : List ℕ) → IsInputTold input.bytes input.failures input_now.failures told
      → IsInputTold input.bytes input.failures input_now2.failures told2 → Ends w (plan_told told cause) e → Ends w (plan_told told2 cause2) (Stops s) → stop_of r ≡ s → Allowed
  stops e s done (Err why) told2 cause cause2 is is2 ends ends2 says =
      absurd (done s (one_end w (plan_told told2 cause2) e (Stops s) done (moved e done (Err why) told2 cause cause2 (inr (λ end. done (unread_stop (codes "standard input") why) end)) ends) ends2))
  stops e s done (Ok x) (Ok y) cause cause2 is is2 ends ends2 says =
      let same = one_told input input.failures input_now.failures input_now2.failures x y of_input is is2 in
      absurd (done s (one_end w (plan_told (Ok y) cause2) e (Stops s) done (moved e done (Ok x) (Ok y) cause cause2 (inl (ap Ok same)) ends) ends2))
  stops e s done (Ok x) (Err unread.TooLong) cause cause2 is is2 ends ends2 says =
      let had : x ≡ of_input.0 = subst (λ (o : Option (List ℕ)). IfSome o (λ t. x ≡ t)) of_input.1 is.0 in
      let long : max_file < length of_input.0 = subst (λ (o : Option (List ℕ)). IfSome o (λ t. max_file < length t)) of_input.1 is2 in
      let short : length of_input.0 ≤ max_file = subst (λ (xs : List ℕ). length xs ≤ max_file) had is.1 in
      absurd (too_long (length of_input.0) max_file short long)
  stops e s done (Ok x) (Err (unread.Failed why)) cause cause2 is is2 ends ends2 says = absurd (unfailed is2)
  stops e s done (Ok x) (Err unread.Memory) cause cause2 is is2 ends ends2 says =
      let first : Around = record { input = Err unread.Memory; sight = sight; cause = cause2 } in
      let second : Around = record { input = Ok x; sight = sight; cause = cause2 } in
      ⊎_elim
      (λ ends3. absurd (done s (one_end w (plan_told (Ok x) cause2) e (Stops s) done (moved e done (Ok x) (Ok x) cause cause2 (inl refl) ends) ends3)))
      (λ memory. inl (no_memory r (says ∙ memory)))
      (plan_moves laws w (Stops s) (s ≡ Plain OutOfMemory) sight cause2 cause2 (Err unread.Memory) (Ok x) (inr (λ end. cc)) (inl refl) at_terminal words (have.plan first) (have.plan second) (have.is first) (have.is second) ends2)

  -- lines of standard input were answered, all of them in the one run
  streams : (text : List (List ℕ) → List ℕ) → Streamed text input.bytes before.out now.out → (x : Refusal) → r ≡ x → StreamStops text input input_now2 before.out now2.out x → Allowed
  streams text all (refusal.At Read at cause) is h = absurd (unfailed h.1)
  streams text all (refusal.At TooLong at cause) is h =
      absurd (no_error TooLong (subst (λ (o : Option (List ℕ)). OnLines o (λ lines. line_error lines ≡ None)) of_input.1 all.all) (subst (λ (o : Option (List ℕ)). OnLines o (λ lines. line_error lines ≡ Some TooLong)) of_input.1 h.1))
  streams text all (refusal.Plain TooManyLines) is h =
      absurd (no_error TooManyLines (subst (λ (o : Option (List ℕ)). OnLines o (λ lines. line_error lines ≡ None)) of_input.1 all.all) (subst (λ (o : Option (List ℕ)). OnLines o (λ lines. line_error lines ≡ Some TooManyLines)) of_input.1 h.0))
  streams text all (refusal.Plain Write) is h = inr is
  streams text all (refusal.Plain OutOfMemory) is h = inl is
  streams text all (refusal.At Write at cause) is h = absurd h
  streams text all (refusal.At TooManyFiles at cause) is h = absurd h
  streams text all (refusal.At TooManyLines at cause) is h = absurd h
  streams text all (refusal.At TooLarge at cause) is h = absurd h
  streams text all (refusal.At BadPosition at cause) is h = absurd h
  streams text all (refusal.At (BadDatabase f) at cause) is h = absurd h
  streams text all (refusal.At (Replace u) at cause) is h = absurd h
  streams text all (refusal.At OutOfMemory at cause) is h = absurd h
  streams text all (refusal.Plain Read) is h = absurd h
  streams text all (refusal.Plain TooLong) is h = absurd h
  streams text all (refusal.Plain TooManyFiles) is h = absurd h
  streams text all (refusal.Plain TooLarge) is h = absurd h
  streams text all (refusal.Plain BadPosition) is h = absurd h
  streams text all (refusal.Plain (BadDatabase f)) is h = absurd h
  streams text all (refusal.Plain (Replace u)) is h = absurd h
  streams text all refusal.NoDatabase is h = absurd h
  streams text all (refusal.InWords text2) is h = absurd h

  -- the end of the one run is shown by the other one with an error
  shown_alike : (e : End) → Shows e input input_now before now (Ok status) → Shows e input input_now2 before now2 (Err r) → Allowed
  shown_alike (Stops s) shows shows2 = absurd shows.0
  shown_alike (Answers n err out) shows shows2 = inr shows2.0
  shown_alike (Lines lines) shows shows2 = ⊎_elim (λ cut. inr cut.0) (λ memory. inl memory.0) shows2.0
  shown_alike (Streams text) shows shows2 = streams text shows.0.1 r refl shows2.0
  shown_alike (Scans path count) shows shows2 = scan_unfailed path count input input_now2 before.out now2.out unfailed r shows2.0
  shown_alike (Replaces folder bytes said n) shows shows2 = absurd shows

  ends_so : (e f : End) (told told2 : Result (List ℕ) Unread) (cause cause2 : List ℕ) → IsInputTold input.bytes input.failures input_now.failures told
      → IsInputTold input.bytes input.failures input_now2.failures told2 → Ends w (plan_told told cause) e → Ends w (plan_told told2 cause2) f
      → Shows e input input_now before now (Ok status) → Shows f input input_now2 before now2 (Err r) → Allowed
  ends_so e (Stops s) told told2 cause cause2 is is2 ends ends2 shows shows2 = stops e s (shown_done e input input_now before now status shows) told told2 cause cause2 is is2 ends ends2 shows2.0
  ends_so e (Answers n err out) told told2 cause cause2 is is2 ends ends2 shows shows2 = inr shows2.0
  ends_so e (Lines lines) told told2 cause cause2 is is2 ends ends2 shows shows2 = ⊎_elim (λ cut. inr cut.0) (λ memory. inl memory.0) shows2.0
  ends_so e (Streams text) told told2 cause cause2 is is2 ends ends2 shows shows2 =
      let done = shown_done e input input_now before now status shows in
      let same = done_is_one one_end w (plan_told told cause) (plan_told told2 cause2) e (Streams text) done (λ s is. cc)
      (plans_are_one one_end laws at_terminal words w sight input input_now input_now2 before now now2 status status have of_input told told2 cause cause2 (one_serves w input input.failures input_now.failures input_now2.failures told told2 of_input is is2)) ends ends2 in
      shown_alike (Streams text) (subst (λ (x : End). Shows x input input_now before now (Ok status)) same shows) shows2
  ends_so e (Scans path count) told told2 cause cause2 is is2 ends ends2 shows shows2 = scan_unfailed path count input input_now2 before.out now2.out unfailed r shows2.0
  ends_so e (Replaces folder bytes said n) told told2 cause cause2 is is2 ends ends2 shows shows2 = absurd shows2

  both : (told told2 : Result (List ℕ) Unread) (cause cause2 : List ℕ) → IsInputTold input.bytes input.failures input_now.failures told
      → IsInputTold input.bytes input.failures input_now2.failures told2 → ShowsEnd w (plan_told told cause) input input_now before now (Ok status)
      → ShowsEnd w (plan_told told2 cause2) input input_now2 before now2 (Err r) → Allowed
  both told told2 cause cause2 is is2 (inr none) b = absurd none.0
  both told told2 cause cause2 is is2 (inl a) (inr none) = inl none.0
  both told told2 cause cause2 is is2 (inl (e, ends, shows)) (inl (f, ends2, shows2)) = ends_so e f told told2 cause cause2 is is2 ends ends2 shows shows2

  no_error_then : ShowsPlan (λ a. shown_plan at_terminal a words) w sight input input_now before now (Ok status) → ShowsPlan (λ a. shown_plan at_terminal a words) w sight input input_now2 before now2 (Err r) → Allowed
  no_error_then (told, so, (cause, line, shows)) (told2, so2, (cause2, line2, shows2)) =
      both told told2 cause cause2 so so2
      (subst (λ (o : Option Plan). IfSome o (λ p. ShowsEnd w p input input_now before now (Ok status))) (have.is (record { input = told; sight = sight; cause = cause })) shows)
      (subst (λ (o : Option Plan). IfSome o (λ p. ShowsEnd w p input input_now2 before now2 (Err r))) (have.is (record { input = told2; sight = sight; cause = cause2 })) shows2)

pub planned_done : DoneIsOne → OverIsOver → OverIsNoMore → PlannedDoneIsNoError
planned_done one_end is_over no_more at_terminal words w sight input input_now input_now2 before now now2 status r have of_input unfailed =
    no_error_then one_end (is_over, no_more) at_terminal words w sight input input_now input_now2 before now now2 status r have of_input unfailed
