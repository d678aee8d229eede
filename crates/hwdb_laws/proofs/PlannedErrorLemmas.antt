-- Two runs with the same words that end with an error end with one.
use Rattle.std.proofs.Common.{◌≡◌, ◌∙◌, ◌++◌, ◌⊎◌, ◌∷◌, ⊎_elim, inl, inr, ap, refl, subst, sym, length, Bool, IfSome, List, Option, None, Result, Some, Ok, Err, ℕ, [], true, false, ◌≤◌, ◌<◌}
use Rattle.std.specs.Io.KnownBytes.{Appends}
use Rattle.std.specs.Option.{option_map_or}
use Rattle.std.specs.Prelude.{codes, if◌then◌else◌, nat_le, option_map}
use Rattle.clap.specs.Simple.{matches_of, subcommand_of}
use Rattle.clap.specs.Walk.{Row, Text}
use Rattle.hwdb_spec.specs.Folders.{Choice, Source, choice, max_files, names}
use Rattle.hwdb_spec.specs.System.{etc_files, usr_files}
use Rattle.hwdb_spec.specs.Errors.{refusal_of_compile}
use Rattle.hwdb_spec_commands.specs.DeviceFound.{places_meant, several_text}
use Rattle.hwdb_plan.specs.Advice.{advised, advised_if, with_advice}
use Rattle.hwdb_plan.specs.Lemmas.Advice.{advised_is_no_more}
use Rattle.hwdb_plan.specs.Asking.{if_read}
use Rattle.hwdb_plan.specs.Folders.{Texts, choose, if_listed, names_of, paths_of, read_texts, texts_of_folders, texts_of_names, with_texts}
use Rattle.hwdb_plan.specs.Lemmas.OverText.{said_is_no_more}
use Rattle.hwdb_plan.specs.OverText.{Basis, basis, basis_of, from_basis, if_fit, is_first, text_plan, with_after}
use Rattle.hwdb_plan.specs.Sides.{made_of, taken_from}
use Rattle.hwdb_spec.specs.Texts.{devices_of, max_file}
use Rattle.hwdb_spec.specs.declared.errors.ToolError.{ToolError}
use Rattle.hwdb_spec.specs.declared.errors.ToolError.TheVariants.{BadDatabase, BadPosition, Memory as OutOfMemory, Read, Replace, TooLarge, TooLong, TooManyFiles, TooManyLines, Write}
use Rattle.hwdb_spec.specs.declared.causes.Cause.{Cause}
use Rattle.hwdb_spec_commands.specs.AnsweredLines.{answered_lines, line_error}
use Rattle.hwdb_spec_commands.specs.CommandLine.{hwdb_app}
use Rattle.hwdb_spec_commands.specs.DeviceAsked.{missing_text, no_sysfs_text, unread_text}
use Rattle.hwdb_spec_commands.specs.DeviceTree.{Sight, unread_for}
use Rattle.hwdb_spec_commands.specs.Jobs.{has_flag, text_taker}
use Rattle.hwdb_spec_commands.specs.Runs.{Told}
use Rattle.hwdb_spec_commands.specs.Told.{Reads, Stop, Unlisted, stop_of, unlisted_stop, unread_stop}
use Rattle.hwdb_spec_commands.specs.Told.Stop.{Over, Plain, Says}
use Rattle.hwdb_spec_commands.specs.declared.refusals.Refusal.{Refusal}
use Rattle.hwdb_spec_commands.specs.declared.refusals.Refusal.TheVariants as refusal
use Rattle.hwdb_spec_commands.specs.declared.unread.Unread.{Unread}
use Rattle.hwdb_spec_commands.specs.declared.unread.Unread.TheVariants as unread
use Rattle.hwdb_plan.specs.Sysfs.{folder_of, none_there, one_of, place_of, says, sysfs_of}
use Rattle.hwdb_plan.specs.Ended.{OnLines, Outs, Shows, ShowsEnd, StreamStops}
use Rattle.hwdb_plan.specs.Input.{IsInputTold}
use Rattle.hwdb_plan.specs.Laws.{AreAlike, OverIsNoMore, OverIsOver, PlansEndAlike}
use Rattle.hwdb_plan.specs.Plans.{AreMadeOf, End, Ends, Plan, over, reads_over}
use Rattle.hwdb_plan.specs.Plans.End.{Answers, Lines, Replaces, Scans, Stops, Streams}
use Rattle.hwdb_plan.specs.Plans.Plan.{Done}
use Rattle.hwdb_spec_program.specs.DeviceErrors.{asked_names}
use Rattle.hwdb_spec_program.specs.ProgramPlan.{ShowsPlan, advice_given, as_given, command_of, files_plan, over_texts, program_plan, root_given, said_by, shown_plan}
use Rattle.hwdb_plan.specs.Requests.{Around, Command, Search, found_plan, plan_of, told_plan}
use Rattle.hwdb_plan.specs.Requests.Command.{OfDevices, OfFiles}
use Rattle.hwdb_plan.specs.Requests.Search.{AtPlace, Below, Fitting, Found}
use Rattle.hwdb_laws.proofs.PlannedLemmas.{OverLaws, Serves, mapped, no_memory, one_told, plan_moves, scan_unfailed, too_long}
use Rattle.hwdb_laws.specs.PlannedErrors.{AreButForCause, AreOneEnd, AreOneError, IsOfReading, PlannedErrorsAreOne}
use Rattle.hwdb_laws.specs.PlannedRuns.{HavePlan, Tells}

-- ---- ends of two plans
module _ (alike : PlansEndAlike) where
  -- what the one may end in and what the other may are one
  abbrev Alike : (p q : Plan) → Type 0
  Alike p q = (w : Reads) (e f : End) → Ends w p e → Ends w q f → AreOneEnd e f

  same_alike : (p : Plan) → Alike p p
  same_alike p w e f ends ends2 = inl (alike w p e f ends ends2)

  says_alike : (text text2 : List ℕ) → AreButForCause text text2 → Alike (says text) (says text2)
  unfolding Ends
  says_alike text text2 but w e f ends ends2 = inr (inl (text, text2, ends, ends2, but))

  -- ---- `device`, with other words of a cause
  module _ (sight : Sight) (cause cause2 : List ℕ) where
    folder_alike : (path : List ℕ) (one two : List ℕ → Plan) → ((place : List ℕ) → Alike (one place) (two place)) → Alike (folder_of sight cause path one) (folder_of sight cause2 path two)
    folder_alike path one two step = by (sight.place path)
      where
        by : (o : Option (List ℕ)) → Alike (option_map_or one o (says (no_sysfs_text path cause))) (option_map_or two o (says (no_sysfs_text path cause2)))
        by None = says_alike (no_sysfs_text path cause) (no_sysfs_text path cause2) (cause, cause2, inl (path, refl, refl))
        by (Some place) = step place

    sysfs_alike : (root : List ℕ) (one two : List ℕ → Plan) → ((sys : List ℕ) → Alike (one sys) (two sys)) → Alike (sysfs_of sight cause root one) (sysfs_of sight cause2 root two)
    sysfs_alike root one two step =
        folder_alike (root ++ codes "/sys") (λ sys. folder_of sight cause (sys ++ codes "/devices") (λ devices. one sys)) (λ sys. folder_of sight cause2 (sys ++ codes "/devices") (λ devices. two sys))
        (λ sys. folder_alike (sys ++ codes "/devices") (λ devices. one sys) (λ devices. two sys) (λ devices. step sys))

    place_alike : (root given sys : List ℕ) (one two : List ℕ → Plan) → ((place : List ℕ) → Alike (one place) (two place))
        → Alike (place_of sight cause asked_names root given sys one) (place_of sight cause2 asked_names root given sys two)
    place_alike root given sys one two step = by (places_meant sight asked_names root sys given)
      where
        none : (u : Option (List ℕ)) → Alike (option_map_or (λ path. says (unread_text path cause)) u (says (missing_text sight asked_names root sys given cause)))
            (option_map_or (λ path. says (unread_text path cause2)) u (says (missing_text sight asked_names root sys given cause2)))
        none None = says_alike (missing_text sight asked_names root sys given cause) (missing_text sight asked_names root sys given cause2) (cause, cause2, inr (inr (sight, root, sys, given, refl, refl)))
        none (Some path) = says_alike (unread_text path cause) (unread_text path cause2) (cause, cause2, inr (inl (path, refl, refl)))

        by : (places : List (List ℕ)) → Alike (one_of one (λ l. says (several_text sight asked_names sys given l)) (none_there sight cause asked_names root given sys) places)
            (one_of two (λ l. says (several_text sight asked_names sys given l)) (none_there sight cause2 asked_names root given sys) places)
        by [] = none (unread_for sight root sys given)
        by (place ∷ []) = step place
        by (place ∷ other ∷ more) = same_alike (says (several_text sight asked_names sys given (place ∷ other ∷ more)))

    search_alike : (search : Search) → Alike (found_plan sight asked_names cause search) (found_plan sight asked_names cause2 search)
    search_alike (Found p) = same_alike p
    search_alike (Below root next) =
        sysfs_alike root (λ sys. found_plan sight asked_names cause (next sys)) (λ sys. found_plan sight asked_names cause2 (next sys)) (λ sys. search_alike (next sys))
    search_alike (AtPlace root given sys next) =
        place_alike root given sys (λ place. found_plan sight asked_names cause (next place)) (λ place. found_plan sight asked_names cause2 (next place)) (λ place. search_alike (next place))
    search_alike (Fitting None search) = search_alike search
    search_alike (Fitting (Some text) search) = same_alike (says text)

  -- ---- `--text`
  -- two runs read the same up to a place, from which each goes on; or they end alike before
  abbrev BothReach : {X : Type 0} (w : Reads) (e f : End) (one two : X → Plan) → Type 0
  BothReach {X} w e f one two = AreOneEnd e f ⊎ ((x : X) × Ends w (one x) e × Ends w (two x) f)

  stop_both : {X : Type 0} (w : Reads) (e f : End) (one two : X → Plan) (s : Stop) → Ends w (Done (Stops s)) e → Ends w (Done (Stops s)) f → BothReach w e f one two
  unfolding Ends
  stop_both w e f one two s ends ends2 = inl (inl (inl (ends ∙ sym ends2)))

  module _ (w : Reads) (e f : End) where
    names_both : (folder : List ℕ) (one two : List (List ℕ) → Plan) → Ends w (names_of folder one) e → Ends w (names_of folder two) f → BothReach w e f one two
    unfolding Ends
    names_both folder one two = by (w.names folder)
      where
        by : (told : Result (List (List ℕ)) Unlisted) → Ends w (if_listed folder one told) e → Ends w (if_listed folder two told) f → BothReach w e f one two
        by (Ok found) ends ends2 = inr (found, ends, ends2)
        by (Err why) ends ends2 = stop_both w e f one two (unlisted_stop folder why) ends ends2

    choice_both : (etc usr : List (List ℕ)) (one two : List Choice → Plan) → Ends w (choose etc usr one) e → Ends w (choose etc usr two) f → BothReach w e f one two
    choice_both etc usr one two = by (nat_le (length (names etc usr)) max_files)
      where
        by : (b : Bool) → Ends w (if b then one (choice etc usr) else Done (Stops (Plain TooManyFiles))) e → Ends w (if b then two (choice etc usr) else Done (Stops (Plain TooManyFiles))) f → BothReach w e f one two
        by true ends ends2 = inr (choice etc usr, ends, ends2)
        by false ends ends2 = stop_both w e f one two (Plain TooManyFiles) ends ends2

    read_both : (path : List ℕ) (one two : List ℕ → Plan) (told : Result (List ℕ) Unread) → Ends w (if_read path (λ at bytes. one bytes) told) e → Ends w (if_read path (λ at bytes. two bytes) told) f → BothReach w e f one two
    read_both path one two (Ok bytes) ends ends2 = inr (bytes, ends, ends2)
    read_both path one two (Err why) ends ends2 = stop_both w e f one two (unread_stop path why) ends ends2

    texts_both : (paths texts : List (List ℕ)) (one two : List (List ℕ) → Plan) → Ends w (read_texts paths texts one) e → Ends w (read_texts paths texts two) f → BothReach w e f one two
    unfolding read_texts Ends
    texts_both [] texts one two ends ends2 = inr (texts, ends, ends2)
    texts_both (path ∷ more) texts one two ends ends2 =
        ⊎_elim (λ same. inl same) (λ read. texts_both more (texts ++ read.0 ∷ []) one two read.1 read.2)
        (read_both path (λ bytes. read_texts more (texts ++ bytes ∷ []) one) (λ bytes. read_texts more (texts ++ bytes ∷ []) two) (w.text path) ends ends2)

    folders_both : (root : List ℕ) (one two : Texts → Plan) → Ends w (texts_of_folders root one) e → Ends w (texts_of_folders root two) f → BothReach w e f one two
    folders_both root one two ends ends2 =
        ⊎_elim (λ same. inl same)
        (λ etc. ⊎_elim (λ same. inl same)
        (λ usr. ⊎_elim (λ same. inl same)
        (λ chosen. ⊎_elim (λ same. inl same)
        (λ texts. inr (with_texts usr.0 chosen.0 texts.0, texts.1, texts.2))
        (texts_both (paths_of root chosen.0) [] (λ texts. one (with_texts usr.0 chosen.0 texts)) (λ texts. two (with_texts usr.0 chosen.0 texts)) chosen.1 chosen.2))
        (choice_both etc.0 usr.0 (λ chosen. read_texts (paths_of root chosen) [] (λ texts. one (with_texts usr.0 chosen texts))) (λ chosen. read_texts (paths_of root chosen) [] (λ texts. two (with_texts usr.0 chosen texts))) usr.1 usr.2))
        (names_both (usr_files root) (λ usr. texts_of_names root etc.0 usr one) (λ usr. texts_of_names root etc.0 usr two) etc.1 etc.2))
        (names_both (etc_files root) (λ etc. names_of (usr_files root) (λ usr. texts_of_names root etc usr one)) (λ etc. names_of (usr_files root) (λ usr. texts_of_names root etc usr two)) ends ends2)

    made_both : (etc usr : List Source) (one two : List ℕ → Plan) → Ends w (made_of etc usr one) e → Ends w (made_of etc usr two) f → BothReach w e f one two
    unfolding Ends
    made_both etc usr one two (inl (bytes, made, ends)) (inl (bytes2, made2, ends2)) =
        inr (bytes, ends, subst (λ (b : List ℕ). Ends w (two b) f) (one_made bytes bytes2 made made2) ends2)
      where
        marked : Plan
        marked = made_of etc usr (λ b. Done (Answers 0 [] b))

        same_bytes : (a b : List ℕ) → AreAlike (Answers 0 [] a) (Answers 0 [] b) → b ≡ a
        same_bytes a b (inl is) = cc
        same_bytes a b (inr (inl faults)) = absurd (no_answer (faults.bad faults.one) faults.is_one)
          where
            no_answer : (s : Stop) → Answers 0 [] a ≡ Stops s → ⊥
            no_answer s is = cc
        same_bytes a b (inr (inr reasons)) = absurd (no_answer (reasons.bad reasons.one) reasons.is_one)
          where
            no_answer : (s : Stop) → Answers 0 [] a ≡ Stops s → ⊥
            no_answer s is = cc

        one_made : (a b : List ℕ) → AreMadeOf etc usr max_file a → AreMadeOf etc usr max_file b → b ≡ a
        one_made a b is is2 = same_bytes a b (alike w marked (Answers 0 [] a) (Answers 0 [] b) (inl (a, is, refl)) (inl (b, is2, refl)))
    made_both etc usr one two (inl (bytes, made, ends)) (inr (why, much, is)) =
        absurd (made_or_not (alike w (made_of etc usr (λ b. Done (Answers 0 [] b))) (Answers 0 [] bytes) (Stops (Plain (refusal_of_compile why))) (inl (bytes, made, refl)) (inr (why, much, refl))))
      where
        made_or_not : AreAlike (Answers 0 [] bytes) (Stops (Plain (refusal_of_compile why))) → ⊥
        made_or_not (inl is) = cc
        made_or_not (inr (inl faults)) = let is : Answers 0 [] bytes ≡ Stops (faults.bad faults.one) = faults.is_one in cc
        made_or_not (inr (inr reasons)) = let is : Answers 0 [] bytes ≡ Stops (reasons.bad reasons.one) = reasons.is_one in cc
    made_both etc usr one two (inr (why, much, is)) (inl (bytes, made, ends)) =
        absurd (made_or_not (alike w (made_of etc usr (λ b. Done (Answers 0 [] b))) (Answers 0 [] bytes) (Stops (Plain (refusal_of_compile why))) (inl (bytes, made, refl)) (inr (why, much, refl))))
      where
        made_or_not : AreAlike (Answers 0 [] bytes) (Stops (Plain (refusal_of_compile why))) → ⊥
        made_or_not (inl is) = cc
        made_or_not (inr (inl faults)) = let is : Answers 0 [] bytes ≡ Stops (faults.bad faults.one) = faults.is_one in cc
        made_or_not (inr (inr reasons)) = let is : Answers 0 [] bytes ≡ Stops (reasons.bad reasons.one) = reasons.is_one in cc
    made_both etc usr one two (inr (why, much, is)) (inr (why2, much2, is2)) =
        inl (inl (inr (inr record { etc = etc; usr = usr; most = max_file; bad = λ r. Plain (refusal_of_compile r); one = why; two = why2; has_one = much; has_two = much2; is_one = is; is_two = is2 })))

  -- what leaves an error as it is, as a text after what is printed
  changed_alike : (g : End → End) → ((s : Stop) → g (Stops s) ≡ Stops s) → (e f : End) → AreOneEnd e f → AreOneEnd (g e) (g f)
  changed_alike g keeps e f (inl (inl is)) = inl (inl (ap g is))
  changed_alike g keeps e f (inl (inr (inl faults))) = inl (inr (inl record {
    bytes = faults.bytes;
    bad = faults.bad;
    one = faults.one;
    two = faults.two;
    has_one = faults.has_one;
    has_two = faults.has_two;
    is_one = ap g faults.is_one ∙ keeps (faults.bad faults.one);
    is_two = ap g faults.is_two ∙ keeps (faults.bad faults.two);
  }))
  changed_alike g keeps e f (inl (inr (inr reasons))) = inl (inr (inr record {
    etc = reasons.etc;
    usr = reasons.usr;
    most = reasons.most;
    bad = reasons.bad;
    one = reasons.one;
    two = reasons.two;
    has_one = reasons.has_one;
    has_two = reasons.has_two;
    is_one = ap g reasons.is_one ∙ keeps (reasons.bad reasons.one);
    is_two = ap g reasons.is_two ∙ keeps (reasons.bad reasons.two);
  }))
  changed_alike g keeps e f (inr (inl (said, said2, is, is2, but))) = inr (inl (said, said2, ap g is ∙ keeps (Says said), ap g is2 ∙ keeps (Says said2), but))
  changed_alike g keeps e f (inr (inr (error, path, cause, cause2, is, is2))) =
      inr (inr (error, path, cause, cause2, ap g is ∙ keeps (Over error path cause), ap g is2 ∙ keeps (Over error path cause2)))

  module _ (laws : OverLaws) (p q : Plan) (both : Alike p q) where
    basis_alike : (root : List ℕ) (b : Basis) → Alike (from_basis root p b) (from_basis root q b)
    basis_alike root b w e f ends ends2 =
        let is = is_first root in
        let one = said_is_no_more b.besides w (over is b.database p) e ends in
        let two = said_is_no_more b.besides w (over is b.database q) f ends2 in
        let found = both (reads_over is b.database w) one.0 two.0 (laws.1 is b.database w p one.0 one.1) (laws.1 is b.database w q two.0 two.1) in
        subst (λ (x : End). AreOneEnd x f) (sym one.2) (subst (λ (x : End). AreOneEnd (with_after b.besides one.0) x) (sym two.2) (changed_alike (with_after b.besides) (λ s. refl) one.0 two.0 found))

    text_alike : (root : List ℕ) (besides : Texts → List ℕ) → Alike (text_plan root besides p) (text_plan root besides q)
    text_alike root besides w e f ends ends2 =
        ⊎_elim (λ same. same)
        (λ texts. ⊎_elim (λ same. same)
        (λ made. basis_alike root (basis (besides texts.0) made.0) w e f made.1 made.2)
        (made_both w e f (taken_from true texts.0.chosen texts.0.texts) (taken_from false texts.0.chosen texts.0.texts)
        (λ d. from_basis root p (basis (besides texts.0) d)) (λ d. from_basis root q (basis (besides texts.0) d)) texts.1 texts.2))
        (folders_both w e f root (λ texts. basis_of besides texts (from_basis root p)) (λ texts. basis_of besides texts (from_basis root q)) ends ends2)

    fit_alike : (root : List ℕ) (misfit : Option Text) (besides : Texts → List ℕ) → Alike (if_fit misfit (text_plan root besides p)) (if_fit misfit (text_plan root besides q))
    fit_alike root None besides = text_alike root besides
    fit_alike root (Some text) besides = same_alike (if_fit (Some text) (text_plan root besides p))

    taker_alike : (root : List ℕ) (t : Option (Option Text)) (besides : Texts → List ℕ) → Alike (over_texts root t besides p) (over_texts root t besides q)
    taker_alike root None besides = both
    taker_alike root (Some misfit) besides = fit_alike root misfit besides

    given_alike : (top : List Row) (found : Option (Text × List Row)) → Alike (as_given top found p) (as_given top found q)
    given_alike top None = both
    given_alike top (Some found) = by (has_flag (codes "text") found.1)
      where
        taken : Option (Option Text)
        taken = text_taker found.0 found.1

        besides : Texts → List ℕ
        besides = said_by found.0 found.1

        by : (b : Bool) → Alike (if b then over_texts (root_given top found.1) taken besides p else p) (if b then over_texts (root_given top found.1) taken besides q else q)
        by true = taker_alike (root_given top found.1) taken besides
        by false = both

  -- on a terminal the line of a command is said of both
  module _ (p q : Plan) (both : Alike p q) where
    advised_alike : (line : List ℕ) → Alike (advised line p) (advised line q)
    advised_alike line w e f ends ends2 =
        let one = advised_is_no_more line w p e ends in
        let two = advised_is_no_more line w q f ends2 in
        subst (λ (x : End). AreOneEnd x f) (sym one.2)
        (subst (λ (x : End). AreOneEnd (with_advice line one.0) x) (sym two.2) (changed_alike (with_advice line) (λ s. refl) one.0 two.0 (both w one.0 two.0 one.1 two.1)))

    seen_alike : (at_terminal : Bool) (line : Option (List ℕ)) → Alike (advised_if at_terminal line p) (advised_if at_terminal line q)
    seen_alike true (Some line) = advised_alike line
    seen_alike true None = both
    seen_alike false (Some line) = both
    seen_alike false None = both

  -- ---- the plans of words, with other words of a cause
  module _ (sight : Sight) (cause cause2 : List ℕ) (told : Result (List ℕ) Unread) where
    abbrev first : Around
    first = record { input = told; sight = sight; cause = cause }

    abbrev second : Around
    second = record { input = told; sight = sight; cause = cause2 }

    command_alike : (command : Command) → Alike (plan_of asked_names first command) (plan_of asked_names second command)
    command_alike (OfFiles request) = same_alike (told_plan told request)
    command_alike (OfDevices search) = search_alike sight cause cause2 search

    found_alike : (found : Option Command) (p q : Plan) → option_map (plan_of asked_names first) found ≡ Some p → option_map (plan_of asked_names second) found ≡ Some q → Alike p q
    found_alike None p q is is2 w e f ends ends2 = absurd cc
    found_alike (Some command) p q is is2 w e f ends ends2 =
        command_alike command w e f (subst (λ (x : Plan). Ends w x e) (sym (some (plan_of asked_names first command) p is)) ends)
        (subst (λ (x : Plan). Ends w x f) (sym (some (plan_of asked_names second command) q is2)) ends2)
      where
        some : {X : Type 0} (x y : X) → Some x ≡ Some y → x ≡ y
        some x y equal = cc

    words_alike : OverLaws → (words : List Text) (p q : Plan) → program_plan first words ≡ Some p → program_plan second words ≡ Some q → Alike p q
    words_alike laws words p q is is2 w e f ends ends2 =
        let top = matches_of hwdb_app words in
        let found = subcommand_of hwdb_app words in
        let x = mapped (as_given top found) (files_plan first words) p is in
        let y = mapped (as_given top found) (files_plan second words) q is2 in
        given_alike laws x.0 y.0 (found_alike (command_of sight words) x.0 y.0 x.1 y.1) top found w e f (subst (λ (z : Plan). Ends w z e) (sym x.2) ends) (subst (λ (z : Plan). Ends w z f) (sym y.2) ends2)

    -- on a terminal
    pub plan_alike : OverLaws → (at_terminal : Bool) (words : List Text) (p q : Plan) → shown_plan at_terminal first words ≡ Some p → shown_plan at_terminal second words ≡ Some q → Alike p q
    plan_alike laws at_terminal words p q is is2 w e f ends ends2 =
        let line = advice_given (subcommand_of hwdb_app words) in
        let x = mapped (advised_if at_terminal line) (program_plan first words) p is in
        let y = mapped (advised_if at_terminal line) (program_plan second words) q is2 in
        seen_alike x.0 y.0 (words_alike laws words x.0 y.0 x.1 y.1) at_terminal line w e f (subst (λ (z : Plan). Ends w z e) (sym x.2) ends) (subst (λ (z : Plan). Ends w z f) (sym y.2) ends2)

-- ---- ends of streams
one_grown : (had : List ℕ) (now now2 : Option (List ℕ)) (text : List ℕ) → Appends (Some had) now text → Appends (Some had) now2 text → now ≡ now2
one_grown had (Some xs) (Some ys) text one two = ap Some (one ∙ sym two)
one_grown had None now2 text one two = absurd one
one_grown had (Some xs) None text one two = absurd two

no_stop : {X : Type 0} (text : List (List ℕ) → List ℕ) (s : Stop) → Streams text ≡ Stops s → X
no_stop text s is = absurd cc

-- an end that streams is no error's
streams_alone : {X : Type 0} (text : List (List ℕ) → List ℕ) (s : Stop) → AreOneEnd (Streams text) (Stops s) → X
streams_alone text s (inl (inl same)) = no_stop text s same
streams_alone text s (inl (inr (inl faults))) = no_stop text (faults.bad faults.one) faults.is_one
streams_alone text s (inl (inr (inr reasons))) = no_stop text (reasons.bad reasons.one) reasons.is_one
streams_alone text s (inr (inl (said, said2, is, is2, but))) = no_stop text (Says said) is
streams_alone text s (inr (inr (error, path, cause, cause2, is, is2))) = no_stop text (Over error path cause) is

stops_alone : {X : Type 0} (s : Stop) (text : List (List ℕ) → List ℕ) → AreOneEnd (Stops s) (Streams text) → X
stops_alone s text (inl (inl same)) = no_stop text s (sym same)
stops_alone s text (inl (inr (inl faults))) = no_stop text (faults.bad faults.two) faults.is_two
stops_alone s text (inl (inr (inr reasons))) = no_stop text (reasons.bad reasons.two) reasons.is_two
stops_alone s text (inr (inl (said, said2, is, is2, but))) = no_stop text (Says said2) is2
stops_alone s text (inr (inr (error, path, cause, cause2, is, is2))) = no_stop text (Over error path cause2) is2

one_text : (text text2 : List (List ℕ) → List ℕ) → AreOneEnd (Streams text) (Streams text2) → text ≡ text2
one_text text text2 (inl (inl same)) = one same
  where
    one : Streams text ≡ Streams text2 → text ≡ text2
    one is = cc
one_text text text2 (inl (inr (inl faults))) = no_stop text (faults.bad faults.one) faults.is_one
one_text text text2 (inl (inr (inr reasons))) = no_stop text (reasons.bad reasons.one) reasons.is_one
one_text text text2 (inr (inl (said, said2, is, is2, but))) = no_stop text (Says said) is
one_text text text2 (inr (inr (error, path, cause, cause2, is, is2))) = no_stop text (Over error path cause) is

-- ---- errors of a line of standard input
-- the error is one of these lines
abbrev IsOfLine : (lines : List (List ℕ)) → Refusal → Type 0
IsOfLine lines r =
    ((cause : Option Cause) × (stop_of r ≡ Over TooLong (codes "a line of standard input") cause) × (line_error lines ≡ Some TooLong))
    ⊎ ((stop_of r ≡ Plain TooManyLines) × (line_error lines ≡ Some TooManyLines))

two_lines : {X : Type 0} (o : Option ToolError) → o ≡ Some TooLong → o ≡ Some TooManyLines → X
two_lines o long many = absurd cc

lines_one : (lines : List (List ℕ)) (r r2 : Refusal) → IsOfLine lines r → IsOfLine lines r2 → AreOneError r r2
lines_one lines r r2 (inl (cause, is, long)) (inl (cause2, is2, long2)) = inr (inr (TooLong, codes "a line of standard input", cause, cause2, ap Stops is, ap Stops is2))
lines_one lines r r2 (inl (cause, is, long)) (inr (is2, many)) = two_lines (line_error lines) long many
lines_one lines r r2 (inr (is, many)) (inl (cause2, is2, long)) = two_lines (line_error lines) long many
lines_one lines r r2 (inr (is, many)) (inr (is2, many2)) = inl (inl (ap Stops (is ∙ sym is2)))

-- what a run leaves that ends so: standard output took the text of the lines that are answered
abbrev OfLine : (text : List (List ℕ) → List ℕ) (input : List ℕ) (before now : Told) → Refusal → Type 0
OfLine text input before now r = IsOfLine (devices_of input) r × Appends before.bytes now.bytes (text (answered_lines (devices_of input)))

module _ (text : List (List ℕ) → List ℕ) (input input_now before now : Told) (bytes : List ℕ) (tells : input.bytes ≡ Some bytes) where
  of_lines : (Is : List (List ℕ) → Type 0) → OnLines input.bytes Is → Is (devices_of bytes)
  of_lines Is on = subst (λ (o : Option (List ℕ)). OnLines o Is) tells on

  stops_of_line : (r : Refusal) → IsOfReading input input_now r → StreamStops text input input_now before now r → OfLine text bytes before now r
  stops_of_line (refusal.At TooLong at cause) reading (named, long, took) = (inl (cause, ap (λ (p : List ℕ). Over TooLong p cause) named, of_lines (λ lines. line_error lines ≡ Some TooLong) long), of_lines (λ lines. Appends before.bytes now.bytes (text (answered_lines lines))) took.taken)
  stops_of_line (refusal.Plain TooManyLines) reading (many, took) = (inr (refl, of_lines (λ lines. line_error lines ≡ Some TooManyLines) many), of_lines (λ lines. Appends before.bytes now.bytes (text (answered_lines lines))) took.taken)
  stops_of_line (refusal.At Read at cause) reading (named, failed, took) = absurd (reading.input failed)
  stops_of_line (refusal.Plain Write) reading h = absurd (reading.outputs refl)
  stops_of_line (refusal.Plain OutOfMemory) reading h = absurd (reading.memory refl)
  stops_of_line (refusal.At Write at cause) reading h = absurd h
  stops_of_line (refusal.At TooManyFiles at cause) reading h = absurd h
  stops_of_line (refusal.At TooManyLines at cause) reading h = absurd h
  stops_of_line (refusal.At TooLarge at cause) reading h = absurd h
  stops_of_line (refusal.At BadPosition at cause) reading h = absurd h
  stops_of_line (refusal.At (BadDatabase f) at cause) reading h = absurd h
  stops_of_line (refusal.At (Replace u) at cause) reading h = absurd h
  stops_of_line (refusal.At OutOfMemory at cause) reading h = absurd h
  stops_of_line (refusal.Plain Read) reading h = absurd h
  stops_of_line (refusal.Plain TooLong) reading h = absurd h
  stops_of_line (refusal.Plain TooManyFiles) reading h = absurd h
  stops_of_line (refusal.Plain TooLarge) reading h = absurd h
  stops_of_line (refusal.Plain BadPosition) reading h = absurd h
  stops_of_line (refusal.Plain (BadDatabase f)) reading h = absurd h
  stops_of_line (refusal.Plain (Replace u)) reading h = absurd h
  stops_of_line refusal.NoDatabase reading h = absurd h
  stops_of_line (refusal.InWords said) reading h = absurd h

-- ---- one run: an error that comes of what is read is that of a plan that stops, or of a line of standard input
abbrev IsStopped : (before now : Outs) → Refusal → End → Type 0
IsStopped before now r e = (s : Stop) × (e ≡ Stops s) × (stop_of r ≡ s) × (now ≡ before)

abbrev IsStreamed : (input : List ℕ) (before now : Outs) → Refusal → End → Type 0
IsStreamed input before now r e = (text : List (List ℕ) → List ℕ) × (e ≡ Streams text) × OfLine text input before.out now.out r × (now.err ≡ before.err)

shown_error : (input input_now : Told) (before now : Outs) (r : Refusal) (bytes : List ℕ) → input.bytes ≡ Some bytes → IsOfReading input input_now r → (e : End) → Shows e input input_now before now (Err r)
    → IsStopped before now r e ⊎ IsStreamed bytes before now r e
shown_error input input_now before now r bytes tells reading (Stops s) (is, same) = inl (s, refl, is, same)
shown_error input input_now before now r bytes tells reading (Answers status err out) (write, failed) = absurd (reading.outputs write)
shown_error input input_now before now r bytes tells reading (Lines lines) (stops, quiet) =
    absurd (⊎_elim (λ cut. reading.outputs cut.0) (λ memory. reading.memory memory.0) stops)
shown_error input input_now before now r bytes tells reading (Streams text) (stops, quiet) =
    inr (text, refl, stops_of_line text input input_now before.out now.out bytes tells r reading stops, quiet)
shown_error input input_now before now r bytes tells reading (Scans path count) (stops, quiet) =
    absurd (⊎_elim (λ memory. reading.memory memory) (λ write. reading.outputs write) (scan_unfailed path count input input_now before.out now.out reading.input r stops))
shown_error input input_now before now r bytes tells reading (Replaces folder made said status) shows = absurd shows

-- ---- two runs
module _ (alike : PlansEndAlike) (laws : OverLaws) (at_terminal : Bool) (words : List Text) (w : Reads) (sight : Sight) (input input_now input_now2 : Told) (before now now2 : Outs) (r r2 : Refusal) (have : HavePlan at_terminal words)
    (of_input : Tells input) (of_out : Tells before.out) (reading : IsOfReading input input_now r) (reading2 : IsOfReading input input_now2 r2) where
  abbrev plan_told : (told : Result (List ℕ) Unread) (cause : List ℕ) → Plan
  plan_told told cause = have.plan (record { input = told; sight = sight; cause = cause })

  -- an end that says that memory was refused
  abbrev IsForgone : End → Type 0
  IsForgone e = e ≡ Stops (Plain OutOfMemory)

  abbrev ServesBut : (e : End) (one other : Result (List ℕ) Unread) → Type 0
  ServesBut e one other = Serves w e (IsForgone e) one other

  long_or_short : {X : Type 0} (x : List ℕ) (n m : ℕ) → IsInputTold input.bytes input.failures n (Ok x) → IsInputTold input.bytes input.failures m (Err unread.TooLong) → X
  long_or_short x n m is is2 =
      let had : x ≡ of_input.0 = subst (λ (o : Option (List ℕ)). IfSome o (λ t. x ≡ t)) of_input.1 is.0 in
      let long : max_file < length of_input.0 = subst (λ (o : Option (List ℕ)). IfSome o (λ t. max_file < length t)) of_input.1 is2 in
      let short : length of_input.0 ≤ max_file = subst (λ (xs : List ℕ). length xs ≤ max_file) had is.1 in
      absurd (too_long (length of_input.0) max_file short long)

  -- what both might be told of standard input, if each was told something else
  shared : (e f : End) (told told2 : Result (List ℕ) Unread) → IsInputTold input.bytes input.failures input_now.failures told → IsInputTold input.bytes input.failures input_now2.failures told2
      → (t : Result (List ℕ) Unread) × ServesBut e told t × ServesBut f told2 t
  shared e f (Err unread.Memory) told2 is is2 = (told2, inr (λ end. end), inl refl)
  shared e f (Err (unread.Failed why)) told2 is is2 = absurd (reading.input is)
  shared e f (Ok x) (Err unread.Memory) is is2 = (Ok x, inl refl, inr (λ end. end))
  shared e f (Ok x) (Err (unread.Failed why)) is is2 = absurd (reading2.input is2)
  shared e f (Ok x) (Err unread.TooLong) is is2 = long_or_short x input_now.failures input_now2.failures is is2
  shared e f (Ok x) (Ok y) is is2 = (Ok x, inl refl, inl (ap Ok (sym (one_told input input.failures input_now.failures input_now2.failures x y of_input is is2))))
  shared e f (Err unread.TooLong) (Err unread.Memory) is is2 = (Err unread.TooLong, inl refl, inr (λ end. end))
  shared e f (Err unread.TooLong) (Err (unread.Failed why)) is is2 = absurd (reading2.input is2)
  shared e f (Err unread.TooLong) (Err unread.TooLong) is is2 = (Err unread.TooLong, inl refl, inl refl)
  shared e f (Err unread.TooLong) (Ok y) is is2 = long_or_short y input_now2.failures input_now.failures is2 is

  moved : (e : End) (told t : Result (List ℕ) Unread) (cause : List ℕ) → ServesBut e told t → Ends w (plan_told told cause) e → Ends w (plan_told t cause) e ⊎ IsForgone e
  moved e told t cause serves ends =
      plan_moves laws w e (IsForgone e) sight cause cause told t serves (inl refl) at_terminal words (plan_told told cause) (plan_told t cause)
      (have.is (record { input = told; sight = sight; cause = cause })) (have.is (record { input = t; sight = sight; cause = cause })) ends

  one_end : (e f : End) (told told2 : Result (List ℕ) Unread) (cause cause2 : List ℕ) → IsInputTold input.bytes input.failures input_now.failures told
      → IsInputTold input.bytes input.failures input_now2.failures told2 → Ends w (plan_told told cause) e → Ends w (plan_told told2 cause2) f → AreOneEnd e f ⊎ (IsForgone e ⊎ IsForgone f)
  one_end e f told told2 cause cause2 is is2 ends ends2 =
      let (t, serves, serves2) = shared e f told told2 is is2 in
      ⊎_elim
      (λ one. ⊎_elim
      (λ two. inl (plan_alike alike sight cause cause2 t laws at_terminal words (plan_told t cause) (plan_told t cause2)
      (have.is (record { input = t; sight = sight; cause = cause })) (have.is (record { input = t; sight = sight; cause = cause2 })) w e f one two))
      (λ gone. inr (inr gone)) (moved f told2 t cause2 serves2 ends2))
      (λ gone. inr (inl gone)) (moved e told t cause serves ends)

  abbrev AreOne : Type 0
  AreOne = AreOneError r r2 × (now.err ≡ now2.err) × (now.out.bytes ≡ now2.out.bytes)

  -- an error that comes of what is read doesn't say that memory was refused
  not_forgone : {X : Type 0} (x : Refusal) (s : Stop) (e : End) (input_then : Told) → IsOfReading input input_then x → e ≡ Stops s → stop_of x ≡ s → IsForgone e → X
  not_forgone x s e input_then of_x is said gone = absurd (of_x.memory (no_memory x (said ∙ one)))
    where
      one : s ≡ Plain OutOfMemory
      one = cc

  streams_forgone : {X : Type 0} (text : List (List ℕ) → List ℕ) (e : End) → e ≡ Streams text → IsForgone e → X
  streams_forgone text e is gone = absurd cc

  same_errors : (s s2 : Stop) → AreOneEnd (Stops s) (Stops s2) → stop_of r ≡ s → stop_of r2 ≡ s2 → AreOneError r r2
  same_errors s s2 one is is2 = subst (λ (x : Stop). AreOneEnd (Stops x) (Stops (stop_of r2))) (sym is) (subst (λ (x : Stop). AreOneEnd (Stops s) (Stops x)) (sym is2) one)

  both : (e f : End) → AreOneEnd e f ⊎ (IsForgone e ⊎ IsForgone f) → IsStopped before now r e ⊎ IsStreamed of_input.0 before now r e → IsStopped before now2 r2 f ⊎ IsStreamed of_input.0 before now2 r2 f → AreOne
  both e f (inr (inl gone)) (inl (s, is, said, same)) two = not_forgone r s e input_now reading is said gone
  both e f (inr (inl gone)) (inr (text, is, line, quiet)) two = streams_forgone text e is gone
  both e f (inr (inr gone)) one (inl (s, is, said, same)) = not_forgone r2 s f input_now2 reading2 is said gone
  both e f (inr (inr gone)) one (inr (text, is, line, quiet)) = streams_forgone text f is gone
  both e f (inl ends) (inl (s, is, said, same)) (inl (s2, is2, said2, same2)) = (
    same_errors s s2 (subst (λ (x : End). AreOneEnd x (Stops s2)) is (subst (λ (x : End). AreOneEnd e x) is2 ends)) said said2,
    ap (λ (o : Outs). o.err) (same ∙ sym same2),
    ap (λ (o : Outs). o.out.bytes) (same ∙ sym same2),
  )
  both e f (inl ends) (inl (s, is, said, same)) (inr (text, is2, line, quiet)) = stops_alone s text (subst (λ (x : End). AreOneEnd x (Streams text)) is (subst (λ (x : End). AreOneEnd e x) is2 ends))
  both e f (inl ends) (inr (text, is, line, quiet)) (inl (s2, is2, said2, same2)) = streams_alone text s2 (subst (λ (x : End). AreOneEnd x (Stops s2)) is (subst (λ (x : End). AreOneEnd e x) is2 ends))
  both e f (inl ends) (inr (text, is, (line, took), quiet)) (inr (text2, is2, (line2, took2), quiet2)) =
      let same : text ≡ text2 = one_text text text2 (subst (λ (x : End). AreOneEnd x (Streams text2)) is (subst (λ (x : End). AreOneEnd e x) is2 ends)) in
      let lines = answered_lines (devices_of of_input.0) in
      let had = λ (after : Told) (t : List (List ℕ) → List ℕ) (took : Appends before.out.bytes after.bytes (t lines)). subst (λ (o : Option (List ℕ)). Appends o after.bytes (t lines)) of_out.1 took in (
        lines_one (devices_of of_input.0) r r2 line line2,
        quiet ∙ sym quiet2,
        one_grown of_out.0 now.out.bytes now2.out.bytes (text lines) (had now.out text took) (subst (λ (t : List (List ℕ) → List ℕ). Appends (Some of_out.0) now2.out.bytes (t lines)) (sym same) (had now2.out text2 took2)),
      )

  errors_one : ShowsPlan (λ a. shown_plan at_terminal a words) w sight input input_now before now (Err r) → ShowsPlan (λ a. shown_plan at_terminal a words) w sight input input_now2 before now2 (Err r2) → AreOne
  errors_one (told, so, (cause, line, shows)) (told2, so2, (cause2, line2, shows2)) =
      by
      (subst (λ (o : Option Plan). IfSome o (λ p. ShowsEnd w p input input_now before now (Err r))) (have.is (record { input = told; sight = sight; cause = cause })) shows)
      (subst (λ (o : Option Plan). IfSome o (λ p. ShowsEnd w p input input_now2 before now2 (Err r2))) (have.is (record { input = told2; sight = sight; cause = cause2 })) shows2)
    where
      by : ShowsEnd w (plan_told told cause) input input_now before now (Err r) → ShowsEnd w (plan_told told2 cause2) input input_now2 before now2 (Err r2) → AreOne
      by (inr none) two = absurd (reading.memory none.0)
      by (inl one) (inr none) = absurd (reading2.memory none.0)
      by (inl (e, ends, shows)) (inl (f, ends2, shows2)) =
          both e f (one_end e f told told2 cause cause2 so so2 ends ends2)
          (shown_error input input_now before now r of_input.0 of_input.1 reading e shows) (shown_error input input_now2 before now2 r2 of_input.0 of_input.1 reading2 f shows2)

pub planned_errors : PlansEndAlike → OverIsOver → OverIsNoMore → PlannedErrorsAreOne
planned_errors alike is_over no_more at_terminal words w sight input input_now input_now2 before now now2 r r2 have of_input of_out reading reading2 =
    errors_one alike (is_over, no_more) at_terminal words w sight input input_now input_now2 before now now2 r r2 have of_input of_out reading reading2
