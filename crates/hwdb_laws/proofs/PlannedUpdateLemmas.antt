-- Two updates over one input are one.
use Rattle.std.specs.List.{AllByRecursion}
use Rattle.std.specs.Io.KnownBytes.{Appends}
use Rattle.std.proofs.Common.{◌≡◌, ◌∙◌, ◌⊎◌, ◌∷◌, ◌++◌, ⊎_elim, inl, inr, ap, refl, subst, sym, drop, length, Bool, List, Option, None, Result, Some, Ok, Err, IsOk, ℕ, [], true, false}
use Rattle.std.specs.Prelude.{if◌then◌else◌, nat_le}
use Rattle.hwdb_spec.specs.Folders.{Choice, FaultIn, Source, choice, chosen_of, max_files, names, path_of}
use Rattle.hwdb_spec.specs.Lemmas.Orders.{one_or_two}
use Rattle.hwdb_spec.specs.Store.{Contents, InPlace, IsKept, IsPartPath, Same, database_file, database_name, path_in}
use Rattle.hwdb_spec.specs.System.{database_folder, etc_files, usr_files}
use Rattle.hwdb_spec.specs.Texts.{status_of}
use Rattle.hwdb_spec.specs.declared.causes.Cause.{Cause}
use Rattle.hwdb_spec.specs.declared.causes.Cause.TheVariants as why
use Rattle.hwdb_spec.specs.declared.errors.ToolError.TheVariants.{BadDatabase, BadPosition, Memory as OutOfMemory, Read, Replace, TooLarge, TooLong, TooManyFiles, TooManyLines, Write}
use Rattle.hwdb_spec_commands.specs.Asked.{database_path}
use Rattle.hwdb_spec_commands.specs.Emptied.{loss_text}
use Rattle.hwdb_spec_commands.specs.LeftOut.{status_less}
use Rattle.hwdb_spec_commands.specs.Progress.{listing}
use Rattle.hwdb_spec_commands.specs.Refusals.{IsOver}
use Rattle.hwdb_spec_commands.specs.Runs.{AreKept, Files, HasTaken, Told}
use Rattle.hwdb_spec_commands.specs.Told.{Reads, Stop, Unlisted, stop_of, unlisted_stop, unread_stop}
use Rattle.hwdb_spec_commands.specs.Told.Stop.{Plain}
use Rattle.hwdb_spec_commands.specs.declared.refusals.Refusal.{Refusal}
use Rattle.hwdb_spec_commands.specs.declared.refusals.Refusal.TheVariants as refusal
use Rattle.hwdb_spec_commands.specs.declared.unread.Unread.{Unread}
use Rattle.hwdb_spec_commands.specs.declared.unread.Unread.TheVariants as unread
use Rattle.hwdb_plan.specs.Asking.{if_read}
use Rattle.hwdb_plan.specs.Ended.{Outs, ReplaceStops}
use Rattle.hwdb_plan.specs.Folders.{Texts, choose, if_listed, names_of, paths_of, read_texts, texts_of_names, with_texts}
use Rattle.hwdb_plan.specs.Laws.{DoneIsOne, PlansEndAlike}
use Rattle.hwdb_plan.specs.Plans.{End, Ends, Plan}
use Rattle.hwdb_plan.specs.Plans.End.{Answers, Lines, Replaces, Scans, Stops, Streams}
use Rattle.hwdb_plan.specs.Plans.Plan.{Done}
use Rattle.hwdb_plan.specs.Put.{put_plan}
use Rattle.hwdb_plan.specs.Putting.{PutsEnd, SaysThen}
use Rattle.hwdb_plan.specs.Readable.{LeftOut, Readable, first_text, if_looked, look, none_left_out, one_left_out, others, read_if, read_names, readable}
use Rattle.hwdb_plan.specs.Update.{if_seen, is_some_lost, left_out_plan, loss_of, lost_in, lost_of, put_readable, update_plan}
use Rattle.hwdb_spec_program.specs.HidingPlan.{hiding_plan}
use Rattle.hwdb_spec_program.specs.ProgramPlan.{AskedUpdate, DoesUpdate, UpdatesIfAsked}
use Rattle.hwdb_laws.specs.PlannedUpdates.{AreReadable, BeginAlike, IsOneUpdate, IsOfTexts, LeavesNoneOut, PlannedUpdateIsNoError, PlannedUpdatesAreOne, PlannedUpdatesEndInOneError}
use Rattle.hwdb_laws.specs.PlannedErrors.{AreOneEnd, AreOneError}

-- ---- such ends of one plan are ends of another one, and are of a kind to which each error belongs
module _ (w : Reads) (Such Kind : End → Type 0) (of_stop : (s : Stop) → Kind (Stops s)) where
  abbrev Moves : (p q : Plan) → Type 0
  Moves p q = (e : End) → Such e → Ends w p e → Ends w q e × Kind e

  stops : (s : Stop) → Moves (Done (Stops s)) (Done (Stops s))
  unfolding Ends
  stops s e such ends = (ends, subst Kind (sym ends) (of_stop s))

  names_move : (folder : List ℕ) (one two : List (List ℕ) → Plan) → ((l : List (List ℕ)) → w.names folder ≡ Ok l → Moves (one l) (two l)) → Moves (names_of folder one) (names_of folder two)
  unfolding Ends
  names_move folder one two step = by (w.names folder) refl
    where
      by : (told : Result (List (List ℕ)) Unlisted) → w.names folder ≡ told → Moves (if_listed folder one told) (if_listed folder two told)
      by (Ok l) told = step l told
      by (Err u) told = stops (unlisted_stop folder u)

  choice_moves : (etc usr : List (List ℕ)) (one two : List Choice → Plan) → Moves (one (choice etc usr)) (two (choice etc usr)) → Moves (choose etc usr one) (choose etc usr two)
  choice_moves etc usr one two step = by (nat_le (length (names etc usr)) max_files)
    where
      by : (b : Bool) → Moves (if b then one (choice etc usr) else Done (Stops (Plain TooManyFiles))) (if b then two (choice etc usr) else Done (Stops (Plain TooManyFiles)))
      by true = step
      by false = stops (Plain TooManyFiles)

  texts_move : (paths texts : List (List ℕ)) (one two : List (List ℕ) → Plan) → ((l : List (List ℕ)) → Moves (one l) (two l)) → Moves (read_texts paths texts one) (read_texts paths texts two)
  unfolding read_texts Ends
  texts_move [] texts one two step = step texts
  texts_move (path ∷ more) texts one two step = by (λ bytes. texts_move more (texts ++ bytes ∷ []) one two step) (w.text path)
    where
      by : ((bytes : List ℕ) → Moves (read_texts more (texts ++ bytes ∷ []) one) (read_texts more (texts ++ bytes ∷ []) two)) → (told : Result (List ℕ) Unread)
          → Moves (if_read path (λ at bytes. read_texts more (texts ++ bytes ∷ []) one) told) (if_read path (λ at bytes. read_texts more (texts ++ bytes ∷ []) two) told)
      by again (Ok bytes) = again bytes
      by again (Err u) = stops (unread_stop path u)

  read_moves : (root : List ℕ) (etc usr : List (List ℕ)) (one two : Texts → Plan) → ((t : Texts) → Moves (one t) (two t)) → Moves (texts_of_names root etc usr one) (texts_of_names root etc usr two)
  read_moves root etc usr one two step =
      choice_moves etc usr (λ chosen. read_texts (paths_of root chosen) [] (λ texts. one (with_texts usr chosen texts))) (λ chosen. read_texts (paths_of root chosen) [] (λ texts. two (with_texts usr chosen texts)))
      (texts_move (paths_of root (choice etc usr)) [] (λ texts. one (with_texts usr (choice etc usr) texts)) (λ texts. two (with_texts usr (choice etc usr) texts))
      (λ texts. step (with_texts usr (choice etc usr) texts)))

  same_moves : (root : List ℕ) (etc usr : List (List ℕ)) (left : LeftOut) (next : Readable → Plan) → ((r : Readable) → Moves (next r) (next r)) → Moves (read_names root etc usr left next) (read_names root etc usr left next)
  same_moves root etc usr left next step = read_moves root etc usr (λ t. next (readable etc usr left t)) (λ t. next (readable etc usr left t)) (λ t. step (readable etc usr left t))

  -- a file that is looked at
  abbrev past : (root : List ℕ) (c : Choice) (more : List Choice) (words : List (List ℕ)) (left : LeftOut) (next : LeftOut → Plan) → Option Cause → Plan
  past root c more words left next cause = look root more (drop 1 words) (one_left_out root c cause (first_text words) left) next

  look_by : (root : List ℕ) (c : Choice) (more : List Choice) (words words2 : List (List ℕ)) (left left2 : LeftOut) (one two : LeftOut → Plan) → Moves (look root more words left one) (look root more words2 left2 two)
      → ((cause : Option Cause) → Moves (past root c more words left one cause) (past root c more words2 left2 two cause)) → (told : Result (List ℕ) Unread)
      → Moves (if_looked (root ++ path_of c) (look root more words left one) (past root c more words left one) told) (if_looked (root ++ path_of c) (look root more words2 left2 two) (past root c more words2 left2 two) told)
  look_by root c more words words2 left left2 one two on leaves (Ok bytes) = on
  look_by root c more words words2 left left2 one two on leaves (Err unread.TooLong) = stops (unread_stop (root ++ path_of c) unread.TooLong)
  look_by root c more words words2 left left2 one two on leaves (Err unread.Memory) = stops (unread_stop (root ++ path_of c) unread.Memory)
  look_by root c more words words2 left left2 one two on leaves (Err (unread.Failed None)) = leaves None
  look_by root c more words words2 left left2 one two on leaves (Err (unread.Failed (Some why.Memory))) = stops (unread_stop (root ++ path_of c) unread.Memory)
  look_by root c more words words2 left left2 one two on leaves (Err (unread.Failed (Some cause))) = leaves (Some cause)

  -- which files are left out isn't a matter of the words
  looks_move : (root : List ℕ) (chosen : List Choice) (words words2 : List (List ℕ)) (left left2 : LeftOut) (one two : LeftOut → Plan) → left.files ≡ left2.files
      → ((l l2 : LeftOut) → l.files ≡ l2.files → Moves (one l) (two l2)) → Moves (look root chosen words left one) (look root chosen words2 left2 two)
  unfolding look Ends
  looks_move root [] words words2 left left2 one two same step = step left left2 same
  looks_move root (c ∷ more) words words2 left left2 one two same step =
      look_by root c more words words2 left left2 one two (looks_move root more words words2 left left2 one two same step)
      (λ cause. looks_move root more (drop 1 words) (drop 1 words2) (one_left_out root c cause (first_text words) left) (one_left_out root c cause (first_text words2) left2) one two
      (ap (λ (files : List Choice). files ++ c ∷ []) same) step) (w.text (root ++ path_of c))

  -- if all can be read none is left out
  looks_over : (root : List ℕ) (chosen : List Choice) (words words2 : List (List ℕ)) (left : LeftOut) (next : LeftOut → Plan) → AllByRecursion (λ (c : Choice). IsOk (w.text (root ++ path_of c))) chosen
      → ((l : LeftOut) → Moves (next l) (next l)) → Moves (look root chosen words left next) (look root chosen words2 left next)
  unfolding look Ends
  looks_over root [] words words2 left next all step = step left
  looks_over root (c ∷ more) words words2 left next all step = by (looks_over root more words words2 left next all.1 step) (w.text (root ++ path_of c)) all.0
    where
      by : Moves (look root more words left next) (look root more words2 left next) → (told : Result (List ℕ) Unread) → IsOk told
          → Moves (if_looked (root ++ path_of c) (look root more words left next) (past root c more words left next) told) (if_looked (root ++ path_of c) (look root more words2 left next) (past root c more words2 left next) told)
      by on (Ok bytes) is = on
      by on (Err u) is = absurd cc

  -- ---- what is lost
  lost_moves : (found : Option (List ℕ)) (next : Bool → Plan) → ((b : Bool) → Moves (next b) (next b)) → Moves (lost_of found next) (lost_of found next)
  unfolding Ends
  lost_moves None next step e such ends = step false e such ends
  lost_moves (Some bytes) next step e such (inl (t, is, ends)) = (inl (t, is, ends), (step (is_some_lost (Some t)) e such ends).1)
  lost_moves (Some bytes) next step e such (inr (none, ends)) = (inr (none, ends), (step true e such ends).1)

  place_moves : (path : List ℕ) (next : Bool → Plan) → ((b : Bool) → Moves (next b) (next b)) → Moves (lost_in path next) (lost_in path next)
  unfolding Ends
  place_moves path next step = by (w.database path)
    where
      by : (told : Result (Option (List ℕ)) Unread) → Moves (if_seen path (λ found. lost_of found next) told) (if_seen path (λ found. lost_of found next) told)
      by (Ok found) = lost_moves found next step
      by (Err u) = stops (unread_stop path u)

  loss_moves : (chosen : List Choice) (root : List ℕ) (usr : Bool) (next : List ℕ → Plan) → ((l : List ℕ) → Moves (next l) (next l)) → Moves (loss_of chosen root usr next) (loss_of chosen root usr next)
  loss_moves [] root usr next step =
      place_moves (database_path false root) (λ etc. lost_in (database_path true root) (λ of_usr. next (loss_text root usr etc of_usr)))
      (λ etc. place_moves (database_path true root) (λ of_usr. next (loss_text root usr etc of_usr)) (λ of_usr. step (loss_text root usr etc of_usr)))
  loss_moves (c ∷ more) root usr next step = step []

-- any end
abbrev Any : End → Type 0
Any e = Unit {0}

-- ---- an update
module _ (w : Reads) (root : List ℕ) (usr strict verbose : Bool) where
  -- it ends in the folder, or with an error
  abbrev IsInFolder : End → Type 0
  IsInFolder (Replaces folder bytes said status) = folder ≡ database_folder usr root
  IsInFolder e = Unit {0}

  abbrev Goes : (p q : Plan) → Type 0
  Goes p q = Moves w Any IsInFolder (λ s. tt) p q

  put_goes : (loss : List ℕ) (of_etc of_usr : List Source) (listed : Option (List (List ℕ))) (answer : List FaultIn → ℕ)
      → Goes (put_plan loss of_etc of_usr listed answer (database_folder usr root)) (put_plan loss of_etc of_usr listed answer (database_folder usr root))
  unfolding Ends
  put_goes loss of_etc of_usr listed answer e such (inl (bytes, made, inl (t, is, ends))) = (inl (bytes, made, inl (t, is, ends)), subst IsInFolder (sym ends) refl)
  put_goes loss of_etc of_usr listed answer e such (inl (bytes, made, inr (f, is, ends))) = (inl (bytes, made, inr (f, is, ends)), subst IsInFolder (sym ends) tt)
  put_goes loss of_etc of_usr listed answer e such (inr (reason, much, ends)) = (inr (reason, much, ends), subst IsInFolder (sym ends) tt)

  readable_goes : (r : Readable) → Goes (put_readable root usr strict verbose r) (put_readable root usr strict verbose r)
  readable_goes r =
      loss_moves w Any IsInFolder (λ s. tt) (chosen_of r.etc r.usr) root usr
      (λ loss. put_plan loss r.etc r.usr (listing verbose r.usr) (λ faults. status_less strict r.left.files (status_of strict faults)) (database_folder usr root))
      (λ loss. put_goes loss r.etc r.usr (listing verbose r.usr) (λ faults. status_less strict r.left.files (status_of strict faults)))

  -- those that are left after some are left out
  abbrev after : (etc of_usr : List (List ℕ)) → LeftOut → Plan
  after etc of_usr left = read_names root (others left.files etc) (others left.files of_usr) left (put_readable root usr strict verbose)

  after_goes : (etc of_usr : List (List ℕ)) (left left2 : LeftOut) → left.files ≡ left2.files → Goes (after etc of_usr left) (after etc of_usr left2)
  after_goes etc of_usr left left2 same e such ends =
      let same_end = subst (λ (files : List Choice). Ends w (after etc of_usr (record { files = files; said = [] })) e) same ends in
      let kind = same_moves w Any IsInFolder (λ s. tt) root (others left2.files etc) (others left2.files of_usr) left2 (put_readable root usr strict verbose) readable_goes e such same_end in
      (same_end, kind.1)

  -- an update's end is one whatever words the causes have
  update_goes : (skip : Bool) (words words2 : List (List ℕ)) → Goes (update_plan root usr strict verbose skip words) (update_plan root usr strict verbose skip words2)
  update_goes skip words words2 =
      names_move w Any IsInFolder (λ s. tt) (etc_files root) (λ etc. names_of (usr_files root) (λ of_usr. read_if skip root words etc of_usr (put_readable root usr strict verbose)))
      (λ etc. names_of (usr_files root) (λ of_usr. read_if skip root words2 etc of_usr (put_readable root usr strict verbose)))
      (λ etc told. names_move w Any IsInFolder (λ s. tt) (usr_files root) (λ of_usr. read_if skip root words etc of_usr (put_readable root usr strict verbose))
      (λ of_usr. read_if skip root words2 etc of_usr (put_readable root usr strict verbose)) (λ of_usr told2. by skip etc of_usr))
    where
      by : (b : Bool) (etc of_usr : List (List ℕ)) → Goes (read_if b root words etc of_usr (put_readable root usr strict verbose)) (read_if b root words2 etc of_usr (put_readable root usr strict verbose))
      by true etc of_usr =
          choice_moves w Any IsInFolder (λ s. tt) etc of_usr (λ chosen. look root chosen words none_left_out (after etc of_usr)) (λ chosen. look root chosen words2 none_left_out (after etc of_usr))
          (looks_move w Any IsInFolder (λ s. tt) root (choice etc of_usr) words words2 none_left_out none_left_out (after etc of_usr) (after etc of_usr) refl (after_goes etc of_usr))
      by false etc of_usr = same_moves w Any IsInFolder (λ s. tt) root etc of_usr none_left_out (put_readable root usr strict verbose) readable_goes

-- ---- the lines of files that are left out
module _ (w : Reads) (root : List ℕ) where
  abbrev Says : (p q : Plan) → Type 0
  Says p q = Moves w Any Any (λ s. tt) p q

  abbrev lines : Readable → Plan
  lines r = Done (Answers 0 r.left.said [])

  lines_say : (r : Readable) → Says (lines r) (lines r)
  lines_say r e such ends = (ends, tt)

  -- none is left out, so that there are no words
  left_out_says : (skip : Bool) (words words2 : List (List ℕ)) → (skip ≡ false) ⊎ AreReadable w root → Says (left_out_plan root skip words) (left_out_plan root skip words2)
  left_out_says skip words words2 none =
      names_move w Any Any (λ s. tt) (etc_files root) (λ etc. names_of (usr_files root) (λ usr. read_if skip root words etc usr lines))
      (λ etc. names_of (usr_files root) (λ usr. read_if skip root words2 etc usr lines))
      (λ etc told. names_move w Any Any (λ s. tt) (usr_files root) (λ usr. read_if skip root words etc usr lines)
      (λ usr. read_if skip root words2 etc usr lines) (λ usr told2. by skip etc usr told told2 none))
    where
      plain : (etc usr : List (List ℕ)) → Says (read_if false root words etc usr lines) (read_if false root words2 etc usr lines)
      plain etc usr = same_moves w Any Any (λ s. tt) root etc usr none_left_out lines lines_say

      by : (b : Bool) (etc usr : List (List ℕ)) → w.names (etc_files root) ≡ Ok etc → w.names (usr_files root) ≡ Ok usr → (b ≡ false) ⊎ AreReadable w root
          → Says (read_if b root words etc usr lines) (read_if b root words2 etc usr lines)
      by false etc usr told told2 none = plain etc usr
      by true etc usr told told2 (inl off) = absurd cc
      by true etc usr told told2 (inr all) =
          let next : LeftOut → Plan = λ left. read_names root (others left.files etc) (others left.files usr) left lines in
          choice_moves w Any Any (λ s. tt) etc usr (λ chosen. look root chosen words none_left_out next) (λ chosen. look root chosen words2 none_left_out next)
          (looks_over w Any Any (λ s. tt) root (choice etc usr) words words2 none_left_out next (all etc usr told told2)
          (λ left. same_moves w Any Any (λ s. tt) root (others left.files etc) (others left.files usr) left lines lines_say))

-- ---- an error before anything is put
module _ (w : Reads) (root : List ℕ) (usr strict verbose : Bool) (s : Stop) where
  abbrev Stands : (p q : Plan) → Type 0
  Stands p q = Moves w (λ e. e ≡ Stops s) Any (λ s. tt) p q

  -- no line is an error
  line_stands : (r r2 : Readable) → Stands (lines w root r) (put_readable root usr strict verbose r2)
  unfolding Ends
  line_stands r r2 e such ends = cc

  lines_stand : (etc of_usr : List (List ℕ)) (left left2 : LeftOut) → left.files ≡ left2.files
      → Stands (read_names root (others left.files etc) (others left.files of_usr) left (lines w root)) (read_names root (others left2.files etc) (others left2.files of_usr) left2 (put_readable root usr strict verbose))
  lines_stand etc of_usr left left2 same =
      subst (λ (files : List Choice). Stands (read_names root (others left.files etc) (others left.files of_usr) left (lines w root)) (read_names root (others files etc) (others files of_usr) left2 (put_readable root usr strict verbose))) same
      (read_moves w (λ e. e ≡ Stops s) Any (λ s. tt) root (others left.files etc) (others left.files of_usr) (λ t. lines w root (readable (others left.files etc) (others left.files of_usr) left t))
      (λ t. put_readable root usr strict verbose (readable (others left.files etc) (others left.files of_usr) left2 t))
      (λ t. line_stands (readable (others left.files etc) (others left.files of_usr) left t) (readable (others left.files etc) (others left.files of_usr) left2 t)))

  -- an error of the first plan is one of the second, whatever words the causes have
  left_out_stops : (skip : Bool) (words words2 : List (List ℕ)) → Ends w (left_out_plan root skip words) (Stops s) → Ends w (update_plan root usr strict verbose skip words2) (Stops s)
  left_out_stops skip words words2 ends =
      (names_move w (λ e. e ≡ Stops s) Any (λ s. tt) (etc_files root) (λ etc. names_of (usr_files root) (λ of_usr. read_if skip root words etc of_usr (lines w root)))
      (λ etc. names_of (usr_files root) (λ of_usr. read_if skip root words2 etc of_usr (put_readable root usr strict verbose)))
      (λ etc told. names_move w (λ e. e ≡ Stops s) Any (λ s. tt) (usr_files root) (λ of_usr. read_if skip root words etc of_usr (lines w root))
      (λ of_usr. read_if skip root words2 etc of_usr (put_readable root usr strict verbose)) (λ of_usr told2. by skip etc of_usr)) (Stops s) refl ends).0
    where
      by : (b : Bool) (etc of_usr : List (List ℕ)) → Stands (read_if b root words etc of_usr (lines w root)) (read_if b root words2 etc of_usr (put_readable root usr strict verbose))
      by true etc of_usr =
          choice_moves w (λ e. e ≡ Stops s) Any (λ s. tt) etc of_usr (λ chosen. look root chosen words none_left_out (λ left. read_names root (others left.files etc) (others left.files of_usr) left (lines w root)))
          (λ chosen. look root chosen words2 none_left_out (after w root usr strict verbose etc of_usr))
          (looks_move w (λ e. e ≡ Stops s) Any (λ s. tt) root (choice etc of_usr) words words2 none_left_out none_left_out (λ left. read_names root (others left.files etc) (others left.files of_usr) left (lines w root))
          (after w root usr strict verbose etc of_usr) refl (lines_stand etc of_usr))
      by false etc of_usr =
          read_moves w (λ e. e ≡ Stops s) Any (λ s. tt) root etc of_usr (λ t. lines w root (readable etc of_usr none_left_out t)) (λ t. put_readable root usr strict verbose (readable etc of_usr none_left_out t))
          (λ t. line_stands (readable etc of_usr none_left_out t) (readable etc of_usr none_left_out t))

-- the line on a database that hides the new one is none
hiding_goes_on : (w : Reads) (usr verbose : Bool) (root : List ℕ) (s : Stop) → Ends w (hiding_plan usr verbose root) (Stops s) → ⊥
unfolding Ends
hiding_goes_on w false verbose root s ends = cc
hiding_goes_on w true false root s ends = cc
hiding_goes_on w true true root s ends = cc

-- ---- what an update left that is done
-- a text was said, and then this holds
record HasSaid (w : Reads) (p : Plan) (After : Told → Type 0) (err_before : Told) : Type 0 where
  status : ℕ
  said : List ℕ
  out : List ℕ
  ends : Ends w p (Answers status said out)
  told : Told
  took : HasTaken said err_before told
  after : After told

has_said : (w : Reads) (p : Plan) (After : Told → Type 0) (before now : Files) (err_before err_now : Told) (n : ℕ) → SaysThen w p After before now err_before err_now (Ok n) → HasSaid w p After err_before
has_said w p After before now eb en n (inr none) = absurd none.0
has_said w p After before now eb en n (inl (Stops s, ends, left)) = absurd left.0
has_said w p After before now eb en n (inl (Lines lines, ends, left)) = absurd left
has_said w p After before now eb en n (inl (Streams text, ends, left)) = absurd left
has_said w p After before now eb en n (inl (Scans path count, ends, left)) = absurd left
has_said w p After before now eb en n (inl (Replaces folder bytes said status, ends, left)) = absurd left
has_said w p After before now eb en n (inl (Answers status said out, ends, inl unsaid)) = absurd unsaid.0
has_said w p After before now eb en n (inl (Answers status said out, ends, inr (told, took, after))) =
    record { status = status; said = said; out = out; ends = ends; told = told; took = took; after = after }

-- a database was put in its place
record HasPut (w : Reads) (p : Plan) (n : ℕ) (before now : Files) (err_before err_now : Told) : Type 0 where
  folder : List ℕ
  bytes : List ℕ
  said : List ℕ
  status : ℕ
  ends : Ends w p (Replaces folder bytes said status)
  is : n ≡ status
  took : HasTaken said err_before err_now
  in_place : InPlace folder bytes before.seen now.seen now.left

has_put : (w : Reads) (p : Plan) (before now : Files) (err_before err_now : Told) (n : ℕ) → PutsEnd w p before now err_before err_now (Ok n) → HasPut w p n before now err_before err_now
has_put w p before now eb en n (inr none) = absurd none.0
has_put w p before now eb en n (inl (Stops s, ends, left)) = absurd left.0
has_put w p before now eb en n (inl (Answers status said out, ends, left)) = absurd left
has_put w p before now eb en n (inl (Lines lines, ends, left)) = absurd left
has_put w p before now eb en n (inl (Streams text, ends, left)) = absurd left
has_put w p before now eb en n (inl (Scans path count, ends, left)) = absurd left
has_put w p before now eb en n (inl (Replaces folder bytes said status, ends, (is, took, place))) =
    record { folder = folder; bytes = bytes; said = said; status = status; ends = ends; is = is; took = took; in_place = place }

-- ---- what a device has then
grown : (had : List ℕ) (now : Option (List ℕ)) (text : List ℕ) → Appends (Some had) now text → now ≡ Some (had ++ text)
grown had None text took = absurd took
grown had (Some xs) text took = ap Some took

grows : (had : List ℕ) (before now : Told) (text : List ℕ) → before.bytes ≡ Some had → HasTaken text before now → now.bytes ≡ Some (had ++ text)
grows had before now text tells took = grown had now.bytes text (subst (λ (o : Option (List ℕ)). Appends o now.bytes text) tells took.whole)

-- ---- two of them
module _ (one_end : DoneIsOne) (w : Reads) where
  -- both say one text
  one_said : (p : Plan) (n m : ℕ) (said said2 out out2 : List ℕ) → Ends w p (Answers n said out) → Ends w p (Answers m said2 out2) → said ≡ said2
  one_said p n m said said2 out out2 ends ends2 =
      let same : Answers n said out ≡ Answers m said2 out2 = one_end w p (Answers n said out) (Answers m said2 out2) (λ s is. cc) ends ends2 in cc

  record IsOnePut (folder folder2 bytes bytes2 said said2 : List ℕ) (n m : ℕ) : Type 0 where
    folders : folder ≡ folder2
    both : bytes ≡ bytes2
    texts : said ≡ said2
    numbers : n ≡ m

  -- both put one database
  one_put : (p : Plan) (folder folder2 bytes bytes2 said said2 : List ℕ) (n m : ℕ) → Ends w p (Replaces folder bytes said n) → Ends w p (Replaces folder2 bytes2 said2 m) → IsOnePut folder folder2 bytes bytes2 said said2 n m
  one_put p folder folder2 bytes bytes2 said said2 n m ends ends2 =
      let same : Replaces folder bytes said n ≡ Replaces folder2 bytes2 said2 m = one_end w p (Replaces folder bytes said n) (Replaces folder2 bytes2 said2 m) (λ s is. cc) ends ends2 in
      record { folders = cc; both = cc; texts = cc; numbers = cc }

one_or_gone : (folder : List ℕ) (old old2 new new2 : Contents) (p : List ℕ) → Same old old2 → IsKept folder old new p → IsKept folder old2 new2 p → (new2 p ≡ new p) ⊎ IsPartPath folder p
one_or_gone folder old old2 new new2 p same (inl one) (inl two) = inl (two ∙ same p ∙ sym one)
one_or_gone folder old old2 new new2 p same (inl one) (inr two) = inr two.0
one_or_gone folder old old2 new new2 p same (inr one) two = inr one.0

module _ (one_end : DoneIsOne) (w : Reads) (u : AskedUpdate) (before now before2 now2 : Files) (outs_before outs_now outs_before2 outs_now2 : Outs) (status status2 : ℕ)
    (alike : BeginAlike before before2 outs_before outs_before2) where
  abbrev Update : (words : List (List ℕ)) → Plan
  Update words = update_plan u.root u.usr u.strict u.verbose u.skip words

  abbrev Hiding : Plan
  Hiding = hiding_plan u.usr u.verbose u.root

  abbrev Left : (words : List (List ℕ)) → Plan
  Left words = left_out_plan u.root u.skip words

  abbrev Then : (words : List (List ℕ)) (before now : Files) (n : ℕ) (err_now err_told : Told) → Type 0
  Then words before now n err_now err_told = SaysThen w (Left words) (λ err_said. PutsEnd w (Update words) before now err_said err_now (Ok n)) before now err_told err_now (Ok n)

  abbrev IsOne : Type 0
  IsOne = IsOneUpdate w u status status2 now now2 outs_now outs_now2

  -- both texts of each, one after another
  texts_one : (had : List ℕ) (words words2 : List (List ℕ)) (first : HasSaid w Hiding (Then words before now status outs_now.err) outs_before.err) (first2 : HasSaid w Hiding (Then words2 before2 now2 status2 outs_now2.err) outs_before2.err)
      (next : HasSaid w (Left words) (λ err_said. PutsEnd w (Update words) before now err_said outs_now.err (Ok status)) first.told)
      (next2 : HasSaid w (Left words2) (λ err_said. PutsEnd w (Update words2) before2 now2 err_said outs_now2.err (Ok status2)) first2.told)
      (put : HasPut w (Update words) status before now next.told outs_now.err) (put2 : HasPut w (Update words2) status2 before2 now2 next2.told outs_now2.err) → outs_before.err.bytes ≡ Some had
      → put.said ≡ put2.said → LeavesNoneOut w u → outs_now.err.bytes ≡ outs_now2.err.bytes
  texts_one had words words2 first first2 next next2 put put2 tells same none =
      let hides = one_said one_end w Hiding first.status first2.status first.said first2.said first.out first2.out first.ends first2.ends in
      let moved = (left_out_says w u.root u.skip words2 words none (Answers next2.status next2.said next2.out) tt next2.ends).0 in
      let leaves = one_said one_end w (Left words) next.status next2.status next.said next2.said next.out next2.out next.ends moved in
      let one = grows ((had ++ first.said) ++ next.said) next.told outs_now.err put.said (grows (had ++ first.said) first.told next.told next.said (grows had outs_before.err first.told first.said tells first.took) next.took) put.took in
      let two = grows ((had ++ first2.said) ++ next2.said) next2.told outs_now2.err put2.said
      (grows (had ++ first2.said) first2.told next2.told next2.said (grows had outs_before2.err first2.told first2.said (alike.err ∙ tells) first2.took) next2.took) put2.took in
      one ∙ ap (λ (t : List ℕ). Some (((had ++ t) ++ next.said) ++ put.said)) hides ∙ ap (λ (t : List ℕ). Some (((had ++ first2.said) ++ t) ++ put.said)) leaves
      ∙ ap (λ (t : List ℕ). Some (((had ++ first2.said) ++ next2.said) ++ t)) same ∙ sym two

  put_one : (words words2 : List (List ℕ)) (first : HasSaid w Hiding (Then words before now status outs_now.err) outs_before.err) (first2 : HasSaid w Hiding (Then words2 before2 now2 status2 outs_now2.err) outs_before2.err)
      (next : HasSaid w (Left words) (λ err_said. PutsEnd w (Update words) before now err_said outs_now.err (Ok status)) first.told)
      (next2 : HasSaid w (Left words2) (λ err_said. PutsEnd w (Update words2) before2 now2 err_said outs_now2.err (Ok status2)) first2.told)
      → HasPut w (Update words) status before now next.told outs_now.err → HasPut w (Update words2) status2 before2 now2 next2.told outs_now2.err
      → outs_now.out ≡ outs_before.out → outs_now2.out ≡ outs_before2.out → IsOne
  put_one words words2 first first2 next next2 put put2 out out2 =
      let folder = database_folder u.usr u.root in
      let here = update_goes w u.root u.usr u.strict u.verbose u.skip words words (Replaces put.folder put.bytes put.said put.status) tt put.ends in
      let moved = update_goes w u.root u.usr u.strict u.verbose u.skip words2 words (Replaces put2.folder put2.bytes put2.said put2.status) tt put2.ends in
      let same = one_put one_end w (Update words) put.folder put2.folder put.bytes put2.bytes put.said put2.said put.status put2.status put.ends moved.0 in
      let one : InPlace folder put.bytes before.seen now.seen now.left = subst (λ (f : List ℕ). InPlace f put.bytes before.seen now.seen now.left) here.1 put.in_place in
      let two : InPlace folder put2.bytes before2.seen now2.seen now2.left = subst (λ (f : List ℕ). InPlace f put2.bytes before2.seen now2.seen now2.left) moved.1 put2.in_place in
      let there2 : now2.seen (path_in folder database_name) ≡ Some (database_file put.bytes) = two.seen.there ∙ ap (λ (b : List ℕ). Some (database_file b)) (sym same.both) in
      record {
        one_status = put.is ∙ same.numbers ∙ sym put2.is;
        database = put.bytes;
        in_place = one.seen.there;
        in_place2 = there2;
        one_files = λ p.
            ⊎_elim (λ at. inl (ap now2.seen at ∙ there2 ∙ sym (ap now.seen at ∙ one.seen.there)))
            (λ other. one_or_gone folder before.seen before2.seen now.seen now2.seen p alike.files (one.seen.others p other) (two.seen.others p other)) (one_or_two p (path_in folder database_name));
        one_err = λ none. texts_one alike.tells.0 words words2 first first2 next next2 put put2 alike.tells.1 same.texts none;
        one_out = ap (λ (t : Told). t.bytes) out ∙ sym alike.out ∙ sym (ap (λ (t : Told). t.bytes) out2);
      }

  updates_one : DoesUpdate u w before now outs_before outs_now (Ok status) → DoesUpdate u w before2 now2 outs_before2 outs_now2 (Ok status2) → IsOne
  updates_one ((words, tells), out) ((words2, tells2), out2) =
      let first = has_said w Hiding (Then words before now status outs_now.err) before now outs_before.err outs_now.err status tells in
      let first2 = has_said w Hiding (Then words2 before2 now2 status2 outs_now2.err) before2 now2 outs_before2.err outs_now2.err status2 tells2 in
      let next = has_said w (Left words) (λ err_said. PutsEnd w (Update words) before now err_said outs_now.err (Ok status)) before now first.told outs_now.err status first.after in
      let next2 = has_said w (Left words2) (λ err_said. PutsEnd w (Update words2) before2 now2 err_said outs_now2.err (Ok status2)) before2 now2 first2.told outs_now2.err status2 first2.after in
      put_one words words2 first first2 next next2 (has_put w (Update words) before now next.told outs_now.err status next.after) (has_put w (Update words2) before2 now2 next2.told outs_now2.err status2 next2.after) out out2

-- ---- one is done, and the other one ends with an error
-- an error of putting a database in its place
unput_so : (folder bytes said : List ℕ) (before now : Files) (err_before err_now : Told) (r : Refusal) → ReplaceStops folder bytes said before now err_before err_now r
    → (r ≡ refusal.Plain Write) ⊎ IsOver Write (path_in folder database_name) r
unput_so folder bytes said before now eb en (refusal.Plain Write) is = inl refl
unput_so folder bytes said before now eb en (refusal.Plain Read) is = absurd is
unput_so folder bytes said before now eb en (refusal.Plain TooLong) is = absurd is
unput_so folder bytes said before now eb en (refusal.Plain TooManyFiles) is = absurd is
unput_so folder bytes said before now eb en (refusal.Plain TooManyLines) is = absurd is
unput_so folder bytes said before now eb en (refusal.Plain TooLarge) is = absurd is
unput_so folder bytes said before now eb en (refusal.Plain BadPosition) is = absurd is
unput_so folder bytes said before now eb en (refusal.Plain (BadDatabase f)) is = absurd is
unput_so folder bytes said before now eb en (refusal.Plain (Replace u)) is = absurd is
unput_so folder bytes said before now eb en (refusal.Plain OutOfMemory) is = absurd is
unput_so folder bytes said before now eb en (refusal.At Write at cause) is = inr (refl, is.0)
unput_so folder bytes said before now eb en (refusal.At Read at cause) is = absurd is
unput_so folder bytes said before now eb en (refusal.At TooLong at cause) is = absurd is
unput_so folder bytes said before now eb en (refusal.At TooManyFiles at cause) is = absurd is
unput_so folder bytes said before now eb en (refusal.At TooManyLines at cause) is = absurd is
unput_so folder bytes said before now eb en (refusal.At TooLarge at cause) is = absurd is
unput_so folder bytes said before now eb en (refusal.At BadPosition at cause) is = absurd is
unput_so folder bytes said before now eb en (refusal.At (BadDatabase f) at cause) is = absurd is
unput_so folder bytes said before now eb en (refusal.At (Replace u) at cause) is = absurd is
unput_so folder bytes said before now eb en (refusal.At OutOfMemory at cause) is = absurd is
unput_so folder bytes said before now eb en refusal.NoDatabase is = absurd is
unput_so folder bytes said before now eb en (refusal.InWords text) is = absurd is

module _ (one_end : DoneIsOne) (w : Reads) (u : AskedUpdate) (before now : Files) (outs_before outs_now : Outs) (r : Refusal) (words words2 : List (List ℕ)) (folder bytes said : List ℕ) (status : ℕ)
    (done : Ends w (update_plan u.root u.usr u.strict u.verbose u.skip words) (Replaces folder bytes said status)) where
  abbrev Allowed : Type 0
  Allowed = (r ≡ refusal.Plain OutOfMemory) ⊎ ((r ≡ refusal.Plain Write) ⊎ IsOver Write (path_in (database_folder u.usr u.root) database_name) r)

  -- no error of the plan
  not_stopped : (s : Stop) → Ends w (update_plan u.root u.usr u.strict u.verbose u.skip words) (Stops s) → ⊥
  not_stopped s ends =
      let same : Replaces folder bytes said status ≡ Stops s = one_end w (update_plan u.root u.usr u.strict u.verbose u.skip words) (Replaces folder bytes said status) (Stops s) (λ t is. cc) done ends in cc

  puts_error : (err_said : Told) → PutsEnd w (update_plan u.root u.usr u.strict u.verbose u.skip words2) before now err_said outs_now.err (Err r) → Allowed
  puts_error told (inr none) = inl none.0
  puts_error told (inl (Stops s, ends, left)) = absurd (not_stopped s (update_goes w u.root u.usr u.strict u.verbose u.skip words2 words (Stops s) tt ends).0)
  puts_error told (inl (Answers n err out, ends, left)) = absurd left
  puts_error told (inl (Lines ls, ends, left)) = absurd left
  puts_error told (inl (Streams text, ends, left)) = absurd left
  puts_error told (inl (Scans path count, ends, left)) = absurd left
  puts_error told (inl (Replaces f b t n, ends, left)) =
      let at = (update_goes w u.root u.usr u.strict u.verbose u.skip words2 words2 (Replaces f b t n) tt ends).1 in
      inr (subst (λ (x : List ℕ). (r ≡ refusal.Plain Write) ⊎ IsOver Write (path_in x database_name) r) at (unput_so f b t before now told outs_now.err r left))

  leaves_error : (err_told : Told) → SaysThen w (left_out_plan u.root u.skip words2) (λ err_said. PutsEnd w (update_plan u.root u.usr u.strict u.verbose u.skip words2) before now err_said outs_now.err (Err r)) before now err_told outs_now.err (Err r) → Allowed
  leaves_error told (inr none) = inl none.0
  leaves_error told (inl (Stops s, ends, left)) = absurd (not_stopped s (left_out_stops w u.root u.usr u.strict u.verbose s u.skip words2 words ends))
  leaves_error told (inl (Lines ls, ends, left)) = absurd left
  leaves_error told (inl (Streams text, ends, left)) = absurd left
  leaves_error told (inl (Scans path count, ends, left)) = absurd left
  leaves_error told (inl (Replaces f b t n, ends, left)) = absurd left
  leaves_error told (inl (Answers n err out, ends, inl unsaid)) = inr (inl unsaid.0.0)
  leaves_error told (inl (Answers n err out, ends, inr (told2, took, after))) = puts_error told2 after

  hides_error : SaysThen w (hiding_plan u.usr u.verbose u.root)
      (λ err_told. SaysThen w (left_out_plan u.root u.skip words2) (λ err_said. PutsEnd w (update_plan u.root u.usr u.strict u.verbose u.skip words2) before now err_said outs_now.err (Err r)) before now err_told outs_now.err (Err r))
      before now outs_before.err outs_now.err (Err r) → Allowed
  hides_error (inr none) = inl none.0
  hides_error (inl (Stops s, ends, left)) = absurd (hiding_goes_on w u.usr u.verbose u.root s ends)
  hides_error (inl (Lines ls, ends, left)) = absurd left
  hides_error (inl (Streams text, ends, left)) = absurd left
  hides_error (inl (Scans path count, ends, left)) = absurd left
  hides_error (inl (Replaces f b t n, ends, left)) = absurd left
  hides_error (inl (Answers n err out, ends, inl unsaid)) = inr (inl unsaid.0.0)
  hides_error (inl (Answers n err out, ends, inr (told, took, after))) = leaves_error told after

done_or_allowed : (one_end : DoneIsOne) (w : Reads) (u : AskedUpdate) (before now before2 now2 : Files) (outs_before outs_now outs_before2 outs_now2 : Outs) (status : ℕ) (r : Refusal)
    → DoesUpdate u w before now outs_before outs_now (Ok status) → DoesUpdate u w before2 now2 outs_before2 outs_now2 (Err r)
    → (r ≡ refusal.Plain OutOfMemory) ⊎ ((r ≡ refusal.Plain Write) ⊎ IsOver Write (path_in (database_folder u.usr u.root) database_name) r)
done_or_allowed one_end w u before now before2 now2 outs_before outs_now outs_before2 outs_now2 status r ((words, tells), out) ((words2, tells2), out2) =
    let Update = update_plan u.root u.usr u.strict u.verbose u.skip words in
    let Left = left_out_plan u.root u.skip words in
    let first = has_said w (hiding_plan u.usr u.verbose u.root) (λ err_told. SaysThen w Left (λ err_said. PutsEnd w Update before now err_said outs_now.err (Ok status)) before now err_told outs_now.err (Ok status))
    before now outs_before.err outs_now.err status tells in
    let next = has_said w Left (λ err_said. PutsEnd w Update before now err_said outs_now.err (Ok status)) before now first.told outs_now.err status first.after in
    let put = has_put w Update before now next.told outs_now.err status next.after in
    hides_error one_end w u before2 now2 outs_before2 outs_now2 r words words2 put.folder put.bytes put.said put.status put.ends tells2

-- ---- both end with an error
-- what such a run ends in
abbrev StopsSo : Reads → AskedUpdate → (words : List (List ℕ)) → (before now : Files) → Refusal → Type 0
StopsSo w u words before now r = (s : Stop) × Ends w (update_plan u.root u.usr u.strict u.verbose u.skip words) (Stops s) × (stop_of r ≡ s) × AreKept before now

module _ (w : Reads) (u : AskedUpdate) (before now : Files) (err_before err_now : Told) (r : Refusal) (words : List (List ℕ)) (reading : IsOfTexts u r) where
  abbrev Goal : Plan
  Goal = update_plan u.root u.usr u.strict u.verbose u.skip words

  abbrev So : Type 0
  So = StopsSo w u words before now r

  puts_stop : (told : Told) → PutsEnd w Goal before now told err_now (Err r) → So
  puts_stop told (inr none) = absurd (reading.memory none.0)
  puts_stop told (inl (Stops s, ends, left)) = (s, ends, left.0, left.1)
  puts_stop told (inl (Answers n err out, ends, left)) = absurd left
  puts_stop told (inl (Lines ls, ends, left)) = absurd left
  puts_stop told (inl (Streams text, ends, left)) = absurd left
  puts_stop told (inl (Scans path count, ends, left)) = absurd left
  puts_stop told (inl (Replaces f b t n, ends, left)) =
      let at = (update_goes w u.root u.usr u.strict u.verbose u.skip words words (Replaces f b t n) tt ends).1 in
      absurd (⊎_elim (λ unsaid. reading.output unsaid) (λ unput. reading.put unput)
      (subst (λ (x : List ℕ). (r ≡ refusal.Plain Write) ⊎ IsOver Write (path_in x database_name) r) at (unput_so f b t before now told err_now r left)))

  leaves_stop : (told : Told) → SaysThen w (left_out_plan u.root u.skip words) (λ err_said. PutsEnd w Goal before now err_said err_now (Err r)) before now told err_now (Err r) → So
  leaves_stop told (inr none) = absurd (reading.memory none.0)
  leaves_stop told (inl (Stops s, ends, left)) = (s, left_out_stops w u.root u.usr u.strict u.verbose s u.skip words words ends, left.0, left.1)
  leaves_stop told (inl (Lines ls, ends, left)) = absurd left
  leaves_stop told (inl (Streams text, ends, left)) = absurd left
  leaves_stop told (inl (Scans path count, ends, left)) = absurd left
  leaves_stop told (inl (Replaces f b t n, ends, left)) = absurd left
  leaves_stop told (inl (Answers n err out, ends, inl unsaid)) = absurd (reading.output unsaid.0.0)
  leaves_stop told (inl (Answers n err out, ends, inr (told2, took, after))) = puts_stop told2 after

  hides_stop : SaysThen w (hiding_plan u.usr u.verbose u.root)
      (λ err_told. SaysThen w (left_out_plan u.root u.skip words) (λ err_said. PutsEnd w Goal before now err_said err_now (Err r)) before now err_told err_now (Err r)) before now err_before err_now (Err r) → So
  hides_stop (inr none) = absurd (reading.memory none.0)
  hides_stop (inl (Stops s, ends, left)) = absurd (hiding_goes_on w u.usr u.verbose u.root s ends)
  hides_stop (inl (Lines ls, ends, left)) = absurd left
  hides_stop (inl (Streams text, ends, left)) = absurd left
  hides_stop (inl (Scans path count, ends, left)) = absurd left
  hides_stop (inl (Replaces f b t n, ends, left)) = absurd left
  hides_stop (inl (Answers n err out, ends, inl unsaid)) = absurd (reading.output unsaid.0.0)
  hides_stop (inl (Answers n err out, ends, inr (told, took, after))) = leaves_stop told after

-- whatever words the causes have
one_stop : PlansEndAlike → (w : Reads) (u : AskedUpdate) (words words2 : List (List ℕ)) (before now before2 now2 : Files) (r r2 : Refusal)
    → StopsSo w u words before now r → StopsSo w u words2 before2 now2 r2 → AreOneError r r2 × AreKept before now × AreKept before2 now2
one_stop alike w u words words2 before now before2 now2 r r2 (s, ends, is, kept) (s2, ends2, is2, kept2) =
    let moved = (update_goes w u.root u.usr u.strict u.verbose u.skip words words2 (Stops s) tt ends).0 in
    let same : AreOneEnd (Stops s) (Stops s2) = inl (alike w (update_plan u.root u.usr u.strict u.verbose u.skip words2) (Stops s) (Stops s2) moved ends2) in
    (subst (λ (x : Stop). AreOneEnd (Stops x) (Stops (stop_of r2))) (sym is) (subst (λ (x : Stop). AreOneEnd (Stops s) (Stops x)) (sym is2) same), kept, kept2)

pub planned_update_errors : PlansEndAlike → (before now before2 now2 : Files) → PlannedUpdatesEndInOneError before now before2 now2
planned_update_errors alike before now before2 now2 words w u outs_before outs_now outs_before2 outs_now2 r r2 asked reading reading2 one two =
    let first = subst (λ (o : Option AskedUpdate). UpdatesIfAsked o w before now outs_before outs_now (Err r)) asked one in
    let second = subst (λ (o : Option AskedUpdate). UpdatesIfAsked o w before2 now2 outs_before2 outs_now2 (Err r2)) asked two in
    one_stop alike w u first.0.0 second.0.0 before now before2 now2 r r2
    (hides_stop w u before now outs_before.err outs_now.err r first.0.0 reading first.0.1)
    (hides_stop w u before2 now2 outs_before2.err outs_now2.err r2 second.0.0 reading2 second.0.1)

pub planned_updates_done : DoneIsOne → (before now before2 now2 : Files) → PlannedUpdateIsNoError before now before2 now2
planned_updates_done one_end before now before2 now2 words w u outs_before outs_now outs_before2 outs_now2 status r asked one two =
    done_or_allowed one_end w u before now before2 now2 outs_before outs_now outs_before2 outs_now2 status r
    (subst (λ (o : Option AskedUpdate). UpdatesIfAsked o w before now outs_before outs_now (Ok status)) asked one)
    (subst (λ (o : Option AskedUpdate). UpdatesIfAsked o w before2 now2 outs_before2 outs_now2 (Err r)) asked two)

pub planned_updates : DoneIsOne → (before now before2 now2 : Files) → PlannedUpdatesAreOne before now before2 now2
planned_updates one_end before now before2 now2 words w u outs_before outs_now outs_before2 outs_now2 status status2 asked alike one two =
    updates_one one_end w u before now before2 now2 outs_before outs_now outs_before2 outs_now2 status status2 alike
    (subst (λ (o : Option AskedUpdate). UpdatesIfAsked o w before now outs_before outs_now (Ok status)) asked one)
    (subst (λ (o : Option AskedUpdate). UpdatesIfAsked o w before2 now2 outs_before2 outs_now2 (Ok status2)) asked two)
