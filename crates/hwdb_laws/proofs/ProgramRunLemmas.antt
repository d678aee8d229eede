-- Two runs of the program with the same words are one, and what an error of a run says of standard input is so.
use Rattle.std.proofs.Common.{◌≡◌, ◌∙◌, ◌⊎◌, ⊎_elim, inl, inr, ap, refl, subst, sym, length, IfSome, List, Option, None, Result, Some, Ok, Err, ℕ, [], ◌<◌, Bool}
use Rattle.std.specs.Prelude.{codes}
use Rattle.clap.specs.Simple.{subcommand_of}
use Rattle.clap.specs.Walk.{Text}
use Rattle.hwdb_spec.specs.Failures.{HasFailed}
use Rattle.hwdb_spec.specs.Texts.{max_file}
use Rattle.hwdb_spec.specs.declared.causes.Cause.{Cause}
use Rattle.hwdb_spec.specs.declared.causes.Cause.TheVariants as reason
use Rattle.hwdb_spec.specs.declared.errors.ToolError.{ToolError}
use Rattle.hwdb_spec.specs.declared.errors.ToolError.TheVariants.{BadDatabase, BadPosition, Memory as OutOfMemory, Read, Replace, TooLarge, TooLong, TooManyFiles, TooManyLines, Write}
use Rattle.hwdb_spec_commands.specs.AnsweredLines.{line_error}
use Rattle.hwdb_spec_commands.specs.CommandLine.{hwdb_app}
use Rattle.hwdb_spec_commands.specs.DeviceTree.{Sight}
use Rattle.hwdb_spec_commands.specs.Runs.{Told}
use Rattle.hwdb_spec_commands.specs.Told.{Reads, Stop, stop_of, unread_stop}
use Rattle.hwdb_spec_commands.specs.Told.Stop.{Over}
use Rattle.hwdb_spec_commands.specs.declared.refusals.Refusal.{Refusal}
use Rattle.hwdb_spec_commands.specs.declared.refusals.Refusal.TheVariants as refusal
use Rattle.hwdb_spec_commands.specs.declared.unread.Unread.{Unread}
use Rattle.hwdb_spec_commands.specs.declared.unread.Unread.TheVariants as unread
use Rattle.hwdb_plan.specs.Ended.{OnLines, Outs, ScanStops, ShowsEnd, StreamStops, outs}
use Rattle.hwdb_plan.specs.Input.{IsInputTold}
use Rattle.hwdb_plan.specs.Laws.{DoneIsOne, OverIsNoMore, OverIsOver, PlansEndAlike}
use Rattle.hwdb_plan.specs.Plans.{Ends, Plan}
use Rattle.hwdb_plan.specs.Plans.End.{Answers, Lines, Replaces, Scans, Stops, Streams}
use Rattle.hwdb_spec_program.specs.ProgramPlan.{IsReported, ShowsPlan, error_status, shown_plan}
use Rattle.hwdb_plan.specs.Requests.{Around}
use Rattle.hwdb_laws.proofs.PlannedErrorLemmas.{planned_errors}
use Rattle.hwdb_laws.proofs.PlannedLemmas.{OverLaws, plan_moves, planned_done, planned_runs}
use Rattle.hwdb_laws.specs.PlannedRuns.{HavePlan}
use Rattle.hwdb_laws.specs.ProgramRuns.{DoneJobIsNoError, EndsWhateverIsRead, InputIsLong, InputIsRead, IsRun, JobsAreOne, JobsEndInOneError, LineIsLong}

-- ---- what is reported of a result
abbrev Reported : (words : List Text) → Result ℕ Refusal → (status : ℕ) (err_then err_now : Told) → Type 0
Reported words result status err_then err_now = IsReported (Unit {0}) (error_status (subcommand_of hwdb_app words)) result status err_then err_now

reported_done : (words : List Text) (result : Result ℕ Refusal) (status n : ℕ) (err_then err_now : Told) → result ≡ Ok n → Reported words result status err_then err_now → (status ≡ n) × (err_now ≡ err_then)
reported_done words result status n err_then err_now is reported = subst (λ (x : Result ℕ Refusal). Reported words x status err_then err_now) is reported

reported_error : (words : List Text) (result : Result ℕ Refusal) (status : ℕ) (r : Refusal) (err_then err_now : Told) → result ≡ Err r → (r ≡ refusal.Plain Write → ⊥)
    → Reported words result status err_then err_now → status ≡ error_status (subcommand_of hwdb_app words)
reported_error words result status r err_then err_now is unwritten reported =
    ⊎_elim (λ said. said.0) (λ quiet. absurd (unwritten quiet.1)) (subst (λ (x : Result ℕ Refusal). Reported words x status err_then err_now) is reported)

module _ (at_terminal : Bool) (words : List Text) (w : Reads) (sight : Sight) (input input_now : Told) (before now : Outs) (status : ℕ) (run : IsRun at_terminal words w sight input input_now before now status) where
  shown_as : (result : Result ℕ Refusal) → run.result ≡ result → ShowsPlan (λ a. shown_plan at_terminal a words) w sight input input_now before (outs run.err_then now.out) result
  shown_as result is = subst (λ (x : Result ℕ Refusal). ShowsPlan (λ a. shown_plan at_terminal a words) w sight input input_now before (outs run.err_then now.out) x) is run.shows

pub jobs_are_one : DoneIsOne → OverIsOver → OverIsNoMore → JobsAreOne
jobs_are_one one_end is_over no_more at_terminal words w sight input input_now input_now2 before now now2 status status2 n m have tell one two is is2 =
    let (same, err, out) =
    planned_runs one_end is_over no_more at_terminal words w sight input input_now input_now2 before (outs one.err_then now.out) (outs two.err_then now2.out) n m have tell.input tell.err tell.out
    (shown_as at_terminal words w sight input input_now before now status one (Ok n) is) (shown_as at_terminal words w sight input input_now2 before now2 status2 two (Ok m) is2) in
    let (says, quiet) = reported_done words one.result status n one.err_then now.err is one.reported in
    let (says2, quiet2) = reported_done words two.result status2 m two.err_then now2.err is2 two.reported in
    (says ∙ same ∙ sym says2, ap (λ (t : Told). t.bytes) quiet ∙ err ∙ sym (ap (λ (t : Told). t.bytes) quiet2), out)

pub done_job_is_no_error : DoneIsOne → OverIsOver → OverIsNoMore → DoneJobIsNoError
done_job_is_no_error one_end is_over no_more at_terminal words w sight input input_now input_now2 before now now2 status status2 n r have tell unfailed one two is is2 =
    planned_done one_end is_over no_more at_terminal words w sight input input_now input_now2 before (outs one.err_then now.out) (outs two.err_then now2.out) n r have tell.input unfailed
    (shown_as at_terminal words w sight input input_now before now status one (Ok n) is) (shown_as at_terminal words w sight input input_now2 before now2 status2 two (Err r) is2)

pub jobs_end_in_one_error : PlansEndAlike → OverIsOver → OverIsNoMore → JobsEndInOneError
jobs_end_in_one_error alike is_over no_more at_terminal words w sight input input_now input_now2 before now now2 status status2 r r2 have tell reading reading2 one two is is2 =
    let (error, err, out) =
    planned_errors alike is_over no_more at_terminal words w sight input input_now input_now2 before (outs one.err_then now.out) (outs two.err_then now2.out) r r2 have tell.input tell.out reading reading2
    (shown_as at_terminal words w sight input input_now before now status one (Err r) is) (shown_as at_terminal words w sight input input_now2 before now2 status2 two (Err r2) is2) in
    let says = reported_error words one.result status r one.err_then now.err is reading.outputs one.reported in
    let says2 = reported_error words two.result status2 r2 two.err_then now2.err is2 reading2.outputs two.reported in
    (says ∙ sym says2, error, err, out)

-- ---- what an error says of standard input
one_stop : (s t : Stop) → Stops s ≡ Stops t → s ≡ t
one_stop s t is = cc

no_over : {X : Type 0} (r : Refusal) (e error : ToolError) (path : List ℕ) (cause : Option Cause) → r ≡ refusal.Plain e → stop_of r ≡ Over error path cause → X
no_over r e error path cause is says = absurd cc

-- an error of lines of standard input that is over a path
abbrev IsOfStream : (input input_now : Told) (error : ToolError) (path : List ℕ) → Type 0
IsOfStream input input_now error path =
    ((error ≡ Read) × (path ≡ codes "standard input") × HasFailed input.failures input_now.failures)
    ⊎ ((error ≡ TooLong) × (path ≡ codes "a line of standard input") × OnLines input.bytes (λ lines. line_error lines ≡ Some TooLong))

module _ (text : List (List ℕ) → List ℕ) (input input_now before now : Told) (error : ToolError) (path : List ℕ) (cause : Option Cause) where
  same_path : (e : ToolError) (at : List ℕ) (c : Option Cause) → Over e at c ≡ Over error path cause → (error ≡ e) × (path ≡ at)
  same_path e at c is = (one, two)
    where
      one : error ≡ e
      one = cc

      two : path ≡ at
      two = cc

  not_plain : {X : Type 0} (e : ToolError) → stop_of (refusal.Plain e) ≡ Over error path cause → X
  not_plain e is = absurd cc

  over_stream : (r : Refusal) → StreamStops text input input_now before now r → stop_of r ≡ Over error path cause → IsOfStream input input_now error path
  over_stream (refusal.At Read at c) (named, failed, took) is = inl ((same_path Read at.items c is).0, (same_path Read at.items c is).1 ∙ named, failed)
  over_stream (refusal.At TooLong at c) (named, long, took) is = inr ((same_path TooLong at.items c is).0, (same_path TooLong at.items c is).1 ∙ named, long)
  over_stream (refusal.Plain e) h is = not_plain e is
  over_stream (refusal.At Write at c) h is = absurd h
  over_stream (refusal.At TooManyFiles at c) h is = absurd h
  over_stream (refusal.At TooManyLines at c) h is = absurd h
  over_stream (refusal.At TooLarge at c) h is = absurd h
  over_stream (refusal.At BadPosition at c) h is = absurd h
  over_stream (refusal.At (BadDatabase f) at c) h is = absurd h
  over_stream (refusal.At (Replace u) at c) h is = absurd h
  over_stream (refusal.At OutOfMemory at c) h is = absurd h
  over_stream refusal.NoDatabase h is = absurd h
  over_stream (refusal.InWords said) h is = absurd h

  -- an error of a scan is over no path
  no_scan : {X : Type 0} (at : Option (List ℕ)) (count : Option ℕ) (r : Refusal) → ScanStops at count input input_now before now r → stop_of r ≡ Over error path cause → X
  no_scan at count (refusal.Plain e) h is = not_plain e is
  no_scan at count (refusal.InWords said) h is = absurd cc
  no_scan at count (refusal.At e p c) h is = absurd h
  no_scan at count refusal.NoDatabase h is = absurd h

module _ (at_terminal : Bool) (words : List Text) (w : Reads) (sight : Sight) (input input_now : Told) (before now : Outs) (r : Refusal) (error : ToolError) (path : List ℕ) (cause : Option Cause) (have : HavePlan at_terminal words)
    (says : stop_of r ≡ Over error path cause) (laws : OverLaws) where
  abbrev plan_of : (told : Result (List ℕ) Unread) (words_of_cause : List ℕ) → Plan
  plan_of told c = have.plan (record { input = told; sight = sight; cause = c })

  -- it is an error of lines of standard input, or of the plan's end
  stops_or_streams : (p : Plan) → ShowsEnd w p input input_now before now (Err r) → Ends w p (Stops (stop_of r)) ⊎ IsOfStream input input_now error path
  stops_or_streams p (inr none) = no_over r OutOfMemory error path cause none.0 says
  stops_or_streams p (inl (Stops s, ends, (is, same))) = inl (subst (λ (x : Stop). Ends w p (Stops x)) (sym is) ends)
  stops_or_streams p (inl (Answers status err out, ends, (write, failed))) = no_over r Write error path cause write says
  stops_or_streams p (inl (Lines lines, ends, (stops, quiet))) = ⊎_elim (λ cut. no_over r Write error path cause cut.0 says) (λ memory. no_over r OutOfMemory error path cause memory.0 says) stops
  stops_or_streams p (inl (Streams text, ends, (stops, quiet))) = inr (over_stream text input input_now before.out now.out error path cause r stops says)
  stops_or_streams p (inl (Scans at count, ends, (stops, quiet))) = no_scan (λ lines. []) input input_now before.out now.out error path cause at count r stops says
  stops_or_streams p (inl (Replaces folder made said status, ends, shows)) = absurd shows

  -- what standard input is told doesn't matter, or the error is that it isn't told
  spared : (why : Unread) (c : List ℕ) → Ends w (plan_of (Err why) c) (Stops (stop_of r)) → EndsWhateverIsRead at_terminal words w sight have r ⊎ (stop_of r ≡ unread_stop (codes "standard input") why)
  spared why c ends =
      let first : Around = record { input = Err why; sight = sight; cause = c } in
      let second : Around = record { input = Ok []; sight = sight; cause = c } in
      ⊎_elim (λ moved. inl ([], c, moved)) (λ lost. inr lost)
      (plan_moves laws w (Stops (stop_of r)) (stop_of r ≡ unread_stop (codes "standard input") why) sight c c (Err why) (Ok [])
      (inr (λ end. one_stop (stop_of r) (unread_stop (codes "standard input") why) end)) (inl refl) at_terminal words (plan_of (Err why) c) (plan_of (Ok []) c) (have.is first) (have.is second) ends)

  -- the plan ends so whatever is read, or standard input wasn't told, or a line of it is meant
  abbrev Traced : Type 0
  Traced = EndsWhateverIsRead at_terminal words w sight have r
      ⊎ (((why : Unread) × IsInputTold input.bytes input.failures input_now.failures (Err why) × (stop_of r ≡ unread_stop (codes "standard input") why)) ⊎ IsOfStream input input_now error path)

  trace : (told : Result (List ℕ) Unread) (c : List ℕ) → IsInputTold input.bytes input.failures input_now.failures told → Ends w (plan_of told c) (Stops (stop_of r)) → Traced
  trace (Ok bytes) c so ends = inl (bytes, c, ends)
  trace (Err why) c so ends = ⊎_elim (λ whatever. inl whatever) (λ is. inr (inl (why, so, is))) (spared why c ends)

  traced : ShowsPlan (λ a. shown_plan at_terminal a words) w sight input input_now before now (Err r) → Traced
  traced (told, so, (c, line, shows)) =
      ⊎_elim (trace told c so) (λ stream. inr (inr stream))
      (stops_or_streams (plan_of told c) (subst (λ (o : Option Plan). IfSome o (λ p. ShowsEnd w p input input_now before now (Err r))) (have.is (record { input = told; sight = sight; cause = c })) shows))

-- the paths of errors of standard input
not_a_line : {X : Type 0} → codes "standard input" ≡ codes "a line of standard input" → X
not_a_line is = absurd cc

not_read : {X : Type 0} → TooLong ≡ Read → X
not_read is = absurd cc

unread_read : (why : Unread) (cause : Option Cause) (n m : ℕ) (input : Option (List ℕ)) → IsInputTold input n m (Err why) → Over Read (codes "standard input") cause ≡ unread_stop (codes "standard input") why
    → HasFailed n m
unread_read unread.TooLong cause n m input so is = absurd cc
unread_read unread.Memory cause n m input so is = absurd cc
unread_read (unread.Failed c) cause n m input so is = so

failed_long : (path : List ℕ) (cause c : Option Cause) → Over TooLong path cause ≡ unread_stop (codes "standard input") (unread.Failed c) → ⊥
failed_long path cause None is = cc
failed_long path cause (Some reason.Memory) is = cc
failed_long path cause (Some (reason.System n)) is = cc
failed_long path cause (Some reason.Link) is = cc
failed_long path cause (Some reason.Folder) is = cc
failed_long path cause (Some reason.Pipe) is = cc
failed_long path cause (Some reason.Socket) is = cc
failed_long path cause (Some reason.Device) is = cc
failed_long path cause (Some reason.Name) is = cc
failed_long path cause (Some reason.Nothing) is = cc
failed_long path cause (Some reason.Unknown) is = cc

unread_long : (why : Unread) (path : List ℕ) (cause : Option Cause) (n m : ℕ) (input : Option (List ℕ)) → IsInputTold input n m (Err why) → Over TooLong path cause ≡ unread_stop (codes "standard input") why
    → IfSome input (λ told. max_file < length told) × (path ≡ codes "standard input")
unread_long unread.TooLong path cause n m input so is = (so, one)
  where
    one : path ≡ codes "standard input"
    one = cc
unread_long unread.Memory path cause n m input so is = absurd cc
unread_long (unread.Failed c) path cause n m input so is = absurd (failed_long path cause c is)

pub input_is_read : OverIsOver → OverIsNoMore → InputIsRead
input_is_read is_over no_more at_terminal words w sight input input_now before now r cause have shows says =
    ⊎_elim (λ whatever. inr whatever)
    (λ other. ⊎_elim (λ unread. inl (unread_read unread.0 cause input.failures input_now.failures input.bytes unread.1 (sym says ∙ unread.2)))
    (λ stream. ⊎_elim (λ failed. inl failed.2) (λ line. not_a_line line.1) stream) other)
    (traced at_terminal words w sight input input_now before now r Read (codes "standard input") cause have says (is_over, no_more) shows)

pub input_is_long : OverIsOver → OverIsNoMore → InputIsLong
input_is_long is_over no_more at_terminal words w sight input input_now before now r cause have shows says =
    ⊎_elim (λ whatever. inr whatever)
    (λ other. ⊎_elim (λ unread. inl (unread_long unread.0 (codes "standard input") cause input.failures input_now.failures input.bytes unread.1 (sym says ∙ unread.2)).0)
    (λ stream. ⊎_elim (λ failed. not_read failed.0) (λ line. not_a_line line.1) stream) other)
    (traced at_terminal words w sight input input_now before now r TooLong (codes "standard input") cause have says (is_over, no_more) shows)

pub line_is_long : OverIsOver → OverIsNoMore → LineIsLong
line_is_long is_over no_more at_terminal words w sight input input_now before now r cause have shows says =
    ⊎_elim (λ whatever. inr whatever)
    (λ other. ⊎_elim (λ unread. not_a_line (sym (unread_long unread.0 (codes "a line of standard input") cause input.failures input_now.failures input.bytes unread.1 (sym says ∙ unread.2)).1))
    (λ stream. ⊎_elim (λ failed. not_a_line (sym failed.1)) (λ line. inl line.2) stream) other)
    (traced at_terminal words w sight input input_now before now r TooLong (codes "a line of standard input") cause have says (is_over, no_more) shows)
