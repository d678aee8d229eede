-- What a run leaves whose plan ends so: its result, both outputs and the files, also if an output fails. Our choice.
use Rattle.std.specs.Io.KnownBytes.{Appends, Consumes}
use Rattle.std.specs.Prelude.{◌≡◌, ◌⊎◌, ℕ, List, [], None, Option, Some, IfSome, MatchResult, Result, IsErrAnd, codes, flat_map, take}
use Rattle.hwdb_spec_commands.specs.AnsweredLines.{answered_lines, line_error}
use Rattle.hwdb_spec.specs.Failures.{HasFailed, IsOneLine, OneFailed}
use Rattle.hwdb_spec.specs.NotReplaced.{IsLeft, IsSeen, failures_after}
use Rattle.hwdb_spec.specs.Outputs.{AppendsPrefix}
use Rattle.hwdb_spec_commands.specs.Runs.{AreKept, Files, HasTaken, Told, WasCut, World}
use Rattle.hwdb_spec_commands.specs.ScanAsked.{scanned_name, scanned_text, unscanned_text}
use Rattle.hwdb_spec.specs.Store.{InPlace, database_name, path_in}
use Rattle.hwdb_spec.specs.Texts.{devices_of}
use Rattle.hwdb_spec.specs.declared.causes.Cause.{Cause}
use Rattle.hwdb_spec.specs.declared.errors.ToolError.TheVariants.{Memory, Read, TooLong, TooManyLines, Write}
use Rattle.hwdb_spec.specs.declared.errors.Unreplaced.{Unreplaced}
use Rattle.hwdb_spec_commands.specs.declared.refusals.Refusal.{Refusal}
use Rattle.hwdb_spec_commands.specs.declared.refusals.Refusal.TheVariants as refusal
use Rattle.hwdb_plan.specs.Plans.{End, Ends, Plan}
use Rattle.hwdb_plan.specs.Plans.End.{Answers, Lines, Replaces, Scans, Stops, Streams}
use Rattle.hwdb_spec_commands.specs.Told.{Reads, stop_of}

-- what standard error and standard output tell
pub record Outs : Type 0 where
  pub err : Told
  pub out : Told

-- ---- two texts
-- both took their texts, and standard error wasn't used for an empty one
pub record TookBoth (err out : List ℕ) (before now : Outs) : Type 0 where
  pub took_err : HasTaken err before.err now.err
  pub quiet : err ≡ [] → now.err ≡ before.err
  pub took_out : HasTaken out before.out now.out

-- one of them failed, and standard output wasn't used if that was standard error
pub record FailedIn (err out : List ℕ) (before now : Outs) : Type 0 where
  pub quiet : err ≡ [] → now.err ≡ before.err
  pub cut : (WasCut err before.err now.err × (now.out ≡ before.out)) ⊎ (HasTaken err before.err now.err × WasCut out before.out now.out)

-- texts were printed, with this status; or one can't be written
abbrev pub Prints : (status : ℕ) (err out : List ℕ) (before now : Outs) → Result ℕ Refusal → Type 0
Prints status err out before now result =
    MatchResult result (λ n. (n ≡ status) × TookBoth err out before now) (λ r. (r ≡ refusal.Plain Write) × FailedIn err out before now)

-- ---- lines, one after the other
-- the text of lines, one after the other
abbrev pub whole : (lines : List (List ℕ)) → List ℕ
whole lines = flat_map (λ line. line) lines

-- standard output failed, or after some of them there was no memory
abbrev pub LinesStop : (lines : List (List ℕ)) (before now : Told) → Refusal → Type 0
LinesStop lines before now r =
    ((r ≡ refusal.Plain Write) × WasCut (whole lines) before now)
    ⊎ ((r ≡ refusal.Plain Memory) × ((now ≡ before) ⊎ ((n : ℕ) × HasTaken (whole (take n lines)) before now)))

-- lines were printed, with status 0; or they end with such an error
abbrev pub LinesTo : (lines : List (List ℕ)) (before now : Told) → Result ℕ Refusal → Type 0
LinesTo lines before now result = MatchResult result (λ n. (n ≡ 0) × HasTaken (whole lines) before now) (LinesStop lines before now)

-- ---- a text for the lines of standard input
-- so of the lines of standard input, if it tells them
abbrev pub OnLines : (input : Option (List ℕ)) → (List (List ℕ) → Type 0) → Type 0
OnLines input Is = IfSome input (λ told. Is (devices_of told))

module _ (text : List (List ℕ) → List ℕ) (input : Option (List ℕ)) (before now : Told) where
  -- standard output took the text of all lines that are answered
  pub record TookAnswered : Type 0 where
    pub unfailed : now.failures ≡ before.failures
    pub taken : OnLines input (λ lines. Appends before.bytes now.bytes (text (answered_lines lines)))

  -- it took the text of the first of them, or nothing
  pub record TookSome : Type 0 where
    pub unfailed : now.failures ≡ before.failures
    pub taken : OnLines input (λ lines. (now.bytes ≡ before.bytes) ⊎ ((n : ℕ) × Appends before.bytes now.bytes (text (take n (answered_lines lines)))))

  -- it took a prefix of the text of all that are answered, and then it failed
  pub record TookPrefix : Type 0 where
    pub failed : OneFailed before.failures now.failures
    pub taken : OnLines input (λ lines. AppendsPrefix before.bytes now.bytes (text (answered_lines lines)))

-- answering lines ends with an error: standard input or a line of it can't be read, or there are too many; standard output fails, or memory does
abbrev pub StreamStops : (text : List (List ℕ) → List ℕ) (input_before input_now before now : Told) → Refusal → Type 0
StreamStops text input_before input_now before now (refusal.At Read at cause) =
    (at.items ≡ codes "standard input") × HasFailed input_before.failures input_now.failures × TookSome text input_before.bytes before now
StreamStops text input_before input_now before now (refusal.At TooLong at cause) =
    (at.items ≡ codes "a line of standard input") × OnLines input_before.bytes (λ lines. line_error lines ≡ Some TooLong) × TookAnswered text input_before.bytes before now
StreamStops text input_before input_now before now (refusal.Plain TooManyLines) =
    OnLines input_before.bytes (λ lines. line_error lines ≡ Some TooManyLines) × TookAnswered text input_before.bytes before now
StreamStops text input_before input_now before now (refusal.Plain Write) = TookPrefix text input_before.bytes before now
StreamStops text input_before input_now before now (refusal.Plain Memory) = TookSome text input_before.bytes before now
StreamStops text input_before input_now before now r = ⊥

-- every line is answered, and standard output took the text of all
pub record Streamed (text : List (List ℕ) → List ℕ) (input : Option (List ℕ)) (before now : Told) : Type 0 where
  pub unfailed : now.failures ≡ before.failures
  pub all : OnLines input (λ lines. line_error lines ≡ None)
  pub taken : OnLines input (λ lines. Appends before.bytes now.bytes (text lines))

-- lines of standard input are answered as they come
abbrev pub StreamsTo : (text : List (List ℕ) → List ℕ) (input_before input_now before now : Told) → Result ℕ Refusal → Type 0
StreamsTo text input_before input_now before now result =
    MatchResult result (λ n. (n ≡ 0) × Streamed text input_before.bytes before now) (StreamStops text input_before input_now before now)

-- ---- the keys of events
module _ (count : Option ℕ) (input : Option (List ℕ)) (before now : Told) where
  -- standard output took the lines of all events
  pub record Scanned : Type 0 where
    pub unfailed : now.failures ≡ before.failures
    pub taken : IfSome input (λ bytes. Appends before.bytes now.bytes (scanned_text count bytes))

  -- it took the lines of the first bytes
  pub record ScannedSome : Type 0 where
    pub unfailed : now.failures ≡ before.failures
    pub taken : IfSome input (λ bytes. (n : ℕ) × Appends before.bytes now.bytes (scanned_text count (take n bytes)))

  -- it took the lines of all bytes that aren't left
  pub record ScannedRead (left : Option (List ℕ)) : Type 0 where
    pub unfailed : now.failures ≡ before.failures
    pub taken : IfSome input (λ bytes. (read : List ℕ) × Consumes (Some bytes) left read × Appends before.bytes now.bytes (scanned_text count read))

  -- it took a prefix of the lines of all events, and then it failed
  pub record ScannedPrefix : Type 0 where
    pub failed : OneFailed before.failures now.failures
    pub taken : IfSome input (λ bytes. AppendsPrefix before.bytes now.bytes (scanned_text count bytes))

-- an error says that what was to be read can't be
abbrev pub IsUnscanned : (path : Option (List ℕ)) (text : List ℕ) → Type 0
IsUnscanned path text = (cause : Option Cause) × (words : List ℕ) × IsOneLine words × (text ≡ unscanned_text (scanned_name path) cause words)

-- it ends with an error: the events can't be read, or no more of them, and all keys were told; standard output fails, or memory does
abbrev pub ScanStops : (path : Option (List ℕ)) (count : Option ℕ) (input_before input_now before now : Told) → Refusal → Type 0
ScanStops path count input_before input_now before now (refusal.InWords text) =
    IsUnscanned path text.items × HasFailed input_before.failures input_now.failures × ScannedRead count input_before.bytes before now input_now.bytes
ScanStops path count input_before input_now before now (refusal.Plain Write) = ScannedPrefix count input_before.bytes before now
ScanStops path count input_before input_now before now (refusal.Plain Memory) = ScannedSome count input_before.bytes before now
ScanStops path count input_before input_now before now r = ⊥

-- the keys of events are told, with status 0; or that ends with such an error
abbrev pub ScansTo : (path : Option (List ℕ)) (count : Option ℕ) (input_before input_now before now : Told) → Result ℕ Refusal → Type 0
ScansTo path count input_before input_now before now result =
    MatchResult result (λ n. (n ≡ 0) × Scanned count input_before.bytes before now) (ScanStops path count input_before input_now before now)

-- ---- a database in its place
-- the database wasn't replaced: standard error took what was to be said, and this is what the replacement left
pub record IsUnreplaced (folder bytes said : List ℕ) (before now : Files) (err_before err_now : Told) : Type 0 where
  pub took : HasTaken said err_before err_now
  pub unreplaced : Unreplaced
  pub seen : IsSeen folder bytes before.seen now.seen unreplaced
  pub left : IsLeft folder bytes before.seen before.left now.left unreplaced
  pub failed : now.failures ≡ failures_after unreplaced before.failures

-- it ends with an error: standard error fails, or the database can't be written
abbrev pub ReplaceStops : (folder bytes said : List ℕ) (before now : Files) (err_before err_now : Told) → Refusal → Type 0
ReplaceStops folder bytes said before now err_before err_now (refusal.Plain Write) = WasCut said err_before err_now × AreKept before now
ReplaceStops folder bytes said before now err_before err_now (refusal.At Write at cause) =
    (at.items ≡ path_in folder database_name) × IsUnreplaced folder bytes said before now err_before err_now
ReplaceStops folder bytes said before now err_before err_now r = ⊥

-- the bytes are in the database's place, after what is said of them
abbrev pub ReplacesWith : (folder bytes said : List ℕ) (status : ℕ) (before now : Files) (err_before err_now : Told) → Result ℕ Refusal → Type 0
ReplacesWith folder bytes said status before now err_before err_now result =
    MatchResult result (λ n. (n ≡ status) × HasTaken said err_before err_now × InPlace folder bytes before.seen now.seen now.left)
    (ReplaceStops folder bytes said before now err_before err_now)

-- ---- any end
-- both outputs
abbrev pub outs : (err out : Told) → Outs
outs err out = record { err = err; out = out }

-- those of a run
abbrev pub outs_of : World → Outs
outs_of w = outs w.err w.out

-- what a run leaves on its outputs whose plan ends so, if that replaces nothing
abbrev pub Shows : End → (input_before input_now : Told) (before now : Outs) → Result ℕ Refusal → Type 0
Shows (Stops s) input_before input_now before now result = IsErrAnd result (λ r. stop_of r ≡ s) × (now ≡ before)
Shows (Answers status err out) input_before input_now before now result = Prints status err out before now result
Shows (Lines lines) input_before input_now before now result = LinesTo lines before.out now.out result × (now.err ≡ before.err)
Shows (Streams text) input_before input_now before now result = StreamsTo text input_before input_now before.out now.out result × (now.err ≡ before.err)
Shows (Scans path count) input_before input_now before now result = ScansTo path count input_before input_now before.out now.out result × (now.err ≡ before.err)
Shows (Replaces folder bytes said status) input_before input_now before now result = ⊥

-- there was no memory before anything was shown
abbrev pub IsUnshown : (before now : Outs) → Result ℕ Refusal → Type 0
IsUnshown before now result = IsErrAnd result (λ r. r ≡ refusal.Plain Memory) × (now ≡ before)

-- a run that only reads shows what its plan ends in
abbrev pub ShowsEnd : Reads → Plan → (input_before input_now : Told) (before now : Outs) → Result ℕ Refusal → Type 0
ShowsEnd w p input_before input_now before now result = ((e : End) × Ends w p e × Shows e input_before input_now before now result) ⊎ IsUnshown before now result

-- what a run leaves whose plan ends so
abbrev pub Leaves : End → (before now : World) → Result ℕ Refusal → Type 0
Leaves (Replaces folder bytes said status) before now result =
    ReplacesWith folder bytes said status before.files now.files before.err now.err result × (now.out ≡ before.out)
Leaves e before now result = Shows e before.input now.input (outs_of before) (outs_of now) result × AreKept before.files now.files

-- a run does what its plan ends in, or there was no memory before anything was done
abbrev pub Does : Reads → Plan → (before now : World) → Result ℕ Refusal → Type 0
Does w p before now result =
    ((e : End) × Ends w p e × Leaves e before now result) ⊎ (IsUnshown (outs_of before) (outs_of now) result × AreKept before.files now.files)

-- there was no memory before the database was put in its place
abbrev pub IsUnput : (before now : Files) (err_before err_now : Told) → Result ℕ Refusal → Type 0
IsUnput before now err_before err_now result = IsErrAnd result (λ r. r ≡ refusal.Plain Memory) × (err_now ≡ err_before) × AreKept before now
