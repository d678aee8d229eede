-- Ends of `query`, `explain`, `list` and `ask`, from what their calls promise.
use Rattle.hwdb_spec.specs.Written.{IsCompiled, IsWritten}
use Rattle.std.proofs.Common.{◌≡◌, ◌≢◌, ◌∙◌, ◌⊎◌, inl, inr, ap, sym, subst, List, Option, None, Some, Result, Ok, Err, IfSome, ℕ, Bool, true, false, refl, [], ◌∷◌, ◌++◌, map, take}
use Rattle.std.specs.Prelude.{flat_map}
use Rattle.std.specs.Result.{IsErrAnd}
use Rattle.std.proofs.lemmas.List.{take-map}
use Rattle.hwdb_spec.specs.Assignment.{Position}
use Rattle.hwdb_spec.specs.Failures.{HasFailed, OneFailed}
use Rattle.hwdb_spec.specs.Folders.{faults_of_files}
use Rattle.hwdb_spec.specs.Format.{IsDatabase}
use Rattle.hwdb_spec.specs.Outputs.{CutShortOne, TookOne, Wrote}
use Rattle.hwdb_spec.specs.Texts.{devices_of, faults_text_at, max_file, query_text, within_limit}
use Rattle.hwdb_spec.specs.Tree.{Tree, answers_after, map_of_files}
use Rattle.hwdb_spec.specs.declared.DbFault.{DbFault}
use Rattle.hwdb_spec.specs.declared.errors.CompileError.TheVariants as compiling
use Rattle.hwdb_spec.specs.declared.errors.ToolError.{ToolError}
use Rattle.hwdb_spec.specs.declared.errors.ToolError.TheVariants.{BadDatabase, BadPosition, Memory, Read, Replace, TooLarge, TooLong, TooManyFiles, TooManyLines, Write}
use Rattle.hwdb_spec_commands.specs.AnsweredLines.{IsLineError, IsPrintedBefore, line_error}
use Rattle.hwdb_spec_commands.specs.Asked.{IsFrom, IsListFrom, list_form}
use Rattle.hwdb_spec_commands.specs.DatabaseErrors.{IsDatabaseRefusal}
use Rattle.hwdb_spec_commands.specs.Databases.{IsNoDatabase, IsTextOf}
use Rattle.hwdb_spec_commands.specs.Done.{AreAskTexts}
use Rattle.hwdb_spec_commands.specs.Listings.{IsListBeginning, IsListFault, IsListRefusal, line_of}
use Rattle.hwdb_spec_commands.specs.LoneFile.{lone}
use Rattle.hwdb_spec_commands.specs.Queries.{IsOfInput}
use Rattle.hwdb_spec_commands.specs.Refusals.{IsOfCause, IsOfDatabase}
use Rattle.hwdb_spec_commands.specs.Runs.{HasTaken, Told, WasCut}
use Rattle.hwdb_spec_commands.specs.Streams.{IfBadDatabase, IsStreamRefusal, texts_of}
use Rattle.hwdb_spec_commands.specs.Told.{IsStop, IsUnreadAs, Reads, Stop, stop_of}
use Rattle.hwdb_spec_commands.specs.Told.Stop.{Plain}
use Rattle.hwdb_spec_commands.specs.UpdateErrors.{IsAskRefusal}
use Rattle.hwdb_spec_commands.specs.declared.form.Form.{Form}
use Rattle.hwdb_spec_commands.specs.declared.refusals.Refusal.{Refusal}
use Rattle.hwdb_spec_commands.specs.declared.refusals.Refusal.TheVariants as refusal
use Rattle.hwdb_plan.specs.Answers.{answered, streamed}
use Rattle.hwdb_plan.specs.Ask.{lone_answer}
use Rattle.hwdb_plan.specs.Asking.{if_read}
use Rattle.hwdb_plan.specs.Dump.{bad_database, database_stop}
use Rattle.hwdb_plan.specs.Ended.{Outs, ShowsEnd, outs, whole}
use Rattle.hwdb_plan.specs.Input.{OverGiven, reads_with}
use Rattle.hwdb_plan.specs.Lemmas.Ends.{bad_ends, before_next, stop_shows, stream_shows}
use Rattle.hwdb_plan.specs.Lemmas.Steps.{input_told, input_untold, plainly}
use Rattle.hwdb_plan.specs.Lemmas.Streams.{stream_done, stream_stops}
use Rattle.hwdb_plan.specs.Laws.{OneTree, OneForm}
use Rattle.hwdb_plan.specs.List.{hit_lines, listed}
use Rattle.hwdb_plan.specs.Plans.{End, Ends, Follows, Next, Plan}
use Rattle.hwdb_plan.specs.Plans.End.{Answers, Lines, Stops}
use Rattle.hwdb_plan.specs.Plans.Plan.{Decode, Done, Input}
use Rattle.hwdb_tool.specs.Listing.{EndsInLines}
use Rattle.hwdb_tool.proofs.NamedInputLemmas.{name}

-- ---- lines
-- their text, by what each is of
pub whole_map : {X : Type 0} (f : X → List ℕ) (xs : List X) → whole (map f xs) ≡ flat_map f xs
whole_map f [] = refl
whole_map f (x ∷ xs) = ap (λ (l : List ℕ). f x ++ l) (whole_map f xs)

pub form_is : (device : List ℕ) (limit : Option ℕ) (json : Bool) (p : Option Position) (t : Tree) → whole (hit_lines json device limit p t) ≡ list_form json device p limit t
form_is device limit false p t = whole_map (line_of false) (within_limit limit (answers_after device p t))
form_is device limit true p t = whole_map (line_of true) (within_limit limit (answers_after device p t))

-- the text of the first of them
first_is : (device : List ℕ) (limit : Option ℕ) (json : Bool) (p : Option Position) (t : Tree) (n : ℕ)
    → whole (take n (hit_lines json device limit p t)) ≡ flat_map (line_of json) (take n (within_limit limit (answers_after device p t)))
first_is device limit json p t n = ap whole (take-map (line_of json) n (within_limit limit (answers_after device p t))) ∙ whole_map (line_of json) (take n (within_limit limit (answers_after device p t)))

module _ (w : Reads) (p : Next → Plan) (path bytes : List ℕ) (step : (next : Next) (e : End) → Ends w (next path bytes) e → Ends w (p next) e) where
  -- ---- `query` and `explain`
  -- it ends in an answer
  pub answered_ends : (form : Form) (devices : List (List ℕ)) (status : ℕ) (err out : List ℕ) → status ≡ 0 → err ≡ [] → IsTextOf (texts_of form devices) bytes out
      → Ends w (p (answered form devices)) (Answers status err out)
  unfolding Ends
  answered_ends form devices status err out zero none is = step (answered form devices) (Answers status err out) (inl (is.tree, is.database, same))
    where
      text : out ≡ texts_of form devices is.tree
      text = is.is

      same : Answers status err out ≡ Answers 0 [] (texts_of form devices is.tree)
      same = cc

  -- or in an error
  pub unanswered_ends : (form : Form) (devices : List (List ℕ)) (e : ToolError) (r : Refusal) → IsDatabaseRefusal bytes e → IsStop (database_stop path e) r
      → (r ≡ refusal.Plain Memory) ⊎ Ends w (p (answered form devices)) (Stops (stop_of r))
  unfolding Ends
  unanswered_ends form devices e r is (inl memory) = inl memory
  unanswered_ends form devices (BadDatabase f) r none (inr says) = inr (step (answered form devices) (Stops (stop_of r)) (inr (f, none, ap Stops says)))
  unanswered_ends form devices Memory r is (inr says) = inl (plainly r says)
  unanswered_ends form devices _ r is (inr says) = absurd is

  -- ---- `list`
  module _ (json : Bool) (device : List ℕ) (limit : Option ℕ) where
    abbrev Listing : Option (List ℕ) → Next
    Listing after = listed json device after limit

    abbrev Decoded : Option Position → Plan
    Decoded q = Decode bytes (bad_database path) (λ t. Done (Lines (hit_lines json device limit q t)))

    from_it : (after : Option (List ℕ)) (q : Option Position) (e : End) → IsFrom after q → Ends w (Decoded q) e → Ends w (p (Listing after)) e
    unfolding Ends
    from_it None None e spelled ends = step (Listing None) e ends
    from_it None (Some q) e spelled ends = absurd spelled
    from_it (Some text) None e spelled ends = absurd spelled
    from_it (Some text) (Some q) e spelled ends = step (Listing (Some text)) e (inl (q, spelled, ends))

    lines_end : (after : Option (List ℕ)) (q : Option Position) (t : Tree) → IsFrom after q → IsDatabase bytes t → Ends w (p (Listing after)) (Lines (hit_lines json device limit q t))
    unfolding Ends
    lines_end after q t spelled is = from_it after q (Lines (hit_lines json device limit q t)) spelled (inl (t, is, refl))

    -- the lines are a text
    pub list_ends : (after : Option (List ℕ)) (text : List ℕ) → IsListFrom json device after limit bytes text → EndsInLines w (p (Listing after)) text
    list_ends after text is = (
      hit_lines json device limit is.from is.is.tree,
      lines_end after is.from is.is.tree is.spelled is.is.database,
      is.is.is ∙ sym (form_is device limit json is.from is.is.tree),
    )

    module _ (input err before now : Told) where
      abbrev Shown : Option (List ℕ) → Result ℕ Refusal → Type 0
      Shown after result = ShowsEnd w (p (Listing after)) input input (outs err before) (outs err now) result

      -- all lines were printed
      pub listed_shows : (after : Option (List ℕ)) → TookOne (IsListFrom json device after limit bytes) before.bytes now.bytes before.failures now.failures → Shown after (Ok 0)
      listed_shows after took =
          let h = took.is in inl (
            Lines (hit_lines json device limit h.from h.is.tree),
            lines_end after h.from h.is.tree h.spelled h.is.database,
            ((refl, subst (λ (x : List ℕ). HasTaken x before now) (h.is.is ∙ sym (form_is device limit json h.from h.is.tree)) took.took), refl),
          )

      untouched : (after : Option (List ℕ)) (s : Stop) (r : Refusal) → Ends w (p (Listing after)) (Stops s) → stop_of r ≡ s → now ≡ before → Shown after (Err r)
      untouched after s r ends says same = inl (Stops s, ends, (says, ap (outs err) same))

      forgone : (after : Option (List ℕ)) (r : Refusal) → r ≡ refusal.Plain Memory → now ≡ before → Shown after (Err r)
      forgone after r is same = inr (is, ap (outs err) same)

      bad : (after : Option (List ℕ)) (f : DbFault) (r : Refusal) → IsListFault after bytes f → IsStop (bad_database path f) r → now ≡ before → Shown after (Err r)
      unfolding Ends
      bad after f r fault (inl memory) same = forgone after r memory same
      bad after f r fault (inr says) same =
          untouched after (bad_database path f) r (from_it after fault.from (Stops (bad_database path f)) fault.spelled (inr (f, fault.no_database, refl))) says same

      -- standard output failed
      cut_shows : (after : Option (List ℕ)) (r : Refusal) → r ≡ refusal.Plain Write → CutShortOne (IsListFrom json device after limit bytes) before.bytes now.bytes before.failures now.failures
          → Shown after (Err r)
      cut_shows after r is cut =
          let h = cut.is in inl (
            Lines (hit_lines json device limit h.from h.is.tree),
            lines_end after h.from h.is.tree h.spelled h.is.database,
            (inl (is, subst (λ (x : List ℕ). WasCut x before now) (h.is.is ∙ sym (form_is device limit json h.from h.is.tree)) cut.cut), refl),
          )

      -- there was no memory
      memory_shows : (after : Option (List ℕ)) (r : Refusal) → r ≡ refusal.Plain Memory
          → (now ≡ before) ⊎ TookOne (IsListBeginning json device after limit bytes) before.bytes now.bytes before.failures now.failures → Shown after (Err r)
      memory_shows after r is (inl same) = forgone after r is same
      memory_shows after r is (inr took) =
          let h = took.is in inl (
            Lines (hit_lines json device limit h.from h.tree),
            lines_end after h.from h.tree h.spelled h.database,
            (inr (is, inr (h.lines, subst (λ (x : List ℕ). HasTaken x before now) (h.is ∙ sym (first_is device limit json h.from h.tree h.lines)) took.took)), refl),
          )

      -- it ends with an error
      pub listed_stops : (after : Option (List ℕ)) (e : ToolError) (r : Refusal) → IsListRefusal after bytes e → IsOfDatabase e path r → IsStop (database_stop path e) r
          → (e ≢ Write → e ≢ Memory → now ≡ before) → (e ≡ Write → CutShortOne (IsListFrom json device after limit bytes) before.bytes now.bytes before.failures now.failures)
          → (e ≡ Memory → (now ≡ before) ⊎ TookOne (IsListBeginning json device after limit bytes) before.bytes now.bytes before.failures now.failures) → Shown after (Err r)
      unfolding Ends
      listed_stops after Write r refused is stops same cut lines = cut_shows after r is (cut refl)
      listed_stops after Memory r refused is stops same cut lines = memory_shows after r is (lines refl)
      listed_stops None (BadDatabase f) r refused is stops same cut lines = bad None f r refused stops (same (λ e. cc) (λ e. cc))
      listed_stops (Some text) (BadDatabase f) r refused is stops same cut lines = bad (Some text) f r refused stops (same (λ e. cc) (λ e. cc))
      listed_stops (Some text) BadPosition r refused is stops same cut lines =
          untouched (Some text) (Plain BadPosition) r (step (Listing (Some text)) (Stops (Plain BadPosition)) (inr (refused, refl))) (ap stop_of is) (same (λ e. cc) (λ e. cc))
      listed_stops None BadPosition r refused is stops same cut lines = absurd refused
      listed_stops None Read r refused is stops same cut lines = absurd refused
      listed_stops None TooLong r refused is stops same cut lines = absurd refused
      listed_stops None TooManyFiles r refused is stops same cut lines = absurd refused
      listed_stops None TooManyLines r refused is stops same cut lines = absurd refused
      listed_stops None TooLarge r refused is stops same cut lines = absurd refused
      listed_stops None (Replace u) r refused is stops same cut lines = absurd refused
      listed_stops (Some text) Read r refused is stops same cut lines = absurd refused
      listed_stops (Some text) TooLong r refused is stops same cut lines = absurd refused
      listed_stops (Some text) TooManyFiles r refused is stops same cut lines = absurd refused
      listed_stops (Some text) TooManyLines r refused is stops same cut lines = absurd refused
      listed_stops (Some text) TooLarge r refused is stops same cut lines = absurd refused
      listed_stops (Some text) (Replace u) r refused is stops same cut lines = absurd refused

-- lines are printed as one text
module _ (w : Reads) (p : Plan) (text : List ℕ) (ends : EndsInLines w p text) (input err before now : Told) where
  pub text_shows : HasTaken text before now → ShowsEnd w p input input (outs err before) (outs err now) (Ok 0)
  text_shows took = inl (Lines ends.0, ends.1, ((refl, subst (λ (x : List ℕ). HasTaken x before now) ends.2 took), refl))

  -- standard output failed
  pub text_stops : (r : Refusal) (result : Result ℕ Refusal) → IsErrAnd result (λ x. x ≡ r) → (r ≡ refusal.Plain Write) × WasCut text before now
      → ShowsEnd w p input input (outs err before) (outs err now) result
  text_stops r (Ok n) bad cut = absurd bad
  text_stops r (Err x) same cut = inl (Lines ends.0, ends.1, (inl (same ∙ cut.0, subst (λ (t : List ℕ). WasCut t before now) ends.2 cut.1), refl))

-- what is before the bytes isn't read
pub unread_shows : (w : Reads) (p : Next → Plan) (next : Next) (input before : Told) (now : Outs) (r : Refusal) (result : Result ℕ Refusal)
    → (r ≡ refusal.Plain Memory) ⊎ ((n : Next) → Ends w (p n) (Stops (stop_of r))) → IsErrAnd result (λ x. x ≡ r) → ShowsEnd w (p next) input before now now result
unread_shows w p next input before now r result why is = stop_shows w (p next) input before now r result (before_next w p next r why) is

-- ---- `ask`
-- it ends in an answer
pub lone_ends : (w : Reads) (file device path bytes err out : List ℕ) → AreAskTexts file bytes device (record { err = err; out = out })
    → ((database : List ℕ) × IsWritten (map_of_files (lone bytes) []) database × IsCompiled (lone bytes) [] database) → OneForm → Ends w (lone_answer file device path bytes) (Answers 0 err out)
unfolding Ends
lone_ends w file device path bytes err out are made form =
    inl (
      are.database,
      record {
        accepted = are.accepted;
        written = are.written;
        sound = subst (IsCompiled (lone bytes) []) (form (map_of_files (lone bytes) []) made.0 are.database made.1 are.written) made.2;
        within = are.within;
      },
      inl (are.properties.tree, are.properties.database, same),
    )
  where
    faults : err ≡ faults_text_at file (faults_of_files (lone bytes) [])
    faults = are.faults

    text : out ≡ query_text device are.properties.tree
    text = are.properties.is

    same : Answers 0 err out ≡ Answers 0 (faults_text_at file (faults_of_files (lone bytes) [])) (query_text device are.properties.tree)
    same = cc

-- or in an error
pub lone_stops : (w : Reads) (file device path bytes : List ℕ) (e : ToolError) (r : Refusal) → (e ≢ Write) × IsAskRefusal bytes max_file e → r ≡ refusal.Plain e
    → (r ≡ refusal.Plain Memory) ⊎ Ends w (lone_answer file device path bytes) (Stops (stop_of r))
unfolding Ends
lone_stops w file device path bytes TooManyLines r why is = inr (inr (compiling.TooManyLines, why.1, ap (λ x. Stops (stop_of x)) is))
lone_stops w file device path bytes TooLarge r why is = inr (inr (compiling.TooLarge, why.1, ap (λ x. Stops (stop_of x)) is))
lone_stops w file device path bytes Memory r why is = inl is
lone_stops w file device path bytes Write r why is = absurd (why.0 refl)
lone_stops w file device path bytes _ r why is = absurd why.1

pub lone_follows : {Y : Type 0} (end_of : Y → End) (w : Reads) (file device path bytes : List ℕ) (e : ToolError) (result : Result Y Refusal) → (e ≢ Write) × IsAskRefusal bytes max_file e
    → IsErrAnd result (λ r. r ≡ refusal.Plain e) → Follows end_of w (lone_answer file device path bytes) result
lone_follows end_of w file device path bytes e (Ok y) why is = absurd is
lone_follows end_of w file device path bytes e (Err r) why is = lone_stops w file device path bytes e r why is

-- what follows, of a path that words give
pub over_each : (b : Bool) (path : List ℕ) (input : Option (List ℕ)) (n m : ℕ) (w : Reads) (A B : List ℕ → Reads → Type 0) → ((p : List ℕ) (x : Reads) → A p x → B p x)
    → OverGiven b path input n m w A → OverGiven b path input n m w B
over_each true path input n m w A B f (answer, so, is) = (answer, so, f name (reads_with answer w) is)
over_each false path input n m w A B f is = f path w is

module _ {Y : Type 0} (end_of : Y → End) (w : Reads) (at : List ℕ) (next : Next) where
  -- it isn't read, and that error is handed on
  pub unread_follows : (r : Refusal) (result : Result Y Refusal) → IsUnreadAs (w.input at) at r → IsErrAnd result (λ x. x ≡ r) → Follows end_of w (Input at (if_read at next)) result
  unread_follows r (Ok y) why is = absurd is
  unread_follows r (Err x) (inl memory) is = inl (is ∙ memory)
  unread_follows r (Err x) (inr (u, told, says)) is = inr (input_untold w at u next (stop_of x) told (ap stop_of is ∙ says))

  -- it is read
  pub read_follows : (bytes : List ℕ) (result : Result Y Refusal) → w.input at ≡ Ok bytes → Follows end_of w (next at bytes) result → Follows end_of w (Input at (if_read at next)) result
  read_follows bytes (Ok y) told ends = input_told w at at bytes next (end_of y) told refl ends
  read_follows bytes (Err x) told (inl memory) = inl memory
  read_follows bytes (Err x) told (inr ends) = inr (input_told w at at bytes next (Stops (stop_of x)) told refl ends)

-- ---- devices of standard input
module _ (w : Reads) (p : Next → Plan) (form : Form) (path bytes : List ℕ) (step : (next : Next) (e : End) → Ends w (next path bytes) e → Ends w (p next) e) (one : OneTree)
    (input_before input_now : Told) (before now : Outs) where
  abbrev Answered : Result ℕ Refusal → Type 0
  Answered result = ShowsEnd w (p (streamed form)) input_before input_now before now result

  -- the bytes are no database, or one of a tree
  abbrev Checked : {X : Type 0} → Result X ToolError → Type 0
  Checked result = ((f : DbFault) × (result ≡ Err (BadDatabase f))) ⊎ ((t : Tree) × IsDatabase bytes t)

  -- all lines were answered
  pub streamed_done : {X : Type 0} (x : X) (result : Result X ToolError) → Checked result → result ≡ Ok x
      → IfSome input_before.bytes (λ text. Wrote (IsTextOf (texts_of form (devices_of text)) bytes) before.out.bytes now.out.bytes) → IfSome input_before.bytes (λ text. line_error (devices_of text) ≡ None)
      → now.out.failures ≡ before.out.failures → now.err ≡ before.err → Answered (Ok 0)
  streamed_done x result (inl (f, bad)) is wrote all unfailed quiet = absurd cc
  streamed_done x result (inr (t, database)) is wrote all unfailed quiet =
      stream_shows w p path bytes step form t database input_before input_now before now (Ok 0) (stream_done one form bytes t database input_before input_now before.out now.out wrote all unfailed) quiet

  bad_shows : (f : DbFault) (r : Refusal) → IsNoDatabase bytes f → IsOfCause (BadDatabase f) path None r → now ≡ before → Answered (Err r)
  unfolding Ends
  bad_shows f r none of same = by (bad_ends w p path bytes step (streamed form) path f r (λ n. inr (f, n, refl)) none refl of)
    where
      by : (r ≡ refusal.Plain Memory) ⊎ Ends w (p (streamed form)) (Stops (stop_of r)) → Answered (Err r)
      by (inl memory) = inr (memory, same)
      by (inr ends) = inl (Stops (stop_of r), ends, (refl, same))

  -- it ends with an error
  pub streamed_stops : {X : Type 0} (result : Result X ToolError) → Checked result → (e : ToolError) (r : Refusal) → result ≡ Err e → IsStreamRefusal bytes e → IsOfInput e path r
      → ((f : DbFault) → e ≡ BadDatabase f → IsOfCause e path None r) → (e ≡ Read → HasFailed input_before.failures input_now.failures)
      → IfSome input_before.bytes (λ text. IsLineError e (line_error (devices_of text)))
      → IfSome input_before.bytes (λ text. IsPrintedBefore e (λ some. IsTextOf (texts_of form some) bytes) (devices_of text) before.out.bytes now.out.bytes)
      → (e ≡ Write → OneFailed before.out.failures now.out.failures) × (e ≢ Write → now.out.failures ≡ before.out.failures) → IfBadDatabase (now.out ≡ before.out) e → now.err ≡ before.err → Answered (Err r)
  streamed_stops result (inl (f, bad)) e r is refused of fault read line printed failed untouched quiet =
      let same : e ≡ BadDatabase f = cc in
      bad_shows f r (subst (IsStreamRefusal bytes) same refused) (subst (λ (x : ToolError). IsOfCause x path None r) same (fault f same))
      (ap (λ (o : Told). outs o now.out) quiet ∙ ap (outs before.err) (subst (IfBadDatabase (now.out ≡ before.out)) same untouched))
  streamed_stops result (inr (t, database)) e r is refused of fault read line printed failed untouched quiet =
      stream_shows w p path bytes step form t database input_before input_now before now (Err r)
      (stream_stops one form bytes t database input_before input_now before.out now.out e path r refused of read line printed failed) quiet
