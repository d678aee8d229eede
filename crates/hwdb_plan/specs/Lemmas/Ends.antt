-- A run does what its plan ends in.
use Rattle.std.proofs.Common.{◌≡◌, ◌∙◌, ◌⊎◌, inl, inr, ap, sym, subst, List, None, Option, Some, Result, Ok, Err, IfSome, MatchResult, ℕ, refl}
use Rattle.std.specs.Io.KnownBytes.{Appends}
use Rattle.std.specs.Result.{IsErrAnd}
use Rattle.hwdb_spec_commands.specs.Databases.{IsNoDatabase}
use Rattle.hwdb_spec.specs.Format.{IsDatabase}
use Rattle.hwdb_spec_commands.specs.Refusals.{IsOfCause}
use Rattle.hwdb_spec_commands.specs.Runs.{AreKept, Files, HasTaken, Told, World}
use Rattle.hwdb_spec_commands.specs.ScanAsked.{scanned_text}
use Rattle.hwdb_spec_commands.specs.Streams.{texts_of}
use Rattle.hwdb_spec.specs.Texts.{devices_of}
use Rattle.hwdb_spec.specs.Tree.{Tree}
use Rattle.hwdb_spec.specs.declared.DbFault.{DbFault}
use Rattle.hwdb_spec_commands.specs.declared.form.Form.{Form}
use Rattle.hwdb_spec.specs.declared.errors.ToolError.TheVariants as error
use Rattle.hwdb_spec.specs.declared.errors.ToolError.TheVariants.{BadDatabase}
use Rattle.hwdb_spec_commands.specs.declared.refusals.Refusal.{Refusal}
use Rattle.hwdb_spec_commands.specs.declared.refusals.Refusal.TheVariants as refusal
use Rattle.hwdb_plan.specs.Answers.{streamed}
use Rattle.hwdb_plan.specs.Dump.{bad_database}
use Rattle.hwdb_plan.specs.Ended.{Does, Leaves, OnLines, Outs, Prints, ShowsEnd, StreamsTo, outs_of, whole}
use Rattle.hwdb_plan.specs.Plans.{End, Ends, Follows, Next, Plan}
use Rattle.hwdb_plan.specs.Plans.End.{Answers, Lines, Replaces, Scans, Stops, Streams}
use Rattle.hwdb_spec_commands.specs.Told.{Reads, Stop, stop_of}
use Rattle.hwdb_spec_commands.specs.Told.Stop.{Over}

-- an answer that was had and printed, or not: of any type that has a status and two texts
module _ {Y : Type 0} (status : Y → ℕ) (err out : Y → List ℕ) where
  abbrev end_of : Y → End
  end_of a = Answers (status a) (err a) (out a)

  pub answer_shows : (answer : Result Y Refusal) (result : Result ℕ Refusal) (w : Reads) (p : Plan) (input_before input_now : Told) (before now : Outs) → Follows end_of w p answer
      → MatchResult answer (λ a. Prints (status a) (err a) (out a) before now result) (λ r. (result ≡ Err r) × (now ≡ before))
      → ShowsEnd w p input_before input_now before now result
  answer_shows (Ok a) result w p ib im before now ends prints = inl (end_of a, ends, prints)
  answer_shows (Err r) (Ok n) w p ib im before now why (is, same) = absurd cc
  answer_shows (Err r) (Err x) w p ib im before now (inl memory) (is, same) = inr (forgone, same)
    where
      forgone : x ≡ refusal.Plain error.Memory
      forgone = cc
  answer_shows (Err r) (Err x) w p ib im before now (inr ends) (is, same) = inl (Stops (stop_of r), ends, (says, same))
    where
      one : x ≡ r
      one = cc

      says : stop_of x ≡ stop_of r
      says = ap stop_of one

-- a step's error is handed on before anything was shown
pub stop_shows : (w : Reads) (p : Plan) (input_before input_now : Told) (before : Outs) (r : Refusal) (result : Result ℕ Refusal) → (r ≡ refusal.Plain error.Memory) ⊎ Ends w p (Stops (stop_of r))
    → IsErrAnd result (λ x. x ≡ r) → ShowsEnd w p input_before input_now before before result
stop_shows w p ib im before r (Ok n) why is = absurd is
stop_shows w p ib im before r (Err x) (inl memory) is = inr (is ∙ memory, refl)
stop_shows w p ib im before r (Err x) (inr ends) is = inl (Stops (stop_of r), ends, (ap stop_of is, refl))

-- before what follows
pub before_next : (w : Reads) (p : Next → Plan) (next : Next) (r : Refusal) → (r ≡ refusal.Plain error.Memory) ⊎ ((n : Next) → Ends w (p n) (Stops (stop_of r)))
    → (r ≡ refusal.Plain error.Memory) ⊎ Ends w (p next) (Stops (stop_of r))
before_next w p next r (inl memory) = inl memory
before_next w p next r (inr ends) = inr (ends next)

pub nothing_changed : (files : Files) → AreKept files files
nothing_changed files = record { same = λ p. refl; no_more = λ p v l. l }

-- a run that only reads leaves its files
pub shown_does : (w : Reads) (p : Plan) (before now : World) (result : Result ℕ Refusal) → ShowsEnd w p before.input now.input (outs_of before) (outs_of now) result
    → AreKept before.files now.files → Does w p before now result
shown_does w p before now result (inl (Stops s, ends, shows)) kept = inl (Stops s, ends, (shows, kept))
shown_does w p before now result (inl (Answers status err out, ends, shows)) kept = inl (Answers status err out, ends, (shows, kept))
shown_does w p before now result (inl (Lines lines, ends, shows)) kept = inl (Lines lines, ends, (shows, kept))
shown_does w p before now result (inl (Streams text, ends, shows)) kept = inl (Streams text, ends, (shows, kept))
shown_does w p before now result (inl (Scans path count, ends, shows)) kept = inl (Scans path count, ends, (shows, kept))
shown_does w p before now result (inl (Replaces folder bytes said status, ends, shows)) kept = absurd shows
shown_does w p before now result (inr none) kept = inr (none, kept)

-- ---- bytes of a database
module _ (w : Reads) (p : Next → Plan) (path bytes : List ℕ) (step : (next : Next) (e : End) → Ends w (next path bytes) e → Ends w (p next) e) where
  -- they are none, and what follows says so
  pub bad_ends : (next : Next) (at : List ℕ) (f : DbFault) (r : Refusal) → (IsNoDatabase bytes f → Ends w (next path bytes) (Stops (bad_database path f))) → IsNoDatabase bytes f → at ≡ path
      → IsOfCause (BadDatabase f) at None r → (r ≡ refusal.Plain error.Memory) ⊎ Ends w (p next) (Stops (stop_of r))
  bad_ends next at f (refusal.Plain e) bad none same of = inl (ap refusal.Plain of)
  bad_ends next at f (refusal.At e q c) bad none same of =
      inr (step next (Stops (Over e q.items c)) (subst (λ (x : Stop). Ends w (next path bytes) (Stops x)) (sym one) (bad none)))
    where
      error_ : e ≡ BadDatabase f
      error_ = of.0

      there : q.items ≡ path
      there = of.1 ∙ same

      cause : c ≡ None
      cause = of.2

      one : Over e q.items c ≡ bad_database path f
      one = cc
  bad_ends next at f refusal.NoDatabase bad none same of = absurd of
  bad_ends next at f (refusal.InWords text) bad none same of = absurd of

  -- lines of standard input are answered
  pub stream_shows : (form : Form) (t : Tree) → IsDatabase bytes t → (input_before input_now : Told) (before now : Outs) (result : Result ℕ Refusal)
      → StreamsTo (λ lines. texts_of form lines t) input_before input_now before.out now.out result → now.err ≡ before.err → ShowsEnd w (p (streamed form)) input_before input_now before now result
  unfolding Ends
  stream_shows form t is ib im before now result streams quiet =
      inl (Streams (λ lines. texts_of form lines t), step (streamed form) (Streams (λ lines. texts_of form lines t)) (inl (t, is, refl)), (streams, quiet))

-- ---- an end leaves one status, and one text on each output, if no output fails
-- devices that tell what they had before
pub record TellAll (before : World) : Type 0 where
  pub input : List ℕ
  pub err : List ℕ
  pub out : List ℕ
  pub of_input : before.input.bytes ≡ Some input
  pub of_err : before.err.bytes ≡ Some err
  pub of_out : before.out.bytes ≡ Some out

one_grown : (had : List ℕ) (now now2 : Option (List ℕ)) (text : List ℕ) → Appends (Some had) now text → Appends (Some had) now2 text → now ≡ now2
one_grown had (Some xs) (Some ys) text one two = ap Some (one ∙ sym two)
one_grown had None now2 text one two = absurd one
one_grown had (Some xs) None text one two = absurd two

one_taken : (had : List ℕ) (before now now2 : Told) (text : List ℕ) → before.bytes ≡ Some had → HasTaken text before now → HasTaken text before now2 → now.bytes ≡ now2.bytes
one_taken had before now now2 text told one two =
    one_grown had now.bytes now2.bytes text (subst (λ (o : Option (List ℕ)). Appends o now.bytes text) told one.whole) (subst (λ (o : Option (List ℕ)). Appends o now2.bytes text) told two.whole)

pub leaves_one : (e : End) (before now now2 : World) (m n : ℕ) → TellAll before → Leaves e before now (Ok m) → Leaves e before now2 (Ok n)
    → (m ≡ n) × (now.err.bytes ≡ now2.err.bytes) × (now.out.bytes ≡ now2.out.bytes)
leaves_one (Stops s) before now now2 m n tell a b = absurd a.0.0
leaves_one (Answers status err out) before now now2 m n tell a b = (
  a.0.0 ∙ sym b.0.0,
  one_taken tell.err before.err now.err now2.err err tell.of_err a.0.1.took_err b.0.1.took_err,
  one_taken tell.out before.out now.out now2.out out tell.of_out a.0.1.took_out b.0.1.took_out,
)
leaves_one (Lines lines) before now now2 m n tell a b =
    (a.0.0.0 ∙ sym b.0.0.0, ap (λ (t : Told). t.bytes) (a.0.1 ∙ sym b.0.1), one_taken tell.out before.out now.out now2.out (whole lines) tell.of_out a.0.0.1 b.0.0.1)
leaves_one (Streams text) before now now2 m n tell a b = (
  a.0.0.0 ∙ sym b.0.0.0,
  ap (λ (t : Told). t.bytes) (a.0.1 ∙ sym b.0.1),
  one_grown tell.out now.out.bytes now2.out.bytes (text (devices_of tell.input)) (took now a.0.0.1.taken) (took now2 b.0.0.1.taken),
)
  where
    took : (then : World) → OnLines before.input.bytes (λ lines. Appends before.out.bytes then.out.bytes (text lines)) → Appends (Some tell.out) then.out.bytes (text (devices_of tell.input))
    took then taken =
        subst (λ (o : Option (List ℕ)). Appends o then.out.bytes (text (devices_of tell.input))) tell.of_out
        (subst (λ (o : Option (List ℕ)). OnLines o (λ lines. Appends before.out.bytes then.out.bytes (text lines))) tell.of_input taken)
leaves_one (Scans path count) before now now2 m n tell a b = (
  a.0.0.0 ∙ sym b.0.0.0,
  ap (λ (t : Told). t.bytes) (a.0.1 ∙ sym b.0.1),
  one_grown tell.out now.out.bytes now2.out.bytes (scanned_text count tell.input) (took now a.0.0.1.taken) (took now2 b.0.0.1.taken),
)
  where
    took : (then : World) → IfSome before.input.bytes (λ bytes. Appends before.out.bytes then.out.bytes (scanned_text count bytes)) → Appends (Some tell.out) then.out.bytes (scanned_text count tell.input)
    took then taken =
        subst (λ (o : Option (List ℕ)). Appends o then.out.bytes (scanned_text count tell.input)) tell.of_out
        (subst (λ (o : Option (List ℕ)). IfSome o (λ bytes. Appends before.out.bytes then.out.bytes (scanned_text count bytes))) tell.of_input taken)
leaves_one (Replaces folder bytes said status) before now now2 m n tell a b =
    (a.0.0 ∙ sym b.0.0, one_taken tell.err before.err now.err now2.err said tell.of_err a.0.1 b.0.1, ap (λ (t : Told). t.bytes) (a.1 ∙ sym b.1))

-- ---- two runs of one plan over one input
-- both did what the plan ends in, and it has one end: then they are alike
pub runs_are_one : (w : Reads) (p : Plan) (before now now2 : World) (m n : ℕ) → TellAll before → ((e f : End) → Ends w p e → Ends w p f → e ≡ f)
    → Does w p before now (Ok m) → Does w p before now2 (Ok n) → (m ≡ n) × (now.err.bytes ≡ now2.err.bytes) × (now.out.bytes ≡ now2.out.bytes)
runs_are_one w p before now now2 m n tell one (inl (e, ends, left)) (inl (f, ends2, left2)) =
    leaves_one e before now now2 m n tell left (subst (λ (x : End). Leaves x before now2 (Ok n)) (one f e ends2 ends) left2)
runs_are_one w p before now now2 m n tell one (inr forgone) b = absurd forgone.0.0
runs_are_one w p before now now2 m n tell one (inl a) (inr forgone) = absurd forgone.0.0
