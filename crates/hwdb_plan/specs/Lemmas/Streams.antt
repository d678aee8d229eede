-- What answering the lines of standard input leaves, as an end of a plan.
use Rattle.std.proofs.Common.{◌≤◌, ◌≡◌, ◌≢◌, ◌∙◌, ◌⊎◌, inl, inr, ap, sym, subst, List, Option, None, Some, Ok, Err, IfSome, ℕ, refl, length, take, arith}
use Rattle.std.specs.Io.KnownBytes.{Appends}
use Rattle.std.specs.Prelude.{codes}
use Rattle.std.proofs.lemmas.List.{take_all}
use Rattle.hwdb_spec_commands.specs.AnsweredLines.{IsLineError, IsPrintedBefore, answered_lines, line_error}
use Rattle.hwdb_spec_commands.specs.Databases.{IsTextOf}
use Rattle.hwdb_spec.specs.Format.{IsDatabase}
use Rattle.hwdb_spec.specs.Failures.{HasFailed, OneFailed}
use Rattle.hwdb_spec.specs.Outputs.{AppendsPrefix, Wrote, WrotePrefix}
use Rattle.hwdb_spec_commands.specs.Queries.{IsOfInput}
use Rattle.hwdb_spec_commands.specs.Refusals.{IsAt}
use Rattle.hwdb_spec_commands.specs.Runs.{Told}
use Rattle.hwdb_spec_commands.specs.Streams.{IsStreamRefusal, texts_of}
use Rattle.hwdb_spec.specs.Texts.{devices_of}
use Rattle.hwdb_spec.specs.Tree.{Tree}
use Rattle.hwdb_spec.specs.declared.errors.ToolError.{ToolError}
use Rattle.hwdb_spec.specs.declared.errors.ToolError.TheVariants.{BadDatabase, BadPosition, Memory, Read, Replace, TooLarge, TooLong, TooManyFiles, TooManyLines, Write}
use Rattle.hwdb_spec_commands.specs.declared.form.Form.{Form}
use Rattle.hwdb_spec_commands.specs.declared.refusals.Refusal.{Refusal}
use Rattle.hwdb_spec_commands.specs.declared.refusals.Refusal.TheVariants as refusal
use Rattle.hwdb_plan.specs.Ended.{OnLines, StreamsTo, TookAnswered, TookSome}
use Rattle.hwdb_plan.specs.Laws.{OneTree}

pub same_or_less : (n : ℕ) → n ≤ n
same_or_less n = omega arith

-- what follows, of each told line
pub on_lines : (input : Option (List ℕ)) (A B : List (List ℕ) → Type 0) → ((lines : List (List ℕ)) → A lines → B lines) → IfSome input (λ text. A (devices_of text)) → OnLines input B
on_lines None A B f h = tt
on_lines (Some text) A B f h = f (devices_of text) h

module _ (one : OneTree) (form : Form) (bytes : List ℕ) (t : Tree) (is : IsDatabase bytes t) where
  abbrev Of : List (List ℕ) → List ℕ
  Of lines = texts_of form lines t

  -- a text of the database is that of its tree
  same_text : (lines : List (List ℕ)) (text : List ℕ) → IsTextOf (texts_of form lines) bytes text → text ≡ Of lines
  same_text lines text h = h.is ∙ ap (λ (u : Tree). texts_of form lines u) (one bytes h.tree t h.database is)

  took : (before now : Option (List ℕ)) (lines : List (List ℕ)) → Wrote (IsTextOf (texts_of form lines) bytes) before now → Appends before now (Of lines)
  took before now lines wrote = subst (λ (x : List ℕ). Appends before now x) (same_text lines wrote.text wrote.is) wrote.taken

  took_prefix : (before now : Option (List ℕ)) (lines : List (List ℕ)) → WrotePrefix (IsTextOf (texts_of form lines) bytes) before now → AppendsPrefix before now (Of lines)
  took_prefix before now lines wrote = subst (λ (x : List ℕ). AppendsPrefix before now x) (same_text lines wrote.text wrote.is) wrote.taken

  module _ (input_before input_now before now : Told) where
    abbrev Input : Option (List ℕ)
    Input = input_before.bytes

    -- all lines are answered
    pub stream_done : IfSome Input (λ text. Wrote (IsTextOf (texts_of form (devices_of text)) bytes) before.bytes now.bytes) → IfSome Input (λ text. line_error (devices_of text) ≡ None)
        → now.failures ≡ before.failures → StreamsTo Of input_before input_now before now (Ok 0)
    stream_done wrote all unfailed = (
      refl,
      record {
        unfailed = unfailed;
        all = all;
        taken = on_lines Input _ _ (λ lines w. took before.bytes now.bytes lines w) wrote;
      },
    )

    abbrev Ended : Refusal → Type 0
    Ended r = StreamsTo Of input_before input_now before now (Err r)

    abbrev Printed : ToolError → Type 0
    Printed e = IfSome Input (λ text. IsPrintedBefore e (λ some. IsTextOf (texts_of form some) bytes) (devices_of text) before.bytes now.bytes)

    some_of : (lines : List (List ℕ)) → (now.bytes ≡ before.bytes) ⊎ ((n : ℕ) × Wrote (IsTextOf (texts_of form (take n (answered_lines lines))) bytes) before.bytes now.bytes)
        → (now.bytes ≡ before.bytes) ⊎ ((n : ℕ) × Appends before.bytes now.bytes (Of (take n (answered_lines lines))))
    some_of lines (inl same) = inl same
    some_of lines (inr (n, wrote)) = inr (n, took before.bytes now.bytes (take n (answered_lines lines)) wrote)

    some : IfSome Input (λ text. (now.bytes ≡ before.bytes) ⊎ ((n : ℕ) × Wrote (IsTextOf (texts_of form (take n (answered_lines (devices_of text)))) bytes) before.bytes now.bytes))
        → now.failures ≡ before.failures → TookSome Of Input before now
    some printed unfailed = record { unfailed = unfailed; taken = on_lines Input _ _ some_of printed }

    answered : IfSome Input (λ text. Wrote (IsTextOf (texts_of form (answered_lines (devices_of text))) bytes) before.bytes now.bytes) → now.failures ≡ before.failures → TookAnswered Of Input before now
    answered printed unfailed = record { unfailed = unfailed; taken = on_lines Input _ _ (λ lines w. took before.bytes now.bytes (answered_lines lines) w) printed }

    -- all of them are some
    all_of : (lines : List (List ℕ)) → Appends before.bytes now.bytes (Of (answered_lines lines))
        → (now.bytes ≡ before.bytes) ⊎ ((n : ℕ) × Appends before.bytes now.bytes (Of (take n (answered_lines lines))))
    all_of lines taken =
        inr (length (answered_lines lines), subst (λ (x : List (List ℕ)). Appends before.bytes now.bytes (Of x)) (sym (take_all (length (answered_lines lines)) (answered_lines lines) (same_or_less (length (answered_lines lines))))) taken)

    all : TookAnswered Of Input before now → TookSome Of Input before now
    all taken = record { unfailed = taken.unfailed; taken = on_lines Input _ _ all_of taken.taken }

    of_read : (r : Refusal) → IsAt Read (codes "standard input") r → HasFailed input_before.failures input_now.failures → TookSome Of Input before now → Ended r
    of_read (refusal.Plain e) at failed taken = subst (λ (x : ToolError). Ended (refusal.Plain x)) (sym at) taken
    of_read (refusal.At e p c) at failed taken = subst (λ (x : ToolError). Ended (refusal.At x p c)) (sym at.0) (at.1, failed, taken)
    of_read refusal.NoDatabase at failed taken = absurd at
    of_read (refusal.InWords text) at failed taken = absurd at

    of_long : (r : Refusal) → IsAt TooLong (codes "a line of standard input") r → OnLines Input (λ lines. line_error lines ≡ Some TooLong) → TookAnswered Of Input before now → Ended r
    of_long (refusal.Plain e) at long taken = subst (λ (x : ToolError). Ended (refusal.Plain x)) (sym at) (all taken)
    of_long (refusal.At e p c) at long taken = subst (λ (x : ToolError). Ended (refusal.At x p c)) (sym at.0) (at.1, long, taken)
    of_long refusal.NoDatabase at long taken = absurd at
    of_long (refusal.InWords text) at long taken = absurd at

    -- answering them ends with an error
    pub stream_stops : (e : ToolError) (path : List ℕ) (r : Refusal) → IsStreamRefusal bytes e → IsOfInput e path r → (e ≡ Read → HasFailed input_before.failures input_now.failures)
        → IfSome Input (λ text. IsLineError e (line_error (devices_of text))) → Printed e → (e ≡ Write → OneFailed before.failures now.failures) × (e ≢ Write → now.failures ≡ before.failures) → Ended r
    stream_stops Read path r is_ of read line printed failed = of_read r of (read refl) (some printed (failed.1 (λ e. cc)))
    stream_stops TooLong path r is_ of read line printed failed = of_long r of line (answered printed (failed.1 (λ e. cc)))
    stream_stops TooManyLines path r is_ of read line printed failed = subst Ended (sym of) (line, answered printed (failed.1 (λ e. cc)))
    stream_stops Write path r is_ of read line printed failed =
        subst Ended (sym of) record { failed = failed.0 refl; taken = on_lines Input _ _ (λ lines w. took_prefix before.bytes now.bytes (answered_lines lines) w) printed }
    stream_stops Memory path r is_ of read line printed failed = subst Ended (sym of) (some printed (failed.1 (λ e. cc)))
    stream_stops (BadDatabase f) path r nope of read line printed failed = absurd (nope.no_tree t is)
    stream_stops TooManyFiles path r nope of read line printed failed = absurd nope
    stream_stops TooLarge path r nope of read line printed failed = absurd nope
    stream_stops BadPosition path r nope of read line printed failed = absurd nope
    stream_stops (Replace u) path r nope of read line printed failed = absurd nope
