use Rattle.std.proofs.Common.{◌≡◌, ◌∙◌, ◌≤◌, ap, arith, refl, sym, subst, List, ℕ, Option, None, Err, IfSome, length}
use Rattle.hwdb_spec.specs.Texts.{devices_of, max_file}
use Rattle.hwdb_spec.specs.Tree.{Tree}
use Rattle.hwdb_spec.specs.Format.{IsDatabase}
use Rattle.hwdb_spec_commands.specs.Databases.{IsTextOf}
use Rattle.hwdb_spec_commands.specs.AnsweredLines.{IsLineError, IsPrintedBefore, line_error}
use Rattle.hwdb_answers.specs.Internal.{answer_text}
use Rattle.hwdb_spec.specs.Errors.{refusal_of_read}
use Rattle.hwdb_spec_commands.specs.Streams.{texts_of}
use Rattle.hwdb_spec.specs.declared.errors.ToolError.TheVariants.{Memory, Write}
use Rattle.hwdb_answers.proofs.AnsweredLemmas.{at_start, handed_on, many_before, memory_before, one_more, told_all, told_line, told_long, told_many, told_whole, unread_before, write_before}
use Rattle.hwdb_answers.proofs.LineLemmas.{read_too_long}
use Rattle.hwdb_answers.proofs.StreamLemmas.{heard, none_of, some_of, some_weaker}
use Rattle.hwdb_answers.proofs.streaming.answer_lines.Goals as goal

pub answering-init : goal.answering-init
answering-init g c = record {
  held = c.requires.database;
  same = λ _. refl;
  stays = λ s. s;
  lines = λ t. at_start c.args.form t _ _ _ c.new-lines.ensures;
  so_far = λ _ t is. at_start c.args.form t _ _ _ c.new-lines.ensures;
  same_input = refl;
  same_out = refl;
  flushed = λ f. f;
  quiet = λ _. refl;
  heard = (refl, λ f. f);
}

pub returns-in_err-device-clause-too_long : goal.returns-in_err-device-clause-too_long
returns-in_err-device-clause-too_long g c = λ is.
    let t = c.answering.invariant.held.0 in
    told_long c.args.form t c.answering.counter c.answering.is_first _ _ _ _
    (c.in_err-device.ensures.too_long (read_too_long c.from_residual.result c.in_err-device.field-0.0 c.from_residual.ensures.1 is)) (c.answering.invariant.lines t)

pub returns-in_err-device-clause-line : goal.returns-in_err-device-clause-line
returns-in_err-device-clause-line g c =
    let q = c.in_err-device.field-0.0 in
    let t = c.answering.invariant.held.0 in
    handed_on c.from_residual.result (refusal_of_read q) (λ e. IfSome (g.I.Source.left c.args.input.now) (λ text. IsLineError e (line_error (devices_of text)))) c.from_residual.ensures.1
    (told_line c.args.form t c.answering.counter c.answering.is_first _ _ _ _ q (omega (arith, c.answering-test.true)) (λ e. c.in_err-device.ensures.too_long (ap Err e)) (c.answering.invariant.lines t))

pub returns-in_err-device-clause-before : goal.returns-in_err-device-clause-before
returns-in_err-device-clause-before g c = λ stays.
    let q = c.in_err-device.field-0.0 in
    let t = c.requires.database.0 in
    let is = c.requires.database.1 in
    let Is : List (List ℕ) → List ℕ → Type 0 = λ lines. IsTextOf (texts_of c.args.form lines) (g.R.Renewal.held c.args.database.now) in
    handed_on c.from_residual.result (refusal_of_read q)
    (λ e. IfSome (g.I.Source.left c.args.input.now) (λ text. IsPrintedBefore e Is (devices_of text) (g.O.Sink.taken c.args.out.now) (g.O.Sink.taken c.answering.out))) c.from_residual.ensures.1
    (unread_before c.args.form t c.answering.counter c.answering.is_first Is (λ lines. record { tree = t; database = is; is = refl }) _ _ _ _ q (omega (arith, c.answering-test.true)) (λ e. c.in_err-device.ensures.too_long (ap Err e)) (c.answering.invariant.so_far stays t is))

pub returns-in_default-clause-printed : goal.returns-in_default-clause-printed
returns-in_default-clause-printed g c = λ stays.
    let t = c.requires.database.0 in
    let is = c.requires.database.1 in
    some_weaker (g.I.Source.left c.args.input.now) _ _ (λ text taken. record { text = texts_of c.args.form (devices_of text) t; is = record { tree = t; database = is; is = refl }; taken = taken })
    (told_whole c.args.form t c.answering.counter c.answering.is_first _ _ _ _ (none_of c.in_ok-device.field-0 _ c.in_default.not-Some c.in_ok-device.ensures.end) (c.answering.invariant.so_far stays t is))

pub returns-in_default-clause-all : goal.returns-in_default-clause-all
returns-in_default-clause-all g c =
    let t = c.answering.invariant.held.0 in
    told_all c.args.form t c.answering.counter c.answering.is_first _ _ _ _ (omega (arith, c.answering-test.true)) (none_of c.in_ok-device.field-0 _ c.in_default.not-Some c.in_ok-device.ensures.end) (c.answering.invariant.lines t)

pub returns-in_err-text-clause-before : goal.returns-in_err-text-clause-before
returns-in_err-text-clause-before g c = λ stays.
    let t = c.requires.database.0 in
    let is = c.requires.database.1 in
    let Is : List (List ℕ) → List ℕ → Type 0 = λ lines. IsTextOf (texts_of c.args.form lines) (g.R.Renewal.held c.args.database.now) in
    handed_on c.from_residual-in_err-text.result Memory
    (λ e. IfSome (g.I.Source.left c.args.input.now) (λ text. IsPrintedBefore e Is (devices_of text) (g.O.Sink.taken c.args.out.now) (g.O.Sink.taken c.answering.out))) c.from_residual-in_err-text.ensures.1
    (memory_before c.args.form t c.answering.counter c.answering.is_first Is (λ lines. record { tree = t; database = is; is = refl }) _ _ _ _ (omega (arith, c.answering-test.true)) (c.answering.invariant.so_far stays t is))

pub reopen-db-requires : goal.reopen-db-requires
reopen-db-requires g c =
    let renewed = c.renew-is_heard.ensures.database c.answering.invariant.held.0 c.answering.invariant.held.1 in
    (renewed.0, subst (λ (b : List ℕ). IsDatabase b renewed.0) (sym c.bytes.ensures) renewed.1)

pub returns-in_err-write_text-clause-before : goal.returns-in_err-write_text-clause-before
returns-in_err-write_text-clause-before g c = λ stays.
    let t = c.requires.database.0 in
    let is = c.requires.database.1 in
    let Is : List (List ℕ) → List ℕ → Type 0 = λ lines. IsTextOf (texts_of c.args.form lines) (g.R.Renewal.held c.args.database.now) in
    let line = some_of c.in_ok-device.field-0 c.in-Some.device _ c.in-Some.is c.in_ok-device.ensures.line in
    let fits : length c.in-Some.device.items ≤ max_file = omega (arith, c.in-Some.device.ok.0, some_of c.in_ok-device.field-0 c.in-Some.device _ c.in-Some.is c.in_ok-device.ensures.fits) in
    let same = c.bytes.ensures ∙ c.renew-is_heard.ensures.same (c.answering.invariant.stays stays) ∙ c.answering.invariant.same stays in
    let tree = c.reopen-db.ensures t (subst (λ (b : List ℕ). IsDatabase b t) (sym same) is) in
    let text = c.deref-in-answering.ensures.value ∙ c.in_ok-text.ensures ∙ ap (λ d. answer_text c.args.form c.answering.is_first d c.reopen-db.result) c.deref.ensures.value
    ∙ ap (λ u. answer_text c.args.form c.answering.is_first c.in-Some.device.items u) tree in
    handed_on c.from_residual-in_err-write_text.result Write
    (λ e. IfSome (g.I.Source.left c.args.input.now) (λ text. IsPrintedBefore e Is (devices_of text) (g.O.Sink.taken c.args.out.now) (g.O.Sink.taken c.write_text.new.sink))) c.from_residual-in_err-write_text.ensures.1
    (write_before c.args.form t c.answering.counter c.answering.is_first Is (λ lines. record { tree = t; database = is; is = refl }) _ _ _ _ _ _ c.in-Some.device.items c.deref-in-answering.result.now (omega (arith, c.answering-test.true)) line fits text c.in_err-write_text.ensures.cut_short.prefix (c.answering.invariant.so_far stays t is))

pub answering-preserved : goal.answering-preserved
answering-preserved g c =
    let line = some_of c.in_ok-device.field-0 c.in-Some.device _ c.in-Some.is c.in_ok-device.ensures.line in
    let fits : length c.in-Some.device.items ≤ max_file = omega (arith, c.in-Some.device.ok.0, some_of c.in_ok-device.field-0 c.in-Some.device _ c.in-Some.is c.in_ok-device.ensures.fits) in
    let text = c.deref-in-answering.ensures.value ∙ c.in_ok-text.ensures ∙ ap (λ d. answer_text c.args.form c.answering.is_first d c.reopen-db.result) c.deref.ensures.value in
    record {
      held = c.renew-is_heard.ensures.database c.answering.invariant.held.0 c.answering.invariant.held.1;
      same = λ s. c.renew-is_heard.ensures.same (c.answering.invariant.stays s) ∙ c.answering.invariant.same s;
      stays = λ s. c.renew-is_heard.ensures.stays (c.answering.invariant.stays s);
      lines = λ t. one_more c.args.form t c.answering.counter c.answering.is_first _ _ _ _ _ _ c.in-Some.device.items (answer_text c.args.form c.answering.is_first c.in-Some.device.items t) line fits refl tt (c.answering.invariant.lines t);
      so_far = λ s t is.
          let same = c.bytes.ensures ∙ c.renew-is_heard.ensures.same (c.answering.invariant.stays s) ∙ c.answering.invariant.same s in
          let tree = c.reopen-db.ensures t (subst (λ (b : List ℕ). IsDatabase b t) (sym same) is) in
          one_more c.args.form t c.answering.counter c.answering.is_first _ _ _ _ _ _ c.in-Some.device.items c.deref-in-answering.result.now line fits
          (text ∙ ap (λ u. answer_text c.args.form c.answering.is_first c.in-Some.device.items u) tree) c.in_ok-write_text.ensures.took.whole (c.answering.invariant.so_far s t is);
      same_input = c.in_ok-device.ensures.failures ∙ c.answering.invariant.same_input;
      same_out = c.in_ok-write_text.ensures.took.unfailed ∙ c.answering.invariant.same_out;
      flushed = λ _. c.in_ok-write_text.ensures.flushed;
      quiet = λ s. c.renew-is_heard.ensures.quiet (c.answering.invariant.stays s) ∙ c.answering.invariant.quiet s;
      heard = c.renew-is_heard.ensures.heard c.args.err.now c.answering.invariant.heard;
    }

pub returns-clause-line : goal.returns-clause-line
returns-clause-line g c =
    let t = c.answering.invariant.held.0 in
    told_many c.args.form t c.answering.counter c.answering.is_first _ _ _ _ (omega (arith, c.answering-test.false)) (c.answering.invariant.lines t)

pub returns-clause-before : goal.returns-clause-before
returns-clause-before g c = λ stays.
    let t = c.requires.database.0 in
    let is = c.requires.database.1 in
    let Is : List (List ℕ) → List ℕ → Type 0 = λ lines. IsTextOf (texts_of c.args.form lines) (g.R.Renewal.held c.args.database.now) in
    many_before c.args.form t c.answering.counter c.answering.is_first Is (λ lines. record { tree = t; database = is; is = refl }) _ _ _ _ (omega (arith, c.answering-test.false)) (c.answering.invariant.so_far stays t is)

pub returns-in_err-device-clause-err_hands_on : goal.returns-in_err-device-clause-err_hands_on
returns-in_err-device-clause-err_hands_on g c = heard c.answering.is_heard _ _ _ _ c.answering.invariant.heard

pub returns-in_default-clause-err_hands_on : goal.returns-in_default-clause-err_hands_on
returns-in_default-clause-err_hands_on g c = heard c.answering.is_heard _ _ _ _ c.answering.invariant.heard

pub returns-in_err-text-clause-quiet : goal.returns-in_err-text-clause-quiet
returns-in_err-text-clause-quiet g c = λ stays. c.renew-is_heard.ensures.quiet (c.answering.invariant.stays stays) ∙ c.answering.invariant.quiet stays

pub returns-in_err-text-clause-err_hands_on : goal.returns-in_err-text-clause-err_hands_on
returns-in_err-text-clause-err_hands_on g c = heard c.renew-is_heard.result _ _ _ _ (c.renew-is_heard.ensures.heard c.args.err.now c.answering.invariant.heard)

pub returns-in_err-write_text-clause-quiet : goal.returns-in_err-write_text-clause-quiet
returns-in_err-write_text-clause-quiet g c = λ stays. c.renew-is_heard.ensures.quiet (c.answering.invariant.stays stays) ∙ c.answering.invariant.quiet stays

pub returns-in_err-write_text-clause-err_hands_on : goal.returns-in_err-write_text-clause-err_hands_on
returns-in_err-write_text-clause-err_hands_on g c = heard c.renew-is_heard.result _ _ _ _ (c.renew-is_heard.ensures.heard c.args.err.now c.answering.invariant.heard)

pub returns-clause-err_hands_on : goal.returns-clause-err_hands_on
returns-clause-err_hands_on g c = heard c.answering.is_heard _ _ _ _ c.answering.invariant.heard
