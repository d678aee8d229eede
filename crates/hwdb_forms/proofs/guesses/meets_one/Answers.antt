use Rattle.std.proofs.Common.{arith}
use Rattle.hwdb_spec.specs.Patterns.{tokens}
use Rattle.hwdb_forms.specs.Internal.{form_of}
use Rattle.hwdb_forms.proofs.GuessLemmas.{form_among}
use Rattle.hwdb_forms.proofs.guesses.meets_one.Goals as goal

pub returns-then-meets_plainly : goal.returns-then-meets_plainly
returns-then-meets_plainly c = λ e.
    form_among _ form_of c.args.forms.now c.loop-form.form-index _ (tokens c.args.pattern.now) (omega arith) (c.meets_plainly.ensures c.if-meets_plainly.true)
