use Rattle.std.proofs.Common.{arith, add-one, refl, ◌+◌}
use Rattle.hwdb_spec.specs.Forms.{Form}
use Rattle.hwdb_forms.specs.Internal.{HasWays, followed, form_of, has_byte, views}
use Rattle.hwdb_forms.proofs.AfterLemmas.{among_all, among_kept, among_start}
use Rattle.hwdb_forms.proofs.LongestLemmas.{every_at}
use Rattle.hwdb_forms.proofs.expecting.bytes_among.Goals as goal

pub loop-form-init : goal.loop-form-init
loop-form-init c = λ b h. among_start _ form_of c.args.forms.now (followed (views c.args.tokens.now) b) _ (c.no_bytes-bytes.ensures b)

pub loop-form-preserved : goal.loop-form-preserved
loop-form-preserved c = λ b h.
    among_kept _ form_of c.args.forms.now c.loop-form.form-index (c.loop-form.form-index + 1) _ (followed (views c.args.tokens.now) b) (has_byte c.loop-form.bytes b) (has_byte c.in_ok-own.own b) _ _
    (omega arith) (add-one c.loop-form.form-index) (c.in_ok-own.ensures b h) (c.joined-bytes.ensures b) (c.loop-form.invariant b h)

pub returns : goal.returns
returns c = λ b h. among_all _ form_of c.args.forms.now c.loop-form.form-index (followed (views c.args.tokens.now) b) (has_byte c.loop-form.bytes b) _ c.loop-form-test.false (c.loop-form.invariant b h)

pub bytes_along-requires : goal.bytes_along-requires
bytes_along-requires c = every_at _ Form form_of HasWays c.args.forms.now c.loop-form.form-index _ (omega arith) c.requires
