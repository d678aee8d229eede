use Rattle.std.proofs.Common.{length}
use Rattle.std.proofs.lemmas.List.{take_rest}
use Rattle.hwdb_forms.specs.Internal.{fields_of, views}
use Rattle.hwdb_forms.proofs.WalkLemmas.{dead_prefix, dead_rest}
use Rattle.hwdb_forms.proofs.walks.is_dead_at_once.Goals as goal

pub returns-in-No : goal.returns-in-No
returns-in-No c = λ t more. dead_prefix c.args.form.prefix.now (fields_of c.args.form.fields.now) (views c.args.tokens.now) more c.pass_fixed.result c.pass_fixed.ensures.passed c.in-No.is

pub returns-in-Yes : goal.returns-in-Yes
returns-in-Yes c = λ t more.
    dead_rest c.args.form.prefix.now (fields_of c.args.form.fields.now) c.args.tokens.now _ more c.pass_fixed.result c.pass_fixed.ensures.passed c.in-Yes.is
    (take_rest c.args.tokens.now (length c.args.form.prefix.now)) (c.pass_fixed.ensures.within c.in-Yes.is) (c.are_fields_dead.ensures t more)
