use Rattle.std.proofs.Common.{◌++◌, ◌∙◌, [], ap, map, take, get_or, add-one}
use Rattle.std.proofs.lemmas.List.{get_or_default}
use Rattle.hwdb_text.specs.declared.outcome.Given.{Given}
use Rattle.hwdb_text.specs.Views.{origin, given_in}
use Rattle.hwdb_spec.specs.Tree.{surviving}
use Rattle.hwdb_compile.specs.Internal.Reading.{IsPuttable}
use Rattle.hwdb_compile.proofs.GatherLemmas.{all_at, no_zero, mapped_all, put_step}
use Rattle.hwdb_compile.proofs.compiler.put_all.Goals as goal
use Rattle.hwdb_spec.specs.Lemmas.Lists.{mapped_more}

-- what an index reads after the end of the list
abbrev none : Given
none = record { line = 0; pattern = record { ref_ptr = (0, 0); now = [] }; key = record { ref_ptr = (0, 0); now = [] }; value = record { ref_ptr = (0, 0); now = [] } }

pub set-requires : goal.set-requires
set-requires c =
    let all = c.args.all.now in
    let i = c.loop-given.given-index in
    let item = get_or all i none in
    let here = given_in (origin c.args.path.now c.args.priority) in
    let a : IsPuttable (here item) = all_at IsPuttable here all i item c.requires c.loop-given-test.true (get_or_default all i none item c.loop-given-test.true) in
    record {
      short = a.storable.short;
      pattern = no_zero _ a.storable.pattern;
      key = no_zero _ a.storable.key;
      value = no_zero _ a.storable.value;
      path = no_zero _ a.path;
      priority = a.priority;
    }

pub loop-given-preserved : goal.loop-given-preserved
loop-given-preserved c = λ done is.
    let all = c.args.all.now in
    let i = c.loop-given.given-index in
    let item = get_or all i none in
    let here = given_in (origin c.args.path.now c.args.priority) in
    put_step done (map here (take i all)) _ (here item) c.loop-given.tree _ (c.loop-given.invariant done is) c.in_ok-set.ensures.ok
    (rw add-one (mapped_more here all i item c.loop-given-test.true (get_or_default all i none item c.loop-given-test.true)))

pub returns : goal.returns
returns c = λ done is.
    c.loop-given.invariant done is
    ∙ ap (λ l. surviving (done ++ l)) (mapped_all (given_in (origin c.args.path.now c.args.priority)) c.args.all.now c.loop-given.given-index c.loop-given-test.false)
