use Rattle.std.proofs.Common.{◌++◌, ◌∙◌, arith, refl, sym, subst, map, take, All, add-one}
use Rattle.std.specs.Prelude.{flat_map}
use Rattle.std.specs.String.{string_bytes}
use Rattle.std.proofs.lemmas.List.Elements.{All-push}
use Rattle.hwdb_text.specs.Views.{IsStorableChoice}
use Rattle.hwdb_text.specs.declared.choice.ChosenFile.{ChosenFile}
use Rattle.hwdb_compile.specs.Views.{FewLines, ManyLines, fault_of}
use Rattle.hwdb_text.specs.Views.{bytes_in, choice_in}
use Rattle.hwdb_compile.specs.Internal.Reading.{path_in, assignments_in, faults_in, IsFilesRefusal}
use Rattle.hwdb_compile.proofs.GatherLemmas.{all_at, same_at, as_long, any_here, counted_more, tree_step, list_step}
use Rattle.hwdb_compile.proofs.AcceptanceLemmas.{error_given, files_refusal}
use Rattle.hwdb_compile.proofs.compiler.add_files.Goals as goal
use Rattle.hwdb_spec.specs.Lemmas.Lists.{taken_more}

pub bounds-paths-i : goal.bounds-paths-i
bounds-paths-i c = let same = as_long string_bytes path_in c.args.paths.now c.args.files.now c.requires.paths in omega (arith, same, c.loop-i-test.true)

pub add_file-requires : goal.add_file-requires
add_file-requires c = record {
  storable = all_at IsStorableChoice choice_in c.args.files.now c.loop-i.i c.index-files-i.result c.requires.storable c.loop-i-test.true c.index-files-i.is;
  path =
      c.as_bytes-path.ensures.value
      ∙ same_at string_bytes path_in c.args.paths.now c.args.files.now c.loop-i.i c.index-paths-i.result c.index-files-i.result c.requires.paths c.loop-i-test.true c.index-paths-i.is c.index-files-i.is;
}

pub returns-in_err-own-clause-refused : goal.returns-in_err-own-clause-refused
returns-in_err-own-clause-refused c =
    let files = c.args.files.now in
    error_given _ (IsFilesRefusal files) c.from_residual.result c.from_residual.ensures.1
    (λ e is. subst (IsFilesRefusal files) (sym is)
    (files_refusal files (bytes_in c.index-files-i.result) c.in_err-own.field-0.0
    (λ many. any_here (λ f. ManyLines (bytes_in f)) files c.loop-i.i c.index-files-i.result c.loop-i-test.true c.index-files-i.is many)
    c.in_err-own.ensures.refused))

pub loop-i-preserved : goal.loop-i-preserved
loop-i-preserved c =
    let item = c.index-files-i.result in
    let all = c.args.files.now in
    let i = c.loop-i.i in
    let files = take i all in
    let next = taken_more all i item c.loop-i-test.true c.index-files-i.is in
    record {
      tree = λ done is. rw add-one (
          tree_step done assignments_in files _ item _ c.add_file.new.tree
          (c.in_ok-own.ensures.tree (done ++ flat_map assignments_in files) (c.loop-i.invariant.tree done is)) refl next);
      faults = rw add-one (
          list_step (map fault_of c.args.faults.now.items) (map fault_of c.loop-i.faults.items) (map fault_of c.add_file.new.faults.items) _ faults_in files _ item
          c.in_ok-own.ensures.faults c.loop-i.invariant.faults refl next);
      given = rw add-one (
          counted_more assignments_in files _ item c.loop-i.given c.in_ok-own.own c.saturating_add-given.result c.loop-i.invariant.given c.in_ok-own.ensures.given c.saturating_add-given.ensures next);
      few = rw add-one (
          let P : ChosenFile → Type 0 = λ f. FewLines (bytes_in f) in
          subst (All P) (sym next) (All-push P files item c.loop-i.invariant.few c.in_ok-own.ensures.few));
    }
