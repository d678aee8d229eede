use Rattle.std.proofs.Common.{◌∙◌, length, ap, sym, subst, map, [], Err}
use Rattle.hwdb_spec.specs.Folders.{within_64_bits}
use Rattle.hwdb_spec.specs.Written.{IsDatabaseOf, IsWritten}
use Rattle.hwdb_compile.specs.Views.{ForFolders, fault_of}
use Rattle.hwdb_spec.specs.CompileErrors.{IsRefusal}
use Rattle.hwdb_compile.proofs.AcceptanceLemmas.{same_map, same_faults, accepted, error_given, refusal, store_refusal}
use Rattle.hwdb_compile.specs.Lemmas.Files.{same_assignments}
use Rattle.hwdb_compile.proofs.compiler.compile_chosen.Goals as goal

pub returns-in_err-given-clause-refused : goal.returns-in_err-given-clause-refused
returns-in_err-given-clause-refused c =
    error_given _ (λ e. ForFolders c.args.files.now (λ etc usr. IsRefusal etc usr c.args.max_bytes e)) c.from_residual-in_err-given.result c.from_residual-in_err-given.ensures.1
    (λ e is etc usr of. subst (IsRefusal etc usr c.args.max_bytes) (sym is)
    (refusal etc usr c.args.max_bytes c.args.files.now c.in_err-given.field-0.0 of c.in_err-given.ensures.refused))

pub returns-in_err-database-clause-refused : goal.returns-in_err-database-clause-refused
returns-in_err-database-clause-refused c =
    error_given _ (λ e. ForFolders c.args.files.now (λ etc usr. IsRefusal etc usr c.args.max_bytes e)) c.from_residual-in_err-database.result c.from_residual-in_err-database.ensures.1
    (λ e is etc usr of.
    let tree = same_map etc usr c.args.files.now c.make_room.new.self c.add_files.new.tree of (c.make_room.ensures ∙ c.new-tree.ensures) (c.in_ok-given.ensures.tree []) in
    subst (IsRefusal etc usr c.args.max_bytes) (sym is)
    (store_refusal etc usr c.args.max_bytes c.add_files.new.tree c.in_err-database.field-0.0 (accepted etc usr c.args.files.now of c.in_ok-given.ensures.few) tree
    (λ t. c.in_err-database.ensures.too_large (ap Err t))))

pub returns-clause-database : goal.returns-clause-database
returns-clause-database c = λ etc usr of.
    let tree = same_map etc usr c.args.files.now c.make_room.new.self c.add_files.new.tree of (c.make_room.ensures ∙ c.new-tree.ensures) (c.in_ok-given.ensures.tree []) in
    subst (λ m. IsWritten m c.in_ok-database.database.items) tree c.in_ok-database.ensures.written

pub returns-clause-checked : goal.returns-clause-checked
returns-clause-checked c = λ etc usr of.
    let tree = same_map etc usr c.args.files.now c.make_room.new.self c.add_files.new.tree of (c.make_room.ensures ∙ c.new-tree.ensures) (c.in_ok-given.ensures.tree []) in
    subst (λ m. IsDatabaseOf m c.in_ok-database.database.items) tree c.in_ok-database.ensures.database

pub returns-clause-sound : goal.returns-clause-sound
returns-clause-sound c = let made = c.in_ok-database.ensures.database in (made.0, made.1)

pub returns-clause-faults : goal.returns-clause-faults
returns-clause-faults c = λ etc usr of.
    same_faults etc usr c.args.files.now (map fault_of c.new-faults.result.items) _ of (ap (map fault_of) c.new-faults.ensures.items) c.in_ok-given.ensures.faults

pub returns-clause-given : goal.returns-clause-given
returns-clause-given c = λ etc usr of.
    c.in_ok-given.ensures.given ∙ ap (λ l. within_64_bits (length l)) (same_assignments etc usr c.args.files.now of)

pub returns-clause-accepted : goal.returns-clause-accepted
returns-clause-accepted c = λ etc usr of. accepted etc usr c.args.files.now of c.in_ok-given.ensures.few

pub returns-clause-headline : goal.returns-clause-headline
returns-clause-headline c = λ etc usr of.
    c.compiled_answers_are_last.ensures.after etc usr c.in_ok-database.database.items (returns-clause-checked c etc usr of)
