use Rattle.std.proofs.Common.{refl}
use Rattle.hwdb_compile.specs.Views.{sources}
use Rattle.hwdb_answers.proofs.UpdateLemmas.{leaves_old_or_written}
use Rattle.hwdb_answers.proofs.update.run_update.Goals as goal

pub returns-clause-any_moment : goal.returns-clause-any_moment
returns-clause-any_moment g c = λ tells.
    let database = c.in_ok-compiled.compiled.database.items in
    leaves_old_or_written g.S.Store.moment g.S.Store.left_since c.args.store.now c.put_in_place.new.store (sources c.args.etc.now) (sources c.args.usr.now)
    c.args.folder.now database database (g.S.Store.seen c.args.store.now) (g.S.Store.may_leave c.args.store.now) refl
    c.in_ok-compiled.ensures.database c.in_ok-compiled.ensures.checked (c.put_in_place.ensures.any_moment tells)
