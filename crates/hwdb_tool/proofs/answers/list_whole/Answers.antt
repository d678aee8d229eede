use Rattle.std.proofs.Common.{◌≡◌, ◌⊎◌, ap, inl, inr, option_map, string_bytes, subst, ⊎_elim, Err, List, None, ℕ}
use Rattle.hwdb_spec.specs.Outputs.{CutShortOne, TookOne}
use Rattle.hwdb_spec_commands.specs.Asked.{IsListFrom}
use Rattle.hwdb_spec_commands.specs.Listings.{IsListBeginning, IsListRefusal}
use Rattle.hwdb_spec_commands.specs.Refusals.{IsOfDatabase}
use Rattle.hwdb_spec_commands.specs.Runs.{Told, told_by}
use Rattle.hwdb_spec_commands.specs.Told.{IsStop}
use Rattle.hwdb_plan.specs.Asking.{asked}
use Rattle.hwdb_plan.specs.Dump.{database_stop}
use Rattle.hwdb_plan.specs.Ended.{outs}
use Rattle.hwdb_plan.specs.List.{listed}
use Rattle.hwdb_tool.proofs.LookupPlanLemmas.{listed_shows, listed_stops, unread_shows}
use Rattle.hwdb_tool.proofs.answers.list_whole.Goals as goal

pub returns-in_err-found-clause-follows : goal.returns-in_err-found-clause-follows
returns-in_err-found-clause-follows g c = λ tells input err.
    unread_shows (g.D.System.reads c.args.system.now) (asked c.args.root.now) (listed c.args.listed.json c.args.listed.device.now (option_map (λ t. t.now) c.args.listed.after) c.args.listed.limit) input input
    (outs err (told_by g.O.Sink.taken g.O.Sink.failures c.args.out.now)) c.in_err-found.field-0.0 c.from_residual.result (c.in_err-found.ensures.follows tells) c.from_residual.ensures.1

pub returns-in-Ok-clause-follows : goal.returns-in-Ok-clause-follows
returns-in-Ok-clause-follows g c = λ tells input err.
    let f = c.in_ok-found.found in
    let told = told_by g.O.Sink.taken g.O.Sink.failures in
    let after = option_map (λ t. t.now) c.args.listed.after in
    listed_shows (g.D.System.reads c.args.system.now) (asked c.args.root.now) (string_bytes f.path) f.bytes.items (c.in_ok-found.ensures.follows tells) c.args.listed.json c.args.listed.device.now c.args.listed.limit input err
    (told c.args.out.now) (told c.print_list.new.out) after
    (subst (λ (b : List ℕ). TookOne (IsListFrom c.args.listed.json c.args.listed.device.now after c.args.listed.limit b) (g.O.Sink.taken c.args.out.now) (g.O.Sink.taken c.print_list.new.out) (g.O.Sink.failures c.args.out.now) (g.O.Sink.failures c.print_list.new.out))
    c.deref.ensures.value c.in-Ok.ensures.printed)

pub returns-clause-follows : goal.returns-clause-follows
returns-clause-follows g c = λ tells input err.
    let f = c.in_ok-found.found in
    let told = told_by g.O.Sink.taken g.O.Sink.failures in
    let after = option_map (λ t. t.now) c.args.listed.after in
    let e = c.in-Err.error in
    let same = c.deref.ensures.value in
    listed_stops (g.D.System.reads c.args.system.now) (asked c.args.root.now) (string_bytes f.path) f.bytes.items (c.in_ok-found.ensures.follows tells) c.args.listed.json c.args.listed.device.now c.args.listed.limit input err
    (told c.args.out.now) (told c.print_list.new.out) after e c.refused_database.result
    (subst (λ (b : List ℕ). IsListRefusal after b e) same c.in-Err.ensures.refusals)
    (subst (λ (p : List ℕ). IsOfDatabase e p c.refused_database.result) c.as_bytes.ensures.value c.refused_database.ensures.is)
    (subst (λ (p : List ℕ). IsStop (database_stop p e) c.refused_database.result) c.as_bytes.ensures.value c.refused_database.ensures.stops)
    (λ w m. ap told (c.in-Err.ensures.untouched w m))
    (λ w. subst (λ (b : List ℕ). CutShortOne (IsListFrom c.args.listed.json c.args.listed.device.now after c.args.listed.limit b) (g.O.Sink.taken c.args.out.now) (g.O.Sink.taken c.print_list.new.out) (g.O.Sink.failures c.args.out.now) (g.O.Sink.failures c.print_list.new.out))
    same (c.in-Err.ensures.cut_short (ap Err w)))
    (λ m. subst (λ (b : List ℕ). (told c.print_list.new.out ≡ told c.args.out.now)
    ⊎ TookOne (IsListBeginning c.args.listed.json c.args.listed.device.now after c.args.listed.limit b) (g.O.Sink.taken c.args.out.now) (g.O.Sink.taken c.print_list.new.out) (g.O.Sink.failures c.args.out.now) (g.O.Sink.failures c.print_list.new.out))
    same (⊎_elim (λ u. inl (ap told u)) (λ some. inr some) (c.in-Err.ensures.whole_lines (ap Err m))))

abbrev nobody : Told
nobody = record { bytes = None; failures = 0 }
