use Rattle.std.proofs.Common.{⊎_elim, inl, inr, sym, ◌∙◌}
use Rattle.hwdb_spec.specs.Store.{database_name}
use Rattle.hwdb_replace.proofs.MakingLemmas.{made_under, touched_under}
use Rattle.hwdb_replace.proofs.ReplacementLemmas.{left_behind, removed, synced, unmade, was_put}
use Rattle.hwdb_replace.proofs.replacement.exchange.Goals as goal

pub settle-requires-clause-own : goal.settle-requires-clause-own
settle-requires-clause-own g c = (made_under c.as_str.ensures.value c.in_ok-part.ensures.makes).own

pub settle-requires-clause-empty : goal.settle-requires-clause-empty
settle-requires-clause-empty g c = (made_under c.as_str.ensures.value c.in_ok-part.ensures.makes).empty

pub returns-in_err-part-clause-leaves : goal.returns-in_err-part-clause-leaves
returns-in_err-part-clause-leaves g c = λ t.
    unmade g.S.Store c.args.folder.now c.args.bytes.now c.args.store.now c.make.new.store c.from_residual.result
    c.in_err-part.field-0.0 c.from_residual.ensures.1 c.in_err-part.ensures.makes

pub returns-in-Ok-sync_folder-clause-leaves : goal.returns-in-Ok-sync_folder-clause-leaves
returns-in-Ok-sync_folder-clause-leaves g c = λ t.
    let makes = made_under c.as_str.ensures.value c.in_ok-part.ensures.makes in
    let settles = c.in-Ok.ensures.leaves t in
    let e = c.in-Ok-sync_folder.ensures in
    record {
      durable = λ tells v left. e.durable tells database_name settles.whole v left ∙ settles.there;
      last = λ v left. ⊎_elim (λ is. inl (is ∙ settles.there)) (λ theirs. inr theirs) (e.last t database_name settles.whole v left);
      put = was_put makes g.met.S.Store.from_now g.met.S.Store.earlier settles e.time;
      step = synced makes settles e.seen e.crash e.time;
    }

pub returns-in-Err-sync_folder-clause-leaves : goal.returns-in-Err-sync_folder-clause-leaves
returns-in-Err-sync_folder-clause-leaves g c = λ t.
    let e = c.in-Err-sync_folder.ensures in
    synced (made_under c.as_str.ensures.value c.in_ok-part.ensures.makes) (c.in-Ok.ensures.leaves t) e.seen e.crash e.time

pub returns-in-Ok-remove-clause-leaves : goal.returns-in-Ok-remove-clause-leaves
returns-in-Ok-remove-clause-leaves g c = λ t.
    let e = c.in-Ok-remove.ensures in
    let same = c.as_str-in-Err.ensures.value in
    removed (made_under same c.in_ok-part.ensures.makes)
    (touched_under c.args.folder.now (same ∙ sym c.as_str.ensures.value) (c.in-Err.ensures.leaves t)) e.seen e.crash e.time

pub returns-in-Err-remove-clause-leaves : goal.returns-in-Err-remove-clause-leaves
returns-in-Err-remove-clause-leaves g c = λ t.
    let e = c.in-Err-remove.ensures in
    let same = c.as_str-in-Err.ensures.value in
    left_behind (made_under same c.in_ok-part.ensures.makes)
    (touched_under c.args.folder.now (same ∙ sym c.as_str.ensures.value) (c.in-Err.ensures.leaves t)) e.seen e.crash e.time
