use Rattle.hwdb_replace.proofs.ComposedLemmas.{fills_by, fills_on}
use Rattle.hwdb_replace.proofs.ReplacementLemmas.{filled_of}
use Rattle.hwdb_replace.proofs.replacement.fill.Goals as goal

pub returns-in_err-set_mode-clause-fills : goal.returns-in_err-set_mode-clause-fills
returns-in_err-set_mode-clause-fills g c =
    let m = c.set_mode.ensures in
    fills_on c.write_all.ensures.fills (fills_by _ _ m.part m.own m.others m.crash m.time)

pub returns-in_err-sync-clause-fills : goal.returns-in_err-sync-clause-fills
returns-in_err-sync-clause-fills g c =
    let m = c.set_mode.ensures in
    let s = c.sync.ensures in
    fills_on (fills_on c.write_all.ensures.fills (fills_by _ _ m.part m.own m.others m.crash m.time))
    (fills_by _ _ s.part s.own (λ t p ne. s.seen t p) (λ p v ne. s.crash p v) s.time)

pub returns-clause-fills : goal.returns-clause-fills
returns-clause-fills g c =
    let m = c.set_mode.ensures in
    let s = c.sync.ensures in
    fills_on (fills_on c.write_all.ensures.fills (fills_by _ _ m.part m.own m.others m.crash m.time))
    (fills_by _ _ s.part s.own (λ t p ne. s.seen t p) (λ p v ne. s.crash p v) s.time)

pub returns-clause-filled : goal.returns-clause-filled
returns-clause-filled g c = λ t p empty.
    let seen = g.S.Store.seen in
    filled_of _ _ _ p _ (seen c.args.store.now) (seen c.write_all.new.store) (seen c.set_mode.new.self) (seen c.sync.new.self)
    c.write_all.ensures.fills.part c.set_mode.ensures.part empty.is empty.seen
    (c.in_ok-write_all.ensures.written t) (c.in_ok-set_mode.ensures.set t) (c.sync.ensures.own_seen t)
