use Rattle.std.proofs.Common.{◌∙◌, ap, sym, codes}
use Rattle.hwdb_spec_commands.specs.DeviceRecords.{begins, from_first}
use Rattle.hwdb_device.proofs.ColonLemmas.{from_end, from_here, from_later}
use Rattle.hwdb_device.proofs.lasting.from_vendor.Goals as goal

pub returns-then-starts_with : goal.returns-then-starts_with
returns-then-starts_with c =
    sym (from_here (codes ":svn") c.looking.left.now (sym c.starts_with.ensures.value ∙ c.if-starts_with.true)) ∙ c.looking.invariant

pub looking-preserved : goal.looking-preserved
looking-preserved c =
    sym (from_later (codes ":svn") c.in-Some.more.now c.in-Some._first.now
    (ap (begins (codes ":svn")) (sym c.in-Some.ensures.cases.0) ∙ sym c.starts_with.ensures.value ∙ c.if-starts_with.false))
    ∙ ap (from_first (codes ":svn")) (sym c.in-Some.ensures.cases.0) ∙ c.looking.invariant

pub returns : goal.returns
returns c = sym (from_end (codes ":svn") c.looking.left.now c.in_default.ensures.cases) ∙ c.looking.invariant
