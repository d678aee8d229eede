use Rattle.std.proofs.Common.{◌++◌, arith}
use Rattle.hwdb_spec_commands.specs.DeviceRecords.{up_to_colons}
use Rattle.hwdb_device.proofs.ColonLemmas.{at_end, colon_put, no_more, other_put}
use Rattle.hwdb_device.proofs.lasting.push_up_to.Goals as goal

pub returns-then-missing-eq0 : goal.returns-then-missing-eq0
returns-then-missing-eq0 c =
    no_more c.adding.made.items c.adding.left.now (c.args.made.now.items ++ up_to_colons c.args.colons c.args.text.now) c.adding.missing
    c.if-missing-eq0.true c.adding.invariant

pub adding-preserved-then-byte-eq58 : goal.adding-preserved-then-byte-eq58
adding-preserved-then-byte-eq58 c =
    colon_put c.adding.made.items c.push.new.self.items c.adding.left.now c.in-Some.more.now
    (c.args.made.now.items ++ up_to_colons c.args.colons c.args.text.now) c.in-Some.byte.now c.adding.missing
    c.in-Some.ensures.cases.0 (omega (arith, c.if-missing-eq0.false)) c.if-byte-eq58.true c.in_ok-push.ensures.items c.adding.invariant

pub adding-preserved : goal.adding-preserved
adding-preserved c =
    other_put c.adding.made.items c.push.new.self.items c.adding.left.now c.in-Some.more.now
    (c.args.made.now.items ++ up_to_colons c.args.colons c.args.text.now) c.in-Some.byte.now c.adding.missing
    c.in-Some.ensures.cases.0 (omega (arith, c.if-missing-eq0.false)) c.if-byte-eq58.false c.in_ok-push.ensures.items c.adding.invariant

pub returns : goal.returns
returns c =
    at_end c.adding.made.items c.adding.left.now (c.args.made.now.items ++ up_to_colons c.args.colons c.args.text.now) c.adding.missing
    c.in_default.ensures.cases c.adding.invariant
