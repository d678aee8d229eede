use Rattle.std.proofs.Common.{refl}
use Rattle.hwdb_databases.proofs.meeting.pass_over.Goals as goal

pub returns-in_ok-pass-in-Old-clause-old_kept : goal.returns-in_ok-pass-in-Old-clause-old_kept
returns-in_ok-pass-in-Old-clause-old_kept c = c.in_ok-pass-in-Old.ensures.kept

pub returns-in_ok-pass-in-Old-clause-new_kept : goal.returns-in_ok-pass-in-Old-clause-new_kept
returns-in_ok-pass-in-Old-clause-new_kept c n small = refl

pub returns-in_ok-pass-in-New-clause-old_kept : goal.returns-in_ok-pass-in-New-clause-old_kept
returns-in_ok-pass-in-New-clause-old_kept c n small = refl

pub returns-in_ok-pass-in-New-clause-new_kept : goal.returns-in_ok-pass-in-New-clause-new_kept
returns-in_ok-pass-in-New-clause-new_kept c = c.in_ok-pass-in-New.ensures.kept

pub returns-in_ok-pass-in-Both-2-clause-old_kept : goal.returns-in_ok-pass-in-Both-2-clause-old_kept
returns-in_ok-pass-in-Both-2-clause-old_kept c = c.in_ok-pass-in-Both.ensures.kept

pub returns-in_ok-pass-in-Both-2-clause-new_kept : goal.returns-in_ok-pass-in-Both-2-clause-new_kept
returns-in_ok-pass-in-Both-2-clause-new_kept c = c.in_ok-pass-in-Both-2.ensures.kept
