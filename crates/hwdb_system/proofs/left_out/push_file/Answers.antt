use Rattle.hwdb_system.proofs.LeftOutLemmas.{caused}
use Rattle.hwdb_system.proofs.left_out.push_file.Goals as goal

pub returns-in_ok-extend_from_slice-in-Some-2 : goal.returns-in_ok-extend_from_slice-in-Some-2
returns-in_ok-extend_from_slice-in-Some-2 c = (
  c.as_bytes.result.now,
  caused c.args.said.now.items c.args.path.now c.as_bytes.result.now _ _ _ c.args.cause c.in-Some.cause c.in-Some.is
      c.in_ok-push_name.ensures c.in_ok-extend_from_slice-in-Some.ensures.items c.in_ok-extend_from_slice-in-Some-2.ensures.items,
)
