use Rattle.hwdb_lookup.proofs.files.WindowLemmas.{window_added}
use Rattle.hwdb_lookup.proofs.files.windows.ReadWindows.push.Goals as goal

pub returns : goal.returns
returns c = record {
  of = λ file part of.
      window_added file c.args.window.now c.args.place c.args.self.now _ c.requires c.in_ok-extend_from_slice.ensures.items c.in_ok-push.ensures.items part of;
  place = c.in_ok-push.ensures.items;
}
