use Rattle.std.proofs.Common.{Global, List, Vec, map, refl, ap, ◌∙◌, ℕ}
use Rattle.hwdb_spec.specs.Assignment.{put, text_cmp}
use Rattle.hwdb_sysfs.proofs.names.add_name.Goals as goal
use Rattle.hwdb_sysfs.specs.Lemmas.Names.{name_put}

pub returns : goal.returns
returns c =
    let items = λ (v : Vec ℕ Global). v.items in
    ap (map items) c.in_ok-insert.ensures.keys ∙ name_put _ (λ a b. refl) c.args.names.now.keys c.in_ok-name.name
    ∙ ap (λ (t : List ℕ). put text_cmp t (map items c.args.names.now.keys)) c.in_ok-name.ensures.items
