use Rattle.std.proofs.Common.{◌≡◌, ◌∙◌, ap, min, subst, sym}
use Rattle.hwdb_databases.specs.Internal.Trails.{AreAlike}
use Rattle.hwdb_databases.proofs.SpellingLemmas.{kept_spelling}
use Rattle.hwdb_databases.proofs.TrailLemmas.{passed_alike}
use Rattle.hwdb_databases.proofs.abreast.Abreast.keep.Goals as goal

pub returns-clause-abreast : goal.returns-clause-abreast
returns-clause-abreast c =
    let known = c.requires in
    let xs = known.0 in
    let ys = known.1 in
    let are = known.2 in
    let old = c.args.old.now in
    let new = c.args.new.now in
    let common = c.args.self.now.common in
    let least : c.min-self.result ≡ min common (min old.kept new.kept) = c.min-self.ensures ∙ ap (min common) c.min.ensures in
    record {
      alike = subst (λ n. AreAlike n old.segments.items new.segments.items) (sym least)
          (passed_alike common old.kept new.kept xs ys old.segments.items new.segments.items known.3 known.4 are.alike);
      old_read = kept_spelling xs old.segments.items c.cut.new.self (known.3 _ c.cut.ensures.few) (c.cut.ensures.spelling xs are.old_read);
      new_read = kept_spelling ys new.segments.items c.cut-2.new.self (known.4 _ c.cut-2.ensures.few) (c.cut-2.ensures.spelling ys are.new_read);
    }

pub returns-clause-common : goal.returns-clause-common
returns-clause-common c = c.min-self.ensures ∙ ap (min c.args.self.now.common) c.min.ensures
