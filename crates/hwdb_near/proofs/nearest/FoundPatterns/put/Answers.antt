use Rattle.std.proofs.Common.{◌∙◌, ap, map, sym}
use Rattle.std.proofs.lemmas.List.{map-append}
use Rattle.hwdb_near.specs.Views.{pattern_at}
use Rattle.hwdb_near.specs.Internal.Ratings.{rated_of}
use Rattle.hwdb_near.proofs.NearestLemmas.{hit_put, miss_put}
use Rattle.hwdb_near.proofs.nearest.FoundPatterns.put.Goals as goal

pub returns-then-is_hit-clause-nearest : goal.returns-then-is_hit-clause-nearest
returns-then-is_hit-clause-nearest c =
    hit_put c.args.device.text.now (pattern_at c.args.at) (map rated_of c.args.self.now.nearest.items) (sym c.in_ok-is_hit.ensures ∙ c.if-is_hit.true)

pub returns-clause-nearest : goal.returns-clause-nearest
returns-clause-nearest c =
    miss_put c.args.device.text.now c.args.device.folded.now (pattern_at c.args.at) c.in_ok-near.near.missing c.in_ok-near.near.front (map rated_of c.args.self.now.nearest.items) (map rated_of c.push-2.new.self.items)
    (sym c.in_ok-is_hit.ensures ∙ c.if-is_hit.false) c.requires.folded c.in_ok-near.ensures.missing c.in_ok-near.ensures.front (ap (map rated_of) c.in_ok-push-2.ensures.items ∙ map-append rated_of c.args.self.now.nearest.items _)
