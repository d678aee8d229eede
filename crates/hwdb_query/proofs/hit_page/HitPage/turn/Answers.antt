use Rattle.std.proofs.Common.{ap, ◌∙◌, reverse}
use Rattle.hwdb_query.specs.Views.{Page, assignments_of_hits}
use Rattle.hwdb_query.proofs.PlaceLemmas.{founds_reverse}
use Rattle.hwdb_query.proofs.hit_page.HitPage.turn.Goals as goal

pub returns : goal.returns
returns c =
    let hits = ap assignments_of_hits c.reverse.ensures.items ∙ founds_reverse c.self.inside.hits.items ∙ ap (λ (p : Page). reverse p.hits) c.self.view_is in
    let most = ap (λ (p : Page). p.most) c.self.view_is in
    λ i. record { hits = hits i; most = most i }
