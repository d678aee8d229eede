use Rattle.std.proofs.Common.{◌≡◌, ap, List, ℕ}
use Rattle.hwdb_query.specs.Views.{assignment_of_answer}
use Rattle.hwdb_query.proofs.AllHitsLemmas.{all_taken}
use Rattle.hwdb_query.proofs.all_hits.AllHits.take.Goals as goal

pub returns : goal.returns
returns c =
    let x = assignment_of_answer c.args.found.now in
    let copy : c.in_ok-clone.field-0.value.items ≡ x.position.pattern = ap (λ v. v.items) c.in_ok-clone.ensures.cases in
    all_taken c.args.self.now _ _ _ x c.in_ok-insert.ensures.entries (ap (λ (p : List ℕ). record x { position = record x.position { pattern = p } }) copy)
