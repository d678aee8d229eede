use Rattle.std.proofs.Common.{◌≡◌, ◌∙◌, ap, sym, refl}
use Rattle.hwdb_spec.specs.Assignment.{put_all}
use Rattle.hwdb_spec.specs.Answers.{is_after}
use Rattle.hwdb_query.specs.Views.{assignment_of_answer}
use Rattle.hwdb_query.specs.Internal.Collected.{position_at, LastCollects}
use Rattle.hwdb_query.proofs.ByKeyLemmas.{left_there, put_there, inserted_at}
use Rattle.hwdb_query.proofs.last_hits.LastHits.take.Goals as goal

pub returns-in_ok-insert : goal.returns-in_ok-insert
unfolding LastCollects put_all
returns-in_ok-insert c =
    let x = assignment_of_answer c.args.found.now in
    let key = c.args.found.now.key in
    let m = c.args.self.now.hits in
    let seen = c.deref-2.ensures.value ∙ ap (λ v. v.items) c.deref.ensures in
    let late : is_after (position_at m key.now) x.position ≡ _ =
    ap (λ p. is_after (position_at m key.now) (record x.position { pattern = p })) (sym seen) ∙ sym c.is_last.ensures ∙ c.if-is_last.true in
    let copy = ap (λ v. v.items) c.in_ok-clone.ensures.cases in
    let same = ap (λ p. (record x.position { pattern = p }, x.value)) copy in
    λ hits up shows. put_there m c.insert.new.self hits x up shows late
    (λ q. inserted_at m c.insert.new.self x key _ q refl same (c.in_ok-insert.ensures.updates.0 (record key { now = q })))

pub returns-else-is_last : goal.returns-else-is_last
unfolding LastCollects put_all
returns-else-is_last c =
    let x = assignment_of_answer c.args.found.now in
    let key = c.args.found.now.key in
    let m = c.args.self.now.hits in
    let seen = c.deref-2.ensures.value ∙ ap (λ v. v.items) c.deref.ensures in
    let early : is_after (position_at m key.now) x.position ≡ _ =
    ap (λ p. is_after (position_at m key.now) (record x.position { pattern = p })) (sym seen) ∙ sym c.is_last.ensures ∙ c.if-is_last.false in
    λ hits up shows. left_there m hits x up shows early
