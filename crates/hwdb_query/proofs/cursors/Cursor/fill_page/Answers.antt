use Rattle.std.proofs.Common.{◌≡◌, ◌∙◌, ap, sym, refl, subst, ℕ, List, [], ◌∷◌, length, reverse, take, Option, Some, Bool, false, arith}
use Rattle.hwdb_spec.specs.Tree.{Tree, answers_after}
use Rattle.hwdb_reader.specs.Views.{tree_of}
use Rattle.hwdb_query.specs.declared.position.Position.{Position as OwnedPosition}
use Rattle.hwdb_spec.specs.Assignment.{Position, Assignment}
use Rattle.hwdb_query.specs.Internal.Hits.{IsFirst, after_position}
use Rattle.hwdb_query.specs.Views.{Progress, position_value, next_position, still_to_come}
use Rattle.hwdb_query.proofs.ResumeLemmas.{page_left}
use Rattle.hwdb_query.proofs.cursors.Cursor.fill_page.Goals as goal
use Rattle.hwdb_query.proofs.cursors.Cursor.fill_page.Goals.{in-None, in-Some, in-Some-1, in-None-1}

none_held : (hits : List Assignment) → length hits ≡ 0 → hits ≡ []
none_held [] h = refl
none_held (x ∷ hits) h = absurd (omega arith)

-- the page that was taken, and what it left, are what was to come
page_taken : (device : List ℕ) (before after : Option Position) (t : Tree) (ended : Bool) (old new : List Assignment) (page : ℕ) (last : Option OwnedPosition) (p : OwnedPosition) (to_come : List Assignment)
    → still_to_come device before t ended old ≡ to_come → ended ≡ false → length old ≡ 0 → after ≡ before → new ≡ reverse (take page (answers_after device after t))
    → IsFirst new last → last ≡ Some p → still_to_come device (Some (position_value p)) t ended new ≡ to_come
page_taken device before after t ended old new page last p to_come is opened empty same hits first l =
    let none : old ≡ [] = none_held old empty in
    let A : answers_after device before t ≡ to_come = ap (λ h. still_to_come device before t false h) (sym none) ∙ ap (λ e. still_to_come device before t e old) (sym opened) ∙ is in
    ap (λ e. still_to_come device (Some (position_value p)) t e new) opened
    ∙ page_left page device after t new last hits first p l ∙ ap (λ s. answers_after device s t) same ∙ A

pub returns-in-Some-last-clause-to_come : goal.returns-in-Some-last-clause-to_come
returns-in-Some-last-clause-to_come c =
    let inside = c.self.inside in
    let device = inside.device.now in
    let tree = tree_of inside.root in
    let same : after_position c.match-self.after ≡ next_position inside.after =
    elim c.match-self.branch [
      | in-None w ↦ ap after_position w.after-is ∙ sym (ap next_position w.in-None.is)
      | in-Some w ↦ ap after_position w.after-is ∙ ap (λ (s : Position). Some s) w.parts.ensures ∙ sym (ap next_position w.in-Some.is)
    ] in
    let is = ap (λ (p : Progress). p.to_come) c.self.view_is in
    let opened = ap (λ (p : Progress). p.ended) c.self.view_is ∙ c.requires.open in
    let empty = ap (λ (p : Progress). p.held) c.self.view_is ∙ c.requires.empty in
    let taken = page_taken device (next_position inside.after) (after_position c.match-self.after) tree inside.ended inside.held.hits c.fill.new.held.hits inside.held.most (Some c.in-Some-last.position)
    c.in-Some-last.position c.args.self.now.to_come is opened empty same c.in_ok-last.ensures.hits
    (subst (IsFirst c.fill.new.held.hits) c.in-Some-last.is c.in_ok-last.ensures.last) refl in
    elim c.match-self-2.branch [
      | in-Some-1 w ↦ ap (λ (p : Progress). p.to_come) w.self-is ∙ taken
      | in-None-1 w ↦ ap (λ (p : Progress). p.to_come) w.self-is ∙ taken
    ]
