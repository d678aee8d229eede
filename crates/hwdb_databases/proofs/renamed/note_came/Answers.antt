use Rattle.std.proofs.Common.{◌≡◌, ◌∙◌, ap, cond, option_map, subst, sym, Bool, List, None, Option, Some, ℕ}
use Rattle.std.specs.BTreeMap.{get_by}
use Rattle.hwdb_spec.specs.Assignment.{text_cmp}
use Rattle.hwdb_spec.specs.Folders.{same}
use Rattle.hwdb_databases.specs.Internal.Renaming.{Known, at, shown}
use Rattle.hwdb_databases.specs.declared.renamed.Moved.{Moved}
use Rattle.hwdb_databases.proofs.RenamedLemmas.{came_noted, none_came}
use Rattle.hwdb_databases.proofs.renamed.note_came.Goals as goal

pub returns-in_default : goal.returns-in_default
returns-in_default c = none_came c.args.moves.now (shown c.args.group.now) (sym c.args.group.now.came_is ∙ ap (option_map (λ v. v.items)) c.in_default.is)

pub returns : goal.returns
returns c =
    let m = c.args.moves.now in
    let g = shown c.args.group.now in
    let own = c.in-Some.text.items in
    let before = c.moved_at-before.result in
    let k = c.as_slice-2.result in
    let w : Moved = record { came = Some c.args.group.now.changes; went = before.went } in
    let P : List ℕ → Type 0 = λ t. (q : List ℕ) → get_by (λ j. text_cmp q j.now) c.insert.new.self ≡ cond (same t q) (Some w) (get_by (λ j. text_cmp q j.now) m) in
    came_noted m c.insert.new.self g own w (sym c.args.group.now.came_is ∙ ap (option_map (λ v. v.items)) c.in-Some.is)
    (ap (λ (b : Bool). (Some g, b)) (ap (λ (known : Known). known.1) c.moved_at-before.ensures ∙ ap (λ (t : List ℕ). (at m t).1) c.as_slice.ensures.value))
    (subst P c.as_slice-2.ensures.value (λ q. c.in_ok-insert.ensures.updates.0 (record k { now = q })))
