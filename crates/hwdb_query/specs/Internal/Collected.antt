-- Our own words: what a page and the last hits of keys are after a list of assignments was taken.
use Rattle.std.specs.Prelude.{List, filter, ◌≡◌, ℕ, Option, option_map, find, reverse}
use Rattle.std.specs.BTreeMap.{BTreeMap, get_by}
use Rattle.std.specs.Borrow.{Bor}
use Rattle.hwdb_spec.specs.Assignment.{Assignment, assignment_cmp, Position, put_all, text_cmp}
use Rattle.std.specs.List.Sorted.{IsStrictlySortedBy}
use Rattle.hwdb_query.specs.declared.next_page.NextPage.{NextPage}
use Rattle.hwdb_query.specs.Internal.Hits.{after_position}
use Rattle.hwdb_spec.specs.Answers.{is_behind, has_key}
use Rattle.hwdb_query.specs.Internal.Lists.{keep_all}
use Rattle.hwdb_query.specs.declared.last_hits.Last.{Last}
use Rattle.hwdb_query.specs.declared.last_hits.LastHits.{LastHits}

-- those of them that come after the position were put in their places, and the least are kept
pub record PageCollects (a : NextPage) (xs : List Assignment) (b : NextPage) : Type 0 where
  pub after : b.after ≡ a.after
  pub most : b.held.most ≡ a.held.most
  pub ascends : IsStrictlySortedBy assignment_cmp a.held.hits → IsStrictlySortedBy assignment_cmp b.held.hits
  pub kept : IsStrictlySortedBy assignment_cmp a.held.hits
      → b.held.hits ≡ keep_all assignment_cmp a.held.most (filter (is_behind (after_position a.after)) xs) a.held.hits

-- the position and the value of a hit
abbrev pub Told : Type 0
Told = Position × List ℕ

abbrev pub told : Assignment → Told
told f = (f.position, f.value)

abbrev pub told_last : List ℕ → Last → Told
told_last key h = (
  record { priority = h.priority; line = h.line; pattern = h.pattern.value.items; key = key },
  h.value.now,
)

-- what a key has
abbrev pub told_at : BTreeMap (Bor (List ℕ)) Last → List ℕ → Option Told
told_at m key = option_map (told_last key) (get_by (λ k. text_cmp key k.now) m)

abbrev pub position_at : BTreeMap (Bor (List ℕ)) Last → List ℕ → Option Position
position_at m key = option_map (λ t. t.0) (told_at m key)

-- the last of some hits with a key
abbrev pub last_with : List ℕ → List Assignment → Option Assignment
last_with key hits = find (has_key key) (reverse hits)

-- each key has the last of the hits with that key
abbrev pub Shows : BTreeMap (Bor (List ℕ)) Last → List Assignment → Type 0
Shows m hits = (key : List ℕ) → told_at m key ≡ option_map told (last_with key hits)

-- what showed the last of some hits shows the last of them and these
unfoldable pub LastCollects : LastHits → List Assignment → LastHits → Type 0
LastCollects a xs b =
    (hits : List Assignment) → IsStrictlySortedBy assignment_cmp hits → Shows a.hits hits → Shows b.hits (put_all assignment_cmp xs hits)
