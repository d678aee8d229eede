-- What the code's rated patterns mean, and their order.
use Rattle.std.specs.Prelude.{ℕ, List, filter, map, not}
use Rattle.std.specs.Cmp.{IsTotalOrder, back_total, nat_cmp_total, on_total, then_total}
use Rattle.std.specs.Cmp.Lexicographic.{nat_list_cmp_total}
use Rattle.std.specs.declared.cmp.Ordering.{Ordering}
use Rattle.std.specs.Ordering.{ordering_then}
use Rattle.hwdb_spec.specs.Assignment.{text_cmp}
use Rattle.hwdb_spec_commands.specs.Near.{PatternAt, Rated, hits, near_cmp, place_cmp, rated}
use Rattle.hwdb_near.specs.declared.found.PatternAt.{PatternAt as At}
use Rattle.hwdb_near.specs.declared.found.Rated.{Rated as Found}
use Rattle.hwdb_near.specs.Views.{pattern_at}

abbrev pub rated_of : Found → Rated
rated_of r = record { missing = r.missing; front = r.front; at = pattern_at r.at }

-- those of some patterns that don't match, each with how near it is
abbrev pub misses : List ℕ → List PatternAt → List Rated
misses device all = map (rated device) (filter (λ at. not (hits device at)) all)

-- those of some patterns that match the device, in the patterns' order
abbrev pub hitting : List ℕ → List PatternAt → List PatternAt
hitting device all = filter (hits device) all

-- the order of two patterns at one place, by their texts and paths
abbrev pub text_order : PatternAt → PatternAt → Ordering
text_order a b = ordering_then (text_cmp a.pattern b.pattern) (text_cmp a.path b.path)

-- the order is one of patterns and their places
pub place_total : IsTotalOrder place_cmp
place_total =
    then_total (on_total (λ (p : PatternAt). p.file) nat_cmp_total)
    (then_total (on_total (λ (p : PatternAt). p.line) nat_cmp_total)
    (then_total (on_total (λ (p : PatternAt). p.pattern) nat_list_cmp_total) (on_total (λ (p : PatternAt). p.path) nat_list_cmp_total)))

pub near_total : IsTotalOrder near_cmp
near_total =
    then_total (on_total (λ (r : Rated). r.missing) nat_cmp_total)
    (then_total (back_total (on_total (λ (r : Rated). r.front) nat_cmp_total)) (on_total (λ (r : Rated). r.at) place_total))

abbrev pub by_place : At → At → Ordering
by_place a b = place_cmp (pattern_at a) (pattern_at b)

pub by_place_total : IsTotalOrder by_place
by_place_total = on_total pattern_at place_total

abbrev pub by_nearness : Found → Found → Ordering
by_nearness a b = near_cmp (rated_of a) (rated_of b)

pub by_nearness_total : IsTotalOrder by_nearness
by_nearness_total = on_total rated_of near_total
