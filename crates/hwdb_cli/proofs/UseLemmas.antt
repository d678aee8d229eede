-- What the rows have of an argument that takes one value and has no default, if the words are taken.
use Rattle.std.proofs.Common.{◌≡◌, ◌∙◌, ◌<◌, ◌+◌, ◌&&◌, ◌||◌, ℕ, Bool, true, false, not, cond, refl, sym, ap, subst, arith, List, [], ◌∷◌, ◌++◌, length, min, Option, Some, None, is_some, true≢false}
use Rattle.std.specs.Prelude.{option_and_then, option_map, slice_get, unwrap_or}
use Rattle.std.specs.List.{find, fold, list_all, list_any}
use Rattle.std.specs.Option.{option_map_or}
use Rattle.std.specs.Str.{bytes_eq}
use Rattle.std.proofs.lemmas.Slice.Eq.{bytes_eq-Decides}
use Rattle.clap.specs.Facts.{explicit_source, parser_of_value, unwrap_or_range}
use Rattle.clap.specs.Values.{read_as, refused_kind}
use Rattle.clap.specs.ValueTests.{accepts}
use Rattle.clap.specs.Kinds.{check_kinds, range_kinds, values_kinds, value_kinds}
use Rattle.clap.specs.Faults.{action_fault, check_fault, level_fault, repeat_fault, settle_fault, use_fault, values_fault, walk_fault}
use Rattle.clap.specs.Takes.{is_given, value_passes, values_pass}
use Rattle.clap.specs.Walk.{Row, Rule, Text, action_of, at_row, count_of, counted, default_rows, first_of, has_row, more_values, most_values, new_count, nothing_held, one_of, reading_by, row_text, rows_after, used, used_as, values_or_missing, walk, walk_from, with_count, with_default, with_values, without}
use Rattle.clap.specs.Simple.{Shape}
use Rattle.clap.specs.declared.builder.action.ArgAction.{ArgAction}
use Rattle.clap.specs.declared.builder.action.ArgAction.TheVariants as action
use Rattle.clap.specs.declared.builder.value_parser.Reading.{Reading}
use Rattle.clap.specs.declared.parser.matches.ValueSource.{ValueSource}
use Rattle.clap.specs.declared.parser.matches.ValueSource.TheVariants.{DefaultValue, CommandLine}
use Rattle.clap.proofs.WalkLemmas.{both}
use Rattle.hwdb_cli.proofs.WalkLemmas.{none_of_both, settle_keeps, walk_keeps}

-- ---- lists

abbrev pub Each : {X : Type 0} → (X → Type 0) → List X → Type 0
Each P [] = Unit {0}
Each P (x ∷ xs) = P x × Each P xs

pub each_joined : {X : Type 0} (P : X → Type 0) (xs ys : List X) → Each P xs → Each P ys → Each P (xs ++ ys)
each_joined P [] ys a b = b
each_joined P (x ∷ xs) ys a b = (a.0, each_joined P xs ys a.1 b)

-- what is found passes the test, and is one of the list
pub found_each : {X : Type 0} (P : X → Type 0) (p : X → Bool) (xs : List X) (x : X) → find p xs ≡ Some x → Each P xs → (p x ≡ true) × P x
found_each P p [] x at each = cc
found_each P p (y ∷ ys) x at each = go (p y) refl at (λ later. found_each P p ys x later each.1)
  where
    go : (b : Bool) → p y ≡ b → cond b (Some y) (find p ys) ≡ Some x → (find p ys ≡ Some x → (p x ≡ true) × P x) → (p x ≡ true) × P x
    go true is at rest =
        let same : y ≡ x = ap (λ o. unwrap_or o y) at in
        (subst (λ z. p z ≡ true) same is, subst P same each.0)
    go false is at rest = rest at

pub same_id : (a b : Text) → bytes_eq a b ≡ true → a ≡ b
same_id a b e = (bytes_eq-Decides a b).0 e

-- ---- values

accepted : (i : Bool) (p : _) (vs : List Text) → values_kinds i p vs ≡ [] → list_all (accepts i p) vs ≡ true
accepted i p [] e = refl
accepted i p (v ∷ vs) e =
    let two = none_of_both (value_kinds i p v) _ e in
    go (accepts i p v) two.0 (accepted i p vs two.1)
  where
    go : (b : Bool) → cond b [] (refused_kind p ∷ []) ≡ [] → list_all (accepts i p) vs ≡ true → (b && list_all (accepts i p) vs) ≡ true
    go true none rest = rest
    go false none rest = cc

all_joined : (p : Text → Bool) (xs ys : List Text) → list_all p xs ≡ true → list_all p ys ≡ true → list_all p (xs ++ ys) ≡ true
all_joined p [] ys a b = b
all_joined p (x ∷ xs) ys a b =
    let two = both (p x) _ a in
    rw two.0 (all_joined p xs ys two.1 b)

longer : (xs ys : List Text) → 0 < length xs → 0 < length (xs ++ ys)
longer [] ys lt = absurd (omega arith)
longer (x ∷ xs) ys lt = omega arith

-- ---- the rows of one argument

-- the values are some that the argument takes, to be read as it says
pub record Fits (a : Rule) (how : Reading) (values : List Text) : Type 0 where
  pub some : 0 < length values
  pub pass : values_pass a values ≡ true
  pub read : how ≡ reading_by a

-- a row of this argument has such values
abbrev pub RowFits : Rule → Row → Type 0
RowFits a r = r.id ≡ a.id → Fits a r.reading r.values

-- a use sets the argument's values, or adds to them
abbrev pub keeps_values : ArgAction → Bool
keeps_values action.Set = true
keeps_values action.Append = true
keeps_values _ = false

-- among the rules the argument has its id for itself, takes one value or more, and has no default
pub record StandsAlone (rules : List Rule) (a : Rule) : Type 0 where
  pub alone : Each (λ b. b.id ≡ a.id → b ≡ a) rules
  pub set : keeps_values (action_of a) ≡ true
  pub defaults : a.defaults ≡ []
  pub some : range_kinds (unwrap_or_range a.range).start_inclusive (most_values a) 0 ≡ [] → ⊥

at_row_each : (P : Row → Type 0) (id : Text) (change : Row → List Row) (missing rows : List Row) → ((r : Row) → r.id ≡ id → P r → Each P (change r))
    → Each P missing → Each P rows → Each P (at_row id change missing rows)
at_row_each P id change missing [] turned none each = none
at_row_each P id change missing (r ∷ rs) turned none each = go (bytes_eq r.id id) refl (at_row_each P id change missing rs turned none each.1)
  where
    go : (b : Bool) → bytes_eq r.id id ≡ b → Each P (at_row id change missing rs) → Each P (cond b (change r ++ rs) (r ∷ at_row id change missing rs))
    go true is rest = each_joined P (change r) rs (turned r (same_id r.id id is) each.0) each.1
    go false is rest = (each.0, rest)

module _ (a : Rule) where
  without_each : (id : Text) (rows : List Row) → Each (RowFits a) rows → Each (RowFits a) (without id rows)
  without_each id rows each = at_row_each (RowFits a) id (λ _. []) [] rows (λ r is fits. tt) tt each

  with_values_each : (id : Text) (how : Reading) (source : ValueSource) (values : List Text) (rows : List Row) → (id ≡ a.id → Fits a how values)
      → Each (RowFits a) rows → Each (RowFits a) (with_values id how source values rows)
  with_values_each id how source values rows given each = at_row_each (RowFits a) id (more_values source values) _ rows
      (λ r is fits. (
        λ own.
            let old = fits own in
            let new = given (sym is ∙ own) in
            record {
              some = longer r.values values old.some;
              pass = all_joined (value_passes a) r.values values old.pass new.pass;
              read = old.read;
            },
        tt,
      )) (λ own. given own, tt) each

  with_count_each : (id : Text) (how : Reading) (source : ValueSource) (n : ℕ) (rows : List Row) → (id ≡ a.id → ⊥)
      → Each (RowFits a) rows → Each (RowFits a) (with_count id how source n rows)
  with_count_each id how source n rows other each = at_row_each (RowFits a) id (new_count source n) _ rows
      (λ r is fits. (λ own. absurd (other (sym is ∙ own)), tt)) (λ own. absurd (other own), tt) each

  counted_each : (id : Text) (how : Reading) (values : List Text) (rows : List Row) → (id ≡ a.id → ⊥) → Each (RowFits a) rows
      → Each (RowFits a) (counted id how values rows)
  counted_each id how [] rows other each = with_count_each id how CommandLine (min (count_of id rows + 1) 255) (without id rows) other (without_each id rows each)
  counted_each id how (v ∷ vs) rows other each = with_values_each id how CommandLine (v ∷ vs) (without id rows) (λ own. absurd (other own)) (without_each id rows each)

  used_as_each : (x : ArgAction) (id : Text) (how : Reading) (values : List Text) (rows : List Row) → (id ≡ a.id → (keeps_values x ≡ true) × Fits a how values)
      → Each (RowFits a) rows → Each (RowFits a) (used_as x id how values rows)
  used_as_each action.Set id how values rows given each = with_values_each id how CommandLine values (without id rows) (λ own. (given own).1) (without_each id rows each)
  used_as_each action.SetTrue id how values rows given each = with_values_each id how CommandLine values (without id rows) (λ own. (given own).1) (without_each id rows each)
  used_as_each action.SetFalse id how values rows given each = with_values_each id how CommandLine values (without id rows) (λ own. (given own).1) (without_each id rows each)
  used_as_each action.Append id how values rows given each = with_values_each id how CommandLine values rows (λ own. (given own).1) each
  used_as_each action.Count id how values rows given each =
      counted_each id how values rows (λ own. let bad : false ≡ true = (given own).0 in cc) each
  used_as_each action.Help id how values rows given each = each
  used_as_each action.HelpShort id how values rows given each = each
  used_as_each action.HelpLong id how values rows given each = each
  used_as_each action.Version id how values rows given each = each

  -- what such a use has passes
  values_kept : (x : ArgAction) (again : Bool) (values : List Text) (rows : List Row) → keeps_values x ≡ true → action_fault x again a values rows ≡ [] → values_fault a values ≡ []
  values_kept action.Set again values rows keeps e = (none_of_both (repeat_fault again a.id rows) _ e).1
  values_kept action.Append again values rows keeps e = e
  values_kept action.SetTrue again values rows keeps e = cc
  values_kept action.SetFalse again values rows keeps e = cc
  values_kept action.Count again values rows keeps e = cc
  values_kept action.Help again values rows keeps e = cc
  values_kept action.HelpShort again values rows keeps e = cc
  values_kept action.HelpLong again values rows keeps e = cc
  values_kept action.Version again values rows keeps e = cc

  -- a use that passes has values that fit
  own_fits : (again : Bool) (values : List Text) (rows : List Row) → keeps_values (action_of a) ≡ true
      → (range_kinds (unwrap_or_range a.range).start_inclusive (most_values a) 0 ≡ [] → ⊥) → use_fault again a values rows ≡ []
      → Fits a (reading_by a) (values_or_missing a values)
  own_fits again [] rows set some e = absurd (some (none_of_both (range_kinds (unwrap_or_range a.range).start_inclusive (most_values a) 0) _ e).0)
  own_fits again (v ∷ vs) rows set some e =
      let acts = (none_of_both (range_kinds (unwrap_or_range a.range).start_inclusive (most_values a) (length (v ∷ vs))) _ e).1 in
      record {
        some = omega arith;
        pass = accepted a.ignore_case (parser_of_value a.parser) (v ∷ vs) (values_kept (action_of a) again (v ∷ vs) rows set acts);
        read = refl;
      }

  used_each : (rules : List Rule) → StandsAlone rules a → (again : Bool) (p : Rule → Bool) (b : Rule) (values : List Text) (rows : List Row) → find p rules ≡ Some b
      → Each (RowFits a) rows → use_fault again b values rows ≡ [] → Each (RowFits a) (used b values rows)
  used_each rules stands again p b values rows at each e =
      let is : b.id ≡ a.id → b ≡ a = (found_each (λ x. x.id ≡ a.id → x ≡ a) p rules b at stands.alone).1 in
      used_as_each (action_of b) b.id (reading_by b) (values_or_missing b values) rows
      (λ own.
      let same : a ≡ b = sym (is own) in
      subst (λ (x : Rule). (keeps_values (action_of x) ≡ true) × Fits a (reading_by x) (values_or_missing x values)) same
      (stands.set, own_fits again values rows stands.set stands.some (subst (λ (x : Rule). use_fault again x values rows ≡ []) (is own) e)))
      each

  default_each : (b : Rule) (rows : List Row) → (b.id ≡ a.id → b.defaults ≡ []) → Each (RowFits a) rows → Each (RowFits a) (with_default rows b)
  default_each b rows none each = go (has_row b.id rows)
    where
      turn : (vs : List Text) → (b.id ≡ a.id → vs ≡ []) → Each (RowFits a) (default_rows b.id (reading_by b) vs rows)
      turn [] is = each
      turn (v ∷ vs) is = with_values_each b.id (reading_by b) DefaultValue (v ∷ vs) rows (λ own. let bad : v ∷ vs ≡ [] = is own in cc) each

      go : (t : Bool) → Each (RowFits a) (cond t rows (default_rows b.id (reading_by b) b.defaults rows))
      go true = each
      go false = turn b.defaults none

  defaults_each : (rules : List Rule) (rows : List Row) → a.defaults ≡ [] → Each (λ b. b.id ≡ a.id → b ≡ a) rules → Each (RowFits a) rows
      → Each (RowFits a) (fold with_default rows rules)
  defaults_each [] rows none alone each = each
  defaults_each (b ∷ bs) rows none alone each =
      defaults_each bs (with_default rows b) none alone.1 (default_each b rows (λ own. ap (λ (x : Rule). x.defaults) (alone.0 own) ∙ none) each)

-- ---- a command with no subcommand

-- the steps of a level that find no fault
pub record Passes (s : Shape) (words : List Text) : Type 0 where
  pub steps : walk_fault s [] (walk_from nothing_held) words ≡ []
  pub settles : settle_fault s.rules s.args_override_self (walk s.rules [] nothing_held words).held ≡ []
  pub checks : check_fault s (rows_after s.rules [] words) false ≡ []

pub passes : (s : Shape) (words : List Text) → level_fault s [] nothing_held words false [] ≡ [] → Passes s words
passes s words e =
    let one = none_of_both (walk_fault s [] (walk_from nothing_held) words) _ e in
    let two = none_of_both (settle_fault s.rules s.args_override_self (walk s.rules [] nothing_held words).held) _ one.1 in
    let three = none_of_both _ (check_fault s (rows_after s.rules [] words) false) two.1 in
    record { steps = one.0; settles = two.0; checks = three.1 }

pub rows_fit : (s : Shape) (words : List Text) (a : Rule) → StandsAlone s.rules a → level_fault s [] nothing_held words false [] ≡ []
    → Each (RowFits a) (rows_after s.rules [] words)
rows_fit s words a stands e =
    let pass = passes s words e in
    let kept = used_each a s.rules stands s.args_override_self in
    let walked = walk_keeps s (Each (RowFits a)) kept [] (walk_from nothing_held) words tt pass.steps in
    defaults_each a s.rules _ stands.defaults stands.alone (settle_keeps s (Each (RowFits a)) kept (walk s.rules [] nothing_held words).held walked pass.settles)

-- a row that fits has a first value, which its argument takes
first_fits : (a : Rule) (r : Row) → Fits a r.reading r.values → (v : Text) × (slice_get r.values 0 ≡ Some v) × (value_passes a v ≡ true) × (r.reading ≡ reading_by a)
first_fits a r fits = go r.values fits.some fits.pass
  where
    go : (vs : List Text) → 0 < length vs → values_pass a vs ≡ true → (v : Text) × (slice_get vs 0 ≡ Some v) × (value_passes a v ≡ true) × (r.reading ≡ reading_by a)
    go [] lt pass = absurd (omega arith)
    go (v ∷ vs) lt pass = (v, refl, (both (value_passes a v) _ pass).0, fits.read)

row_found : (a : Rule) (rows : List Row) (r : Row) → find (λ x. bytes_eq x.id a.id) rows ≡ Some r → Each (RowFits a) rows → Fits a r.reading r.values
row_found a rows r at each =
    let found = found_each (RowFits a) (λ x. bytes_eq x.id a.id) rows r at each in
    found.1 (same_id r.id a.id found.0)

-- an argument that was given has a first value
pub given_value : (a : Rule) (rows : List Row) → Each (RowFits a) rows → is_given a.id rows ≡ true → is_some (first_of a.id rows) ≡ true
given_value a rows each given = go (find (λ r. bytes_eq r.id a.id) rows) refl given
  where
    go : (o : Option Row) → find (λ r. bytes_eq r.id a.id) rows ≡ o → option_map_or (λ r. explicit_source r.source) o false ≡ true
        → is_some (option_and_then (λ r. slice_get r.values 0) o) ≡ true
    go None at e = absurd (true≢false (sym e))
    go (Some r) at e = ap is_some (first_fits a r (row_found a rows r at each)).1

-- the text that is read of an argument is a value that it takes, read as it says
pub text_read : (a : Rule) (rows : List Row) (t : Text) → Each (RowFits a) rows → one_of a.id rows ≡ Some t
    → (v : Text) × (value_passes a v ≡ true) × (t ≡ read_as (reading_by a) v)
text_read a rows t each one = go (find (λ r. bytes_eq r.id a.id) rows) refl one
  where
    go : (o : Option Row) → find (λ r. bytes_eq r.id a.id) rows ≡ o → option_and_then row_text o ≡ Some t
        → (v : Text) × (value_passes a v ≡ true) × (t ≡ read_as (reading_by a) v)
    go None at e = cc
    go (Some r) at e =
        let fit = first_fits a r (row_found a rows r at each) in
        let is : Some t ≡ Some (read_as (reading_by a) fit.0) =
        sym e ∙ ap (option_map (read_as r.reading)) fit.1 ∙ ap (λ (how : Reading). Some (read_as how fit.0)) fit.3 in
        (fit.0, fit.2, ap (λ (o : Option Text). option_map_or (λ z. z) o t) is)

-- ---- what is required

none_missing : (rules : List Rule) (rows : List Row) → list_any (λ a. a.required && not (is_given a.id rows)) rules ≡ false
    → Each (λ a. a.required ≡ true → is_given a.id rows ≡ true) rules
none_missing [] rows e = tt
none_missing (a ∷ more) rows e = go a.required (is_given a.id rows) e (none_missing more rows)
  where
    go : (x y : Bool) → ((x && not y) || list_any (λ b. b.required && not (is_given b.id rows)) more) ≡ false
        → (list_any (λ b. b.required && not (is_given b.id rows)) more ≡ false → Each (λ b. b.required ≡ true → is_given b.id rows ≡ true) more)
        → (x ≡ true → y ≡ true) × Each (λ b. b.required ≡ true → is_given b.id rows ≡ true) more
    go true true e rest = (λ is. refl, rest e)
    go true false e rest = absurd (true≢false e)
    go false y e rest = (λ is. absurd (true≢false (sym is)), rest e)

nothing_asked : (x y z : Bool) → check_kinds x y z ≡ [] → z ≡ false
nothing_asked true y z e = cc
nothing_asked false true z e = cc
nothing_asked false false true e = cc
nothing_asked false false false e = refl

-- a required argument has a value
pub required_value : (s : Shape) (words : List Text) (a : Rule) (p : Rule → Bool) → StandsAlone s.rules a → find p s.rules ≡ Some a → a.required ≡ true
    → s.subcommand_negates_reqs ≡ false → level_fault s [] nothing_held words false [] ≡ [] → is_some (first_of a.id (rows_after s.rules [] words)) ≡ true
required_value s words a p stands at required negates e =
    let rows = rows_after s.rules [] words in
    let none : (not (s.subcommand_negates_reqs && false) && list_any (λ b. b.required && not (is_given b.id rows)) s.rules) ≡ false =
    nothing_asked _ _ _ (passes s words e).checks in
    let each = none_missing s.rules rows (rw negates at none) in
    given_value a rows (rows_fit s words a stands e) ((found_each (λ b. b.required ≡ true → is_given b.id rows ≡ true) p s.rules a at each).1 required)
