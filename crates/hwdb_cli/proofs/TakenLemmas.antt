-- What is found of words that the command takes: one of its commands, with each argument that this one needs.
use Rattle.std.proofs.Common.{arith, length, ◌≡◌, ◌∙◌, ◌⊎◌, ◌||◌, ◌&&◌, ◌++◌, Bool, true, false, not, cond, refl, sym, ap, subst, inl, inr, List, [], ◌∷◌, drop, get_or, map, Option, Some, None, is_some, codes, true≢false}
use Rattle.std.specs.Prelude.{IfSome, if◌then◌else◌, option_map}
use Rattle.std.specs.List.{find, list_all}
use Rattle.std.specs.Option.{option_map_or}
use Rattle.std.specs.Str.{bytes_eq}
use Rattle.std.proofs.lemmas.Bool.{eqb-true}
use Rattle.std.proofs.lemmas.Slice.Eq.{bytes_eq-Decides}
use Rattle.clap.specs.Facts.{parser_of_value, unwrap_or_range}
use Rattle.clap.specs.Kinds.{check_kinds, range_kinds}
use Rattle.clap.specs.Faults.{check_fault, defaults_fault, entered_fault, fault_of, level_fault, settle_fault, walk_fault}
use Rattle.clap.specs.Walk.{Row, Rule, Text, action_of, is_empty, answers_to, finished, most_values, nothing_held, one_of, rows_after, settled, walk, walk_from}
use Rattle.clap.specs.Simple.{App, Shape, argument_words, built, built_leaf, entered, help_rule, help_shape, inherited, label_of, marked_built, names_of, rows_at, subcommand_of, with_leaf_noted}
use Rattle.clap.specs.ValueTests.{accepts}
use Rattle.clap.specs.Values.{read_as, reading_of}
use Rattle.clap.proofs.WalkLemmas.{both}
use Rattle.clap.proofs.ValueTestLemmas.{accepts-Accepts}
use Rattle.clap.specs.declared.builder.value_parser.ValueParser.{ValueParser}
use Rattle.clap.specs.declared.builder.value_parser.ValueParser.TheVariants as vp
use Rattle.hwdb_spec_commands.specs.CommandLine.{hwdb_app}
use Rattle.hwdb_spec_commands.specs.Jobs.{AreGiven, HasValue, IfSo, IsCommand, IsNumber, IsOneOf, takes_number}
use Rattle.hwdb_cli.proofs.WalkLemmas.{IsNotHelp, none_of_both, walk_not_help}
use Rattle.hwdb_cli.proofs.UseLemmas.{Each, RowFits, StandsAlone, each_joined, found_each, keeps_values, required_value, rows_fit, same_id, text_read}

pub other_text : {X : Type 0} (a b : Text) → bytes_eq a b ≡ false → a ≡ b → X
other_text a b differ is = absurd (true≢false (sym ((bytes_eq-Decides a b).1 is) ∙ differ))

-- ---- the arguments

-- none of the rules has this id
abbrev differ : Text → List Rule → Bool
differ id rules = list_all (λ b. not (bytes_eq b.id id)) rules

-- one of them has it at most
abbrev once : Text → List Rule → Bool
once id [] = true
once id (b ∷ bs) = cond (bytes_eq b.id id) (differ id bs) (once id bs)

all_differ : (a : Rule) (rules : List Rule) → differ a.id rules ≡ true → Each (λ b. b.id ≡ a.id → b ≡ a) rules
all_differ a [] e = tt
all_differ a (b ∷ bs) e =
    let two = both (not (bytes_eq b.id a.id)) _ e in
    (λ is. other_text b.id a.id (go (bytes_eq b.id a.id) two.0) is, all_differ a bs two.1)
  where
    go : (t : Bool) → not t ≡ true → t ≡ false
    go true e = cc
    go false e = refl

-- it is one of them
abbrev In : Rule → List Rule → Type 0
In a [] = ⊥
In a (b ∷ bs) = (a ≡ b) ⊎ In a bs

differs_from_all : {X : Type 0} (a : Rule) (rules : List Rule) → In a rules → differ a.id rules ≡ true → X
differs_from_all a [] in_them e = absurd in_them
differs_from_all a (b ∷ bs) (inl same) e =
    let two = both (not (bytes_eq b.id a.id)) _ e in
    go (bytes_eq b.id a.id) refl two.0
  where
    go : {X : Type 0} (t : Bool) → bytes_eq b.id a.id ≡ t → not t ≡ true → X
    go true is other = cc
    go false is other = other_text b.id a.id is (ap (λ (r : Rule). r.id) (sym same))
differs_from_all a (b ∷ bs) (inr more) e = differs_from_all a bs more (both (not (bytes_eq b.id a.id)) _ e).1

-- one that is alone with its id is found by that
abbrev Alone : Rule → List Rule → Type 0
Alone a rules = Each (λ b. b.id ≡ a.id → b ≡ a) rules × (find (λ b. bytes_eq b.id a.id) rules ≡ Some a)

alone_in : (a : Rule) (rules : List Rule) → In a rules → once a.id rules ≡ true → Alone a rules
alone_in a [] in_them e = absurd in_them
alone_in a (b ∷ bs) in_them e = go (bytes_eq b.id a.id) refl in_them e (λ more rest. alone_in a bs more rest)
  where
    go : (t : Bool) → bytes_eq b.id a.id ≡ t → (a ≡ b) ⊎ In a bs → cond t (differ a.id bs) (once a.id bs) ≡ true → (In a bs → once a.id bs ≡ true → Alone a bs)
        → ((b.id ≡ a.id → b ≡ a) × Each (λ x. x.id ≡ a.id → x ≡ a) bs) × (cond t (Some b) (find (λ x. bytes_eq x.id a.id) bs) ≡ Some a)
    go true same (inl is) e rest = ((λ own. sym is, all_differ a bs e), ap Some (sym is))
    go true same (inr more) e rest = differs_from_all a bs more e
    go false other (inl is) e rest = other_text b.id a.id other (ap (λ (r : Rule). r.id) (sym is))
    go false other (inr more) e rest = let tail = rest more e in ((λ own. other_text b.id a.id other own, tail.0), tail.1)

-- it keeps its values, has no default, and can't be without a value
abbrev stands_alone : List Rule → Rule → Bool
stands_alone rules a =
    once a.id rules && (keeps_values (action_of a) && (is_empty a.defaults && not (is_empty (range_kinds (unwrap_or_range a.range).start_inclusive (most_values a) 0))))

is_none : {X : Type 0} (xs : List X) → is_empty xs ≡ true → xs ≡ []
is_none [] e = refl
is_none (x ∷ xs) e = absurd (let zero = eqb-true (length (x ∷ xs)) 0 e in omega (arith, zero))

is_some_list : {X : Type 0} (xs : List X) → not (is_empty xs) ≡ true → xs ≡ [] → ⊥
is_some_list [] e none = absurd (true≢false (sym e))
is_some_list (x ∷ xs) e none = cc

stands : (rules : List Rule) (a : Rule) → In a rules → stands_alone rules a ≡ true → StandsAlone rules a
stands rules a in_them e =
    let one = both (once a.id rules) _ e in
    let two = both (keeps_values (action_of a)) _ one.1 in
    let three = both (is_empty a.defaults) _ two.1 in
    record {
      alone = (alone_in a rules in_them one.0).0;
      set = two.0;
      defaults = is_none a.defaults three.0;
      some = is_some_list (range_kinds (unwrap_or_range a.range).start_inclusive (most_values a) 0) three.1;
    }

-- one that the command needs, or that is a number, does so
abbrev is_well : List Rule → Rule → Bool
is_well rules a = if a.required || takes_number a.parser then stands_alone rules a else true

abbrev are_well : Shape → Bool
are_well s = not s.subcommand_negates_reqs && list_all (is_well s.rules) s.rules

well : (rules : List Rule) (a : Rule) → is_well rules a ≡ true → (a.required || takes_number a.parser) ≡ true → stands_alone rules a ≡ true
well rules a e wanted = go (a.required || takes_number a.parser) e wanted
  where
    go : (b : Bool) → (if b then stands_alone rules a else true) ≡ true → b ≡ true → stands_alone rules a ≡ true
    go true e wanted = e
    go false e wanted = absurd (true≢false (sym wanted))

-- a number that was read is one
number_given : (a : Rule) (rows : List Row) (p : Option ValueParser) → a.parser ≡ p → (takes_number p ≡ true → Each (RowFits a) rows) → IfSo (takes_number p) (IfSome (one_of a.id rows) IsNumber)
number_given a rows (Some (vp.Unsigned low high)) is fit = go (one_of a.id rows) refl
  where
    go : (o : Option Text) → one_of a.id rows ≡ o → IfSome o IsNumber
    go None at = tt
    go (Some t) at =
        let read = text_read a rows t (fit refl) at in
        let passes : accepts a.ignore_case (vp.Unsigned low high) read.0 ≡ true = subst (λ (q : Option ValueParser). accepts a.ignore_case (parser_of_value q) read.0 ≡ true) is read.1 in
        let same : t ≡ read.0 = subst (λ (q : Option ValueParser). t ≡ read_as (reading_of (parser_of_value q)) read.0) is read.2 in
        let fits = accepts-Accepts a.ignore_case (vp.Unsigned low high) read.0 passes in
        subst IsNumber (sym same) (fits.0, fits.1)
number_given a rows p is fit = tt

-- ---- the commands
-- words that a command takes give what its arguments ask
module _ (s : Shape) (words : List Text) (e : level_fault s [] nothing_held words false [] ≡ []) (negates : s.subcommand_negates_reqs ≡ false) where
  abbrev Rows : List Row
  Rows = rows_after s.rules [] words

  value_given : (a : Rule) → In a s.rules → stands_alone s.rules a ≡ true → a.required ≡ true → HasValue a.id Rows
  value_given a in_them alone required =
      required_value s words a (λ b. bytes_eq b.id a.id) (stands s.rules a in_them alone) (alone_in a s.rules in_them (both (once a.id s.rules) _ alone).0).1 required negates e

  all_given : (xs : List Rule) → ((a : Rule) → In a xs → In a s.rules) → list_all (is_well s.rules) xs ≡ true → AreGiven xs Rows
  all_given [] in_them all = tt
  all_given (a ∷ more) in_them all =
      let two = both (is_well s.rules a) _ all in
      let here : In a s.rules = in_them a (inl refl) in (
        needed a.required refl (λ is. value_given a here (well s.rules a two.0 (either a.required (takes_number a.parser) (inl is))) is),
        number_given a Rows a.parser refl (λ is. rows_fit s words a (stands s.rules a here (well s.rules a two.0 (either a.required (takes_number a.parser) (inr is)))) e),
        all_given more (λ b more_in. in_them b (inr more_in)) two.1,
      )
    where
      needed : (b : Bool) → a.required ≡ b → (a.required ≡ true → HasValue a.id Rows) → IfSo b (HasValue a.id Rows)
      needed true is some = some is
      needed false is some = tt

      either : (x y : Bool) → (x ≡ true) ⊎ (y ≡ true) → (x || y) ≡ true
      either true y is = refl
      either false y (inl is) = absurd (true≢false (sym is))
      either false y (inr is) = is

-- what is asked of an argument: its name, whether it is needed, and whether it is a number
abbrev Need : Type 0
Need = Text × Bool × Bool

abbrev need_of : Rule → Need
need_of a = (a.id, a.required, takes_number a.parser)

alike : (rows : List Row) (xs ys : List Rule) (rest : List Need) → map need_of xs ≡ map need_of ys ++ rest → AreGiven xs rows → AreGiven ys rows
alike rows xs [] rest are given = tt
alike rows [] (b ∷ ys) rest are given = cc
alike rows (a ∷ xs) (b ∷ ys) rest are given =
    let one : need_of a ≡ need_of b = ap (λ (l : List Need). get_or l 0 (need_of a)) are in (
      subst (λ (n : Need). IfSo n.1 (HasValue n.0 rows)) one given.0,
      subst (λ (n : Need). IfSo n.2 (IfSome (one_of n.0 rows) IsNumber)) one given.1,
      alike rows xs ys rest (ap (drop 1) are) given.2,
    )

-- a command as it is built has the arguments that it was given, and the flag for help
abbrev Asks : Type 0
Asks = Text × List Need

abbrev asks : Shape → Asks
asks s = (s.name, map need_of s.rules)

abbrev with_help : Shape → Asks
with_help s = (s.name, map need_of s.rules ++ need_of help_rule ∷ [])

abbrev Gives : List Shape → Shape → Type 0
Gives commands s = (words : List Text) → level_fault s [] nothing_held words false [] ≡ [] → IsOneOf commands s.name (rows_after s.rules [] words)

one_more : (r : Shape) (commands shapes : List Shape) → Each (Gives commands) shapes → Each (Gives (r ∷ commands)) shapes
one_more r commands [] each = tt
one_more r commands (s ∷ more) each = (λ words e. inr (each.0 words e), one_more r commands more each.1)

all_give : (commands shapes : List Shape) → list_all are_well shapes ≡ true → map asks shapes ≡ map with_help commands → Each (Gives commands) shapes
all_give commands [] well are = tt
all_give [] (s ∷ more) well are = cc
all_give (r ∷ commands) (s ∷ more) well are =
    let two = both (are_well s) _ well in
    let fine = both (not s.subcommand_negates_reqs) _ two.0 in
    let one : asks s ≡ with_help r = ap (λ (l : List Asks). get_or l 0 (asks s)) are in (
      λ words e. inl (
        ap (λ (x : Asks). x.0) one,
        alike (rows_after s.rules [] words) s.rules r.rules (need_of help_rule ∷ []) (ap (λ (x : Asks). x.1) one)
            (all_given s words e (negated s.subcommand_negates_reqs fine.0) s.rules (λ a in_them. in_them) fine.1),
      ),
      one_more r commands more (all_give commands more two.1 (ap (drop 1) are)),
    )
  where
    negated : (b : Bool) → not b ≡ true → b ≡ false
    negated true e = cc
    negated false e = refl

-- the program's commands, as they are built
abbrev built_commands : List Shape
built_commands = map (λ s. built_leaf (inherited (with_leaf_noted (marked_built hwdb_app.top)) s)) hwdb_app.subs

commands_give : Each (Gives hwdb_app.subs) built_commands
commands_give = all_give hwdb_app.subs built_commands refl refl

-- ---- the command line

-- what the words at which a walk stopped don't name
abbrev IsHelp : Shape → Type 0
IsHelp s = label_of s ≡ (codes "help", [])

-- the walk stopped at another one
passed_over : {X : Type 0} (s : Shape) (name : Text) → IsHelp s → bytes_eq name (codes "help") ≡ false → answers_to name (label_of s) ≡ true → X
passed_over s name help differ answers = go (bytes_eq (codes "help") name) refl (subst (λ l. answers_to name l ≡ true) help answers)
  where
    go : {X : Type 0} (b : Bool) → bytes_eq (codes "help") name ≡ b → (b || false) ≡ true → X
    go true same is = other_text name (codes "help") differ (sym (same_id (codes "help") name same))
    go false same is = absurd (true≢false (sym is))

given_command : (s : Shape) (p : Text × List Text) → IsNotHelp (Some p) → answers_to p.0 (label_of s) ≡ true → Gives hwdb_app.subs s ⊎ IsHelp s
    → level_fault s [] nothing_held p.1 false [] ≡ [] → IsCommand s.name (rows_after s.rules [] p.1)
given_command s p other answers (inl gives) e = gives p.1 e
given_command s p other answers (inr help) e = passed_over s p.0 help other answers

-- the subcommand at which a walk stopped, if it takes its words
command_entered : (a : App) (stop : Option (Text × List Text)) → Each (λ s. Gives hwdb_app.subs s ⊎ IsHelp s) a.subs → IsNotHelp stop → entered_fault a stop ≡ [] → is_some (entered a stop) ≡ true
    → (q : Text × List Row) × (entered a stop ≡ Some q) × IsCommand q.0 q.1
command_entered a None each other e some = absurd (true≢false (sym some))
command_entered a (Some p) each other e some = go (find (λ s. answers_to p.0 (label_of s)) a.subs) refl e some
  where
    go : (o : Option Shape) → find (λ s. answers_to p.0 (label_of s)) a.subs ≡ o → option_map_or (λ s. level_fault s [] nothing_held p.1 false []) o [] ≡ []
        → is_some (option_map (λ s. rows_at s p.1) o) ≡ true → (q : Text × List Row) × (option_map (λ s. rows_at s p.1) o ≡ Some q) × IsCommand q.0 q.1
    go None at e some = absurd (true≢false (sym some))
    go (Some s) at e some =
        let found = found_each (λ s. Gives hwdb_app.subs s ⊎ IsHelp s) (λ s. answers_to p.0 (label_of s)) a.subs s at each in
        (rows_at s p.1, refl, given_command s p other found.0 found.1 e)

no_subcommand_missing : (x y z : Bool) → check_kinds x y z ≡ [] → y ≡ false
no_subcommand_missing true y z e = cc
no_subcommand_missing false true z e = cc
no_subcommand_missing false false z e = refl

-- a command that asks for a subcommand has one
subcommand_there : (s : Shape) (rows : List Row) (has : Bool) → s.subcommand_required ≡ true → check_fault s rows has ≡ [] → has ≡ true
subcommand_there s rows true required e = refl
subcommand_there s rows false required e = sym (no_subcommand_missing _ _ _ e) ∙ required

each_left : (shapes : List Shape) → Each (Gives hwdb_app.subs) shapes → Each (λ s. Gives hwdb_app.subs s ⊎ IsHelp s) shapes
each_left [] each = tt
each_left (s ∷ more) each = (inl each.0, each_left more each.1)

-- words that the command takes name one of its commands, with what this one needs
pub command_taken : (words : List Text) → fault_of hwdb_app words ≡ [] → (q : Text × List Row) × (subcommand_of hwdb_app words ≡ Some q) × IsCommand q.0 q.1
command_taken words e =
    let a = built hwdb_app in
    let left = argument_words hwdb_app words in
    let end = walk a.top.rules (names_of a) nothing_held left in
    let steps = none_of_both (walk_fault a.top (names_of a) (walk_from nothing_held) left) _ e in
    let below = none_of_both (entered_fault a end.stopped) _ steps.1 in
    let settle = none_of_both (settle_fault a.top.rules a.top.args_override_self end.held) _ below.1 in
    let checks = none_of_both (defaults_fault (settled a.top.rules end.held).rows a.top.rules) _ settle.1 in
    let has = subcommand_there a.top (finished a.top.rules end.held) (is_some (entered a end.stopped)) refl checks.1 in
    let other = walk_not_help a.top refl (names_of a) (walk_from nothing_held) left tt steps.0 in
    command_entered a end.stopped
    (each_joined (λ s. Gives hwdb_app.subs s ⊎ IsHelp s) built_commands (built_leaf help_shape ∷ []) (each_left built_commands commands_give) (inr refl, tt))
    other below.0 has
