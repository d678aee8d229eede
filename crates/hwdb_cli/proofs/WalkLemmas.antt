-- What a walk over words that finds no fault keeps of the rows: all that each use of an argument keeps. It stops at no `help`.
use Rattle.std.proofs.Common.{◌≡◌, ◌&&◌, ℕ, Bool, true, false, not, zero, suc, codes, cond, refl, List, [], ◌∷◌, length, drop, Option, Some, None, is_some, true≢false}
use Rattle.std.specs.Prelude.{⊤, encode_utf8, slice_get}
use Rattle.std.specs.List.{find, fold}
use Rattle.std.specs.Option.{option_map_or}
use Rattle.std.specs.Str.{bytes_eq, chars}
use Rattle.clap.specs.Lexer.{long_of, short_of}
use Rattle.clap.specs.Kinds.{Kinds, or_else}
use Rattle.clap.specs.Faults.{bundle_step_fault, flag_word_fault, flags_fault, long_fault, option_fault, other_fault, positional_fault, react_fault, settle_fault, short_fault, step_fault, stray_fault, turn_fault, use_fault, walk_fault, word_fault}
use Rattle.clap.specs.Walk.{Held, Names, Outcome, Row, Rule, Step, Text, Waiting, Walk, after_flag, after_step, arg_by_id, arg_by_index, arg_by_long, arg_by_short, attached_value, bundle_met, bundle_step, done, flag_met, idle, is_pending, long_met, long_or_other, next, option, option_met, option_word, plain, plain_word, positional, positional_held, reacted, refused, settled, settled_rows, short_met, short_or_plain, subcommand, subcommand_met, subcommand_or_other, takes_several, takes_values, to_positional, trailing, used, used_by_id, value, waits, walked, walked_from, word_met}
use Rattle.clap.specs.Simple.{Shape}
use Rattle.clap.specs.declared.error.kind.ErrorKind.TheVariants.{DisplayHelp, InvalidSubcommand, TooManyValues}

-- no kind of two steps is no kind of each
pub none_of_both : (a b : Kinds) → or_else a b ≡ [] → (a ≡ []) × (b ≡ [])
none_of_both [] b e = (refl, e)
none_of_both (k ∷ ks) b e = cc

module _ (s : Shape) (K : List Row → Type 0) (step : (p : Rule → Bool) (a : Rule) (values : List Text) (rows : List Row) → find p s.rules ≡ Some a → K rows
    → use_fault s.args_override_self a values rows ≡ [] → K (used a values rows)) where
  pending_keeps : (o : Option (Text × List Text)) (rows : List Row) → K rows
      → option_map_or (λ p. option_map_or (λ a. use_fault s.args_override_self a p.1 rows) (arg_by_id s.rules p.0) []) o [] ≡ [] → K (settled_rows s.rules o rows)
  pending_keeps None rows k e = k
  pending_keeps (Some p) rows k e = go (arg_by_id s.rules p.0) refl e
    where
      go : (o : Option Rule) → arg_by_id s.rules p.0 ≡ o → option_map_or (λ a. use_fault s.args_override_self a p.1 rows) o [] ≡ [] → K (used_by_id o p.1 rows)
      go None at e = k
      go (Some a) at e = step (λ a. bytes_eq a.id p.0) a p.1 rows at k e

  pub settle_keeps : (h : Held) → K h.rows → settle_fault s.rules s.args_override_self h ≡ [] → K (settled s.rules h).rows
  settle_keeps h k e = pending_keeps h.pending h.rows k e

  react_keeps : (p : Rule → Bool) (a : Rule) (values : List Text) (h : Held) → find p s.rules ≡ Some a → K h.rows
      → react_fault s.rules s.args_override_self a values h ≡ [] → K (reacted s.rules a values h).rows
  react_keeps p a values h at k e =
      let both = none_of_both (settle_fault s.rules s.args_override_self h) _ e in
      step p a values (settled s.rules h).rows at (settle_keeps h k both.0) both.1

  option_keeps : (p : Rule → Bool) (a : Rule) (v : Option Text) (h : Held) → find p s.rules ≡ Some a → K h.rows
      → option_fault s.rules s.args_override_self a v h ≡ [] → K (option_met s.rules a v h).0.rows
  option_keeps p a (Some v) h at k e = react_keeps p a (v ∷ []) h at k e
  option_keeps p a None h at k e = settle_keeps h k e

  flag_keeps : (p : Rule → Bool) (a : Rule) (v : Option Text) (h : Held) → find p s.rules ≡ Some a → K h.rows
      → cond (is_some v) (TooManyValues ∷ []) (react_fault s.rules s.args_override_self a [] h) ≡ [] → K (flag_met s.rules a v h).0.rows
  flag_keeps p a (Some v) h at k e = k
  flag_keeps p a None h at k e = react_keeps p a [] h at k e

  long_keeps : (p : Rule → Bool) (found : Option Rule) (v : Option Text) (h : Held) → find p s.rules ≡ found → K h.rows
      → long_fault s.rules s.args_override_self found v h ≡ [] → K (long_met s.rules found v h).0.rows
  long_keeps p None v h at k e = k
  long_keeps p (Some a) v h at k e = go (takes_values a) e
    where
      go : (b : Bool) → cond b (option_fault s.rules s.args_override_self a v h) (cond (is_some v) (TooManyValues ∷ []) (react_fault s.rules s.args_override_self a [] h)) ≡ []
          → K (cond b (option_met s.rules a v h) (flag_met s.rules a v h)).0.rows
      go true e = option_keeps p a v h at k e
      go false e = flag_keeps p a v h at k e

  short_keeps : (p : Rule → Bool) (found : Option Rule) (rest : Text) (h : Held) (fault : Held → Kinds) (met : Held → Held × Outcome) → find p s.rules ≡ found → K h.rows
      → ((g : Held) → K g.rows → fault g ≡ [] → K (met g).0.rows) → short_fault s.rules s.args_override_self found rest h fault ≡ []
      → K (short_met s.rules found rest h met).0.rows
  short_keeps p None rest h fault met at k then e = k
  short_keeps p (Some a) rest h fault met at k then e = go (takes_values a) e
    where
      go : (b : Bool) → cond b (option_fault s.rules s.args_override_self a (attached_value rest) h) (or_else (react_fault s.rules s.args_override_self a [] h) (fault (reacted s.rules a [] h))) ≡ []
          → K (cond b (option_met s.rules a (attached_value rest) h) (met (reacted s.rules a [] h))).0.rows
      go true e = option_keeps p a (attached_value rest) h at k e
      go false e =
          let both = none_of_both (react_fault s.rules s.args_override_self a [] h) _ e in
          then (reacted s.rules a [] h) (react_keeps p a [] h at k both.0) both.1

  bundle_keeps : (n : ℕ) (flags : Text) (skip : ℕ) (so_far : Outcome) (h : Held) → K h.rows → flags_fault s.rules s.args_override_self n flags skip h ≡ []
      → K (bundle_met s.rules n flags skip so_far h).0.rows
  unfolding flags_fault bundle_met
  bundle_keeps zero flags skip so_far h k e = k
  bundle_keeps (suc n) flags skip so_far h k e = go (slice_get (chars flags) 0) skip (bundle_keeps n) e
    where
      go : (o : Option ℕ) (m : ℕ)
          → ((text : Text) (i : ℕ) (before : Outcome) (g : Held) → K g.rows → flags_fault s.rules s.args_override_self n text i g ≡ [] → K (bundle_met s.rules n text i before g).0.rows)
          → bundle_step_fault s.rules s.args_override_self o flags m h (flags_fault s.rules s.args_override_self n) ≡ [] → K (bundle_step s.rules o flags m so_far h (bundle_met s.rules n)).0.rows
      go None m rest e = k
      go (Some x) zero rest e =
          let left = drop (length (encode_utf8 x)) flags in
          short_keeps _ (arg_by_short s.rules x) left h (flags_fault s.rules s.args_override_self n left 0) (bundle_met s.rules n left 0 done) refl k (λ g kept none. rest left 0 done g kept none) e
      go (Some x) (suc m) rest e = rest (drop (length (encode_utf8 x)) flags) m so_far h k e

  plain_keeps : (waiting : Waiting) (word : Text) (h : Held) → K h.rows → K (plain_word s.rules waiting word h).0.rows
  plain_keeps idle word h k = k
  plain_keeps positional word h k = k
  plain_keeps (option id) word h k = go (arg_by_id s.rules id)
    where
      go : (o : Option Rule) → K (option_word o id word h).0.rows
      go None = k
      go (Some a) = k

  after_keeps : (waiting : Waiting) (word : Text) (h : Held) (o : Outcome) → K h.rows → K (after_flag s.rules waiting word h o).0.rows
  after_keeps waiting word h done k = k
  after_keeps waiting word h (waits id) k = k
  after_keeps waiting word h plain k = plain_keeps waiting word h k
  after_keeps waiting word h refused k = plain_keeps waiting word h k

  short_word_keeps : (waiting : Waiting) (word : Text) (flags : Option Text) (h : Held) → K h.rows
      → option_map_or (λ f. flags_fault s.rules s.args_override_self (length f) f h.skip (record h { skip = 0 })) flags [] ≡ []
      → K (short_or_plain s.rules waiting word flags h).0.rows
  short_word_keeps waiting word None h k e = plain_keeps waiting word h k
  short_word_keeps waiting word (Some f) h k e =
      let met = bundle_met s.rules (length f) f h.skip plain (record h { skip = 0 }) in
      after_keeps waiting word met.0 met.1 (bundle_keeps (length f) f h.skip plain (record h { skip = 0 }) k e)

  flag_word_keeps : (waiting : Waiting) (word : Text) (name : Option (Text × Option Text)) (h : Held) → K h.rows
      → flag_word_fault s.rules s.args_override_self name word h ≡ [] → K (long_or_other s.rules waiting word name h).0.rows
  flag_word_keeps waiting word None h k e = short_word_keeps waiting word (short_of word) h k e
  flag_word_keeps waiting word (Some p) h k e =
      let met = long_met s.rules (arg_by_long s.rules p.0) p.1 h in
      after_keeps waiting word met.0 met.1 (long_keeps _ (arg_by_long s.rules p.0) p.1 h refl k e)

  other_keeps : (name : Option Text) (waiting : Waiting) (position : ℕ) (word : Text) (h : Held) → K h.rows → other_fault s name word h ≡ []
      → K (subcommand_or_other s.rules name waiting position word h).0.rows
  other_keeps (Some name) waiting position word h k e = k
  other_keeps None waiting position word h k e = go (bytes_eq word (45 ∷ 45 ∷ [])) e
    where
      go : (b : Bool) → cond b [] (flag_word_fault s.rules s.args_override_self (long_of word) word h) ≡ []
          → K (cond b (h, trailing position) (long_or_other s.rules waiting word (long_of word) h)).0.rows
      go true e = k
      go false e = flag_word_keeps waiting word (long_of word) h k e

  word_keeps : (names : Names) (is_trailing : Bool) (waiting : Waiting) (position : ℕ) (word : Text) (h : Held) → K h.rows
      → word_fault s names is_trailing waiting word h ≡ [] → K (word_met s.rules names is_trailing waiting position word h).0.rows
  word_keeps names true waiting position word h k e = k
  word_keeps names false waiting position word h k e = other_keeps (subcommand_met names waiting word) waiting position word h k e

  positional_keeps : (a : Rule) (word : Text) (h : Held) → K h.rows → positional_fault s.rules s.args_override_self a h ≡ []
      → K (positional_held s.rules a word h).rows
  positional_keeps a word h k e = go (is_pending a h.pending && takes_several a) e
    where
      go : (b : Bool) → cond b [] (settle_fault s.rules s.args_override_self h) ≡ [] → K (cond b h (settled s.rules h)).rows
      go true e = k
      go false e = settle_keeps h k e

  step_keeps : (word : Text) (w : Walk) (h : Held) (met : Step) → K h.rows → step_fault s w.position h met ≡ [] → K (after_step s.rules word w h met).held.rows
  step_keeps word w h (next waiting) k e = k
  step_keeps word w h (trailing position) k e = k
  step_keeps word w h (subcommand name) k e = k
  step_keeps word w h value k e = go (arg_by_index s.rules w.position) e
    where
      go : (o : Option Rule) → option_map_or (λ a. positional_fault s.rules s.args_override_self a h) o (stray_fault s) ≡ [] → K (to_positional s.rules o word w h).held.rows
      go None e = k
      go (Some a) e = positional_keeps a word h k e

  turn_keeps : (names : Names) (w : Walk) (word : Text) → K w.held.rows → turn_fault s names w word ≡ [] → K (walked s.rules names w word).held.rows
  unfolding walked
  turn_keeps names w word k e = go w.stopped e
    where
      go : (o : Option (Text × List Text))
          → cond (is_some o) [] (or_else (word_fault s names w.is_trailing w.waiting word w.held)
          (step_fault s w.position (word_met s.rules names w.is_trailing w.waiting w.position word w.held).0 (word_met s.rules names w.is_trailing w.waiting w.position word w.held).1)) ≡ []
          → K (walked_from s.rules names o w word).held.rows
      go (Some p) e = k
      go None e =
          let met = word_met s.rules names w.is_trailing w.waiting w.position word w.held in
          let both = none_of_both (word_fault s names w.is_trailing w.waiting word w.held) _ e in
          step_keeps word w met.0 met.1 (word_keeps names w.is_trailing w.waiting w.position word w.held k both.0) both.1

  -- what each use of an argument keeps, the walk keeps
  pub walk_keeps : (names : Names) (w : Walk) (words : List Text) → K w.held.rows → walk_fault s names w words ≡ [] → K (fold (walked s.rules names) w words).held.rows
  unfolding walk_fault
  walk_keeps names w [] k e = k
  walk_keeps names w (x ∷ xs) k e =
      let both = none_of_both (turn_fault s names w x) _ e in
      walk_keeps names (walked s.rules names w x) xs (turn_keeps names w x k both.0) both.1

-- ---- `help` answers at once: no walk that finds no fault stops at it

abbrev pub IsNotHelp : Option (Text × List Text) → Type 0
IsNotHelp None = ⊤
IsNotHelp (Some p) = bytes_eq p.0 (codes "help") ≡ false

-- the word was not for `help`
abbrev IsNotHelpStep : Step → Type 0
IsNotHelpStep (subcommand name) = bytes_eq name (codes "help") ≡ false
IsNotHelpStep _ = ⊤

name_is_not_help : (is_help disabled : Bool) → disabled ≡ false → cond (is_help && not disabled) (DisplayHelp ∷ InvalidSubcommand ∷ []) [] ≡ [] → is_help ≡ false
name_is_not_help true true off e = absurd (true≢false off)
name_is_not_help true false off e = cc
name_is_not_help false disabled off e = refl

module _ (s : Shape) (on : s.disable_help_subcommand ≡ false) where
  plain_not_help : (waiting : Waiting) (word : Text) (h : Held) → IsNotHelpStep (plain_word s.rules waiting word h).1
  plain_not_help idle word h = tt
  plain_not_help positional word h = tt
  plain_not_help (option id) word h = tt

  after_not_help : (waiting : Waiting) (word : Text) (h : Held) (o : Outcome) → IsNotHelpStep (after_flag s.rules waiting word h o).1
  after_not_help waiting word h done = tt
  after_not_help waiting word h (waits id) = tt
  after_not_help waiting word h plain = plain_not_help waiting word h
  after_not_help waiting word h refused = plain_not_help waiting word h

  short_not_help : (waiting : Waiting) (word : Text) (flags : Option Text) (h : Held) → IsNotHelpStep (short_or_plain s.rules waiting word flags h).1
  short_not_help waiting word None h = plain_not_help waiting word h
  short_not_help waiting word (Some f) h =
      let met = bundle_met s.rules (length f) f h.skip plain (record h { skip = 0 }) in
      after_not_help waiting word met.0 met.1

  long_not_help : (waiting : Waiting) (word : Text) (name : Option (Text × Option Text)) (h : Held) → IsNotHelpStep (long_or_other s.rules waiting word name h).1
  long_not_help waiting word None h = short_not_help waiting word (short_of word) h
  long_not_help waiting word (Some p) h =
      let met = long_met s.rules (arg_by_long s.rules p.0) p.1 h in
      after_not_help waiting word met.0 met.1

  other_not_help : (name : Option Text) (waiting : Waiting) (position : ℕ) (word : Text) (h : Held) → other_fault s name word h ≡ []
      → IsNotHelpStep (subcommand_or_other s.rules name waiting position word h).1
  other_not_help (Some name) waiting position word h e = name_is_not_help (bytes_eq name (codes "help")) s.disable_help_subcommand on e
  other_not_help None waiting position word h e = go (bytes_eq word (45 ∷ 45 ∷ []))
    where
      go : (b : Bool) → IsNotHelpStep (cond b (h, trailing position) (long_or_other s.rules waiting word (long_of word) h)).1
      go true = tt
      go false = long_not_help waiting word (long_of word) h

  word_not_help : (names : Names) (is_trailing : Bool) (waiting : Waiting) (position : ℕ) (word : Text) (h : Held)
      → word_fault s names is_trailing waiting word h ≡ [] → IsNotHelpStep (word_met s.rules names is_trailing waiting position word h).1
  word_not_help names true waiting position word h e = tt
  word_not_help names false waiting position word h e = other_not_help (subcommand_met names waiting word) waiting position word h e

  step_not_help : (word : Text) (w : Walk) (h : Held) (met : Step) → IsNotHelp w.stopped → IsNotHelpStep met → IsNotHelp (after_step s.rules word w h met).stopped
  step_not_help word w h (next waiting) so_far is = so_far
  step_not_help word w h (trailing position) so_far is = so_far
  step_not_help word w h (subcommand name) so_far is = is
  step_not_help word w h value so_far is = go (arg_by_index s.rules w.position)
    where
      go : (o : Option Rule) → IsNotHelp (to_positional s.rules o word w h).stopped
      go None = so_far
      go (Some a) = tt

  turn_not_help : (names : Names) (w : Walk) (word : Text) → IsNotHelp w.stopped → turn_fault s names w word ≡ [] → IsNotHelp (walked s.rules names w word).stopped
  unfolding walked
  turn_not_help names w word so_far e = go w.stopped so_far e
    where
      go : (o : Option (Text × List Text)) → IsNotHelp o
          → cond (is_some o) [] (or_else (word_fault s names w.is_trailing w.waiting word w.held)
          (step_fault s w.position (word_met s.rules names w.is_trailing w.waiting w.position word w.held).0 (word_met s.rules names w.is_trailing w.waiting w.position word w.held).1)) ≡ []
          → IsNotHelp (walked_from s.rules names o w word).stopped
      go (Some p) is e = is
      go None is e =
          let met = word_met s.rules names w.is_trailing w.waiting w.position word w.held in
          let both = none_of_both (word_fault s names w.is_trailing w.waiting word w.held) _ e in
          step_not_help word w met.0 met.1 so_far (word_not_help names w.is_trailing w.waiting w.position word w.held both.0)

  pub walk_not_help : (names : Names) (w : Walk) (words : List Text) → IsNotHelp w.stopped → walk_fault s names w words ≡ [] → IsNotHelp (fold (walked s.rules names) w words).stopped
  unfolding walk_fault
  walk_not_help names w [] so_far e = so_far
  walk_not_help names w (x ∷ xs) so_far e =
      let both = none_of_both (turn_fault s names w x) _ e in
      walk_not_help names (walked s.rules names w x) xs (turn_not_help names w x so_far both.0) both.1
