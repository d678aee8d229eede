-- Comments that let kinds of warnings pass.
use Rattle.std.proofs.Common.{◌≡◌, ◌==◌, arith, ℕ, ◌+◌, List, [], ◌∷◌, ◌++◌, ◌||◌, length, refl, ap, ◌∙◌, sym, append_assoc, append-nil, Bool, true, false, cond, not}
use Rattle.std.specs.Prelude.{filter, flat_map}
use Rattle.std.proofs.lemmas.Bool.{eqb-true}
use Rattle.std.specs.List.{list_any}
use Rattle.std.proofs.lemmas.List.Folds.{list_any-append}
use Rattle.hwdb_spec.specs.Lines.{Line, is, is_none, numbered, pieces}
use Rattle.hwdb_spec_commands.specs.Findings.{Finding, bare_findings, found_faults, found_warnings, line_findings}
use Rattle.hwdb_spec_commands.specs.AllowedKinds.{Marked, allowed_text, ends_record, file_findings, found_in_line, is_kind, left_of_line, marked, marked_from, names_in, names_to_end, one_unknown, unknown_names}
use Rattle.hwdb_check.specs.Internal.{line_of}
use Rattle.hwdb_spec_commands.specs.declared.formats.Format.{Format}

-- ---- names

-- a name is one of those in some texts
pub any_among : (t : List ℕ → Bool) (texts : List (List ℕ)) → list_any (λ text. list_any t (names_in text)) texts ≡ list_any t (flat_map names_in texts)
any_among t [] = refl
any_among t (x ∷ xs) =
    ap (λ b. list_any t (names_in x) || b) (any_among t xs) ∙ sym (list_any-append t (names_in x) (flat_map names_in xs))

-- a text without names
pub no_names : names_in [] ≡ []
unfolding pieces
no_names = refl

-- ---- a record's names

module _ (before after whole : List (List ℕ)) (left : List (List ℕ)) where
  -- names of a line, and of those after it
  pub to_end_step : (text : List ℕ) (more : List (List ℕ)) → left ≡ text ∷ more → after ≡ before ++ names_in (allowed_text text) → ends_record text ≡ false
      → before ++ names_to_end left ≡ whole → after ++ names_to_end more ≡ whole
  unfolding names_to_end
  to_end_step text more is grown e so_far =
      ap (λ l. l ++ names_to_end more) grown ∙ append_assoc before (names_in (allowed_text text)) (names_to_end more)
      ∙ ap (λ (b : Bool). before ++ (names_in (allowed_text text) ++ cond b [] (names_to_end more))) (sym e)
      ∙ ap (λ l. before ++ names_to_end l) (sym is)
      ∙ so_far

  -- the record ends with the line
  pub to_end_last : (text : List ℕ) (more : List (List ℕ)) → left ≡ text ∷ more → after ≡ before ++ names_in (allowed_text text) → ends_record text ≡ true
      → before ++ names_to_end left ≡ whole → after ≡ whole
  unfolding names_to_end
  to_end_last text more is grown e so_far =
      grown ∙ ap (λ l. before ++ l) (sym (append-nil (names_in (allowed_text text))))
      ∙ ap (λ (b : Bool). before ++ (names_in (allowed_text text) ++ cond b [] (names_to_end more))) (sym e)
      ∙ ap (λ l. before ++ names_to_end l) (sym is)
      ∙ so_far

-- no line is left
pub to_end_all : (before whole left : List (List ℕ)) → left ≡ [] → before ++ names_to_end left ≡ whole → before ≡ whole
unfolding names_to_end
to_end_all before whole left none so_far = sym (append-nil before) ∙ ap (λ l. before ++ names_to_end l) (sym none) ∙ so_far

-- a line without names
pub none_named : (before : List (List ℕ)) (text : List ℕ) → (length text == 0) ≡ true → before ≡ before ++ names_in text
none_named before [] h = sym (append-nil before) ∙ ap (λ l. before ++ l) (sym no_names)
none_named before (b ∷ text) h = absurd (omega (arith, eqb-true (length (b ∷ text)) 0 h))

-- ---- files without such comments

-- no line names a kind
abbrev pub AreBare : (texts : List (List ℕ)) → Type 0
AreBare [] = Unit {0}
AreBare (text ∷ more) = (allowed_text text ≡ []) × AreBare more

bare_by : (a b : Bool) → (a || b) ≡ false → (a ≡ false) × (b ≡ false)
bare_by true b h = cc
bare_by false b h = (refl, h)

shown_none : {A : Type 0} (xs : List A) → not (is_none xs) ≡ false → xs ≡ []
shown_none [] h = refl
shown_none (x ∷ xs) h = cc

pub bare : (texts : List (List ℕ)) → list_any (λ text. not (is_none (allowed_text text))) texts ≡ false → AreBare texts
bare [] h = tt
bare (text ∷ more) h = let e = bare_by (not (is_none (allowed_text text))) _ h in (shown_none (allowed_text text) e.0, bare more e.1)

no_names_by : (b : Bool) (names more : List (List ℕ)) → names ≡ [] → more ≡ [] → names ++ cond b [] more ≡ []
no_names_by true names more e f = ap (λ l. l ++ []) e
no_names_by false names more e f = ap (λ l. l ++ more) e ∙ f

names_of_bare : (text : List ℕ) → allowed_text text ≡ [] → names_in (allowed_text text) ≡ []
names_of_bare text e = ap names_in e ∙ no_names

bare_to_end : (texts : List (List ℕ)) → AreBare texts → names_to_end texts ≡ []
unfolding names_to_end
bare_to_end [] h = refl
bare_to_end (text ∷ more) h = no_names_by (ends_record text) _ _ (names_of_bare text h.0) (bare_to_end more h.1)

same_by : (b : Bool) (names : List (List ℕ)) → names ≡ [] → cond b names [] ≡ []
same_by true names e = e
same_by false names e = refl

-- each of its lines is told alike, whatever is told of a line and the names at it
bare_lines : {A : Type 0} (f : Marked → List A) (g : Line → List A) (texts : List (List ℕ)) (number : ℕ) → AreBare texts
    → ((n : ℕ) (text : List ℕ) → allowed_text text ≡ [] → f (record { line = line_of n text; names = [] }) ≡ g (line_of n text))
    → flat_map f (marked_from [] number texts) ≡ flat_map g (numbered number texts)
unfolding marked_from numbered
bare_lines {A = A} f g [] number h same = refl
bare_lines {A = A} f g (text ∷ more) number h same =
    ap (λ (l : List A). l ++ flat_map f (marked_from (cond (ends_record text) (names_to_end more) []) (number + 1) more)) (same number text h.0)
    ∙ ap (λ (names : List (List ℕ)). g (line_of number text) ++ flat_map f (marked_from names (number + 1) more)) (same_by (ends_record text) (names_to_end more) (bare_to_end more h.1))
    ∙ ap (λ (l : List A). g (line_of number text) ++ l) (bare_lines f g more (number + 1) h.1 same)

bare_file : {A : Type 0} (f : Marked → List A) (g : Line → List A) (file : List ℕ) → list_any (λ text. not (is_none (allowed_text text))) (pieces (is 10) file) ≡ false
    → ((n : ℕ) (text : List ℕ) → allowed_text text ≡ [] → f (record { line = line_of n text; names = [] }) ≡ g (line_of n text))
    → flat_map f (marked file) ≡ flat_map g (numbered 1 (pieces (is 10) file))
bare_file f g file h same =
    let b = bare (pieces (is 10) file) h in
    ap (λ (names : List (List ℕ)). flat_map f (marked_from names 1 (pieces (is 10) file))) (bare_to_end (pieces (is 10) file) b)
    ∙ bare_lines f g (pieces (is 10) file) 1 b same

unknown_none : (text : List ℕ) → allowed_text text ≡ [] → unknown_names text ≡ []
unknown_none text e = ap (λ (l : List (List ℕ)). filter (λ name. not (is_kind name)) l) (names_of_bare text e)

module _ (format : Format) (allowed : List (List ℕ)) (path file : List ℕ) where
  bare_line : (n : ℕ) (text : List ℕ) → allowed_text text ≡ []
      → left_of_line format allowed path file (record { line = line_of n text; names = [] }) ≡ found_warnings format (flat_map names_in allowed) path file (line_of n text)
  bare_line n text e =
      ap (λ (l : List (List ℕ)). flat_map (one_unknown path (line_of n text)) l ++ found_warnings format (flat_map names_in allowed ++ []) path file (line_of n text)) (unknown_none text e)
      ∙ ap (λ (names : List (List ℕ)). found_warnings format names path file (line_of n text)) (append-nil (flat_map names_in allowed))

  bare_in_line : (n : ℕ) (text : List ℕ) → allowed_text text ≡ []
      → found_in_line format allowed path file (record { line = line_of n text; names = [] }) ≡ line_findings format (flat_map names_in allowed) path file (line_of n text)
  bare_in_line n text e = ap (λ (l : List Finding). found_faults path file (line_of n text) ++ l) (bare_line n text e)

  pub bare_found : list_any (λ text. not (is_none (allowed_text text))) (pieces (is 10) file) ≡ false → (w : List Finding) → w ≡ bare_findings format (flat_map names_in allowed) path file
      → w ≡ file_findings format allowed path file
  bare_found h w e = e ∙ sym (bare_file (found_in_line format allowed path file) (line_findings format (flat_map names_in allowed) path file) file h bare_in_line)

-- ---- a loop over the lines

module _ {A : Type 0} (f : Marked → List A) where
  -- one line more
  pub marked_step : (before after whole : List A) (names : List (List ℕ)) (n : ℕ) (ts : List (List ℕ)) (text : List ℕ) (rest : List (List ℕ)) → ts ≡ text ∷ rest
      → after ≡ before ++ f (record { line = line_of n text; names = names }) → before ++ flat_map f (marked_from names n ts) ≡ whole
      → after ++ flat_map f (marked_from (cond (ends_record text) (names_to_end rest) names) (n + 1) rest) ≡ whole
  unfolding marked_from
  marked_step before after whole names n ts text rest is grown so_far =
      let more : List A = flat_map f (marked_from (cond (ends_record text) (names_to_end rest) names) (n + 1) rest) in
      ap (λ (l : List A). l ++ more) grown
      ∙ append_assoc before (f (record { line = line_of n text; names = names })) more
      ∙ ap (λ (l : List (List ℕ)). before ++ flat_map f (marked_from names n l)) (sym is)
      ∙ so_far

  -- no line is left
  pub marked_end : (before whole : List A) (names : List (List ℕ)) (n : ℕ) (ts : List (List ℕ)) → ts ≡ [] → before ++ flat_map f (marked_from names n ts) ≡ whole → before ≡ whole
  unfolding marked_from
  marked_end before whole names n ts none so_far =
      sym (append-nil before) ∙ ap (λ (l : List (List ℕ)). before ++ flat_map f (marked_from names n l)) (sym none) ∙ so_far

-- what is told of a line, by what is let pass there and by its file
pub grown_by : {A : Type 0} (g : (names : List (List ℕ)) (file : List ℕ) → List A) (before after : List A) (own all : List (List ℕ)) (known file : List ℕ) → own ≡ all → known ≡ file
    → after ≡ before ++ g own known → after ≡ before ++ g all file
grown_by g before after own all known file e f grown = grown ∙ ap (λ (n : List (List ℕ)). before ++ g n known) e ∙ ap (λ (b : List ℕ). before ++ g all b) f

-- a text that is added in three pieces
pub three_pieces : (a b c d one two three : List ℕ) → b ≡ a ++ one → c ≡ b ++ two → d ≡ c ++ three → d ≡ a ++ (one ++ (two ++ three))
three_pieces a b c d one two three e f g =
    g ∙ ap (λ (l : List ℕ). l ++ three) (f ∙ ap (λ (l : List ℕ). l ++ two) e)
    ∙ append_assoc (a ++ one) two three ∙ append_assoc a one (two ++ three)
