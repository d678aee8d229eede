-- Which changes count, and the name of a file.
use Rattle.std.proofs.Common.{◌≡◌, ◌∙◌, ◌<◌, ◌≤◌, ◌+◌, ◌++◌, ◌==◌, ◌||◌, add-one, ap, append_assoc, arith, eqb-true, refl, sym, ℕ, zero, suc, Bool, true, false, cond, List, [], ◌∷◌, drop, get_or, length, map, nat_eq, take, if◌then◌else◌}
use Rattle.std.specs.Prelude.{filter, slice_index}
use Rattle.std.specs.List.{list_any, starts_with}
use Rattle.std.proofs.Math.Seq.{drop-cons}
use Rattle.std.proofs.lemmas.List.{append-nil, drop_all, take-append-drop}
use Rattle.std.proofs.lemmas.List.Elements.{filter-append}
use Rattle.memchr.specs.Find.{Nowhere, Passes, is_byte}
use Rattle.hwdb_spec.specs.Lines.{byte, has}
use Rattle.hwdb_spec_commands.specs.Differences.{Change}
use Rattle.hwdb_spec_commands.specs.Reviews.{given_path}
use Rattle.hwdb_spec_commands.specs.Sides.{file_name, given_front}

-- ---- a loop over a list that looks for a member
module _ {X Y : Type 0} (t : Y → Bool) (f : X → Y) where
  next : (l : List X) (i : ℕ) (d : X) → i < length l → list_any t (map f (drop i l)) ≡ (t (f (get_or l i d)) || list_any t (map f (drop (suc i) l)))
  next l i d h = rw (drop-cons l i d h) refl

  pub any_found : (l : List X) (i : ℕ) (d : X) (r whole : Bool) → i < length l → r ≡ t (f (get_or l i d)) → r ≡ true → list_any t (map f (drop i l)) ≡ whole → true ≡ whole
  any_found l i d r whole h e is w = sym (next l i d h ∙ ap (λ b. b || list_any t (map f (drop (suc i) l))) (sym e ∙ is)) ∙ w

  pub any_passed : (l : List X) (i n : ℕ) (d : X) (r whole : Bool) → i < length l → n ≡ suc i → r ≡ t (f (get_or l i d)) → r ≡ false → list_any t (map f (drop i l)) ≡ whole
      → list_any t (map f (drop n l)) ≡ whole
  any_passed l i n d r whole h k e is w =
      ap (λ (j : ℕ). list_any t (map f (drop j l))) k ∙ sym (next l i d h ∙ ap (λ b. b || list_any t (map f (drop (suc i) l))) (sym e ∙ is)) ∙ w

  pub any_none : (l : List X) (i : ℕ) (whole : Bool) → length l ≤ i → list_any t (map f (drop i l)) ≡ whole → false ≡ whole
  any_none l i whole h w = ap (λ r. list_any t (map f r)) (sym (drop_all i l h)) ∙ w

-- ---- the name after the last slash
later : (b : ℕ) (text : List ℕ) → has (byte "/") text ≡ true → has (byte "/") (b ∷ text) ≡ true
later b text more = ap (λ (h : Bool). (b == 47) || h) more ∙ or_true (b == 47)
  where
    or_true : (x : Bool) → (x || true) ≡ true
    or_true true = refl
    or_true false = refl

has_slash : (before after : List ℕ) → has (byte "/") (before ++ byte "/" ∷ after) ≡ true
has_slash [] after = refl
has_slash (b ∷ before) after = later b (before ++ byte "/" ∷ after) (has_slash before after)

name_after : (before after : List ℕ) → file_name (before ++ byte "/" ∷ after) ≡ file_name after
unfolding file_name
name_after [] after = refl
name_after (b ∷ before) after =
    ap (λ (h : Bool). if h then file_name (before ++ byte "/" ∷ after) else b ∷ (before ++ byte "/" ∷ after)) (has_slash (b ∷ before) after) ∙ name_after before after

name_alone : (name : List ℕ) → has (byte "/") name ≡ false → file_name name ≡ name
unfolding file_name
name_alone [] plain = refl
name_alone (b ∷ more) plain = ap (λ (h : Bool). if h then file_name more else b ∷ more) plain

-- no slash comes from a place on
abbrev NoneFrom : List ℕ → ℕ → Type 0
NoneFrom path j = Nowhere (Passes (is_byte 47) path) j (length path)

shifted : (b : ℕ) (bs : List ℕ) (j : ℕ) → NoneFrom (b ∷ bs) (suc j) → NoneFrom bs j
shifted b bs j h = λ k low high is. h (suc k) (omega (arith, low)) (omega (arith, high)) is

false_of : (x : Bool) → (x ≡ true → ⊥) → x ≡ false
false_of true h = absurd (h refl)
false_of false h = refl

none_left : (path : List ℕ) (j : ℕ) → NoneFrom path j → has (byte "/") (drop j path) ≡ false
none_left [] zero h = refl
none_left [] (suc j) h = refl
none_left (b ∷ bs) zero h =
    ap (λ (x : Bool). x || has (byte "/") bs) (false_of (b == 47) (λ is. h 0 (omega arith) (omega arith) is))
    ∙ none_left bs zero (λ k low high is. h (suc k) (omega arith) (omega (arith, high)) is)
none_left (b ∷ bs) (suc j) h = none_left bs j (shifted b bs j h)

slash_of : (x : ℕ) → (x == 47) ≡ true → x ≡ 47
slash_of x is = eqb-true x 47 is

pub named_after : (path : List ℕ) (k : ℕ) → k < length path → (slice_index path k == 47) ≡ true → NoneFrom path (k + 1) → drop (k + 1) path ≡ file_name path
named_after path k h slash none =
    let here : drop k path ≡ byte "/" ∷ drop (suc k) path = drop-cons path k 0 h ∙ ap (λ (b : ℕ). b ∷ drop (suc k) path) (slash_of (slice_index path k) slash) in
    let whole : path ≡ take k path ++ byte "/" ∷ drop (suc k) path = sym (take-append-drop k path) ∙ ap (λ (l : List ℕ). take k path ++ l) here in
    sym (name_alone (drop (k + 1) path) (none_left path (k + 1) none)) ∙ ap (λ (n : ℕ). file_name (drop n path)) (add-one k)
    ∙ sym (name_after (take k path) (drop (suc k) path)) ∙ ap file_name (sym whole)

pub named_whole : (path : List ℕ) → NoneFrom path 0 → path ≡ file_name path
named_whole path none = sym (name_alone path (none_left path 0 none))

-- ---- those that count

-- what was kept, what is kept of the next changes, and of those after them
pub filtered : (t : Change → Bool) (kept next : List Change) (all changes more : List Change) → all ≡ changes ++ more → next ≡ kept ++ filter t changes
    → next ++ filter t more ≡ kept ++ filter t all
filtered t kept next all changes more is n =
    ap (λ l. l ++ filter t more) n ∙ append_assoc kept (filter t changes) (filter t more) ∙ ap (λ l. kept ++ l) (sym (ap (filter t) is ∙ filter-append t changes more))

pub kept_one : (t : Change → Bool) (c : Change) (changes now before : List Change) → changes ≡ c ∷ [] → t c ≡ true → now ≡ before ++ c ∷ [] → now ≡ before ++ filter t changes
kept_one t c changes now before one is n = n ∙ ap (λ l. before ++ l) (sym (ap (filter t) one ∙ ap (λ (b : Bool). cond b (c ∷ []) []) is))

pub left_one : (t : Change → Bool) (c : Change) (changes before : List Change) → changes ≡ c ∷ [] → t c ≡ false → before ≡ before ++ filter t changes
left_one t c changes before one is = sym (append-nil before) ∙ ap (λ l. before ++ l) (sym (ap (filter t) one ∙ ap (λ (b : Bool). cond b (c ∷ []) []) is))

pub left_none : (t : Change → Bool) (changes before : List Change) → changes ≡ [] → before ≡ before ++ filter t changes
left_none t changes before none = sym (append-nil before) ∙ ap (λ l. before ++ l) (sym (ap (filter t) none))

-- ---- the path that was given
pub given_cut : (path : List ℕ) (b : Bool) → b ≡ starts_with nat_eq path given_front → b ≡ true → drop (length given_front) path ≡ given_path path
given_cut path b starts is = sym (ap (λ (t : Bool). cond t (drop (length given_front) path) path) (sym starts ∙ is))
