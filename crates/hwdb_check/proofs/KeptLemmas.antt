-- What is kept of the names that are let pass lets the same kinds pass.
use Rattle.std.proofs.Common.{◌≡◌, ℕ, List, [], ◌∷◌, ◌++◌, ◌||◌, refl, ap, ◌∙◌, sym, Bool, true, false, cond, not}
use Rattle.std.specs.Prelude.{◌&&◌, codes, flat_map}
use Rattle.std.specs.List.{list_any}
use Rattle.std.proofs.lemmas.List.Folds.{list_any-append}
use Rattle.std.proofs.lemmas.List.Elements.{filter_agree}
use Rattle.hwdb_spec.specs.Folders.{same}
use Rattle.hwdb_spec.specs.Lemmas.Orders.{same_text}
use Rattle.hwdb_spec.specs.Lines.{is, pieces, trimmed}
use Rattle.hwdb_spec.specs.declared.Judgement.TheVariants.{Dead, Fine, UnknownPrefix}
use Rattle.hwdb_spec_commands.specs.AllowedKinds.{names_in}
use Rattle.hwdb_spec_commands.specs.Kinds.{warning_name}
use Rattle.hwdb_spec_commands.specs.Warnings.{gets, line_kinds, line_warnings, warns}
use Rattle.hwdb_spec.specs.Lines.{Line, clean_line, is_dropped}
use Rattle.hwdb_spec_commands.specs.declared.WarningKind.{WarningKind}
use Rattle.hwdb_spec_commands.specs.declared.WarningKind.TheVariants.{ByteOrderMark, CarriageReturn, CutValue, EmptyRange, Fragile, LeadingTab, MayBeTooDeep, Misused, OpenBracket, RepeatedMatch, Replaced, SpacedEquals, TooLongForUdev, Unlikely, Unmatched, Unpaired, Unread}
use Rattle.hwdb_spec_commands.specs.declared.kinds.TheConstants.{KINDS}
use Rattle.hwdb_spec_commands.specs.declared.vocabulary.Misuse.TheVariants.{NearName, OldName, ScanCode, SingularMatrix, TwoDefaults, UnfitValue, UnknownKey, ZeroRow}
use Rattle.hwdb_check.specs.Kept.{AreAlike, is_named, kept, kept_of}
use Rattle.hwdb_check.proofs.AllowedLemmas.{any_among}

-- the names of kinds
abbrev kinds : List (List ℕ)
kinds = pieces (is 10) KINDS.now

-- the only name in each of some texts is that text
abbrev AreOne : List (List ℕ) → Type 0
AreOne [] = true ≡ true
AreOne (k ∷ ks) = (names_in k ≡ k ∷ []) × AreOne ks

kinds_are_one : AreOne kinds
unfolding pieces trimmed
kinds_are_one = (refl, (refl, (refl, (refl, (refl, (refl, (refl, (refl, (refl, (refl, (refl, (refl, (refl, (refl, (refl, (refl, (refl, (refl, (refl, (refl, (refl, (refl, (refl, (refl, (refl, refl)))))))))))))))))))))))))

or_false : (b : Bool) → (b || false) ≡ b
or_false true = refl
or_false false = refl

apart : (a b m : Bool) → ((a && m) || (b && m)) ≡ ((a || b) && m)
apart true true true = refl
apart true true false = refl
apart true false true = refl
apart true false false = refl
apart false b m = refl

-- the only name in a comma is the empty one
of_comma : (x : List ℕ) → list_any (same x) (names_in (codes ",")) ≡ same x []
unfolding pieces trimmed
of_comma x = or_false (same x [])

-- a name is kept if it is one of those in some texts
any_kept : (ts : List (List ℕ)) (x name text : List ℕ) → list_any (same x) (names_in text) ≡ same x name
    → list_any (same x) (kept_of ts name text) ≡ (same x name && is_named ts x)
any_kept ts x name text own = by (is_named ts name) (same x name) refl refl
  where
    by : (n s : Bool) → is_named ts name ≡ n → same x name ≡ s → list_any (same x) (cond n (names_in text) []) ≡ (s && is_named ts x)
    by true true en es = own ∙ es ∙ sym (ap (is_named ts) (same_text x name es) ∙ en)
    by true false en es = own ∙ es
    by false true en es = sym (ap (is_named ts) (same_text x name es) ∙ en)
    by false false en es = refl

any_all : (ts : List (List ℕ)) (x : List ℕ) (ks : List (List ℕ)) → AreOne ks
    → list_any (same x) (flat_map (λ name. kept_of ts name name) ks) ≡ (list_any (same x) ks && is_named ts x)
any_all ts x [] are = refl
any_all ts x (k ∷ ks) are =
    list_any-append (same x) (kept_of ts k k) (flat_map (λ name. kept_of ts name name) ks)
    ∙ ap (λ b. b || list_any (same x) (flat_map (λ name. kept_of ts name name) ks)) (any_kept ts x k k (ap (list_any (same x)) are.0 ∙ or_false (same x k)))
    ∙ ap (λ b. (same x k && is_named ts x) || b) (any_all ts x ks are.1)
    ∙ apart (same x k) (list_any (same x) ks) (is_named ts x)

known : (kind : WarningKind) → (same (warning_name kind) [] || list_any (same (warning_name kind)) kinds) ≡ true
unfolding pieces
known ByteOrderMark = refl
known LeadingTab = refl
known CarriageReturn = refl
known OpenBracket = refl
known EmptyRange = refl
known SpacedEquals = refl
known CutValue = refl
known RepeatedMatch = refl
known (Replaced by) = refl
known (Misused NearName) = refl
known (Misused OldName) = refl
known (Misused ScanCode) = refl
known (Misused UnknownKey) = refl
known (Misused UnfitValue) = refl
known (Misused ZeroRow) = refl
known (Misused SingularMatrix) = refl
known (Misused TwoDefaults) = refl
known (Unread true) = refl
known (Unread false) = refl
known Unpaired = refl
known (Unmatched Fine) = refl
known (Unmatched UnknownPrefix) = refl
known (Unmatched (Dead place)) = refl
known (Unlikely told) = refl
known TooLongForUdev = refl
known MayBeTooDeep = refl
known Fragile = refl

-- what is kept lets the same kinds pass
pub kept_alike : (ts : List (List ℕ)) → AreAlike (kept ts) (flat_map names_in ts)
kept_alike ts kind =
    let x = warning_name kind in
    let front = kept_of ts [] (codes ",") in
    let rest = flat_map (λ name. kept_of ts name name) kinds in
    ap not
    (list_any-append (same x) front rest
    ∙ ap (λ b. b || list_any (same x) rest) (any_kept ts x [] (codes ",") (of_comma x))
    ∙ ap (λ b. (same x [] && is_named ts x) || b) (any_all ts x kinds kinds_are_one)
    ∙ apart (same x []) (list_any (same x) kinds) (is_named ts x)
    ∙ ap (λ b. b && is_named ts x) (known kind)
    ∙ any_among (same x) ts)

-- a line's warnings that are left are the same
pub same_left : (names others : List (List ℕ)) → AreAlike names others → (file : List ℕ) (l : Line) → line_warnings names file l ≡ line_warnings others file l
same_left names others are file l =
    ap (λ (ws : List WarningKind). cond (is_dropped l) [] ws)
    (filter_agree (gets names file l (clean_line l)) (gets others file l (clean_line l))
    (λ kind. ap (λ (b : Bool). cond b (warns file kind l (clean_line l)) false) (are kind)) (line_kinds file (clean_line l)))

-- a text that grows by what is left of a line
pub grown_alike : {A : Type 0} (h : List WarningKind → List A) (before after : List A) (own all : List (List ℕ)) (known file : List ℕ) (l : Line) → AreAlike own all → known ≡ file
    → after ≡ before ++ h (line_warnings own known l) → after ≡ before ++ h (line_warnings all file l)
grown_alike h before after own all known file l are f grown =
    grown ∙ ap (λ (b : List ℕ). before ++ h (line_warnings own b l)) f ∙ ap (λ (ws : List WarningKind). before ++ h ws) (same_left own all are file l)
