-- Files of whose lines only the marks of comments have to be looked at.
use Rattle.std.proofs.Common.{add-one, append-nil, ◌≡◌, ℕ, zero, suc, ◌+◌, ◌<◌, ◌≤◌, ◌==◌, Bool, true, false, not, nat_eq, nat_lt, codes, List, [], ◌∷◌, ◌++◌, map, take, drop, get_or, length, refl, ap, ◌∙◌, sym, subst, cond, arith, Option, None, ◌||◌, ◌&&◌}
use Rattle.std.specs.Prelude.{filter, flat_map}
use Rattle.std.specs.List.{list_all, list_any, onto_first, position_or_len, starts_with}
use Rattle.std.specs.List.Sorted.{IsStrictlySortedBy}
use Rattle.std.specs.Option.{is_some, unwrap_or}
use Rattle.std.specs.BTreeMap.{is_at}
use Rattle.std.specs.BTreeSet.{contains}
use Rattle.std.specs.Map.{lookup}
use Rattle.std.specs.Ordering.{nat_cmp}
use Rattle.std.proofs.lemmas.Bool.{eqb-true, ltb-false, ltb-true}
use Rattle.std.proofs.lemmas.List.{drop_all, length-take-le, get_or-take}
use Rattle.std.proofs.Math.Seq.{drop-cons}
use Rattle.hwdb_spec.specs.Assignment.{Assignment}
use Rattle.hwdb_spec.specs.Folders.{same}
use Rattle.hwdb_spec_commands.specs.FormTable.{prefixes}
use Rattle.hwdb_spec.specs.Lines.{Line, begins_with, byte, clean_line, has, has_equals, has_key, is, is_blank, is_dropped, is_empty, is_match, is_none, is_property, key, lines, numbered, pieces, trimmed, value}
use Rattle.hwdb_spec_commands.specs.Properties.{before, misuse}
use Rattle.hwdb_spec.specs.Records.{assignments, faults}
use Rattle.hwdb_spec_commands.specs.Surroundings.{is_alone, is_elsewhere, is_given, is_read_below, is_unpaired, is_unread, prefix_of}
use Rattle.hwdb_spec_commands.specs.Unmatched.{is_unmatched, judgement_of, likelihood_of}
use Rattle.hwdb_spec_commands.specs.Warnings.{all_warnings, greatest, is_cut, line_kinds, is_spaced, line_warnings, repeated_lines, replacing}
use Rattle.hwdb_spec_commands.specs.declared.WarningKind.{WarningKind}
use Rattle.hwdb_spec_commands.specs.declared.vocabulary.Misuse.{Misuse}
use Rattle.hwdb_text.specs.declared.outcome.Given.{Given}
use Rattle.hwdb_text.specs.Laws.{SectionsAreTheBlock}
use Rattle.hwdb_text.specs.Views.{given_in}
use Rattle.hwdb_check.specs.Internal.{IsKnown, by_place, line_of, own, replacing_of}
use Rattle.hwdb_check.specs.declared.known.Known.{Known}
use Rattle.hwdb_check.specs.Plain.{AreQuiet, AreSteady, IsPlainAssignment, IsPlainFile, IsPlainPattern, IsPlainProperty, IsQuiet}
use Rattle.hwdb_check.proofs.AscendLemmas.{none_replaced}
use Rattle.hwdb_check.proofs.BracketLemmas.{no_empty_range, no_match_line, no_open_bracket}
use Rattle.hwdb_check.proofs.CalmLemmas.{calm_set}
use Rattle.hwdb_check.proofs.RecordLemmas.{AreRead, IsGiven, Steady, file_read}
use Rattle.hwdb_check.proofs.ReplaceLemmas.{some_replaces}
use Rattle.hwdb_check.proofs.WarningLemmas.{AreSilent, none_warned}

-- ---- what is told of assignments

abbrev IsOwn : Assignment → Type 0
IsOwn a = IsPlainAssignment a

steady_is : (n : ℕ) (all : List Assignment) → AreSteady n all → Steady own IsOwn n all
steady_is n [] h = tt
steady_is n (a ∷ more) h = (h.0, h.1, steady_is a.position.line more h.2)

not_elsewhere : (a : Assignment) → IsPlainAssignment a → is_elsewhere a ≡ false
not_elsewhere a p =
    let below : Bool = cond (is_read_below a.position.key (before (byte ":") (prefix_of a.position.pattern))) false (list_any (same (prefix_of a.position.pattern)) prefixes) in
    let of_driver : Bool = starts_with nat_eq a.position.pattern (codes "evdev:atkbd:") in
    ap (λ (b : Bool). cond (cond b of_driver false) true below) p.property.common.unlogged
    ∙ ap (λ (b : Bool). cond b false (list_any (same (prefix_of a.position.pattern)) prefixes)) (p.property.common.anywhere (before (byte ":") (prefix_of a.position.pattern)))

none_unread : (t : Assignment → Bool) (n : ℕ) (all : List Assignment) → AreSteady n all → cond (is_none (filter t all)) false (list_all is_elsewhere (filter t all)) ≡ false
none_unread t n [] h = refl
none_unread t n (a ∷ more) h = go (t a) (none_unread t a.position.line more h.2)
  where
    go : (b : Bool) → cond (is_none (filter t more)) false (list_all is_elsewhere (filter t more)) ≡ false
        → cond (is_none (cond b (a ∷ filter t more) (filter t more))) false (list_all is_elsewhere (cond b (a ∷ filter t more) (filter t more))) ≡ false
    go true r = ap (λ (b : Bool). b && list_all is_elsewhere (filter t more)) (not_elsewhere a h.1)
    go false r = r

not_alone : (all : List Assignment) (a : Assignment) → IsPlainAssignment a → is_alone all a ≡ false
unfolding pieces
not_alone all a p = ap (λ (text : List ℕ). list_any (λ key. not (is_given all a.position.pattern key)) (pieces (is (byte ",")) text)) p.property.common.alone

none_unpaired : (whole : List Assignment) (t : Assignment → Bool) (n : ℕ) (all : List Assignment) → AreSteady n all → list_any (is_alone whole) (filter t all) ≡ false
none_unpaired whole t n [] h = refl
none_unpaired whole t n (a ∷ more) h = go (t a) (none_unpaired whole t a.position.line more h.2)
  where
    go : (b : Bool) → list_any (is_alone whole) (filter t more) ≡ false → list_any (is_alone whole) (cond b (a ∷ filter t more) (filter t more)) ≡ false
    go true r = ap (λ (b : Bool). b || list_any (is_alone whole) (filter t more)) (not_alone whole a h.1) ∙ r
    go false r = r

-- ---- a byte that isn't in a file

first_not : (x y : Bool) → (x || y) ≡ false → x ≡ false
first_not true y e = e
first_not false y e = refl

rest_not : (x y : Bool) → (x || y) ≡ false → y ≡ false
rest_not true true e = e
rest_not true false e = refl
rest_not false y e = e

neither : (x y : Bool) → x ≡ false → y ≡ false → (x || y) ≡ false
neither true y e f = e
neither false y e f = f

module _ (b : ℕ) where
  abbrev AreFreeTexts : List (List ℕ) → Type 0
  AreFreeTexts [] = Unit {0}
  AreFreeTexts (t ∷ more) = (has b t ≡ false) × AreFreeTexts more

  abbrev pub AreFree : List Line → Type 0
  AreFree [] = Unit {0}
  AreFree (l ∷ more) = (has b l.text ≡ false) × AreFree more

  onto_free : (x : ℕ) (ps : List (List ℕ)) → is b x ≡ false → AreFreeTexts ps → AreFreeTexts (onto_first x ps)
  onto_free x [] e h = (neither (is b x) false e refl, tt)
  onto_free x (p ∷ ps) e h = (neither (is b x) (has b p) e h.0, h.1)

  texts_free : (file : List ℕ) → has b file ≡ false → AreFreeTexts (pieces (is 10) file)
  unfolding pieces
  texts_free [] e = tt
  texts_free (x ∷ rest) e = go (is 10 x) (texts_free rest (rest_not (is b x) (has b rest) e))
    where
      go : (t : Bool) → AreFreeTexts (pieces (is 10) rest) → AreFreeTexts (cond t ([] ∷ pieces (is 10) rest) (onto_first x (pieces (is 10) rest)))
      go true h = (refl, h)
      go false h = onto_free x (pieces (is 10) rest) (first_not (is b x) (has b rest) e) h

  numbered_free : (n : ℕ) (ps : List (List ℕ)) → AreFreeTexts ps → AreFree (numbered n ps)
  unfolding numbered
  numbered_free n [] h = tt
  numbered_free n (p ∷ ps) h = (h.0, numbered_free (n + 1) ps h.1)

  lines_free : (file : List ℕ) → has b file ≡ false → AreFree (lines file)
  lines_free file e = numbered_free 1 (pieces (is 10) file) (texts_free file e)

  take_free : (k : ℕ) (t : List ℕ) → has b t ≡ false → has b (take k t) ≡ false
  take_free zero t e = refl
  take_free (suc k) [] e = refl
  take_free (suc k) (x ∷ t) e = neither (is b x) (has b (take k t)) (first_not (is b x) (has b t) e) (take_free k t (rest_not (is b x) (has b t) e))

  trimmed_free : (t : List ℕ) → has b t ≡ false → has b (trimmed t) ≡ false
  unfolding trimmed
  trimmed_free [] e = refl
  trimmed_free (x ∷ t) e = go (cond (is_none (trimmed t)) (is_blank x) false) (trimmed_free t (rest_not (is b x) (has b t) e))
    where
      go : (g : Bool) → has b (trimmed t) ≡ false → has b (cond g [] (x ∷ trimmed t)) ≡ false
      go true h = refl
      go false h = neither (is b x) (has b (trimmed t)) (first_not (is b x) (has b t) e) h

  clean_free : (l : Line) → has b l.text ≡ false → has b (clean_line l).text ≡ false
  clean_free l e = trimmed_free (take (position_or_len (is 35) l.text) l.text) (take_free (position_or_len (is 35) l.text) l.text e)

-- ---- a line

none_text : (t : List ℕ) → is_none t ≡ true → t ≡ []
none_text [] e = refl
none_text (x ∷ t) e = cc

-- what is told of a file
record IsFlat (file : List ℕ) : Type 0 where
  repeated : repeated_lines file ≡ []
  replaced : (n : ℕ) → greatest (replacing file n) ≡ 0
  unread : (n : ℕ) → is_unread file n ≡ false
  unpaired : (n : ℕ) → is_unpaired file n ≡ false

module _ (file : List ℕ) (f : IsFlat file) (l : Line) where
  not_repeated : list_any (is l.number) (repeated_lines file) ≡ false
  not_repeated = ap (list_any (is l.number)) f.repeated

  not_replaced : not (is_none (replacing file l.number)) ≡ false
  not_replaced = some_replaces file l.number ∙ ap (nat_lt 0) (f.replaced l.number)

  cut_by : (p h c : Bool) → c ≡ false → cond p (cond h c false) false ≡ false
  cut_by true true c e = e
  cut_by true false c e = refl
  cut_by false h c e = refl

  spaced_by : (p h k s : Bool) → s ≡ false → cond p (cond h (cond k s false) false) false ≡ false
  spaced_by true true true s e = e
  spaced_by true true false s e = refl
  spaced_by true false k s e = refl
  spaced_by false h k s e = refl

  misused_by : (p h k s : Bool) (m : Option Misuse) → m ≡ None → is_some (cond p (cond h (cond k (cond s None m) None) None) None) ≡ false
  misused_by true true true true m e = refl
  misused_by true true true false m e = ap is_some e
  misused_by true true false s m e = refl
  misused_by true false k s m e = refl
  misused_by false h k s m e = refl

  no_misuse : (p : Bool) (m : Option Misuse) → p ≡ false → is_some (cond p m None) ≡ false
  no_misuse true m e = cc
  no_misuse false m e = refl

  judged_none : is_unmatched (judgement_of []) ≡ false
  unfolding judgement_of
  judged_none = refl

  likely_none : is_unmatched (likelihood_of []) ≡ false
  unfolding likelihood_of
  likely_none = refl

  likely_property : (t : List ℕ) → is_unmatched (likelihood_of (32 ∷ t)) ≡ false
  unfolding likelihood_of
  likely_property t = refl

  judged_property : (t : List ℕ) → is_unmatched (judgement_of (32 ∷ t)) ≡ false
  unfolding judgement_of
  judged_property t = refl

  abbrev Silent : List ℕ → Type 0
  Silent t = AreSilent file l (line_of l.number t) (line_kinds file (line_of l.number t))

  silent_empty : Silent []
  silent_empty =
      (refl, (refl, (refl, (refl, (refl, (refl, (refl, (not_repeated, (not_replaced, (refl, (f.unread l.number, (f.unpaired l.number, (judged_none, (likely_none, (refl, (refl, (refl, tt)))))))))))))))))

  silent_property : (t : List ℕ) → has 13 (32 ∷ t) ≡ false → is_cut l (line_of l.number (32 ∷ t)) ≡ false → IsGiven own IsOwn (line_of l.number (32 ∷ t)) → Silent (32 ∷ t)
  silent_property t h c g =
      let clean = line_of l.number (32 ∷ t) in
      let from = g.property refl in
      let one : IsPlainProperty (key clean) from.0.value = subst (λ (k : List ℕ). IsPlainProperty k from.0.value) from.2 from.1.property in
      let p : IsPlainProperty (key clean) (value clean) = subst (IsPlainProperty (key clean)) from.3 one in (
        refl,
        (
          refl,
          (
            h,
            (
              refl,
              (
                refl,
                (
                  spaced_by true (has_equals clean) (has_key clean) (is_spaced clean) p.spaced,
                  (
                    cut_by true (has_equals clean) (is_cut l clean) c,
                    (
                      not_repeated,
                      (
                        not_replaced,
                        (
                          misused_by true (has_equals clean) (has_key clean) (is_spaced clean) (misuse (key clean) (value clean)) (p.common.any (value clean)),
                          (f.unread l.number, (f.unpaired l.number, (judged_property t, (likely_property t, (refl, (refl, (refl, tt))))))),
                        ),
                      ),
                    ),
                  ),
                ),
              ),
            ),
          ),
        ),
      )

  silent_match : (t : List ℕ) → is_match (line_of l.number t) ≡ true → is_property (line_of l.number t) ≡ false → has 13 t ≡ false → IsGiven own IsOwn (line_of l.number t) → Silent t
  silent_match t m n h g =
      let clean = line_of l.number t in
      let from = g.pattern m in
      let p : IsPlainPattern t = subst IsPlainPattern from.2 from.1.pattern in (
        p.mark,
        (
          p.tab,
          (
            h,
            (
              no_open_bracket (is_match clean) t p.bracket,
              (
                no_empty_range (is_match clean) t p.bracket,
                (
                  no_match_line (is_property clean) _ n,
                  (
                    no_match_line (is_property clean) _ n,
                    (
                      not_repeated,
                      (
                        not_replaced,
                        (
                          no_misuse (is_property clean) _ n,
                          (f.unread l.number, (f.unpaired l.number, (p.judged, (p.likely, (p.short, (p.shallow, (p.lasting, tt))))))),
                        ),
                      ),
                    ),
                  ),
                ),
              ),
            ),
          ),
        ),
      )

  silent : (t : List ℕ) → has 13 t ≡ false → is_cut l (line_of l.number t) ≡ false → (is_none t ≡ false → IsGiven own IsOwn (line_of l.number t)) → Silent t
  silent [] h c g = silent_empty
  silent (x ∷ t) h c g = go (x == 32) refl
    where
      go : (b : Bool) → (x == 32) ≡ b → Silent (x ∷ t)
      go true e =
          subst
          (λ (y : ℕ). has 13 (y ∷ t) ≡ false → is_cut l (line_of l.number (y ∷ t)) ≡ false → IsGiven own IsOwn (line_of l.number (y ∷ t)) → Silent (y ∷ t))
          (sym (eqb-true x 32 e)) (silent_property t) h c (g refl)
      go false e = silent_match (x ∷ t) (ap not e) e h (g refl)

  quiet_line : (is_dropped l ≡ false → is_empty (clean_line l) ≡ false → IsGiven own IsOwn (clean_line l)) → has 13 l.text ≡ false → IsQuiet file l
  quiet_line g h = λ kept cut allowed. none_warned allowed file l (clean_line l) (silent (clean_line l).text (clean_free 13 l h) cut (g kept))

quiet_lines : (file : List ℕ) → IsFlat file → (ls : List Line) → AreRead own IsOwn ls → AreFree 13 ls → AreQuiet file ls
quiet_lines file f [] r h = tt
quiet_lines file f (l ∷ more) r h = (quiet_line file f l r.0 h.0, quiet_lines file f more r.1 h.1)

-- ---- a file

pub plain_file : SectionsAreTheBlock → (file : List ℕ) (all : List Given) → map (given_in own) all ≡ assignments own file → faults file ≡ [] → has 13 file ≡ false
    → IsStrictlySortedBy by_place all → AreSteady 0 (map (given_in own) all) → IsPlainFile file
plain_file law file all e none free sorted s =
    let whole : List Assignment = assignments own file in
    let steady : AreSteady 0 whole = subst (AreSteady 0) e s in
    let r = file_read own IsOwn law file none (steady_is 0 whole steady) in
    let flat : IsFlat file = record {
      repeated = r.1;
      replaced = λ n. ap (λ (all : List Assignment). greatest (replacing_of all all n)) (sym e) ∙ none_replaced all sorted n;
      unread = λ n. none_unread (λ a. is n a.position.line) 0 whole steady;
      unpaired = λ n. none_unpaired whole (λ a. is n a.position.line) 0 whole steady;
    } in
    record {
      faultless = none;
      repeated = flat.repeated;
      replaced = flat.replaced;
      unread = flat.unread;
      unpaired = flat.unpaired;
      quiet = quiet_lines file flat (lines file) r.0 (lines_free 13 file free);
    }

-- ---- a line that a `#` may cut

trimmed_within : (t : List ℕ) → length (trimmed t) ≤ length t
unfolding trimmed
trimmed_within [] = omega arith
trimmed_within (x ∷ t) = go (cond (is_none (trimmed t)) (is_blank x) false) (trimmed_within t)
  where
    go : (g : Bool) → length (trimmed t) ≤ length t → length (cond g [] (x ∷ trimmed t)) ≤ suc (length t)
    go true h = omega arith
    go false h = omega (arith, h)

-- a blank at the end is taken away
trimmed_shorter : (t : List ℕ) (k d : ℕ) → suc k ≡ length t → is_blank (get_or t k d) ≡ true → length (trimmed t) ≤ k
unfolding trimmed
trimmed_shorter [] k d e b = absurd (omega (arith, e))
trimmed_shorter (x ∷ []) zero d e b = let none : length (cond (is_blank x) [] (x ∷ [])) ≡ 0 = ap (λ (g : Bool). length (cond g [] (x ∷ []))) b in omega (arith, none)
trimmed_shorter (x ∷ []) (suc k) d e b = absurd (omega (arith, e))
trimmed_shorter (x ∷ (y ∷ t)) zero d e b = absurd (omega (arith, e))
trimmed_shorter (x ∷ (y ∷ t)) (suc k) d e b = go (cond (is_none (trimmed (y ∷ t))) (is_blank x) false) (trimmed_shorter (y ∷ t) k d (omega (arith, e)) b)
  where
    go : (g : Bool) → length (trimmed (y ∷ t)) ≤ k → length (cond g [] (x ∷ trimmed (y ∷ t))) ≤ suc k
    go true h = omega arith
    go false h = omega (arith, h)

-- no `#` comes before the first
not_there : (k : ℕ) (t : List ℕ) → k < position_or_len (is 35) t → begins_with 35 (drop k t) ≡ false
not_there k [] h = absurd (omega (arith, h))
not_there k (x ∷ t) h = go (is 35 x) refl k h (λ j. not_there j t)
  where
    go : (b : Bool) → is 35 x ≡ b → (k : ℕ) → k < cond (not b) (1 + position_or_len (is 35) t) 0 → ((j : ℕ) → j < position_or_len (is 35) t → begins_with 35 (drop j t) ≡ false)
        → begins_with 35 (drop k (x ∷ t)) ≡ false
    go true e k h r = absurd (omega (arith, h))
    go false e zero h r = e
    go false e (suc k) h r = r k (omega (arith, h))

not_after : (k : ℕ) (t : List ℕ) → length t ≤ k → begins_with 35 (drop k t) ≡ false
not_after k t h = ap (begins_with 35) (drop_all k t h)

pub uncut_without : (t : List ℕ) → position_or_len (is 35) t ≡ length t → is_cut (line_of 0 t) (clean_line (line_of 0 t)) ≡ false
uncut_without t e = go (nat_lt size (length t)) refl
  where
    size : ℕ
    size = length (trimmed (take (position_or_len (is 35) t) t))

    go : (b : Bool) → nat_lt size (length t) ≡ b → begins_with 35 (drop size t) ≡ false
    go true l = let h = ltb-true size (length t) l in not_there size t (omega (arith, h, e))
    go false l = let h = ltb-false size (length t) l in not_after size t h

pub uncut_blank : (t : List ℕ) (place k d : ℕ) → place ≡ position_or_len (is 35) t → place ≡ suc k → place ≤ length t → is_blank (get_or t k d) ≡ true
    → is_cut (line_of 0 t) (clean_line (line_of 0 t)) ≡ false
uncut_blank t place k d e next within b =
    let front : List ℕ = take place t in
    let size : length front ≡ place = length-take-le place t within in
    let last : is_blank (get_or front k d) ≡ true = ap is_blank (get_or-take place t k d (omega (arith, next))) ∙ b in
    let short : length (trimmed front) ≤ k = trimmed_shorter front k d (sym (size ∙ next)) last in
    subst (λ (n : ℕ). begins_with 35 (drop (length (trimmed (take n t))) t) ≡ false) e (not_there (length (trimmed front)) t (omega (arith, short, e, next)))

pub blank_space : (b : ℕ) → b ≡ 32 → is_blank b ≡ true
blank_space b e = ap is_blank e

pub blank_tab : (b : ℕ) → b ≡ 9 → is_blank b ≡ true
blank_tab b e = ap is_blank e

pub no_members : {A : Type 0} (xs : List A) → length xs ≡ 0 → xs ≡ []
no_members [] e = refl
no_members (x ∷ xs) e = absurd (omega (arith, e))

-- ---- loops

pub false_if : (b : Bool) → not b ≡ true → b ≡ false
false_if true e = cc
false_if false e = refl

-- what is left passes, so the whole does
pub steady_step : (all : List Given) (i above : ℕ) (d : Given) (W : Type 0) → i < length all → above < (get_or all i d).line → IsPlainAssignment (given_in own (get_or all i d))
    → (AreSteady above (map (given_in own) (drop i all)) → W) → AreSteady (get_or all i d).line (map (given_in own) (drop (i + 1) all)) → W
steady_step all i above d W h below plain f more =
    f (subst (λ (l : List Given). AreSteady above (map (given_in own) l)) (sym (drop-cons all i d h))
    (below, plain, subst (λ (n : ℕ). AreSteady (get_or all i d).line (map (given_in own) (drop n all))) (add-one i) more))

pub steady_end : (all : List Given) (i above : ℕ) (W : Type 0) → length all ≤ i → (AreSteady above (map (given_in own) (drop i all)) → W) → W
steady_end all i above W h f = f (subst (λ (l : List Given). AreSteady above (map (given_in own) l)) (sym (drop_all i all h)) tt)

-- ---- lines without a warning

no_comment : (c z : Bool) → cond c true z ≡ false → c ≡ false
no_comment true z e = e
no_comment false z e = refl

pub no_warnings : (file : List ℕ) (l : Line) → IsQuiet file l → (begins_with 35 l.text ≡ false → is_cut l (clean_line l) ≡ false) → (allowed : List (List ℕ)) → line_warnings allowed file l ≡ []
no_warnings file l q uncut allowed = go (is_dropped l) refl
  where
    go : (b : Bool) → is_dropped l ≡ b → cond b [] (all_warnings allowed file l (clean_line l)) ≡ []
    go true e = refl
    go false e = q e (uncut (no_comment (begins_with 35 l.text) (has 0 l.text) e)) allowed

pub nothing_told : {A : Type 0} (f : WarningKind → List A) (old : List A) (kinds : List WarningKind) → kinds ≡ [] → old ≡ old ++ flat_map f kinds
nothing_told f old kinds e = sym (append-nil old) ∙ ap (λ (ks : List WarningKind). old ++ flat_map f ks) (sym e)

pub first_quiet : (file : List ℕ) (n : ℕ) (t : List ℕ) (rest left : List (List ℕ)) → left ≡ t ∷ rest → AreQuiet file (numbered n left) → IsQuiet file (line_of n t) × AreQuiet file (numbered (n + 1) rest)
unfolding numbered
first_quiet file n t rest left e h = subst (λ (l : List (List ℕ)). AreQuiet file (numbered n l)) e h

-- ---- what is known of a plain file

pub known_nothing : (k : Known) → IsPlainFile k.bytes.now → k.repeated.keys ≡ [] → k.replaced.entries ≡ [] → k.unread.elsewhere.keys ≡ [] → k.unpaired.keys ≡ [] → IsKnown k
known_nothing k p e f g h = record {
  repeated = calm_set k.bytes.now k.repeated p.repeated e;
  replaced = λ n. ap (λ es. unwrap_or (lookup (is_at (nat_cmp n)) es) 0) f ∙ sym (p.replaced n);
  unread = λ n. ap (λ (b : Bool). cond b (not (contains nat_cmp k.unread.read n)) false) (calm_set k.bytes.now k.unread.elsewhere p.repeated g n ∙ ap (list_any (is n)) p.repeated) ∙ sym (p.unread n);
  unpaired = λ n. calm_set k.bytes.now k.unpaired p.repeated h n ∙ ap (list_any (is n)) p.repeated ∙ sym (p.unpaired n);
}
