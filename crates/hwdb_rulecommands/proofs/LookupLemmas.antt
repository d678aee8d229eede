-- What the words of a command of hwdb ask, word by word.
use Rattle.std.proofs.Common.{◌≡◌, ℕ, Bool, true, false, List, [], ◌∷◌, ◌++◌, refl, sym, ap, ◌∙◌, Option, Some, None, cond, nat_eq, not, drop, length, eq-eqb, eqb-true, ◌&&◌}
use Rattle.std.specs.List.{find, starts_with}
use Rattle.hwdb_rulecommands.specs.LookupCommands.{Lookup, is_option, prefix_option, subsystem_option, with_word, with_words, with_subsystem, with_prefix, with_text, first_text, nothing}
use Rattle.hwdb_rulecommands.specs.Laws.{LookupLaws, is_followed}

-- what a word asks, by the three tests
subsystem_here : (l : Lookup) (word : List ℕ) → starts_with nat_eq word subsystem_option ≡ true
    → with_word l word ≡ Some (with_subsystem l (drop (length subsystem_option) word))
subsystem_here l word e = rw e refl

prefix_here : (l : Lookup) (word : List ℕ) → starts_with nat_eq word subsystem_option ≡ false → starts_with nat_eq word prefix_option ≡ true
    → with_word l word ≡ Some (with_prefix l (drop (length prefix_option) word))
prefix_here l word e p = rw e (rw p refl)

other_here : (l : Lookup) (word : List ℕ) → starts_with nat_eq word subsystem_option ≡ false → starts_with nat_eq word prefix_option ≡ false
    → with_word l word ≡ cond (is_option word) None (Some (with_text l word))
other_here l word e p = rw e (rw p refl)

unfollowed_here : (l : Lookup) (word : List ℕ) → is_option word ≡ true → is_followed word ≡ false → with_word l word ≡ None
unfollowed_here l word o f = by (starts_with nat_eq word subsystem_option) (starts_with nat_eq word prefix_option) refl refl f
  where
    by : (s p : Bool) → starts_with nat_eq word subsystem_option ≡ s → starts_with nat_eq word prefix_option ≡ p → cond s true p ≡ false → with_word l word ≡ None
    by true p x y h = cc
    by false true x y h = cc
    by false false x y h = other_here l word x y ∙ ap (λ (b : Bool). cond b None (Some (with_text l word))) o

unfollowed_in : (o : Option Lookup) (front more : List (List ℕ)) (word : List ℕ) → is_option word ≡ true → is_followed word ≡ false
    → with_words o (front ++ (word ∷ more)) ≡ None
unfollowed_in None front more word o f = refl
unfollowed_in (Some l) [] more word o f = ap (λ (x : Option Lookup). with_words x more) (unfollowed_here l word o f)
unfollowed_in (Some l) (w ∷ front) more word o f = unfollowed_in (with_word l w) front more word o f

-- the text so far, or else the first one of these words
abbrev text_of : Option (List ℕ) → List (List ℕ) → Option (List ℕ)
text_of None words = find (λ word. not (is_option word)) words
text_of (Some text) words = Some text

first_yes : (x y : Bool) → (x && y) ≡ true → x ≡ true
first_yes true y e = refl
first_yes false y e = e

no_end : (x : Bool) → (x && false) ≡ true → false ≡ true
no_end true e = e
no_end false e = e

-- both options begin with two dashes
begins_twice : (word : List ℕ) (rest : List ℕ) → starts_with nat_eq word (45 ∷ 45 ∷ rest) ≡ true → is_option word ≡ true
begins_twice [] rest e = cc
begins_twice (a ∷ []) rest e = let no : false ≡ true = no_end (nat_eq 45 a) e in cc
begins_twice (a ∷ b ∷ word) rest e = rw (eq-eqb a 45 (sym (eqb-true 45 a (first_yes (nat_eq 45 a) _ e)))) refl

none_more : (t : Option (List ℕ)) → t ≡ text_of t []
none_more None = refl
none_more (Some text) = refl

passed : (t : Option (List ℕ)) (word : List ℕ) (more : List (List ℕ)) → is_option word ≡ true → text_of t more ≡ text_of t (word ∷ more)
passed None word more o = rw o refl
passed (Some text) word more o = refl

took : (t : Option (List ℕ)) (word : List ℕ) (more : List (List ℕ)) → is_option word ≡ false → text_of (first_text t word) more ≡ text_of t (word ∷ more)
took None word more o = rw o refl
took (Some text) word more o = refl

one_word : (s l : Lookup) (word : List ℕ) (more : List (List ℕ)) → with_words (with_word s word) more ≡ Some l
    → ((next : Lookup) → with_words (Some next) more ≡ Some l → l.text ≡ text_of next.text more) → l.text ≡ text_of s.text (word ∷ more)
one_word s l word more e others =
    by (starts_with nat_eq word subsystem_option) (starts_with nat_eq word prefix_option) (is_option word) refl refl refl
  where
    goes : (x : Option Lookup) → with_word s word ≡ x → with_words x more ≡ Some l
    goes x h = sym (ap (λ (o : Option Lookup). with_words o more) h) ∙ e

    by : (x y o : Bool) → starts_with nat_eq word subsystem_option ≡ x → starts_with nat_eq word prefix_option ≡ y → is_option word ≡ o
        → l.text ≡ text_of s.text (word ∷ more)
    by true y o f g h =
        others (with_subsystem s (drop (length subsystem_option) word)) (goes _ (subsystem_here s word f))
        ∙ passed s.text word more (begins_twice word (drop 2 subsystem_option) f)
    by false true o f g h =
        others (with_prefix s (drop (length prefix_option) word)) (goes _ (prefix_here s word f g)) ∙ passed s.text word more (begins_twice word (drop 2 prefix_option) g)
    by false false true f g h =
        let none : None ≡ Some l = goes None (other_here s word f g ∙ ap (λ (b : Bool). cond b None (Some (with_text s word))) h) in cc
    by false false false f g h =
        others (with_text s word) (goes _ (other_here s word f g ∙ ap (λ (b : Bool). cond b None (Some (with_text s word))) h)) ∙ took s.text word more h

abbrev text_in : Option Lookup → Option (List ℕ)
text_in None = None
text_in (Some l) = l.text

text_from : (s l : Lookup) (words : List (List ℕ)) → with_words (Some s) words ≡ Some l → l.text ≡ text_of s.text words
text_from s l [] e = sym (ap text_in e) ∙ none_more s.text
text_from s l (word ∷ more) e = one_word s l word more e (λ next. text_from next l more)

pub lookup_laws_hold : LookupLaws
lookup_laws_hold = record {
  text = λ words l. text_from nothing l words;
  unfollowed = unfollowed_in (Some nothing);
}
