-- Words, byte by byte.
use Rattle.std.proofs.Common.{◌≡◌, ℕ, Bool, true, false, List, [], ◌∷◌, ◌++◌, refl, sym, ap, ◌∙◌, append_assoc, append-nil, arith, ◌==◌, eq-eqb, cond, not, ◌||◌}
use Rattle.std.specs.List.{list_any}
use Rattle.std.proofs.lemmas.Bool.Decides.{nat_tests}
use Rattle.hwdb_spec.specs.Lines.{has}
use Rattle.hwdb_rulecommands.specs.CommandWords.{is_gap, is_quote, words, words_from, Word, Quoted}
use Rattle.hwdb_rulecommands.specs.Laws.{WordLaws, is_mark, is_plain}

-- a gap ends a word
at_gap : (word rest : List ℕ) (gap : ℕ) → is_gap gap ≡ true → words_from (Word word) (gap ∷ rest) ≡ word ∷ words rest
at_gap word rest gap e = rw e refl

-- a byte that is no mark
at_byte : (word rest : List ℕ) (b : ℕ) → is_mark b ≡ false → words_from (Word word) (b ∷ rest) ≡ words_from (Word (word ++ (b ∷ []))) rest
at_byte word rest b e = by (is_gap b) (is_quote b) refl refl e
  where
    by : (g q : Bool) → is_gap b ≡ g → is_quote b ≡ q → cond g true q ≡ false
        → words_from (Word word) (b ∷ rest) ≡ words_from (Word (word ++ (b ∷ []))) rest
    by true q x y h = cc
    by false true x y h = cc
    by false false x y h = rw x (rw y refl)

begins : (rest : List ℕ) (b : ℕ) → is_mark b ≡ false → words (b ∷ rest) ≡ words_from (Word (b ∷ [])) rest
begins rest b e = by (is_gap b) (is_quote b) refl refl e
  where
    by : (g q : Bool) → is_gap b ≡ g → is_quote b ≡ q → cond g true q ≡ false → words (b ∷ rest) ≡ words_from (Word (b ∷ [])) rest
    by true q x y h = cc
    by false true x y h = cc
    by false false x y h = rw x (rw y refl)

first_no : (x y : Bool) → (x || y) ≡ false → x ≡ false
first_no true y e = e
first_no false y e = refl

then_no : (x y : Bool) → (x || y) ≡ false → y ≡ false
then_no true y e = cc
then_no false y e = e

-- bytes that are no marks
run : (front word more : List ℕ) → list_any is_mark word ≡ false → words_from (Word front) (word ++ more) ≡ words_from (Word (front ++ word)) more
run front [] more none = ap (λ (l : List ℕ). words_from (Word l) more) (sym (append-nil front))
run front (b ∷ word) more none =
    at_byte front (word ++ more) b (first_no (is_mark b) (list_any is_mark word) none)
    ∙ run (front ++ (b ∷ [])) word more (then_no (is_mark b) (list_any is_mark word) none)
    ∙ ap (λ (l : List ℕ). words_from (Word l) more) (append_assoc front (b ∷ []) word)

in_quotes : (quote : ℕ) (front rest : List ℕ) (b : ℕ) → (b == quote) ≡ false
    → words_from (Quoted quote front) (b ∷ rest) ≡ words_from (Quoted quote (front ++ (b ∷ []))) rest
in_quotes quote front rest b e = rw e refl

-- bytes within quotes
run_quoted : (quote : ℕ) (front word more : List ℕ) → has quote word ≡ false
    → words_from (Quoted quote front) (word ++ more) ≡ words_from (Quoted quote (front ++ word)) more
run_quoted quote front [] more none = ap (λ (l : List ℕ). words_from (Quoted quote l) more) (sym (append-nil front))
run_quoted quote front (b ∷ word) more none =
    in_quotes quote front (word ++ more) b (first_no (b == quote) (has quote word) none)
    ∙ run_quoted quote (front ++ (b ∷ [])) word more (then_no (b == quote) (has quote word) none)
    ∙ ap (λ (l : List ℕ). words_from (Quoted quote l) more) (append_assoc front (b ∷ []) word)

no_gap : (b : ℕ) → is_quote b ≡ true → is_gap b ≡ false
no_gap b e = grind (arith, nat_tests)

opened : (quote : ℕ) (rest : List ℕ) → is_quote quote ≡ true → words (quote ∷ rest) ≡ words_from (Quoted quote []) rest
opened quote rest e = rw (no_gap quote e) (rw e refl)

closed : (quote : ℕ) (word rest : List ℕ) → words_from (Quoted quote word) (quote ∷ rest) ≡ words_from (Word word) rest
closed quote word rest = rw (eq-eqb quote quote refl) refl

unmarked : (x : Bool) → not x ≡ true → x ≡ false
unmarked true e = sym e
unmarked false e = refl

plain_run : (word more : List ℕ) → is_plain word ≡ true → words (word ++ more) ≡ words_from (Word word) more
plain_run [] more e = cc
plain_run (b ∷ word) more e =
    let none = unmarked (list_any is_mark (b ∷ word)) e in
    begins (word ++ more) b (first_no (is_mark b) (list_any is_mark word) none)
    ∙ run (b ∷ []) word more (then_no (is_mark b) (list_any is_mark word) none)

pub word_laws_hold : WordLaws
word_laws_hold = record {
  gap = λ gap rest e. rw e refl;
  plain = λ word rest gap e g. plain_run word (gap ∷ rest) e ∙ at_gap word rest gap g;
  last = λ word e. ap words (sym (append-nil word)) ∙ plain_run word [] e;
  quoted = λ quote gap word rest q none g.
      opened quote (word ++ (quote ∷ gap ∷ rest)) q
      ∙ run_quoted quote [] word (quote ∷ gap ∷ rest) none
      ∙ closed quote word (gap ∷ rest)
      ∙ at_gap word rest gap g;
}
