-- A shell reads a word as the text that it was made of.
use Rattle.std.proofs.Common.{◌≡◌, ◌∙◌, ap, refl, sym, subst, cond, eqb-true, ℕ, Bool, true, false, List, [], ◌∷◌, ◌++◌, flat_map, Option, Some, None, option_map}
use Rattle.std.specs.Prelude.{◌==◌, ◌||◌, codes}
use Rattle.std.specs.List.{list_all, list_any}
use Rattle.std.proofs.str.Laws.{both}
use Rattle.hwdb_spec_commands.specs.Commands.{is_bare_byte, quoted, quoted_byte, shell_word}
use Rattle.hwdb_spec.specs.Lines.{byte, has, is, is_none}
use Rattle.hwdb_show.specs.Shell.{Place, WordRows, WordsAreRead, read_from, special_bytes}
use Rattle.hwdb_show.specs.Shell.Place.{Escaped, Outside, Quoted}

pub word_rows : WordRows
word_rows = record {
  specials = refl;
  bare = refl;
  none = refl;
  space = refl;
  quote = refl;
  quotes = refl;
  dollar = refl;
  newline = refl;
  other = refl;
  update = refl;
  remove = refl;
  removed = refl;
}

-- a bare byte is none of some bytes of which none is bare
one_more : (b c : ℕ) (cs : List ℕ) → is_bare_byte b ≡ true → list_any is_bare_byte (c ∷ cs) ≡ false → (list_any is_bare_byte cs ≡ false → has b cs ≡ false) → has b (c ∷ cs) ≡ false
one_more b c cs bare none others = go (is_bare_byte c) (c == b) refl refl
  where
    go : (x y : Bool) → is_bare_byte c ≡ x → (c == b) ≡ y → has b (c ∷ cs) ≡ false
    go true y e f = let bad : true ≡ false = ap (λ (x : Bool). x || list_any is_bare_byte cs) (sym e) ∙ none in cc
    go false true e f = let bad : false ≡ true = sym e ∙ ap is_bare_byte (eqb-true c b f) ∙ bare in cc
    go false false e f =
        let rest : list_any is_bare_byte cs ≡ false = ap (λ (x : Bool). x || list_any is_bare_byte cs) (sym e) ∙ none in
        ap (λ (x : Bool). x || has b cs) f ∙ others rest

none_of : (b : ℕ) (cs : List ℕ) → is_bare_byte b ≡ true → list_any is_bare_byte cs ≡ false → has b cs ≡ false
none_of b [] bare none = refl
none_of b (c ∷ cs) bare none = one_more b c cs bare none (none_of b cs bare)

other_byte : (b c : ℕ) → is_bare_byte b ≡ true → is_bare_byte c ≡ false → (x : Bool) → (b == c) ≡ x → (b == c) ≡ false
other_byte b c bare not false f = f
other_byte b c bare not true f = let bad : true ≡ false = sym bare ∙ ap is_bare_byte (eqb-true b c f) ∙ not in cc

-- the rest of a word after a byte that stands for itself
abbrev after_byte : ℕ → Option (List ℕ) → Option (List ℕ)
after_byte b rest = option_map (λ (text : List ℕ). b ∷ text) rest

bare_one : (b : ℕ) (more : List ℕ) → list_all is_bare_byte (b ∷ more) ≡ true → (list_all is_bare_byte more ≡ true → read_from Outside more ≡ Some more) → read_from Outside (b ∷ more) ≡ Some (b ∷ more)
unfolding read_from
bare_one b more all others =
    let h = both (is_bare_byte b) (list_all is_bare_byte more) all in
    ap (λ (x : Bool). cond x (read_from Quoted more) (cond (b == 92) (read_from Escaped more) (cond (has b special_bytes) None (after_byte b (read_from Outside more)))))
    (other_byte b 39 h.0 refl (b == 39) refl)
    ∙ ap (λ (x : Bool). cond x (read_from Escaped more) (cond (has b special_bytes) None (after_byte b (read_from Outside more)))) (other_byte b 92 h.0 refl (b == 92) refl)
    ∙ ap (λ (x : Bool). cond x None (after_byte b (read_from Outside more))) (none_of b special_bytes h.0 refl)
    ∙ ap (after_byte b) (others h.1)

bare_read : (text : List ℕ) → list_all is_bare_byte text ≡ true → read_from Outside text ≡ Some text
unfolding read_from
bare_read [] all = refl
bare_read (b ∷ more) all = bare_one b more all (bare_read more)

quoted_one : (b : ℕ) (more : List ℕ) → read_from Quoted (flat_map quoted_byte more ++ 39 ∷ []) ≡ Some more → read_from Quoted (flat_map quoted_byte (b ∷ more) ++ 39 ∷ []) ≡ Some (b ∷ more)
unfolding read_from
quoted_one b more others = go (b == 39) refl
  where
    go : (x : Bool) → (b == 39) ≡ x → read_from Quoted (flat_map quoted_byte (b ∷ more) ++ 39 ∷ []) ≡ Some (b ∷ more)
    go true e =
        ap (λ (x : Bool). read_from Quoted ((cond x (codes "'\\''") (b ∷ []) ++ flat_map quoted_byte more) ++ 39 ∷ [])) e
        ∙ ap (after_byte 39) others ∙ ap (λ (c : ℕ). Some (c ∷ more)) (sym (eqb-true b 39 e))
    go false e =
        ap (λ (x : Bool). read_from Quoted ((cond x (codes "'\\''") (b ∷ []) ++ flat_map quoted_byte more) ++ 39 ∷ [])) e
        ∙ ap (λ (x : Bool). cond x (read_from Outside (flat_map quoted_byte more ++ 39 ∷ [])) (after_byte b (read_from Quoted (flat_map quoted_byte more ++ 39 ∷ [])))) e
        ∙ ap (after_byte b) others

quoted_read : (text : List ℕ) → read_from Quoted (flat_map quoted_byte text ++ 39 ∷ []) ≡ Some text
unfolding read_from
quoted_read [] = refl
quoted_read (b ∷ more) = quoted_one b more (quoted_read more)

pub words_read : WordsAreRead
unfolding read_from
words_read text = go (is_none text) (list_all is_bare_byte text) refl refl
  where
    go : (x y : Bool) → is_none text ≡ x → list_all is_bare_byte text ≡ y → read_from Outside (shell_word text) ≡ Some text
    go true y e f = ap (λ (x : Bool). read_from Outside (cond x (quoted text) (cond (list_all is_bare_byte text) text (quoted text)))) e ∙ quoted_read text
    go false true e f =
        ap (λ (x : Bool). read_from Outside (cond x (quoted text) (cond (list_all is_bare_byte text) text (quoted text)))) e
        ∙ ap (λ (x : Bool). read_from Outside (cond x text (quoted text))) f ∙ bare_read text f
    go false false e f =
        ap (λ (x : Bool). read_from Outside (cond x (quoted text) (cond (list_all is_bare_byte text) text (quoted text)))) e
        ∙ ap (λ (x : Bool). read_from Outside (cond x text (quoted text))) f ∙ quoted_read text
