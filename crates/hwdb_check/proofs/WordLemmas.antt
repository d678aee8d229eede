-- A file without the word of comments that let kinds pass has no such comment.
use Rattle.std.proofs.Common.{◌≡◌, ◌∙◌, ◌<◌, ◌≤◌, ◌+◌, ◌++◌, ◌||◌, ap, arith, codes, cond, drop, get_or, length, refl, subst, sym, take, ℕ, zero, suc, Bool, true, false, not, List, [], ◌∷◌, Option, None, Some}
use Rattle.std.specs.Prelude.{nat_eq}
use Rattle.std.specs.Option.{is_some}
use Rattle.std.specs.List.{after_first, before_first, list_any, position_or_len, prefix_len, starts_with}
use Rattle.std.proofs.lemmas.List.{get_or-drop, get_or-take, get_or_append_left, length-append, length-drop, length-take}
use Rattle.std.proofs.lemmas.Bool.Decides.{Decides-eqb}
use Rattle.std.proofs.lemmas.Slice.Eq.{starts_is}
use Rattle.memchr.specs.Find.{FindsNeedle, Nowhere, OccursAt}
use Rattle.hwdb_spec.specs.Lines.{byte, is, is_indent, is_none, pieces}
use Rattle.hwdb_spec_commands.specs.AllowedKinds.{after_word, allowed_text}
use Rattle.hwdb_check.specs.Lemmas.Pieces.{no_pieces, piece_step}

-- the word
abbrev word : List ℕ
word = codes "hwdb:"

-- it isn't in a text
abbrev Lacks : List ℕ → Type 0
Lacks text = (k : ℕ) → OccursAt text word k → ⊥

lacks_drop : (n : ℕ) (text : List ℕ) → Lacks text → Lacks (drop n text)
lacks_drop n text none k at =
    none (n + k) (record {
      fits = omega (arith, at.fits, length-drop n text);
      reads = λ j h. ap (λ (i : ℕ). get_or text i 0) (omega arith) ∙ sym (get_or-drop n text (k + j) 0) ∙ at.reads j h;
    })

lacks_take : (n : ℕ) (text : List ℕ) → Lacks text → Lacks (take n text)
lacks_take n text none k at =
    none k (record {
      fits = omega (arith, at.fits, length-take n text);
      reads = λ j h. sym (get_or-take n text (k + j) 0 (omega (arith, at.fits, h, length-take n text))) ∙ at.reads j h;
    })

begun_at : (text rest : List ℕ) → text ≡ word ++ rest → OccursAt text word 0
begun_at text rest is =
    subst (λ (t : List ℕ). OccursAt t word 0) (sym is) (record {
      fits = omega (arith, length-append word rest);
      reads = λ j h. ap (λ (i : ℕ). get_or (word ++ rest) i 0) (let z : 0 + j ≡ j = omega arith in z) ∙ get_or_append_left word rest 0 j h;
    })

not_begun : (text : List ℕ) → Lacks text → starts_with nat_eq text word ≡ false
not_begun text none = by (starts_with nat_eq text word) refl
  where
    by : (b : Bool) → starts_with nat_eq text word ≡ b → b ≡ false
    by true e = absurd (none 0 (begun_at text (drop (length word) text) ((starts_is Decides-eqb text word (starts_with nat_eq text word) refl).0 e)))
    by false e = refl

nothing_after : (text : List ℕ) → Lacks text → after_word word text ≡ []
nothing_after text none =
    let rest = drop (length word) text in
    ap (λ (b : Bool). cond b (drop (prefix_len is_indent rest) rest) []) (not_begun text none)

-- a line without it lets nothing pass
nothing_allowed : (text : List ℕ) → Lacks text → allowed_text text ≡ []
nothing_allowed text none =
    let after = after_first (is (byte "#")) text in
    let comment = before_first (is (byte "#")) after in
    let lacks : Lacks (drop (prefix_len is_indent comment) comment) =
    lacks_drop (prefix_len is_indent comment) comment
    (lacks_take (position_or_len (is (byte "#")) after) after (lacks_drop (position_or_len (is (byte "#")) text + 1) text none)) in
    ap (after_word (codes "allow ")) (nothing_after (drop (prefix_len is_indent comment) comment) lacks)

abbrev lets : List ℕ → Bool
lets text = not (is_none (allowed_text text))

none_lets : (n : ℕ) (text : List ℕ) → length text ≤ n → Lacks text → list_any lets (pieces (is 10) text) ≡ false
none_lets n [] h none = ap (list_any lets) (no_pieces 10)
none_lets zero (b ∷ more) h none = absurd (omega (arith, h))
none_lets (suc n) (b ∷ more) h none =
    let text : List ℕ = b ∷ more in
    let end = position_or_len (is 10) text in
    let some : 0 < length text = omega arith in
    ap (list_any lets) (piece_step 10 text some)
    ∙ ap (λ (t : List ℕ). not (is_none t) || list_any lets (pieces (is 10) (drop (end + 1) text))) (nothing_allowed (take end text) (lacks_take end text none))
    ∙ none_lets n (drop (end + 1) text) (omega (arith, h, length-drop (end + 1) text)) (lacks_drop (end + 1) text none)

-- a file without it has no such comment
no_word : (file : List ℕ) → Nowhere (OccursAt file word) 0 (length file + 1) → false ≡ list_any (λ text. not (is_none (allowed_text text))) (pieces (is 10) file)
no_word file nowhere =
    sym (none_lets (length file) file (omega arith) (λ k at. nowhere k (omega arith) (omega (arith, at.fits)) at))

pub none_found : (file : List ℕ) (found : Option ℕ) → FindsNeedle file word 0 found → is_some found ≡ false → false ≡ list_any (λ text. not (is_none (allowed_text text))) (pieces (is 10) file)
none_found file None nowhere e = no_word file nowhere
none_found file (Some place) there e = cc
