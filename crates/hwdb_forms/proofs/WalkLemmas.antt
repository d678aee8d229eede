-- Walks through the steps of a form: what marked places tell before a token and after it.
use Rattle.std.proofs.Common.{◌≡◌, ℕ, ◌+◌, ◌<◌, ◌≤◌, ◌||◌, Bool, true, false, List, [], ◌∷◌, ◌++◌, refl, sym, ap, ◌∙◌, inl, inr, map, Bor, length, drop, take, get_or, suc, zero, append_assoc, arith, nat_lt}
use Rattle.std.proofs.Math.ListN.{replicate, set}
use Rattle.std.proofs.Math.Seq.{drop-cons, get_or-take, take-length, take-set-lt, take-suc, take-take}
use Rattle.std.proofs.lemmas.List.{append-nil, drop_all, length-replicate, length-set, length-take, take-append-drop, take_all}
use Rattle.std.proofs.lemmas.Bool.{cases_lt, lt-ltb, ltb-false, ltb-true}
use Rattle.std.specs.Prelude.{if◌then◌else◌}
use Rattle.hwdb_spec.specs.declared.ByteSet.{ByteSet}
use Rattle.hwdb_spec.specs.declared.ByteSet.TheVariants.{Only}
use Rattle.hwdb_spec.specs.Patterns.{Token, bracket, literal, one, star, token_at}
use Rattle.hwdb_spec.specs.Forms.{Piece, byte_cell, end_row, fields_row, fixed_row, head, is_in, is_star, many_cell, meets}
use Rattle.hwdb_forms.specs.declared.leads.Lead.{Lead}
use Rattle.hwdb_forms.specs.declared.leads.Passed.{Passed}
use Rattle.hwdb_forms.specs.declared.leads.Passed.TheVariants.{No, Yes}
use Rattle.hwdb_forms.specs.declared.pieces.Piece as Rust
use Rattle.hwdb_forms.specs.declared.steps.Step.{Step}
use Rattle.hwdb_forms.specs.declared.steps.Step.TheVariants.{Byte, Either, End, Many, One}
use Rattle.hwdb_forms.specs.Internal.{AreLive, IsFar, IsPlace, Leads, any_met, fields_of, is_end, led, left, many_met, marked, met_at, never, one_met, passed_fixed, piece_of, step_met, takes_byte, views}
use Rattle.hwdb_forms.proofs.LeadLemmas.{fixed_stays, form_no, form_yes, long_views, rest_more, single_field, views_drop, way_dead}
use Rattle.hwdb_forms.proofs.ViewLemmas.{below, none, view_at, views_length}

-- ---- truth values
or_none : (b : Bool) → (if b then true else false) ≡ b
or_none true = refl
or_none false = refl

or_first : (b c : Bool) → b ≡ true → (if b then true else c) ≡ true
or_first true c e = refl
or_first false c e = cc

or_false : (b c : Bool) → b ≡ false → c ≡ false → (if b then true else c) ≡ false
or_false false c e f = f
or_false true c e f = cc

or_later : (a b x : Bool) → (if a then true else (if b then true else x)) ≡ (if (if a then true else b) then true else x)
or_later true b x = refl
or_later false b x = refl

or_between : (a b x : Bool) → (if (if a then true else x) then true else b) ≡ (if (if a then true else b) then true else x)
or_between true b x = refl
or_between false true true = refl
or_between false true false = refl
or_between false false true = refl
or_between false false false = refl

-- two more: of the first, and of the second
or_both : (a b x y : Bool) → (if (if a then true else x) then true else (if b then true else y)) ≡ (if (if a then true else b) then true else (if x then true else y))
or_both true b x y = refl
or_both false true true y = refl
or_both false true false y = refl
or_both false false true y = refl
or_both false false false y = refl

or_swapped : (x y : Bool) → (if x then true else y) ≡ (if y then true else x)
or_swapped true true = refl
or_swapped true false = refl
or_swapped false true = refl
or_swapped false false = refl

-- ---- marked places
none_met : (n : ℕ) (ls : List (List Token → Bool)) (us : List Token) → any_met (replicate n false) ls us ≡ false
none_met zero ls us = refl
none_met (suc n) [] us = refl
none_met (suc n) (l ∷ ls) us = none_met n ls us

pub made_none : (marks : List Bool) (n : ℕ) (ls : List (List Token → Bool)) (us : List Token) → marks ≡ replicate n false → any_met marks ls us ≡ false
made_none marks n ls us e = ap (λ (m : List Bool). any_met m ls us) e ∙ none_met n ls us

no_place : (n : ℕ) (us : List Token) → met_at [] n us ≡ false
no_place zero us = refl
no_place (suc n) us = refl

unlisted : (marks : List Bool) (us : List Token) → any_met marks [] us ≡ false
unlisted [] us = refl
unlisted (m ∷ marks) us = refl

any_set : (marks : List Bool) (ls : List (List Token → Bool)) (n : ℕ) (us : List Token) → n < length marks → any_met (set marks n true) ls us ≡ (if any_met marks ls us then true else met_at ls n us)
any_set [] ls n us h = absurd (omega arith)
any_set (m ∷ marks) [] n us h = unlisted (set (m ∷ marks) n true) us ∙ sym (no_place n us)
any_set (true ∷ marks) (l ∷ ls) zero us h = same (l us) (any_met marks ls us)
  where
    same : (a b : Bool) → (if a then true else b) ≡ (if (if a then true else b) then true else a)
    same true b = refl
    same false true = refl
    same false false = refl
any_set (false ∷ marks) (l ∷ ls) zero us h = or_swapped (l us) (any_met marks ls us)
any_set (true ∷ marks) (l ∷ ls) (suc n) us h = ap (λ (b : Bool). if l us then true else b) (any_set marks ls n us (omega arith)) ∙ or_later (l us) (any_met marks ls us) (met_at ls n us)
any_set (false ∷ marks) (l ∷ ls) (suc n) us h = any_set marks ls n us (omega arith)

-- a place below another one
below_met : (ls : List (List Token → Bool)) (m n : ℕ) (us : List Token) → n < m → met_at (take m ls) n us ≡ met_at ls n us
below_met ls m n us h = ap (λ (f : List Token → Bool). f us) (get_or-take m ls n never h)

above_none : (ls : List (List Token → Bool)) (m n : ℕ) (us : List Token) → m ≤ n → met_at (take m ls) n us ≡ false
above_none ls zero n us h = none_at (take 0 ls) (first ls)
  where
    first : (l : List (List Token → Bool)) → take 0 l ≡ []
    first [] = refl
    first (x ∷ l) = refl

    none_at : (l : List (List Token → Bool)) → l ≡ [] → met_at l n us ≡ false
    none_at l e = ap (λ (r : List (List Token → Bool)). met_at r n us) e ∙ no_place n us
above_none [] (suc m) n us h = no_place n us
above_none (l ∷ ls) (suc m) zero us h = absurd (omega arith)
above_none (l ∷ ls) (suc m) (suc n) us h = above_none ls m n us (omega arith)

by_bound : (A : Type 0) (t : Bool) (x y : A) (b : Bool) → t ≡ b → (if t then x else y) ≡ (if b then x else y)
by_bound A t x y b e = ap (λ (c : Bool). if c then x else y) e

any_marked : (marks : List Bool) (ls : List (List Token → Bool)) (n end : ℕ) (us : List Token) → end ≤ length marks → any_met (marked marks n end) ls us ≡ (if any_met marks ls us then true else met_at (take end ls) n us)
any_marked marks ls n end us h = by (nat_lt n end) refl
  where
    by : (b : Bool) → nat_lt n end ≡ b → any_met (marked marks n end) ls us ≡ (if any_met marks ls us then true else met_at (take end ls) n us)
    by true e =
        let less : n < end = ltb-true n end e in
        ap (λ (m : List Bool). any_met m ls us) (by_bound (List Bool) (nat_lt n end) (set marks n true) marks true e)
        ∙ any_set marks ls n us (omega (arith, less))
        ∙ ap (λ (c : Bool). if any_met marks ls us then true else c) (sym (below_met ls end n us less))
    by false e =
        let more : end ≤ n = ltb-false n end e in
        ap (λ (m : List Bool). any_met m ls us) (by_bound (List Bool) (nat_lt n end) (set marks n true) marks false e)
        ∙ sym (or_none (any_met marks ls us))
        ∙ ap (λ (c : Bool). if any_met marks ls us then true else c) (sym (above_none ls end n us more))

take_marked : (marks : List Bool) (n end : ℕ) → take end (marked marks n end) ≡ marked (take end marks) n end
take_marked marks n end = by (nat_lt n end) refl
  where
    by : (b : Bool) → nat_lt n end ≡ b → take end (marked marks n end) ≡ marked (take end marks) n end
    by true e =
        ap (take end) (by_bound (List Bool) (nat_lt n end) (set marks n true) marks true e)
        ∙ take-set-lt end marks n true (ltb-true n end e)
        ∙ sym (by_bound (List Bool) (nat_lt n end) (set (take end marks) n true) (take end marks) true e)
    by false e =
        ap (take end) (by_bound (List Bool) (nat_lt n end) (set marks n true) marks false e)
        ∙ sym (by_bound (List Bool) (nat_lt n end) (set (take end marks) n true) (take end marks) false e)

taken_long : (marks : List Bool) (n : ℕ) → n ≤ length marks → n ≤ length (take n marks)
taken_long marks n h = omega (arith, length-take n marks)

pub marked_long : (marks : List Bool) (n end : ℕ) → length (marked marks n end) ≡ length marks
marked_long marks n end = by (nat_lt n end) refl
  where
    by : (b : Bool) → nat_lt n end ≡ b → length (marked marks n end) ≡ length marks
    by true e = ap length (by_bound (List Bool) (nat_lt n end) (set marks n true) marks true e) ∙ length-set marks n true
    by false e = ap length (by_bound (List Bool) (nat_lt n end) (set marks n true) marks false e)

now_marked : (marks : List Bool) (ls : List (List Token → Bool)) (n at : ℕ) (us : List Token) → at ≤ length marks → any_met (take at (marked marks n at)) ls us ≡ (if any_met (take at marks) ls us then true else met_at (take at ls) n us)
now_marked marks ls n at us h = ap (λ (m : List Bool). any_met m ls us) (take_marked marks n at) ∙ any_marked (take at marks) ls n at us (taken_long marks at h)

-- the place itself
own_marked : (marks : List Bool) (ls : List (List Token → Bool)) (at : ℕ) (us : List Token) → at < length marks → any_met (marked marks at (at + 1)) ls us ≡ (if any_met marks ls us then true else met_at ls at us)
own_marked marks ls at us h =
    any_marked marks ls at (at + 1) us (omega arith) ∙ ap (λ (b : Bool). if any_met marks ls us then true else b) (below_met ls (at + 1) at us (omega arith))

-- ---- a place before a star
module _ (ls : List (List Token → Bool)) (us : List Token) (at : ℕ) (now next : List Bool) (h : at < length now) (k : at < length next) where
  -- what is looked at without a byte, and the place itself after the star
  star_both : (to : ℕ) (whole : Bool) → whole ≡ (if met_at ls at us then true else met_at (take at ls) to (star ∷ us))
      → left at (marked now to at) (marked next at (at + 1)) ls star us ≡ (if left at now next ls star us then true else whole)
  star_both to whole e =
      ap (λ (b : Bool). if b then true else any_met (marked next at (at + 1)) ls us) (now_marked now ls to at (star ∷ us) (omega arith))
      ∙ ap (λ (b : Bool). if (if any_met (take at now) ls (star ∷ us) then true else met_at (take at ls) to (star ∷ us)) then true else b) (own_marked next ls at us k)
      ∙ or_both (any_met (take at now) ls (star ∷ us)) (any_met next ls us) (met_at (take at ls) to (star ∷ us)) (met_at ls at us)
      ∙ ap (λ (b : Bool). if left at now next ls star us then true else b) (or_swapped (met_at (take at ls) to (star ∷ us)) (met_at ls at us) ∙ sym e)

  pub star_end : IsPlace ls at End → left at now (marked next at (at + 1)) ls star us ≡ (if left at now next ls star us then true else met_at ls at (star ∷ us))
  unfolding end_row
  star_end p =
      ap (λ (b : Bool). if any_met (take at now) ls (star ∷ us) then true else b) (own_marked next ls at us k)
      ∙ or_later (any_met (take at now) ls (star ∷ us)) (any_met next ls us) (met_at ls at us)
      ∙ ap (λ (b : Bool). if left at now next ls star us then true else b) (p us ∙ sym (p (star ∷ us)))

  one_before_star : (set : ByteSet) (after : List Token → Bool) → one_met set after (star ∷ us) ≡ (if one_met set after us then true else after (star ∷ us))
  unfolding one_met
  one_before_star set after = refl

  many_before_star : (set : ByteSet) (after : List Token → Bool) → many_met set after (star ∷ us) ≡ (if after (star ∷ us) then true else many_met set after us)
  unfolding many_met
  many_before_star set after = refl

  pub star_byte : (own to : ℕ) → IsPlace ls at (Byte own to) → left at (marked now to at) (marked next at (at + 1)) ls star us ≡ (if left at now next ls star us then true else met_at ls at (star ∷ us))
  star_byte own to p = star_both to (met_at ls at (star ∷ us)) (p (star ∷ us) ∙ one_before_star (Only own) (met_at (take at ls) to) ∙ ap (λ (b : Bool). if b then true else met_at (take at ls) to (star ∷ us)) (sym (p us)))

  pub star_one : (set : ByteSet) (to : ℕ) → IsPlace ls at (One set to) → left at (marked now to at) (marked next at (at + 1)) ls star us ≡ (if left at now next ls star us then true else met_at ls at (star ∷ us))
  star_one set to p = star_both to (met_at ls at (star ∷ us)) (p (star ∷ us) ∙ one_before_star set (met_at (take at ls) to) ∙ ap (λ (b : Bool). if b then true else met_at (take at ls) to (star ∷ us)) (sym (p us)))

  pub star_many : (set : ByteSet) (to : ℕ) → IsPlace ls at (Many set to) → left at (marked now to at) (marked next at (at + 1)) ls star us ≡ (if left at now next ls star us then true else met_at ls at (star ∷ us))
  star_many set to p =
      star_both to (met_at ls at (star ∷ us))
      (p (star ∷ us) ∙ many_before_star set (met_at (take at ls) to) ∙ ap (λ (b : Bool). if met_at (take at ls) to (star ∷ us) then true else b) (sym (p us)) ∙ or_swapped (met_at (take at ls) to (star ∷ us)) (met_at ls at us))

-- ---- a place before any token
module _ (ls : List (List Token → Bool)) (t : Token) (us : List Token) (at : ℕ) (now next : List Bool) (h : at < length now) (k : at < length next) where
  pub either_way : (way other : ℕ) → IsPlace ls at (Either way other) → left at (marked (marked now way at) other at) next ls t us ≡ (if left at now next ls t us then true else met_at ls at (t ∷ us))
  either_way way other p =
      let long : at ≤ length (marked now way at) = omega (arith, marked_long now way at) in
      let first : Bool = met_at (take at ls) way (t ∷ us) in
      let second : Bool = met_at (take at ls) other (t ∷ us) in
      let old : Bool = any_met (take at now) ls (t ∷ us) in
      ap (λ (b : Bool). if b then true else any_met next ls us) (now_marked (marked now way at) ls other at (t ∷ us) long ∙ ap (λ (b : Bool). if b then true else second) (now_marked now ls way at (t ∷ us) (omega arith)) ∙ sym (or_later old first second))
      ∙ or_between old (any_met next ls us) (if first then true else second)
      ∙ ap (λ (b : Bool). if left at now next ls t us then true else b) (sym (p (t ∷ us)))

  -- ---- before a token that is no star
  no_star : is_star t ≡ false → (set : ByteSet) (after : List Token → Bool) → one_met set after (t ∷ us) ≡ (if meets t set then after us else false)
  unfolding one_met
  no_star s set after = by (is_star t) s
    where
      by : (b : Bool) → b ≡ false → byte_cell b (meets t set) (after (t ∷ us)) (after us) (one_met set after us) ≡ (if meets t set then after us else false)
      by false e = refl
      by true e = cc

  pub end_unmet : is_star t ≡ false → IsPlace ls at End → left at now next ls t us ≡ (if left at now next ls t us then true else met_at ls at (t ∷ us))
  unfolding end_row
  end_unmet s p =
      sym (or_none (left at now next ls t us)) ∙ ap (λ (b : Bool). if left at now next ls t us then true else b) (sym (p (t ∷ us) ∙ ap (λ (b : Bool). if b then head (end_row us) else false) s))

  one_next : (set : ByteSet) (to : ℕ) (whole : Bool) → meets t set ≡ true → whole ≡ (if meets t set then met_at (take at ls) to us else false) → left at now (marked next to at) ls t us ≡ (if left at now next ls t us then true else whole)
  one_next set to whole m e =
      ap (λ (b : Bool). if any_met (take at now) ls (t ∷ us) then true else b) (any_marked next ls to at us (omega arith))
      ∙ or_later (any_met (take at now) ls (t ∷ us)) (any_met next ls us) (met_at (take at ls) to us)
      ∙ ap (λ (b : Bool). if left at now next ls t us then true else b) (sym (e ∙ ap (λ (b : Bool). if b then met_at (take at ls) to us else false) m))

  one_not : (set : ByteSet) (to : ℕ) (whole : Bool) → meets t set ≡ false → whole ≡ (if meets t set then met_at (take at ls) to us else false) → left at now next ls t us ≡ (if left at now next ls t us then true else whole)
  one_not set to whole m e =
      sym (or_none (left at now next ls t us))
      ∙ ap (λ (b : Bool). if left at now next ls t us then true else b) (sym (e ∙ ap (λ (b : Bool). if b then met_at (take at ls) to us else false) m))

  pub byte_met : (own to : ℕ) (m : Bool) → is_star t ≡ false → m ≡ meets t (Only own) → m ≡ true → IsPlace ls at (Byte own to) → left at now (marked next to at) ls t us ≡ (if left at now next ls t us then true else met_at ls at (t ∷ us))
  byte_met own to m s e y p = one_next (Only own) to (met_at ls at (t ∷ us)) (sym e ∙ y) (p (t ∷ us) ∙ no_star s (Only own) (met_at (take at ls) to))

  pub byte_unmet : (own to : ℕ) (m : Bool) → is_star t ≡ false → m ≡ meets t (Only own) → m ≡ false → IsPlace ls at (Byte own to) → left at now next ls t us ≡ (if left at now next ls t us then true else met_at ls at (t ∷ us))
  byte_unmet own to m s e y p = one_not (Only own) to (met_at ls at (t ∷ us)) (sym e ∙ y) (p (t ∷ us) ∙ no_star s (Only own) (met_at (take at ls) to))

  pub one_met_by : (set : ByteSet) (to : ℕ) (m : Bool) → is_star t ≡ false → m ≡ meets t set → m ≡ true → IsPlace ls at (One set to) → left at now (marked next to at) ls t us ≡ (if left at now next ls t us then true else met_at ls at (t ∷ us))
  one_met_by set to m s e y p = one_next set to (met_at ls at (t ∷ us)) (sym e ∙ y) (p (t ∷ us) ∙ no_star s set (met_at (take at ls) to))

  pub one_unmet : (set : ByteSet) (to : ℕ) (m : Bool) → is_star t ≡ false → m ≡ meets t set → m ≡ false → IsPlace ls at (One set to) → left at now next ls t us ≡ (if left at now next ls t us then true else met_at ls at (t ∷ us))
  one_unmet set to m s e y p = one_not set to (met_at ls at (t ∷ us)) (sym e ∙ y) (p (t ∷ us) ∙ no_star s set (met_at (take at ls) to))

  no_star_many : is_star t ≡ false → (set : ByteSet) (after : List Token → Bool) → many_met set after (t ∷ us) ≡ (if after (t ∷ us) then true else (if meets t set then many_met set after us else false))
  unfolding many_met
  no_star_many s set after = by (is_star t) s
    where
      by : (b : Bool) → b ≡ false → many_cell b (meets t set) (after (t ∷ us)) (many_met set after us) ≡ (if after (t ∷ us) then true else (if meets t set then many_met set after us else false))
      by false e = refl
      by true e = cc

  pub many_met_by : (set : ByteSet) (to : ℕ) (m : Bool) → is_star t ≡ false → m ≡ meets t set → m ≡ true → IsPlace ls at (Many set to)
      → left at (marked now to at) (marked next at (at + 1)) ls t us ≡ (if left at now next ls t us then true else met_at ls at (t ∷ us))
  many_met_by set to m s e y p =
      ap (λ (b : Bool). if b then true else any_met (marked next at (at + 1)) ls us) (now_marked now ls to at (t ∷ us) (omega arith))
      ∙ ap (λ (b : Bool). if (if any_met (take at now) ls (t ∷ us) then true else met_at (take at ls) to (t ∷ us)) then true else b) (own_marked next ls at us k)
      ∙ or_both (any_met (take at now) ls (t ∷ us)) (any_met next ls us) (met_at (take at ls) to (t ∷ us)) (met_at ls at us)
      ∙ ap (λ (b : Bool). if left at now next ls t us then true else b)
      (ap (λ (b : Bool). if met_at (take at ls) to (t ∷ us) then true else b) (p us ∙ ap (λ (b : Bool). if b then many_met set (met_at (take at ls) to) us else false) (sym (sym e ∙ y)))
      ∙ sym (p (t ∷ us) ∙ no_star_many s set (met_at (take at ls) to)))

  pub many_unmet : (set : ByteSet) (to : ℕ) (m : Bool) → is_star t ≡ false → m ≡ meets t set → m ≡ false → IsPlace ls at (Many set to) → left at (marked now to at) next ls t us ≡ (if left at now next ls t us then true else met_at ls at (t ∷ us))
  many_unmet set to m s e y p =
      ap (λ (b : Bool). if b then true else any_met next ls us) (now_marked now ls to at (t ∷ us) (omega arith))
      ∙ or_between (any_met (take at now) ls (t ∷ us)) (any_met next ls us) (met_at (take at ls) to (t ∷ us))
      ∙ ap (λ (b : Bool). if left at now next ls t us then true else b)
      (sym (or_none (met_at (take at ls) to (t ∷ us))) ∙ ap (λ (b : Bool). if met_at (take at ls) to (t ∷ us) then true else b) (ap (λ (b : Bool). if b then many_met set (met_at (take at ls) to) us else false) (sym (sym e ∙ y)))
      ∙ sym (p (t ∷ us) ∙ no_star_many s set (met_at (take at ls) to)))

-- ---- the loop over places
any_split : (marks : List Bool) (ls : List (List Token → Bool)) (n : ℕ) (us : List Token) (d : Bool) → n < length marks → any_met (take (suc n) marks) ls us ≡ (if any_met (take n marks) ls us then true else (if get_or marks n d then met_at ls n us else false))
any_split [] ls n us d h = absurd (omega arith)
any_split (m ∷ marks) [] zero us d h = sym (by m)
  where
    by : (b : Bool) → (if b then false else false) ≡ false
    by true = refl
    by false = refl
any_split (m ∷ marks) [] (suc n) us d h = sym (by (get_or marks n d) ∙ refl)
  where
    by : (b : Bool) → (if b then met_at [] (suc n) us else false) ≡ false
    by true = no_place (suc n) us
    by false = refl
any_split (true ∷ marks) (l ∷ ls) zero us d h = ap (λ (m : List Bool). if l us then true else any_met m ls us) (first marks) ∙ or_none (l us)
  where
    first : (m : List Bool) → take 0 m ≡ []
    first [] = refl
    first (x ∷ m) = refl
any_split (false ∷ marks) (l ∷ ls) zero us d h = ap (λ (m : List Bool). any_met m ls us) (first marks)
  where
    first : (m : List Bool) → take 0 m ≡ []
    first [] = refl
    first (x ∷ m) = refl
any_split (true ∷ marks) (l ∷ ls) (suc n) us d h =
    ap (λ (b : Bool). if l us then true else b) (any_split marks ls n us d (omega arith)) ∙ or_later (l us) (any_met (take n marks) ls us) (if get_or marks n d then met_at ls n us else false)
any_split (false ∷ marks) (l ∷ ls) (suc n) us d h = any_split marks ls n us d (omega arith)

-- a place that is marked, and one that isn't
pub at_marked : (marks : List Bool) (ls : List (List Token → Bool)) (n at : ℕ) (us : List Token) (d : Bool) → n ≡ suc at → at < length marks → get_or marks at d ≡ true → any_met (take n marks) ls us ≡ (if any_met (take at marks) ls us then true else met_at ls at us)
at_marked marks ls n at us d e h m =
    ap (λ (i : ℕ). any_met (take i marks) ls us) e ∙ any_split marks ls at us d h ∙ ap (λ (b : Bool). if any_met (take at marks) ls us then true else (if b then met_at ls at us else false)) m

pub at_unmarked : (marks : List Bool) (ls : List (List Token → Bool)) (n at : ℕ) (us : List Token) (d : Bool) → n ≡ suc at → at < length marks → get_or marks at d ≡ false → any_met (take n marks) ls us ≡ any_met (take at marks) ls us
at_unmarked marks ls n at us d e h m =
    ap (λ (i : ℕ). any_met (take i marks) ls us) e ∙ any_split marks ls at us d h
    ∙ ap (λ (b : Bool). if any_met (take at marks) ls us then true else (if b then met_at ls at us else false)) m
    ∙ or_none (any_met (take at marks) ls us)

pub all_left : (marks next : List Bool) (ls : List (List Token → Bool)) (n : ℕ) (t : Token) (us : List Token) → length marks ≡ n → next ≡ replicate n false → left n marks next ls t us ≡ any_met marks ls (t ∷ us)
all_left marks next ls n t us h e =
    ap (λ (m : List Bool). if any_met m ls (t ∷ us) then true else any_met next ls us) (take_all n marks (omega (arith, h)))
    ∙ ap (λ (b : Bool). if any_met marks ls (t ∷ us) then true else b) (made_none next n ls us e)
    ∙ or_none (any_met marks ls (t ∷ us))

pub passed_place : (now next new after : List Bool) (ls : List (List Token → Bool)) (n at : ℕ) (t : Token) (us : List Token) (d whole : Bool) → n ≡ suc at → at < length now → get_or now at d ≡ true
    → left at new after ls t us ≡ (if left at now next ls t us then true else met_at ls at (t ∷ us)) → left n now next ls t us ≡ whole → left at new after ls t us ≡ whole
passed_place now next new after ls n at t us d whole e h m step before =
    step
    ∙ sym (or_between (any_met (take at now) ls (t ∷ us)) (any_met next ls us) (met_at ls at (t ∷ us)))
    ∙ ap (λ (b : Bool). if b then true else any_met next ls us) (sym (at_marked now ls n at (t ∷ us) d e h m))
    ∙ before

pub left_place : (now next : List Bool) (ls : List (List Token → Bool)) (n at : ℕ) (t : Token) (us : List Token) (d whole : Bool) → n ≡ suc at → at < length now → get_or now at d ≡ false
    → left n now next ls t us ≡ whole → left at now next ls t us ≡ whole
left_place now next ls n at t us d whole e h m before =
    ap (λ (b : Bool). if b then true else any_met next ls us) (sym (at_unmarked now ls n at (t ∷ us) d e h m)) ∙ before

none_left : (marks : List Bool) (ls : List (List Token → Bool)) (n : ℕ) (us : List Token) → n ≡ 0 → any_met (take n marks) ls us ≡ false
none_left marks ls n us e = ap (λ (i : ℕ). any_met (take i marks) ls us) e ∙ ap (λ (m : List Bool). any_met m ls us) (first marks)
  where
    first : (m : List Bool) → take 0 m ≡ []
    first [] = refl
    first (x ∷ m) = refl

pub all_passed : (now next : List Bool) (ls : List (List Token → Bool)) (n : ℕ) (t : Token) (us : List Token) (whole : Bool) → n ≡ 0 → left n now next ls t us ≡ whole → any_met next ls us ≡ whole
all_passed now next ls n t us whole e before = sym (ap (λ (b : Bool). if b then true else any_met next ls us) (none_left now ls n (t ∷ us) e)) ∙ before

-- ---- the first place, and none
pub begun_met : (made new : List Bool) (ls : List (List Token → Bool)) (n entry : ℕ) (us : List Token) → made ≡ replicate n false → entry < n → new ≡ set made entry true → any_met new ls us ≡ met_at ls entry us
begun_met made new ls n entry us e h s =
    ap (λ (m : List Bool). any_met m ls us) s ∙ any_set made ls entry us (omega (arith, ap length e ∙ length-replicate n false, h)) ∙ ap (λ (b : Bool). if b then true else met_at ls entry us) (made_none made n ls us e)

pub made_long : (made : List Bool) (n : ℕ) → made ≡ replicate n false → length made ≡ n
made_long made n e = ap length e ∙ length-replicate n false

any_at : (marks : List Bool) (ls : List (List Token → Bool)) (n : ℕ) (us : List Token) (d : Bool) → n < length marks → get_or marks n d ≡ true → met_at ls n us ≡ true → any_met marks ls us ≡ true
any_at [] ls n us d h m e = absurd (omega arith)
any_at (x ∷ marks) [] n us d h m e = absurd (let no : false ≡ true = sym (no_place n us) ∙ e in cc)
any_at (true ∷ marks) (l ∷ ls) zero us d h m e = or_first (l us) (any_met marks ls us) e
any_at (false ∷ marks) (l ∷ ls) zero us d h m e = cc
any_at (true ∷ marks) (l ∷ ls) (suc n) us d h m e = ap (λ (b : Bool). if l us then true else b) (any_at marks ls n us d (omega arith) m e) ∙ or_true (l us)
  where
    or_true : (b : Bool) → (if b then true else true) ≡ true
    or_true true = refl
    or_true false = refl
any_at (false ∷ marks) (l ∷ ls) (suc n) us d h m e = any_at marks ls n us d (omega arith) m e

pub some_met : (marks : List Bool) (ls : List (List Token → Bool)) (n : ℕ) (d : Bool) → n < length marks → get_or marks n d ≡ true → length marks ≤ length ls → AreLive ls → any_met marks ls (star ∷ []) ≡ true
some_met marks ls n d h m e l = any_at marks ls n (star ∷ []) d h m (l n (omega (arith, e)))

unmarked : (marks : List Bool) (ls : List (List Token → Bool)) (us : List Token) → ((i : ℕ) → i < length marks → get_or marks i false ≡ false) → any_met marks ls us ≡ false
unmarked [] ls us h = refl
unmarked (m ∷ marks) [] us h = refl
unmarked (true ∷ marks) (l ∷ ls) us h = absurd (let no : true ≡ false = h 0 (omega arith) in cc)
unmarked (false ∷ marks) (l ∷ ls) us h = unmarked marks ls us (λ i k. h (suc i) (omega arith))

pub no_mark : (marks : List Bool) (n : ℕ) → length marks ≤ n → ((i : ℕ) → i < n → get_or marks i false ≡ false) → (ls : List (List Token → Bool)) (us : List Token) → any_met marks ls us ≡ false
no_mark marks n h e ls us = unmarked marks ls us (λ i k. e i (omega (arith, h)))

pub one_mark : (marks : List Bool) (n m : ℕ) (d : Bool) → n < length marks → m ≡ suc n → get_or marks n d ≡ false → ((i : ℕ) → i < n → get_or marks i false ≡ false) → (i : ℕ) → i < m → get_or marks i false ≡ false
one_mark marks n m d h e f before i k = elim (cases_lt i n) [
  | inl less ↦ before i less
  | inr more ↦ let same : i ≡ n = omega (arith, k, e, more) in ap (λ (j : ℕ). get_or marks j false) same ∙ default marks n h ∙ f
]
  where
    default : (l : List Bool) (j : ℕ) → j < length l → get_or l j false ≡ get_or l j d
    default [] j w = absurd (omega arith)
    default (x ∷ l) zero w = refl
    default (x ∷ l) (suc j) w = default l j (omega arith)

-- ---- the loop over tokens
module _ (told : List Token → Bool) (texts : List (Bor (List ℕ))) (ls : List (List Token → Bool)) where
  token_is : (at : ℕ) (d : Bor (List ℕ)) → at < length texts → token_at (get_or texts at d).now ≡ get_or (views texts) at star
  token_is at d h = ap (λ (t : Bor (List ℕ)). token_at t.now) (default texts at h) ∙ view_at texts at h
    where
      default : (l : List (Bor (List ℕ))) (j : ℕ) → j < length l → get_or l j d ≡ get_or l j none
      default [] j w = absurd (omega arith)
      default (x ∷ l) zero w = refl
      default (x ∷ l) (suc j) w = default l j (omega arith)

  take_next : (at n : ℕ) (d : Bor (List ℕ)) (us : List Token) → n ≡ suc at → at < length texts → take at (views texts) ++ token_at (get_or texts at d).now ∷ us ≡ take n (views texts) ++ us
  take_next at n d us e h =
      ap (λ (t : Token). take at (views texts) ++ t ∷ us) (token_is at d h)
      ∙ sym (append_assoc (take at (views texts)) (get_or (views texts) at star ∷ []) us)
      ∙ ap (λ (l : List Token). l ++ us) (sym (take-suc (views texts) at star (below texts at h)) ∙ ap (λ (i : ℕ). take i (views texts)) (sym e))

  pub walk_begun : (now : List Bool) (us : List Token) → any_met now ls us ≡ told us → any_met now ls us ≡ told (take 0 (views texts) ++ us)
  walk_begun now us e = e ∙ ap (λ (l : List Token). told (l ++ us)) (sym (first (views texts)))
    where
      first : (l : List Token) → take 0 l ≡ []
      first [] = refl
      first (x ∷ l) = refl

  pub walk_more : (now new : List Bool) (at n : ℕ) (d : Bor (List ℕ)) → n ≡ suc at → at < length texts → ((us : List Token) → any_met new ls us ≡ any_met now ls (token_at (get_or texts at d).now ∷ us))
      → ((us : List Token) → any_met now ls us ≡ told (take at (views texts) ++ us)) → (us : List Token) → any_met new ls us ≡ told (take n (views texts) ++ us)
  walk_more now new at n d e h step before us = step us ∙ before (token_at (get_or texts at d).now ∷ us) ∙ ap told (take_next at n d us e h)

  whole : (n : ℕ) (us : List Token) → take n (views texts) ++ (drop n (views texts) ++ us) ≡ views texts ++ us
  whole n us = sym (append_assoc (take n (views texts)) (drop n (views texts)) us) ∙ ap (λ (l : List Token). l ++ us) (take-append-drop n (views texts))

  pub stopped_met : (now new : List Bool) (at : ℕ) (d : Bor (List ℕ)) → at < length texts → ((us : List Token) → any_met new ls us ≡ any_met now ls (token_at (get_or texts at d).now ∷ us))
      → ((us : List Token) → any_met now ls us ≡ told (take at (views texts) ++ us)) → ((us : List Token) → any_met new ls us ≡ false) → (us : List Token) → any_met new ls us ≡ told (views texts ++ us)
  stopped_met now new at d h step before gone us =
      gone us ∙ sym (gone (drop (suc at) (views texts) ++ us)) ∙ walk_more now new at (suc at) d refl h step before (drop (suc at) (views texts) ++ us) ∙ ap told (whole (suc at) us)

  pub stopped_far : (now new : List Bool) (at : ℕ) (d : Bor (List ℕ)) → at < length texts → ((us : List Token) → any_met new ls us ≡ any_met now ls (token_at (get_or texts at d).now ∷ us))
      → ((us : List Token) → any_met now ls us ≡ told (take at (views texts) ++ us)) → (0 < at → any_met now ls (star ∷ []) ≡ true) → ((us : List Token) → any_met new ls us ≡ false) → IsFar told (views texts) at
  stopped_far now new at d h step before some gone = record {
    within = omega (arith, views_length texts);
    met = λ k. sym (before (star ∷ [])) ∙ some k;
    none = λ more k l.
        let few : List Token = take more (views texts) in
        let same : take (suc at) (views texts) ++ (drop (suc at) few ++ star ∷ []) ≡ few ++ star ∷ [] =
        ap (λ (r : List Token). r ++ (drop (suc at) few ++ star ∷ [])) (sym (fewer (views texts) (suc at) more (omega (arith, k))))
        ∙ sym (append_assoc (take (suc at) few) (drop (suc at) few) (star ∷ []))
        ∙ ap (λ (r : List Token). r ++ star ∷ []) (take-append-drop (suc at) few) in
        ap told (sym same) ∙ sym (walk_more now new at (suc at) d refl h step before (drop (suc at) few ++ star ∷ [])) ∙ gone (drop (suc at) few ++ star ∷ []);
  }
    where
      fewer : (l : List Token) (n m : ℕ) → n ≤ m → take n (take m l) ≡ take n l
      fewer l n m w = take-take n m l w

  pub all_met : (now : List Bool) (at : ℕ) → length texts ≤ at → ((us : List Token) → any_met now ls us ≡ told (take at (views texts) ++ us)) → (us : List Token) → any_met now ls us ≡ told (views texts ++ us)
  all_met now at h before us = before us ∙ ap (λ (l : List Token). told (l ++ us)) (take_all at (views texts) (omega (arith, h, views_length texts)))

  pub all_far : (now : List Bool) (at : ℕ) → at ≤ length texts → length texts ≤ at → ((us : List Token) → any_met now ls us ≡ told (take at (views texts) ++ us)) → (0 < at → any_met now ls (star ∷ []) ≡ true) → IsFar told (views texts) at
  all_far now at l h before some = record {
    within = omega (arith, l, views_length texts);
    met = λ k. sym (before (star ∷ [])) ∙ some k;
    none = λ more k m. absurd (omega (arith, k, m, h, views_length texts));
  }

-- ---- what places lead to without a byte
abbrev led_met : Step → List (List Token → Bool) → List Token → Bool
led_met End ls us = false
led_met (Byte own to) ls us = false
led_met (One set to) ls us = false
led_met (Many set to) ls us = met_at ls to us
led_met (Either way other) ls us = if met_at ls way us then true else met_at ls other us

now_led : (s : Step) (marks : List Bool) (ls : List (List Token → Bool)) (at : ℕ) (us : List Token) → at ≤ length marks → any_met (take at (led s at marks)) ls us ≡ (if any_met (take at marks) ls us then true else led_met s (take at ls) us)
now_led End marks ls at us h = sym (or_none (any_met (take at marks) ls us))
now_led (Byte own to) marks ls at us h = sym (or_none (any_met (take at marks) ls us))
now_led (One own to) marks ls at us h = sym (or_none (any_met (take at marks) ls us))
now_led (Many own to) marks ls at us h = now_marked marks ls to at us h
now_led (Either way other) marks ls at us h =
    now_marked (marked marks way at) ls other at us (omega (arith, marked_long marks way at))
    ∙ ap (λ (b : Bool). if b then true else met_at (take at ls) other us) (now_marked marks ls way at us h)
    ∙ sym (or_later (any_met (take at marks) ls us) (met_at (take at ls) way us) (met_at (take at ls) other us))

-- the end
end_of : (s : Step) (ls : List (List Token → Bool)) → is_end s ≡ false → step_met s ls [] ≡ led_met s ls []
unfolding one_met many_met
end_of End ls e = cc
end_of (Byte own to) ls e = refl
end_of (One own to) ls e = refl
end_of (Many own to) ls e = refl
end_of (Either way other) ls e = refl

end_is : (s : Step) (ls : List (List Token → Bool)) → is_end s ≡ true → step_met s ls [] ≡ true
unfolding end_row
end_is End ls e = refl
end_is (Byte own to) ls e = cc
end_is (One set to) ls e = cc
end_is (Many set to) ls e = cc
end_is (Either way other) ls e = cc

pub end_found : (marks : List Bool) (ls : List (List Token → Bool)) (n at : ℕ) (s : Step) (d b whole : Bool) → n ≡ suc at → at < length marks → get_or marks at d ≡ true → IsPlace ls at s → b ≡ is_end s → b ≡ true
    → any_met (take n marks) ls [] ≡ whole → true ≡ whole
end_found marks ls n at s d b whole e h m p i t before =
    sym (at_marked marks ls n at [] d e h m ∙ ap (λ (x : Bool). if any_met (take at marks) ls [] then true else x) (p [] ∙ end_is s (take at ls) (sym i ∙ t)) ∙ or_true (any_met (take at marks) ls [])) ∙ before
  where
    or_true : (x : Bool) → (if x then true else true) ≡ true
    or_true true = refl
    or_true false = refl

pub end_led : (marks new : List Bool) (ls : List (List Token → Bool)) (n at : ℕ) (s : Step) (d b whole : Bool) → n ≡ suc at → at < length marks → get_or marks at d ≡ true → IsPlace ls at s → b ≡ is_end s → b ≡ false → new ≡ led s at marks
    → any_met (take n marks) ls [] ≡ whole → any_met (take at new) ls [] ≡ whole
end_led marks new ls n at s d b whole e h m p i f w before =
    ap (λ (l : List Bool). any_met (take at l) ls []) w
    ∙ now_led s marks ls at [] (omega arith)
    ∙ ap (λ (x : Bool). if any_met (take at marks) ls [] then true else x) (sym (p [] ∙ end_of s (take at ls) (sym i ∙ f)))
    ∙ sym (at_marked marks ls n at [] d e h m)
    ∙ before

pub end_passed : (marks : List Bool) (ls : List (List Token → Bool)) (n at : ℕ) (us : List Token) (d whole : Bool) → n ≡ suc at → at < length marks → get_or marks at d ≡ false → any_met (take n marks) ls us ≡ whole → any_met (take at marks) ls us ≡ whole
end_passed marks ls n at us d whole e h m before = sym (at_unmarked marks ls n at us d e h m) ∙ before

pub no_end : (marks : List Bool) (ls : List (List Token → Bool)) (n : ℕ) (us : List Token) (whole : Bool) → n ≡ 0 → any_met (take n marks) ls us ≡ whole → false ≡ whole
no_end marks ls n us whole e before = sym (none_left marks ls n us e) ∙ before

pub all_taken : (marks : List Bool) (ls : List (List Token → Bool)) (n : ℕ) (us : List Token) → length marks ≡ n → any_met (take n marks) ls us ≡ any_met marks ls us
all_taken marks ls n us e = ap (λ (m : List Bool). any_met m ls us) (take_all n marks (omega (arith, e)))

-- a byte, and then a star
one_byte : (set : ByteSet) (after : List Token → Bool) (b : ℕ) → one_met set after (star ∷ []) ≡ true → one_met set after (literal b ∷ star ∷ []) ≡ is_in set b
unfolding one_met
one_byte set after b e = ap (λ (x : Bool). if is_in set b then x else false) e ∙ same (is_in set b)
  where
    same : (m : Bool) → (if m then true else false) ≡ m
    same true = refl
    same false = refl

many_first : (set : ByteSet) (after : List Token → Bool) (b : ℕ) → many_met set after (literal b ∷ star ∷ []) ≡ (if after (literal b ∷ star ∷ []) then true else (if is_in set b then many_met set after (star ∷ []) else false))
unfolding many_met
many_first set after b = refl

many_byte : (set : ByteSet) (after : List Token → Bool) (b : ℕ) → many_met set after (star ∷ []) ≡ true → many_met set after (literal b ∷ star ∷ []) ≡ (if is_in set b then true else after (literal b ∷ star ∷ []))
many_byte set after b e =
    many_first set after b
    ∙ ap (λ (x : Bool). if after (literal b ∷ star ∷ []) then true else (if is_in set b then x else false)) e
    ∙ ap (λ (x : Bool). if after (literal b ∷ star ∷ []) then true else x) (same (is_in set b))
    ∙ or_swapped (after (literal b ∷ star ∷ [])) (is_in set b)
  where
    same : (m : Bool) → (if m then true else false) ≡ m
    same true = refl
    same false = refl

byte_of : (s : Step) (ls : List (List Token → Bool)) (b : ℕ) → step_met s ls (star ∷ []) ≡ true → step_met s ls (literal b ∷ star ∷ []) ≡ (if takes_byte s b then true else led_met s ls (literal b ∷ star ∷ []))
unfolding end_row
byte_of End ls b e = refl
byte_of (Byte own to) ls b e = one_byte (Only own) (met_at ls to) b e ∙ sym (or_none (is_in (Only own) b))
byte_of (One own to) ls b e = one_byte own (met_at ls to) b e ∙ sym (or_none (is_in own b))
byte_of (Many own to) ls b e = many_byte own (met_at ls to) b e
byte_of (Either way other) ls b e = refl

four : (a b x y : Bool) → (if (if a then true else x) then true else (if b then true else y)) ≡ (if a then true else (if b then true else (if x then true else y)))
four true b x y = refl
four false b true y = sym (later b)
  where
    later : (c : Bool) → (if c then true else true) ≡ true
    later true = refl
    later false = refl
four false b false y = refl

pub bytes_led : (marks new : List Bool) (ls : List (List Token → Bool)) (n at b : ℕ) (s : Step) (d had own has whole : Bool) → n ≡ suc at → at < length marks → get_or marks at d ≡ true → at < length ls → AreLive ls → IsPlace ls at s → new ≡ led s at marks
    → own ≡ takes_byte s b → has ≡ (if had then true else own) → (if had then true else any_met (take n marks) ls (literal b ∷ star ∷ [])) ≡ whole
    → (if has then true else any_met (take at new) ls (literal b ∷ star ∷ [])) ≡ whole
bytes_led marks new ls n at b s d had own has whole e h m long live p w o j before =
    let us : List Token = literal b ∷ star ∷ [] in
    let old : Bool = any_met (take at marks) ls us in
    let more : Bool = led_met s (take at ls) us in
    ap (λ (x : Bool). if x then true else any_met (take at new) ls us) j
    ∙ ap (λ (x : Bool). if (if had then true else own) then true else x) (ap (λ (l : List Bool). any_met (take at l) ls us) w ∙ now_led s marks ls at us (omega arith))
    ∙ four had old own more
    ∙ ap (λ (x : Bool). if had then true else (if old then true else (if x then true else more))) o
    ∙ ap (λ (x : Bool). if had then true else (if old then true else x)) (sym (p us ∙ byte_of s (take at ls) b (sym (p (star ∷ [])) ∙ live at long)))
    ∙ ap (λ (x : Bool). if had then true else x) (sym (at_marked marks ls n at us d e h m))
    ∙ before

pub bytes_passed : (marks : List Bool) (ls : List (List Token → Bool)) (n at : ℕ) (us : List Token) (d had whole : Bool) → n ≡ suc at → at < length marks → get_or marks at d ≡ false
    → (if had then true else any_met (take n marks) ls us) ≡ whole → (if had then true else any_met (take at marks) ls us) ≡ whole
bytes_passed marks ls n at us d had whole e h m before = ap (λ (x : Bool). if had then true else x) (sym (at_unmarked marks ls n at us d e h m)) ∙ before

pub bytes_begun : (marks : List Bool) (ls : List (List Token → Bool)) (n : ℕ) (us : List Token) (had : Bool) → had ≡ false → length marks ≡ n → (if had then true else any_met (take n marks) ls us) ≡ any_met marks ls us
bytes_begun marks ls n us had e h = ap (λ (x : Bool). if x then true else any_met (take n marks) ls us) e ∙ all_taken marks ls n us h

pub bytes_done : (marks : List Bool) (ls : List (List Token → Bool)) (n : ℕ) (us : List Token) (had whole : Bool) → n ≡ 0 → (if had then true else any_met (take n marks) ls us) ≡ whole → had ≡ whole
bytes_done marks ls n us had whole e before = sym (ap (λ (x : Bool). if had then true else x) (none_left marks ls n us e) ∙ or_none had) ∙ before

-- ---- what is seen at once
pub dead_prefix : (bytes : List ℕ) (fields : List (List (List Piece))) (ts more : List Token) (told : Passed) → told ≡ passed_fixed bytes ts → told ≡ No → head (fixed_row bytes (ts ++ more) (fields_row fields (ts ++ more))) ≡ false
dead_prefix bytes fields ts more told e n = sym (form_no bytes fields (ts ++ more) told (fixed_stays bytes ts more told No e n (λ u. cc)) n)

pub dead_rest : (bytes : List ℕ) (fields : List (List (List Piece))) (texts rest : List (Bor (List ℕ))) (more : List Token) (told : Passed) → told ≡ passed_fixed bytes (views texts) → told ≡ Yes → rest ≡ drop (length bytes) texts → length bytes ≤ length texts
    → head (fields_row fields (views rest ++ more)) ≡ false → head (fixed_row bytes (views texts ++ more) (fields_row fields (views texts ++ more))) ≡ false
dead_rest bytes fields texts rest more told e y r within dead =
    sym (form_yes bytes fields (views texts ++ more) (views rest ++ more) told false (fixed_stays bytes (views texts) more told Yes e y (λ n. cc)) y
    (rest_more (views texts) (views rest) more (length bytes) (ap views r ∙ views_drop texts (length bytes)) (long_views texts (length bytes) within)) (sym dead))

pub dead_way : (fs : List (Bor (List (Bor (List Rust.Piece))))) (d : Bor (List (Bor (List Rust.Piece)))) (e : Bor (List Rust.Piece)) (ts more : List Token) (lead : Lead) → 0 < length fs → length (get_or fs 0 d).now ≡ 1
    → Leads (map piece_of (get_or (get_or fs 0 d).now 0 e).now) (ts ++ more) lead → lead.is_dead ≡ true → head (fields_row (fields_of fs) (ts ++ more)) ≡ false
dead_way fs d e ts more lead some alone l dead =
    sym (single_field fs (drop 1 fs) d e (ts ++ more) false some alone refl (way_dead (map piece_of (get_or (get_or fs 0 d).now 0 e).now) (fields_of (drop 1 fs)) (ts ++ more) lead l dead))

-- ---- the same in other words
pub left_as : (at : ℕ) (now next new after : List Bool) (ls : List (List Token → Bool)) (t : Token) (us : List Token) → new ≡ now → after ≡ next → left at new after ls t us ≡ left at now next ls t us
left_as at now next new after ls t us e k = ap (λ (l : List Bool). left at l after ls t us) e ∙ ap (λ (l : List Bool). left at now l ls t us) k

pub marked_twice : (now first second : List Bool) (way other at : ℕ) → first ≡ marked now way at → second ≡ marked first other at → second ≡ marked (marked now way at) other at
marked_twice now first second way other at e k = k ∙ ap (λ (l : List Bool). marked l other at) e

pub far_as : (told other : List Token → Bool) (ts : List Token) (n : ℕ) → ((us : List Token) → told us ≡ other us) → IsFar told ts n → IsFar other ts n
far_as told other ts n same f = record {
  within = f.within;
  met = λ h. sym (same (take n ts ++ star ∷ [])) ∙ f.met h;
  none = λ more h k. sym (same (take more ts ++ star ∷ [])) ∙ f.none more h k;
}

-- ---- the marks up to the last one
pub trim_begun : (marks : List Bool) (ls : List (List Token → Bool)) (us : List Token) → any_met (take (length marks) marks) ls us ≡ any_met marks ls us
trim_begun marks ls us = all_taken marks ls (length marks) us refl

pub trim_more : (marks : List Bool) (ls : List (List Token → Bool)) (n at : ℕ) (us : List Token) (d whole : Bool) → n ≡ suc at → at < length marks → get_or marks at d ≡ false → any_met (take n marks) ls us ≡ whole → any_met (take at marks) ls us ≡ whole
trim_more marks ls n at us d whole e h m before = sym (at_unmarked marks ls n at us d e h m) ∙ before
