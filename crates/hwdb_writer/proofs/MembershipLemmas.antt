-- Lists with the same members.
use Rattle.std.proofs.Common.{◌≡◌, ◌<◌, ℕ, zero, suc, arith, List, [], ◌∷◌, ◌++◌, length, get_or, refl, sym, ◌∙◌, ap, subst, append_assoc, ◌⊎◌, inl, inr, ⊎_elim}
use Rattle.hwdb_spec.specs.Assignment.{ascending}
use Rattle.hwdb_writer.specs.Internal.Membership.{SameMembers}
use Rattle.hwdb_text.specs.Lemmas.Ascending.{ascending_holds, ascending_ordered, holds_ascending, one_list}
use Rattle.hwdb_text.specs.Lemmas.Members.{Holds}

pub same_refl : (xs : List (List ℕ)) → SameMembers xs xs
same_refl xs = record { into = λ s h. h; back = λ s h. h }

pub same_trans : (xs ys zs : List (List ℕ)) → SameMembers xs ys → SameMembers ys zs → SameMembers xs zs
same_trans xs ys zs a b = record { into = λ s h. b.into s (a.into s h); back = λ s h. a.back s (b.back s h) }

pub same_path : (xs ys : List (List ℕ)) → xs ≡ ys → SameMembers xs ys
same_path xs ys e = subst (SameMembers xs) e (same_refl xs)

left : (xs ys : List (List ℕ)) (s : List ℕ) → Holds xs s → Holds (xs ++ ys) s
left [] ys s h = absurd h
left (x ∷ xs) ys s h = ⊎_elim {C = Holds ((x ∷ xs) ++ ys) s} (λ e. inl e) (λ r. inr (left xs ys s r)) h

right : (xs ys : List (List ℕ)) (s : List ℕ) → Holds ys s → Holds (xs ++ ys) s
right [] ys s h = h
right (x ∷ xs) ys s h = inr (right xs ys s h)

either : (xs ys : List (List ℕ)) (s : List ℕ) → Holds (xs ++ ys) s → Holds xs s ⊎ Holds ys s
either [] ys s h = inr h
either (x ∷ xs) ys s h =
    ⊎_elim {C = Holds (x ∷ xs) s ⊎ Holds ys s} (λ e. inl (inl e)) (λ r. ⊎_elim {C = Holds (x ∷ xs) s ⊎ Holds ys s} (λ a. inl (inr a)) (λ b. inr b) (either xs ys s r)) h

pub same_both : (xs ys us vs : List (List ℕ)) → SameMembers xs ys → SameMembers us vs → SameMembers (xs ++ us) (ys ++ vs)
same_both xs ys us vs a b = record {
  into = λ s h. ⊎_elim {C = Holds (ys ++ vs) s} (λ x. left ys vs s (a.into s x)) (λ y. right ys vs s (b.into s y)) (either xs us s h);
  back = λ s h. ⊎_elim {C = Holds (xs ++ us) s} (λ x. left xs us s (a.back s x)) (λ y. right xs us s (b.back s y)) (either ys vs s h);
}

pub same_swap : (xs ys : List (List ℕ)) → SameMembers (xs ++ ys) (ys ++ xs)
same_swap xs ys = record {
  into = λ s h. ⊎_elim {C = Holds (ys ++ xs) s} (λ x. right ys xs s x) (λ y. left ys xs s y) (either xs ys s h);
  back = λ s h. ⊎_elim {C = Holds (xs ++ ys) s} (λ x. right xs ys s x) (λ y. left xs ys s y) (either ys xs s h);
}

-- one that is there already
pub same_again : (xs : List (List ℕ)) (t : List ℕ) → Holds xs t → SameMembers xs (xs ++ t ∷ [])
same_again xs t h = record {
  into = λ s g. left xs (t ∷ []) s g;
  back = λ s g. ⊎_elim {C = Holds xs s} (λ x. x) (λ y. ⊎_elim {C = Holds xs s} (λ e. subst (Holds xs) (sym e) h) (λ z. absurd z) y) (either xs (t ∷ []) s g);
}

pub same_order : (xs ys : List (List ℕ)) → SameMembers xs ys → ascending xs ≡ ascending ys
same_order xs ys m =
    one_list (ascending xs) (ascending ys) (ascending_ordered xs) (ascending_ordered ys) (λ s h. holds_ascending ys s (m.into s (ascending_holds xs s h)))
    (λ s h. holds_ascending xs s (m.back s (ascending_holds ys s h)))

-- a loop's step, and its end
pub same_more : (now next piece rest whole : List (List ℕ)) → SameMembers next (now ++ piece) → SameMembers (now ++ (piece ++ rest)) whole → SameMembers (next ++ rest) whole
same_more now next piece rest whole a b =
    same_trans (next ++ rest) ((now ++ piece) ++ rest) whole (same_both next (now ++ piece) rest rest a (same_refl rest))
    (same_trans ((now ++ piece) ++ rest) (now ++ (piece ++ rest)) whole (same_path _ _ (append_assoc now piece rest)) b)

pub same_end : (now whole : List (List ℕ)) → SameMembers (now ++ []) whole → SameMembers now whole
same_end now whole a = same_trans now (now ++ []) whole (same_path _ _ (sym (nil now))) a
  where
    nil : (xs : List (List ℕ)) → xs ++ [] ≡ xs
    nil [] = refl
    nil (x ∷ xs) = ap (λ ys. x ∷ ys) (nil xs)

pub held_at : (xs : List (List ℕ)) (i : ℕ) (d : List ℕ) → i < length xs → Holds xs (get_or xs i d)
held_at [] i d lt = absurd (omega (arith, lt))
held_at (x ∷ xs) zero d lt = inl refl
held_at (x ∷ xs) (suc i) d lt = inr (held_at xs i d (omega (arith, lt)))

pub same_known : (xs ys : List (List ℕ)) (i : ℕ) (d t : List ℕ) → xs ≡ ys → i < length xs → get_or xs i d ≡ t → SameMembers ys (ys ++ t ∷ [])
same_known xs ys i d t e lt is =
    let P : List (List ℕ) → Type 0 = λ zs. Holds zs t in
    same_again ys t (subst P e (subst (Holds xs) is (held_at xs i d lt)))

-- a step, if the rest is one piece and what is left then
pub same_step : (now next piece left rest whole : List (List ℕ)) → SameMembers next (now ++ piece) → rest ≡ piece ++ left → SameMembers (now ++ rest) whole → SameMembers (next ++ left) whole
same_step now next piece left rest whole a e b =
    let P : List (List ℕ) → Type 0 = λ z. SameMembers (now ++ z) whole in
    same_more now next piece left whole a (subst P e b)

pub same_done : (now rest whole : List (List ℕ)) → rest ≡ [] → SameMembers (now ++ rest) whole → SameMembers now whole
same_done now rest whole e b = let P : List (List ℕ) → Type 0 = λ z. SameMembers (now ++ z) whole in same_end now whole (subst P e b)

-- a string of another name
pub same_named : (o o' : List (List ℕ)) (x x' : List ℕ) → x' ≡ x → SameMembers o' (o ++ x' ∷ []) → SameMembers o' (o ++ x ∷ [])
same_named o o' x x' e a = let P : List ℕ → Type 0 = λ s. SameMembers o' (o ++ s ∷ []) in subst P e a

-- one string, another, and another
pub same_three : (o a b d : List (List ℕ)) (x y z : List ℕ) → SameMembers a (o ++ x ∷ []) → SameMembers b (a ++ y ∷ []) → SameMembers d (b ++ z ∷ []) → SameMembers d (o ++ x ∷ y ∷ z ∷ [])
same_three o a b d x y z e f g =
    same_trans d (b ++ z ∷ []) _ g
    (same_trans (b ++ z ∷ []) ((a ++ y ∷ []) ++ z ∷ []) _ (same_both b (a ++ y ∷ []) (z ∷ []) (z ∷ []) f (same_refl (z ∷ [])))
    (same_trans ((a ++ y ∷ []) ++ z ∷ []) (((o ++ x ∷ []) ++ y ∷ []) ++ z ∷ []) _
    (same_both (a ++ y ∷ []) ((o ++ x ∷ []) ++ y ∷ []) (z ∷ []) (z ∷ []) (same_both a (o ++ x ∷ []) (y ∷ []) (y ∷ []) e (same_refl (y ∷ []))) (same_refl (z ∷ [])))
    (same_path _ _ (simp append_assoc))))

-- the list before anything is collected
pub at_first : (none first : List (List ℕ)) (x : List ℕ) → none ≡ [] → first ≡ none ++ x ∷ [] → x ≡ [] → first ≡ [] ∷ []
at_first none first x e f g = f ∙ ap (λ z. z ++ x ∷ []) e ∙ ap (λ s. s ∷ []) g

-- what was collected, in order
pub collected : (all start more : List (List ℕ)) → start ≡ [] ∷ [] → SameMembers all (start ++ more) → ascending all ≡ ascending ([] ∷ more)
collected all start more e a = same_order all ([] ∷ more) (let P : List (List ℕ) → Type 0 = λ z. SameMembers all (z ++ more) in subst P e a)
