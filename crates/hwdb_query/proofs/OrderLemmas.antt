-- The order of positions is total.
use Rattle.std.proofs.Common.{◌≡◌, ◌∙◌, ap, sym, refl, true, false, List, ℕ, Option, Some, None, filter, [], take}
use Rattle.std.specs.declared.cmp.Ordering.{Ordering}
use Rattle.std.specs.declared.cmp.Ordering.TheVariants.{Less, Equal, Greater}
use Rattle.std.specs.Ordering.{is_lt}
use Rattle.std.proofs.lemmas.Cmp.{alike_right}
use Rattle.hwdb_spec.specs.Tree.{Tree, answers, answers_after, members_under}
use Rattle.hwdb_spec.specs.Assignment.{Position, position_cmp, assignment_cmp}
use Rattle.hwdb_spec.specs.Answers.{is_after, is_behind, is_wanted}
use Rattle.hwdb_query.specs.Internal.Members.{wanted}
use Rattle.hwdb_query.specs.Internal.Lists.{keep_all}
use Rattle.hwdb_query.proofs.PutLemmas.{Upward, filter_put_all, keep_least}
use Rattle.hwdb_spec.specs.Lemmas.Orders.{less_of}
use Rattle.hwdb_spec.specs.Lemmas.Places.{position_total}

-- whether a position comes after the one given, by cases
pub after_none : (a : Option Position) (s : Position) → a ≡ None → true ≡ is_after a s
unfolding is_after
after_none a s e = sym (ap (λ o. is_after o s) e)

pub after_less : (a : Option Position) (p s : Position) → a ≡ Some p → Less ≡ position_cmp p s → true ≡ is_after a s
unfolding is_after
after_less a p s e h = ap is_lt h ∙ sym (ap (λ o. is_after o s) e)

pub after_other : (a : Option Position) (p s : Position) (o : Ordering) → a ≡ Some p → o ≡ position_cmp p s → (o ≡ Less → ⊥) → false ≡ is_after a s
unfolding is_after
after_other a p s Less e h n = absurd (n refl)
after_other a p s Equal e h n = ap is_lt h ∙ sym (ap (λ o. is_after o s) e)
after_other a p s Greater e h n = ap is_lt h ∙ sym (ap (λ o. is_after o s) e)

-- what comes after a position comes after it further on
pub behind_upward : (after : Option Position) → Upward assignment_cmp (is_behind after)
unfolding assignment_cmp is_after
behind_upward None = record { less = λ x y h e. refl; same = λ x y h e. refl }
behind_upward (Some p) =
    record {
      less = λ x y h e. ap is_lt (position_total.trans p x.position y.position (less_of _ h) e);
      same = λ x y h e. ap is_lt (sym (alike_right position_total x.position y.position p e)) ∙ h;
    }

-- the least answers after a position are the least of what is wanted
pub page_is : (page : ℕ) (device : List ℕ) (after : Option Position) (t : Tree)
    → keep_all assignment_cmp page (wanted device after (members_under [] t)) [] ≡ take page (answers_after device after t)
unfolding wanted answers_after answers
page_is page device after t =
    keep_least assignment_cmp page (filter (is_behind after) (filter (is_wanted device) (members_under [] t)))
    ∙ ap (take page) (sym (filter_put_all assignment_cmp (is_behind after) (behind_upward after) (filter (is_wanted device) (members_under [] t)) []))
