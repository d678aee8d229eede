-- What is collected of a node, and of those below it, by a collector whose relation is `Collects`.
use Rattle.std.proofs.Common.{◌≡◌, ◌∙◌, ap, sym, subst, ℕ, List, [], ◌++◌, filter, true, false}
use Rattle.std.proofs.lemmas.List.Elements.{filter-append}
use Rattle.hwdb_spec.specs.Tree.{Tree, Value, prefix_of, members_under, values_of}
use Rattle.hwdb_reader.specs.Views.{children_of}
use Rattle.hwdb_spec.specs.Assignment.{Assignment}
use Rattle.hwdb_spec.specs.Answers.{is_wanted, is_match}
use Rattle.hwdb_query.specs.Internal.Members.{own_members, members_in}
use Rattle.hwdb_query.proofs.PartLemmas.{own_wanted, own_unwanted}
use Rattle.hwdb_query.specs.Lemmas.Parts.{members_split}

-- nothing may be taken, and one list after another
abbrev pub TakesNone : {C : Type 0} → (C → List Assignment → C → Type 0) → Type 0
TakesNone {C} Collects = (a : C) → Collects a [] a

abbrev pub TakesMore : {C : Type 0} → (C → List Assignment → C → Type 0) → Type 0
TakesMore {C} Collects = (a b c : C) (xs ys : List Assignment) → Collects a xs b → Collects b ys c → Collects a (xs ++ ys) c

module _ {C : Type 0} (Collects : C → List Assignment → C → Type 0) where
  pub collected_none : TakesNone Collects → (a : C) (xs : List Assignment) → xs ≡ [] → Collects a xs a
  collected_none nothing a xs none = subst (λ l. Collects a l a) (sym none) (nothing a)

  -- what the values of a node assign, by whether the path matches
  pub own_collected : (device path : List ℕ) (values : List Value) (a b : C) → is_match device path ≡ true → Collects a (own_members path values) b
      → Collects a (filter (is_wanted device) (own_members path values)) b
  own_collected device path values a b is own = subst (λ l. Collects a l b) (sym (own_wanted device path values is)) own

  pub own_left : TakesNone Collects → (device path : List ℕ) (values : List Value) (a : C) → is_match device path ≡ false → Collects a (filter (is_wanted device) (own_members path values)) a
  own_left nothing device path values a is = collected_none nothing a _ (own_unwanted device path values is)

  -- a node's own values, and its children's
  pub node_collected : TakesMore Collects → (device path : List ℕ) (t : Tree) (a b c : C) → Collects a (filter (is_wanted device) (own_members (path ++ prefix_of t) (values_of t))) b
      → Collects b (filter (is_wanted device) (members_in (path ++ prefix_of t) (children_of t))) c → Collects a (filter (is_wanted device) (members_under path t)) c
  node_collected more device path t a b c own below =
      subst (λ l. Collects a l c)
      (sym (ap (filter (is_wanted device)) (members_split path t) ∙ filter-append (is_wanted device) (own_members (path ++ prefix_of t) (values_of t)) (members_in (path ++ prefix_of t) (children_of t))))
      (more a b c (filter (is_wanted device) (own_members (path ++ prefix_of t) (values_of t))) (filter (is_wanted device) (members_in (path ++ prefix_of t) (children_of t))) own below)
