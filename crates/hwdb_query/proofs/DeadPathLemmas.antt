-- Nothing is wanted at or below a dead path, and nothing there is live.
use Rattle.std.proofs.Common.{◌≡◌, ◌∙◌, ap, sym, refl, ℕ, ◌+◌, Bool, true, false, List, [], ◌∷◌, ◌++◌, map, filter, append_assoc, if◌then◌else◌}
use Rattle.std.specs.Prelude.{flat_map}
use Rattle.std.proofs.lemmas.Grind.{flat_map-append}
use Rattle.std.proofs.lemmas.List.{append-nil}
use Rattle.std.proofs.lemmas.List.Elements.{filter-append}
use Rattle.hwdb_spec.specs.Patterns.{tokens}
use Rattle.hwdb_pattern.specs.Laws.{MatchesIsTested, LiveIsTested, DeadStaysDead, DeadMatchesNothing}
use Rattle.hwdb_spec.specs.Tree.{IsLive, Tree, Children, prefix_of, values_under, values_below, members_under, is_live, live_under, live_below}
use Rattle.hwdb_query.specs.Internal.Members.{assignment_of}
use Rattle.hwdb_spec.specs.Tree.Tree.{Node}
use Rattle.hwdb_spec.specs.Tree.Children.{NoMore, Child}
use Rattle.hwdb_spec.specs.Answers.{is_wanted, is_match}
use Rattle.hwdb_query.proofs.PartLemmas.{own_unwanted}
use Rattle.hwdb_query.specs.Lemmas.Parts.{own_listed}

-- what is known of all paths that begin with a dead one
pub record Dead (device path : List ℕ) : Type 0 where
  pub unmatched : (more : List ℕ) → is_match device (path ++ more) ≡ false
  pub dead : (more : List ℕ) → is_live (path ++ more) device ≡ false

never : (b : Bool) → (b ≡ true → ⊥) → b ≡ false
never true h = absurd (h refl)
never false h = refl

pub dead_path : (device path : List ℕ) → MatchesIsTested → LiveIsTested → DeadStaysDead → DeadMatchesNothing
    → (IsLive path device → ⊥) → Dead device path
dead_path device path matched live paths patterns dead =
    record {
      unmatched = λ more. never _ (λ h. dead (patterns path more device ((matched (tokens (path ++ more)) device).0 h)));
      dead = λ more. never _ (λ h. dead (paths path more device ((live (path ++ more) device).0 h)));
    }

mutual
  unfolding values_under

  dead_values : (device path : List ℕ) → Dead device path → (more : List ℕ) (t : Tree) → filter (is_wanted device) (members_under (path ++ more) t) ≡ []
  dead_values device path dead more (Node prefix values children) =
      let below : filter (is_wanted device) (flat_map assignment_of (values_below (path ++ (more ++ prefix)) children)) ≡ [] = dead_below device path dead (more ++ prefix) children in
      ap (λ r. filter (is_wanted device) (flat_map assignment_of (map (λ v. (r, v)) values ++ values_below r children))) (append_assoc path more prefix)
      ∙ ap (filter (is_wanted device)) (flat_map-append assignment_of (map (λ v. (path ++ (more ++ prefix), v)) values) (values_below (path ++ (more ++ prefix)) children))
      ∙ filter-append (is_wanted device) (flat_map assignment_of (map (λ v. (path ++ (more ++ prefix), v)) values)) (flat_map assignment_of (values_below (path ++ (more ++ prefix)) children))
      ∙ ap (λ l. l ++ filter (is_wanted device) (flat_map assignment_of (values_below (path ++ (more ++ prefix)) children)))
      (ap (filter (is_wanted device)) (own_listed (path ++ (more ++ prefix)) values) ∙ own_unwanted device (path ++ (more ++ prefix)) values (dead.unmatched (more ++ prefix)))
      ∙ below

  dead_below : (device path : List ℕ) → Dead device path → (more : List ℕ) (ks : Children) → filter (is_wanted device) (flat_map assignment_of (values_below (path ++ more) ks)) ≡ []
  dead_below device path dead more NoMore = refl
  dead_below device path dead more (Child byte t ks) =
      let here : filter (is_wanted device) (members_under (path ++ (more ++ byte ∷ [])) t) ≡ [] = dead_values device path dead (more ++ byte ∷ []) t in
      let rest : filter (is_wanted device) (flat_map assignment_of (values_below (path ++ more) ks)) ≡ [] = dead_below device path dead more ks in
      ap (filter (is_wanted device)) (flat_map-append assignment_of (values_under ((path ++ more) ++ byte ∷ []) t) (values_below (path ++ more) ks))
      ∙ filter-append (is_wanted device) (flat_map assignment_of (values_under ((path ++ more) ++ byte ∷ []) t)) (flat_map assignment_of (values_below (path ++ more) ks))
      ∙ ap (λ l. l ++ filter (is_wanted device) (flat_map assignment_of (values_below (path ++ more) ks)))
      (ap (λ r. filter (is_wanted device) (members_under r t)) (append_assoc path more (byte ∷ [])) ∙ here)
      ∙ rest

mutual
  unfolding live_under

  dead_nodes : (device path : List ℕ) → Dead device path → (more : List ℕ) (t : Tree) → live_under device (path ++ more) t ≡ 0
  dead_nodes device path dead more (Node prefix values children) =
      let below : live_below device (path ++ (more ++ prefix)) children ≡ 0 = dead_nodes_below device path dead (more ++ prefix) children in
      ap (λ r. (if is_live r device then 1 else 0) + live_below device r children) (append_assoc path more prefix)
      ∙ ap (λ b. (if b then 1 else 0) + live_below device (path ++ (more ++ prefix)) children) (dead.dead (more ++ prefix))
      ∙ ap (λ n. 0 + n) below

  dead_nodes_below : (device path : List ℕ) → Dead device path → (more : List ℕ) (ks : Children) → live_below device (path ++ more) ks ≡ 0
  dead_nodes_below device path dead more NoMore = refl
  dead_nodes_below device path dead more (Child byte t ks) =
      let here : live_under device (path ++ (more ++ byte ∷ [])) t ≡ 0 = dead_nodes device path dead (more ++ byte ∷ []) t in
      let rest : live_below device (path ++ more) ks ≡ 0 = dead_nodes_below device path dead more ks in
      ap (λ r. live_under device r t + live_below device (path ++ more) ks) (append_assoc path more (byte ∷ []))
      ∙ ap (λ n. n + live_below device (path ++ more) ks) here ∙ ap (λ n. 0 + n) rest

-- a node whose path is dead
pub none_wanted : (device path : List ℕ) (t : Tree) → Dead device (path ++ prefix_of t) → filter (is_wanted device) (members_under path t) ≡ []
unfolding values_under prefix_of
none_wanted device path (Node prefix values children) dead =
    let q = path ++ prefix in
    let below : filter (is_wanted device) (flat_map assignment_of (values_below (q ++ []) children)) ≡ [] = dead_below device q dead [] children in
    ap (filter (is_wanted device)) (flat_map-append assignment_of (map (λ v. (q, v)) values) (values_below q children))
    ∙ filter-append (is_wanted device) (flat_map assignment_of (map (λ v. (q, v)) values)) (flat_map assignment_of (values_below q children))
    ∙ ap (λ l. l ++ filter (is_wanted device) (flat_map assignment_of (values_below q children)))
    (ap (filter (is_wanted device)) (own_listed q values) ∙ own_unwanted device q values (ap (is_match device) (sym (append-nil q)) ∙ dead.unmatched []))
    ∙ ap (λ r. filter (is_wanted device) (flat_map assignment_of (values_below r children))) (sym (append-nil q)) ∙ below

pub none_live : (device path : List ℕ) (t : Tree) → Dead device (path ++ prefix_of t) → live_under device path t ≡ 0
unfolding live_under prefix_of
none_live device path (Node prefix values children) dead =
    let q = path ++ prefix in
    let below : live_below device (q ++ []) children ≡ 0 = dead_nodes_below device q dead [] children in
    ap (λ r. (if is_live r device then 1 else 0) + live_below device r children) (sym (append-nil q))
    ∙ ap (λ b. (if b then 1 else 0) + live_below device (q ++ []) children) (dead.dead []) ∙ ap (λ n. 0 + n) below

-- a node after a dead path
pub none_wanted_behind : (device path : List ℕ) (t : Tree) → Dead device path → filter (is_wanted device) (members_under path t) ≡ []
none_wanted_behind device path t dead =
    ap (λ r. filter (is_wanted device) (members_under r t)) (sym (append-nil path)) ∙ dead_values device path dead [] t

pub none_live_behind : (device path : List ℕ) (t : Tree) → Dead device path → live_under device path t ≡ 0
none_live_behind device path t dead = ap (λ r. live_under device r t) (sym (append-nil path)) ∙ dead_nodes device path dead [] t
