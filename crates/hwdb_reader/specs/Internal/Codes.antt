-- The code of a tree: its nodes as the steps of a machine that builds it, with a list of trees and one of children.
use Rattle.std.specs.Prelude.{List, [], ◌∷◌, ℕ, zero, suc, refl, ◌≡◌}
use Rattle.std.proofs.Common.{◌∙◌}
use Rattle.std.specs.Coded.{Coded, coded_list, coded_ℕ, code_by, coded×}
use Rattle.hwdb_spec.specs.Tree.{Value, Tree, Children}
use Rattle.hwdb_spec.specs.Tree.Tree.{Node}
use Rattle.hwdb_spec.specs.Tree.Children.{NoMore, Child}

abbrev pub coded_bytes : Coded (List ℕ)
coded_bytes = coded_list coded_ℕ

abbrev pub value_code : Coded Value
value_code =
    code_by (((ℕ × ℕ) × List ℕ) × (List ℕ × List ℕ)) (coded× (coded× (coded× coded_ℕ coded_ℕ) coded_bytes) (coded× coded_bytes coded_bytes)) (λ v. (((v.priority, v.line), v.key), (v.value, v.path)))
    (λ p. record { priority = p.0.0.0; line = p.0.0.1; key = p.0.1; value = p.1.0; path = p.1.1 }) (λ _. refl)

-- a step: 0 begins a list of children, 1 makes a node of one, 2 puts a node in front of one
abbrev pub Step : Type 0
Step = (ℕ × ℕ) × (List ℕ × List Value)

abbrev pub steps_code : Coded (List Step)
steps_code = coded_list (coded× (coded× coded_ℕ coded_ℕ) (coded× coded_bytes (coded_list value_code)))

unfoldable mutual
  -- the steps that build a tree, and those after them
  pub steps : Tree → List Step → List Step
  steps (Node prefix values children) rest = steps_below children (((1, 0), (prefix, values)) ∷ rest)

  pub steps_below : Children → List Step → List Step
  steps_below NoMore rest = ((0, 0), ([], [])) ∷ rest
  steps_below (Child byte tree more) rest = steps_below more (steps tree (((2, byte), ([], [])) ∷ rest))

-- the first tree after all steps
unfoldable pub built : List Step → List Children → List Tree → Tree
built [] ks [] = Node [] [] NoMore
built [] ks (t ∷ ts) = t
built (((zero, byte), node) ∷ rest) ks ts = built rest (NoMore ∷ ks) ts
built (((suc zero, byte), node) ∷ rest) [] ts = built rest [] ts
built (((suc zero, byte), node) ∷ rest) (k ∷ ks) ts = built rest ks (Node node.0 node.1 k ∷ ts)
built (((suc (suc n), byte), node) ∷ rest) [] ts = built rest [] ts
built (((suc (suc n), byte), node) ∷ rest) (k ∷ ks) [] = built rest (k ∷ ks) []
built (((suc (suc n), byte), node) ∷ rest) (k ∷ ks) (t ∷ ts) = built rest (Child byte t k ∷ ks) ts

mutual
  unfolding built steps

  pub built_tree : (t : Tree) (rest : List Step) (ks : List Children) (ts : List Tree) → built (steps t rest) ks ts ≡ built rest ks (t ∷ ts)
  built_tree (Node prefix values children) rest ks ts = built_below children (((1, 0), (prefix, values)) ∷ rest) ks ts

  pub built_below : (k : Children) (rest : List Step) (ks : List Children) (ts : List Tree) → built (steps_below k rest) ks ts ≡ built rest (k ∷ ks) ts
  built_below NoMore rest ks ts = refl
  built_below (Child byte tree more) rest ks ts =
      built_below more (steps tree (((2, byte), ([], [])) ∷ rest)) ks ts ∙ built_tree tree (((2, byte), ([], [])) ∷ rest) (more ∷ ks) ts

pub rebuilt : (t : Tree) → built (steps t []) [] [] ≡ t
unfolding built
rebuilt t = built_tree t [] [] []

abbrev pub tree_code : Coded Tree
tree_code = code_by (List Step) steps_code (λ t. steps t []) (λ s. built s [] []) rebuilt
