-- How long the texts of a tree are.
use Rattle.std.proofs.Common.{◌≡◌, ℕ, ◌+◌, ◌*◌, List, [], ◌∷◌, length, refl, ◌∙◌, arith, length-append}
use Rattle.std.specs.Prelude.{flat_map}
use Rattle.byteorder.specs.Numbers.{length-bytes_low_first}
use Rattle.hwdb_spec.specs.Tree.{Value, Tree, Children, count}
use Rattle.hwdb_spec.specs.Tree.Tree.{Node}
use Rattle.hwdb_spec.specs.Tree.Children.{NoMore, Child}
use Rattle.hwdb_spec.specs.Written.{text_size, texts_size, value_text, entries_text, node_text, nodes_text}

module _ (place : List ℕ → ℕ) where
  pub length-value : (v : Value) → length (value_text place v) ≡ 32
  length-value v = simp length-append

  pub length-values : (vs : List Value) → length (flat_map (value_text place) vs) ≡ 32 * length vs
  length-values [] = refl
  length-values (v ∷ vs) =
      length-append (value_text place v) (flat_map (value_text place) vs)
      ∙ (let a = length-value v in let b = length-values vs in omega (arith, a, b))

  pub length-entries : (from : ℕ) (ks : Children) → length (entries_text place from ks) ≡ 16 * count ks
  unfolding entries_text count
  length-entries from NoMore = refl
  length-entries from (Child byte t more) =
      let e = length-entries (from + text_size t) more in
      simp length-append (omega (arith, e))

  mutual
    unfolding text_size node_text

    pub length-node : (from : ℕ) (t : Tree) → length (node_text place from t) ≡ text_size t
    length-node from (Node prefix values children) =
        let a = length-nodes from children in
        let b = length-entries from children in
        let c = length-values values in
        simp (length-append, length-bytes_low_first) (omega (arith, a, b, c))

    pub length-nodes : (from : ℕ) (ks : Children) → length (nodes_text place from ks) ≡ texts_size ks
    length-nodes from NoMore = refl
    length-nodes from (Child byte t more) =
        let a = length-node from t in
        let b = length-nodes (from + text_size t) more in
        length-append (node_text place from t) (nodes_text place (from + text_size t) more) ∙ omega (arith, a, b)
