-- The whole of a database.
use Rattle.std.proofs.Common.{◌≡◌, ◌≤◌, ◌<◌, ℕ, ◌+◌, ◌-◌, ◌^◌, List, [], ◌∷◌, ◌++◌, length, min, sym, ◌∙◌, ap, subst, arith, length-append, append_assoc}
use Rattle.std.specs.Prelude.{codes, flat_map}
use Rattle.byteorder.specs.Endian.{little_bytes}
use Rattle.hwdb_spec.specs.Tree.{Tree}
use Rattle.hwdb_spec.specs.Written.{text_size, record_at, node_text, place_of, table_of, section_of, header_text, written}
use Rattle.hwdb_writer.proofs.LengthLemmas.{length-node}
use Rattle.hwdb_text.specs.Lemmas.Ascending.{IsOrdered, ascending_ordered}

pub length-written : (t : Tree) → length (written t) ≡ 80 + text_size t + length (section_of (table_of t))
unfolding written
length-written t =
    length-append (header_text t ++ node_text (place_of (80 + text_size t) (table_of t)) 80 t) (section_of (table_of t))
    ∙ ap (λ n. n + length (section_of (table_of t))) (length-append (header_text t) (node_text (place_of (80 + text_size t) (table_of t)) 80 t) ∙ ap (λ n. 80 + n) (length-node (place_of (80 + text_size t) (table_of t)) 80 t))

pub table_ordered : (t : Tree) (ss : List (List ℕ)) → ss ≡ table_of t → IsOrdered ss
table_ordered t ss e = subst IsOrdered (sym e) (ascending_ordered _)

abbrev pub numbers : (end root nodes section : ℕ) → List ℕ
numbers end root nodes section = 1 ∷ end ∷ 80 ∷ 24 ∷ 16 ∷ 32 ∷ root ∷ nodes ∷ section ∷ []

pub built : (t : Tree) (strings : List (List ℕ)) (nodes section root : ℕ) (o a b d f : List ℕ) → strings ≡ table_of t → nodes ≡ text_size t → section ≡ length (section_of (table_of t)) → root ≡ record_at 80 t →
    o ≡ [] → a ≡ o ++ codes "KSLPHHRH" → b ≡ a ++ flat_map (little_bytes 8) (numbers (80 + nodes + section) root nodes section) →
    d ≡ b ++ node_text (place_of (80 + nodes) strings) (length b) t → f ≡ d ++ section_of strings → f ≡ written t
unfolding written
built t strings nodes section root o a b d f es en ec er eo ea eb ed ef =
    let header : b ≡ header_text t =
    eb ∙ ap (λ x. x ++ flat_map (little_bytes 8) (numbers (80 + nodes + section) root nodes section)) (ea ∙ ap (λ x. x ++ codes "KSLPHHRH") eo)
    ∙ (λ i. codes "KSLPHHRH" ++ flat_map (little_bytes 8) (numbers (80 + en i + ec i) (er i) (en i) (ec i))) in
    ef
    ∙ ap (λ x. x ++ section_of strings) (ed ∙ (λ i. header i ++ node_text (place_of (80 + en i) (es i)) (length (header i)) t))
    ∙ ap (λ ss. (header_text t ++ node_text (place_of (80 + text_size t) (table_of t)) 80 t) ++ section_of ss) es

-- the header's numbers, three at a time
pub three_rows : (end root nodes section : ℕ) (a b c d : List ℕ) → b ≡ a ++ flat_map (little_bytes 8) (1 ∷ end ∷ 80 ∷ []) → c ≡ b ++ flat_map (little_bytes 8) (24 ∷ 16 ∷ 32 ∷ []) → d ≡ c ++ flat_map (little_bytes 8) (root ∷ nodes ∷ section ∷ []) →
    d ≡ a ++ flat_map (little_bytes 8) (numbers end root nodes section)
three_rows end root nodes section a b c d e f g =
    g ∙ ap (λ x. x ++ flat_map (little_bytes 8) (root ∷ nodes ∷ section ∷ [])) (f ∙ ap (λ x. x ++ flat_map (little_bytes 8) (24 ∷ 16 ∷ 32 ∷ [])) e) ∙ (simp append_assoc)

-- what a saturated sum says of the length
pub too_long : (nodes first end most size strings : ℕ) → nodes ≡ size → first ≡ min (nodes + 80) (2 ^ 64 - 1) → end ≡ min (first + strings) (2 ^ 64 - 1) → most < end → most < 80 + size + strings
too_long nodes first end most size strings a b c d = omega (arith, a, b, c, d)

pub record Exact (nodes first end most size strings : ℕ) : Type 0 where
  pub nodes_is : nodes ≡ size
  pub first_is : first ≡ 80 + nodes
  pub section_is : end - first ≡ strings
  pub within : 80 + size + strings ≤ most

pub exact : (nodes first end most size strings : ℕ) → nodes ≡ size → first ≡ min (nodes + 80) (2 ^ 64 - 1) → end ≡ min (first + strings) (2 ^ 64 - 1) → end ≤ most → most < 2 ^ 32 → Exact nodes first end most size strings
exact nodes first end most size strings a b c d e = record {
  nodes_is = omega (arith, a, b, c, d, e);
  first_is = omega (arith, a, b, c, d, e);
  section_is = omega (arith, a, b, c, d, e);
  within = omega (arith, a, b, c, d, e);
}
