-- How many strings there are at most: their nodes and values have room in the records.
use Rattle.std.proofs.Common.{◌≡◌, ◌≤◌, ◌+◌, ◌*◌, List, [], ◌∷◌, length, take, drop, arith, ◌∙◌, length-append, length-drop}
use Rattle.std.proofs.lemmas.List.{length-map, length-take-le}
use Rattle.hwdb_spec.specs.Written.{texts_size}
use Rattle.hwdb_writer.specs.Internal.Entries.{value_of}
use Rattle.hwdb_writer.specs.Internal.PostOrder.{Sub, children_in, values_at, joined, trees_after, AreWhole}
use Rattle.hwdb_writer.specs.Internal.Stored.{all_values}
use Rattle.hwdb_writer.specs.declared.entries.Setting.{Setting}
use Rattle.hwdb_writer.specs.declared.nodes.BuiltNode.{BuiltNode}
use Rattle.hwdb_writer.proofs.EmissionLemmas.{size_more}

pub values_long : (es : List Setting) (n : BuiltNode) → n.first + n.count ≤ length es → length (values_at es n) ≡ n.count
values_long es n most =
    length-map (take n.count (drop n.first es)) value_of ∙ length-take-le n.count (drop n.first es) (let l = length-drop n.first es in omega (arith, l, most))

pub few_from : (es : List Setting) (ts : List Sub) (ns : List BuiltNode) → AreWhole es ts ns →
    texts_size (children_in ts) + 24 * length ns + 32 * length (all_values es ns) ≤ texts_size (children_in (trees_after es ts ns))
unfolding AreWhole trees_after
few_from es ts [] w = omega arith
few_from es ts (n ∷ ns) w =
    let a = few_from es (joined es ts n) ns w.2 in
    let b = size_more es ts n w.0 w.1 in
    let c = values_long es n w.1 in
    let d = length-append (values_at es n) (all_values es ns) in
    omega (arith, a, b, c, d)
