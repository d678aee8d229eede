-- Parts of a file that were read.
use Rattle.std.proofs.Common.{◌≡◌, ◌≤◌, ◌<◌, ◌+◌, ◌-◌, ◌∙◌, ℕ, zero, suc, List, [], ap, sym, arith, drop, take, length, length-drop, min, slice_index, take_all, length-take, get_or-take, get_or-drop}
use Rattle.std.proofs.Math.Nat.{min-le_right}
use Rattle.hwdb_spec.specs.declared.Layout.{Layout}
use Rattle.hwdb_reader.specs.declared.passes.outline.Outline.{Outline}
use Rattle.hwdb_reader.specs.Passes.Views.{IsOf, IsPart, Stand, Stands, pending}

-- a buffer that was filled
pub filled : (file buf : List ℕ) (from n : ℕ) → 0 < n → n ≡ length buf → take n buf ≡ take (length buf) (drop from file) → IsPart file from buf
filled file buf from n some all is =
    let same : buf ≡ take (length buf) (drop from file) = sym (take_all n buf (omega (arith, all))) ∙ is in
    let size : length buf ≡ min (length buf) (length (drop from file)) = ap length same ∙ length-take (length buf) (drop from file) in
    let less : min (length buf) (length (drop from file)) ≤ length (drop from file) = min-le_right (length buf) (length (drop from file)) in
    let rest = length-drop from file in
    record {
      within = omega (arith, size, less, rest, some, all);
      same = λ i lt. ap (λ (l : List ℕ). slice_index l i) same ∙ get_or-take (length buf) (drop from file) i 0 lt ∙ get_or-drop from file i 0;
    }

none_left : (n size k : ℕ) → min 1 k ≡ 0 → k ≡ n - size → n ≤ size
none_left n size zero all rest = omega (arith, rest)
none_left n size (suc k) all rest = absurd (omega (arith, all))

-- nothing more was read, though there was room
pub ended : (file buf : List ℕ) (size n : ℕ) → length buf ≡ 1 → n ≡ 0 → take n buf ≡ take (length buf) (drop size file) → length file ≤ size
ended file buf size n room none is =
    let there : take 1 (drop size file) ≡ [] = ap (λ k. take k (drop size file)) (sym room) ∙ sym is ∙ ap (λ k. take k buf) none in
    let all : min 1 (length (drop size file)) ≡ 0 = sym (length-take 1 (drop size file)) ∙ ap length there in
    let rest = length-drop size file in
    none_left (length file) size (length (drop size file)) all rest

-- at the first node none waits
pub none_waits : (o : Outline) (file offsets heights : List ℕ) (n : ℕ) → n ≡ 0 → IsOf o file → Stands file (pending offsets heights n) o.frame.sizes.nodes
unfolding pending Stand
none_waits o file offsets heights zero none is = ap (λ (l : Layout). l.nodes) is.layout
none_waits o file offsets heights (suc n) none is = absurd (omega (arith, none))

-- a file ends where its strings do
pub long_is : (file strings : List ℕ) (first size : ℕ) → length file ≤ size → IsPart file first strings → length strings ≡ size - first → first ≤ size → length file ≡ size
long_is file strings first size ends p many inside = let within = p.within in omega (arith, ends, within, many, inside)
