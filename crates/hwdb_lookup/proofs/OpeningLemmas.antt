-- The header of a file of which some blocks were read.
use Rattle.std.proofs.Common.{◌≡◌, ◌≤◌, ◌<◌, ◌-◌, ℕ, zero, suc, ◌+◌, List, [], ◌∷◌, length, take, slice_index, refl, sym, ◌∙◌, ap, arith}
use Rattle.hwdb_spec.specs.declared.Layout.{Layout}
use Rattle.hwdb_spec.specs.Format.{layout_of, IsHeader, number_at, header_of, Header}
use Rattle.hwdb_lookup.specs.Internal.Agreement.{AgreeIn}
use Rattle.hwdb_lookup.proofs.KnownLemmas.{number_same, agree_part}

take_same : (n : ℕ) (a b : List ℕ) → n ≤ length a → n ≤ length b → ((j : ℕ) → j < n → slice_index a j ≡ slice_index b j) → take n a ≡ take n b
take_same zero a b la lb same = refl
take_same (suc n) [] b la lb same = absurd (omega (arith, la))
take_same (suc n) (x ∷ a) [] la lb same = absurd (omega (arith, lb))
take_same (suc n) (x ∷ a) (y ∷ b) la lb same =
    let first : x ≡ y = same 0 (omega arith) in
    let rest = take_same n a b (omega (arith, la)) (omega (arith, lb)) (λ j lt. same (suc j) (omega (arith, lt))) in
    ap (λ (more : List ℕ). x ∷ more) rest ∙ ap (λ z. z ∷ take n b) first

module _ (a b : List ℕ) (same : AgreeIn a b 0 80) where
  at : (i : ℕ) → i + 8 ≤ 80 → number_at 8 i a ≡ number_at 8 i b
  at i le = number_same a b 8 i (agree_part a b 0 80 i (i + 8) (omega arith) le same)

  pub header_is_same : header_of a ≡ header_of b
  header_is_same = λ k. record {
    file_size = at 16 (omega arith) k;
    header_size = at 24 (omega arith) k;
    node_size = at 32 (omega arith) k;
    child_entry_size = at 40 (omega arith) k;
    value_entry_size = at 48 (omega arith) k;
    nodes_root_off = at 56 (omega arith) k;
    nodes_len = at 64 (omega arith) k;
    strings_len = at 72 (omega arith) k;
  }

  layout_by : Header → Layout
  layout_by h = record { node_size = h.node_size; child_size = h.child_entry_size; value_size = h.value_entry_size; nodes = h.header_size; root = h.nodes_root_off; strings = h.header_size + h.nodes_len }

  pub layout_same : layout_of a ≡ layout_of b
  unfolding layout_of layout_by
  layout_same = ap layout_by header_is_same

  pub header_same : length a ≡ length b → AgreeIn a b (length a - 1) (length a) → IsHeader a → IsHeader b
  header_same size last h =
      let long = h.long in
      let fields = header_is_same in
      let s0 = h.sizes.header in
      let s1 = h.sizes.node in
      let s2 = h.sizes.child in
      let s3 = h.sizes.value in
      let file = h.lengths.file in
      let parts = h.lengths.parts in
      let some = h.strings.some in
      let n16 = at 16 (omega arith) in
      let n24 = at 24 (omega arith) in
      let n32 = at 32 (omega arith) in
      let n40 = at 40 (omega arith) in
      let n48 = at 48 (omega arith) in
      let n64 = at 64 (omega arith) in
      let n72 = at 72 (omega arith) in
      record {
        long = omega (arith, long, size);
        signed = sym (take_same 8 a b (omega (arith, long)) (omega (arith, long, size)) (λ j lt. same j (omega arith) (omega (arith, lt)))) ∙ h.signed;
        sizes = record { header = omega (arith, s0, n24); node = omega (arith, s1, n32); child = omega (arith, s2, n40); value = omega (arith, s3, n48) };
        lengths = record { file = omega (arith, file, n16, size); parts = omega (arith, parts, n24, n64, n72, size) };
        strings = record {
          some = omega (arith, some, n72);
          ended = ap (λ n. slice_index b (n - 1)) (sym size) ∙ sym (last (length a - 1) (omega arith) (omega (arith, long))) ∙ h.strings.ended;
        };
      }

pub strings_inside : (b : List ℕ) → IsHeader b → (layout_of b).strings ≤ length b
unfolding layout_of
strings_inside b h = let k = h.lengths.parts in omega (arith, k)
