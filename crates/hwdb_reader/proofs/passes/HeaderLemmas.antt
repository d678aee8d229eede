-- The header of a file, of which its first bytes and its size are known.
use Rattle.std.proofs.Common.{◌≡◌, ◌≤◌, ◌<◌, ◌-◌, ℕ, zero, suc, ◌+◌, List, [], ◌∷◌, length, take, slice_index, codes, refl, sym, ◌∙◌, ap, arith}
use Rattle.hwdb_spec.specs.declared.Layout.{Layout}
use Rattle.hwdb_spec.specs.Format.{layout_of, number_at, IsHeader}
use Rattle.hwdb_reader.specs.Passes.Views.{IsPart, HasSections}
use Rattle.hwdb_reader.specs.Passes.Lemmas.Parts.{byte_is, number_is}

take_same : (n : ℕ) (a b : List ℕ) → n ≤ length a → n ≤ length b → ((j : ℕ) → j < n → slice_index a j ≡ slice_index b j) → take n a ≡ take n b
take_same zero a b la lb same = refl
take_same (suc n) [] b la lb same = absurd (omega (arith, la))
take_same (suc n) (x ∷ a) [] la lb same = absurd (omega (arith, lb))
take_same (suc n) (x ∷ a) (y ∷ b) la lb same =
    let first : x ≡ y = same 0 (omega arith) in
    let rest = take_same n a b (omega (arith, la)) (omega (arith, lb)) (λ j lt. same (suc j) (omega (arith, lt))) in
    ap (λ (more : List ℕ). x ∷ more) rest ∙ ap (λ z. z ∷ take n b) first

-- the numbers of a header, which were tested
pub sections : (file header : List ℕ) (size h s n c v m k r : ℕ) → IsPart file 0 header → length file ≡ size → 80 ≤ length header → take 8 header ≡ codes "KSLPHHRH"
    → s ≡ number_at 8 16 header → h ≡ number_at 8 24 header → n ≡ number_at 8 32 header → c ≡ number_at 8 40 header → v ≡ number_at 8 48 header
    → r ≡ number_at 8 56 header → m ≡ number_at 8 64 header → k ≡ number_at 8 72 header → s ≡ size → 80 ≤ h → 24 ≤ n → 16 ≤ c → 32 ≤ v → h ≤ size → m < size - h → k ≡ size - h - m
    → HasSections record { node_size = n; child_size = c; value_size = v; nodes = h; root = r; strings = h + m } file
unfolding layout_of
sections file header size h s n c v m k r p is long signed es eh en ec ev er em ek file_size bh bn bc bv hs ms ks =
    let within = p.within in
    let ts = es ∙ number_is file header 0 8 16 16 p (omega (arith, long)) refl in
    let th = eh ∙ number_is file header 0 8 24 24 p (omega (arith, long)) refl in
    let tn = en ∙ number_is file header 0 8 32 32 p (omega (arith, long)) refl in
    let tc = ec ∙ number_is file header 0 8 40 40 p (omega (arith, long)) refl in
    let tv = ev ∙ number_is file header 0 8 48 48 p (omega (arith, long)) refl in
    let tr = er ∙ number_is file header 0 8 56 56 p (omega (arith, long)) refl in
    let tm = em ∙ number_is file header 0 8 64 64 p (omega (arith, long)) refl in
    let tk = ek ∙ number_is file header 0 8 72 72 p (omega (arith, long)) refl in
    record {
      layout = λ i. record { node_size = tn i; child_size = tc i; value_size = tv i; nodes = th i; root = tr i; strings = th i + tm i };
      long = omega (arith, long, within);
      signed =
          sym (take_same 8 header file (omega (arith, long)) (omega (arith, long, within)) (λ j lt. byte_is file header 0 j j p (omega (arith, long, lt)) (omega arith))) ∙ signed;
      sizes = record { header = omega (arith, th, bh); node = omega (arith, tn, bn); child = omega (arith, tc, bc); value = omega (arith, tv, bv) };
      lengths = record { file = omega (arith, ts, file_size, is); parts = omega (arith, th, tm, tk, is, hs, ms, ks) };
      some = omega (arith, tk, ms, ks);
    }

-- the header of a file whose last byte ends a string
pub header_whole : (l : Layout) (file strings : List ℕ) → HasSections l file → IsPart file l.strings strings → l.strings + length strings ≡ length file → 0 < length strings
    → slice_index strings (length strings - 1) ≡ 0 → IsHeader file
header_whole l file strings h p whole some ended = record {
  long = h.long;
  signed = h.signed;
  sizes = h.sizes;
  lengths = h.lengths;
  strings = record {
    some = h.some;
    ended = sym (byte_is file strings l.strings (length strings - 1) (length file - 1) p (omega (arith, some)) (omega (arith, some, whole))) ∙ ended;
  };
}
