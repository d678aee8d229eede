-- Masks, word by word and bit by bit.
use Rattle.std.proofs.Common.{◌≡◌, ℕ, zero, suc, ◌-◌, ◌+◌, ◌<◌, List, refl, ap, ◌∙◌, sym, arith}
use Rattle.std.specs.Prelude.{if◌then◌else◌}
use Rattle.std.specs.List.{after_first}
use Rattle.hwdb_spec_commands.specs.Inputs.{Bits, after_words, count_bits, has_bit}
use Rattle.hwdb_spec.specs.Lines.{is}

pub words_step : (n : ℕ) (mask : List ℕ) → 0 < n → after_words n mask ≡ after_words (n - 1) (after_first (is 32) mask)
unfolding after_words
words_step zero mask h = absurd (omega arith)
words_step (suc n) mask h = ap (λ (k : ℕ). after_words k (after_first (is 32) mask)) (let e : n ≡ suc n - 1 = omega arith in e)

pub words_end : (n : ℕ) (mask : List ℕ) → n ≡ 0 → after_words n mask ≡ mask
unfolding after_words
words_end zero mask h = refl
words_end (suc n) mask h = absurd (omega arith)

count_next : (first n : ℕ) (mask : List ℕ) → count_bits first (suc n) mask ≡ (if has_bit (first + n) mask then 1 else 0) + count_bits first n mask
unfolding count_bits
count_next first n mask = refl

pub count_step : (first n count bit : ℕ) (mask : List ℕ) → bit ≡ (if has_bit (first + n) mask then 1 else 0) → count ≡ count_bits first n mask → count + bit ≡ count_bits first (n + 1) mask
count_step first n count bit mask e f =
    let s : suc n ≡ n + 1 = omega arith in
    let t : count + bit ≡ bit + count = omega arith in
    t ∙ ap (λ (k : ℕ). k + count) e ∙ ap (λ (k : ℕ). (if has_bit (first + n) mask then 1 else 0) + k) f ∙ sym (count_next first n mask)
    ∙ ap (λ (k : ℕ). count_bits first k mask) s

pub no_count : (first : ℕ) (mask : List ℕ) → 0 ≡ count_bits first 0 mask
unfolding count_bits
no_count first mask = refl

pub same_bits : (a b c d e a2 b2 c2 d2 e2 : List ℕ) → a ≡ a2 → b ≡ b2 → c ≡ c2 → d ≡ d2 → e ≡ e2
    → (let x : Bits = record { events = a; axes = b; relative = c; keys = d; properties = e } in x)
    ≡ (let y : Bits = record { events = a2; axes = b2; relative = c2; keys = d2; properties = e2 } in y)
same_bits a b c d e a2 b2 c2 d2 e2 p q r s t =
    ap (λ (x : List ℕ). let v : Bits = record { events = x; axes = b; relative = c; keys = d; properties = e } in v) p
    ∙ ap (λ (x : List ℕ). let v : Bits = record { events = a2; axes = x; relative = c; keys = d; properties = e } in v) q
    ∙ ap (λ (x : List ℕ). let v : Bits = record { events = a2; axes = b2; relative = x; keys = d; properties = e } in v) r
    ∙ ap (λ (x : List ℕ). let v : Bits = record { events = a2; axes = b2; relative = c2; keys = x; properties = e } in v) s
    ∙ ap (λ (x : List ℕ). let v : Bits = record { events = a2; axes = b2; relative = c2; keys = d2; properties = x } in v) t
