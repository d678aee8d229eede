-- Counts of failed calls, and text that is written in parts.
use Rattle.std.proofs.Common.{◌≡◌, ◌∙◌, ℕ, ◌+◌, ◌-◌, ◌^◌, ◌<◌, refl, ap, subst, List, [], ◌++◌, Option, None, Some, IfSome, length-append, length, take, drop, arith, sym, append_assoc, ⊎_elim}
use Rattle.std.proofs.Math.Seq.{take-add}
use Rattle.std.proofs.lemmas.List.{take-append-drop}
use Rattle.std.proofs.KnownBytes.{Appends-trans, Consumes-trans, Consumes-all}
use Rattle.std.specs.Io.KnownBytes.{Appends, Consumes, IsAtEnd}
use Rattle.hwdb_spec.specs.Failures.{HasFailed}
use Rattle.hwdb_spec.specs.Outputs.{AppendsPrefix}

pub written_more : (a b c : Option (List ℕ)) (text part : List ℕ) (n m : ℕ) → part ≡ drop n text → Appends a b (take n text) → Appends b c (take m part) → Appends a c (take (n + m) text)
written_more a b c text part n m is p q =
    let P : List ℕ → Type 0 = λ l. Appends a c l in
    subst P (ap (λ l. take n text ++ take m l) is ∙ sym (take-add n m text)) (Appends-trans a b c _ _ p q)

pub read_more : (a b c : Option (List ℕ)) (bytes part more : List ℕ) → more ≡ bytes ++ part → Consumes a b bytes → Consumes b c part → Consumes a c more
read_more a b c bytes part more is p q = let P : List ℕ → Type 0 = λ l. Consumes a c l in subst P (sym is) (Consumes-trans a b c _ _ p q)

pub read_whole : (a b : Option (List ℕ)) (bytes : List ℕ) → Consumes a b bytes → IsAtEnd b → IfSome a (λ xs. bytes ≡ xs)
read_whole a b bytes p e = Consumes-all a b bytes [] bytes p e refl

-- more bytes were left than what was read
pub read_past : (a b c : Option (List ℕ)) (bytes part : List ℕ) (limit : ℕ) → Consumes a b bytes → Consumes b c part → limit < length bytes + length part
    → IfSome a (λ xs. limit < length xs)
read_past None b c bytes part limit p q lt = tt
read_past (Some x) None c bytes part limit p q lt = absurd p
read_past (Some x) (Some y) None bytes part limit p q lt = absurd q
read_past (Some x) (Some y) (Some z) bytes part limit p q lt =
    omega (arith, lt, ap length p ∙ length-append bytes y, ap length q ∙ length-append part z)

-- a prefix of a text, and what is missing
pub beginning_of : (text before now : List ℕ) → AppendsPrefix (Some before) (Some now) text → (rest : List ℕ) × (now ++ rest ≡ before ++ text)
beginning_of text before now p = (
  drop p.0 text,
  ap (λ (l : List ℕ). l ++ drop p.0 text) p.2 ∙ append_assoc before (take p.0 text) (drop p.0 text) ∙ ap (λ (l : List ℕ). before ++ l) (take-append-drop p.0 text),
)

-- no call has failed, and one has
pub not_both : (f g : ℕ) → f < 2 ^ 64 - 1 → g ≡ f → HasFailed f g → ⊥
not_both f g few same failed = ⊎_elim (λ more. omega (arith, few, same, more)) (λ most. omega (arith, few, same, most)) failed
