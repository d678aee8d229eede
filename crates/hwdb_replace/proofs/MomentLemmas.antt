-- How a run of calls goes on.
use Rattle.std.proofs.Common.{◌≡◌, inl, inr, ⊎_elim, ℕ, ◌+◌, List, ◌++◌, Option, Some, take, drop, sym, ap, ◌∙◌, arith, append_assoc}
use Rattle.std.proofs.Math.Seq.{take-add}
use Rattle.hwdb_spec.specs.Store.{Stored, Contents, Outcomes, Elapses, Written, SameBut}

-- before the first call
pub elapses_start : (m : ℕ) (since : ℕ → Outcomes) (more : Outcomes) → Elapses m m since since more
elapses_start m since more = record { later = omega arith; nothing_else = λ t p v le left. inl left; nothing_less = λ t p v le left. left }

-- one call more
pub elapses_on : (a b c : ℕ) (past mid since : ℕ → Outcomes) (more last : Outcomes) → Elapses a b past mid more → Elapses b c mid since last
    → ((p : List ℕ) (v : Option Stored) → last p v → more p v) → Elapses a c past since more
elapses_on a b c past mid since more last first second less = record {
  later = omega (arith, first.later, second.later);
  nothing_else = λ t p v le left. ⊎_elim (λ was. first.nothing_else t p v le was) (λ now. inr (less p v now))
      (second.nothing_else t p v (omega (arith, le, first.later)) left);
  nothing_less = λ t p v le left. second.nothing_less t p v (omega (arith, le, first.later)) (first.nothing_less t p v le left);
}

-- more may be left
pub elapses_more : (a b : ℕ) (past since : ℕ → Outcomes) (less more : Outcomes) → Elapses a b past since less
    → ((p : List ℕ) (v : Option Stored) → less p v → more p v) → Elapses a b past since more
elapses_more a b past since less more e up = record {
  later = e.later;
  nothing_else = λ t p v le left. ⊎_elim (λ was. inl was) (λ now. inr (up p v now)) (e.nothing_else t p v le left);
  nothing_less = e.nothing_less;
}

-- what changes under one path alone
pub same_but_on : (part part2 : List ℕ) (old mid new : Contents) → part2 ≡ part → SameBut part old mid → SameBut part2 mid new → SameBut part old new
same_but_on part part2 old mid new is first second p other = second p (λ e. other (e ∙ is)) ∙ first p other

-- more bytes are written
pub written_more : (part part2 text piece : List ℕ) (n m : ℕ) (old mid new : Contents) → part2 ≡ part → piece ≡ drop n text → Written part (take n text) old mid
    → Written part2 (take m piece) mid new → Written part (take (n + m) text) old new
written_more part part2 text piece n m old mid new is rest first second f there =
    let before = first f there in
    let stands : mid part2 ≡ Some (record { bytes = f.bytes ++ take n text; mode = f.mode }) = ap mid is ∙ before in
    let after = second (record { bytes = f.bytes ++ take n text; mode = f.mode }) stands in
    let bytes : (f.bytes ++ take n text) ++ take m piece ≡ f.bytes ++ take (n + m) text =
    append_assoc f.bytes (take n text) (take m piece) ∙ ap (λ (l : List ℕ). f.bytes ++ (take n text ++ take m l)) rest ∙ ap (λ (l : List ℕ). f.bytes ++ l) (sym (take-add n m text)) in
    ap new (sym is) ∙ after ∙ ap (λ (l : List ℕ). Some (record { bytes = l; mode = f.mode })) bytes
