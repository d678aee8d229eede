-- A closed bracket is decided by its own bytes.
use Rattle.std.proofs.Common.{◌≡◌, ℕ, zero, suc, ◌-◌, ◌+◌, Bool, true, false, List, [], ◌∷◌, ◌++◌, length, refl, ap, ◌∙◌, sym, Option, Some, cond, ◌==◌, arith, inl, inr, ne_eqb, eq-eqb}
use Rattle.std.proofs.lemmas.Bool.{cases_eq}
use Rattle.hwdb_spec.specs.Patterns.{Items, item_at, joined, items_from}
use Rattle.hwdb_pattern.specs.Internal.Parts.{items}
use Rattle.hwdb_pattern.proofs.BracketLemmas.{item_long}
use Rattle.hwdb_pattern.proofs.LongerPathLemmas.{item_same, joined_some, joined_size}

pub record ItemsFront (f : Bool) (skip : ℕ) (text : List ℕ) (i : Items) : Type 0 where
  pub front : List ℕ
  pub rest : List ℕ
  pub whole : text ≡ front ++ rest
  pub size : length front ≡ skip + i.size
  pub same : items_from f skip front ≡ Some i

front_next : (f : Bool) (b : ℕ) (rest : List ℕ) (i j : Items)
    → items_from false ((item_at (b ∷ rest)).size - 1) rest ≡ Some j
    → joined (item_at (b ∷ rest)) (items_from false ((item_at (b ∷ rest)).size - 1) rest) ≡ Some i
    → ((front : List ℕ) → joined (item_at (b ∷ front)) (items_from false ((item_at (b ∷ front)).size - 1) front) ≡ Some i → items_from f 0 (b ∷ front) ≡ Some i)
    → ItemsFront false ((item_at (b ∷ rest)).size - 1) rest j → ItemsFront f 0 (b ∷ rest) i
front_next f b rest i j h k g r =
    let s : item_at (b ∷ rest) ≡ item_at (b ∷ r.front) =
    ap (λ (l : List ℕ). item_at (b ∷ l)) r.whole ∙ item_same b r.front r.rest ((item_at (b ∷ rest)).size - 1) j r.same in
    let z : i.size ≡ (item_at (b ∷ rest)).size + j.size = joined_size _ j i (ap (joined (item_at (b ∷ rest))) (sym h) ∙ k) in
    record {
      front = b ∷ r.front;
      rest = r.rest;
      whole = ap (λ (l : List ℕ). b ∷ l) r.whole;
      size = omega (arith, r.size, item_long (b ∷ rest), z);
      same = g r.front
          (ap (λ (it : Items). joined it (items_from false (it.size - 1) r.front)) (sym s)
          ∙ ap (joined (item_at (b ∷ rest))) (r.same ∙ sym h) ∙ k);
    }

pub items_shorter : (f : Bool) (skip : ℕ) (text : List ℕ) (i : Items) → items_from f skip text ≡ Some i → ItemsFront f skip text i
unfolding items_from
items_shorter f skip [] i h = cc
items_shorter f (suc skip) (b ∷ rest) i h =
    let r : ItemsFront f skip rest i = items_shorter f skip rest i h in
    record { front = b ∷ r.front; rest = r.rest; whole = ap (λ (l : List ℕ). b ∷ l) r.whole; size = omega (arith, r.size); same = r.same }
items_shorter true zero (b ∷ rest) i h =
    let o : (j : Items) × (items_from false ((item_at (b ∷ rest)).size - 1) rest ≡ Some j) = joined_some (item_at (b ∷ rest)) _ i h in
    front_next true b rest i o.0 o.1 h (λ front e. e) (items_shorter false ((item_at (b ∷ rest)).size - 1) rest o.0 o.1)
items_shorter false zero (b ∷ rest) i h = elim (cases_eq b 93) [
  | inl e ↦ closed (b == 93) _ (eq-eqb b 93 e) h
  | inr n ↦
      let g : joined (item_at (b ∷ rest)) (items_from false ((item_at (b ∷ rest)).size - 1) rest) ≡ Some i = opened (b == 93) _ (ne_eqb b 93 n) h in
      let o : (j : Items) × (items_from false ((item_at (b ∷ rest)).size - 1) rest ≡ Some j) = joined_some (item_at (b ∷ rest)) _ i g in
      front_next false b rest i o.0 o.1 g (λ front e. open_again (b == 93) _ (ne_eqb b 93 n) e) (items_shorter false ((item_at (b ∷ rest)).size - 1) rest o.0 o.1)
]
  where
    one_size : (x : Items) → Some (items 1 []) ≡ Some x → x.size ≡ 1
    one_size x e = cc

    close_again : (c : Bool) (x y : Option Items) → c ≡ true → cond c (Some (items 1 [])) x ≡ Some i → cond c (Some (items 1 [])) y ≡ Some i
    close_again true x y e h = h
    close_again false x y e h = cc

    own_size : (c : Bool) (x : Option Items) → c ≡ true → cond c (Some (items 1 [])) x ≡ Some i → i.size ≡ 1
    own_size true x e h = one_size i h
    own_size false x e h = cc

    closed : (c : Bool) (x : Option Items) → (b == 93) ≡ true → cond (b == 93) (Some (items 1 [])) x ≡ Some i → ItemsFront false 0 (b ∷ rest) i
    closed c x e h = record { front = b ∷ []; rest = rest; whole = refl; size = omega (arith, own_size (b == 93) x e h); same = close_again (b == 93) x _ e h }

    opened : (c : Bool) (x : Option Items) → c ≡ false → cond c (Some (items 1 [])) x ≡ Some i → x ≡ Some i
    opened true x e h = cc
    opened false x e h = h

    open_again : (c : Bool) (x : Option Items) → c ≡ false → x ≡ Some i → cond c (Some (items 1 [])) x ≡ Some i
    open_again true x e h = cc
    open_again false x e h = h
