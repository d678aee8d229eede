-- The values of a node, one after another.
use Rattle.std.proofs.Common.{◌≡◌, ◌∙◌, ap, sym, refl, subst, ℕ, ◌+◌, ◌*◌, ◌≤◌, ◌<◌, List, [], ◌∷◌, ◌++◌, length, arith, append-nil, append_assoc, None, Some}
use Rattle.hwdb_spec.specs.Assignment.{Assignment}
use Rattle.hwdb_spec.specs.Tree.{Value, assigned_at, key_of}
use Rattle.hwdb_spec.specs.Format.{ValuesText, IsValue, value_at, value_entries}
use Rattle.hwdb_lookup.specs.declared.lazy_node.LazyNode.{LazyNode}
use Rattle.hwdb_lookup.specs.Internal.Heads.{AreValues, ValuesLeft, own_members}
use Rattle.hwdb_lookup.proofs.TreeLemmas.{next_value}

first_value : (first size : ℕ) → first ≡ first + size * 0
first_value first size = omega arith

pub all_left : (file : List ℕ) (n : LazyNode) (values : List Value) → AreValues file n values → (left : ValuesLeft file n 0) × (left.rest ≡ values)
all_left file n values a =
    let count = a.count in (
      record {
        rest = values;
        before = None;
        text = subst (λ e. ValuesText n.frame.sizes file e None values) (first_value (value_entries n.frame.sizes file n.off) n.frame.sizes.value_size) a.text;
        count = omega (arith, count);
      },
      refl,
    )

own_first : (pattern : List ℕ) (v : Value) (vs : List Value) → own_members pattern (v ∷ vs) ≡ own_members pattern (v ∷ []) ++ own_members pattern vs
own_first pattern v vs = ap (λ r. r ++ own_members pattern vs) (sym (append-nil (assigned_at pattern v (key_of v.key))))

pub none_left : (file : List ℕ) (n : LazyNode) (i : ℕ) (pattern : List ℕ) (left : ValuesLeft file n i) → n.values ≤ i → own_members pattern left.rest ≡ []
none_left file n i pattern left le = go left.rest left.count
  where
    go : (rest : List Value) → length rest + i ≡ n.values → own_members pattern rest ≡ []
    go [] e = refl
    go (v ∷ rest) e = absurd (omega (arith, e, le))

-- the next value, and those after it
pub record ValueNext (file : List ℕ) (n : LazyNode) (i : ℕ) (rest : List Value) : Type 0 where
  pub more : ValuesLeft file n (i + 1)
  pub sound : IsValue n.frame.sizes file (value_entries n.frame.sizes file n.off + n.frame.sizes.value_size * i)
  pub own : (pattern : List ℕ) (v : Value) → v ≡ value_at file (value_entries n.frame.sizes file n.off + n.frame.sizes.value_size * i)
      → own_members pattern rest ≡ own_members pattern (v ∷ []) ++ own_members pattern more.rest

pub value_next : (file : List ℕ) (n : LazyNode) (i : ℕ) (left : ValuesLeft file n i) → i < n.values → ValueNext file n i left.rest
unfolding ValuesText
value_next file n i left lt = go left.rest left.text left.count
  where
    go : (rest : List Value) → ValuesText n.frame.sizes file (value_entries n.frame.sizes file n.off + n.frame.sizes.value_size * i) left.before rest → length rest + i ≡ n.values → ValueNext file n i rest
    go [] text count = absurd (omega (arith, count, lt))
    go (w ∷ rest) text count =
        let first = value_entries n.frame.sizes file n.off in
        record {
          more = record {
            rest = rest;
            before = Some w.key;
            text = subst (λ e. ValuesText n.frame.sizes file e (Some w.key) rest) (next_value n.frame.sizes first i) text.3;
            count = omega (arith, count);
          };
          sound = text.0;
          own = λ pattern v is. own_first pattern w rest ∙ ap (λ x. own_members pattern (x ∷ []) ++ own_members pattern rest) (text.1 ∙ sym is);
        }

-- one more value was offered
pub offered : (pattern shared : List ℕ) (v : Value) (old new start : List Assignment) (rest more values : List Value) → shared ≡ pattern → new ≡ old ++ own_members shared (v ∷ [])
    → own_members pattern rest ≡ own_members pattern (v ∷ []) ++ own_members pattern more → old ++ own_members pattern rest ≡ start ++ own_members pattern values
    → new ++ own_members pattern more ≡ start ++ own_members pattern values
offered pattern shared v old new start rest more values same step split whole =
    ap (λ l. l ++ own_members pattern more) (step ∙ ap (λ p. old ++ own_members p (v ∷ [])) same)
    ∙ append_assoc old (own_members pattern (v ∷ [])) (own_members pattern more) ∙ ap (λ l. old ++ l) (sym split) ∙ whole
