-- Numbers of fewer bytes, side by side in eight bytes.
use Rattle.std.proofs.Common.{◌≡◌, ℕ, ◌+◌, ◌*◌, ◌<◌, ◌-◌, ◌++◌, ◌∷◌, ◌∙◌, [], List, length, take, drop, get_or, refl, arith, length-drop}
use Rattle.byteorder.specs.Endian.{little_bytes}
use Rattle.hwdb_spec.specs.Tree.{Value}
use Rattle.hwdb_spec.specs.Written.{padding, value_text}
use Rattle.hwdb_writer.specs.declared.stored.StoredValue.{StoredValue}
use Rattle.hwdb_writer.specs.Internal.Stored.{IsAt, IsValue, record_text}
use Rattle.std.specs.Prelude.{flat_map, slice_index_or}
use Rattle.std.specs.List.{AllZip}
use Rattle.std.proofs.lemmas.List.{take_all}

eight : (a b d e f g h i r s t u v w x y : ℕ) → a ≡ r → b ≡ s → d ≡ t → e ≡ u → f ≡ v → g ≡ w → h ≡ x → i ≡ y
    → a ∷ b ∷ d ∷ e ∷ f ∷ g ∷ h ∷ i ∷ [] ≡ r ∷ s ∷ t ∷ u ∷ v ∷ w ∷ x ∷ y ∷ []
eight a b d e f g h i r s t u v w x y p q j k l m n o = rw (p, q, j, k, l, m, n, o) refl

-- a byte
pub one_byte : (c : ℕ) → c < 256 → little_bytes 8 c ≡ c ∷ padding 7
one_byte c h =
    eight _ _ _ _ _ _ _ _ c 0 0 0 0 0 0 0 (omega (arith, h)) (omega (arith, h)) (omega (arith, h)) (omega (arith, h)) (omega (arith, h)) (omega (arith, h)) (omega (arith, h)) (omega (arith, h))

-- a line and a priority
pub line_and_priority : (line priority n : ℕ) → line < 4294967296 → priority < 65536 → n ≡ line + 4294967296 * priority
    → little_bytes 8 n ≡ little_bytes 4 line ++ little_bytes 2 priority ++ padding 2
line_and_priority line priority n h k e =
    eight _ _ _ _ _ _ _ _ _ _ _ _ _ _ _ _
    (omega (arith, h, k, e)) (omega (arith, h, k, e)) (omega (arith, h, k, e)) (omega (arith, h, k, e))
    (omega (arith, h, k, e)) (omega (arith, h, k, e)) (omega (arith, h, k, e)) (omega (arith, h, k, e))

-- the record of a node with one value and no children, as seven numbers
pub leaf_same : (prefix children key value path line priority origin : ℕ) → children < 256 → line < 4294967296 → priority < 65536 → origin ≡ line + 4294967296 * priority
    → flat_map (little_bytes 8) (prefix ∷ children ∷ 1 ∷ key ∷ value ∷ path ∷ origin ∷ [])
    ≡ little_bytes 8 prefix ++ children ∷ padding 7 ++ little_bytes 8 1 ++ little_bytes 8 key ++ little_bytes 8 value ++ little_bytes 8 path ++ little_bytes 4 line ++ little_bytes 2 priority ++ padding 2
leaf_same prefix children key value path line priority origin h k l e =
    (λ i. little_bytes 8 prefix ++ one_byte children h i ++ little_bytes 8 1 ++ little_bytes 8 key ++ little_bytes 8 value ++ little_bytes 8 path ++ line_and_priority line priority origin k l e i)

-- the entry of a stored value is that of the value
pub value_same : (place : List ℕ → ℕ) (places : List ℕ) (v : StoredValue) (x : Value) → IsValue (IsAt place places) v x
    → little_bytes 8 (slice_index_or places v.key 0) ++ little_bytes 8 (slice_index_or places v.value 0) ++ little_bytes 8 (slice_index_or places v.path 0)
    ++ little_bytes 4 v.line ++ little_bytes 2 v.priority ++ padding 2 ≡ value_text place x
value_same place places v x own = rw (own.key.is, own.value.is, own.path.is, own.line, own.priority) refl

-- the record of a node with one value and no children
pub leaf_text : (place : List ℕ → ℕ) (places : List ℕ) (vs : List StoredValue) (xs : List Value) (d : StoredValue) (prefix children : ℕ) (entries : List ℕ) → AllZip (IsValue (IsAt place places)) vs xs → length vs ≡ 1 → length entries ≡ 0 →
    little_bytes 8 prefix ++ children ∷ padding 7 ++ little_bytes 8 1
    ++ little_bytes 8 (slice_index_or places (get_or vs 0 d).key 0) ++ little_bytes 8 (slice_index_or places (get_or vs 0 d).value 0) ++ little_bytes 8 (slice_index_or places (get_or vs 0 d).path 0)
    ++ little_bytes 4 (get_or vs 0 d).line ++ little_bytes 2 (get_or vs 0 d).priority ++ padding 2 ≡ record_text place prefix children (length vs) entries xs
leaf_text place places [] xs d prefix children entries p one none = absurd (omega (arith, one))
leaf_text place places (v ∷ w ∷ vs) xs d prefix children entries p one none = absurd (omega (arith, one))
leaf_text place places (v ∷ []) [] d prefix children entries p one none = absurd p
leaf_text place places (v ∷ []) (x ∷ y ∷ xs) d prefix children entries p one none = absurd p.1
leaf_text place places (v ∷ []) (x ∷ []) d prefix children (b ∷ bs) p one none = absurd (omega (arith, none))
leaf_text place places (v ∷ []) (x ∷ []) d prefix children [] p one none =
    (λ i. little_bytes 8 prefix ++ children ∷ padding 7 ++ little_bytes 8 1 ++ value_same place places v x p.0 i)

-- the last child entries
pub cut_out : (d k s : List ℕ) (m : ℕ) → d ≡ k → s ≡ k → take (length d - (length s - m)) (drop (length s - m) d) ≡ drop (length k - m) k
cut_out d k s m e f = take_all _ _ (let l = length-drop (length s - m) d in omega (arith, l)) ∙ (λ i. drop (length (f i) - m) (e i))
