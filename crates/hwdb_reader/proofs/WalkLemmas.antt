-- The open nodes of a walk, and what its steps do to them.
use Rattle.std.proofs.Common.{◌≡◌, ◌∙◌, ap, sym, subst, refl, ℕ, suc, ◌+◌, ◌-◌, ◌≤◌, ◌<◌, ◌↔◌, List, [], ◌∷◌, length, arith, below_more}
use Rattle.hwdb_spec.specs.declared.Layout.{Layout}
use Rattle.hwdb_spec.specs.declared.DbFault.{DbFault}
use Rattle.hwdb_spec.specs.declared.DbFault.TheVariants.{Place}
use Rattle.hwdb_spec.specs.Format.{NodeText, ChildrenText, NodeFault, record_end, child_entry, child_off, child_byte, children_count, child_from, byte_before, Fits, ChildrenFit, Visit, Visited, IsVisitFault, max_levels}
use Rattle.hwdb_reader.specs.Internal.Read.{children_at, tree_at}
use Rattle.hwdb_reader.specs.Internal.Placed.{visit, FieldsAreSound, IsSoundNode}
use Rattle.hwdb_reader.specs.Internal.Walks.{IsSoundRecord, IsOpen, AreOpen, ChildrenToCome, ToCome, GoesOn}
use Rattle.hwdb_reader.proofs.BoundLemmas.{record_fields}
use Rattle.hwdb_reader.proofs.NodeLemmas.{ChildParts, node_open, node_close, child_open, child_close, child_fits, child_visited, fault_stands, children_done, children_end, child_from_next, byte_before_next, children_begin}

module _ (l : Layout) (b : List ℕ) where
  -- ---- a node that is opened

  -- its children are all to come
  children_at_first : (levels from off : ℕ) → ChildrenToCome l b levels (off, 0) from ≡ ChildrenText l b levels from (child_entry l off 0) 0 off (children_at (tree_at l b levels) l b (child_entry l off 0) (children_count b off))
  unfolding byte_before
  children_at_first levels from off =
      let all : children_count b off - 0 ≡ children_count b off = omega arith in
      ap (λ n. ChildrenText l b levels from (child_entry l off 0) 0 off (children_at (tree_at l b levels) l b (child_entry l off 0) n)) all

  pub opened_sound : (levels from off : ℕ) → 0 < levels → FieldsAreSound l b off → ChildrenToCome l b (levels - 1) (off, 0) from → NodeText l b levels from off (tree_at l b levels off)
  opened_sound levels from off some fields h =
      node_close l b levels from off some (record { prefix = fields.0; values = fields.1; children = subst (λ (t : Type 0). t) (children_at_first (levels - 1) from off) h })

  pub sound_opened : (levels from off : ℕ) → 0 < levels → NodeText l b levels from off (tree_at l b levels off) → ChildrenToCome l b (levels - 1) (off, 0) from
  sound_opened levels from off some h =
      subst (λ (t : Type 0). t) (sym (children_at_first (levels - 1) from off)) (node_open l b levels from off some h).children

  record_begins : (off : ℕ) → off ≤ record_end l b off
  unfolding record_end
  record_begins off = omega arith

  pub opens : (v : Visit) → Visited l b v → v.limit ≤ length b → IsSoundRecord l b v → IsOpen l b v.levels (v.off, 0) v.from
  opens v r inside s = record {
    from = v.from;
    limit = v.limit;
    visited = r;
    fits = s.fits;
    inside = inside;
    some = s.some;
    within = omega arith;
    fit = λ j lt. absurd (omega (arith, lt));
    begins = children_begin l b v.from v.off;
  }

  -- ---- a child of a node that is open

  -- the places of its entry and its byte, as the definitions of its parent's children go on
  module _ (levels off i begin : ℕ) (lt : i < children_count b off) where
    next_entry : child_entry l off i + l.child_size ≡ child_entry l off (i + 1)
    next_entry = omega arith

    behind : ChildrenText l b levels (record_end l b (child_off b (child_entry l off i))) (child_entry l off i + l.child_size) (child_byte b (child_entry l off i)) off (children_at (tree_at l b levels) l b (child_entry l off i + l.child_size) (children_count b off - (i + 1))) ≡ ChildrenToCome l b levels (off, i + 1) (record_end l b (child_off b (child_entry l off i)))
    behind =
        ap (λ (g : ℕ × ℕ). ChildrenText l b levels (record_end l b (child_off b (child_entry l off i))) g.0 g.1 off (children_at (tree_at l b levels) l b g.0 (children_count b off - (i + 1))))
        (λ j. (next_entry j, sym (byte_before_next l b off i) j))

    pub child_parts : ChildrenToCome l b levels (off, i) begin → ChildParts l b levels begin (child_entry l off i) (byte_before l b off i) off (children_count b off - (i + 1))
    child_parts h = child_open l b levels begin (child_entry l off i) (byte_before l b off i) off (children_count b off) i lt h

    pub rest_of : ChildrenToCome l b levels (off, i) begin → ChildrenToCome l b levels (off, i + 1) (record_end l b (child_off b (child_entry l off i)))
    rest_of h = subst (λ (t : Type 0). t) behind (child_parts h).more

    pub with_rest : byte_before l b off i < child_byte b (child_entry l off i) → NodeText l b levels begin (child_off b (child_entry l off i)) (tree_at l b levels (child_off b (child_entry l off i))) → ChildrenToCome l b levels (off, i + 1) (record_end l b (child_off b (child_entry l off i))) → ChildrenToCome l b levels (off, i) begin
    with_rest above child h =
        child_close l b levels begin (child_entry l off i) (byte_before l b off i) off (children_count b off) i lt
        (record { above = above; child = child; more = subst (λ (t : Type 0). t) (sym behind) h })

  module _ (levels off i begin : ℕ) (o : IsOpen l b levels (off, i) begin) where
    -- its record lies in the bytes
    pub record_inside : record_end l b off ≤ length b
    record_inside = let fits = o.fits.1 in let inside = o.inside in omega (arith, fits, inside)

    -- a fault of it is one of the database
    pub open_fault : (e : DbFault) → ((levels from limit : ℕ) → NodeFault l b (visit levels from off limit) e) → IsVisitFault l b e
    open_fault e h = fault_stands l b (visit levels o.from off o.limit) e o.visited o.fits (h levels o.from o.limit)

    -- its children are done, and don't end at the beginning of its record
    pub gap_stands : i ≡ children_count b off → (begin ≡ off → ⊥) → IsVisitFault l b (Place off)
    gap_stands all gap =
        let v = visit levels o.from off o.limit in
        fault_stands l b v (Place off) o.visited o.fits
        (refl, subst (ChildrenFit l b v) all o.fit, λ q. gap (subst (λ n. begin ≡ child_from l b o.from off n) all o.begins ∙ q))

    -- its next child is visited
    pub visits : i < children_count b off → Visited l b (visit (levels - 1) begin (child_off b (child_entry l off i)) off)
    visits lt =
        subst (λ n. Visited l b (visit (levels - 1) n (child_off b (child_entry l off i)) off)) (sym o.begins)
        (child_visited l b (visit levels o.from off o.limit) i o.some o.visited o.fits lt o.fit)

    -- its next child was entered
    pub entered_next : i < children_count b off → Fits l b (visit (levels - 1) begin (child_off b (child_entry l off i)) off) → IsOpen l b levels (off, i + 1) (record_end l b (child_off b (child_entry l off i)))
    entered_next lt f = record {
      from = o.from;
      limit = o.limit;
      visited = o.visited;
      fits = o.fits;
      inside = o.inside;
      some = o.some;
      within = omega (arith, lt);
      fit = below_more _ _ o.fit (subst (λ n. Fits l b (visit (levels - 1) n (child_off b (child_entry l off i)) off)) o.begins f);
      begins = sym (child_from_next l b o.from off i);
    }

  -- ---- the steps

  module _ (above : List (ℕ × ℕ)) (off i begin : ℕ) (stand : AreOpen l b ((off, i) ∷ above) begin) where
    -- the children are done, so the node is
    pub node_done : 24 ≤ l.node_size → i ≡ children_count b off → begin ≡ off → GoesOn l b ((off, i) ∷ above) begin above (record_end l b off)
    node_done big all at =
        let levels = max_levels - suc (length above) in
        let room = record_fields l b off big in
        let some = stand.0.some in
        let inside = record_inside (max_levels - length above) off i begin stand.0 in
        record {
          stand = stand.1;
          sound = (λ h. (children_end l b levels begin (child_entry l off i) (byte_before l b off i) off (children_count b off) i (omega (arith, all)) at, h), λ h. h.1);
          end = refl;
          fewer = omega (arith, room, at, inside, some);
        }

    pub ends_there : i ≡ children_count b off → ToCome l b ((off, i) ∷ above) begin → begin ≡ off
    ends_there all h =
        children_done l b (max_levels - suc (length above)) begin (child_entry l off i) (byte_before l b off i) off (children_count b off) i (omega (arith, all)) h.0

    -- the next child is visited below it
    pub visits_below : i < children_count b off → Visited l b (visit (max_levels - suc (length above)) begin (child_off b (child_entry l off i)) off)
    visits_below lt =
        let one_less : max_levels - length above - 1 ≡ max_levels - suc (length above) = omega arith in
        subst (λ n. Visited l b (visit n begin (child_off b (child_entry l off i)) off)) one_less (visits (max_levels - length above) off i begin stand.0 lt)

    -- it is sound if all that is to come is
    pub next_sound : 24 ≤ l.node_size → i < children_count b off → ToCome l b ((off, i) ∷ above) begin → IsSoundNode l b (visit (max_levels - suc (length above)) begin (child_off b (child_entry l off i)) off)
    next_sound big lt h =
        let levels = max_levels - suc (length above) in
        let parts = child_parts levels off i begin lt h.0 in
        (child_fits l b big levels begin (child_entry l off i) (byte_before l b off i) off (children_count b off - (i + 1)) parts, parts.child)

    pub next_above : i < children_count b off → ToCome l b ((off, i) ∷ above) begin → byte_before l b off i < child_byte b (child_entry l off i)
    next_above lt h = (child_parts (max_levels - suc (length above)) off i begin lt h.0).above

    -- it is opened
    below : i < children_count b off → byte_before l b off i < child_byte b (child_entry l off i) → IsSoundRecord l b (visit (max_levels - suc (length above)) begin (child_off b (child_entry l off i)) off) → GoesOn l b ((off, i) ∷ above) begin ((child_off b (child_entry l off i), 0) ∷ (off, i + 1) ∷ above) begin
    below lt higher s =
        let levels = max_levels - suc (length above) in
        let child = child_off b (child_entry l off i) in
        let one_less : max_levels - suc (suc (length above)) ≡ levels - 1 = omega arith in
        let inside = record_inside (max_levels - length above) off i begin stand.0 in
        let within : off ≤ record_end l b off = record_begins off in
        let some : 0 < levels = s.some in
        record {
          stand = (
            opens (visit levels begin child off) (visits_below lt) (omega (arith, inside, within)) s,
            (entered_next (max_levels - length above) off i begin stand.0 lt s.fits, stand.1),
          );
          sound = (
            λ h. (with_rest levels off i begin lt higher (opened_sound levels begin child some s.fields (subst (λ n. ChildrenToCome l b n (child, 0) begin) one_less h.0)) h.1.0, h.1.1),
            λ h. (
              subst (λ n. ChildrenToCome l b n (child, 0) begin) (sym one_less) (sound_opened levels begin child some (child_parts levels off i begin lt h.0).child),
              (rest_of levels off i begin lt h.0, h.1),
            ),
          );
          end = refl;
          fewer = omega (arith, some);
        }

    pub child_opened : (child : ℕ) → child ≡ child_off b (child_entry l off i) → i < children_count b off → byte_before l b off i < child_byte b (child_entry l off i) → (left : ℕ) → left ≡ max_levels - length above → IsSoundRecord l b (visit (left - 1) begin child off) → GoesOn l b ((off, i) ∷ above) begin ((child, 0) ∷ (off, i + 1) ∷ above) begin
    child_opened child at lt higher left is =
        let levels : left - 1 ≡ max_levels - suc (length above) = omega (arith, is) in
        subst (λ (v : ℕ × ℕ). IsSoundRecord l b (visit v.0 begin v.1 off) → GoesOn l b ((off, i) ∷ above) begin ((v.1, 0) ∷ (off, i + 1) ∷ above) begin)
        (λ j. (sym levels j, sym at j)) (below lt higher)

  -- a step after a step
  goes_twice : (first second third : List (ℕ × ℕ)) (begin next after : ℕ) → GoesOn l b first begin second next → GoesOn l b second next third after → GoesOn l b first begin third after
  goes_twice first second third begin next after g h =
      let fewer = g.fewer in
      let still_fewer = h.fewer in
      record {
        stand = h.stand;
        sound = (λ x. g.sound.0 (h.sound.0 x), λ x. h.sound.1 (g.sound.1 x));
        end = h.end ∙ g.end;
        fewer = omega (arith, fewer, still_fewer);
      }

  -- a child without children is done as soon as it is opened
  pub child_done : (above : List (ℕ × ℕ)) (off i begin child : ℕ) → 24 ≤ l.node_size → GoesOn l b ((off, i) ∷ above) begin ((child, 0) ∷ (off, i + 1) ∷ above) begin → 0 ≡ children_count b child → begin ≡ child → GoesOn l b ((off, i) ∷ above) begin ((off, i + 1) ∷ above) (record_end l b child)
  child_done above off i begin child big g none at =
      goes_twice ((off, i) ∷ above) ((child, 0) ∷ (off, i + 1) ∷ above) ((off, i + 1) ∷ above) begin begin (record_end l b child) g
      (node_done ((off, i + 1) ∷ above) child 0 begin g.stand big none at)

  -- a step after children that were passed over
  pub goes_behind : (above : List (ℕ × ℕ)) (off before i begin next : ℕ) (now : List (ℕ × ℕ)) (after : ℕ) → (ToCome l b ((off, i) ∷ above) next ↔ ToCome l b ((off, before) ∷ above) begin) → begin ≤ next → GoesOn l b ((off, i) ∷ above) next now after → GoesOn l b ((off, before) ∷ above) begin now after
  goes_behind above off before i begin next now after same grown g =
      let fewer = g.fewer in
      record {
        stand = g.stand;
        sound = (λ x. same.0 (g.sound.0 x), λ x. g.sound.1 (same.1 x));
        end = g.end;
        fewer = omega (arith, fewer, grown);
      }

  -- ---- the first node

  module _ (from off limit : ℕ) (s : IsSoundRecord l b (visit max_levels from off limit)) where
    pub first_opens : Visited l b (visit max_levels from off limit) → limit ≤ length b → AreOpen l b ((off, 0) ∷ []) from
    first_opens r inside = (opens (visit max_levels from off limit) r inside s, tt)

    pub first_sound : ToCome l b ((off, 0) ∷ []) from ↔ IsSoundNode l b (visit max_levels from off limit)
    first_sound = (
      λ h. (s.fits, opened_sound max_levels from off s.some s.fields h.0),
      λ n. (sound_opened max_levels from off s.some n.1, tt),
    )
