-- The stack of a descent, and what its steps do to it.
use Rattle.std.proofs.Common.{◌≡◌, ◌∙◌, ap, sym, refl, subst, ℕ, suc, ◌+◌, ◌-◌, ◌≤◌, ◌<◌, true, List, [], ◌∷◌, ◌++◌, take, drop, reverse, filter, length, get_or, slice_set, arith, append_assoc, append-nil, if◌then◌else◌, zero, inl, inr}
use Rattle.std.proofs.lemmas.List.{length-take-le, length-append}
use Rattle.std.proofs.lemmas.List.Elements.{filter-append}
use Rattle.std.proofs.Math.Seq.{take-length}
use Rattle.hwdb_pattern.specs.Views.{Reached, StandsFor}
use Rattle.hwdb_spec.specs.Assignment.{Assignment}
use Rattle.hwdb_spec.specs.Answers.{is_wanted}
use Rattle.hwdb_spec.specs.Tree.{Tree, prefix_of, values_of, members_under, live_under, is_live}
use Rattle.hwdb_reader.specs.Views.{children_of, entered_tree, node_count}
use Rattle.hwdb_query.specs.Internal.Members.{members_in, own_members}
use Rattle.hwdb_query.specs.Internal.Live.{live_in, nodes_in}
use Rattle.hwdb_query.specs.Internal.Descents.{kids_of, wanted_in, to_come, live_to_come, left, steps, StandsOn, Passes, IsAt, IsSameNode, OnTop, Opened}
use Rattle.hwdb_query.specs.declared.descent.OpenNode.{OpenNode}
use Rattle.hwdb_query.proofs.DescentLemmas.{TakesMore, node_collected}
use Rattle.hwdb_query.proofs.PartLemmas.{live_split}
use Rattle.hwdb_query.proofs.StepLemmas.{stands_whole}
use Rattle.hwdb_query.proofs.DeadPathLemmas.{Dead, none_wanted, none_live, none_wanted_behind, none_live_behind}
use Rattle.hwdb_query.specs.Lemmas.Parts.{kid_behind, members_split, node_and_below}
use Rattle.hwdb_query.specs.Lemmas.Stacks.{on_top, take_front}

-- ---- the path of a child, and the reach that was fed with what comes after the node's own path

pub child_path : (base cut pushed whole prefix : List ℕ) (byte : ℕ) (t : Tree) → cut ≡ base → pushed ≡ cut ++ byte ∷ [] → whole ≡ pushed ++ prefix → prefix ≡ prefix_of t
    → whole ≡ (base ++ byte ∷ []) ++ prefix_of t
child_path base cut pushed whole prefix byte t c p w f =
    w ∙ ap (λ l. pushed ++ l) f ∙ ap (λ l. l ++ prefix_of t) (p ∙ ap (λ l. l ++ byte ∷ []) c)

pub child_fed : (above here : Reached) (size : ℕ) (old cut pushed whole prefix seen piece : List ℕ) (byte : ℕ) → size ≤ length old → cut ≡ take size old → pushed ≡ cut ++ byte ∷ [] → whole ≡ pushed ++ prefix
    → seen ≡ whole → piece ≡ take (length seen - size) (drop size seen) → StandsFor above (take size old)
    → ((path : List ℕ) → StandsFor above path → StandsFor here (path ++ piece)) → StandsFor here whole
child_fed above here size old cut pushed whole prefix seen piece byte n c p w s e stands fed =
    let at_base : length (take size old) ≡ size = length-take-le size old n in
    let is : pushed ≡ take size old ++ byte ∷ [] = p ∙ ap (λ l. l ++ byte ∷ []) c in
    let longer : length pushed ≡ length (take size old) + 1 = ap length is ∙ length-append (take size old) (byte ∷ []) in
    let front : take size pushed ≡ take size old = ap (take size) is ∙ take_front size (take size old) (byte ∷ []) at_base in
    stands_whole above here size pushed prefix whole seen piece (omega (arith, longer, at_base)) w s e (subst (StandsFor above) (sym front) stands) fed

-- ---- children that are passed over

pub passes_none : (device path : List ℕ) (kids : List (ℕ × Tree)) → Passes device path kids kids
passes_none device path kids = record { wanted = refl; live = refl; fewer = omega arith }

lost_child : (device base : List ℕ) (k : ℕ × Tree) → filter (is_wanted device) (members_under (base ++ k.0 ∷ []) k.1) ≡ [] → live_under device (base ++ k.0 ∷ []) k.1 ≡ 0
    → Passes device base (k ∷ []) []
lost_child device base k wanted live = record {
  wanted = ap (filter (is_wanted device)) (append-nil (members_under (base ++ k.0 ∷ []) k.1)) ∙ wanted;
  live = omega (arith, live);
  fewer = omega arith;
}

-- its byte leads nowhere
pub lost_at_byte : (device base : List ℕ) (k : ℕ × Tree) → Dead device (base ++ k.0 ∷ []) → Passes device base (k ∷ []) []
lost_at_byte device base k dead = lost_child device base k (none_wanted_behind device (base ++ k.0 ∷ []) k.1 dead) (none_live_behind device (base ++ k.0 ∷ []) k.1 dead)

-- its path leads nowhere
pub lost_at_path : (device base : List ℕ) (k : ℕ × Tree) → Dead device ((base ++ k.0 ∷ []) ++ prefix_of k.1) → Passes device base (k ∷ []) []
lost_at_path device base k dead = lost_child device base k (none_wanted device (base ++ k.0 ∷ []) k.1 dead) (none_live device (base ++ k.0 ∷ []) k.1 dead)

wanted_first : (device base : List ℕ) (k : ℕ × Tree) (rest : List (ℕ × Tree)) → wanted_in device base (k ∷ rest) ≡ filter (is_wanted device) (members_under (base ++ k.0 ∷ []) k.1) ++ wanted_in device base rest
wanted_first device base k rest = filter-append (is_wanted device) (members_under (base ++ k.0 ∷ []) k.1) (members_in base rest)

-- one more child is passed over
pub passes_on : (device base : List ℕ) (kids now rest : List (ℕ × Tree)) (k : ℕ × Tree) → Passes device base kids now → now ≡ k ∷ rest → Passes device base (k ∷ []) [] → Passes device base kids rest
passes_on device base kids now rest k before next one =
    let nothing : filter (is_wanted device) (members_under (base ++ k.0 ∷ []) k.1) ≡ [] =
    sym (ap (filter (is_wanted device)) (append-nil (members_under (base ++ k.0 ∷ []) k.1))) ∙ one.wanted in
    let live_here = one.live in
    let live_now : live_in device base now ≡ live_under device (base ++ k.0 ∷ []) k.1 + live_in device base rest = ap (live_in device base) next in
    let live_before = before.live in
    let nodes : nodes_in now ≡ node_count k.1 + nodes_in rest = ap nodes_in next in
    let fewer = before.fewer in
    record {
      wanted = before.wanted ∙ ap (wanted_in device base) next ∙ wanted_first device base k rest ∙ ap (λ l. l ++ wanted_in device base rest) nothing;
      live = omega (arith, live_here, live_now, live_before);
      fewer = omega (arith, nodes, fewer);
    }

-- the children that are passed over are all that there are
pub passes_all : (device base : List ℕ) (kids all : List (ℕ × Tree)) (i : ℕ) → Passes device base kids (drop i all) → length all ≤ i → Passes device base kids []
passes_all device base kids all i passed le = subst (Passes device base kids) (kid_behind all i le) passed

-- ---- the stack

module _ (before now : List OpenNode) (t : Tree) (reach : Reached) (path : List ℕ) (o : OnTop before now t reach (length path)) where
  opened_kids : kids_of o.top ≡ children_of t
  opened_kids = ap (λ n. drop n (children_of (entered_tree o.top.inside))) o.none_done ∙ ap children_of o.tree

  opened_top : reverse now ≡ o.top ∷ reverse before
  opened_top = ap reverse o.stands ∙ on_top before o.top

  whole : take o.top.length path ≡ path
  whole = ap (λ n. take n path) o.size_is ∙ take-length path

  top_comes : (device : List ℕ) → to_come device path (reverse now) ≡ wanted_in device path (children_of t) ++ to_come device path (reverse before)
  top_comes device =
      ap (to_come device path) opened_top
      ∙ ap (λ p. wanted_in device p (kids_of o.top) ++ to_come device p (reverse before)) whole
      ∙ ap (λ ks. wanted_in device path ks ++ to_come device path (reverse before)) opened_kids

  top_live : (device : List ℕ) → live_to_come device path (reverse now) ≡ live_in device path (children_of t) + live_to_come device path (reverse before)
  top_live device =
      ap (live_to_come device path) opened_top
      ∙ ap (λ p. live_in device p (kids_of o.top) + live_to_come device p (reverse before)) whole
      ∙ ap (λ ks. live_in device path ks + live_to_come device path (reverse before)) opened_kids

  top_left : left (reverse now) ≡ nodes_in (children_of t) + left (reverse before)
  top_left = ap left opened_top ∙ ap (λ ks. nodes_in ks + left (reverse before)) opened_kids

  top_steps : steps (reverse now) ≡ suc (nodes_in (children_of t) + nodes_in (children_of t)) + steps (reverse before)
  top_steps = ap steps opened_top ∙ ap (λ ks. suc (nodes_in ks + nodes_in ks) + steps (reverse before)) opened_kids

  top_stands : (device : List ℕ) → StandsFor reach path → reach.device ≡ device → StandsOn device path (reverse before) → StandsOn device path (reverse now)
  top_stands device stands same rest =
      let size = o.size_is in
      subst (StandsOn device path) (sym opened_top) (
        record {
          within = omega (arith, size);
          reach = subst (λ (r : Reached). StandsFor r (take o.top.length path)) (sym o.reach_is) (subst (StandsFor reach) (sym whole) stands);
          same_device = ap (λ (r : Reached). r.device) o.reach_is ∙ same;
        },
        subst (λ p. StandsOn device p (reverse before)) (sym whole) rest,
      )

pub opened_comes : (before now : List OpenNode) (t : Tree) (reach : Reached) (path : List ℕ) → Opened before now t reach (length path) → (device : List ℕ)
    → to_come device path (reverse now) ≡ wanted_in device path (children_of t) ++ to_come device path (reverse before)
opened_comes before now t reach path (inl o) device = top_comes before now t reach path o device
opened_comes before now t reach path (inr h) device =
    ap (λ l. to_come device path (reverse l)) h.0 ∙ ap (λ ks. wanted_in device path ks ++ to_come device path (reverse before)) (sym h.1)

pub opened_live : (before now : List OpenNode) (t : Tree) (reach : Reached) (path : List ℕ) → Opened before now t reach (length path) → (device : List ℕ)
    → live_to_come device path (reverse now) ≡ live_in device path (children_of t) + live_to_come device path (reverse before)
opened_live before now t reach path (inl o) device = top_live before now t reach path o device
opened_live before now t reach path (inr h) device =
    let same : live_to_come device path (reverse now) ≡ live_to_come device path (reverse before) = ap (λ l. live_to_come device path (reverse l)) h.0 in
    let none : live_in device path (children_of t) ≡ 0 = ap (live_in device path) h.1 in
    omega (arith, same, none)

pub opened_left : (before now : List OpenNode) (t : Tree) (reach : Reached) (path : List ℕ) → Opened before now t reach (length path)
    → left (reverse now) ≡ nodes_in (children_of t) + left (reverse before)
opened_left before now t reach path (inl o) = top_left before now t reach path o
opened_left before now t reach path (inr h) =
    let same : left (reverse now) ≡ left (reverse before) = ap (λ (l : List OpenNode). left (reverse l)) h.0 in
    let none : nodes_in (children_of t) ≡ 0 = ap nodes_in h.1 in
    omega (arith, same, none)

pub opened_steps : (before now : List OpenNode) (t : Tree) (reach : Reached) (path : List ℕ) → Opened before now t reach (length path)
    → steps (reverse now) ≤ suc (nodes_in (children_of t) + nodes_in (children_of t)) + steps (reverse before)
opened_steps before now t reach path (inl o) = let e = top_steps before now t reach path o in omega (arith, e)
opened_steps before now t reach path (inr h) = let same : steps (reverse now) ≡ steps (reverse before) = ap (λ (l : List OpenNode). steps (reverse l)) h.0 in omega (arith, same)

pub opened_stands : (before now : List OpenNode) (t : Tree) (reach : Reached) (path : List ℕ) → Opened before now t reach (length path) → (device : List ℕ)
    → StandsFor reach path → reach.device ≡ device → StandsOn device path (reverse before) → StandsOn device path (reverse now)
opened_stands before now t reach path (inl o) device stands same rest = top_stands before now t reach path o device stands same rest
opened_stands before now t reach path (inr h) device stands same rest = subst (λ l. StandsOn device path (reverse l)) (sym h.0) rest

-- what a node assigns itself, and what its children assign
wanted_split : (device path : List ℕ) (t : Tree) → filter (is_wanted device) (members_under path t)
    ≡ filter (is_wanted device) (own_members (path ++ prefix_of t) (values_of t)) ++ wanted_in device (path ++ prefix_of t) (children_of t)
wanted_split device path t =
    ap (filter (is_wanted device)) (members_split path t) ∙ filter-append (is_wanted device) (own_members (path ++ prefix_of t) (values_of t)) (members_in (path ++ prefix_of t) (children_of t))

-- the live nodes of a tree whose root's path is live
pub live_here : (device path : List ℕ) (t : Tree) → is_live (path ++ prefix_of t) device ≡ true → live_under device path t ≡ 1 + live_in device (path ++ prefix_of t) (children_of t)
live_here device path t live = live_split device path t ∙ ap (λ b. (if b then 1 else 0) + live_in device (path ++ prefix_of t) (children_of t)) live

-- ---- a child was entered

module _ (device path long : List ℕ) (top gone : OpenNode) (before now : List OpenNode) (k : ℕ × Tree) (reach : Reached)
    (within : top.length ≤ length path) (same : IsSameNode top gone)
    (passes : Passes device (take top.length path) (kids_of top) (k ∷ kids_of gone))
    (at : IsAt device (take top.length path) k long reach)
    (o : Opened (before ++ gone ∷ []) now k.1 reach (length long)) where
  base : List ℕ
  base = take top.length path

  cut : take gone.length long ≡ take top.length path
  cut = ap (λ n. take n long) same.size
      ∙ ap (take top.length) (at.path_is ∙ append_assoc (take top.length path) (k.0 ∷ []) (prefix_of k.1))
      ∙ take_front top.length (take top.length path) (k.0 ∷ prefix_of k.1) (length-take-le top.length path within)

  pub child_stands : StandsOn device path (top ∷ reverse before) → StandsOn device long (reverse now)
  child_stands stands =
      let size : length (take top.length path) ≡ top.length = length-take-le top.length path within in
      let parts : length long ≡ length (take top.length path ++ k.0 ∷ []) + length (prefix_of k.1) = ap length at.path_is ∙ length-append (take top.length path ++ k.0 ∷ []) (prefix_of k.1) in
      let front : length (take top.length path ++ k.0 ∷ []) ≡ length (take top.length path) + 1 = length-append (take top.length path) (k.0 ∷ []) in
      let gone_size = same.size in
      opened_stands (before ++ gone ∷ []) now k.1 reach long o device at.stands at.same_device
      (subst (StandsOn device long) (sym (on_top before gone)) (
        record {
          within = omega (arith, size, parts, front, gone_size);
          reach = subst (λ (r : Reached). StandsFor r (take gone.length long)) (sym same.reach) (subst (StandsFor top.reach) (sym cut) stands.0.reach);
          same_device = ap (λ (r : Reached). r.device) same.reach ∙ stands.0.same_device;
        },
        subst (λ p. StandsOn device p (reverse before)) (sym cut) stands.1,
      ))

  pub child_collected_on : {C : Type 0} (Collects : C → List Assignment → C → Type 0) → TakesMore Collects → (a b end : C) → Collects a (filter (is_wanted device) (own_members long (values_of k.1))) b
      → Collects b (to_come device long (reverse now)) end → Collects a (to_come device path (top ∷ reverse before)) end
  child_collected_on {C} Collects takes a b end own rest =
      let under = take top.length path ++ k.0 ∷ [] in
      let mine = filter (is_wanted device) (own_members long (values_of k.1)) in
      let kids = wanted_in device long (children_of k.1) in
      let more = wanted_in device (take top.length path) (kids_of gone) in
      let deep = to_come device (take top.length path) (reverse before) in
      let behind : to_come device long (reverse (before ++ gone ∷ [])) ≡ more ++ deep =
      ap (to_come device long) (on_top before gone) ∙ ap (λ p. wanted_in device p (kids_of gone) ++ to_come device p (reverse before)) cut in
      let come : to_come device long (reverse now) ≡ kids ++ (more ++ deep) =
      opened_comes (before ++ gone ∷ []) now k.1 reach long o device ∙ ap (λ r. kids ++ r) behind in
      let child : filter (is_wanted device) (members_under under k.1) ≡ mine ++ kids =
      wanted_split device under k.1 ∙ ap (λ p. filter (is_wanted device) (own_members p (values_of k.1)) ++ wanted_in device p (children_of k.1)) (sym at.path_is) in
      let all : to_come device path (top ∷ reverse before) ≡ mine ++ to_come device long (reverse now) =
      ap (λ r. r ++ deep) (passes.wanted ∙ wanted_first device (take top.length path) k (kids_of gone) ∙ ap (λ r. r ++ more) child)
      ∙ append_assoc (mine ++ kids) more deep ∙ append_assoc mine kids (more ++ deep) ∙ ap (λ r. mine ++ r) (sym come) in
      subst (λ l. Collects a l end) (sym all) (takes a b end mine (to_come device long (reverse now)) own rest)

  pub child_live : suc (live_to_come device long (reverse now)) ≡ live_to_come device path (top ∷ reverse before)
  child_live =
      let under = take top.length path ++ k.0 ∷ [] in
      let deep = live_to_come device (take top.length path) (reverse before) in
      let behind : live_to_come device long (reverse (before ++ gone ∷ [])) ≡ live_in device (take top.length path) (kids_of gone) + deep =
      ap (live_to_come device long) (on_top before gone) ∙ ap (λ p. live_in device p (kids_of gone) + live_to_come device p (reverse before)) cut in
      let opened = opened_live (before ++ gone ∷ []) now k.1 reach long o device in
      let child : live_under device under k.1 ≡ 1 + live_in device long (children_of k.1) =
      live_here device under k.1 (ap (λ p. is_live p device) (sym at.path_is) ∙ at.live) ∙ ap (λ p. 1 + live_in device p (children_of k.1)) (sym at.path_is) in
      let passed : live_in device (take top.length path) (kids_of top) ≡ live_under device under k.1 + live_in device (take top.length path) (kids_of gone) = passes.live in
      omega (arith, behind, opened, child, passed)

  nodes : node_count k.1 + nodes_in (kids_of gone) ≤ nodes_in (kids_of top)
  nodes = passes.fewer

  pub child_left : suc (left (reverse now)) ≤ left (top ∷ reverse before)
  child_left =
      let opened = opened_left (before ++ gone ∷ []) now k.1 reach long o in
      let on : left (reverse (before ++ gone ∷ [])) ≡ nodes_in (kids_of gone) + left (reverse before) = ap left (on_top before gone) in
      let count = node_and_below k.1 in
      let n = nodes in
      omega (arith, opened, on, count, n)

  pub child_steps : steps (reverse now) < steps (top ∷ reverse before)
  child_steps =
      let opened = opened_steps (before ++ gone ∷ []) now k.1 reach long o in
      let on : steps (reverse (before ++ gone ∷ [])) ≡ suc (nodes_in (kids_of gone) + nodes_in (kids_of gone)) + steps (reverse before) = ap steps (on_top before gone) in
      let count = node_and_below k.1 in
      let n = nodes in
      omega (arith, opened, on, count, n)

-- ---- a node is done

module _ (device path : List ℕ) (top : OpenNode) (below : List OpenNode) (passes : Passes device (take top.length path) (kids_of top) []) where
  pub done_comes : to_come device path (top ∷ below) ≡ to_come device (take top.length path) below
  done_comes = ap (λ l. l ++ to_come device (take top.length path) below) passes.wanted

  pub done_live : live_to_come device path (top ∷ below) ≡ live_to_come device (take top.length path) below
  done_live = let none : live_in device (take top.length path) (kids_of top) ≡ 0 = passes.live in omega (arith, none)

-- ---- what the beginning needs

pub root_path : (old prefix path : List ℕ) (t : Tree) → old ≡ [] → path ≡ old ++ prefix → prefix ≡ prefix_of t → path ≡ prefix_of t
root_path old prefix path t o p f = p ∙ ap (λ l. l ++ prefix) o ∙ f

-- there is a node that wasn't entered
pub some_left : (device path : List ℕ) (top : OpenNode) (below : List OpenNode) (k : ℕ × Tree) (rest : List (ℕ × Tree)) → Passes device path (kids_of top) (k ∷ rest) → 1 ≤ left (top ∷ below)
some_left device path top below k rest passes =
    let fewer : node_count k.1 + nodes_in rest ≤ nodes_in (kids_of top) = passes.fewer in
    let count = node_and_below k.1 in
    omega (arith, fewer, count)

module _ (device path : List ℕ) (t : Tree) (reach : Reached) (now : List OpenNode) (is : path ≡ prefix_of t) (o : Opened [] now t reach (length path)) where
  pub root_collected : {C : Type 0} (Collects : C → List Assignment → C → Type 0) → TakesMore Collects → (a b end : C) → Collects a (filter (is_wanted device) (own_members path (values_of t))) b
      → Collects b (to_come device path (reverse now)) end → Collects a (filter (is_wanted device) (members_under [] t)) end
  root_collected {C} Collects takes a b end own rest =
      let come : to_come device path (reverse now) ≡ wanted_in device (prefix_of t) (children_of t) =
      opened_comes [] now t reach path o device ∙ append-nil (wanted_in device path (children_of t)) ∙ ap (λ p. wanted_in device p (children_of t)) is in
      node_collected Collects takes device [] t a b end (subst (λ p. Collects a (filter (is_wanted device) (own_members p (values_of t))) b) is own) (subst (λ l. Collects b l end) come rest)

  pub root_live : is_live path device ≡ true → suc (live_to_come device path (reverse now)) ≡ live_under device [] t
  root_live live =
      let opened = opened_live [] now t reach path o device in
      let all : live_under device [] t ≡ 1 + live_in device path (children_of t) =
      live_here device [] t (ap (λ p. is_live p device) (sym is) ∙ live) ∙ ap (λ p. 1 + live_in device p (children_of t)) (sym is) in
      omega (arith, opened, all)

  pub root_left : suc (left (reverse now)) ≡ node_count t
  root_left =
      let opened = opened_left [] now t reach path o in
      let count = node_and_below t in
      omega (arith, opened, count)

-- a root whose path leads nowhere
pub root_lost : {C : Type 0} (Collects : C → List Assignment → C → Type 0) (device : List ℕ) (t : Tree) (a end : C) → Dead device (prefix_of t) → Collects a [] end → Collects a (filter (is_wanted device) (members_under [] t)) end
root_lost {C} Collects device t a end dead rest = subst (λ l. Collects a l end) (sym (none_wanted device [] t dead)) rest

pub root_dead : (device : List ℕ) (t : Tree) → Dead device (prefix_of t) → live_under device [] t ≡ 0
root_dead device t dead = none_live device [] t dead

-- ---- the last member, and what comes before it

pub last_is : {A : Type 0} (items : List A) (i : ℕ) (d : A) → suc i ≡ length items → items ≡ take i items ++ get_or items i d ∷ []
last_is [] i d h = absurd (omega (arith, h))
last_is (x ∷ []) zero d h = refl
last_is (x ∷ y ∷ items) zero d h = absurd (omega (arith, h))
last_is (x ∷ items) (suc i) d h = ap (λ l. x ∷ l) (last_is items i d (omega (arith, h)))

pub last_set : {A : Type 0} (items : List A) (i : ℕ) (y : A) → suc i ≡ length items → slice_set items i y ≡ take i items ++ y ∷ []
last_set [] i y h = absurd (omega (arith, h))
last_set (x ∷ []) zero y h = refl
last_set (x ∷ z ∷ items) zero y h = absurd (omega (arith, h))
last_set (x ∷ items) (suc i) y h = ap (λ l. x ∷ l) (last_set items i y (omega (arith, h)))

pub before_last : {A : Type 0} (items : List A) (i : ℕ) (y : A) → suc i ≡ length items → take i (slice_set items i y) ≡ take i items
before_last [] i y h = absurd (omega (arith, h))
before_last (x ∷ items) zero y h = refl
before_last (x ∷ items) (suc i) y h = ap (λ l. x ∷ l) (before_last items i y (omega (arith, h)))

pub reversed : (items : List OpenNode) (i : ℕ) (top : OpenNode) → suc i ≡ length items → top ≡ get_or items i top → reverse items ≡ top ∷ reverse (take i items)
reversed items i top h is = ap reverse (last_is items i top h ∙ ap (λ o. take i items ++ o ∷ []) (sym is)) ∙ on_top (take i items) top

pub popped : (items : List OpenNode) (i : ℕ) (gone : OpenNode) → suc i ≡ length items → (n : ℕ) → n ≡ length items → (rest : List OpenNode) → rest ≡ take (n - 1) (slice_set items i gone) → rest ≡ take i items
popped items i gone h n e rest is =
    let size : n - 1 ≡ i = omega (arith, h, e) in
    is ∙ ap (λ m. take m (slice_set items i gone)) size ∙ before_last items i gone h

pub done_left : (top : OpenNode) (below : List OpenNode) → left below ≤ left (top ∷ below)
done_left top below = omega arith

pub done_steps : (top : OpenNode) (below : List OpenNode) → steps below < steps (top ∷ below)
done_steps top below = omega arith

pub none_open : (stack : List OpenNode) → length stack ≡ 0 → stack ≡ []
none_open [] h = refl
none_open (o ∷ stack) h = absurd (omega (arith, h))

pub no_kids : (kids : List (ℕ × Tree)) → length kids ≡ 0 → kids ≡ []
no_kids [] h = refl
no_kids (k ∷ kids) h = absurd (omega (arith, h))
