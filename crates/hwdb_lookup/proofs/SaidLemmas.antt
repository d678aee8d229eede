-- What is found is what sound records say: one value more, and the nodes that are open.
use Rattle.std.proofs.Common.{◌≡◌, ◌∙◌, ◌+◌, ◌*◌, ◌<◌, ◌∷◌, List, [], ap, arith, inl, inr, map, subst, sym, ℕ}
use Rattle.std.specs.List.{All}
use Rattle.std.proofs.lemmas.List.Elements.{All-append, All-cons, All-head, All-nil, All-tail}
use Rattle.hwdb_query.specs.declared.answer.StoredAssignment.{StoredAssignment}
use Rattle.hwdb_query.specs.Views.{assignment_of_answer}
use Rattle.hwdb_spec.specs.Assignment.{Assignment}
use Rattle.hwdb_spec.specs.declared.Layout.{Layout}
use Rattle.hwdb_reader.specs.declared.frame.Frame.{Frame}
use Rattle.hwdb_spec.specs.Tree.{key_of}
use Rattle.hwdb_spec.specs.Format.{IsValue, layout_of, value_at, value_entries}
use Rattle.hwdb_lookup.specs.Internal.Heads.{Fits, IsHead, value_of}
use Rattle.hwdb_lookup.specs.Internal.Parts.{MayBeOf}
use Rattle.hwdb_lookup.specs.Internal.Saids.{AllLaid, AreSaid, IsFit, IsOffer, IsOffered, StaySaid}
use Rattle.hwdb_lookup.specs.Sound.{IsSaid}
use Rattle.hwdb_lookup.specs.declared.arrivals.OpenNode.{OpenNode}
use Rattle.hwdb_lookup.specs.declared.lazy_node.LazyNode.{LazyNode}
use Rattle.hwdb_lookup.specs.declared.nodes.StoredValue.{StoredValue}
use Rattle.hwdb_lookup.specs.declared.parts.Parts.{Parts}

-- what a value of a record that fits says
said_by : (file : List ℕ) (n : LazyNode) (i : ℕ) (v : StoredValue) (a : StoredAssignment) → i < n.values → IsHead file n → Fits n.frame.sizes file n.off
    → value_of v ≡ value_at file (value_entries n.frame.sizes file n.off + n.frame.sizes.value_size * i)
    → IsValue n.frame.sizes file (value_entries n.frame.sizes file n.off + n.frame.sizes.value_size * i) → IsOffer v a → IsSaid n.frame.sizes file a.key.now a.value.now
unfolding value_at
said_by file n i v a within head fits read sound offer = record {
  off = n.off;
  ends = fits.0;
  prefix = fits.1;
  number = i;
  within = (let is = head.values in omega (arith, within, is));
  sound = sound;
  says_key = sym (ap (λ w. key_of w.key) read) ∙ offer.0;
  says_value = sym (ap (λ w. w.value) read) ∙ offer.1;
}

pub said_once_more : (n : LazyNode) (i : ℕ) (v : StoredValue) (old new : List StoredAssignment) → i < n.values → IsFit n
    → ((file : List ℕ) → MayBeOf n.known file → IsHead file n → value_of v ≡ value_at file (value_entries n.frame.sizes file n.off + n.frame.sizes.value_size * i))
    → ((file : List ℕ) → MayBeOf n.known file → IsHead file n → IsValue n.frame.sizes file (value_entries n.frame.sizes file n.off + n.frame.sizes.value_size * i))
    → IsOffered v old new → StaySaid n.known n.frame.sizes old new
said_once_more n i v old new within fit read sound (inl same) said = subst (AreSaid n.known n.frame.sizes) (sym same) said
said_once_more n i v old new within fit read sound (inr more) said =
    let a = more.0 in
    subst (AreSaid n.known n.frame.sizes) (sym more.1)
    (λ file m.
    let f = fit file m in
    All-append (λ (b : StoredAssignment). IsSaid n.frame.sizes file b.key.now b.value.now) old (a ∷ []) (said file m)
    (All-cons (λ (b : StoredAssignment). IsSaid n.frame.sizes file b.key.now b.value.now) a [] (said_by file n i v a within f.0 f.1 (read file m f.0) (sound file m f.0) more.2) (All-nil (λ (b : StoredAssignment). IsSaid n.frame.sizes file b.key.now b.value.now))))

-- one node more is open
pub laid_more : (l : Layout) (o : OpenNode) (old new : List OpenNode) → o.node.frame.sizes ≡ l → new ≡ o ∷ old → AllLaid l old → AllLaid l new
laid_more l o old new is same laid = subst (AllLaid l) (sym same) (is, laid)

-- a node that was entered fits, and so does the open node that it becomes
entered_fits : (known : Parts) (frame : Frame) (off : ℕ) (n o : LazyNode) → (n.known ≡ known) × (n.frame ≡ frame) × (n.off ≡ off) → o ≡ n
    → ((file : List ℕ) → MayBeOf known file → IsHead file n) → ((file : List ℕ) → MayBeOf known file → Fits frame.sizes file off) → IsFit o
entered_fits known frame off n o same is head sound =
    subst IsFit (sym is)
    (λ file m.
    let k = subst (λ p. MayBeOf p file) same.0 m in
    (head file k, subst (λ f. Fits f.sizes file n.off) (sym same.1) (subst (Fits frame.sizes file) (sym same.2) (sound file k))))

pub stays_said : (known : Parts) (frame : Frame) (off : ℕ) (n : LazyNode) (o : OpenNode) (old new : List StoredAssignment) → (n.known ≡ known) × (n.frame ≡ frame) × (n.off ≡ off) → o.node ≡ n
    → ((file : List ℕ) → MayBeOf known file → IsHead file n) → ((file : List ℕ) → MayBeOf known file → Fits frame.sizes file off)
    → (IsFit o.node → StaySaid known o.node.frame.sizes old new) → StaySaid known frame.sizes old new
stays_said known frame off n o old new same is head sound stay =
    subst (λ l. StaySaid known l old new) (ap (λ m. m.frame.sizes) is ∙ ap (λ f. f.sizes) same.1) (stay (entered_fits known frame off n o.node same is head sound))

-- what is said of what was found is said of the assignments that they are
-- the property of an assignment is said in a file
abbrev Told : (l : Layout) (file : List ℕ) → Assignment → Type 0
Told l file a = IsSaid l file a.position.key a.value

abbrev ToldStored : (l : Layout) (file : List ℕ) → StoredAssignment → Type 0
ToldStored l file a = IsSaid l file a.key.now a.value.now

pub each_said : (file : List ℕ) (l : Layout) (found : List StoredAssignment) → l ≡ layout_of file → All (λ (a : StoredAssignment). IsSaid l file a.key.now a.value.now) found
    → All (λ (a : Assignment). IsSaid (layout_of file) file a.position.key a.value) (map assignment_of_answer found)
each_said file l [] is all = All-nil (Told (layout_of file) file)
each_said file l (a ∷ more) is all =
    All-cons (Told (layout_of file) file) (assignment_of_answer a) (map assignment_of_answer more) (subst (λ k. IsSaid k file a.key.now a.value.now) is (All-head (ToldStored l file) a more all))
    (each_said file l more is (All-tail (ToldStored l file) a more all))
