-- Which faults apply together, and at which offset each is.
use Rattle.std.proofs.Common.{◌≡◌, ℕ, List, refl, sym, subst, inl, inr}
use Rattle.hwdb_spec.specs.declared.Layout.{Layout}
use Rattle.hwdb_spec.specs.declared.DbFault.{DbFault}
use Rattle.hwdb_spec.specs.declared.DbFault.TheVariants.{Short, Signature, RecordSizes, Lengths, Strings, Place, Depth, ChildOrder, StringOffset, KeyOrder, Priority}
use Rattle.hwdb_spec.specs.Format.{Applies, HeaderFault, IsHeader, IsVisitFault, NodeFault, Visit, Visited, file_priority, layout_of, root_visit}
use Rattle.hwdb_spec.specs.Format.Visited.{Root}
use Rattle.hwdb_reader.specs.Laws.{IsOfHeader, IsRightBefore, IsThere}
use Rattle.hwdb_reader.proofs.FaultlessLemmas.{header_sound}

-- of the header's faults one at most applies
same : (b : List ℕ) (e f : DbFault) → HeaderFault b e → HeaderFault b f → e ≡ f
same b Short Short he hf = refl
same b Short Signature he hf = absurd (he hf.0)
same b Short RecordSizes he hf = absurd (he hf.0)
same b Short Lengths he hf = absurd (he hf.0)
same b Short Strings he hf = absurd (he hf.0)
same b Short (Place at) he hf = absurd hf
same b Short (Depth at) he hf = absurd hf
same b Short (ChildOrder at) he hf = absurd hf
same b Short (StringOffset at) he hf = absurd hf
same b Short (KeyOrder at) he hf = absurd hf
same b Short (Priority at) he hf = absurd hf
same b Signature Short he hf = absurd (hf he.0)
same b Signature Signature he hf = refl
same b Signature RecordSizes he hf = absurd (he.1 hf.1)
same b Signature Lengths he hf = absurd (he.1 hf.1)
same b Signature Strings he hf = absurd (he.1 hf.1)
same b Signature (Place at) he hf = absurd hf
same b Signature (Depth at) he hf = absurd hf
same b Signature (ChildOrder at) he hf = absurd hf
same b Signature (StringOffset at) he hf = absurd hf
same b Signature (KeyOrder at) he hf = absurd hf
same b Signature (Priority at) he hf = absurd hf
same b RecordSizes Short he hf = absurd (hf he.0)
same b RecordSizes Signature he hf = absurd (hf.1 he.1)
same b RecordSizes RecordSizes he hf = refl
same b RecordSizes Lengths he hf = absurd (he.2 hf.2)
same b RecordSizes Strings he hf = absurd (he.2 hf.2)
same b RecordSizes (Place at) he hf = absurd hf
same b RecordSizes (Depth at) he hf = absurd hf
same b RecordSizes (ChildOrder at) he hf = absurd hf
same b RecordSizes (StringOffset at) he hf = absurd hf
same b RecordSizes (KeyOrder at) he hf = absurd hf
same b RecordSizes (Priority at) he hf = absurd hf
same b Lengths Short he hf = absurd (hf he.0)
same b Lengths Signature he hf = absurd (hf.1 he.1)
same b Lengths RecordSizes he hf = absurd (hf.2 he.2)
same b Lengths Lengths he hf = refl
same b Lengths Strings he hf = absurd (he.3 hf.3)
same b Lengths (Place at) he hf = absurd hf
same b Lengths (Depth at) he hf = absurd hf
same b Lengths (ChildOrder at) he hf = absurd hf
same b Lengths (StringOffset at) he hf = absurd hf
same b Lengths (KeyOrder at) he hf = absurd hf
same b Lengths (Priority at) he hf = absurd hf
same b Strings Short he hf = absurd (hf he.0)
same b Strings Signature he hf = absurd (hf.1 he.1)
same b Strings RecordSizes he hf = absurd (hf.2 he.2)
same b Strings Lengths he hf = absurd (hf.3 he.3)
same b Strings Strings he hf = refl
same b Strings (Place at) he hf = absurd hf
same b Strings (Depth at) he hf = absurd hf
same b Strings (ChildOrder at) he hf = absurd hf
same b Strings (StringOffset at) he hf = absurd hf
same b Strings (KeyOrder at) he hf = absurd hf
same b Strings (Priority at) he hf = absurd hf
same b (Place at) f he hf = absurd he
same b (Depth at) f he hf = absurd he
same b (ChildOrder at) f he hf = absurd he
same b (StringOffset at) f he hf = absurd he
same b (KeyOrder at) f he hf = absurd he
same b (Priority at) f he hf = absurd he

-- a node has no fault of the header
no_visit : (b : List ℕ) (e : DbFault) → IsOfHeader e → IsVisitFault (layout_of b) b e → ⊥
unfolding IsVisitFault
no_visit b Short o (v, r, inl f) = absurd f.1.2
no_visit b Short o (v, r, inr f) = let q = f.1 in cc
no_visit b Signature o (v, r, inl f) = absurd f.1.2
no_visit b Signature o (v, r, inr f) = let q = f.1 in cc
no_visit b RecordSizes o (v, r, inl f) = absurd f.1.2
no_visit b RecordSizes o (v, r, inr f) = let q = f.1 in cc
no_visit b Lengths o (v, r, inl f) = absurd f.1.2
no_visit b Lengths o (v, r, inr f) = let q = f.1 in cc
no_visit b Strings o (v, r, inl f) = absurd f.1.2
no_visit b Strings o (v, r, inr f) = let q = f.1 in cc
no_visit b (Place at) o s = absurd o
no_visit b (Depth at) o s = absurd o
no_visit b (ChildOrder at) o s = absurd o
no_visit b (StringOffset at) o s = absurd o
no_visit b (KeyOrder at) o s = absurd o
no_visit b (Priority at) o s = absurd o

not_place : (e : DbFault) (at : ℕ) → IsOfHeader e → e ≡ Place at → ⊥
not_place Short at o q = cc
not_place Signature at o q = cc
not_place RecordSizes at o q = cc
not_place Lengths at o q = cc
not_place Strings at o q = cc
not_place (Place m) at o q = absurd o
not_place (Depth m) at o q = absurd o
not_place (ChildOrder m) at o q = absurd o
not_place (StringOffset m) at o q = absurd o
not_place (KeyOrder m) at o q = absurd o
not_place (Priority m) at o q = absurd o

pub one_of_header : (b : List ℕ) (e f : DbFault) → IsOfHeader e → Applies b e → Applies b f → e ≡ f
unfolding Applies
one_of_header b e f o (inl he) (inl hf) = same b e f he hf
one_of_header b e f o (inl he) (inr hf) = absurd (header_sound b e hf.0 he)
one_of_header b e f o (inr (h, inl s)) hf = absurd (no_visit b e o s)
one_of_header b e f o (inr (h, inr p)) hf = absurd (not_place e _ o p.0)

right_first : (b : List ℕ) (e : DbFault) → HeaderFault b e → IsRightBefore b e
right_first b Short f = tt
right_first b Signature f = f.0
right_first b RecordSizes f = (f.0, f.1)
right_first b Lengths f = (f.0, f.1, f.2)
right_first b Strings f = (f.0, f.1, f.2, f.3)
right_first b (Place at) f = absurd f
right_first b (Depth at) f = absurd f
right_first b (ChildOrder at) f = absurd f
right_first b (StringOffset at) f = absurd f
right_first b (KeyOrder at) f = absurd f
right_first b (Priority at) f = absurd f

right_of_header : (b : List ℕ) (e : DbFault) → IsHeader b → IsRightBefore b e
right_of_header b Short h = tt
right_of_header b Signature h = h.long
right_of_header b RecordSizes h = (h.long, h.signed)
right_of_header b Lengths h = (h.long, h.signed, h.sizes)
right_of_header b Strings h = (h.long, h.signed, h.sizes, h.lengths)
right_of_header b (Place at) h = h
right_of_header b (Depth at) h = h
right_of_header b (ChildOrder at) h = h
right_of_header b (StringOffset at) h = h
right_of_header b (KeyOrder at) h = h
right_of_header b (Priority at) h = h

pub right_before : (b : List ℕ) (e : DbFault) → Applies b e → IsRightBefore b e
unfolding Applies
right_before b e (inl f) = right_first b e f
right_before b e (inr f) = right_of_header b e f.0

-- what is wrong with a node is at the offset
there : (l : Layout) (b : List ℕ) (v : Visit) (e : DbFault) → NodeFault l b v e → IsThere l b v e
there l b v (Place at) f = f.0
there l b v (Depth at) f = f
there l b v (ChildOrder at) f = f
there l b v (StringOffset at) (inl f) = (f.1, inl f.0)
there l b v (StringOffset at) (inr f) = (f.2.1, inr (f.0, f.1, f.2.0))
there l b v (KeyOrder at) f = f
there l b v (Priority at) f = (f.0, f.1, f.2.0, subst (λ m. file_priority b m ≡ 0) (sym f.2.0) f.2.1)
there l b v Short f = absurd f.2
there l b v Signature f = absurd f.2
there l b v RecordSizes f = absurd f.2
there l b v Lengths f = absurd f.2
there l b v Strings f = absurd f.2

-- a fault of a visited node, with the node
abbrev pub IsFound : List ℕ → DbFault → Type 0
IsFound b e = (v : Visit) × Visited (layout_of b) b v × IsThere (layout_of b) b v e

found_visit : (b : List ℕ) (e : DbFault) → IsVisitFault (layout_of b) b e → IsFound b e
unfolding IsVisitFault
found_visit b e (v, r, inl f) = (v, r, there (layout_of b) b v e f.1)
found_visit b e (v, r, inr f) = (v, r, subst (λ k. IsThere (layout_of b) b v k) (sym f.1) refl)

pub found_there : (b : List ℕ) (e : DbFault) → IsHeader b → Applies b e → IsFound b e
unfolding Applies
found_there b e h (inl f) = absurd (header_sound b e h f)
found_there b e h (inr (_, inl s)) = found_visit b e s
found_there b e h (inr (_, inr f)) = (root_visit (layout_of b), Root, subst (λ k. IsThere (layout_of b) b (root_visit (layout_of b)) k) (sym f.0) refl)
