-- What was read of a file, in either form.
use Rattle.std.proofs.Common.{Result, Ok, Err, IfErr, IsTrue, ◌↔◌, ◌≡◌, ◌≤◌, ◌<◌, ◌-◌, ◌+◌, ◌*◌, ℕ, zero, suc, List, [], ◌∷◌, length, take, drop, slice_index, Bool, true, false, refl, sym, ◌∙◌, ap, subst, arith, ◌≢◌}
use Rattle.std.specs.Result.{IsErrAnd}
use Rattle.std.proofs.lemmas.Grind.{common_steps}
use Rattle.std.proofs.lemmas.List.{length-drop}
use Rattle.hwdb_spec.specs.declared.Layout.{Layout}
use Rattle.hwdb_spec.specs.Tree.{Value}
use Rattle.hwdb_spec.specs.Format.{number_at, text_at, value_at, IsPlace, record_end, child_entry, child_byte, child_off, children_count, values_count, value_entries, prefix_off}
use Rattle.hwdb_reader.specs.Passes.Views.{IsPart}
use Rattle.hwdb_reader.specs.Passes.Lemmas.Parts.{byte_is, number_is, slice_index_drop}
use Rattle.hwdb_lookup.specs.Views.{Stops}
use Rattle.hwdb_lookup.specs.Windows.{IsOfWindows, StopsOf}
use Rattle.hwdb_lookup.specs.Internal.Seen.{IsPause, IsSeen}
use Rattle.hwdb_lookup.specs.declared.windows.Windows.{Windows as ReadWindows}
use Rattle.hwdb_lookup.specs.declared.seen.Seen.{Seen}
use Rattle.hwdb_lookup.specs.Internal.Agreement.{AgreeIn}
use Rattle.hwdb_lookup.specs.Internal.Parts.{MayBeOf, Halts, size_of}
use Rattle.hwdb_lookup.specs.declared.known.Known.{Known}
use Rattle.hwdb_lookup.specs.declared.parts.Parts.{Parts}
use Rattle.hwdb_lookup.specs.declared.parts.Parts.TheVariants.{Blocks, Windows}
use Rattle.hwdb_lookup.specs.declared.stop.Stop.{Stop}
use Rattle.hwdb_lookup.specs.declared.stop.Stop.TheVariants.{Missing, Fault, LongPath, Memory}

-- why it stops stays so if more is said of a file
pub stops_weaker : (known : Parts) (P Q : List ℕ → Type 0) → ((file : List ℕ) → MayBeOf known file → Q file → P file) → (s : Stop) → Halts known P s → Halts known Q s
stops_weaker known P Q more (Missing block) h = h
stops_weaker known P Q more (Fault fault) h = λ file is q. h file is (more file is q)
stops_weaker known P Q more LongPath h = h
stops_weaker known P Q more Memory h = h

-- an error that is handed on
pub stop_given : {A : Type 0} (known : Parts) (P Q : List ℕ → Type 0) → ((file : List ℕ) → MayBeOf known file → Q file → P file) → (s : Stop) (r : Result A Stop) → IsErrAnd r (λ t. t ≡ s) → Halts known P s → IfErr r (λ t. Halts known Q t)
stop_given known P Q more s (Ok x) is h = tt
stop_given known P Q more s (Err t) is h = stops_weaker known P Q more t (subst (Halts known P) (sym is) h)

-- an error that is returned
pub stop_returned : {A : Type 0} (known : Parts) (P Q : List ℕ → Type 0) → ((file : List ℕ) → MayBeOf known file → Q file → P file) → (r : Result A Stop) → IfErr r (λ t. Halts known P t) → IfErr r (λ t. Halts known Q t)
stop_returned known P Q more (Ok x) h = tt
stop_returned known P Q more (Err t) h = stops_weaker known P Q more t h

-- of blocks it is why a lookup of them stops
pub blocks_stop : (known : Known) (P : List ℕ → Type 0) (s : Stop) → Halts (Blocks known) P s → Stops known P s
blocks_stop known P (Missing block) h = h
blocks_stop known P (Fault fault) h = h
blocks_stop known P LongPath h = h
blocks_stop known P Memory h = h

pub blocks_given : {A : Type 0} (known : Known) (P Q : List ℕ → Type 0) → ((file : List ℕ) → MayBeOf (Blocks known) file → Q file → P file) → (s : Stop) (r : Result A Stop) → IsErrAnd r (λ t. t ≡ s) → Halts (Blocks known) P s → IfErr r (λ t. Stops known Q t)
blocks_given known P Q more s (Ok x) is h = tt
blocks_given known P Q more s (Err t) is h = blocks_stop known Q t (stops_weaker (Blocks known) P Q more t (subst (Halts (Blocks known) P) (sym is) h))

-- how long the file is
pub size_is : (known : Parts) (file : List ℕ) → MayBeOf known file → length file ≡ size_of known
size_is (Blocks known) file m = m.size
size_is (Windows w) file m = m.size

-- what a record says of itself, in its first 24 bytes
module _ (l : Layout) (file part : List ℕ) (off : ℕ) (p : IsPart file off part) (room : 24 ≤ length part) where
  pub children_same : children_count part 0 ≡ children_count file off
  children_same = byte_is file part off (0 + 8) (off + 8) p (omega (arith, room)) (omega arith)

  pub values_same : values_count part 0 ≡ values_count file off
  values_same = number_is file part off 8 (0 + 16) (off + 16) p (omega (arith, room)) (omega arith)

  pub prefix_same : prefix_off part 0 ≡ prefix_off file off
  prefix_same = number_is file part off 8 0 off p (omega (arith, room)) (omega arith)

  sums : (a b : ℕ) → off + (0 + l.node_size + l.child_size * a + l.value_size * b) ≡ off + l.node_size + l.child_size * a + l.value_size * b
  sums a b = omega arith

  pub end_same : off + record_end l part 0 ≡ record_end l file off
  unfolding record_end
  end_same =
      sums (children_count part 0) (values_count part 0)
      ∙ ap (λ n. off + l.node_size + l.child_size * n + l.value_size * values_count part 0) children_same
      ∙ ap (λ n. off + l.node_size + l.child_size * children_count file off + l.value_size * n) values_same

-- bytes whose numbers of children and of values are those of others give a record of the same size
pub same_end : (l : Layout) (a b : List ℕ) → slice_index a 8 ≡ slice_index b 8 → number_at 8 16 a ≡ number_at 8 16 b → record_end l a 0 ≡ record_end l b 0
unfolding record_end
same_end l a b count values =
    ap (λ n. 0 + l.node_size + l.child_size * n + l.value_size * number_at 8 16 a) count ∙ ap (λ n. 0 + l.node_size + l.child_size * slice_index b 8 + l.value_size * n) values

pub record_room : (l : Layout) (b : List ℕ) (off : ℕ) → 24 ≤ l.node_size → off + 24 ≤ record_end l b off
unfolding record_end
record_room l b off big = omega arith

-- an offset that is a place of the file is in the string section
pub place_there : (l : Layout) (known : Parts) (file : List ℕ) (i j : ℕ) → MayBeOf known file → i ≡ j → IsPlace l file j → (l.strings ≤ i) × (i < size_of known)
place_there l known file i j m is p =
    let above = p.above in
    let below = p.below in
    let size = size_is known file m in (omega (arith, above, is), omega (arith, below, is, size))

-- an offset in the string section is a place of the file
pub place_found : (l : Layout) (known : Parts) (file : List ℕ) (i j : ℕ) (b : Bool) → MayBeOf known file → i ≡ j → b ≡ true → (IsTrue b ↔ (l.strings ≤ i) × (i < size_of known)) → IsPlace l file j
place_found l known file i j b m is e h =
    let there = h.0 e in
    let above = there.0 in
    let below = there.1 in
    let size = size_is known file m in record { above = omega (arith, above, is); below = omega (arith, below, is, size) }

pub refuted : (P : Type 0) (b : Bool) → b ≡ false → (IsTrue b ↔ P) → P → ⊥
refuted P b e h p = let t : b ≡ true = h.1 p in cc

-- what the part says of a child
pub child_there : (l : Layout) (file part : List ℕ) (off entry k o : ℕ) → IsPart file off part → entry ≡ child_entry l 0 k → entry + 16 ≤ length part → o ≡ number_at 8 (entry + 8) part
    → (slice_index part entry ≡ child_byte file (child_entry l off k)) × (o ≡ child_off file (child_entry l off k))
child_there l file part off entry k o p is room place =
    let there : off + entry ≡ child_entry l off k = omega (arith, is) in (
      byte_is file part off entry (child_entry l off k) p (omega (arith, room)) there,
      place ∙ number_is file part off 8 (entry + 8) (child_entry l off k + 8) p (omega (arith, room)) (omega (arith, there)),
    )

-- where a value entry is, by the number of children
pub entry_there : (l : Layout) (file part : List ℕ) (off n i e : ℕ) → n ≡ children_count file off → n ≡ children_count part 0 → e ≡ value_entries l part 0 + l.value_size * i
    → off + e ≡ value_entries l file off + l.value_size * i
entry_there l file part off n i e p q is =
    let a : e ≡ 0 + l.node_size + l.child_size * n + l.value_size * i = is ∙ ap (λ k. 0 + l.node_size + l.child_size * k + l.value_size * i) (sym q) in
    let b : off + l.node_size + l.child_size * n + l.value_size * i ≡ value_entries l file off + l.value_size * i = ap (λ k. off + l.node_size + l.child_size * k + l.value_size * i) p in
    omega (arith, a, b)

-- what the part says of a field of a value entry
pub field_there : (l : Layout) (file part : List ℕ) (off n i e d k x y : ℕ) → IsPart file off part → e + 32 ≤ length part → d + k ≤ 32 → n ≡ children_count file off → n ≡ children_count part 0
    → e ≡ value_entries l part 0 + l.value_size * i → x ≡ e + d → y ≡ value_entries l file off + l.value_size * i + d → number_at k x part ≡ number_at k y file
field_there l file part off n i e d k x y p room fits many same is ex ey =
    let at = entry_there l file part off n i e many same is in
    number_is file part off k x y p (omega (arith, room, fits, ex)) (omega (arith, at, ex, ey))

pub value_is : (file : List ℕ) (e : ℕ) (v : Value) → v.priority ≡ number_at 2 (e + 28) file → v.line ≡ number_at 4 (e + 24) file → v.key ≡ text_at file (number_at 8 e file)
    → v.value ≡ text_at file (number_at 8 (e + 8) file) → v.path ≡ text_at file (number_at 8 (e + 16) file) → v ≡ value_at file e
unfolding value_at
value_is file e v p l k w q = λ i. record { priority = p i; line = l i; key = k i; value = w i; path = q i }

-- ---- parts of a buffer

taken : (n : ℕ) (xs : List ℕ) (i : ℕ) → i < n → slice_index (take n xs) i ≡ slice_index xs i
taken zero xs i lt = absurd (omega (arith, lt))
taken (suc n) [] i lt = refl
taken (suc n) (x ∷ xs) zero lt = refl
taken (suc n) (x ∷ xs) (suc i) lt = taken n xs i (omega (arith, lt))

take_most : (n : ℕ) (xs : List ℕ) → length (take n xs) ≤ n
take_most n xs = grind (arith, common_steps)

take_whole : (n : ℕ) (xs : List ℕ) → n ≤ length xs → length (take n xs) ≡ n
take_whole n xs le = grind (arith, common_steps)

-- what was read of a buffer
pub part_read : (file b : List ℕ) (from to : ℕ) → AgreeIn file b from to → length file ≡ length b → from ≤ to → to ≤ length b → IsPart file from (take (to - from) (drop from b))
part_read file b from to agree size ordered inside =
    let most = take_most (to - from) (drop from b) in
    record {
      within = omega (arith, size, ordered, inside, most);
      same = λ i lt. taken (to - from) (drop from b) i (omega (arith, lt, most)) ∙ slice_index_drop b from i ∙ sym (agree (from + i) (omega arith) (omega (arith, lt, most)));
    }

-- and of a window
pub window_part : (file b : List ℕ) (place k from n : ℕ) → IsPart file place (take 4096 (drop (k * 4096) b)) → k * 4096 + 4096 ≤ length b → place ≤ from → from - place + n ≤ 4096
    → IsPart file from (take n (drop (k * 4096 + (from - place)) b))
window_part file b place k from n p room above fits =
    let most = take_most n (drop (k * 4096 + (from - place)) b) in
    let all = take_whole 4096 (drop (k * 4096) b) (let d = length-drop (k * 4096) b in omega (arith, d, room)) in
    let within = p.within in
    record {
      within = omega (arith, within, all, most, above, fits);
      same = λ i lt.
          let e : k * 4096 + (from - place) + i ≡ k * 4096 + (from - place + i) = omega arith in
          let g : place + (from - place + i) ≡ from + i = omega (arith, above) in
          taken n (drop (k * 4096 + (from - place)) b) i (omega (arith, lt, most)) ∙ slice_index_drop b (k * 4096 + (from - place)) i ∙ ap (slice_index b) e
          ∙ sym (slice_index_drop b (k * 4096) (from - place + i)) ∙ sym (taken 4096 (drop (k * 4096) b) (from - place + i) (omega (arith, lt, most, fits)))
          ∙ p.same (from - place + i) (omega (arith, lt, most, fits, all)) ∙ ap (slice_index file) g;
    }

-- why a lookup of blocks stops, and one of windows
pub blocks_back : {A : Type 0} (known : Known) (P : List ℕ → Type 0) (r : Result A Stop) → IfErr r (λ s. Stops known P s) → IfErr r (λ s. Halts (Blocks known) P s)
blocks_back known P (Ok x) h = tt
blocks_back known P (Err (Missing block)) h = h
blocks_back known P (Err (Fault fault)) h = h
blocks_back known P (Err LongPath) h = h
blocks_back known P (Err Memory) h = h

pub windows_back : {A : Type 0} (w : Seen) (P : List ℕ → Type 0) (r : Result A Stop) → IfErr r (λ s. IsPause w s) → IfErr r (λ s. Halts (Windows w) P s)
windows_back w P (Ok x) h = tt
windows_back w P (Err (Missing block)) h = h
windows_back w P (Err (Fault fault)) h = absurd h
windows_back w P (Err LongPath) h = tt
windows_back w P (Err Memory) h = tt

-- of windows it is why a lookup of them stops
pub windows_stop : (windows : ReadWindows) (w : Seen) (P : List ℕ → Type 0) (s : Stop) → w.bytes ≡ windows.bytes → w.places ≡ windows.places → ((file : List ℕ) → IsOfWindows windows file → IsSeen w file)
    → Halts (Windows w) P s → StopsOf windows P s
windows_stop windows w P (Missing at) bytes places seen h = λ k below whole. subst (λ p. slice_index p.now k ≢ at) places (h k (subst (λ p. k < length p.now) (sym places) below) (subst (λ b. k * 4096 + 4096 ≤ length b.now) (sym bytes) whole))
windows_stop windows w P (Fault fault) bytes places seen h = λ file is said. h file (seen file is) said
windows_stop windows w P LongPath bytes places seen h = h
windows_stop windows w P Memory bytes places seen h = h

of_weaker : (windows : ReadWindows) (P Q : List ℕ → Type 0) → ((file : List ℕ) → IsOfWindows windows file → Q file → P file) → (s : Stop) → StopsOf windows P s → StopsOf windows Q s
of_weaker windows P Q more (Missing at) h = h
of_weaker windows P Q more (Fault fault) h = λ file is q. h file is (more file is q)
of_weaker windows P Q more LongPath h = h
of_weaker windows P Q more Memory h = h

pub windows_given : {A : Type 0} (windows : ReadWindows) (w : Seen) (P Q : List ℕ → Type 0) → w.bytes ≡ windows.bytes → w.places ≡ windows.places → ((file : List ℕ) → IsOfWindows windows file → IsSeen w file)
    → ((file : List ℕ) → IsOfWindows windows file → Q file → P file) → (s : Stop) (r : Result A Stop) → IsErrAnd r (λ t. t ≡ s) → Halts (Windows w) P s → IfErr r (λ t. StopsOf windows Q t)
windows_given windows w P Q bytes places seen more s (Ok x) is h = tt
windows_given windows w P Q bytes places seen more s (Err t) is h =
    of_weaker windows P Q more t (windows_stop windows w P t bytes places seen (subst (Halts (Windows w) P) (sym is) h))
