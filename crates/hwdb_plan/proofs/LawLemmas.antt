-- What is so of every plan.
use Rattle.std.proofs.Common.{◌≡◌, ◌≢◌, ◌∙◌, ◌≤◌, ◌<◌, All, arith, inl, inr, ap, sym, subst, length, List, None, Option, Ok, Some, ℕ, Bool, true, false, refl}
use Rattle.std.specs.Prelude.{Any, if◌then◌else◌}
use Rattle.std.proofs.lemmas.List.Elements.{All-contains}
use Rattle.hwdb_spec.specs.Assignment.{Position}
use Rattle.hwdb_spec.specs.Folders.{Choice, Source, chosen_of, contents, max_lines}
use Rattle.hwdb_spec.specs.Lines.{lines}
use Rattle.hwdb_spec.specs.Store.{Outcomes, Stored}
use Rattle.hwdb_spec.specs.Tree.{Tree, map_of_files}
use Rattle.hwdb_spec.specs.declared.errors.CompileError.{CompileError}
use Rattle.hwdb_spec.specs.declared.errors.CompileError.TheVariants as compiling
use Rattle.hwdb_plan.specs.Laws.{AreAlike, OldOrReplaced, OneForm, OneSpelling, OneTree, TellOne}
use Rattle.hwdb_plan.specs.Plans.{AreMadeOf, AreTooMuch, Asks, End, Ends, Plan, over, reads_over}
use Rattle.hwdb_plan.specs.Plans.End.{Answers, Replaces, Stops}
use Rattle.hwdb_plan.specs.Plans.Plan.{Compile, Database, Decode, Done, Folder, Ignored, Input, Inspect, Names, Spell, Text}
use Rattle.hwdb_spec_commands.specs.Told.{Reads, Stop}

abbrev pub MadeOrNot : Type 0
MadeOrNot = (etc usr : List Source) (most : ℕ) (bytes : List ℕ) (e : CompileError) → AreMadeOf etc usr most bytes → AreTooMuch etc usr most e → ⊥

-- all are few, or one isn't
not_any : {X : Type 0} (size : X → ℕ) (most : ℕ) (xs : List X) → All (λ x. size x ≤ most) xs → Any (λ x. most < size x) xs → ⊥
not_any size most xs all any =
    let few = All-contains (λ y. size y ≤ most) xs any.1 all (any.0, any.2, any.3) in
    let many = any.4 in
    omega (arith, few, many)

pub made_or_not : OneForm → MadeOrNot
made_or_not form etc usr most bytes compiling.TooManyFiles made much = let few = made.accepted.files in omega (arith, few, much)
made_or_not form etc usr most bytes compiling.TooManyLines made much =
    not_any (λ (c : Choice). length (lines (contents etc usr c))) max_lines (chosen_of etc usr) made.accepted.lines much.lines
made_or_not form etc usr most bytes compiling.TooLarge made much =
    let same = form (map_of_files etc usr) bytes much.longer.0 made.written much.longer.1 in
    omega (arith, ap length same, much.longer.2, made.within)
made_or_not form etc usr most bytes compiling.Memory made much = much

pub alike : OneTree → OneForm → OneSpelling → MadeOrNot → (w : Reads) (p : Plan) (e f : End) → Ends w p e → Ends w p f → AreAlike e f
unfolding Ends
alike one form spelling not w (Done x) e f a b = inl (a ∙ sym b)
alike one form spelling not w (Input path next) e f a b = alike one form spelling not w (next (w.input path)) e f a b
alike one form spelling not w (Text path next) e f a b = alike one form spelling not w (next (w.text path)) e f a b
alike one form spelling not w (Database path next) e f a b = alike one form spelling not w (next (w.database path)) e f a b
alike one form spelling not w (Names folder next) e f a b = alike one form spelling not w (next (w.names folder)) e f a b
alike one form spelling not w (Folder path next) e f a b = alike one form spelling not w (next (w.folder path)) e f a b
alike one form spelling not w (Ignored folder next) e f a b = alike one form spelling not w (next (w.ignored folder)) e f a b
alike one form spelling not w (Spell text next) e f (inl (p, is, ends)) (inl (q, is2, ends2)) =
    alike one form spelling not w (next (Some p)) e f ends (subst (λ (r : Position). Ends w (next (Some r)) f) (spelling q p text is2 is) ends2)
alike one form spelling not w (Spell text next) e f (inl (p, is, ends)) (inr (none, ends2)) = absurd (none p is)
alike one form spelling not w (Spell text next) e f (inr (none, ends)) (inl (q, is, ends2)) = absurd (none q is)
alike one form spelling not w (Spell text next) e f (inr (none, ends)) (inr (none2, ends2)) = alike one form spelling not w (next None) e f ends ends2
alike one form spelling not w (Inspect bytes next) e f (inl (t, is, ends)) (inl (u, is2, ends2)) =
    alike one form spelling not w (next (Some t)) e f ends (subst (λ (v : Tree). Ends w (next (Some v)) f) (one bytes u t is2 is) ends2)
alike one form spelling not w (Inspect bytes next) e f (inl (t, is, ends)) (inr (none, ends2)) = absurd (none t is)
alike one form spelling not w (Inspect bytes next) e f (inr (none, ends)) (inl (u, is, ends2)) = absurd (none u is)
alike one form spelling not w (Inspect bytes next) e f (inr (none, ends)) (inr (none2, ends2)) = alike one form spelling not w (next None) e f ends ends2
alike one form spelling not w (Decode bytes bad next) e f (inl (t, is, ends)) (inl (u, is2, ends2)) =
    alike one form spelling not w (next t) e f ends (subst (λ (v : Tree). Ends w (next v) f) (one bytes u t is2 is) ends2)
alike one form spelling not w (Decode bytes bad next) e f (inl (t, is, ends)) (inr (n, has, same)) = absurd (has.no_tree t is)
alike one form spelling not w (Decode bytes bad next) e f (inr (m, has, same)) (inl (u, is, ends)) = absurd (has.no_tree u is)
alike one form spelling not w (Decode bytes bad next) e f (inr (m, has, same)) (inr (n, has2, same2)) =
    inr (inl record { bytes = bytes; bad = bad; one = m; two = n; has_one = has; has_two = has2; is_one = same; is_two = same2 })
alike one form spelling not w (Compile etc usr most bad next) e f (inl (a, is, ends)) (inl (b, is2, ends2)) =
    alike one form spelling not w (next a) e f ends (subst (λ (v : List ℕ). Ends w (next v) f) (form (map_of_files etc usr) b a is2.written is.written) ends2)
alike one form spelling not w (Compile etc usr most bad next) e f (inl (a, is, ends)) (inr (n, has, same)) = absurd (not etc usr most a n is has)
alike one form spelling not w (Compile etc usr most bad next) e f (inr (m, has, same)) (inl (b, is, ends)) = absurd (not etc usr most b m is has)
alike one form spelling not w (Compile etc usr most bad next) e f (inr (m, has, same)) (inr (n, has2, same2)) =
    inr (inr record { etc = etc; usr = usr; most = most; bad = bad; one = m; two = n; has_one = has; has_two = has2; is_one = same; is_two = same2 })

-- ---- an end that is no error
done_one : (e f : End) → ((s : Stop) → e ≢ Stops s) → AreAlike e f → e ≡ f
done_one e f done (inl same) = same
done_one e f done (inr (inl faults)) = absurd (done (faults.bad faults.one) faults.is_one)
done_one e f done (inr (inr reasons)) = absurd (done (reasons.bad reasons.one) reasons.is_one)

pub done_is_one : OneTree → OneForm → OneSpelling → (w : Reads) (p : Plan) (e f : End) → ((s : Stop) → e ≢ Stops s) → Ends w p e → Ends w p f → e ≡ f
done_is_one one form spelling w p e f done a b = done_one e f done (alike one form spelling (made_or_not form) w p e f a b)

pub answers_leave_all : OneTree → OneForm → OneSpelling → (outcomes : Outcomes) (w : Reads) (p : Plan) (status : ℕ) (err out : List ℕ) → Ends w p (Answers status err out)
    → (path : List ℕ) (v : Option Stored) → OldOrReplaced w p outcomes path v → outcomes path v
answers_leave_all one form spelling outcomes w p status err out ends path v (inl was) = was
answers_leave_all one form spelling outcomes w p status err out ends path v (inr (folder, bytes, said, n, other, at, is)) =
    let same : Answers status err out ≡ Replaces folder bytes said n = done_is_one one form spelling w p (Answers status err out) (Replaces folder bytes said n) (λ s e. cc) ends other in cc

-- ---- `--text`
choose : {X : Type 0} (w : Reads) (is : List ℕ → Bool) (made : List ℕ) (e : End) (b : Bool) (given told : X) (next : X → Plan) (ask : Plan)
    → ((x : X) → Ends (reads_over is made w) (next x) e → Ends w (over is made (next x)) e)
    → (Ends w (over is made (next told)) e → Ends w ask e)
    → Ends (reads_over is made w) (next (if b then given else told)) e → Ends w (if b then over is made (next given) else ask) e
choose w is made e true given told next ask below asks ends = below given ends
choose w is made e false given told next ask below asks ends = asks (below told ends)

pub over_is_over : (is : List ℕ → Bool) (made : List ℕ) (w : Reads) (p : Plan) (e : End) → Ends (reads_over is made w) p e → Ends w (over is made p) e
unfolding Ends over
over_is_over is made w (Done x) e ends = ends
over_is_over is made w (Input path next) e ends =
    choose w is made e (is path) (Ok made) (w.input path) next (Input path (λ r. over is made (next r))) (λ r. over_is_over is made w (next r) e) (λ x. x) ends
over_is_over is made w (Text path next) e ends =
    choose w is made e (is path) (Ok made) (w.text path) next (Text path (λ r. over is made (next r))) (λ r. over_is_over is made w (next r) e) (λ x. x) ends
over_is_over is made w (Database path next) e ends =
    choose w is made e (is path) (Ok (Some made)) (w.database path) next (Database path (λ r. over is made (next r))) (λ r. over_is_over is made w (next r) e) (λ x. x) ends
over_is_over is made w (Names folder next) e ends = over_is_over is made w (next (w.names folder)) e ends
over_is_over is made w (Folder path next) e ends =
    choose w is made e (is path) (Ok None) (w.folder path) next (Folder path (λ r. over is made (next r))) (λ r. over_is_over is made w (next r) e) (λ x. x) ends
over_is_over is made w (Ignored folder next) e ends = over_is_over is made w (next (w.ignored folder)) e ends
over_is_over is made w (Spell text next) e (inl (p, is_p, ends)) = inl (p, is_p, over_is_over is made w (next (Some p)) e ends)
over_is_over is made w (Spell text next) e (inr (none, ends)) = inr (none, over_is_over is made w (next None) e ends)
over_is_over is made w (Inspect bytes next) e (inl (t, is_t, ends)) = inl (t, is_t, over_is_over is made w (next (Some t)) e ends)
over_is_over is made w (Inspect bytes next) e (inr (none, ends)) = inr (none, over_is_over is made w (next None) e ends)
over_is_over is made w (Decode bytes bad next) e (inl (t, is_t, ends)) = inl (t, is_t, over_is_over is made w (next t) e ends)
over_is_over is made w (Decode bytes bad next) e (inr fault) = inr fault
over_is_over is made w (Compile etc usr most bad next) e (inl (b, is_b, ends)) = inl (b, is_b, over_is_over is made w (next b) e ends)
over_is_over is made w (Compile etc usr most bad next) e (inr fault) = inr fault

unchoose : {X : Type 0} (w : Reads) (is : List ℕ → Bool) (made : List ℕ) (e : End) (b : Bool) (given told : X) (next : X → Plan) (ask : Plan)
    → ((x : X) → Ends w (over is made (next x)) e → Ends (reads_over is made w) (next x) e)
    → (Ends w ask e → Ends w (over is made (next told)) e)
    → Ends w (if b then over is made (next given) else ask) e → Ends (reads_over is made w) (next (if b then given else told)) e
unchoose w is made e true given told next ask below asks ends = below given ends
unchoose w is made e false given told next ask below asks ends = below told (asks ends)

pub over_is_no_more : (is : List ℕ → Bool) (made : List ℕ) (w : Reads) (p : Plan) (e : End) → Ends w (over is made p) e → Ends (reads_over is made w) p e
unfolding Ends over
over_is_no_more is made w (Done x) e ends = ends
over_is_no_more is made w (Input path next) e ends =
    unchoose w is made e (is path) (Ok made) (w.input path) next (Input path (λ r. over is made (next r))) (λ r. over_is_no_more is made w (next r) e) (λ x. x) ends
over_is_no_more is made w (Text path next) e ends =
    unchoose w is made e (is path) (Ok made) (w.text path) next (Text path (λ r. over is made (next r))) (λ r. over_is_no_more is made w (next r) e) (λ x. x) ends
over_is_no_more is made w (Database path next) e ends =
    unchoose w is made e (is path) (Ok (Some made)) (w.database path) next (Database path (λ r. over is made (next r))) (λ r. over_is_no_more is made w (next r) e) (λ x. x) ends
over_is_no_more is made w (Names folder next) e ends = over_is_no_more is made w (next (w.names folder)) e ends
over_is_no_more is made w (Folder path next) e ends =
    unchoose w is made e (is path) (Ok None) (w.folder path) next (Folder path (λ r. over is made (next r))) (λ r. over_is_no_more is made w (next r) e) (λ x. x) ends
over_is_no_more is made w (Ignored folder next) e ends = over_is_no_more is made w (next (w.ignored folder)) e ends
over_is_no_more is made w (Spell text next) e (inl (p, is_p, ends)) = inl (p, is_p, over_is_no_more is made w (next (Some p)) e ends)
over_is_no_more is made w (Spell text next) e (inr (none, ends)) = inr (none, over_is_no_more is made w (next None) e ends)
over_is_no_more is made w (Inspect bytes next) e (inl (t, is_t, ends)) = inl (t, is_t, over_is_no_more is made w (next (Some t)) e ends)
over_is_no_more is made w (Inspect bytes next) e (inr (none, ends)) = inr (none, over_is_no_more is made w (next None) e ends)
over_is_no_more is made w (Decode bytes bad next) e (inl (t, is_t, ends)) = inl (t, is_t, over_is_no_more is made w (next t) e ends)
over_is_no_more is made w (Decode bytes bad next) e (inr fault) = inr fault
over_is_no_more is made w (Compile etc usr most bad next) e (inl (b, is_b, ends)) = inl (b, is_b, over_is_no_more is made w (next b) e ends)
over_is_no_more is made w (Compile etc usr most bad next) e (inr fault) = inr fault

-- ---- what isn't asked
pub only_asked : (w x : Reads) (p : Plan) (e : End) → ((path : List ℕ) → Asks p path → TellOne w x path) → Ends w p e → Ends x p e
unfolding Ends Asks
only_asked w x (Done y) e same ends = ends
only_asked w x (Input path next) e same ends =
    only_asked w x (next (x.input path)) e (λ q asks. same q (inr (x.input path, asks))) (subst (λ r. Ends w (next r) e) (same path (inl refl)).input ends)
only_asked w x (Text path next) e same ends =
    only_asked w x (next (x.text path)) e (λ q asks. same q (inr (x.text path, asks))) (subst (λ r. Ends w (next r) e) (same path (inl refl)).text ends)
only_asked w x (Database path next) e same ends =
    only_asked w x (next (x.database path)) e (λ q asks. same q (inr (x.database path, asks))) (subst (λ r. Ends w (next r) e) (same path (inl refl)).database ends)
only_asked w x (Names folder next) e same ends =
    only_asked w x (next (x.names folder)) e (λ q asks. same q (inr (x.names folder, asks))) (subst (λ r. Ends w (next r) e) (same folder (inl refl)).names ends)
only_asked w x (Folder path next) e same ends =
    only_asked w x (next (x.folder path)) e (λ q asks. same q (inr (x.folder path, asks))) (subst (λ r. Ends w (next r) e) (same path (inl refl)).folder ends)
only_asked w x (Ignored folder next) e same ends =
    only_asked w x (next (x.ignored folder)) e (λ q asks. same q (inr (x.ignored folder, asks))) (subst (λ r. Ends w (next r) e) (same folder (inl refl)).ignored ends)
only_asked w x (Spell text next) e same (inl (p, is, ends)) = inl (p, is, only_asked w x (next (Some p)) e (λ q asks. same q (Some p, asks)) ends)
only_asked w x (Spell text next) e same (inr (none, ends)) = inr (none, only_asked w x (next None) e (λ q asks. same q (None, asks)) ends)
only_asked w x (Inspect bytes next) e same (inl (t, is, ends)) = inl (t, is, only_asked w x (next (Some t)) e (λ q asks. same q (Some t, asks)) ends)
only_asked w x (Inspect bytes next) e same (inr (none, ends)) = inr (none, only_asked w x (next None) e (λ q asks. same q (None, asks)) ends)
only_asked w x (Decode bytes bad next) e same (inl (t, is, ends)) = inl (t, is, only_asked w x (next t) e (λ q asks. same q (t, asks)) ends)
only_asked w x (Decode bytes bad next) e same (inr fault) = inr fault
only_asked w x (Compile etc usr most bad next) e same (inl (b, is, ends)) = inl (b, is, only_asked w x (next b) e (λ q asks. same q (b, asks)) ends)
only_asked w x (Compile etc usr most bad next) e same (inr fault) = inr fault
