-- Tokens and lines, one after the other.
use Rattle.std.proofs.Common.{Bor, map, ◌≡◌, ◌∙◌, ℕ, ◌+◌, Bool, true, false, List, [], ◌∷◌, ◌++◌, ◌<◌, zero, suc, arith, cond, drop, drop-cons, get_or, length, refl, sym, ap, append_assoc, append-nil, Option, Some, None}
use Rattle.std.specs.Prelude.{filter, if◌then◌else◌, not}
use Rattle.std.specs.List.{list_any}
use Rattle.hwdb_spec.specs.Lines.{is_none}
use Rattle.hwdb_rulefiles.specs.RuleTokens.{Token, is_word}
use Rattle.hwdb_rulefiles.specs.RuleLines.{RuleLine}
use Rattle.hwdb_rulefiles.specs.Views.{text_of}
use Rattle.hwdb_rulerun.specs.Telling.{and_then}
use Rattle.hwdb_ruleevents.specs.Changes.{Change, by_sure}
use Rattle.hwdb_ruleevents.specs.Effects.{Effect, Knowledge, with_chosen}
use Rattle.hwdb_ruleevents.specs.Parents.{Chosen}
use Rattle.hwdb_ruleevents.specs.Texts.{text_told}
use Rattle.hwdb_ruleevents.specs.Events.{Turn, turn}
use Rattle.hwdb_ruleevents.specs.Telling
use Rattle.hwdb_ruleevents.specs.Telling.{Tale, Told, Story, Ways}
use Rattle.hwdb_ruleevents.specs.Internal.{Progress, rest_of, lines_from, step, tried}

abbrev tale_with : List Told → Option Bool → List Change → Tale
tale_with told passed cs = record { told = told; passed = passed; changes = cs }

abbrev ways_with : Bool → List (List ℕ) → Ways
ways_with here waiting = record { here = here; waiting = waiting }

abbrev story_with : List Told → List Change → Chosen → Story
story_with told cs parent = record { told = told; changes = cs; parent = parent }

three : (a b c : Option Bool) → and_then (and_then a b) c ≡ and_then a (and_then b c)
three (Some true) b c = refl
three (Some false) b c = refl
three None (Some true) c = refl
three None (Some false) c = refl
three None None (Some true) = refl
three None None (Some false) = refl
three None None None = refl

before_both : (a b : List Told) (p q : Option Bool) (tale : Tale)
    → Telling.told_before a p (Telling.told_before b q tale) ≡ Telling.told_before (a ++ b) (and_then p q) tale
before_both a b p q tale =
    ap (λ (x : List Told). tale_with x (and_then p (and_then q tale.passed)) tale.changes) (sym (append_assoc a b tale.told))
    ∙ ap (λ (x : Option Bool). tale_with ((a ++ b) ++ tale.told) x tale.changes) (sym (three p q tale.passed))

abbrev passes_of : Knowledge → Tale → Token → Option Bool
passes_of k tale t = Telling.passes_told t (Telling.effect_told k tale.changes t)

go : (k : Knowledge) (sure : Bool) (n : Turn) (tale : Tale) (t : Token) (more : List Token) → Telling.is_no (passes_of k tale t) ≡ false
    → rest_of k (Telling.is_sure sure (passes_of k tale t)) n (Telling.run_in k sure n tale t) more ≡ rest_of k sure n tale (t ∷ more)
go k sure n tale t more f =
    let passes : Option Bool = passes_of k tale t in
    let after : List Change = tale.changes ++ by_sure sure (Telling.effect_told k tale.changes t).changes in
    let rest : Tale = Telling.tell_tokens k (Telling.is_sure sure passes) n after more in
    sym (ap (λ (x : Bool). Telling.told_before tale.told tale.passed (Telling.told_before (Telling.told_in k tale.changes sure n t) passes (if x then Telling.ended false after else rest))) f
    ∙ before_both tale.told (Telling.told_in k tale.changes sure n t) tale.passed passes rest)

-- one more token, after which the line goes on
pub goes_on : (k : Knowledge) (sure here next_sure ends : Bool) (n at : Turn) (tale next : Tale) (t : Token) (more : List Token) (passes : Option Bool)
    → at ≡ n → here ≡ sure → next ≡ Telling.run_in k here at tale t → passes ≡ Telling.passes_told t (Telling.effect_told k tale.changes t)
    → ends ≡ Telling.is_no passes → ends ≡ false → next_sure ≡ Telling.is_sure sure passes
    → rest_of k next_sure n next more ≡ rest_of k sure n tale (t ∷ more)
goes_on k sure here next_sure ends n at tale next t more passes a h d e f g s =
    ap (λ (x : Bool). rest_of k x n next more) (s ∙ ap (Telling.is_sure sure) e)
    ∙ ap (λ (x : Tale). rest_of k (Telling.is_sure sure (passes_of k tale t)) n x more)
    (d ∙ ap (λ (x : Turn). Telling.run_in k here x tale t) a ∙ ap (λ (x : Bool). Telling.run_in k x n tale t) h)
    ∙ go k sure n tale t more (sym (ap Telling.is_no e) ∙ sym f ∙ g)

is_false : (passes : Option Bool) → Telling.is_no passes ≡ true → passes ≡ Some false
is_false None h = absurd (cc)
is_false (Some true) h = absurd (cc)
is_false (Some false) h = refl

no_more : (a b : List Told) (p : Option Bool) (cs : List Change)
    → Telling.told_before a p (Telling.told_before b (Some false) (Telling.ended false cs))
    ≡ tale_with (a ++ b) (and_then p (Some false)) cs
no_more a b p cs =
    before_both a b p (Some false) (Telling.ended false cs)
    ∙ ap (λ (x : List Told). tale_with x (and_then (and_then p (Some false)) (Some false)) cs) (append-nil (a ++ b))
    ∙ ap (λ (x : Option Bool). tale_with (a ++ b) x cs) (three p (Some false) (Some false))

stop : (k : Knowledge) (sure : Bool) (n : Turn) (tale : Tale) (t : Token) (more : List Token) → Telling.is_no (passes_of k tale t) ≡ true
    → Telling.run_in k sure n tale t ≡ rest_of k sure n tale (t ∷ more)
stop k sure n tale t more f =
    let passes : Option Bool = passes_of k tale t in
    let after : List Change = tale.changes ++ by_sure sure (Telling.effect_told k tale.changes t).changes in
    let asks : List Told = Telling.told_in k tale.changes sure n t in
    let rest : Tale = Telling.tell_tokens k (Telling.is_sure sure passes) n after more in
    sym (ap (λ (x : Bool). Telling.told_before tale.told tale.passed (Telling.told_before asks passes (if x then Telling.ended false after else rest))) f
    ∙ ap (λ (x : Option Bool). Telling.told_before tale.told tale.passed (Telling.told_before asks x (Telling.ended false after))) (is_false passes f)
    ∙ no_more tale.told asks tale.passed after
    ∙ ap (λ (x : Option Bool). tale_with (tale.told ++ asks) (and_then tale.passed x) after) (sym (is_false passes f)))

-- one more token, after which it ends
pub stops : (k : Knowledge) (sure here ends : Bool) (n at : Turn) (tale next : Tale) (t : Token) (more : List Token) (passes : Option Bool)
    → at ≡ n → here ≡ sure → next ≡ Telling.run_in k here at tale t → passes ≡ Telling.passes_told t (Telling.effect_told k tale.changes t)
    → ends ≡ Telling.is_no passes → ends ≡ true → next ≡ rest_of k sure n tale (t ∷ more)
stops k sure here ends n at tale next t more passes a h d e f g =
    d
    ∙ ap (λ (x : Turn). Telling.run_in k here x tale t) a
    ∙ ap (λ (x : Bool). Telling.run_in k x n tale t) h
    ∙ stop k sure n tale t more (sym (ap Telling.is_no e) ∙ sym f ∙ g)

-- no token is left
pub no_token : (k : Knowledge) (sure : Bool) (n : Turn) (tale : Tale) → rest_of k sure n tale [] ≡ tale
no_token k sure n tale =
    ap (λ (x : List Told). tale_with x (and_then tale.passed (Some true)) tale.changes) (append-nil tale.told)
    ∙ ap (λ (x : Option Bool). tale_with tale.told x tale.changes) (passed tale.passed)
  where
    passed : (a : Option Bool) → and_then a (Some true) ≡ a
    passed None = refl
    passed (Some true) = refl
    passed (Some false) = refl

line_by : (k : Knowledge) (file n : ℕ) (p : Progress) (at : Ways) (l : RuleLine) (more : List RuleLine) (c : Bool)
    → lines_from k file (n + 1)
    (if c then tried k (is_none at.waiting) (turn file n) (record { story = p.story; ways = at }) l else record { story = p.story; ways = at }) more
    ≡ Telling.story_before p.story.told
    (if c
    then (let now = with_chosen k p.story.parent in
    let tale = Telling.tell_line now (is_none at.waiting) (turn file n) p.story.changes l in
    Telling.story_before tale.told
    (Telling.tell_lines (Telling.known_after (is_none at.waiting) now p.story.changes l) file (n + 1) tale.changes (Telling.jumped tale.passed l.goto at) more))
    else Telling.tell_lines (with_chosen k p.story.parent) file (n + 1) p.story.changes at more)
line_by k file n p at l more true =
    let now : Knowledge = with_chosen k p.story.parent in
    let tale : Tale = Telling.tell_line now (is_none at.waiting) (turn file n) p.story.changes l in
    let rest : Story =
    Telling.tell_lines (Telling.known_after (is_none at.waiting) now p.story.changes l) file (n + 1) tale.changes (Telling.jumped tale.passed l.goto at) more in
    ap (λ (x : List Told). story_with x rest.changes rest.parent) (append_assoc p.story.told tale.told rest.told)
line_by k file n p at l more false = refl

-- one more line
pub line_on : (k : Knowledge) (file n : ℕ) (p next : Progress) (l : RuleLine) (more : List RuleLine) → next ≡ step k (turn file n) p l
    → lines_from k file (n + 1) next more ≡ lines_from k file n p (l ∷ more)
line_on k file n p next l more e =
    ap (λ (x : Progress). lines_from k file (n + 1) x more) e
    ∙ line_by k file n p (Telling.arrived l.label p.ways) l more (Telling.arrived l.label p.ways).here

-- one more file
pub file_on : (k : Knowledge) (n : ℕ) (story next : Story) (lines : List RuleLine) (more : List (List RuleLine))
    → next ≡ Telling.story_before story.told (Telling.tell_lines (with_chosen k story.parent) n 0 story.changes Telling.start lines)
    → next.told ++ Telling.tell_files (with_chosen k next.parent) (n + 1) next.changes more
    ≡ story.told ++ Telling.tell_files (with_chosen k story.parent) n story.changes (lines ∷ more)
file_on k n story next lines more e =
    let ran : Story = Telling.tell_lines (with_chosen k story.parent) n 0 story.changes Telling.start lines in
    ap (λ (x : Story). x.told ++ Telling.tell_files (with_chosen k x.parent) (n + 1) x.changes more) e
    ∙ append_assoc story.told ran.told (Telling.tell_files (with_chosen k ran.parent) (n + 1) ran.changes more)

nobody_is : (names : List (List ℕ)) → list_any (is_word None) names ≡ false
nobody_is [] = refl
nobody_is (name ∷ more) = nobody_is more

all_wait : (names : List (List ℕ)) → filter (λ name. not (is_word None name)) names ≡ names
all_wait [] = refl
all_wait (name ∷ more) = ap (λ (l : List (List ℕ)). name ∷ l) (all_wait more)

-- no way arrives at a line without a label
pub nobody_arrives : (w : Ways) → w ≡ Telling.arrived None w
nobody_arrives w =
    sym (ap (λ (l : List (List ℕ)). ways_with (Telling.arrived None w).here l) (all_wait w.waiting)
    ∙ ap (λ (b : Bool). ways_with b w.waiting) (ap (λ (b : Bool). if w.here then true else b) (nobody_is w.waiting) ∙ here w.here))
  where
    here : (b : Bool) → (if b then true else false) ≡ b
    here true = refl
    here false = refl

-- whether no way waits
pub nobody_waits : (names : List (Bor (List ℕ))) → is_none (map text_of names) ≡ is_none names
nobody_waits [] = refl
nobody_waits (name ∷ more) = refl

-- a line that some way comes to is tried
pub step_on : (k : Knowledge) (n : Turn) (p next : Progress) (l : RuleLine) (at : Ways) (sure : Bool) → at ≡ Telling.arrived l.label p.ways → at.here ≡ true
    → sure ≡ is_none at.waiting → next ≡ tried k sure n (record { story = p.story; ways = at }) l → next ≡ step k n p l
step_on k n p next l at sure arrives here nobody tries =
    let came : Ways = Telling.arrived l.label p.ways in
    tries ∙ ap (λ (b : Bool). tried k b n (record { story = p.story; ways = at }) l) nobody
    ∙ ap (λ (a : Ways). tried k (is_none a.waiting) n (record { story = p.story; ways = a }) l) arrives
    ∙ sym (ap (λ (b : Bool). cond b (tried k (is_none came.waiting) n (record { story = p.story; ways = came }) l) (record { story = p.story; ways = came }))
    (sym (ap (λ (a : Ways). a.here) arrives) ∙ here))

-- the rest of a list begins with its member there
pub from_here : {X Y : Type 0} (f : X → Y) (xs : List X) (i : ℕ) (x : X) → i < length xs → x ≡ get_or xs i x → map f (drop i xs) ≡ f x ∷ map f (drop (i + 1) xs)
from_here f xs i x h is =
    let more : suc i ≡ i + 1 = omega arith in
    ap (map f) (drop-cons xs i x h) ∙ ap (λ y. f y ∷ map f (drop (suc i) xs)) (sym is) ∙ ap (λ (m : ℕ). f x ∷ map f (drop m xs)) more

same_there : {X : Type 0} (xs : List X) (i : ℕ) (x : X) → i < length xs → get_or xs i x ≡ get_or xs i (get_or xs i x)
same_there [] i x h = absurd (omega arith)
same_there (y ∷ xs) zero x h = refl
same_there (y ∷ xs) (suc i) x h = same_there xs i x (omega arith)

pub from_there : {X Y : Type 0} (f : X → Y) (xs : List X) (i : ℕ) (x : X) → i < length xs → map f (drop i xs) ≡ f (get_or xs i x) ∷ map f (drop (i + 1) xs)
from_there f xs i x h = from_here f xs i (get_or xs i x) h (same_there xs i x h)

effect_is : (k : Knowledge) (cs : List Change) (t : Token) (text : Option (List ℕ)) (effect : Effect) → text ≡ text_told k cs t
    → effect ≡ Telling.effect_by_text k cs t text → effect ≡ Telling.effect_told k cs t
effect_is k cs t text effect e f = f ∙ ap (Telling.effect_by_text k cs t) e

-- whether a token that was run is passed
pub run_passes : (k : Knowledge) (cs : List Change) (t : Token) (text : Option (List ℕ)) (effect : Effect) (passes : Option Bool) → text ≡ text_told k cs t
    → effect ≡ Telling.effect_by_text k cs t text → passes ≡ Telling.passes_told t effect → passes ≡ Telling.passes_told t (Telling.effect_told k cs t)
run_passes k cs t text effect passes e f g = g ∙ ap (Telling.passes_told t) (effect_is k cs t text effect e f)

-- a token that was run
pub run_tale : (k : Knowledge) (sure : Bool) (n : Turn) (old asked : Tale) (t : Token) (text : Option (List ℕ)) (effect : Effect) (passes passed : Option Bool)
    (changes : List Change) → text ≡ text_told k old.changes t → effect ≡ Telling.effect_by_text k old.changes t text → passes ≡ Telling.passes_told t effect
    → asked ≡ Telling.asked old (Telling.told_by_text old.changes text sure n t) → passed ≡ and_then asked.passed passes
    → changes ≡ asked.changes ++ by_sure sure effect.changes → tale_with asked.told passed changes ≡ Telling.run_in k sure n old t
run_tale k sure n old asked t text effect passes passed changes e f g h i j =
    let is = effect_is k old.changes t text effect e f in
    let told : asked.told ≡ old.told ++ Telling.told_in k old.changes sure n t =
    ap (λ (x : Tale). x.told) h ∙ ap (λ (x : Option (List ℕ)). old.told ++ Telling.told_by_text old.changes x sure n t) e in
    let through : passed ≡ and_then old.passed (Telling.passes_told t (Telling.effect_told k old.changes t)) =
    i ∙ ap (λ (x : Tale). and_then x.passed passes) h ∙ ap (and_then old.passed) (run_passes k old.changes t text effect passes e f g) in
    let after : changes ≡ old.changes ++ by_sure sure (Telling.effect_told k old.changes t).changes =
    j ∙ ap (λ (x : Tale). x.changes ++ by_sure sure effect.changes) h ∙ ap (λ (x : Effect). old.changes ++ by_sure sure x.changes) is in
    ap (λ (x : List Told). tale_with x passed changes) told
    ∙ ap (λ (x : Option Bool). tale_with (old.told ++ Telling.told_in k old.changes sure n t) x changes) through
    ∙ ap (λ (x : List Change). tale_with (old.told ++ Telling.told_in k old.changes sure n t)
    (and_then old.passed (Telling.passes_told t (Telling.effect_told k old.changes t))) x) after
