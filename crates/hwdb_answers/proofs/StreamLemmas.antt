-- Answers that are written, one after another.
use Rattle.std.proofs.Common.{◌≡◌, ◌∙◌, ℕ, Bool, true, false, refl, ap, sym, subst, arith, inr, List, [], ◌∷◌, ◌++◌, append_assoc, append-nil, map, length, Option, None, Some, IfSome, IfNone}
use Rattle.std.specs.Prelude.{flat_map}
use Rattle.hwdb_spec.specs.Folders.{Source, all_assignments}
use Rattle.hwdb_spec.specs.Assignment.{Assignment}
use Rattle.hwdb_spec.specs.Answers.{effective_of, last_assignments}
use Rattle.hwdb_spec.specs.Flushing.{HandsOn}
use Rattle.hwdb_spec.specs.Explanations.{explain_text, explained, explained_text, explanations_text}
use Rattle.hwdb_spec_commands.specs.Json.{device_json, explain_json, explained_json, explanations_json, json_line}
use Rattle.hwdb_spec.specs.Lines.{is}
use Rattle.hwdb_spec.specs.Texts.{empty_line, last_values_text, properties_text, query_text, with_empty_lines}
use Rattle.hwdb_spec.specs.Tree.{Tree, answers}
use Rattle.hwdb_answers.proofs.TextLemmas.{same_lines, same_texts}
use Rattle.hwdb_spec_commands.specs.declared.form.Form.{Form}
use Rattle.hwdb_spec_commands.specs.declared.form.Form.TheVariants.{Explain, Query}
use Rattle.hwdb_answers.specs.Internal.{IsHeard, answer_text, texts_from}
use Rattle.hwdb_spec_commands.specs.Streams.{last_texts_of, texts_of}

-- what is after a text
behind : (text : List ℕ → List ℕ) (more : List (List ℕ)) → empty_line (map text more) ++ with_empty_lines (map text more) ≡ flat_map (λ device. 10 ∷ text device) more
unfolding with_empty_lines
behind text [] = refl
behind text (d ∷ more) = ap (λ (l : List ℕ). 10 ∷ (text d ++ l)) (behind text more)

-- the first text, and those after it
pub next_text : (form : Form) (is_first : Bool) (t : Tree) (device : List ℕ) (more : List (List ℕ)) → texts_from form is_first (device ∷ more) t ≡ answer_text form is_first device t ++ texts_from form false more t
unfolding with_empty_lines
next_text (Query true) true t device more = refl
next_text (Query true) false t device more = refl
next_text (Query false) true t device more = ap (λ (l : List ℕ). query_text device t ++ l) (behind (λ d. query_text d t) more)
next_text (Query false) false t device more = refl
next_text (Explain true) true t device more = refl
next_text (Explain true) false t device more = refl
next_text (Explain false) true t device more = ap (λ (l : List ℕ). explain_text device t ++ l) (behind (λ d. explain_text d t) more)
next_text (Explain false) false t device more = refl

pub no_text : (form : Form) (is_first : Bool) (t : Tree) → texts_from form is_first [] t ≡ []
unfolding with_empty_lines
no_text (Query true) true t = refl
no_text (Query true) false t = refl
no_text (Query false) true t = refl
no_text (Query false) false t = refl
no_text (Explain true) true t = refl
no_text (Explain true) false t = refl
no_text (Explain false) true t = refl
no_text (Explain false) false t = refl

-- texts of devices were put together, and one more
pub texts_step : (form : Form) (is_first : Bool) (t : Tree) (done text device whole : List ℕ) (all more : List (List ℕ)) → all ≡ device ∷ more → text ≡ answer_text form is_first device t
    → done ++ texts_from form is_first all t ≡ whole → (done ++ text) ++ texts_from form false more t ≡ whole
texts_step form is_first t done text device whole all more cut is so_far =
    append_assoc done text (texts_from form false more t)
    ∙ ap (λ (l : List ℕ). done ++ l)
    (ap (λ (l : List ℕ). l ++ texts_from form false more t) is ∙ sym (next_text form is_first t device more) ∙ ap (λ (ds : List (List ℕ)). texts_from form is_first ds t) (sym cut))
    ∙ so_far

-- and none is left
pub texts_end : (form : Form) (is_first : Bool) (t : Tree) (done whole : List ℕ) (all : List (List ℕ)) → all ≡ [] → done ++ texts_from form is_first all t ≡ whole → done ≡ whole
texts_end form is_first t done whole all none so_far =
    sym (append-nil done) ∙ ap (λ (l : List ℕ). done ++ l) (sym (ap (λ (ds : List (List ℕ)). texts_from form is_first ds t) none ∙ no_text form is_first t)) ∙ so_far

pub no_device : {X : Type 0} (f : X → List ℕ) (devices : List X) → length devices ≡ 0 → map f devices ≡ []
no_device f [] none = refl
no_device f (d ∷ devices) none = absurd (omega (arith, none))

-- what `query` prints of one device
pub one_queried : (device : List ℕ) (t : Tree) → texts_of (Query false) (device ∷ []) t ≡ query_text device t
unfolding with_empty_lines
one_queried device t = append-nil (query_text device t)

pub one_value : (device : List ℕ) (etc usr : List Source) → last_texts_of (Query false) (device ∷ []) etc usr ≡ last_values_text device etc usr
unfolding with_empty_lines
one_value device etc usr = append-nil (last_values_text device etc usr)

-- one device alone
pub one_text : (form : Form) (t : Tree) (device : List ℕ) → answer_text form true device t ≡ texts_of form (device ∷ []) t
one_text form t device =
    sym (next_text form true t device [] ∙ ap (λ (l : List ℕ). answer_text form true device t ++ l) (no_text form false t) ∙ append-nil (answer_text form true device t))

-- what the database's tree gives is what the files' last assignments give
pub same_answers : (form : Form) (devices : List (List ℕ)) (etc usr : List Source) (t : Tree) → ((device : List ℕ) → answers device t ≡ last_assignments device None (all_assignments etc usr))
    → texts_of form devices t ≡ last_texts_of form devices etc usr
same_answers (Query false) devices etc usr t last =
    same_texts (λ d. query_text d t) (λ d. last_values_text d etc usr) (λ d. ap (λ (a : List Assignment). properties_text (effective_of a)) (last d)) devices
same_answers (Query true) devices etc usr t last =
    same_lines (λ d. json_line (device_json d (effective_of (answers d t)))) (λ d. json_line (device_json d (effective_of (last_assignments d None (all_assignments etc usr)))))
    (λ d. ap (λ (a : List Assignment). json_line (device_json d (effective_of a))) (last d)) devices
same_answers (Explain false) devices etc usr t last =
    same_texts (λ d. explain_text d t) (λ d. explained_text d etc usr) (λ d. ap (λ (a : List Assignment). explanations_text (explained a)) (last d)) devices
same_answers (Explain true) devices etc usr t last =
    same_lines (λ d. explain_json d t) (λ d. explained_json d etc usr) (λ d. ap (λ (a : List Assignment). explanations_json d (explained a)) (last d)) devices

-- what follows if the bytes are told
pub some_weaker : (o : Option (List ℕ)) (P Q : List ℕ → Type 0) → ((x : List ℕ) → P x → Q x) → IfSome o P → IfSome o Q
some_weaker None P Q f h = tt
some_weaker (Some x) P Q f h = f x h

pub some_of : {X : Type 0} (o : Option X) (x : X) (P : X → Type 0) → o ≡ Some x → IfSome o P → P x
some_of {X} o x P is h = let Q : Option X → Type 0 = λ q. IfSome q P in subst Q is h

pub none_of : {X : Type 0} (o : Option X) (P : Type 0) → ((x : X) → o ≡ Some x → ⊥) → IfNone o P → P
none_of None P other h = h
none_of (Some x) P other h = absurd (other x refl)

-- what lines leave that an output took, or of which the last failed
pub heard : (is_heard : Bool) (flushed_before flushed_now : Type 0) (failures_before failures_now : ℕ) → IsHeard is_heard flushed_before flushed_now failures_before failures_now → HandsOn flushed_before flushed_now failures_before failures_now
heard true flushed_before flushed_now failures_before failures_now h = inr h
heard false flushed_before flushed_now failures_before failures_now h = h
