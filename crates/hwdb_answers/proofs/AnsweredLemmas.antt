-- Which lines of standard input were answered so far, and what ends it.
use Rattle.std.proofs.Common.{◌≡◌, ◌∙◌, ◌⊎◌, ◌+◌, ◌-◌, ◌<◌, ◌≤◌, ◌==◌, ℕ, zero, suc, Bool, true, false, refl, ap, sym, subst, arith, inl, inr, List, [], ◌∷◌, ◌++◌, append_assoc, append-nil, length, length-append, take, Option, None, Some, IfSome, Result, Ok, Err, IfErr, if◌then◌else◌, eq-eqb, ne_eqb, lt-ltb, le-ltb}
use Rattle.std.proofs.KnownBytes.{Appends-nil, Appends-trans, prepend_known-nil}
use Rattle.std.proofs.Math.Seq.{take-append-add}
use Rattle.std.proofs.lemmas.List.Concat.{flat_map-append}
use Rattle.std.specs.Io.KnownBytes.{Appends, IsAtEnd, prepend_known}
use Rattle.std.specs.List.{position_or_len}
use Rattle.std.specs.Prelude.{Any}
use Rattle.std.specs.Result.{IsErrAnd}
use Rattle.hwdb_spec.specs.declared.errors.ReadError.{ReadError}
use Rattle.hwdb_spec.specs.declared.errors.ReadError.TheVariants as reading
use Rattle.hwdb_spec.specs.Lines.{is}
use Rattle.hwdb_spec_commands.specs.ManyDevices.{HasLongLine}
use Rattle.hwdb_spec.specs.Outputs.{AppendsPrefix, Wrote, WrotePrefix}
use Rattle.hwdb_spec.specs.Texts.{devices_of, max_file}
use Rattle.hwdb_spec.specs.Tree.{Tree}
use Rattle.hwdb_spec_commands.specs.AnsweredLines.{IsLineError, IsPrintedBefore, answered_lines, before_long, end_after, is_long, line_error, most_devices}
use Rattle.hwdb_answers.specs.Internal.{answer_text, texts_from}
use Rattle.hwdb_spec.specs.Errors.{refusal_of_read}
use Rattle.hwdb_answers.specs.Streams.{IsFirstLine}
use Rattle.hwdb_spec_commands.specs.Streams.{texts_of}
use Rattle.hwdb_spec.specs.declared.errors.ToolError.{ToolError}
use Rattle.hwdb_spec.specs.declared.errors.ToolError.TheVariants.{BadDatabase, BadPosition, Memory, Read, Replace, TooLarge, TooLong, TooManyFiles, TooManyLines, Write}
use Rattle.hwdb_spec_commands.specs.declared.form.Form.{Form}
use Rattle.hwdb_answers.proofs.LineLemmas.{IsFirstLong, first_long, long_behind, long_line, no_lines}
use Rattle.hwdb_answers.proofs.StreamLemmas.{next_text, no_text}
use Rattle.hwdb_answers.proofs.TextLemmas.{part_text, part_texts}

-- none of some lines is too long
abbrev pub AreShort : List (List ℕ) → Type 0
AreShort [] = Unit {0}
AreShort (line ∷ more) = (is_long line ≡ false) × AreShort more

short_more : (done : List (List ℕ)) (line : List ℕ) → AreShort done → is_long line ≡ false → AreShort (done ++ line ∷ [])
short_more [] line short one = (one, tt)
short_more (d ∷ done) line short one = (short.0, short_more done line short.1 one)

abbrev is_none : List (List ℕ) → Bool
is_none [] = true
is_none (line ∷ more) = false

some_more : (done : List (List ℕ)) (line : List ℕ) → false ≡ is_none (done ++ line ∷ [])
some_more [] line = refl
some_more (d ∷ done) line = refl

-- the lines before a long one, after others that aren't
before_all : (done rest : List (List ℕ)) → AreShort done → before_long (done ++ rest) ≡ done ++ before_long rest
unfolding before_long
before_all [] rest short = refl
before_all (d ∷ done) rest short =
    ap (λ (b : Bool). if b then [] else d ∷ before_long (done ++ rest)) short.0
    ∙ ap (λ (l : List (List ℕ)). d ∷ l) (before_all done rest short.1)

answered_past : (done rest : List (List ℕ)) (k : ℕ) → AreShort done → length done + k ≡ most_devices → answered_lines (done ++ rest) ≡ done ++ take k (before_long rest)
answered_past done rest k short all =
    ap (λ (l : List (List ℕ)). take most_devices l) (before_all done rest short)
    ∙ ap (λ (n : ℕ). take n (done ++ before_long rest)) (sym all)
    ∙ take-append-add done (before_long rest) k

abbrev nothing : List (List ℕ)
nothing = []

take_none : (k : ℕ) → take k nothing ≡ nothing
take_none zero = refl
take_none (suc k) = refl

take_zero : (l : List (List ℕ)) → take 0 l ≡ []
take_zero [] = refl
take_zero (x ∷ l) = refl

no_long : before_long [] ≡ []
unfolding before_long
no_long = refl

long_first : (line : List ℕ) (more : List (List ℕ)) → is_long line ≡ true → before_long (line ∷ more) ≡ []
unfolding before_long
long_first line more long = ap (λ (b : Bool). if b then [] else line ∷ before_long more) long

short_first : (line : List ℕ) (more : List (List ℕ)) → is_long line ≡ false → before_long (line ∷ more) ≡ line ∷ before_long more
unfolding before_long
short_first line more short = ap (λ (b : Bool). if b then [] else line ∷ before_long more) short

still_few : (a b limit : ℕ) → a < limit → b ≡ a → b < limit
still_few a b limit few same = omega (arith, few, same)

more_left : (a b c d e : ℕ) → a ≡ e → 0 < c → b ≡ d → d ≡ e + c → a < b
more_left a b c d e is some whole parts = omega (arith, is, some, whole, parts)

-- what ends it
end_none : (n m : ℕ) → n < most_devices → n ≡ m → end_after n m ≡ None
end_none n m few same =
    ap (λ (b : Bool). if b then Some TooManyLines else (if n == m then None else Some TooLong)) (ne_eqb n most_devices (λ e. omega (arith, few, e)))
    ∙ ap (λ (b : Bool). if b then None else Some TooLong) (eq-eqb n m same)

end_long : (n m : ℕ) → n < most_devices → n < m → end_after n m ≡ Some TooLong
end_long n m few less =
    ap (λ (b : Bool). if b then Some TooManyLines else (if n == m then None else Some TooLong)) (ne_eqb n most_devices (λ e. omega (arith, few, e)))
    ∙ ap (λ (b : Bool). if b then None else Some TooLong) (ne_eqb n m (λ e. omega (arith, less, e)))

end_many : (n m : ℕ) → n ≡ most_devices → end_after n m ≡ Some TooManyLines
end_many n m all = ap (λ (b : Bool). if b then Some TooManyLines else (if n == m then None else Some TooLong)) (eq-eqb n most_devices all)

-- texts of some lines, and of those after them
split_texts : (form : Form) (is_first : Bool) (t : Tree) (done more : List (List ℕ)) → is_first ≡ is_none done
    → texts_of form (done ++ more) t ≡ texts_of form done t ++ texts_from form is_first more t
split_texts form is_first t [] more first =
    ap (λ (b : Bool). texts_from form b more t) (sym first)
    ∙ ap (λ (l : List ℕ). l ++ texts_from form is_first more t) (sym (no_text form true t))
split_texts form is_first t (d ∷ done) more first =
    next_text form true t d (done ++ more)
    ∙ ap (λ (l : List ℕ). answer_text form true d t ++ l) (flat_map-append (λ device. answer_text form false device t) done more)
    ∙ sym (append_assoc (answer_text form true d t) (texts_from form false done t) (texts_from form false more t))
    ∙ ap (λ (l : List ℕ). l ++ texts_from form false more t) (sym (next_text form true t d done))
    ∙ ap (λ (b : Bool). texts_of form (d ∷ done) t ++ texts_from form b more t) (sym first)

-- so many lines were answered, each whole, and these are left
pub record AreAnswered (form : Form) (t : Tree) (count : ℕ) (is_first : Bool) (all rest : List (List ℕ)) (u v : Option (List ℕ)) : Type 0 where
  pub done : List (List ℕ)
  pub cut : all ≡ done ++ rest
  pub short : AreShort done
  pub counted : length done ≡ count
  pub first : is_first ≡ is_none done
  pub wrote : Appends u v (texts_of form done t)

-- the same, if the lines are told
abbrev pub AreAnsweredOf : (form : Form) (t : Tree) (count : ℕ) (is_first : Bool) (a b u v : Option (List ℕ)) → Type 0
AreAnsweredOf form t count is_first None b u v = Unit {0}
AreAnsweredOf form t count is_first (Some x) None u v = ⊥
AreAnsweredOf form t count is_first (Some x) (Some y) u v = AreAnswered form t count is_first (devices_of x) (devices_of y) u v

module _ (form : Form) (t : Tree) where
  none_yet : (a u : Option (List ℕ)) → AreAnsweredOf form t 0 true a a u u
  none_yet None u = tt
  none_yet (Some x) u = record {
    done = [];
    cut = refl;
    short = tt;
    counted = refl;
    first = refl;
    wrote = subst (λ (l : List ℕ). Appends u u l) (sym (no_text form true t)) (Appends-nil u);
  }

  pub at_start : (held : List ℕ) (left u : Option (List ℕ)) → held ≡ [] → AreAnsweredOf form t 0 true left (prepend_known held left) u u
  at_start held left u none =
      subst (λ (o : Option (List ℕ)). AreAnsweredOf form t 0 true left o u u)
      (sym (ap (λ (l : List ℕ). prepend_known l left) none ∙ prepend_known-nil left)) (none_yet left u)

  module _ (count : ℕ) (is_first : Bool) where
    -- one more line
    pub one_more : (a b c u v w : Option (List ℕ)) (line text : List ℕ) → IsFirstLine line b c → length line ≤ max_file → text ≡ answer_text form is_first line t → Appends v w text
        → AreAnsweredOf form t count is_first a b u v → AreAnsweredOf form t (count + 1) false a c u w
    one_more None b c u v w line text next fits is took so_far = tt
    one_more (Some x) None c u v w line text next fits is took so_far = absurd so_far
    one_more (Some x) (Some y) None u v w line text next fits is took so_far = absurd next
    one_more (Some x) (Some y) (Some z) u v w line text next fits is took so_far =
        let done = so_far.done in
        let alone : texts_from form is_first (line ∷ []) t ≡ text =
        next_text form is_first t line [] ∙ ap (λ (l : List ℕ). answer_text form is_first line t ++ l) (no_text form false t) ∙ append-nil (answer_text form is_first line t) ∙ sym is in
        record {
          done = done ++ line ∷ [];
          cut = so_far.cut ∙ ap (λ (l : List (List ℕ)). done ++ l) next.0 ∙ sym (append_assoc done (line ∷ []) (devices_of z));
          short = short_more done line so_far.short (le-ltb max_file (length line) fits);
          counted = omega (arith, length-append done (line ∷ []), so_far.counted);
          first = some_more done line;
          wrote = subst (λ (l : List ℕ). Appends u w l)
              (sym (split_texts form is_first t done (line ∷ []) so_far.first ∙ ap (λ (l : List ℕ). texts_of form done t ++ l) alone))
              (Appends-trans u v w (texts_of form done t) text so_far.wrote took);
        }

    module _ (all rest : List (List ℕ)) (u v : Option (List ℕ)) (so_far : AreAnswered form t count is_first all rest u v) where
      abbrev done : List (List ℕ)
      done = so_far.done

      then_answered : (k : ℕ) → count + k ≡ most_devices → answered_lines all ≡ done ++ take k (before_long rest)
      then_answered k whole = ap answered_lines so_far.cut ∙ answered_past done rest k so_far.short (ap (λ (n : ℕ). n + k) so_far.counted ∙ whole)

      no_more_answered : count < most_devices → before_long rest ≡ [] → answered_lines all ≡ done
      no_more_answered few none =
          let k = most_devices - count in
          then_answered k (omega (arith, few)) ∙ ap (λ (l : List (List ℕ)). done ++ take k l) none ∙ ap (λ (l : List (List ℕ)). done ++ l) (take_none k) ∙ append-nil done

      length_done : (lines : List (List ℕ)) → lines ≡ done → length lines ≡ count
      length_done lines is = ap length is ∙ so_far.counted

      -- all were answered
      all_done : rest ≡ [] → all ≡ done
      all_done none = so_far.cut ∙ ap (λ (l : List (List ℕ)). done ++ l) none ∙ append-nil done

      at_the_end : count < most_devices → rest ≡ [] → line_error all ≡ None
      at_the_end few none =
          let n = length_done (answered_lines all) (no_more_answered few (ap before_long none ∙ no_long)) in
          end_none (length (answered_lines all)) (length all) (still_few count (length (answered_lines all)) most_devices few n) (n ∙ sym (length_done all (all_done none)))

      all_written : rest ≡ [] → Appends u v (texts_of form all t)
      all_written none = subst (λ (l : List (List ℕ)). Appends u v (texts_of form l t)) (sym (all_done none)) so_far.wrote

      -- the next line is too long
      nothing_before : IsFirstLong max_file rest → before_long rest ≡ []
      nothing_before long = by rest long
        where
          by : (ls : List (List ℕ)) → IsFirstLong max_file ls → before_long ls ≡ []
          by [] first = absurd first
          by (l ∷ ls) first = long_first l ls (lt-ltb max_file (length l) first)

      some_rest : IsFirstLong max_file rest → 0 < length rest
      some_rest long = by rest long
        where
          by : (ls : List (List ℕ)) → IsFirstLong max_file ls → 0 < length ls
          by [] first = absurd first
          by (l ∷ ls) first = omega arith

      at_a_long_one : count < most_devices → IsFirstLong max_file rest → line_error all ≡ Some TooLong
      at_a_long_one few long =
          let n = length_done (answered_lines all) (no_more_answered few (nothing_before long)) in
          end_long (length (answered_lines all)) (length all) (still_few count (length (answered_lines all)) most_devices few n)
          (more_left (length (answered_lines all)) (length all) (length rest) (length (done ++ rest)) count n (some_rest long) (ap length so_far.cut)
          (length-append done rest ∙ ap (λ (k : ℕ). k + length rest) so_far.counted))

      -- as many as may be were answered
      at_the_most : count ≡ most_devices → answered_lines all ≡ done
      at_the_most most = then_answered 0 (omega (arith, most)) ∙ ap (λ (l : List (List ℕ)). done ++ l) (take_zero (before_long rest)) ∙ append-nil done

      at_too_many : count ≡ most_devices → line_error all ≡ Some TooManyLines
      at_too_many most = end_many (length (answered_lines all)) (length all) (length_done (answered_lines all) (at_the_most most) ∙ most)

      -- what was printed then
      module _ (Is : List (List ℕ) → List ℕ → Type 0) (are : (lines : List (List ℕ)) → Is lines (texts_of form lines t)) where
        wrote_all : (lines : List (List ℕ)) → lines ≡ done → Wrote (Is lines) u v
        wrote_all lines is = record { text = texts_of form lines t; is = are lines; taken = subst (λ (l : List (List ℕ)). Appends u v (texts_of form l t)) (sym is) so_far.wrote }

        wrote_some : count < most_devices → (n : ℕ) × Wrote (Is (take n (answered_lines all))) u v
        wrote_some few =
            let k = most_devices - count in
            let l = take k (before_long rest) in
            let cut : take count (answered_lines all) ≡ done =
            ap (take count) (then_answered k (omega (arith, few)))
            ∙ ap (λ (n : ℕ). take n (done ++ l)) (let e : count ≡ length done + 0 = omega (arith, so_far.counted) in e)
            ∙ take-append-add done l 0 ∙ ap (λ (r : List (List ℕ)). done ++ r) (take_zero l) ∙ append-nil done in
            (count, wrote_all (take count (answered_lines all)) cut)

        wrote_part : (w : Option (List ℕ)) (line text : List ℕ) (more : List (List ℕ)) → count < most_devices → rest ≡ line ∷ more → length line ≤ max_file → text ≡ answer_text form is_first line t → AppendsPrefix v w text
            → WrotePrefix (Is (answered_lines all)) u w
        wrote_part w line text more few next fits is took =
            let k = most_devices - (count + 1) in
            let after = take k (before_long more) in
            let cut : answered_lines all ≡ done ++ line ∷ after =
            then_answered (suc k) (omega (arith, few))
            ∙ ap (λ (l : List (List ℕ)). done ++ take (suc k) l) (ap before_long next ∙ short_first line more (le-ltb max_file (length line) fits)) in
            let texts : texts_of form (answered_lines all) t ≡ texts_of form done t ++ (text ++ texts_from form false after t) =
            ap (λ (ls : List (List ℕ)). texts_of form ls t) cut ∙ split_texts form is_first t done (line ∷ after) so_far.first
            ∙ ap (λ (l : List ℕ). texts_of form done t ++ l) (next_text form is_first t line after ∙ ap (λ (l : List ℕ). l ++ texts_from form false after t) (sym is)) in
            record {
              text = texts_of form (answered_lines all) t;
              is = are (answered_lines all);
              taken = part_texts u v w (texts_of form done t) (text ++ texts_from form false after t) (texts_of form (answered_lines all) t) texts so_far.wrote
                  (part_text v w text (texts_from form false after t) (text ++ texts_from form false after t) refl took);
            }

        -- before an error of reading a line
        before_unread : (q : ReadError) → count < most_devices → (q ≡ reading.TooLong → IsFirstLong max_file rest) → IsPrintedBefore (refusal_of_read q) Is all u v
        before_unread reading.Failed few long = inr (wrote_some few)
        before_unread reading.Memory few long = inr (wrote_some few)
        before_unread reading.TooLong few long = wrote_all (answered_lines all) (no_more_answered few (nothing_before (long refl)))

      line_unread : (q : ReadError) → count < most_devices → (q ≡ reading.TooLong → IsFirstLong max_file rest) → IsLineError (refusal_of_read q) (line_error all)
      line_unread reading.Failed few long = tt
      line_unread reading.Memory few long = tt
      line_unread reading.TooLong few long = at_a_long_one few (long refl)

      any_later : (ls : List (List ℕ)) → Any (λ (l : List ℕ). max_file < length l) rest → Any (λ (l : List ℕ). max_file < length l) (ls ++ rest)
      any_later [] a = a
      any_later (l ∷ ls) a = long_behind max_file l (ls ++ rest) (any_later ls a)

      long_of_all : Any (λ (l : List ℕ). max_file < length l) rest → Any (λ (l : List ℕ). max_file < length l) all
      long_of_all a = subst (λ (ls : List (List ℕ)). Any (λ (l : List ℕ). max_file < length l) ls) (sym so_far.cut) (any_later done a)

    -- ---- if the lines are told
    abbrev SoFar : (a b u v : Option (List ℕ)) → Type 0
    SoFar a b u v = AreAnsweredOf form t count is_first a b u v

    abbrev Starts : Option (List ℕ) → Type 0
    Starts b = IfSome b (λ xs. max_file < position_or_len (is 10) xs)

    pub told_all : (a b u v : Option (List ℕ)) → count < most_devices → IsAtEnd b → SoFar a b u v → IfSome a (λ xs. line_error (devices_of xs) ≡ None)
    told_all None b u v few ends so_far = tt
    told_all (Some x) None u v few ends so_far = absurd so_far
    told_all (Some x) (Some y) u v few ends so_far = at_the_end (devices_of x) (devices_of y) u v so_far few (ap devices_of ends ∙ no_lines)

    pub told_whole : (a b u v : Option (List ℕ)) → IsAtEnd b → SoFar a b u v → IfSome a (λ xs. Appends u v (texts_of form (devices_of xs) t))
    told_whole None b u v ends so_far = tt
    told_whole (Some x) None u v ends so_far = absurd so_far
    told_whole (Some x) (Some y) u v ends so_far = all_written (devices_of x) (devices_of y) u v so_far (ap devices_of ends ∙ no_lines)

    pub told_long : (a b u v : Option (List ℕ)) → Starts b → SoFar a b u v → IfSome a (HasLongLine max_file)
    told_long None b u v long so_far = tt
    told_long (Some x) None u v long so_far = absurd so_far
    told_long (Some x) (Some y) u v long so_far = long_of_all (devices_of x) (devices_of y) u v so_far (long_line max_file y long)

    pub told_line : (a b u v : Option (List ℕ)) (q : ReadError) → count < most_devices → (q ≡ reading.TooLong → Starts b) → SoFar a b u v
        → IfSome a (λ xs. IsLineError (refusal_of_read q) (line_error (devices_of xs)))
    told_line None b u v q few long so_far = tt
    told_line (Some x) None u v q few long so_far = absurd so_far
    told_line (Some x) (Some y) u v q few long so_far = line_unread (devices_of x) (devices_of y) u v so_far q few (λ e. first_long y max_file (long e))

    pub told_many : (a b u v : Option (List ℕ)) → count ≡ most_devices → SoFar a b u v → IfSome a (λ xs. line_error (devices_of xs) ≡ Some TooManyLines)
    told_many None b u v most so_far = tt
    told_many (Some x) None u v most so_far = absurd so_far
    told_many (Some x) (Some y) u v most so_far = at_too_many (devices_of x) (devices_of y) u v so_far most

    module _ (Is : List (List ℕ) → List ℕ → Type 0) (are : (lines : List (List ℕ)) → Is lines (texts_of form lines t)) where
      abbrev Before : ToolError → (a u v : Option (List ℕ)) → Type 0
      Before error a u v = IfSome a (λ xs. IsPrintedBefore error Is (devices_of xs) u v)

      pub unread_before : (a b u v : Option (List ℕ)) (q : ReadError) → count < most_devices → (q ≡ reading.TooLong → Starts b) → SoFar a b u v → Before (refusal_of_read q) a u v
      unread_before None b u v q few long so_far = tt
      unread_before (Some x) None u v q few long so_far = absurd so_far
      unread_before (Some x) (Some y) u v q few long so_far = before_unread (devices_of x) (devices_of y) u v so_far Is are q few (λ e. first_long y max_file (long e))

      pub memory_before : (a b u v : Option (List ℕ)) → count < most_devices → SoFar a b u v → Before Memory a u v
      memory_before None b u v few so_far = tt
      memory_before (Some x) None u v few so_far = absurd so_far
      memory_before (Some x) (Some y) u v few so_far = inr (wrote_some (devices_of x) (devices_of y) u v so_far Is are few)

      pub many_before : (a b u v : Option (List ℕ)) → count ≡ most_devices → SoFar a b u v → Before TooManyLines a u v
      many_before None b u v most so_far = tt
      many_before (Some x) None u v most so_far = absurd so_far
      many_before (Some x) (Some y) u v most so_far = wrote_all (devices_of x) (devices_of y) u v so_far Is are (answered_lines (devices_of x)) (at_the_most (devices_of x) (devices_of y) u v so_far most)

      pub write_before : (a b c u v w : Option (List ℕ)) (line text : List ℕ) → count < most_devices → IsFirstLine line b c → length line ≤ max_file → text ≡ answer_text form is_first line t → AppendsPrefix v w text → SoFar a b u v → Before Write a u w
      write_before None b c u v w line text few next fits is took so_far = tt
      write_before (Some x) None c u v w line text few next fits is took so_far = absurd so_far
      write_before (Some x) (Some y) None u v w line text few next fits is took so_far = absurd next
      write_before (Some x) (Some y) (Some z) u v w line text few next fits is took so_far =
          wrote_part (devices_of x) (devices_of y) u v so_far Is are w line text (devices_of z) few next.0 fits is took

-- what holds of an error that is handed on
pub handed_on : {T E : Type 0} (r : Result T E) (e : E) (P : E → Type 0) → IsErrAnd r (λ x. x ≡ e) → P e → IfErr r P
handed_on (Ok x) e P h p = tt
handed_on (Err x) e P h p = subst P (sym h) p

-- before any error, in other words
pub before_weaker : (Is Js : List (List ℕ) → List ℕ → Type 0) → ((lines : List (List ℕ)) (text : List ℕ) → Is lines text → Js lines text)
    → (error : ToolError) (lines : List (List ℕ)) (u v : Option (List ℕ)) → IsPrintedBefore error Is lines u v → IsPrintedBefore error Js lines u v
before_weaker Is Js f error lines u v h = by error h
  where
    whole : (ls : List (List ℕ)) → Wrote (Is ls) u v → Wrote (Js ls) u v
    whole ls wrote = record { text = wrote.text; is = f ls wrote.text wrote.is; taken = wrote.taken }

    part : (ls : List (List ℕ)) → WrotePrefix (Is ls) u v → WrotePrefix (Js ls) u v
    part ls wrote = record { text = wrote.text; is = f ls wrote.text wrote.is; taken = wrote.taken }

    some : (v ≡ u) ⊎ ((n : ℕ) × Wrote (Is (take n (answered_lines lines))) u v) → (v ≡ u) ⊎ ((n : ℕ) × Wrote (Js (take n (answered_lines lines))) u v)
    some (inl none) = inl none
    some (inr wrote) = inr (wrote.0, whole (take wrote.0 (answered_lines lines)) wrote.1)

    by : (e : ToolError) → IsPrintedBefore e Is lines u v → IsPrintedBefore e Js lines u v
    by (BadDatabase fault) kept = kept
    by TooLong wrote = whole (answered_lines lines) wrote
    by TooManyLines wrote = whole (answered_lines lines) wrote
    by Write wrote = part (answered_lines lines) wrote
    by Read wrote = some wrote
    by Memory wrote = some wrote
    by TooManyFiles wrote = some wrote
    by TooLarge wrote = some wrote
    by BadPosition wrote = some wrote
    by (Replace unreplaced) wrote = some wrote

-- the same of an answer, if the lines are told
pub told_before : {T : Type 0} (Is Js : List (List ℕ) → List ℕ → Type 0) → ((lines : List (List ℕ)) (text : List ℕ) → Is lines text → Js lines text)
    → (r : Result T ToolError) (a u v : Option (List ℕ)) → IfErr r (λ e. IfSome a (λ xs. IsPrintedBefore e Is (devices_of xs) u v)) → IfErr r (λ e. IfSome a (λ xs. IsPrintedBefore e Js (devices_of xs) u v))
told_before Is Js f (Ok x) a u v h = tt
told_before Is Js f (Err e) None u v h = tt
told_before Is Js f (Err e) (Some xs) u v h = before_weaker Is Js f e (devices_of xs) u v h
